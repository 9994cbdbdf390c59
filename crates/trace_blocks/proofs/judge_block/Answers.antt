-- `trace_blocks::judge_block` meets its contract: each answer by the test that decides. Assumes nothing.
use Prim.Native.Nat.{ℕ, ◌+◌, ◌-◌, ◌*◌, ◌/◌, ◌%◌, ◌≤◌}
use Rattle.std.specs.Prelude.{Some}
use mathlib.Core.Bool.{true}
use mathlib.Core.Path.{◌≡◌, sym, ap, ◌∙◌}
use native.Mathlib.Omega.{arith}
use lib.ListN.{length}
use borrow.Author.Tests.{eq-eqb, ne_eqb}
use Rattle.rules.specs.Ends.{nil, ◌&◌}
use Rattle.trace_blocks.specs.Blocks.{block_bytes, word_limit, is_kind}
use Rattle.trace_blocks.specs.Pairs.{pair_at}
use Rattle.trace_blocks.specs.WordLaws.{AreBytes}
use Rattle.trace_blocks.specs.PairLaws.{sum_from, sum-whole, clear_from, count_fits, count_room, judged-bad, judged-rows}
use borrow.Author.Rules.{rules}
use Rattle.trace_blocks.proofs.judge_block.Goals as goal

-- ---- the needs
pub is_kind-requires : goal.is_kind-requires
is_kind-requires c = search rules

pub returns-then-not-is_kind : goal.returns-then-not-is_kind
returns-then-not-is_kind c =
    let bytes : AreBytes c.args.block.now = λ i. omega (arith, c.type_inv.block i) in
    let a = c.args in
    sym
    (judged-bad a.kind a.number a.ends a.block.now (bytes) 0
    (sym c.is_kind.ensures ∙ c.if-not-is_kind.true))

pub returns-then-block-ne-BLOCK_BYTES : goal.returns-then-block-ne-BLOCK_BYTES
returns-then-block-ne-BLOCK_BYTES c =
    let bytes : AreBytes c.args.block.now = λ i. omega (arith, c.type_inv.block i) in
    let a = c.args in
    sym
    (judged-bad a.kind a.number a.ends a.block.now (bytes) 1
    (ne_eqb (length a.block.now) block_bytes c.if-block-ne-BLOCK_BYTES.true))

pub returns-then-head-number : goal.returns-then-head-number
returns-then-head-number c =
    let bytes : AreBytes c.args.block.now = λ i. omega (arith, c.type_inv.block i) in
    let low_of : c.pair_at-head.result % word_limit ≡ pair_at c.args.block.now 0 % word_limit = ap (λ (n : ℕ). n % word_limit) c.pair_at-head.ensures in
    let a = c.args in
    sym
    (judged-bad a.kind a.number a.ends a.block.now (bytes) 2
    (ne_eqb (pair_at a.block.now 0 % word_limit) a.number (λ e. c.if-head-number.true (low_of ∙ e))))

pub returns-then-not-count_fits : goal.returns-then-not-count_fits
returns-then-not-count_fits c =
    let bytes : AreBytes c.args.block.now = λ i. omega (arith, c.type_inv.block i) in
    let fits-as : let a = c.args in count_fits a.kind (pair_at a.block.now 0 / word_limit) a.ends ≡ c.count_fits.result = let a = c.args in ap (λ (n : ℕ). count_fits a.kind (n / word_limit) a.ends) (sym c.pair_at-head.ensures) ∙ sym c.count_fits.ensures in
    let a = c.args in
    sym
    (judged-bad a.kind a.number a.ends a.block.now (bytes) 3
    (fits-as ∙ c.if-not-count_fits.true))

pub overflow_mul-width : goal.overflow_mul-width
overflow_mul-width c =
    let kind-is : is_kind c.args.kind ≡ true = sym c.is_kind.ensures ∙ c.if-not-is_kind.false in
    let fits-as : let a = c.args in count_fits a.kind (pair_at a.block.now 0 / word_limit) a.ends ≡ c.count_fits.result = let a = c.args in ap (λ (n : ℕ). count_fits a.kind (n / word_limit) a.ends) (sym c.pair_at-head.ensures) ∙ sym c.count_fits.ensures in
    let fits-is : let a = c.args in count_fits a.kind (pair_at a.block.now 0 / word_limit) a.ends ≡ true = fits-as ∙ c.if-not-count_fits.false in
    let room : c.args.kind.width * (c.pair_at-head.result / word_limit) ≤ 62 = let a = c.args in rw c.pair_at-head.ensures (count_room a.kind (pair_at a.block.now 0 / word_limit) a.ends (kind-is) (fits-is)) in
    omega (arith, room)

pub overflow_add-width : goal.overflow_add-width
overflow_add-width c =
    let kind-is : is_kind c.args.kind ≡ true = sym c.is_kind.ensures ∙ c.if-not-is_kind.false in
    let fits-as : let a = c.args in count_fits a.kind (pair_at a.block.now 0 / word_limit) a.ends ≡ c.count_fits.result = let a = c.args in ap (λ (n : ℕ). count_fits a.kind (n / word_limit) a.ends) (sym c.pair_at-head.ensures) ∙ sym c.count_fits.ensures in
    let fits-is : let a = c.args in count_fits a.kind (pair_at a.block.now 0 / word_limit) a.ends ≡ true = fits-as ∙ c.if-not-count_fits.false in
    let room : c.args.kind.width * (c.pair_at-head.result / word_limit) ≤ 62 = let a = c.args in rw c.pair_at-head.ensures (count_room a.kind (pair_at a.block.now 0 / word_limit) a.ends (kind-is) (fits-is)) in
    omega (arith, room)

pub returns-then-not-is_clear : goal.returns-then-not-is_clear
unfolding clear_from
returns-then-not-is_clear c =
    let bytes : AreBytes c.args.block.now = λ i. omega (arith, c.type_inv.block i) in
    let clear-as : let a = c.args in clear_from a.block.now (a.kind.width * (pair_at a.block.now 0 / word_limit) + 1) ≡ c.is_clear.result = let a = c.args in ap (λ (n : ℕ). clear_from a.block.now (a.kind.width * (n / word_limit) + 1)) (sym c.pair_at-head.ensures) ∙ sym c.is_clear.ensures in
    let a = c.args in
    sym
    (judged-bad a.kind a.number a.ends a.block.now (bytes) 4
    (clear-as ∙ c.if-not-is_clear.true))

pub returns-then-pair_at-kind : goal.returns-then-pair_at-kind
returns-then-pair_at-kind c =
    let bytes : AreBytes c.args.block.now = λ i. omega (arith, c.type_inv.block i) in
    let mark_of : c.pair_at.result % word_limit ≡ pair_at c.args.block.now 63 % word_limit = ap (λ (n : ℕ). n % word_limit) c.pair_at.ensures in
    let a = c.args in
    sym
    (judged-bad a.kind a.number a.ends a.block.now (bytes) 5
    (ne_eqb (pair_at a.block.now 63 % word_limit) a.kind.mark (λ e. c.if-pair_at-kind.true (mark_of ∙ e))))

pub returns-then-sum_of : goal.returns-then-sum_of
returns-then-sum_of c =
    let bytes : AreBytes c.args.block.now = λ i. omega (arith, c.type_inv.block i) in
    let sum_is : c.sum_of.result % word_limit ≡ sum_from c.args.block.now 0 % word_limit = ap (λ (n : ℕ). n % word_limit) (c.sum_of.ensures ∙ sum-whole c.args.block.now) in
    let a = c.args in
    sym
    (judged-bad a.kind a.number a.ends a.block.now (bytes) 6
    (ne_eqb (sum_from a.block.now 0 % word_limit) (word_limit - 1) (λ e. c.if-sum_of.true (sum_is ∙ e))))

pub returns : goal.returns
unfolding clear_from
returns c =
    let bytes : AreBytes c.args.block.now = λ i. omega (arith, c.type_inv.block i) in
    let kind-is : is_kind c.args.kind ≡ true = sym c.is_kind.ensures ∙ c.if-not-is_kind.false in
    let low_of : c.pair_at-head.result % word_limit ≡ pair_at c.args.block.now 0 % word_limit = ap (λ (n : ℕ). n % word_limit) c.pair_at-head.ensures in
    let fits-as : let a = c.args in count_fits a.kind (pair_at a.block.now 0 / word_limit) a.ends ≡ c.count_fits.result = let a = c.args in ap (λ (n : ℕ). count_fits a.kind (n / word_limit) a.ends) (sym c.pair_at-head.ensures) ∙ sym c.count_fits.ensures in
    let fits-is : let a = c.args in count_fits a.kind (pair_at a.block.now 0 / word_limit) a.ends ≡ true = fits-as ∙ c.if-not-count_fits.false in
    let clear-as : let a = c.args in clear_from a.block.now (a.kind.width * (pair_at a.block.now 0 / word_limit) + 1) ≡ c.is_clear.result = let a = c.args in ap (λ (n : ℕ). clear_from a.block.now (a.kind.width * (n / word_limit) + 1)) (sym c.pair_at-head.ensures) ∙ sym c.is_clear.ensures in
    let mark_of : c.pair_at.result % word_limit ≡ pair_at c.args.block.now 63 % word_limit = ap (λ (n : ℕ). n % word_limit) c.pair_at.ensures in
    let sum_is : c.sum_of.result % word_limit ≡ sum_from c.args.block.now 0 % word_limit = ap (λ (n : ℕ). n % word_limit) (c.sum_of.ensures ∙ sum-whole c.args.block.now) in
    let a = c.args in
    let block = a.block.now in
    ap (λ (n : ℕ). Some (n / word_limit)) c.pair_at-head.ensures
    ∙ sym
    (judged-rows a.kind a.number a.ends block (bytes)
    (kind-is
    & eq-eqb (length block) block_bytes c.if-block-ne-BLOCK_BYTES.false
    & eq-eqb (pair_at block 0 % word_limit) a.number (sym (low_of) ∙ c.if-head-number.false)
    & fits-is
    & (clear-as ∙ c.if-not-is_clear.false)
    & eq-eqb (pair_at block 63 % word_limit) a.kind.mark (sym (mark_of) ∙ c.if-pair_at-kind.false)
    & eq-eqb (sum_from block 0 % word_limit) (word_limit - 1) (sym (sum_is) ∙ c.if-sum_of.false)
    & nil))
