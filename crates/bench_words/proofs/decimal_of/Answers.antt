-- `bench_words::decimal_of` meets its contract. Both whole numbers are floats as they are, so the quotient is the fraction, rounded once. Assumes nothing.
use Rattle.std.proofs.Common.{ℕ, suc, ◌-◌, ◌^◌, ◌≤◌, List, ◌++◌, Some, length, take, drop, refl, sym, ap, ◌∙◌, arith}
use lib.Ieee.{binary64, div, to_bits}
use Rattle.times.proofs.Whole.{tick}
use Rattle.bench_words.specs.Numbers.{over_tens, nines}
use Rattle.bench_words.specs.NumbersLaws.{numeral-most, whole-fits}
use Rattle.bench_words.specs.DecimalLaws.{tick-div, tens-most, tens-pos, decimal-no-before, decimal-no-behind, decimal-long, decimal-is}
use Rattle.bench_words.proofs.decimal_of.Goals as goal
use Rattle.bench_words.proofs.decimal_of.Goals.{then-point-eq0-via-then-point-eq0, then-point-eq0-via-else-point-eq0+then-behind-eq0, then-point-eq0-via-else-point-eq0+else-behind-eq0+then-word-gt16}

-- the word without its point
abbrev digits : List ℕ → ℕ → List ℕ
digits word point = take point word ++ drop (suc point) word

pub returns-then-point-eq0 : goal.returns-then-point-eq0
returns-then-point-eq0 c =
    let a = c.args in
    elim c.then-point-eq0.branch [
      | then-point-eq0-via-then-point-eq0 w ↦ sym (decimal-no-before a.word.now a.point _ c.requires.0 c.requires.1 refl w.if-point-eq0.true)
      | then-point-eq0-via-else-point-eq0+then-behind-eq0 w ↦ sym (decimal-no-behind a.word.now a.point _ c.requires.0 c.requires.1 refl w.if-behind-eq0.true)
      | then-point-eq0-via-else-point-eq0+else-behind-eq0+then-word-gt16 w ↦ sym (decimal-long a.word.now a.point _ c.requires.0 c.requires.1 refl w.if-word-gt16.true)
    ]

pub returns-in_err-n : goal.returns-in_err-n
returns-in_err-n c =
    let a = c.args in
    c.from_residual.ensures ∙ sym (decimal-is a.word.now a.point _ c.requires.0 c.requires.1 refl (omega arith) (omega arith) (omega arith) ∙ ap (over_tens _) (sym c.without_point.ensures ∙ c.in_err-n.was))

pub int_to_float-n : goal.int_to_float-n
int_to_float-n c =
    let a = c.args in
    let few : c.in_ok-n.n ≤ nines = numeral-most 10 nines 0 (digits a.word.now a.point) _ (omega arith) (sym c.without_point.ensures ∙ c.in_ok-n.was) in
    whole-fits _ (omega arith)

pub int_to_float-ten_to : goal.int_to_float-ten_to
int_to_float-ten_to c =
    let a = c.args in
    let few = tens-most (length a.word.now - a.point - 1) (omega arith) in
    whole-fits _ (omega (arith, c.ten_to.ensures))

pub returns : goal.returns
returns c =
    let a = c.args in
    let n = c.in_ok-n.n in
    let k = length a.word.now - a.point - 1 in
    let few : n ≤ nines = numeral-most 10 nines 0 (digits a.word.now a.point) n (omega arith) (sym c.without_point.ensures ∙ c.in_ok-n.was) in
    let tens : 10 ^ k ≤ 1_000_000_000_000_000 = tens-most k (omega arith) in
    ap Some (c.bits_of.ensures ∙ ap (λ (p : ℕ). to_bits binary64 (div binary64 (tick n) (tick p))) c.ten_to.ensures ∙ ap (to_bits binary64) (tick-div n (10 ^ k) (omega arith) (tens-pos k) (omega arith)))
    ∙ sym (decimal-is a.word.now a.point k c.requires.0 c.requires.1 refl (omega arith) (omega arith) (omega arith) ∙ ap (over_tens k) (sym c.without_point.ensures ∙ c.in_ok-n.was))
