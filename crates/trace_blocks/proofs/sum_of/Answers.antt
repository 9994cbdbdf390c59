-- `trace_blocks::sum_of` meets its contract. The loop's invariant: the sum so far and that of the words from here on are the whole sum; so far it is small. Assumes nothing.
use Prim.Native.Nat.{ℕ, ◌+◌}
use mathlib.Core.Path.{◌≡◌, sym, ap, ◌∙◌}
use native.Mathlib.Nat.{add-zero}
use native.Mathlib.Omega.{arith}
use Rattle.trace_blocks.specs.PairLaws.{sum_from, sum-next}
use Rattle.trace_blocks.proofs.sum_of.Goals as goal

-- what is added leaves what is still to be added
sum-on : (sum more here rest all : ℕ) → sum + here ≡ all → here ≡ more + rest → sum + more + rest ≡ all
sum-on sum more here rest all before next = omega arith

pub loop-pair-preserved : goal.loop-pair-preserved
loop-pair-preserved c =
    let l = c.loop-pair in
    let block = c.args.block.now in
    let next = sum-next block (λ i. omega (arith, c.type_inv.block i)) l.pair (omega arith) in
    (omega arith, sum-on l.sum c.both-sum.result (sum_from block l.pair) (sum_from block (l.pair + 1)) (sum_from block 0) l.invariant.1 (next ∙ rw (c.both-sum.ensures, c.pair_at.ensures)))

pub returns : goal.returns
unfolding sum_from
returns c =
    let l = c.loop-pair in
    let block = c.args.block.now in
    let e : l.pair ≡ 64 = omega arith in
    let none : sum_from block l.pair ≡ 0 = rw e in
    sym (add-zero l.sum) ∙ sym (ap (λ (n : ℕ). l.sum + n) none) ∙ l.invariant.1
