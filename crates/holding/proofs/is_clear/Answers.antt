-- `holding::is_clear` meets its contract. The invariant: what is joined is 0 and the words from k on are exactly if all are. Assumes nothing.
use Prim.Native.Nat.{ℕ}
use mathlib.Core.Path.{sym, ◌∙◌}
use lib.Dec.{eqb}
use Rattle.holding.specs.RowLaws.{each-is, joined-over, joined-on}
use native.Mathlib.Omega.{arith}
use Rattle.holding.proofs.is_clear.Goals as goal

pub loop-place-init : goal.loop-place-init
loop-place-init c = each-is (λ (w : ℕ). eqb w 0) c.args.places.now

pub loop-place-preserved : goal.loop-place-preserved
loop-place-preserved c = sym (joined-on c.args.places.now c.loop-place.joined c.loop-place.place-index (omega arith)) ∙ c.loop-place.invariant

pub returns : goal.returns
returns c = sym (joined-over c.args.places.now c.loop-place.joined c.loop-place.place-index (omega arith)) ∙ c.loop-place.invariant
