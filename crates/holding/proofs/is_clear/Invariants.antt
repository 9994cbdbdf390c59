-- `holding::is_clear` meets its contract. The invariant: what is joined is 0 and the words from k on are exactly if all are. Assumes nothing.
use Prim.Native.Nat.{ℕ, ◌-◌}
use mathlib.Core.Path.{◌≡◌}
use lib.Dec.{eqb}
use Rattle.rules.specs.Base.{every}
use Rattle.holding.specs.RowLaws.{joined_from}
use Rattle.holding.proofs.is_clear.Given as goal

abbrev pub invariant-loop-place : goal.invariant-loop-place
invariant-loop-place l = joined_from l.places l.joined l.place-index ≡ every (λ (w : ℕ). eqb w 0) l.places
