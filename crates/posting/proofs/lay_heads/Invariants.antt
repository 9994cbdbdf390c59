-- `posting::lay_heads` meets its contract. The loop's invariant: the heads from this row on, laid now, are all of them laid at first. Assumes nothing.
use Prim.Native.Nat.{◌-◌}
use Rattle.posting.specs.NewLaws.{Underway}
use Rattle.posting.proofs.lay_heads.Given as goal

abbrev pub invariant-loop-row : goal.invariant-loop-row
invariant-loop-row l =
    Underway l.models l.rows l.at l.initial.state l.row l.begin l.state
