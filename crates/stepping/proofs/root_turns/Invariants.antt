-- `stepping::root_turns` meets its contract. The loop: what is left of the turns, from the words and the messages as they stand, is the whole from the words at first. Assumes nothing.
use Prim.Native.Nat.{◌-◌, ◌≤◌}
use mathlib.Core.Path.{◌≡◌}
use lib.ListN.{length}
use Rattle.rules.specs.Step as Step
use Rattle.lookup.specs.Inside.{table_in}
use Rattle.views.specs.Messages.{messages_in}
use Rattle.sweeps.specs.Adding.{Adding}
use Rattle.stepping.specs.Parts.{is_root}
use Rattle.stepping.proofs.root_turns.Given as goal

abbrev pub invariant-loop-row : goal.invariant-loop-row
invariant-loop-row l =
    (length l.mem ≡ length l.initial.mem)
    × (l.from ≤ length (table_in l.state).rows)
    × Adding (table_in l.state) (messages_in l.active) 256 (Step.root_turn (table_in l.state) l.services l.clock) (is_root (table_in l.state)) l.active (length l.initial.mem) l.initial.mem 0 (length (table_in l.state).rows) l.from l.mem l.count

abbrev pub decreases-loop-row : goal.decreases-loop-row
decreases-loop-row l =
    length (table_in l.state).rows - l.from
