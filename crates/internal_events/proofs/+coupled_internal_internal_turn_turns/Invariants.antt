-- `internal_events::internal`, `coupled_internal`, `turns` and `turn` meet their contracts. The loop: what is left of the turns, from the words and the messages as they stand, is the whole from the words at first. Assumes nothing.
use mathlib.Core.Path.{◌≡◌}
use lib.ListN.{length}
use Rattle.rules.specs.Sizes.{most_out}
use Rattle.rules.specs.Table.{id_at}
use Rattle.rules.specs.Step as Step
use Rattle.memory.specs.View.{outs_in}
use Rattle.lookup.specs.Inside.{table_in}
use Rattle.sweeps.specs.Adding.{Adding}
use Rattle.model_events.specs.DueHere.{is_one}
use Prim.Native.Nat.{◌+◌, ◌*◌, ◌-◌}
use Rattle.internal_events.proofs.+coupled_internal_internal_turn_turns.Given as goal

abbrev pub decreases-coupled_internal : goal.decreases-coupled_internal
decreases-coupled_internal l = l.depth * 4 + 3

abbrev pub decreases-internal : goal.decreases-internal
decreases-internal l = l.depth * 4

abbrev pub decreases-turn : goal.decreases-turn
decreases-turn l = l.depth * 4 + 1

abbrev pub decreases-turns : goal.decreases-turns
decreases-turns l = l.depth * 4 + 2

abbrev pub invariant-turns-loop-component : goal.invariant-turns-loop-component
invariant-turns-loop-component l =
    (l.owner ≡ id_at (table_in l.state) l.row)
    × (length l.mem ≡ length l.initial.mem)
    × Adding (table_in l.state) (outs_in l.at) most_out (Step.turn (table_in l.state) l.services l.depth (Step.internal (table_in l.state) l.services l.depth l.clock) l.row) (is_one (table_in l.state) l.owner) l.at (length l.initial.mem) l.initial.mem 0 (length (table_in l.state).rows) l.from l.mem l.count

abbrev pub decreases-turns-loop-component : goal.decreases-turns-loop-component
decreases-turns-loop-component l =
    length (table_in l.state).rows - l.from
