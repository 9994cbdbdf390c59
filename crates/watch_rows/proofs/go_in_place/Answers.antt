-- `watch_rows::go_in_place` meets its contract: the words lent are the row's own. Assumes nothing.
use Prim.Native.Nat.{ℕ, ◌+◌, ◌-◌}
use native.Mathlib.Omega.{arith}
use mathlib.Core.Path.{◌≡◌, ap, ◌∙◌}
use mathlib.Core.List.{List}
use lib.ListN.{take, drop}
use Rattle.rules.specs.declared.Stopwatch.{Stopwatch}
use Rattle.stopwatch.specs.declared.StopwatchState.{StopwatchState}
use Rattle.std.proofs.Common.{Option, ℕ}
use Rattle.events.specs.declared.Handed.{Handed}
use Rattle.stopwatch.specs.Watching.{internal_in}
use Rattle.memory.specs.Words.{begin_in}
use Rattle.watch_rows.specs.Places.{loaded, internal_at}
use Rattle.memory.specs.Places.{lent-own}
use Rattle.watch_rows.specs.WatchLaws.{row-timer}
use Rattle.watch_rows.proofs.go_in_place.Goals as goal

-- the words lent are the row's own
lent : (model : Stopwatch) (mem : List ℕ) (i begin : ℕ) (state : StopwatchState) (r : Handed StopwatchState (Option ℕ)) → begin ≡ begin_in mem i → state ≡ loaded mem i
    → r ≡ internal_in model state (take (begin + 192 - begin) (drop begin mem)) → r ≡ internal_at model mem i
lent model mem i begin state r b s e = e ∙ ap (internal_in model state) (lent-own begin 192 mem) ∙ rw (b, s)

pub load_stopwatch-state-requires : goal.load_stopwatch-state-requires
load_stopwatch-state-requires c =
    (omega (arith, c.requires.placed.head, c.requires.placed.room), row-timer c.args.model (begin_in c.args.mem.now c.args.row) c.args.mem.now c.args.row c.requires)

pub returns : goal.returns
returns c =
    let a = c.args in
    lent a.model a.mem.now a.row c.begin_at-begin.result c.load_stopwatch-state.result c.internal_rule.result c.begin_at-begin.ensures c.load_stopwatch-state.ensures c.internal_rule.ensures
