-- `watch_rows::take_in_place` meets its contract: the words lent are the row's own, and come back in their place. Assumes nothing.
use Prim.Native.Nat.{ℕ, ◌+◌, ◌-◌}
use native.Mathlib.Omega.{arith}
use mathlib.Core.Path.{◌≡◌, ap, ◌∙◌}
use mathlib.Core.List.{List, ◌++◌}
use lib.ListN.{take, drop}
use lib.Ieee.{Float}
use Rattle.rules.specs.declared.Stopwatch.{Stopwatch}
use Rattle.stopwatch.specs.declared.StopwatchState.{StopwatchState}
use Rattle.events.specs.declared.Handed.{Handed}
use Rattle.events.specs.declared.Taken.{Taken}
use Rattle.stopwatch.specs.Watching.{external_in}
use Rattle.memory.specs.Words.{begin_in, replaced}
use Rattle.watch_rows.specs.Places.{loaded, external_at}
use Rattle.memory.specs.Places.{lent-own, put_back}
use Rattle.watch_rows.specs.WatchLaws.{row-timer}
use Rattle.watch_rows.proofs.take_in_place.Goals as goal

-- the words lent are the row's own, and come back in their place
lent : (model : Stopwatch) (clock : Float) (port content : ℕ) (mem : List ℕ) (i begin : ℕ) (state : StopwatchState) (r : Handed StopwatchState Taken) (after : List ℕ) → begin ≡ begin_in mem i → state ≡ loaded mem i
    → (r, after) ≡ external_in model clock port content state (take (begin + 192 - begin) (drop begin mem))
    → (r ≡ (external_at model clock port content mem i).0)
    × (take begin mem ++ (after ++ drop (begin + 192 - begin) (drop begin mem)) ≡ replaced (begin_in mem i) 192 (external_at model clock port content mem i).1 mem)
lent model clock port content mem i begin state r after b s e =
    let f : (r, after) ≡ external_at model clock port content mem i = e ∙ ap (external_in model clock port content state) (lent-own begin 192 mem) ∙ rw (b, s) in
    (ap (λ (z : Handed StopwatchState Taken × List ℕ). z.0) f, put_back begin 192 mem after ∙ ap (λ n. replaced n 192 after mem) b ∙ ap (λ (z : Handed StopwatchState Taken × List ℕ). replaced (begin_in mem i) 192 z.1 mem) f)

pub load_stopwatch-state-requires : goal.load_stopwatch-state-requires
load_stopwatch-state-requires c =
    (omega (arith, c.requires.placed.head, c.requires.placed.room), row-timer c.args.model (begin_in c.args.mem.now c.args.row) c.args.mem.now c.args.row c.requires)

pub returns : goal.returns
returns c =
    let a = c.args in
    let all = lent a.model a.clock a.port a.content a.mem.now a.row c.begin_at-begin.result c.load_stopwatch-state.result c.external_rule.result c.external_rule.new.words c.begin_at-begin.ensures c.load_stopwatch-state.ensures c.external_rule.ensures in record { answers = all.0; lays = all.1 }
