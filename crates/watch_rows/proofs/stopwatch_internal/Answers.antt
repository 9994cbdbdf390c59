-- `watch_rows::stopwatch_internal` meets its contract: what goes out is the rules', and then the state stands in the row. Assumes nothing.
use Rattle.std.proofs.Common.{◌≡◌, ℕ, Ok, Result, Option, Some, None, ap, ◌∙◌}
use Rattle.rules.specs.declared.Refusal.{Refusal}
use Prim.Native.Nat.{◌+◌, ◌<◌}
use native.Mathlib.Omega.{arith}
use lib.ListN.{length}
use Rattle.memory.specs.Words.{begin_in}
use Rattle.watch_rows.specs.WatchLaws.{never-refused, name-low, job-in-place, nothing-in-place}
use Rattle.watch_rows.proofs.stopwatch_internal.Goals as goal

same-answer : (a : Result (Option ℕ) Refusal) (name known : Option ℕ) → a ≡ Ok name → name ≡ known → a ≡ Ok known
same-answer a name known is e = is ∙ ap Ok e

pub put_out-requires : goal.put_out-requires
put_out-requires c =
    let a = c.args in
    let m = a.mem.now in
    (omega (arith, c.requires.2), name-low a.model (begin_in m a.row) m a.row c.requires.0 c.go_in_place-gone.result c.go_in_place-gone.ensures _ (same-answer _ c.in-Ok-Some.field-0 (Some c.in-Ok-Some.name) c.in-Ok-Some.is (rw c.in-Ok-Some.is at c.in-Ok-Some.field-0-is)))

pub returns-in-Ok-Some : goal.returns-in-Ok-Some
returns-in-Ok-Some c =
    let a = c.args in
    let m = a.mem.now in
    let room : a.at < length m = omega (arith, c.requires.2) in
    let all = job-in-place a.model (begin_in m a.row) m a.row c.requires.0 c.go_in_place-gone.result c.go_in_place-gone.ensures
    a.at (a.at + 64) _ c.put_out.new.mem c.store_stopwatch.new.mem c.requires.1 room (omega arith) (same-answer _ c.in-Ok-Some.field-0 (Some c.in-Ok-Some.name) c.in-Ok-Some.is (rw c.in-Ok-Some.is at c.in-Ok-Some.field-0-is)) c.put_out.ensures c.store_stopwatch.ensures in record { gives = all.0; owns = all.1 }

pub returns-in-Ok-None : goal.returns-in-Ok-None
returns-in-Ok-None c =
    let a = c.args in
    let m = a.mem.now in
    let all = nothing-in-place a.model (begin_in m a.row) m a.row c.requires.0 c.go_in_place-gone.result c.go_in_place-gone.ensures
    a.at (a.at + 64) c.store_stopwatch-in-Ok-None.new.mem (same-answer _ c.in-Ok-None.field-0 None c.in-Ok-None.is (rw c.in-Ok-None.is at c.in-Ok-None.field-0-is)) c.store_stopwatch-in-Ok-None.ensures in record { gives = all.0; owns = all.1 }

pub returns-in-Err : goal.returns-in-Err
returns-in-Err c =
    let a = c.args in
    let m = a.mem.now in
    record { gives = absurd (never-refused a.model (begin_in m a.row) m a.row c.requires.0 c.go_in_place-gone.result c.go_in_place-gone.ensures _ c.in-Err.is); owns = absurd (never-refused a.model (begin_in m a.row) m a.row c.requires.0 c.go_in_place-gone.result c.go_in_place-gone.ensures _ c.in-Err.is) }
