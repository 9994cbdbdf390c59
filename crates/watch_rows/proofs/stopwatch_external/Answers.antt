-- `watch_rows::stopwatch_external` meets its contract: what is taken is the rules' event, and then the state stands in the row. Assumes nothing.
use Prim.Native.Nat.{◌^◌, ◌<◌}
use mathlib.Core.Path.{sym, ◌∙◌}
use Rattle.memory.specs.Words.{begin_in}
use Rattle.watch_rows.specs.WatchLaws.{refused-in-place, taken-in-place}
use borrow.Author.Rules.{rules}
use Rattle.watch_rows.proofs.stopwatch_external.Goals as goal

pub returns-in-Err : goal.returns-in-Err
returns-in-Err c =
    let a = c.args in
    let m = a.mem.now in
    let low : a.content < 2 ^ 32 = search rules in
    let all = refused-in-place a.model a.clock a.port a.content (begin_in m a.row) m a.row c.requires.0 c.requires.1 low
    c.take_in_place-taken.result c.take_in_place-taken.new.mem c.take_in_place-taken.ensures.answers c.take_in_place-taken.ensures.lays
    _ (sym c.answer_of-answer.ensures ∙ c.in-Err.is) in record { takes = all.0; owns = all.1 }

pub returns-in-Ok : goal.returns-in-Ok
returns-in-Ok c =
    let a = c.args in
    let m = a.mem.now in
    let low : a.content < 2 ^ 32 = search rules in
    let all = taken-in-place a.model a.clock a.port a.content (begin_in m a.row) m a.row c.requires.0 c.requires.1 low
    c.take_in_place-taken.result c.take_in_place-taken.new.mem c.take_in_place-taken.ensures.answers c.take_in_place-taken.ensures.lays
    c.store_stopwatch.new.mem (sym c.answer_of-answer.ensures ∙ c.in-Ok.is) c.store_stopwatch.ensures in record { takes = all.0; owns = all.1 }
