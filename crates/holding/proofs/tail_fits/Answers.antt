-- `holding::tail_fits` meets its contract: how many messages, the clock, the rows, and the messages from where the rows end. Assumes nothing.
use mathlib.Core.Path.{sym, ◌∙◌}
use native.Mathlib.Omega.{arith}
use Rattle.lookup.specs.Inside.{table_in}
use Rattle.holding.specs.WholeLaws.{end-room, rows_tell, tail-many, tail-late, tail-bad, tail-rest}
use Rattle.holding.proofs.tail_fits.Goals as goal

pub returns-then-mem-gt256 : goal.returns-then-mem-gt256
returns-then-mem-gt256 c =
    tail-many (table_in c.args.state.now) c.args.mem.now c.if-mem-gt256.true

pub returns-then-not-is_time : goal.returns-then-not-is_time
returns-then-not-is_time c =
    tail-late (table_in c.args.state.now) c.args.mem.now (sym c.is_time.ensures ∙ c.if-not-is_time.true)

pub messages_fit-requires : goal.messages_fit-requires
messages_fit-requires c =
    let t = table_in c.args.state.now in
    let e = (rows_tell t c.args.mem.now c.in-Some.end (sym c.rows_end.ensures ∙ c.in-Some.is)).1 in
    let r = end-room t c.args.mem.now in
    omega (arith, c.if-mem-gt256.false, c.requires.1)

pub returns-in-Some : goal.returns-in-Some
returns-in-Some c =
    c.messages_fit.ensures
    ∙ tail-rest (table_in c.args.state.now) c.args.mem.now c.if-mem-gt256.false (sym c.is_time.ensures ∙ c.if-not-is_time.false) c.in-Some.end (sym c.rows_end.ensures ∙ c.in-Some.is)

pub returns-in-None : goal.returns-in-None
returns-in-None c =
    tail-bad (table_in c.args.state.now) c.args.mem.now (sym c.rows_end.ensures ∙ c.in-None.is)
