-- `holding::rows_end` meets its contract. The invariant: the next row's own words begin where those before it end, and the rows from there on stand exactly if all do. Assumes nothing.
use mathlib.Core.Path.{◌≡◌, sym, ap, ◌∙◌}
use native.Mathlib.Omega.{arith}
use Rattle.lookup.specs.Inside.{table_in}
use Rattle.views.specs.World.{begin_of}
use Rattle.marks.specs.SweepLaws.{begun}
use Rattle.holding.specs.Fitting.{rows_from}
use Rattle.holding.specs.WholeLaws.{begin-room, rows-over, rows-stop, rows_on, rows-bad, rows-good}
use Rattle.holding.proofs.rows_end.Goals as goal

pub overflow_mul-begin : goal.overflow_mul-begin
overflow_mul-begin c =
    omega (arith, c.row_count-rows.ensures, c.requires.1, c.well_formed)

pub overflow_add-begin : goal.overflow_add-begin
overflow_add-begin c =
    omega (arith, c.row_count-rows.ensures, c.requires.1, c.well_formed)

pub loop-row-init : goal.loop-row-init
loop-row-init c =
    let t = table_in c.args.state.now in
    let n = c.row_count-rows.ensures in
    (omega arith, begun (rows_from t c.args.mem.now 0) c.row_count-rows.result ∙ ap (rows_from t c.args.mem.now 0) n)

pub row_end-requires : goal.row_end-requires
row_end-requires c =
    let t = table_in c.args.state.now in
    let n = c.row_count-rows.ensures in
    let l = c.loop-row-test.true in
    let at = c.loop-row.invariant.0 in
    let room = c.requires.1 in
    let b = begin-room t c.args.mem.now c.loop-row.row (omega arith) in
    (c.requires.0, omega arith, omega arith, omega arith)

pub returns-in_err-begin : goal.returns-in_err-begin
returns-in_err-begin c =
    let a = c.args in
    let t = table_in a.state.now in
    c.from_residual.ensures
    ∙ rows-bad t a.mem.now
    (sym c.loop-row.invariant.1 ∙ rows-stop t a.mem.now c.loop-row.row c.row_count-rows.result c.loop-row.begin c.loop-row-test.true c.row_count-rows.ensures c.loop-row.invariant.0 (sym c.row_end.ensures ∙ c.in_err-begin.was))

pub loop-row-preserved : goal.loop-row-preserved
loop-row-preserved c =
    let a = c.args in
    let t = table_in a.state.now in
    let on = rows_on t a.mem.now c.loop-row.row c.row_count-rows.result c.loop-row.begin c.loop-row-test.true c.row_count-rows.ensures c.loop-row.invariant.0 c.in_ok-begin.begin (sym c.row_end.ensures ∙ c.in_ok-begin.was) in
    (on.0, sym on.1 ∙ c.loop-row.invariant.1)

pub returns : goal.returns
returns c =
    let a = c.args in
    let t = table_in a.state.now in
    let last : c.loop-row.row ≡ c.row_count-rows.result = omega (arith, c.loop-row.invariant.0, c.loop-row-test.false) in
    rows-good t a.mem.now c.loop-row.begin (c.loop-row.invariant.0 ∙ ap (begin_of t) (last ∙ c.row_count-rows.ensures)) (sym c.loop-row.invariant.1 ∙ rows-over t a.mem.now c.loop-row.row c.row_count-rows.result c.loop-row-test.false)
