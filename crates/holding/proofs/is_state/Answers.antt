-- `holding::is_state` meets its contract: the table, and then the changing part, are what 20 asks. Assumes nothing.
use mathlib.Core.Path.{sym, ◌∙◌}
use native.Mathlib.Omega.{arith}
use Rattle.holding.specs.WholeLaws.{table-not, inside_of, tail_within, tail-room, stored_is}
use Rattle.holding.proofs.is_state.Goals as goal

pub returns-then-not-table_fits : goal.returns-then-not-table_fits
returns-then-not-table_fits c =
    table-not c.args.state.now (sym c.table_fits.ensures ∙ c.if-not-table_fits.true)

pub tail_at-tail-requires : goal.tail_at-tail-requires
tail_at-tail-requires c =
    inside_of c.args.state.now (sym c.table_fits.ensures ∙ c.if-not-table_fits.false)

pub offset_bounds-state-tail : goal.offset_bounds-state-tail
offset_bounds-state-tail c =
    let w = tail_within c.args.state.now (sym c.table_fits.ensures ∙ c.if-not-table_fits.false) c.tail_at-tail.result c.tail_at-tail.ensures in
    omega (arith, c.well_formed)

pub slice_bounds-tail_fits-count : goal.slice_bounds-tail_fits-count
slice_bounds-tail_fits-count c =
    let w = tail_within c.args.state.now (sym c.table_fits.ensures ∙ c.if-not-table_fits.false) c.tail_at-tail.result c.tail_at-tail.ensures in
    omega (arith, c.well_formed)

pub slice_bounds-tail_fits-start : goal.slice_bounds-tail_fits-start
slice_bounds-tail_fits-start c =
    tail_within c.args.state.now (sym c.table_fits.ensures ∙ c.if-not-table_fits.false) c.tail_at-tail.result c.tail_at-tail.ensures

pub tail_fits-requires : goal.tail_fits-requires
tail_fits-requires c =
    let fits = sym c.table_fits.ensures ∙ c.if-not-table_fits.false in
    (inside_of c.args.state.now fits, tail-room c.args.state.now fits c.tail_at-tail.result c.tail_at-tail.ensures)

pub returns : goal.returns
returns c =
    c.tail_fits.ensures
    ∙ stored_is c.args.state.now (sym c.table_fits.ensures ∙ c.if-not-table_fits.false) c.tail_at-tail.result c.tail_at-tail.ensures (λ i. (c.type_inv.state i).fits)
