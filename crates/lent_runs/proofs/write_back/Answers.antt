-- `lent_runs::write_back` meets its contract. Assumes nothing.
use native.Mathlib.Omega.{arith}
use Rattle.storing.specs.StoredLaws.{stored_of}
use Rattle.lent_runs.specs.BackLaws.{back_fits, lends_back, put_back}
use Rattle.lent_runs.proofs.write_back.Goals as goal

pub tail_at-tail-requires : goal.tail_at-tail-requires
tail_at-tail-requires c =
    (stored_of c.args.state.now c.requires.0).inside

pub row_count-rows-requires : goal.row_count-rows-requires
row_count-rows-requires c =
    (stored_of c.args.state.now c.requires.0).inside

pub offset_bounds-state-tail : goal.offset_bounds-state-tail
offset_bounds-state-tail c =
    omega (arith, (stored_of c.args.state.now c.requires.0).inside.room)

pub slice_bounds-copy_held-count : goal.slice_bounds-copy_held-count
slice_bounds-copy_held-count c =
    omega (arith, (stored_of c.args.state.now c.requires.0).inside.room)

pub slice_bounds-copy_held-start : goal.slice_bounds-copy_held-start
slice_bounds-copy_held-start c =
    omega (arith, (stored_of c.args.state.now c.requires.0).inside.room)

pub copy_held-requires : goal.copy_held-requires
copy_held-requires c =
    let a = c.args in
    let tail = c.tail_at-tail in
    let end = c.active_at-end in
    let fits = back_fits a.state.now a.mem.now c.requires.0 c.requires.1 tail.result end.result tail.ensures end.ensures in
    (lends_back a.state.now a.mem.now c.requires.0 c.requires.1 tail.result end.result tail.ensures end.ensures c.row_count-rows.result c.row_count-rows.ensures, omega (arith, fits.0), omega (arith, fits.1))

pub returns : goal.returns
returns c =
    let a = c.args in
    let tail = c.tail_at-tail in
    let end = c.active_at-end in
    put_back a.state.now a.mem.now c.requires.0 c.requires.1 tail.result end.result tail.ensures end.ensures c.copy_held.new.dst c.copy_held.ensures
