-- `holding::kind_number` meets its contract. The row's words are there, and its second says the kind. Assumes nothing.
use native.Mathlib.Omega.{arith}
use Rattle.holding.specs.KindLaws.{row_inside, number_in}
use Rattle.holding.proofs.kind_number.Goals as goal

pub overflow_mul-start : goal.overflow_mul-start
overflow_mul-start c = let l = row_inside c.args.state.now c.requires.0 c.args.row c.requires.1 in omega (arith, c.well_formed)

pub overflow_add-start : goal.overflow_add-start
overflow_add-start c = let l = row_inside c.args.state.now c.requires.0 c.args.row c.requires.1 in omega (arith, c.well_formed)

pub overflow_add-result : goal.overflow_add-result
overflow_add-result c = let l = row_inside c.args.state.now c.requires.0 c.args.row c.requires.1 in omega (arith, c.well_formed)

pub offset_bounds-state-start : goal.offset_bounds-state-start
offset_bounds-state-start c = let l = row_inside c.args.state.now c.requires.0 c.args.row c.requires.1 in omega (arith, c.well_formed)

pub bounds-state-start : goal.bounds-state-start
bounds-state-start c = let l = row_inside c.args.state.now c.requires.0 c.args.row c.requires.1 in omega arith

pub returns : goal.returns
returns c = number_in c.args.state.now c.requires.0 c.args.row c.requires.1
