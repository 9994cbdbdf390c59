-- `holding::capacity_of` meets its contract. The row's words are there, and say whether the capacity is given. Assumes nothing.
use native.Mathlib.Omega.{arith}
use Rattle.holding.specs.KindLaws.{row_inside, capacity-given, capacity-omitted}
use Rattle.holding.proofs.capacity_of.Goals as goal

pub overflow_mul-start : goal.overflow_mul-start
overflow_mul-start c = let l = row_inside c.args.state.now c.requires.0 c.args.row c.requires.1 in omega (arith, c.well_formed)

pub overflow_add-start : goal.overflow_add-start
overflow_add-start c = let l = row_inside c.args.state.now c.requires.0 c.args.row c.requires.1 in omega (arith, c.well_formed)

pub overflow_add-start-2 : goal.overflow_add-start-2
overflow_add-start-2 c = let l = row_inside c.args.state.now c.requires.0 c.args.row c.requires.1 in omega (arith, c.well_formed)

pub offset_bounds-state-start : goal.offset_bounds-state-start
offset_bounds-state-start c = let l = row_inside c.args.state.now c.requires.0 c.args.row c.requires.1 in omega (arith, c.well_formed)

pub bounds-state-start : goal.bounds-state-start
bounds-state-start c = let l = row_inside c.args.state.now c.requires.0 c.args.row c.requires.1 in omega arith

pub overflow_add-result : goal.overflow_add-result
overflow_add-result c = let l = row_inside c.args.state.now c.requires.0 c.args.row c.requires.1 in omega (arith, c.well_formed)

pub offset_bounds-state-start-then-state-start-eq1 : goal.offset_bounds-state-start-then-state-start-eq1
offset_bounds-state-start-then-state-start-eq1 c = let l = row_inside c.args.state.now c.requires.0 c.args.row c.requires.1 in omega (arith, c.well_formed)

pub bounds-state-start-then-state-start-eq1 : goal.bounds-state-start-then-state-start-eq1
bounds-state-start-then-state-start-eq1 c = let l = row_inside c.args.state.now c.requires.0 c.args.row c.requires.1 in omega arith

pub returns-then-state-start-eq1 : goal.returns-then-state-start-eq1
returns-then-state-start-eq1 c = λ model is. capacity-given c.args.state.now c.requires.0 c.args.row c.requires.1 model is c.if-state-start-eq1.true

pub returns : goal.returns
returns c = λ model is. capacity-omitted c.args.state.now c.requires.0 c.args.row c.requires.1 model is c.if-state-start-eq1.false
