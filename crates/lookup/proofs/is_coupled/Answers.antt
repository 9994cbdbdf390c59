-- `lookup::is_coupled` meets its contract. The row's words are there, and its second says the kind. Assumes nothing.
use native.Mathlib.Omega.{arith}
use Rattle.lookup.specs.InsideLaws.{row_room}
use Rattle.lookup.proofs.is_coupled.Goals as goal

pub overflow_mul-start : goal.overflow_mul-start
overflow_mul-start c = omega (arith, row_room _ c.requires.0 _ c.requires.1, c.well_formed)

pub overflow_add-start : goal.overflow_add-start
overflow_add-start c = omega (arith, row_room _ c.requires.0 _ c.requires.1, c.well_formed)

pub overflow_add-result : goal.overflow_add-result
overflow_add-result c = omega (arith, row_room _ c.requires.0 _ c.requires.1, c.well_formed)

pub offset_bounds-state-start : goal.offset_bounds-state-start
offset_bounds-state-start c = omega (arith, row_room _ c.requires.0 _ c.requires.1, c.well_formed)

pub bounds-state-start : goal.bounds-state-start
bounds-state-start c = omega (arith, row_room _ c.requires.0 _ c.requires.1)
