-- `trace_files::lay_blocks` meets its contract. The loop's invariant: the numbers so far are laid at the start of the rows, and stand before the answer of the blocks from block i on. Assumes nothing.
use native.Mathlib.Nat.{div-le_self}
use native.Mathlib.Omega.{arith}
use lib.ListN.{length}
use Rattle.trace_files.proofs.ReadLoop.{laying-start, laying-turn, laying-from, laying-fits, laying-to, laying-same, laying-more, laying-end}
use borrow.Author.Rules.{rules}
use Rattle.trace_files.proofs.lay_blocks.Goals as goal

pub loop-i-init : goal.loop-i-init
loop-i-init c =
    let a = c.args in
    laying-start a.kind a.file.now a.start a.rows.now

pub overflow_mul-at : goal.overflow_mul-at
overflow_mul-at c =
    let a = c.args in
    let t = (laying-turn a.kind a.file.now a.start c.loop-i.i c.loop-i.count a.rows.now c.loop-i.rows c.loop-i.invariant (omega (arith, c.pieces_of-blocks.ensures, c.loop-i-test.true)) c.requires.good).inside in
    record { fits = omega arith }

pub overflow_add-next : goal.overflow_add-next
overflow_add-next c =
    let a = c.args in
    let t = (laying-turn a.kind a.file.now a.start c.loop-i.i c.loop-i.count a.rows.now c.loop-i.rows c.loop-i.invariant (omega (arith, c.pieces_of-blocks.ensures, c.loop-i-test.true)) c.requires.good).inside in
    record { fits = omega arith }

pub slice_bounds-block-start : goal.slice_bounds-block-start
slice_bounds-block-start c =
    let a = c.args in
    let t = (laying-turn a.kind a.file.now a.start c.loop-i.i c.loop-i.count a.rows.now c.loop-i.rows c.loop-i.invariant (omega (arith, c.pieces_of-blocks.ensures, c.loop-i-test.true)) c.requires.good).inside in
    search rules

pub slice_bounds-block-end : goal.slice_bounds-block-end
slice_bounds-block-end c =
    let a = c.args in
    let t = (laying-turn a.kind a.file.now a.start c.loop-i.i c.loop-i.count a.rows.now c.loop-i.rows c.loop-i.invariant (omega (arith, c.pieces_of-blocks.ensures, c.loop-i-test.true)) c.requires.good).inside in
    search rules

pub overflow_mul-from : goal.overflow_mul-from
overflow_mul-from c =
    let a = c.args in
    let f = laying-from a.kind a.file.now a.start c.loop-i.i c.loop-i.count a.rows.now c.loop-i.rows c.loop-i.invariant in
    record { fits = omega arith }

pub overflow_add-count : goal.overflow_add-count
overflow_add-count c =
    let a = c.args in
    let f = laying-fits a.kind a.file.now a.start c.loop-i.i c.loop-i.count a.rows.now c.loop-i.rows c.loop-i.invariant (omega (arith, c.pieces_of-blocks.ensures, c.loop-i-test.true)) c.requires.good c.count_in.result c.count_in.ensures in
    let d = div-le_self (length a.rows.now) a.kind.width in
    record { fits = omega arith }

pub overflow_mul-end : goal.overflow_mul-end
overflow_mul-end c =
    let a = c.args in
    let f = laying-to a.kind a.file.now a.start c.loop-i.i c.loop-i.count a.rows.now c.loop-i.rows c.loop-i.invariant (omega (arith, c.pieces_of-blocks.ensures, c.loop-i-test.true)) c.requires.good c.count_in.result c.count_in.ensures in
    record { fits = omega arith }

pub offset_bounds-rows-from : goal.offset_bounds-rows-from
offset_bounds-rows-from c =
    let a = c.args in
    let f = laying-to a.kind a.file.now a.start c.loop-i.i c.loop-i.count a.rows.now c.loop-i.rows c.loop-i.invariant (omega (arith, c.pieces_of-blocks.ensures, c.loop-i-test.true)) c.requires.good c.count_in.result c.count_in.ensures in
    let s = laying-same a.kind a.file.now a.start c.loop-i.i c.loop-i.count a.rows.now c.loop-i.rows c.loop-i.invariant in
    let m = laying-from a.kind a.file.now a.start c.loop-i.i c.loop-i.count a.rows.now c.loop-i.rows c.loop-i.invariant in
    record { fits = omega arith }

pub slice_bounds-read_numbers-start : goal.slice_bounds-read_numbers-start
slice_bounds-read_numbers-start c =
    let a = c.args in
    let f = laying-to a.kind a.file.now a.start c.loop-i.i c.loop-i.count a.rows.now c.loop-i.rows c.loop-i.invariant (omega (arith, c.pieces_of-blocks.ensures, c.loop-i-test.true)) c.requires.good c.count_in.result c.count_in.ensures in
    let s = laying-same a.kind a.file.now a.start c.loop-i.i c.loop-i.count a.rows.now c.loop-i.rows c.loop-i.invariant in
    search rules

pub slice_bounds-read_numbers-end : goal.slice_bounds-read_numbers-end
slice_bounds-read_numbers-end c =
    let a = c.args in
    let f = laying-to a.kind a.file.now a.start c.loop-i.i c.loop-i.count a.rows.now c.loop-i.rows c.loop-i.invariant (omega (arith, c.pieces_of-blocks.ensures, c.loop-i-test.true)) c.requires.good c.count_in.result c.count_in.ensures in
    let s = laying-same a.kind a.file.now a.start c.loop-i.i c.loop-i.count a.rows.now c.loop-i.rows c.loop-i.invariant in
    search rules

pub loop-i-preserved : goal.loop-i-preserved
loop-i-preserved c =
    let a = c.args in
    laying-more a.kind a.file.now a.start c.loop-i.i c.loop-i.count a.rows.now c.loop-i.rows c.loop-i.invariant (omega (arith, c.pieces_of-blocks.ensures, c.loop-i-test.true)) c.requires.good c.count_in.result c.count_in.ensures c.requires.kind c.read_numbers.new.rows c.read_numbers.ensures

pub returns : goal.returns
returns c =
    let a = c.args in
    laying-end a.kind a.file.now a.start c.loop-i.i c.loop-i.count a.rows.now c.loop-i.rows c.loop-i.invariant (omega (arith, c.pieces_of-blocks.ensures))
