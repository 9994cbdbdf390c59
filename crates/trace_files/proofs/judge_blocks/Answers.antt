-- `trace_files::judge_blocks` meets its contract. The loop's invariant: the rows so far stand before the answer of the blocks from block i on. Assumes nothing.
use Rattle.std.specs.Prelude.{◌≡◌, None}
use native.Mathlib.Omega.{arith}
use borrow.Author.Rules.{rules}
use lib.ListN.{length}
use Rattle.trace_files.specs.PieceLaws.{piece_inside}
use Rattle.trace_files.proofs.ReadLoop.{judging-cut, judging-told, judging-full, judging-more, judging-end}
use Rattle.trace_files.proofs.judge_blocks.Goals as goal

pub overflow_mul-at : goal.overflow_mul-at
overflow_mul-at c =
    let h = piece_inside 512 (length c.args.file.now) c.loop-i.i (omega arith) (omega (arith, c.pieces_of-blocks.ensures)) in
    record { fits = omega arith }

pub overflow_sub-left : goal.overflow_sub-left
overflow_sub-left c =
    let h = piece_inside 512 (length c.args.file.now) c.loop-i.i (omega arith) (omega (arith, c.pieces_of-blocks.ensures)) in
    omega arith

pub returns-then-left-lt-BLOCK_BYTES : goal.returns-then-left-lt-BLOCK_BYTES
returns-then-left-lt-BLOCK_BYTES c =
    let a = c.args in
    judging-cut a.kind a.file.now a.start a.room c.loop-i.i c.loop-i.rows c.loop-i.invariant (omega (arith, c.pieces_of-blocks.ensures)) c.if-left-lt-BLOCK_BYTES.true

pub returns-in_default : goal.returns-in_default
returns-in_default c =
    let a = c.args in
    let none : c.judge_block.result ≡ None = search rules in
    judging-told a.kind a.file.now a.start a.room c.loop-i.i c.loop-i.rows c.loop-i.invariant c.requires (omega (arith, c.pieces_of-blocks.ensures, c.loop-i-test.true)) c.if-left-lt-BLOCK_BYTES.false c.judge_block.result c.judge_block.ensures none

pub returns-then-room-rows : goal.returns-then-room-rows
returns-then-room-rows c =
    let a = c.args in
    judging-full a.kind a.file.now a.start a.room c.loop-i.i c.loop-i.rows c.loop-i.invariant c.requires (omega (arith, c.pieces_of-blocks.ensures, c.loop-i-test.true)) c.if-left-lt-BLOCK_BYTES.false c.judge_block.result c.judge_block.ensures c.in-Some.count c.in-Some.is c.if-room-rows.true

pub overflow_add-rows : goal.overflow_add-rows
overflow_add-rows c =
    let f = c.loop-i.invariant.fits in
    record { fits = omega (arith, c.ranges.room, c.if-room-rows.false) }

pub loop-i-preserved : goal.loop-i-preserved
loop-i-preserved c =
    let a = c.args in
    judging-more a.kind a.file.now a.start a.room c.loop-i.i c.loop-i.rows c.loop-i.invariant c.requires (omega (arith, c.pieces_of-blocks.ensures, c.loop-i-test.true)) c.if-left-lt-BLOCK_BYTES.false c.judge_block.result c.judge_block.ensures c.in-Some.count c.in-Some.is c.if-room-rows.false

pub returns : goal.returns
returns c =
    let a = c.args in
    judging-end a.kind a.file.now a.start a.room c.loop-i.i c.loop-i.rows c.loop-i.invariant c.requires (omega (arith, c.pieces_of-blocks.ensures))
