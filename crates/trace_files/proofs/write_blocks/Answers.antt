-- `trace_files::write_blocks` meets its contract. The loop's invariant: the first i blocks stand at the start of the file. Assumes nothing.
use Prim.Native.Nat.{ℕ, ◌<◌}
use mathlib.Core.Path.{◌≡◌, ap, ◌∙◌}
use native.Mathlib.Omega.{arith}
use lib.ListN.{length}
use Rattle.words.specs.Laying.{over}
use Rattle.trace_files.specs.Files.{pieces, full_of, blocks_of}
use Rattle.trace_blocks.specs.BlockLaws.{kind-is}
use Rattle.trace_files.specs.PieceLaws.{piece_inside}
use Rattle.trace_files.specs.KindLaws.{full-some}
use Rattle.trace_files.specs.WriteLoop.{written-more}
use borrow.Author.Rules.{rules}
use Rattle.trace_files.proofs.write_blocks.Goals as goal

pub overflow_mul-full : goal.overflow_mul-full
overflow_mul-full c =
    let k = kind-is c.args.kind c.requires.kind in
    record { fits = omega arith }

pub pieces_of-blocks-requires : goal.pieces_of-blocks-requires
pieces_of-blocks-requires c =
    full-some c.args.kind c.requires.kind

pub overflow_mul-from : goal.overflow_mul-from
overflow_mul-from c =
    let a = c.args in
    let h = piece_inside (full_of a.kind) (length a.rows.now) c.loop-i.i (full-some a.kind c.requires.kind) (omega (arith, c.pieces_of-blocks.ensures, c.loop-i-test.true)) in
    record { fits = omega arith }

pub part_end-end-requires : goal.part_end-end-requires
part_end-end-requires c =
    let a = c.args in
    let h = piece_inside (full_of a.kind) (length a.rows.now) c.loop-i.i (full-some a.kind c.requires.kind) (omega (arith, c.pieces_of-blocks.ensures, c.loop-i-test.true)) in
    omega arith

pub offset_bounds-rows-from : goal.offset_bounds-rows-from
offset_bounds-rows-from c =
    let a = c.args in
    let h = piece_inside (full_of a.kind) (length a.rows.now) c.loop-i.i (full-some a.kind c.requires.kind) (omega (arith, c.pieces_of-blocks.ensures, c.loop-i-test.true)) in
    search rules

pub slice_bounds-write_block-end : goal.slice_bounds-write_block-end
slice_bounds-write_block-end c =
    let a = c.args in
    let h = piece_inside (full_of a.kind) (length a.rows.now) c.loop-i.i (full-some a.kind c.requires.kind) (omega (arith, c.pieces_of-blocks.ensures, c.loop-i-test.true)) in
    search rules

pub loop-i-preserved : goal.loop-i-preserved
loop-i-preserved c =
    let a = c.args in
    let l = c.loop-i in
    let inside : l.i < pieces (full_of a.kind) (length a.rows.now) = omega (arith, c.pieces_of-blocks.ensures, c.loop-i-test.true) in (
      written-more a.kind a.start a.rows.now c.requires.kind c.requires.whole l.i inside a.file.now l.file c.requires.room l.invariant.0 l.invariant.1 c.part_end-end.result _ c.part_end-end.ensures c.write_block.ensures.leaves,
      search rules,
    )

pub returns : goal.returns
returns c =
    let all : c.loop-i.i ≡ pieces (full_of c.args.kind) (length c.args.rows.now) = omega (arith, c.pieces_of-blocks.ensures, c.loop-i-test.false) in
    c.loop-i.invariant.0 ∙ ap (λ (n : ℕ). over (blocks_of c.args.kind c.args.start c.args.rows.now n) c.args.file.now) all
