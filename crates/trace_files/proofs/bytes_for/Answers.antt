-- `trace_files::bytes_for` meets its contract. Assumes nothing.
use Prim.Native.Nat.{◌/◌}
use native.Mathlib.Omega.{arith}
use borrow.Author.Tests.{le-leb, lt-leb}
use Rattle.trace_files.specs.Files.{trace_bytes}
use Rattle.trace_files.specs.PieceLaws.{pieces-most}
use Rattle.trace_blocks.specs.BlockLaws.{kind-is}
use Rattle.trace_files.proofs.bytes_for.Goals as goal

pub nonzero_div-count : goal.nonzero_div-count
nonzero_div-count c =
    let k = kind-is c.args.kind c.requires in
    omega arith

pub returns-then-count-gt-MOST_TRACED : goal.returns-then-count-gt-MOST_TRACED
unfolding trace_bytes
returns-then-count-gt-MOST_TRACED c =
    rw (lt-leb (c.args.numbers / c.args.kind.width) 4_294_967_296 c.if-count-gt-MOST_TRACED.true)

pub pieces_of-requires : goal.pieces_of-requires
pieces_of-requires c =
    (kind-is c.args.kind c.requires).some-rows

pub overflow_mul-result : goal.overflow_mul-result
overflow_mul-result c =
    let k = kind-is c.args.kind c.requires in
    omega (arith, pieces-most c.args.kind.most (c.args.numbers / c.args.kind.width) k.some-rows, c.pieces_of.ensures)

pub returns : goal.returns
unfolding trace_bytes
returns c =
    rw (le-leb (c.args.numbers / c.args.kind.width) 4_294_967_296 c.if-count-gt-MOST_TRACED.false) (omega (arith, c.pieces_of.ensures))
