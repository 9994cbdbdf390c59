-- `trace_files::write_kind` meets its contract. Assumes nothing.
use mathlib.Core.Path.{sym, ap, ◌∙◌}
use native.Mathlib.Nat.{div-mul-le_self}
use native.Mathlib.Omega.{arith}
use lib.ListN.{length}
use Rattle.std.specs.Prelude.{Ok}
use Rattle.trace_files.specs.Files.{file_after}
use Rattle.trace_files.specs.Answers.{written_is}
use Rattle.trace_blocks.specs.BlockLaws.{kind-is}
use Rattle.trace_files.specs.WriteTests.{start-over, start_under, too_many, no_room, is-written, bytes-are, whole-lent, whole-rows, whole-pieces, file-long, numbers_fit}
use borrow.Author.Rules.{rules}
use Rattle.trace_files.proofs.write_kind.Goals as goal

pub nonzero_div-count : goal.nonzero_div-count
nonzero_div-count c =
    (kind-is c.args.kind c.requires).wide

pub nonzero_div-most : goal.nonzero_div-most
nonzero_div-most c =
    (kind-is c.args.kind c.requires).some-rows

pub returns-then-most-start : goal.returns-then-most-start
returns-then-most-start c =
    let a = c.args in
    let over = start-over a.kind.most a.start (kind-is a.kind c.requires).some-rows c.if-most-start.true in
    let e = too_many a.kind a.rows.now a.start (length a.file.now) (omega arith) in
    record { answers = sym (ap written_is e); leaves = sym (ap (file_after a.file.now) e) }

pub overflow_mul-most : goal.overflow_mul-most
overflow_mul-most c =
    let a = c.args in
    let under = start_under a.kind.most a.start (kind-is a.kind c.requires).some-rows c.if-most-start.false in
    record { fits = omega arith }

pub overflow_sub-most : goal.overflow_sub-most
overflow_sub-most c =
    let a = c.args in
    start_under a.kind.most a.start (kind-is a.kind c.requires).some-rows c.if-most-start.false

pub returns-then-most-start-2 : goal.returns-then-most-start-2
returns-then-most-start-2 c =
    let a = c.args in
    let e = too_many a.kind a.rows.now a.start (length a.file.now) (omega arith) in
    record { answers = sym (ap written_is e); leaves = sym (ap (file_after a.file.now) e) }

pub returns-then-file-bytes : goal.returns-then-file-bytes
returns-then-file-bytes c =
    let a = c.args in
    let bytes = bytes-are a.kind (length a.rows.now) (omega arith) in
    let e = no_room a.kind a.rows.now a.start (length a.file.now) (omega arith) in
    record { answers = sym (ap written_is e); leaves = sym (ap (file_after a.file.now) e) }

pub overflow_mul-count : goal.overflow_mul-count
overflow_mul-count c =
    let a = c.args in
    let h = div-mul-le_self (length a.rows.now) a.kind.width in
    record { fits = omega arith }

pub slice_bounds-write_blocks-end : goal.slice_bounds-write_blocks-end
slice_bounds-write_blocks-end c =
    let a = c.args in
    let h = div-mul-le_self (length a.rows.now) a.kind.width in
    search rules

pub write_blocks-requires : goal.write_blocks-requires
write_blocks-requires c =
    let a = c.args in
    let k = c.requires in
    let under = start_under a.kind.most a.start (kind-is a.kind k).some-rows c.if-most-start.false in
    let bytes = bytes-are a.kind (length a.rows.now) (omega arith) in
    let pieces = whole-pieces a.kind k a.rows.now in
    record { kind = k; whole = rw (whole-lent a.kind k a.rows.now) (whole-rows a.kind k a.rows.now); few = rw (whole-lent a.kind k a.rows.now) (numbers_fit a.kind k a.rows.now a.start (omega arith)); room = rw (whole-lent a.kind k a.rows.now) (omega arith) }

pub returns : goal.returns
returns c =
    let a = c.args in
    let k = c.requires in
    let under = start_under a.kind.most a.start (kind-is a.kind k).some-rows c.if-most-start.false in
    let bytes = bytes-are a.kind (length a.rows.now) (omega arith) in
    let e = is-written a.kind a.rows.now a.start (length a.file.now) (omega arith) (omega arith) in
    record { answers = ap Ok (c.bytes_for-bytes.ensures ∙ bytes ∙ sym (file-long a.kind k a.rows.now a.start)) ∙ sym (ap written_is e); leaves = (rw (whole-lent a.kind k a.rows.now) at c.write_blocks.ensures) ∙ sym (ap (file_after a.file.now) e) }
