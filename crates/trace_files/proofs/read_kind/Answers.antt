-- `trace_files::read_kind` meets its contract. Assumes nothing.
use Prim.Native.Nat.{◌/◌}
use mathlib.Core.Path.{◌≡◌, sym, ap, ◌∙◌}
use lib.ListN.{length}
use borrow.Author.Rules.{rules}
use Rattle.trace_files.specs.Files.{rows_after}
use Rattle.trace_files.specs.Answers.{read_is}
use Rattle.trace_blocks.specs.BlockLaws.{kind-is}
use Rattle.trace_files.proofs.ReadLoop.{rest}
use Rattle.trace_files.proofs.ReadTests.{past_end, in-file, rows-read, err-keeps}
use Rattle.trace_files.proofs.read_kind.Goals as goal

pub returns-then-file-start : goal.returns-then-file-start
returns-then-file-start c =
    let a = c.args in
    let e = past_end a.kind a.file.now a.start (length a.rows.now / a.kind.width) c.if-file-start.true in
    record { answers = sym (ap (read_is a.kind) e); leaves = sym (ap (rows_after a.rows.now) e) }

pub nonzero_div-rows : goal.nonzero_div-rows
nonzero_div-rows c =
    (kind-is c.args.kind c.requires).wide

pub lay_blocks-requires : goal.lay_blocks-requires
lay_blocks-requires c =
    let a = c.args in
    record { kind = c.requires; good = rows-read a.kind c.judge_blocks.result (rest a.kind a.file.now a.start (length a.rows.now / a.kind.width)) c.in_ok-count.count c.judge_blocks.ensures c.in_ok-count.was }

pub returns-in_err-count : goal.returns-in_err-count
returns-in_err-count c =
    let a = c.args in
    let e = in-file a.kind a.file.now a.start (length a.rows.now / a.kind.width) c.if-file-start.false in
    let same : c.from_residual.result ≡ c.judge_blocks.result = search rules in
    record { answers = same ∙ c.judge_blocks.ensures ∙ sym (ap (read_is a.kind) e); leaves = err-keeps a.kind c.judge_blocks.result a.rows.now (rest a.kind a.file.now a.start (length a.rows.now / a.kind.width)) c.in_err-count.field-0.0 c.judge_blocks.ensures c.in_err-count.was ∙ sym (ap (rows_after a.rows.now) e) }

pub returns : goal.returns
returns c =
    let a = c.args in
    let e = in-file a.kind a.file.now a.start (length a.rows.now / a.kind.width) c.if-file-start.false in
    record { answers = sym c.in_ok-count.was ∙ c.judge_blocks.ensures ∙ sym (ap (read_is a.kind) e); leaves = c.lay_blocks.ensures ∙ sym (ap (rows_after a.rows.now) e) }
