-- `host::jt_read_trace` meets its contract. Assumes nothing.
use Prim.Native.Nat.{◌/◌}
use mathlib.Core.Path.{◌∙◌}
use lib.ListN.{length}
use borrow.Author.Rules.{rules}
use Rattle.trace_blocks.specs.Blocks.{six}
use Rattle.std.specs.Prelude.{Ok, Err}
use Rattle.trace_files.specs.declared.ReadError.TheVariants.{BadBlock, NoRoom}
use Rattle.trace_files.specs.Files.{read_trace}
use Rattle.host.specs.NumberLaws.{read_told}
use Rattle.host.proofs.jt_read_trace.Goals as goal

pub returns-in-Ok : goal.returns-in-Ok
returns-in-Ok c =
    let a = c.args in
    let h = read_told a.report.now (read_trace six a.file.now a.start (length a.rows.now / 6)) c.read_trace.result (Ok c.in-Ok.count) c.read_trace.ensures.answers c.in-Ok.is in
    record { answers = c.place.ensures.answers ∙ h.0; lays = c.read_trace.ensures.leaves; tells = c.place.ensures.tells ∙ h.1 }

pub returns-in-Err-BadBlock : goal.returns-in-Err-BadBlock
returns-in-Err-BadBlock c =
    let a = c.args in
    let h = read_told a.report.now (read_trace six a.file.now a.start (length a.rows.now / 6)) c.read_trace.result (Err (BadBlock c.in-Err-BadBlock.block)) c.read_trace.ensures.answers (search rules) in
    record { answers = c.place-in-Err-BadBlock.ensures.answers ∙ h.0; lays = c.read_trace.ensures.leaves; tells = c.place-in-Err-BadBlock.ensures.tells ∙ h.1 }

pub returns-in-Err-NoRoom : goal.returns-in-Err-NoRoom
returns-in-Err-NoRoom c =
    let a = c.args in
    let h = read_told a.report.now (read_trace six a.file.now a.start (length a.rows.now / 6)) c.read_trace.result (Err NoRoom) c.read_trace.ensures.answers (search rules) in
    record { answers = c.place-in-Err-NoRoom.ensures.answers ∙ h.0; lays = c.read_trace.ensures.leaves; tells = c.place-in-Err-NoRoom.ensures.tells ∙ h.1 }
