-- `host::jt_write_trace` meets its contract. Assumes nothing.
use mathlib.Core.Path.{◌∙◌}
use lib.ListN.{length}
use Rattle.trace_blocks.specs.Blocks.{six}
use Rattle.std.specs.Prelude.{Ok, Err}
use Rattle.trace_files.specs.Files.{write_trace}
use Rattle.host.specs.NumberLaws.{written-told}
use Rattle.host.proofs.jt_write_trace.Goals as goal

pub returns-in-Ok : goal.returns-in-Ok
returns-in-Ok c =
    let a = c.args in
    let h = written-told a.written.now (write_trace six a.rows.now a.start (length a.file.now)) c.write_trace.result (Ok c.in-Ok.bytes) c.write_trace.ensures.answers c.in-Ok.is in
    record { answers = h.0; leaves = c.write_trace.ensures.leaves; tells = h.1 }

pub returns-in-Err : goal.returns-in-Err
returns-in-Err c =
    let a = c.args in
    let h = written-told a.written.now (write_trace six a.rows.now a.start (length a.file.now)) c.write_trace.result (Err c.in-Err.refusal) c.write_trace.ensures.answers c.in-Err.is in
    record { answers = c.number.ensures ∙ h.0; leaves = c.write_trace.ensures.leaves; tells = h.1 }
