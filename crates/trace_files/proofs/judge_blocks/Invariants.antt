-- `trace_files::judge_blocks` meets its contract. The loop's invariant: the rows so far stand before the answer of the blocks from block i on. Assumes nothing.
use Rattle.trace_files.proofs.ReadLoop.{Judging}
use Rattle.trace_files.proofs.judge_blocks.Given as goal

abbrev pub invariant-loop-i : goal.invariant-loop-i
invariant-loop-i l = Judging l.kind l.file l.start l.room l.i l.rows
