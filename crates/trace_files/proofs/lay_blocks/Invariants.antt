-- `trace_files::lay_blocks` meets its contract. The loop's invariant: the numbers so far are laid at the start of the rows, and stand before the answer of the blocks from block i on. Assumes nothing.
use Rattle.trace_files.proofs.ReadLoop.{Laying}
use Rattle.trace_files.proofs.lay_blocks.Given as goal

abbrev pub invariant-loop-i : goal.invariant-loop-i
invariant-loop-i l = Laying l.kind l.file l.start l.i l.count l.initial.rows l.rows
