-- `trace_files::write_blocks` meets its contract. The loop's invariant: the first i blocks stand at the start of the file. Assumes nothing.
use mathlib.Core.Path.{◌≡◌}
use lib.ListN.{length}
use Rattle.words.specs.Laying.{over}
use Rattle.trace_files.specs.Files.{blocks_of}
use Rattle.trace_files.proofs.write_blocks.Given as goal

abbrev pub invariant-loop-i : goal.invariant-loop-i
invariant-loop-i l =
    (l.file ≡ over (blocks_of l.kind l.start l.rows l.i) l.initial.file) × (length l.file ≡ length l.initial.file)
