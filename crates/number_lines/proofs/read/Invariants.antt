-- `read`: a number for each word of the room, and never past the line.
use Rattle.std.proofs.Common.{◌≡◌, ◌≤◌, length}
use Rattle.number_lines.proofs.read.Given as goal

abbrev pub invariant-loop-word : goal.invariant-loop-word
invariant-loop-word l = (l.count ≡ l.word-index) × (l.at ≤ length l.line)
