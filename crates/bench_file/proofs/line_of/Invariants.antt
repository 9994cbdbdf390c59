-- `bench_file::line_of` meets its contract. The loop's invariant: the line is among those from here on, with so many rows before it. Assumes nothing.
use mathlib.Core.Path.{◌≡◌}
use Prim.Native.Nat.{◌-◌, ◌≤◌}
use lib.ListN.{length, drop}
use Rattle.bench_words.specs.Splitting.{lines_of}
use Rattle.bench_file.specs.Filing.{line_in, line_of}
use Rattle.bench_file.proofs.line_of.Given as goal

abbrev pub invariant-loop-at : goal.invariant-loop-at
invariant-loop-at l =
    (l.at ≤ length l.text) × (l.number ≤ l.at) × (line_in l.page (lines_of (drop l.at l.text)) l.number l.left ≡ line_of l.page l.row l.text)

abbrev pub decreases-loop-at : goal.decreases-loop-at
decreases-loop-at l = length l.text - l.at
