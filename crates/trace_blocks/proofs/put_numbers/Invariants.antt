-- `trace_blocks::put_numbers` meets its contract. The loop's invariant: the numbers before `i` are laid, and their words added. Assumes nothing.
use Prim.Native.Nat.{◌*◌, ◌≤◌}
use mathlib.Core.Path.{◌≡◌}
use lib.ListN.{length, take}
use Rattle.words.specs.Laying.{laid}
use Rattle.trace_blocks.specs.Blocks.{bytes_of, halves, sum}
use Rattle.trace_blocks.proofs.put_numbers.Given as goal

abbrev pub invariant-loop-i : goal.invariant-loop-i
invariant-loop-i l =
    (length l.block ≡ length l.initial.block) × (l.sum ≤ l.i * 0x2_0000_0000) × (l.sum ≡ sum (halves (take l.i l.rows))) × (l.block ≡ laid 8 (bytes_of (halves (take l.i l.rows))) l.initial.block)
