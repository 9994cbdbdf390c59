-- `bench_file::read` meets its contract. The loop's invariant: the lines from here on, with what is filed, give what the whole file gives. Assumes nothing.
use mathlib.Core.Path.{◌≡◌}
use Prim.Native.Nat.{◌-◌, ◌≤◌}
use lib.ListN.{length, drop}
use Rattle.bench_words.specs.Splitting.{lines_of}
use Rattle.bench_file.specs.Filing.{pages_at, read_from, read_file}
use Rattle.bench_file.proofs.read.Given as goal

abbrev pub invariant-loop-at : goal.invariant-loop-at
invariant-loop-at l =
    (l.at ≤ length l.text) × (l.lines ≤ l.at) × (length l.models ≡ length l.initial.models) × (length l.connectors ≡ length l.initial.connectors) × (length l.couplings ≡ length l.initial.couplings) × (length l.services ≡ length l.initial.services) × (length l.actions ≡ length l.initial.actions)
    × (read_from (lines_of (drop l.at l.text)) l.lines l.counts (pages_at l.models l.connectors l.couplings l.services l.actions) ≡ read_file l.text (pages_at l.initial.models l.initial.connectors l.initial.couplings l.initial.services l.initial.actions))

abbrev pub decreases-loop-at : goal.decreases-loop-at
decreases-loop-at l = length l.text - l.at
