-- `words::shift` meets its contract. The loop's invariant: `place` words have moved to the front, and the rest is as it was. Assumes nothing.
use mathlib.Core.Path.{◌≡◌}
use lib.ListN.{length}
use Rattle.words.proofs.Laws.{moved}
use Rattle.words.proofs.shift.Given as goal

abbrev pub invariant-loop-place : goal.invariant-loop-place
invariant-loop-place l =
    (l.words ≡ moved l.gone l.place l.initial.words) × (length l.words ≡ length l.initial.words)
