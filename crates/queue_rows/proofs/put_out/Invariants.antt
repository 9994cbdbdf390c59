-- `queue_rows::put_out` meets its contract. The loop's invariant: `done` words are written, and the rest is as it was. Assumes nothing.
use mathlib.Core.Path.{◌≡◌}
use Prim.Native.Nat.{◌≤◌}
use lib.ListN.{length}
use Rattle.queue_rows.specs.Rows.{put_words}
use Rattle.queue_rows.proofs.put_out.Given as goal

abbrev pub invariant-loop-done : goal.invariant-loop-done
invariant-loop-done l = (l.done ≤ l.gone) × (l.mem ≡ put_words l.begin l.at l.port l.initial.mem l.done) × (length l.mem ≡ length l.initial.mem)
