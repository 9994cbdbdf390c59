use Rattle.std.proofs.Common.{length, ◌-◌, ◌≤◌, ◌≡◌}
use Rattle.listing.proofs.input.Source.fill.Given as goal

abbrev pub invariant-loop-length : goal.invariant-loop-length
invariant-loop-length l = (l.length ≤ length l.room) × (length l.room ≡ length l.initial.room)

abbrev pub decreases-loop-length : goal.decreases-loop-length
decreases-loop-length l = length l.initial.room - l.length
