-- `pieces`: at most one byte is held of the piece before.
use Rattle.std.proofs.Common.{◌≡◌, ◌+◌, ◌≤◌, length}
use Rattle.listing.proofs.rows.Blocks.pieces.Given as goal

abbrev pub invariant-loop : goal.invariant-loop
invariant-loop l = (l.held ≤ 1) × (length l.piece ≡ l.end + 1)
