-- A full block of a kind has numbers. Assumes nothing.
use Rattle.std.specs.Prelude.{◌*◌, ◌≤◌, ◌≡◌, true}
use Rattle.std.proofs.Math.Nat.{one-le-mul}
use Rattle.trace_blocks.specs.declared.BlockKind.{BlockKind}
use Rattle.trace_blocks.specs.Blocks.{is_kind}
use Rattle.trace_blocks.specs.BlockLaws.{kind-is}

pub full-some : (kind : BlockKind) → is_kind kind ≡ true → 1 ≤ kind.width * kind.most
full-some kind e = let k = kind-is kind e in one-le-mul k.wide k.some-rows
