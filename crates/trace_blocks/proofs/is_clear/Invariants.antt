-- `trace_blocks::is_clear` meets its contract. The loop's invariant: the words from here on decide as all of them. Assumes nothing.
use mathlib.Core.Path.{◌≡◌}
use Rattle.trace_blocks.specs.PairLaws.{clear_from}
use Rattle.trace_blocks.proofs.is_clear.Given as goal

abbrev pub invariant-loop-pair : goal.invariant-loop-pair
invariant-loop-pair l = clear_from l.block l.pair ≡ clear_from l.block l.first
