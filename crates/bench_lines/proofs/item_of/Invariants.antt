-- `bench_lines::item_of` meets its contract. The loop's invariant: the search from here on gives what the whole search gives. Assumes nothing.
use Rattle.std.specs.Prelude.{◌≡◌, drop}
use Rattle.bench_lines.specs.Forms.{item_named, items}
use Rattle.bench_lines.proofs.item_of.Given as goal

abbrev pub invariant-loop-item : goal.invariant-loop-item
invariant-loop-item l = item_named l.name (drop l.item-index items) ≡ item_named l.name items
