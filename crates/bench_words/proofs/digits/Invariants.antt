-- `bench_words::digits` meets its contract. The loop's invariant: the numeral from here on is the whole numeral. Assumes nothing.
use Rattle.std.specs.Prelude.{◌≡◌, ◌≤◌, drop}
use Rattle.bench_words.specs.Numbers.{numeral}
use Rattle.bench_words.proofs.digits.Given as goal

abbrev pub invariant-loop-b : goal.invariant-loop-b
invariant-loop-b l = (l.value ≤ l.most) × (numeral l.base l.most l.value (drop l.b-index l.word) ≡ numeral l.base l.most l.before l.word)
