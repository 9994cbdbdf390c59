-- `bench_words::span_end` meets its contract. The loop's invariant: the span from here on ends where the whole does. Assumes nothing.
use Rattle.std.specs.Prelude.{◌≡◌, ℕ, ◌+◌, Bool, drop}
use Rattle.bench_words.specs.Splitting.{span_of}
use Rattle.bench_words.proofs.span_end.Given as goal

abbrev pub invariant-loop-at : goal.invariant-loop-at
invariant-loop-at g l =
    (passes : ℕ → Bool) → ((b : ℕ) (r : Bool) → goal.F-post g l.test b r → r ≡ passes b) → l.from + span_of passes (drop l.from l.bytes) ≡ l.at + span_of passes (drop l.at l.bytes)
