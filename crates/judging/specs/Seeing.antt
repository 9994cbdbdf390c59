-- Words against those that were told. Definitions only. Assumes nothing.
use Rattle.std.specs.Prelude.{ℕ, Bool, true, false, List, length, take, drop, ◌==◌, eqb, ltb, Result, Ok, Err}
use Rattle.std.specs.List.{zip, prefix_len, list_all}
use Rattle.judging.specs.declared.Differs.{Differs}
use Rattle.judging.specs.declared.Differs.TheVariants.{Answer, State, Wrong}

-- nothing differs, or where it differs first
abbrev pub Seen : Type 0
Seen = Result Unit Differs

abbrev pub is_same : Seen → Bool
is_same (Ok u) = true
is_same (Err differs) = false

-- how many of the first words are the others' first, up to the first that differs
abbrev pub alike : List ℕ → List ℕ → ℕ
alike xs ys = prefix_len (λ p. p.0 == p.1) (zip xs ys)

-- every word is as it was lent
abbrev pub untouched : List ℕ → Bool
untouched xs = list_all (λ x. x == 11936128518282651045) xs

abbrev pub pick : Bool → Seen → Seen → Seen
pick true a b = a
pick false a b = b

-- some words, as many as there are; the first that is not as told; the first behind them, where one was written there
abbrev pub answer_seen : List ℕ → ℕ → List ℕ → Seen
answer_seen words count said =
    pick (eqb count 0) (Err Wrong)
    (pick (ltb (length words) count) (Err Wrong)
    (pick (ltb (alike (take count words) said) count) (Err (Answer (alike (take count words) said)))
    (pick (untouched (drop count words)) (Ok tt) (Err (Answer count)))))

abbrev pub state_seen : List ℕ → List ℕ → Seen
state_seen words told = pick (ltb (alike words told) (length words)) (Err (State (alike words told))) (Ok tt)
