-- A loop in place is the rules' sweep: `whole` is what is left of it from `here` on, whatever the log. One set of laws for every loop over places that a search finds. Assumes nothing.
use Rattle.std.specs.Prelude.{ℕ, suc, ◌+◌, ◌-◌, ◌≤◌, ◌<◌, ◌≡◌, Bool, false, List, None, Some}
use Rattle.std.proofs.Common.{sym, ap, ◌∙◌, arith, add-one}
use Rattle.std.proofs.Math.Nat.{sub-zero}
use Rattle.rules.specs.declared.Refusal.{Refusal}
use Rattle.rules.specs.Base.{Outcome, refused, done, ◌>>=◌, each, those, from}
use Rattle.rules.specs.Step.{Happening}
use Rattle.words.specs.Search.{first_from}
use Rattle.words.specs.SearchLaws.{search-end}
use Rattle.selection.specs.Selected.{sweep-on, sweep-end}

-- what stands somewhere, by the log so far
abbrev pub At-log : Type 0 → Type 0
At-log S = List Happening → S

-- an event leads from `here` to `there`
pub record Leads {S R : Type 0} (event : S → Outcome R) (here : At-log S) (there : At-log R) : Type 0 where
  pub more : List Happening → List Happening
  pub is : (log : List Happening) → event (here log) ≡ done (there (more log))

abbrev pub Stops : {S R : Type 0} → (S → Outcome R) → At-log S → Refusal → Type 0
Stops event here r = (log : List Happening) → event (here log) ≡ refused r

-- what is left of `whole` is to visit these, from `here` on
pub record Onward {S : Type 0} (visit : ℕ → S → Outcome S) (rest : List ℕ) (whole : At-log (Outcome S)) (here : At-log S) : Type 0 where
  pub more : List Happening → List Happening
  pub is : (log : List Happening) → whole log ≡ each visit rest (here (more log))

those-skip : (test : ℕ → Bool) (row end : ℕ) → row < end → test row ≡ false → those test (from row (end - row)) ≡ those test (from (row + 1) (end - (row + 1)))
those-skip test row end below fails = let left : end - row ≡ suc (end - (row + 1)) = omega arith in rw (left, fails, add-one)

module _ {S : Type 0} (visit : ℕ → S → Outcome S) where
  -- all that pass the test are left
  pub onward-start : (test : ℕ → Bool) (end : ℕ) (here : At-log S) → Onward visit (those test (from 0 (end - 0))) (λ log. each visit (those test (from 0 end)) (here log)) here
  onward-start test end here = record { more = λ log. log; is = λ log. ap (λ (n : ℕ). each visit (those test (from 0 n)) (here log)) (sym (sub-zero end)) }

  module _ (test : ℕ → Bool) (row end : ℕ) (whole : At-log (Outcome S)) (here : At-log S) (so_far : Onward visit (those test (from row (end - row))) whole here) where
    -- the next one is visited
    pub onward-on : (j : ℕ) (there : At-log S) → first_from test row (end - row) ≡ Some j → Leads (visit j) here there → Onward visit (those test (from (j + 1) (end - (j + 1)))) whole there
    onward-on j there found leads = record {
      more = λ log. leads.more (so_far.more log);
      is = λ log.
          so_far.is log ∙ sweep-on visit test row end (here (so_far.more log)) j found
          ∙ ap (λ (o : Outcome S). o >>= each visit (those test (from (j + 1) (end - (j + 1))))) (leads.is (so_far.more log));
    }

    -- and refuses
    pub onward_stops : (j : ℕ) (r : Refusal) → first_from test row (end - row) ≡ Some j → Stops (visit j) here r → (log : List Happening) → whole log ≡ refused r
    onward_stops j r found stops log =
        so_far.is log ∙ sweep-on visit test row end (here (so_far.more log)) j found
        ∙ ap (λ (o : Outcome S). o >>= each visit (those test (from (j + 1) (end - (j + 1))))) (stops (so_far.more log))

    -- one that does not pass the test is left out
    pub onward-skip : row < end → test row ≡ false → Onward visit (those test (from (row + 1) (end - (row + 1)))) whole here
    onward-skip below fails = record {
      more = so_far.more;
      is = λ log. so_far.is log ∙ ap (λ (l : List ℕ). each visit l (here (so_far.more log))) (those-skip test row end below fails);
    }

    -- none is left
    pub onward-none : first_from test row (end - row) ≡ None → Leads whole (λ log. log) here
    onward-none found = record { more = so_far.more; is = λ log. so_far.is log ∙ sweep-end visit test row end (here (so_far.more log)) found }

    pub onward-end : end ≤ row → Leads whole (λ log. log) here
    onward-end past = onward-none (search-end test row end past)
