-- Where at most one place passes the first of two tests, two searches tell which place passes both. Assumes nothing.
use Rattle.std.specs.Prelude.{ℕ, zero, suc, ◌+◌, ◌-◌, ◌≤◌, ◌<◌, ◌≡◌, refl, Bool, true, false, List, [], ◌∷◌, if◌then◌else◌, None, Some}
use Rattle.std.proofs.Common.{sym, ap, ◌∙◌, arith}
use Rattle.rules.specs.Base.{those, from}
use Rattle.words.specs.Search.{first_from}
use Rattle.words.specs.SearchLaws.{search-hit, first-at, first-nothing}

-- the two tests may be made in either order
those-turned : (f g : ℕ → Bool) (ks : List ℕ) → those f (those g ks) ≡ those g (those f ks)
those-turned f g [] = refl
those-turned f g (k ∷ ks) = by (f k) refl (g k) refl (those-turned f g ks)
  where
    by : (a : Bool) → f k ≡ a → (b : Bool) → g k ≡ b → those f (those g ks) ≡ those g (those f ks) → those f (if b then k ∷ those g ks else those g ks) ≡ those g (if a then k ∷ those f ks else those f ks)
    by true p true q later = rw (p, q) (ap (λ (l : List ℕ). k ∷ l) later)
    by true p false q later = rw q later
    by false p true q later = rw p later
    by false p false q later = later

none_pass : (test : ℕ → Bool) (k n : ℕ) → ((i : ℕ) → k ≤ i → i < k + n → test i ≡ true → ⊥) → those test (from k n) ≡ []
none_pass test k zero never = refl
none_pass test k (suc n) never = by (test k) refl (none_pass test (suc k) n (λ i h below. never i (omega arith) (omega arith)))
  where
    by : (b : Bool) → test k ≡ b → those test (from (suc k) n) ≡ [] → (if b then k ∷ those test (from (suc k) n) else those test (from (suc k) n)) ≡ []
    by true passes later = absurd (never k (omega arith) (omega arith) passes)
    by false fails later = later

-- `one` passes at one place at most of the n; `other` is any test
module _ (one other : ℕ → Bool) (n : ℕ) where
  -- no place passes the first
  pub both-nowhere : first_from one 0 n ≡ None → [] ≡ those one (those other (from 0 n))
  both-nowhere h = sym (those-turned one other (from 0 n) ∙ ap (those other) (first-nothing one 0 n h))

  module _ (unique : (i j : ℕ) → i < n → j < n → one i ≡ true → one j ≡ true → i ≡ j) (row : ℕ) (h : first_from one 0 n ≡ Some row) where
    only : those one (from 0 n) ≡ row ∷ []
    only =
        let first = first-at one 0 n row h in
        first.3
        ∙ ap (λ (l : List ℕ). row ∷ l)
        (none_pass one (suc row) (0 + n - suc row) (λ i above below passes. let same : i ≡ row = unique i row (omega arith) (omega arith) passes first.2 in omega arith))

    row_below : row < n
    row_below = let first = first-at one 0 n row h in omega arith

    both-are : those one (those other (from 0 n)) ≡ those other (row ∷ [])
    both-are = those-turned one other (from 0 n) ∙ ap (those other) only

    -- the second search begins at the row that the first found: it passes both where it is found again
    pub both-here : first_from other row (n - row) ≡ Some row → row ∷ [] ≡ those one (those other (from 0 n))
    both-here g = sym (both-are ∙ rw (first-at other row (n - row) row g).2)

    fails : (b : Bool) → other row ≡ b → (first_from other row (n - row) ≡ Some row → ⊥) → [] ≡ those one (those other (from 0 n))
    fails true e never = absurd (never (search-hit other row n row_below e))
    fails false e never = sym (both-are ∙ rw e)

    pub both-not : (first_from other row (n - row) ≡ Some row → ⊥) → [] ≡ those one (those other (from 0 n))
    both-not = fails (other row) refl
