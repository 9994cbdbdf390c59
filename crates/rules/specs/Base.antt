-- The words that the rules are written in: an outcome, a choice, a sweep over a list. Definitions only. Assumes nothing.
use Rattle.std.specs.Prelude.{ℕ, zero, suc, Bool, true, false, List, [], ◌∷◌, length, leb, if◌then◌else◌, Option, None, Some}
use Rattle.rules.specs.declared.Refusal.{Refusal}

infixl 5 ◌>>=◌
-- what was done, or a refusal, which holds nothing else: "A refused call returns its number and changes neither the simulation .. nor any lent buffer."
pub data Outcome (A : Type 0) : Type 0 where
  refused : Refusal → Outcome A
  done : A → Outcome A

-- go on with what was done: "the first refusal met in the order below is given"
abbrev pub ◌>>=◌ : {A B : Type 0} → Outcome A → (A → Outcome B) → Outcome B
refused r >>= next = refused r
done a >>= next = next a

-- `visit` each element in order
abbrev pub each : {A S : Type 0} → (A → S → Outcome S) → List A → S → Outcome S
each visit [] s = done s
each visit (x ∷ xs) s = visit x s >>= each visit xs

-- those that pass the test, in order
abbrev pub those : {A : Type 0} → (A → Bool) → List A → List A
those test [] = []
those test (x ∷ xs) = let rest = those test xs in if test x then x ∷ rest else rest

-- what `choose` makes of each, in order, where it makes something
abbrev pub chosen : {A B : Type 0} → (A → Option B) → List A → List B
chosen choose [] = []
chosen choose (x ∷ xs) = let rest = chosen choose xs in elim (choose x) [ None ↦ rest | Some y ↦ y ∷ rest ]

-- every element passes the test
abbrev pub every : {A : Type 0} → (A → Bool) → List A → Bool
every test [] = true
every test (x ∷ xs) = let rest = every test xs in if test x then rest else false

-- some element passes the test
abbrev pub some_of : {A : Type 0} → (A → Bool) → List A → Bool
some_of test [] = false
some_of test (x ∷ xs) = let rest = some_of test xs in if test x then true else rest

-- all of these tests hold
abbrev pub hold : List Bool → Bool
hold [] = true
hold (b ∷ bs) = if b then hold bs else false

-- k numbers from j on: j, j + 1, ..
abbrev pub from : ℕ → ℕ → List ℕ
from j zero = []
from j (suc k) = j ∷ from (suc j) k

abbrev pub is_empty : {A : Type 0} → List A → Bool
is_empty [] = true
is_empty (x ∷ xs) = false

-- the list, if it has at most `most` elements
abbrev pub at_most : {A : Type 0} → ℕ → Refusal → List A → Outcome (List A)
at_most most refusal xs = if leb (length xs) most then done xs else refused refusal
