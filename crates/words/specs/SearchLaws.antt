-- The laws of the search for a row: its steps, the bounds of a row's cells, and what the first is among those that pass the test. Assumes nothing.
use Rattle.std.specs.Prelude.{ℕ, zero, suc, ◌+◌, ◌*◌, ◌-◌, ◌/◌, ◌≤◌, ◌<◌, ◌≡◌, refl, Bool, true, false, ◌&&◌, List, [], ◌∷◌, length, get_or, min, ltb, if◌then◌else◌, None, Option, Some}
use Rattle.std.proofs.Common.{sym, ap, ◌∙◌, arith, div-mul-le_self, mul-le-mul_right, suc-mul, add-one, ltb-true}
use Rattle.std.proofs.lemmas.Bool.{false≢true}
use Rattle.std.specs.List.{list_all}
use Rattle.std.proofs.lemmas.List.Recursion.{and_at}
use Rattle.std.proofs.Common.{drop, drop-cons, drop_of_length-le}
use Rattle.std.proofs.Math.Nat.{min-eq_left}
use Rattle.rules.specs.Base.{every, those, some_of, from}
use Rattle.words.specs.declared.Cell.{Cell}
use Rattle.words.specs.Search.{first_from, matches, in_row, next_row}

one_more : (n j : ℕ) → j < n → n - j ≡ suc (n - (j + 1))
one_more n j h = omega arith

none_left : (n j : ℕ) → n ≤ j → n - j ≡ 0
none_left n j h = omega arith

-- the steps of a search that goes from `row` to before `end`
module _ (test : ℕ → Bool) (row end : ℕ) where
  -- no row is left
  pub search-end : end ≤ row → first_from test row (end - row) ≡ None
  search-end h = rw (none_left end row h)

  -- the row passes the test
  pub search-hit : row < end → test row ≡ true → first_from test row (end - row) ≡ Some row
  search-hit h passes = rw (one_more end row h, passes)

  -- it does not
  pub search-skip : row < end → test row ≡ false → first_from test row (end - row) ≡ first_from test (row + 1) (end - (row + 1))
  search-skip h fails = rw (one_more end row h, fails, add-one)

-- a cell of a whole row is one of the words
cell_in : (n width row at : ℕ) → row < n / width → at < width → row * width + at < n
cell_in n width row at whole inside =
    omega (arith, mul-le-mul_right width whole, suc-mul row width, div-mul-le_self n width)

and_both : (a b : Bool) → a && b ≡ true → (a ≡ true) × (b ≡ true)
and_both true b h = (refl, h)
and_both false b h = elim (false≢true h) [ ]

and-if : (a b : Bool) → (if a then b else false) ≡ a && b
and-if true b = refl
and-if false b = refl

every-at : {A : Type 0} (test : A → Bool) (xs : List A) (i : ℕ) (d : A) → i < length xs → every test xs ≡ true → test (get_or xs i d) ≡ true
every-at test = and_at (every test) test refl (λ x xs. and-if (test x) (every test xs))

pub every-all : {A : Type 0} (test : A → Bool) (xs : List A) → every test xs ≡ list_all test xs
every-all test [] = refl
every-all test (x ∷ xs) = and-if (test x) (every test xs) ∙ ap (λ rest. test x && rest) (every-all test xs)

-- what the rest of a list says, by its next element
module _ {A : Type 0} (test : A → Bool) (xs : List A) (i : ℕ) (d : A) (l : i < length xs) where
  pub every_next : test (get_or xs i d) ≡ true → every test (drop i xs) ≡ every test (drop (i + 1) xs)
  every_next e = ap (every test) (drop-cons xs i d l) ∙ rw (e, add-one)

  pub every_stops : test (get_or xs i d) ≡ false → every test (drop i xs) ≡ false
  every_stops e = ap (every test) (drop-cons xs i d l) ∙ rw e

pub every_none : {A : Type 0} (test : A → Bool) (xs : List A) (i : ℕ) → length xs ≤ i → every test (drop i xs) ≡ true
every_none test xs i l = ap (every test) (drop_of_length-le xs l)

module _ (key : List Cell) (width : ℕ) (inside : in_row key width ≡ true) where
  pub row-wide : 0 < width
  row-wide = ltb-true _ _ (and_both _ _ inside).0

  -- a whole row starts among the words
  pub row_among : (n row : ℕ) → row < n / width → row * width < n
  row_among n row whole = omega (arith, cell_in n width row 0 whole row-wide)

  -- each of the key's cells is a cell of a row
  pub cell-inside : (i : ℕ) (d : Cell) → i < length key → (get_or key i d).at < width
  cell-inside i d l = ltb-true _ _ (every-at (λ (cell : Cell). ltb cell.at width) key i d l (and_both _ _ inside).1)

  -- of a whole row it is one of the words
  pub cell_among : (n row i : ℕ) (d : Cell) → row < n / width → i < length key → row * width + (get_or key i d).at < n
  cell_among n row i d whole l = cell_in n width row (get_or key i d).at whole (cell-inside i d l)

-- ---- the search of a key
module _ (key : List Cell) (width from rows : ℕ) (words : List ℕ) where
  -- a key that has a cell beyond the row is nowhere
  pub next-row-none : in_row key width ≡ false → next_row key width from rows words ≡ None
  unfolding next_row
  next-row-none beyond = rw beyond

  -- the rows that are searched, where it has none
  pub next-row-some : in_row key width ≡ true → next_row key width from rows words ≡ first_from (matches key width words) from (min rows (length words / width) - from)
  unfolding next_row
  next-row-some inside = rw inside

  -- where there are as many rows as are asked for
  pub next-row-first : in_row key width ≡ true → rows ≤ length words / width → next_row key width from rows words ≡ first_from (matches key width words) from (rows - from)
  next-row-first inside whole = next-row-some inside ∙ rw (min-eq_left whole)

-- ---- the first of those that pass the test
abbrev pub is_found : Option ℕ → Bool
is_found (Some j) = true
is_found None = false

-- j is the first of the n from k on that pass the test, and the others come after it
abbrev pub IsFirst : (ℕ → Bool) → ℕ → ℕ → ℕ → Type 0
IsFirst test k n j =
    (k ≤ j) × (j < k + n) × (test j ≡ true) × (those test (from k n) ≡ j ∷ those test (from (suc j) (k + n - suc j)))

pub found-not : (j : ℕ) → Some j ≡ None → ⊥
found-not j h = let z : ◌≡◌ {A = ℕ} 0 1 = cc in omega arith

module _ (test : ℕ → Bool) where
  pub first-at : (k n j : ℕ) → first_from test k n ≡ Some j → IsFirst test k n j
  first-at k zero j h = elim (found-not j (sym h)) [ ]
  first-at k (suc n) j h = by (test k) refl h (first-at (suc k) n j)
    where
      by : (t : Bool) → test k ≡ t → (if t then Some k else first_from test (suc k) n) ≡ Some j → (first_from test (suc k) n ≡ Some j → IsFirst test (suc k) n j) → IsFirst test k (suc n) j
      by true passes h later =
          let same : k ≡ j = cc in
          let left : n ≡ k + suc n - suc k = omega arith in
          rw (← same, passes) (omega arith, omega arith, refl, ap (λ (m : ℕ). k ∷ those test (from (suc k) m)) left)
      by false fails h later =
          let l = later h in
          let left : suc k + n - suc j ≡ k + suc n - suc j = omega arith in
          rw fails (omega arith, omega arith, l.2, l.3 ∙ ap (λ (m : ℕ). j ∷ those test (from (suc j) m)) left)

  pub first-nothing : (k n : ℕ) → first_from test k n ≡ None → those test (from k n) ≡ []
  first-nothing k zero h = refl
  first-nothing k (suc n) h = by (test k) h (first-nothing (suc k) n)
    where
      by : (t : Bool) → (if t then Some k else first_from test (suc k) n) ≡ None → (first_from test (suc k) n ≡ None → those test (from (suc k) n) ≡ []) → (if t then k ∷ those test (from (suc k) n) else those test (from (suc k) n)) ≡ []
      by true h later = elim (found-not k h) [ ]
      by false h later = later h

  pub first_some : (k n : ℕ) → is_found (first_from test k n) ≡ some_of test (from k n)
  first_some k zero = refl
  first_some k (suc n) = by (test k) (first_some (suc k) n)
    where
      by : (t : Bool) → is_found (first_from test (suc k) n) ≡ some_of test (from (suc k) n) → is_found (if t then Some k else first_from test (suc k) n) ≡ (if t then true else some_of test (from (suc k) n))
      by true later = refl
      by false later = later

-- tests that agree on these rows find the same
pub first-ext : (f g : ℕ → Bool) (k n : ℕ) → ((j : ℕ) → k ≤ j → j < k + n → f j ≡ g j) → first_from f k n ≡ first_from g k n
first-ext f g k zero agree = refl
first-ext f g k (suc n) agree =
    rw (agree k (omega arith) (omega arith), first-ext f g (suc k) n (λ j h below. agree j (omega arith) (omega arith)))

-- a search up to a count that is the list's length
pub found-to : (test : ℕ → Bool) (start end n : ℕ) (r x : Option ℕ) → end ≡ n → r ≡ first_from test start (n - start) → r ≡ x → first_from test start (end - start) ≡ x
found-to test start end n r x whole h e = rw whole (sym h ∙ e)
