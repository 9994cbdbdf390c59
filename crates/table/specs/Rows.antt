-- Rows of words, of any width above 0: how many there are, which words each has, and which are whole. Assumes nothing.
use Rattle.std.specs.Prelude.{ℕ, zero, suc, ◌+◌, ◌-◌, ◌*◌, ◌≤◌, ◌<◌, min, ◌≡◌, refl, ◌↔◌, List, [], ◌∷◌, map, length, get_or, take, drop}
use Rattle.std.proofs.Common.{sym, ap, ◌∙◌, suc-mul, zero-mul, le_antisymm, arith, length-take, length-drop, get_or-take, get_or-drop, drop-drop}
use Rattle.std.proofs.lemmas.Simd.{map-map}
use Rattle.std.proofs.Math.Nat.{min-eq_left, min-le_right}
use Rattle.std.proofs.Math.Decide.{dec_le}
use Rattle.rules.specs.Base.{from}
use Rattle.rules.specs.Layout.{cut, rows_of, cell}
use Rattle.table.specs.Readers.{row_of}

-- the rows of a slice, a row cut short counted
abbrev pub count_of : ℕ → List ℕ → ℕ
count_of width words = length (rows_of width words)

-- the rows are those at 0, 1, ..
pub rows_are : (width : ℕ) (words : List ℕ) → rows_of width words ≡ map (row_of width words) (from 0 (count_of width words))
rows_are width words = go (length words) 0 words (sym (ap (λ (n : ℕ). drop n words) (zero-mul width)))
  where
    go : (most k : ℕ) (rest : List ℕ) → rest ≡ drop (k * width) words → cut most width rest ≡ map (row_of width words) (from k (length (cut most width rest)))
    go zero k rest e = refl
    go (suc most) k [] e = refl
    go (suc most) k (x ∷ xs) e =
        let next : drop width (x ∷ xs) ≡ drop (suc k * width) words = ap (drop width) e ∙ drop-drop width (k * width) words ∙ ap (λ (n : ℕ). drop n words) (sym (suc-mul k width)) in
        λ i. take width (e i) ∷ go most (suc k) (drop width (x ∷ xs)) next i

-- what is made of each row
pub lines_are : {A : Type 0} (f : List ℕ → A) (width : ℕ) (words : List ℕ) → map f (rows_of width words) ≡ map (λ k. f (row_of width words k)) (from 0 (count_of width words))
lines_are f width words = ap (map f) (rows_are width words) ∙ map-map f (row_of width words) (from 0 (count_of width words))

module _ (width : ℕ) (wide : 0 < width) where
  below : (most : ℕ) (words : List ℕ) → length words ≤ most → (k : ℕ) → (k < length (cut most width words)) ↔ (k * width < length words)
  below zero words l k = (λ h. absurd (omega arith), λ h. omega arith)
  below (suc most) [] l k = (λ h. absurd (omega arith), λ h. absurd (omega arith))
  below (suc most) (x ∷ xs) l zero = (λ h. omega (arith, zero-mul width), λ h. omega arith)
  below (suc most) (x ∷ xs) l (suc k) =
      let d = length-drop width (x ∷ xs) in
      let m = suc-mul k width in
      let s : length (drop width (x ∷ xs)) ≤ most = omega arith in
      let r = below most (drop width (x ∷ xs)) s k in (
        λ h. (let g : k < length (cut most width (drop width (x ∷ xs))) = omega arith in let z = r.0 g in omega arith),
        λ h. (let g : k * width < length (drop width (x ∷ xs)) = omega arith in let z = r.1 g in omega arith),
      )

  -- the row k begins within the words
  pub row-begins : (words : List ℕ) (k : ℕ) → (k < count_of width words) ↔ (k * width < length words)
  row-begins words k = below (length words) words (omega arith) k

  -- n rows have room for the words
  pub rows_fit : (words : List ℕ) (n : ℕ) → (count_of width words ≤ n) ↔ (length words ≤ n * width)
  rows_fit words n =
      let r = row-begins words n in (
        λ h. elim (dec_le (length words) (n * width)) [ yes l ↦ l | no l ↦ absurd (let g = r.1 (let z : n * width < length words = omega arith in z) in omega arith) ],
        λ h. elim (dec_le (count_of width words) n) [ yes l ↦ l | no l ↦ absurd (let g = r.0 (let z : n < count_of width words = omega arith in z) in omega arith) ],
      )

  -- the row k is whole
  pub row-whole : (words : List ℕ) (k : ℕ) → (length (row_of width words k) ≡ width) ↔ (suc k * width ≤ length words)
  row-whole words k =
      let m = suc-mul k width in
      let e : length (row_of width words k) ≡ min width (length words - k * width) = rw (length-take, length-drop) in (
        λ h. (let l = min-le_right width (length words - k * width) in omega arith),
        λ h. e ∙ min-eq_left (omega arith),
      )

  -- where all rows are whole
  pub rows_whole : (words : List ℕ) → ((k : ℕ) → k < count_of width words → length (row_of width words k) ≡ width) → length words ≡ count_of width words * width
  rows_whole words whole = le_antisymm ((rows_fit words (count_of width words)).0 (omega arith)) (most (count_of width words) whole)
    where
      most : (n : ℕ) → ((k : ℕ) → k < n → length (row_of width words k) ≡ width) → n * width ≤ length words
      most zero f = omega (arith, zero-mul width)
      most (suc n) f = (row-whole words n).0 (f n (omega arith))

-- the word c of the row k
pub row-cell : (width : ℕ) (words : List ℕ) (k c : ℕ) → c < width → cell (row_of width words k) c ≡ get_or words (k * width + c) 0
row-cell width words k c l = rw (get_or-take, get_or-drop)
