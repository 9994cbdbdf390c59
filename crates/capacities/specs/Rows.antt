-- The rows of a slice one by one: how many omit the field, and the slice as the migration leaves it. Assumes nothing.
use Rattle.std.specs.Prelude.{ℕ, zero, suc, ◌+◌, ◌/◌, ◌%◌, ◌≤◌, ◌<◌, ◌≡◌, refl, Bool, true, false, List, [], ◌∷◌, ◌++◌, map, T, length, set, take, drop, if◌then◌else◌}
use Rattle.std.proofs.Common.{sym, ap, ◌∙◌, subst, append-nil, append_assoc, arith, ne_eqb, length-drop, length-set, drop_of_length-le, take_all, take_at, drop_at, drop-drop}
use Rattle.rules.specs.Base.{those}
use Rattle.rules.specs.Decides.{Decides, tells, reads, fails, ◌and◌, alone, below, same}
use Rattle.rules.specs.Layout.{cut, rows_of, cell, omits_capacity, omitted_in}
use Rattle.words.specs.Lists.{part_length}
use Rattle.memory.specs.Words.{replaced}
use Rattle.capacities.specs.Migration.{without_end, amended, row_written_out, joined, written_out}
use Rattle.capacities.specs.Parts.{replaced-front, replaced-behind}

-- ---- a slice is its first row and the rest
enough : (most more : ℕ) {width : ℕ} (words : List ℕ) → 0 < width → length words ≤ most → length words ≤ more → cut most width words ≡ cut more width words
enough zero zero words wide l m = refl
enough zero (suc more) [] wide l m = refl
enough zero (suc more) (x ∷ xs) wide l m = absurd (omega arith)
enough (suc most) zero [] wide l m = refl
enough (suc most) zero (x ∷ xs) wide l m = absurd (omega arith)
enough (suc most) (suc more) [] wide l m = refl
enough (suc most) (suc more) {width} (x ∷ xs) wide l m =
    let d = length-drop width (x ∷ xs) in ap (λ (rest : List (List ℕ)). take width (x ∷ xs) ∷ rest) (enough most more (drop width (x ∷ xs)) wide (omega arith) (omega arith))

pub rows_next : (width : ℕ) (words : List ℕ) → 0 < width → 0 < length words → rows_of width words ≡ take width words ∷ rows_of width (drop width words)
rows_next width [] wide some = absurd (omega arith)
rows_next width (x ∷ xs) wide some =
    let d = length-drop width (x ∷ xs) in ap (λ (rest : List (List ℕ)). take width (x ∷ xs) ∷ rest) (enough (length xs) (length (drop width (x ∷ xs))) (drop width (x ∷ xs)) wide (omega arith) (omega arith))

-- ---- how many rows omit the field
abbrev pub counted_of : List ℕ → ℕ
counted_of row = if omits_capacity row then 1 else 0

counted-more : (row : List ℕ) (rows : List (List ℕ)) → length (those omits_capacity (row ∷ rows)) ≡ counted_of row + length (those omits_capacity rows)
counted-more row rows = by (omits_capacity row)
  where
    by : (b : Bool) → length (if b then row ∷ those omits_capacity rows else those omits_capacity rows) ≡ (if b then 1 else 0) + length (those omits_capacity rows)
    by true = omega arith
    by false = omega arith

pub counted_next : (words : List ℕ) → omitted_in words ≡ counted_of (take 10 words) + omitted_in (drop 10 words)
counted_next [] = refl
counted_next (x ∷ xs) =
    ap (λ (rows : List (List ℕ)). length (those omits_capacity rows)) (rows_next 10 (x ∷ xs) (omega arith) (omega arith)) ∙ counted-more (take 10 (x ∷ xs)) (rows_of 10 (drop 10 (x ∷ xs)))

-- what a row that omits the field is
pub record Omits (row : List ℕ) : Type 0 where
  pub long : length row ≡ 10
  pub kind : cell row 1 ≡ 1
  pub fields : cell row 2 < 8
  pub not-given : cell row 2 / 2 % 2 ≡ 1 → ⊥

pub omits-decides : (row : List ℕ) → Decides (omits_capacity row) (Omits row)
omits-decides row =
    reads
    (same (length row) 10 and same (cell row 1) 1 and below (cell row 2) 8 and alone (fails (same (cell row 2 / 2 % 2) 1)))
    (λ h. record { long = h.0; kind = h.1.0; fields = h.1.1.0; not-given = h.1.1.1 }) (λ o. (o.long, (o.kind, (o.fields, o.not-given))))

pub omits-says : (row : List ℕ) → omits_capacity row ≡ true → Omits row
omits-says row e = tells (omits-decides row) (subst T (sym e) tt)

-- a row cut short omits nothing
pub short-reads : (row : List ℕ) → length row < 10 → omits_capacity row ≡ false
short-reads row short = rw (ne_eqb (length row) 10 (λ e. omega arith))

pub counted-short : (words : List ℕ) → length words < 10 → omitted_in words ≡ 0
counted-short words short =
    let whole : take 10 words ≡ words = take_all 10 words (omega arith) in
    let none : drop 10 words ≡ [] = drop_of_length-le words {i = 10} (omega arith) in
    counted_next words ∙ rw (whole, none, short-reads words short)

-- ---- the migration
pub written_next : (words : List ℕ) → written_out words ≡ row_written_out (take 10 words) ++ written_out (drop 10 words)
unfolding written_out
written_next [] = refl
written_next (x ∷ xs) = ap (λ (rows : List (List ℕ)). joined (map row_written_out rows)) (rows_next 10 (x ∷ xs) (omega arith) (omega arith))

pub written_none : written_out [] ≡ []
unfolding written_out
written_none = refl

pub written-short : (words : List ℕ) → length words < 10 → written_out words ≡ words
written-short words short =
    let whole : take 10 words ≡ words = take_all 10 words (omega arith) in
    let none : drop 10 words ≡ [] = drop_of_length-le words {i = 10} (omega arith) in
    written_next words ∙ rw (whole, none, written_none, short-reads words short) (append-nil words)

two-set : (row : List ℕ) (a b x y : ℕ) → length (set (set row a x) b y) ≡ length row
two-set row a b x y = length-set (set row a x) b y ∙ length-set row a x

pub amended-long : (row : List ℕ) → length (amended row) ≡ length row
amended-long row = two-set row 2 8 _ without_end

pub row-long : (row : List ℕ) → length (row_written_out row) ≡ length row
row-long row = by (omits_capacity row)
  where
    by : (b : Bool) → length (if b then amended row else row) ≡ length row
    by true = amended-long row
    by false = refl

-- ---- the count goes on by one row
pub counted-on : (start count counted total : ℕ) (words row : List ℕ) → row ≡ take 10 (drop start words) → counted ≡ counted_of row → count + omitted_in (drop start words) ≡ total
    → count + counted + omitted_in (drop (start + 10) words) ≡ total
counted-on start count counted total words row e f so_far =
    let next = counted_next (drop start words) in
    let here : counted ≡ counted_of (take 10 (drop start words)) = f ∙ ap counted_of e in
    let rest : omitted_in (drop 10 (drop start words)) ≡ omitted_in (drop (start + 10) words) = ap omitted_in (drop-drop 10 start words) in
    omega arith

-- and so where the row is lent as a part of its own
pub counted_part : (words row rest : List ℕ) → words ≡ row ++ rest → length row ≡ 10 → omitted_in words ≡ counted_of row + omitted_in rest
counted_part words row rest e long =
    ap omitted_in e ∙ counted_next (row ++ rest) ∙ rw (take_at row rest 10 long, drop_at row rest 10 long)

pub counted-one : (row : List ℕ) → counted_of row ≤ 1
counted-one row = by (omits_capacity row)
  where
    by : (b : Bool) → (if b then 1 else 0) ≤ 1
    by true = omega arith
    by false = omega arith

-- ---- one row written in its place: the whole comes to the same
module _ (start : ℕ) (words row : List ℕ) (room : start + 10 ≤ length words) (e : row ≡ row_written_out (take 10 (drop start words))) where
  pub row-is-long : length row ≡ 10
  row-is-long = ap length e ∙ row-long (take 10 (drop start words)) ∙ part_length start 10 words room

  pub whole_same : let after = replaced start 10 row words in take (start + 10) after ++ written_out (drop (start + 10) after) ≡ take start words ++ written_out (drop start words)
  whole_same =
      (λ i. replaced-front start 10 row words room row-is-long i ++ written_out ((replaced-behind start 10 row words room row-is-long (start + 10) (omega arith) ∙ sym (drop-drop 10 start words)) i))
      ∙ append_assoc (take start words) row (written_out (drop 10 (drop start words)))
      ∙ ap (λ (z : List ℕ). take start words ++ (z ++ written_out (drop 10 (drop start words)))) e
      ∙ ap (λ (z : List ℕ). take start words ++ z) (sym (written_next (drop start words)))
