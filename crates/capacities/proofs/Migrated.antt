-- The migration's promises, for every slice of words: what it writes is read as what was there was read before A7, no row omits the field then, and no other word moves. Assumes nothing.
use Rattle.std.specs.Prelude.{ℕ, zero, suc, ◌+◌, ◌*◌, ◌/◌, ◌%◌, ◌≤◌, ◌<◌, ◌≡◌, refl, Bool, true, false, not, ◌&&◌, List, [], ◌∷◌, map, ltb, eqb, length, set, get_or, take, drop, if◌then◌else◌, Option, None, Some}
use Rattle.std.proofs.Common.{sym, ap, ◌∙◌, inl, inr, arith, eq-eqb, ne_eqb, lt-ltb, length-append, length-drop, length-take, take-append-drop, drop_of_length-le, take_all, take_at, drop_at, drop-drop, length-take-le, lt-length-set, get_or-set_same, get_or-set_other}
use Rattle.std.proofs.lemmas.Bool.{false≢true}
use Rattle.std.proofs.lemmas.Simd.{map-map}
use Rattle.std.proofs.Math.Decide.{dec_le}
use Rattle.rules.specs.Sizes.{is_port, omitted_capacity}
use Rattle.rules.specs.Base.{every, hold, those}
use Rattle.rules.specs.Decides.{same, either}
use Rattle.rules.specs.Ends.{no-some}
use Rattle.rules.specs.Table.{Kind, processor, batcher, stopwatch, coupled, Row}
use Rattle.rules.specs.Layout.{rows_of, cell, is_given, parent_in, kind_in, unused_ports, row_in, model_row, lent, omits_capacity, omitted_in, model_width, connector_width, coupling_width, connector_row, coupling_row}
use Rattle.table.specs.Readers.{row_of}
use Rattle.table.specs.Rows.{row-cell}
use Rattle.capacities.specs.Migration.{without_end, old_model_row, old_lent, amended, row_written_out, joined, written_out}
use Rattle.capacities.specs.Rows.{Omits, omits-says, amended-long, short-reads, rows_next, row-long, written_next, written-short, written_none}

-- ---- row by row
long-row : (words : List ℕ) → 10 ≤ length words → length (row_written_out (take 10 words)) ≡ 10
long-row words whole = row-long (take 10 words) ∙ length-take-le 10 words whole

pub first-written : (words : List ℕ) → take 10 (written_out words) ≡ row_written_out (take 10 words)
first-written words = elim (dec_le 10 (length words)) [
  | yes whole ↦ ap (take 10) (written_next words) ∙ take_at (row_written_out (take 10 words)) (written_out (drop 10 words)) 10 (long-row words whole)
  | no short ↦
      let few : length words < 10 = omega arith in
      let all : take 10 words ≡ words = take_all 10 words (omega arith) in
      rw (written-short words few, all, short-reads words few)
]

pub rest-written : (words : List ℕ) → drop 10 (written_out words) ≡ written_out (drop 10 words)
rest-written words = elim (dec_le 10 (length words)) [
  | yes whole ↦ ap (drop 10) (written_next words) ∙ drop_at (row_written_out (take 10 words)) (written_out (drop 10 words)) 10 (long-row words whole)
  | no short ↦
      let few : length words < 10 = omega arith in
      let None : drop 10 words ≡ [] = drop_of_length-le words {i = 10} (omega arith) in
      rw (written-short words few, None, written_none)
]

pub same_length : (words : List ℕ) → length (written_out words) ≡ length words
same_length words = go (length words) words (omega arith)
  where
    go : (most : ℕ) (words : List ℕ) → length words ≤ most → length (written_out words) ≡ length words
    go zero [] l = ap length written_none
    go zero (x ∷ xs) l = absurd (omega arith)
    go (suc most) [] l = ap length written_none
    go (suc most) (x ∷ xs) l =
        let words = x ∷ xs in
        let d = length-drop 10 words in
        let t = length-take 10 words in
        let next = ap length (written_next words) ∙ length-append (row_written_out (take 10 words)) (written_out (drop 10 words)) in
        let first = row-long (take 10 words) in
        let rest = go most (drop 10 words) (omega arith) in
        let both = ap length (take-append-drop 10 words) in
        let parts = length-append (take 10 words) (drop 10 words) in
        omega arith

-- the row k is the row k, written out
pub row_written : (words : List ℕ) (k : ℕ) → row_of model_width (written_out words) k ≡ row_written_out (row_of model_width words k)
row_written words zero = first-written words
row_written words (suc k) =
    ap (take 10) (past k (written_out words) ∙ ap (drop (k * 10)) (rest-written words))
    ∙ row_written (drop 10 words) k
    ∙ ap (λ (l : List ℕ). row_written_out (take 10 l)) (sym (past k words))
  where
    past : (k : ℕ) (l : List ℕ) → drop (suc k * 10) l ≡ drop (k * 10) (drop 10 l)
    past k l = let m : suc k * 10 ≡ 10 + k * 10 = omega arith in ap (λ (n : ℕ). drop n l) m ∙ sym (drop-drop (k * 10) 10 l)

pub rows_written : (words : List ℕ) → rows_of model_width (written_out words) ≡ map row_written_out (rows_of model_width words)
rows_written words = go (length words) words (omega arith)
  where
    go : (most : ℕ) (words : List ℕ) → length words ≤ most → rows_of model_width (written_out words) ≡ map row_written_out (rows_of model_width words)
    go zero [] l = ap (rows_of model_width) written_none
    go zero (x ∷ xs) l = absurd (omega arith)
    go (suc most) [] l = ap (rows_of model_width) written_none
    go (suc most) (x ∷ xs) l =
        let words = x ∷ xs in
        let d = length-drop 10 words in
        let long = same_length words in
        rows_next 10 (written_out words) (omega arith) (omega arith)
        ∙ (λ i. first-written words i ∷ rows_of 10 (rest-written words i))
        ∙ ap (λ (rows : List (List ℕ)). row_written_out (take 10 words) ∷ rows) (go most (drop 10 words) (omega arith))
        ∙ ap (map row_written_out) (sym (rows_next 10 words (omega arith) (omega arith)))

-- ---- "the new reading of what it wrote is the old reading of what was there"
-- a row that does not omit the field
unlike : {A : Type 0} (made : ℕ → A) (long few ports given : Bool) (said now old : ℕ) → hold (long ∷ true ∷ few ∷ not given ∷ []) ≡ false
    → (if hold (long ∷ few ∷ ports ∷ []) then Some (made (if given then said else now)) else None) ≡ (if hold (long ∷ few ∷ ports ∷ []) then Some (made (if given then said else old)) else None)
unlike made false few ports given said now old e = refl
unlike made true false ports given said now old e = refl
unlike made true true ports true said now old e = refl
unlike made true true ports false said now old e = absurd (false≢true (sym e))

pub as_before : (row : List ℕ) → omits_capacity row ≡ false → model_row row ≡ old_model_row row
as_before row e = elim (either (same (cell row 1) 1)) [
  | inl is ↦
      let one = eq-eqb (cell row 1) 1 is in
      rw one
      (unlike (λ (capacity : ℕ). record { id = cell row 0; parent = parent_in row; kind = processor (record { input = cell row 4; output = cell row 7; queue_capacity = capacity }) })
      (eqb (length row) 10) (ltb (cell row 2) 8) (every is_port (cell row 5 ∷ cell row 6 ∷ [])) (is_given 2 row) (cell row 8) omitted_capacity without_end (rw one at e))
  | inr not ↦ rw (ne_eqb (cell row 1) 1 not)
]

-- a row that does
fields-then : (fields : ℕ) → fields < 8 → (fields / 2 % 2 ≡ 1 → ⊥) → ((fields + 2) / 2 % 2 ≡ 1) × (fields + 2 < 8) × ((fields + 2) / 1 % 2 ≡ fields / 1 % 2)
fields-then fields l n = (omega arith, omega arith, omega arith)

-- its words as the migration leaves them
module _ (row : List ℕ) (omits : Omits row) where
  stays : (c : ℕ) → (c ≡ 2 → ⊥) → (c ≡ 8 → ⊥) → cell (amended row) c ≡ cell row c
  stays c a b = get_or-set_other (set row 2 (cell row 2 + 2)) 8 c without_end 0 b ∙ get_or-set_other row 2 c (cell row 2 + 2) 0 a

  word-2 : cell (amended row) 2 ≡ cell row 2 + 2
  word-2 =
      let long = omits.long in
      get_or-set_other (set row 2 (cell row 2 + 2)) 8 2 without_end 0 (λ e. omega arith) ∙ get_or-set_same row 2 (cell row 2 + 2) 0 (omega arith)

  word-8 : cell (amended row) 8 ≡ without_end
  word-8 =
      let long = omits.long in
      let wide : 8 < length row = omega arith in
      get_or-set_same (set row 2 (cell row 2 + 2)) 8 without_end 0 (lt-length-set row 2 (cell row 2 + 2) wide)

  amended-reads : model_row (amended row) ≡ old_model_row row
  amended-reads =
      let f = fields-then (cell row 2) omits.fields omits.not-given in
      let not-before = ne_eqb (cell row 2 / 2 % 2) 1 omits.not-given in
      rw (
        stays 1 (λ e. omega arith) (λ e. omega arith),
        omits.kind,
        amended-long row,
        word-2,
        lt-ltb (cell row 2 + 2) 8 f.1,
        lt-ltb (cell row 2) 8 omits.fields,
        stays 5 (λ e. omega arith) (λ e. omega arith),
        stays 6 (λ e. omega arith) (λ e. omega arith),
        stays 0 (λ e. omega arith) (λ e. omega arith),
        stays 3 (λ e. omega arith) (λ e. omega arith),
        stays 4 (λ e. omega arith) (λ e. omega arith),
        stays 7 (λ e. omega arith) (λ e. omega arith),
        f.0,
        f.2,
        word-8,
        not-before,
      )

row_reads : (row : List ℕ) → model_row (row_written_out row) ≡ old_model_row row
row_reads row = by (omits_capacity row) refl
  where
    by : (b : Bool) → omits_capacity row ≡ b → model_row (if b then amended row else row) ≡ old_model_row row
    by true e = amended-reads row (omits-says row e)
    by false e = as_before row e

pub reads-as-before : (models connectors couplings : List ℕ) → lent (written_out models) connectors couplings ≡ old_lent models connectors couplings
unfolding lent old_lent
reads-as-before models connectors couplings =
    let rows = ap (map model_row) (rows_written models) ∙ map-map model_row row_written_out (rows_of model_width models) ∙ (λ i. map (λ row. row_reads row i) (rows_of model_width models)) in
    λ i. record { rows = rows i; connectors = map connector_row (rows_of connector_width connectors); couplings = map coupling_row (rows_of coupling_width couplings) }

-- ---- "then no row .. omits it"
row-says : (row : List ℕ) → omits_capacity (row_written_out row) ≡ false
row-says row = by (omits_capacity row) refl
  where
    by : (b : Bool) → omits_capacity row ≡ b → omits_capacity (if b then amended row else row) ≡ false
    by true e =
        let o = omits-says row e in
        let f = fields-then (cell row 2) o.fields o.not-given in
        rw (amended-long row, o.long, stays row o 1 (λ e. omega arith) (λ e. omega arith), o.kind, word-2 row o, lt-ltb (cell row 2 + 2) 8 f.1, f.0)
    by false e = e

pub none-omits : (models : List ℕ) → omitted_in (written_out models) ≡ 0
none-omits models = ap (λ (rows : List (List ℕ)). length (those omits_capacity rows)) (rows_written models) ∙ go (rows_of model_width models)
  where
    go : (rows : List (List ℕ)) → length (those omits_capacity (map row_written_out rows)) ≡ 0
    go [] = refl
    go (row ∷ rows) = rw (row-says row) (go rows)

-- a Processor's row that can be read says its capacity
pub row-says-capacity : (models : List ℕ) (k : ℕ) (r : Row) → model_row (row_of model_width (written_out models) k) ≡ Some r
    → cell (row_of model_width (written_out models) k) 1 ≡ 1 → is_given 2 (row_of model_width (written_out models) k) ≡ true
row-says-capacity models k r e kind = says (eqb (length row) 10) (ltb (cell row 2) 8) (is_given 2 row) refl refl refl
  where
    row : List ℕ
    row = row_of model_width (written_out models) k

    says : (long few given : Bool) → eqb (length row) 10 ≡ long → ltb (cell row 2) 8 ≡ few → is_given 2 row ≡ given → given ≡ true
    says long few true a b c = refl
    says false few false a b c = absurd (let n : model_row row ≡ None = rw (kind, a) in no-some (sym n ∙ e))
    says true false false a b c = absurd (let n : model_row row ≡ None = rw (kind, a, b) in no-some (sym n ∙ e))
    says true true false a b c =
        absurd (let o : omits_capacity row ≡ true = rw (a, kind, b, c) in false≢true (sym (ap omits_capacity (row_written models k) ∙ row-says (row_of model_width models k)) ∙ o))

-- ---- what is counted: of the rows that can be read, the Processors' that lack the flag
read_whole : (row : List ℕ) (o : Option Kind) (r : Row) → row_in row o ≡ Some r → (eqb (length row) 10 ≡ true) × (ltb (cell row 2) 8 ≡ true)
read_whole row None r e = absurd (no-some e)
read_whole row (Some kind) r e = by (eqb (length row) 10) (ltb (cell row 2) 8) (every is_port (unused_ports kind row)) e
  where
    by : (long few ports : Bool) → (if hold (long ∷ few ∷ ports ∷ []) then Some (record { id = cell row 0; parent = parent_in row; kind = kind }) else None) ≡ Some r → (long ≡ true) × (few ≡ true)
    by true true ports e = (refl, refl)
    by true false ports e = absurd (no-some e)
    by false few ports e = absurd (no-some e)

pub counted-read : (row : List ℕ) (r : Row) → model_row row ≡ Some r → omits_capacity row ≡ (eqb (cell row 1) 1 && not (is_given 2 row))
counted-read row r e = let w = read_whole row (kind_in row) r e in rw (w.0, w.1) (by (eqb (cell row 1) 1) (is_given 2 row))
  where
    by : (one given : Bool) → hold (one ∷ true ∷ not given ∷ []) ≡ (one && not given)
    by true true = refl
    by true false = refl
    by false given = refl

-- and these are the rows that mean something else now: `as_before` has the others
abbrev capacity_or : Option Row → ℕ
capacity_or None = 0
capacity_or (Some r) = elim r.kind [ processor p ↦ p.queue_capacity | batcher b ↦ 0 | stopwatch w ↦ 0 | coupled ↦ 0 ]

pub reads-otherwise : (row : List ℕ) (r : Row) → model_row row ≡ Some r → omits_capacity row ≡ true → model_row row ≡ old_model_row row → ⊥
reads-otherwise row r e o f = by (every is_port (cell row 5 ∷ cell row 6 ∷ [])) refl
  where
    says : Omits row
    says = omits-says row o

    by : (ports : Bool) → every is_port (cell row 5 ∷ cell row 6 ∷ []) ≡ ports → ⊥
    by true p =
        let now : capacity_or (model_row row) ≡ omitted_capacity = rw (says.kind, says.long, lt-ltb (cell row 2) 8 says.fields, p, ne_eqb (cell row 2 / 2 % 2) 1 says.not-given) in
        let old : capacity_or (old_model_row row) ≡ without_end = rw (says.kind, says.long, lt-ltb (cell row 2) 8 says.fields, p, ne_eqb (cell row 2 / 2 % 2) 1 says.not-given) in
        let same_number : omitted_capacity ≡ without_end = sym now ∙ ap capacity_or f ∙ old in
        omega arith
    by false p = let n : model_row row ≡ None = rw (says.kind, says.long, lt-ltb (cell row 2) 8 says.fields, p) in no-some (sym n ∙ e)

-- ---- "touches no other word"
pub row_stays : (models : List ℕ) (k : ℕ) → omits_capacity (row_of model_width models k) ≡ false → row_of model_width (written_out models) k ≡ row_of model_width models k
row_stays models k e = row_written models k ∙ rw e

pub word-stays : (models : List ℕ) (k c : ℕ) → c < 10 → (c ≡ 2 → ⊥) → (c ≡ 8 → ⊥) → get_or (written_out models) (k * 10 + c) 0 ≡ get_or models (k * 10 + c) 0
word-stays models k c l a b =
    sym (row-cell model_width (written_out models) k c l) ∙ ap (λ (row : List ℕ). cell row c) (row_written models k) ∙ by (omits_capacity row) refl ∙ row-cell model_width models k c l
  where
    row : List ℕ
    row = row_of model_width models k

    by : (t : Bool) → omits_capacity row ≡ t → cell (if t then amended row else row) c ≡ cell row c
    by true e = stays row (omits-says row e) c a b
    by false e = refl

-- ---- written out once, it is written out
pub written_once : (models : List ℕ) → written_out (written_out models) ≡ written_out models
unfolding written_out
written_once models = ap joined (ap (map row_written_out) (rows_written models) ∙ map-map row_written_out row_written_out (rows_of model_width models) ∙ (λ i. map (λ row. again row i) (rows_of model_width models)))
  where
    again : (row : List ℕ) → row_written_out (row_written_out row) ≡ row_written_out row
    again row = rw (row-says row)
