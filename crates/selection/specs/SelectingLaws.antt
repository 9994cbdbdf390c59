-- The tests of the words that the searches make are the rules' own. Assumes nothing.
use Rattle.std.specs.Prelude.{ℕ, zero, suc, ◌+◌, ◌-◌, ◌*◌, ◌/◌, ◌%◌, ◌≤◌, ◌<◌, ◌≡◌, refl, Bool, true, false, ◌&&◌, not, List, [], ◌∷◌, length, get_or, take, drop, eqb, ltb, if◌then◌else◌, Option, None, Some}
use Rattle.std.proofs.Common.{sym, ap, ◌∙◌, arith, add_assoc, div-one, div-lt_iff_lt-mul, div-mul-le_self, mod-lt, mul-le-mul_right, eqb-true, ltb-true, drop_of_length-le, lit<}
use Rattle.std.proofs.Math.Seq.{take-nil}
use Rattle.std.proofs.lemmas.Bool.{false≢true}
use Rattle.rules.specs.Base.{every}
use Rattle.rules.specs.Table.{Coupling, external_input, external_output, internal_coupling, input_of, output_of, internal_of, is_parent, is_parentless}
use Rattle.rules.specs.Layout.{cell, model_width, coupling_width, coupling_in, is_given}
use Rattle.words.specs.declared.Cell.{Cell}
use Rattle.words.specs.Search.{cell_of, first_from, holds_in, matches, in_row, next_row}
use Rattle.words.specs.SearchLaws.{next-row-first, first-ext}
use Rattle.table.specs.Readers.{row_of}
use Rattle.table.specs.Passed.{connector_of}
use Rattle.table.specs.Rows.{row-cell}
use Rattle.selection.specs.declared.Target.{Target}
use Rattle.selection.specs.Selecting.{rows_in, couplings_in, comes_from, connects, lead_of, lead_at, seen_of, is_some, chosen_of, is_input, is_output, is_internal, is_component, is_free, has_id, target_in}

-- ---- what the private functions make and test
abbrev cell_with : ℕ → ℕ → Cell
cell_with at value = record { at = at; value = value }

abbrev id_key : ℕ → List Cell
id_key id = cell_with 0 id ∷ []

abbrev pub coupling_key : ℕ → ℕ → ℕ → ℕ → ℕ → List Cell
coupling_key kind owner at source port =
    cell_with 0 owner ∷ cell_with 1 kind ∷ cell_with at source ∷ cell_with 3 port ∷ []

-- the row k has this parent, or has none
abbrev pub child_at : Option ℕ → List ℕ → ℕ → Bool
child_at (Some parent) models k = if eqb (cell_of model_width models k 2 % 2) 1 then eqb (cell_of model_width models k 3) parent else false
child_at None models k = eqb (cell_of model_width models k 2 % 2) 0

-- ---- a key's search is the search of any test that says the same of each row
-- each of the key's cells holds its word
abbrev holds_after : Bool → List Cell → List ℕ → Bool
holds_after so [] row = so
holds_after so (c ∷ cs) row = holds_after (so && eqb (cell row c.at) c.value) cs row

abbrev holds_all : List Cell → List ℕ → Bool
holds_all [] row = true
holds_all (c ∷ cs) row = holds_after (eqb (cell row c.at) c.value) cs row

as-if : (so : Bool) → so ≡ (if so then true else false)
as-if true = refl
as-if false = refl

joined : (so x rest : Bool) → (if so && x then rest else false) ≡ (if so then (if x then rest else false) else false)
joined true x rest = refl
joined false x rest = refl

if-both : (a b : Bool) → (if a then b else false) ≡ true → (a ≡ true) × (b ≡ true)
if-both true b e = (refl, e)
if-both false b e = elim (false≢true e) [ ]

and-both : (a b : Bool) → a && b ≡ true → (a ≡ true) × (b ≡ true)
and-both true b e = (refl, e)
and-both false b e = elim (false≢true e) [ ]

module _ (key : List Cell) (width : ℕ) (inside : in_row key width ≡ true) where
  cells-after : (words : List ℕ) (k : ℕ) (so : Bool) (cells : List Cell) → every (λ (c : Cell). ltb c.at width) cells ≡ true → holds_after so cells (row_of width words k) ≡ (if so then every (holds_in width words k) cells else false)
  cells-after words k so [] e = as-if so
  cells-after words k so (c ∷ cs) e =
      let h = if-both _ _ e in
      let same = row-cell width words k c.at (ltb-true _ _ h.0) in
      cells-after words k (so && eqb (cell (row_of width words k) c.at) c.value) cs h.1 ∙ joined so _ _
      ∙ (λ i. if so then (if eqb (same i) c.value then every (holds_in width words k) cs else false) else false)

  all-cells : (words : List ℕ) (k : ℕ) (cells : List Cell) → every (λ (c : Cell). ltb c.at width) cells ≡ true → holds_all cells (row_of width words k) ≡ every (holds_in width words k) cells
  all-cells words k [] e = refl
  all-cells words k (c ∷ cs) e =
      let h = if-both _ _ e in
      let same = row-cell width words k c.at (ltb-true _ _ h.0) in
      cells-after words k (eqb (cell (row_of width words k) c.at) c.value) cs h.1 ∙ (λ i. if eqb (same i) c.value then every (holds_in width words k) cs else false)

  key-cells : (words : List ℕ) (k : ℕ) → holds_all key (row_of width words k) ≡ matches key width words k
  key-cells words k = all-cells words k key (and-both _ _ inside).1

  search_is : (test : List ℕ → Bool) → ((row : List ℕ) → holds_all key row ≡ test row) → (words : List ℕ) (from : ℕ) → next_row key width from (length words / width) words ≡ first_from (λ k. test (row_of width words k)) from (length words / width - from)
  search_is test same words from =
      next-row-first key width from (length words / width) words inside (omega arith)
      ∙ first-ext _ _ from (length words / width - from) (λ k h b. sym (key-cells words k) ∙ same (row_of width words k))

-- ---- connectors: what is seen in the words from the start of the row k to the next row's
pub connector-seen : (words : List ℕ) (source port k start : ℕ) → start ≡ k * 4 → (seen : Option Target)
    → (let c = connector_of (take (start + 4 - start) (drop start words)) in seen ≡ seen_of (comes_from source port c) (lead_of c))
    → seen ≡ seen_of (connects words source port k) (lead_at words k)
connector-seen words source port k start begins seen is =
    let four : start + 4 - start ≡ 4 = omega arith in
    let row : take (start + 4 - start) (drop start words) ≡ row_of 4 words k = λ i. take (four i) (drop (begins i) words) in
    is ∙ ap (λ row. seen_of (comes_from source port (connector_of row)) (lead_of (connector_of row))) row

-- ---- ids
and_again : (a b : Bool) → a && b && b ≡ a && b
and_again true true = refl
and_again true false = refl
and_again false b = refl

pub id-search : (words : List ℕ) (from id : ℕ) → next_row (id_key id) model_width from (rows_in words) words ≡ first_from (has_id words id) from (rows_in words - from)
id-search words from id =
    search_is (id_key id) model_width refl (λ row. eqb (cell row 0) id) (λ row. refl) words from

-- ---- couplings: a kind is one of the three or none
pub kinds : (x : ℕ) (P : Bool → Bool → Bool → Type 0) → P true false false → P false true false → P false false true → P false false false → P (eqb x 1) (eqb x 2) (eqb x 3)
kinds x P one two three other = by (eqb x 1) (eqb x 2) (eqb x 3) refl refl refl
  where
    by : (a b c : Bool) → eqb x 1 ≡ a → eqb x 2 ≡ b → eqb x 3 ≡ c → P a b c
    by true true c h g f = absurd (omega (arith, eqb-true x 1 h, eqb-true x 2 g))
    by true false true h g f = absurd (omega (arith, eqb-true x 1 h, eqb-true x 3 f))
    by true false false h g f = one
    by false true true h g f = absurd (omega (arith, eqb-true x 2 g, eqb-true x 3 f))
    by false true false h g f = two
    by false false true h g f = three
    by false false false h g f = other

-- `coupling_in`, from what is said of the kind
abbrev pub coupling_by : List ℕ → Bool → Bool → Bool → Option (Coupling × ℕ)
coupling_by row a b c =
    if a then Some (external_input (cell row 0) (cell row 3) (cell row 4) (cell row 5), cell row 2)
    else if b then Some (external_output (cell row 0) (cell row 2) (cell row 3) (cell row 5), cell row 4)
    else if c then Some (internal_coupling (cell row 0) (cell row 2) (cell row 3) (cell row 4) (cell row 5), 0)
    else None

and-true : (a : Bool) → a && true ≡ a
and-true true = refl
and-true false = refl

some-if : {A : Type 0} (t : Bool) (x : A) → t ≡ is_some (if t then Some x else None)
some-if true x = refl
some-if false x = refl

-- a coupling of another kind
miss : (a b c : Bool) → a && false && b && c ≡ false
miss true b c = refl
miss false b c = refl

module _ (words : List ℕ) (from owner : ℕ) where
  pub input-search : (port : ℕ) → next_row (coupling_key 1 owner 3 port port) coupling_width from (couplings_in words) words ≡ first_from (is_input words owner port) from (couplings_in words - from)
  input-search port = search_is (coupling_key 1 owner 3 port port) coupling_width refl _ same words from
    where
      same : (row : List ℕ) → holds_all (coupling_key 1 owner 3 port port) row ≡ is_some (chosen_of (input_of owner port) (coupling_in row))
      same row =
          let o = eqb (cell row 0) owner in
          let p = eqb (cell row 3) port in
          let no = miss o p p in
          kinds (cell row 1) (λ a b c. o && a && p && p ≡ is_some (chosen_of (input_of owner port) (coupling_by row a b c)))
          ((λ i. and-true o i && p && p) ∙ and_again o p ∙ some-if (o && p) _) no no no

  module _ (source port : ℕ) where
    hit : {A : Type 0} (row : List ℕ) (x : A) → eqb (cell row 0) owner && true && eqb (cell row 2) source && eqb (cell row 3) port ≡ is_some (if eqb (cell row 0) owner && eqb (cell row 2) source && eqb (cell row 3) port then Some x else None)
    hit row x = (λ i. and-true (eqb (cell row 0) owner) i && eqb (cell row 2) source && eqb (cell row 3) port) ∙ some-if _ x

    no : (row : List ℕ) → eqb (cell row 0) owner && false && eqb (cell row 2) source && eqb (cell row 3) port ≡ false
    no row = miss (eqb (cell row 0) owner) (eqb (cell row 2) source) (eqb (cell row 3) port)

    pub output-search : next_row (coupling_key 2 owner 2 source port) coupling_width from (couplings_in words) words ≡ first_from (is_output words owner source port) from (couplings_in words - from)
    output-search =
        search_is (coupling_key 2 owner 2 source port) coupling_width refl (λ row. is_some (chosen_of (output_of owner source port) (coupling_in row)))
        (λ row.
        kinds (cell row 1) (λ a b c. eqb (cell row 0) owner && b && eqb (cell row 2) source && eqb (cell row 3) port ≡ is_some (chosen_of (output_of owner source port) (coupling_by row a b c)))
        (no row) (hit row _) (no row) (no row)) words from

    pub internal-search : next_row (coupling_key 3 owner 2 source port) coupling_width from (couplings_in words) words ≡ first_from (is_internal words owner source port) from (couplings_in words - from)
    internal-search =
        search_is (coupling_key 3 owner 2 source port) coupling_width refl (λ row. is_some (chosen_of (internal_of owner source port) (coupling_in row)))
        (λ row.
        kinds (cell row 1) (λ a b c. eqb (cell row 0) owner && c && eqb (cell row 2) source && eqb (cell row 3) port ≡ is_some (chosen_of (internal_of owner source port) (coupling_by row a b c)))
        (no row) (no row) (hit row _) (no row)) words from

-- ---- parents: word 2 is odd where one is given, and word 3 is its id
even_is : (m : ℕ) → m < 2 → eqb m 0 ≡ not (eqb m 1)
even_is zero h = refl
even_is (suc zero) h = refl
even_is (suc (suc m)) h = absurd (omega arith)

module _ (words : List ℕ) (k : ℕ) where
  given_is : eqb (cell_of model_width words k 2 % 2) 1 ≡ is_given 1 (row_of model_width words k)
  given_is = rw (row-cell model_width words k 2 (lit< tt), div-one)

  component-is : (owner : ℕ) → child_at (Some owner) words k ≡ is_component words owner k
  component-is owner = rw (given_is, ← row-cell model_width words k 3 (lit< tt)) (by (is_given 1 (row_of model_width words k)))
    where
      by : (t : Bool) → (if t then eqb (cell (row_of model_width words k) 3) owner else false) ≡ is_parent owner (if t then Some (cell (row_of model_width words k) 3) else None)
      by true = refl
      by false = refl

  free-is : child_at None words k ≡ is_free words k
  free-is = rw (even_is (cell_of model_width words k 2 % 2) (mod-lt _ (lit< tt)), given_is) (by (is_given 1 (row_of model_width words k)))
    where
      by : (t : Bool) → not t ≡ is_parentless (if t then Some (cell (row_of model_width words k) 3) else None)
      by true = refl
      by false = refl

module _ (words : List ℕ) (from : ℕ) where
  pub component-search : (owner : ℕ) → first_from (child_at (Some owner) words) from (rows_in words - from) ≡ first_from (is_component words owner) from (rows_in words - from)
  component-search owner = first-ext _ _ from (rows_in words - from) (λ k _ _. component-is words k owner)

  pub parentless-search : first_from (child_at None words) from (rows_in words - from) ≡ first_from (is_free words) from (rows_in words - from)
  parentless-search = first-ext _ _ from (rows_in words - from) (λ k _ _. free-is words k)

-- ---- where a row leads
module _ (width at : ℕ) (words : List ℕ) (k : ℕ) where
  pub starts-within : k ≤ length words / width → k * width ≤ length words
  starts-within h = omega (arith, mul-le-mul_right width h, div-mul-le_self (length words) width)

  pub target-read : at + 1 < width → record { id = get_or words (k * width + at) 0; port = get_or words (k * width + at + 1) 0 } ≡ target_in width at words k
  target-read h = rw (row-cell width words k at (omega arith), row-cell width words k (at + 1) h, add_assoc)

  -- past the last row
  pub target_past : 0 < width → length words / width < k → record { id = 0; port = 0 } ≡ target_in width at words k
  target_past wide h =
      let past : length words ≤ k * width = omega (arith, (div-lt_iff_lt-mul wide).0 h) in
      rw (drop_of_length-le words past, take-nil)
