-- What the words of a table say where intake refuses it: the rows before a bad one are those of their words, and the bad one fails the tests of its own; and that none does where no bad one is found. Assumes nothing.
use Rattle.std.specs.Prelude.{ℕ, zero, suc, ◌+◌, ◌*◌, ◌≤◌, ◌<◌, ◌≡◌, refl, Bool, true, false, not, get_or, take, None, Some, Option}
use Rattle.std.proofs.Common.{sym, ap, ◌∙◌, subst, add-zero, zero-add, arith, drop_of_length-le}
use mathlib.Core.List.{List, [], map, reverse_aux}
use Rattle.std.proofs.Math.Decide.{dec_le}
use Rattle.std.proofs.lemmas.Bool.{not-true}
use Rattle.std.proofs.Math.ListN.{get_or-eq_default}
use Rattle.std.proofs.Math.Seq.{take-nil}
use Rattle.rules.specs.Base.{some_of, from}
use Rattle.rules.specs.Table.{Row}
use Rattle.rules.specs.Intake.{whole, connector_rules, coupling_rules, first_bad_row, first_bad}
use Rattle.rules.specs.Layout.{rows_of, kind_in, model_width, connector_width, coupling_width, model_row, connector_row, coupling_row}
use Rattle.rules.specs.Ends.{no-some}
use Rattle.rules.specs.Decides.{Whole, Fine, RowKeeps, RowFine}
use Rattle.words.specs.Lists.{get_d-from}
use Rattle.words.specs.SearchLaws.{first-at}
use Rattle.table.specs.declared.Part.{Part}
use Rattle.table.specs.declared.Part.TheVariants.{Models, Connectors, Couplings}
use Rattle.table.specs.Readers.{row_of}
use Rattle.table.specs.Rows.{count_of, rows_are, lines_are, rows_fit}
use Rattle.table.specs.Judging.{row_in, earlier_in, all_in, width_of, row_keeps, connector_keeps, coupling_keeps, keeps_in, first_bad_in}
use Rattle.table.specs.Agrees.{place_of, read}
use Rattle.table.specs.Judged.{all-kept, row_kept, rows_agree, connectors-agree, couplings-agree, rows-are-read, count-is, some-order}
use Rattle.table.specs.Passed.{place_none}

-- ---- the words of a row, past the last too
pub line-is : (width : ℕ) → 0 < width → (words : List ℕ) (j : ℕ) → get_or (rows_of width words) j [] ≡ row_of width words j
line-is width wide words j = elim (dec_le (suc j) (count_of width words)) [
  | yes l ↦
      ap (λ (ls : List (List ℕ)). get_or ls j []) (rows_are width words) ∙ get_d-from (row_of width words) [] 0 (count_of width words) j l
      ∙ ap (row_of width words) (zero-add j)
  | no l ↦
      let past : count_of width words ≤ j = omega arith in
      get_or-eq_default (rows_of width words) [] past
      ∙ sym (ap (take width) (drop_of_length-le words {i = j * width} ((rows_fit width wide words j).0 past)) ∙ take-nil width)
]

-- ---- the bad row of a part
bad-at : (part : Part) (models words : List ℕ) (k : ℕ) → place_of (first_bad_in part models words) ≡ Some k → keeps_in part models words k ≡ false
bad-at part models words k = go (first_bad_in part models words) refl
  where
    go : (f : Option ℕ) → first_bad_in part models words ≡ f → place_of f ≡ Some k → keeps_in part models words k ≡ false
    go (Some j) e h =
        let same : j ≡ k = cc in
        rw (← same) (not-true (keeps_in part models words j) (first-at (λ i. not (keeps_in part models words i)) 0 (count_of (width_of part) words) j e).2)
    go None e h = absurd (no-some h)

module _ (models : List ℕ) (k : ℕ) where
  pub bad-row : first_bad_row 0 [] (map model_row (rows_of model_width models)) ≡ Some k → row_keeps models k ≡ false
  unfolding keeps_in
  bad-row e = bad-at Models models models k (sym (rows_agree models) ∙ e)

  pub bad-connector : (connectors : List ℕ) → first_bad connector_rules 0 (map connector_row (rows_of connector_width connectors)) ≡ Some k → connector_keeps (row_of connector_width connectors k) ≡ false
  unfolding keeps_in
  bad-connector connectors e = bad-at Connectors models connectors k (sym (connectors-agree models connectors) ∙ e)

  pub connector-passes : (connectors : List ℕ) → first_bad connector_rules 0 (map connector_row (rows_of connector_width connectors)) ≡ None → k < count_of connector_width connectors → connector_keeps (row_of connector_width connectors k) ≡ true
  unfolding keeps_in
  connector-passes connectors e l = all-kept Connectors models connectors (place_none _ (sym (connectors-agree models connectors) ∙ e)) k l

-- ---- the rows before it
module _ (models : List ℕ) where
  -- the row j is read whole
  abbrev Read : ℕ → Type 0
  Read j = model_row (row_of model_width models j) ≡ Some (row_in models j)

  pub posted-is : (j : ℕ) → j < count_of model_width models → get_or (map model_row (rows_of model_width models)) j None ≡ model_row (row_of model_width models j)
  posted-is j l =
      ap (λ (rs : List (Option Row)). get_or rs j None) (lines_are model_row model_width models)
      ∙ get_d-from (λ i. model_row (row_of model_width models i)) None 0 (count_of model_width models) j l ∙ ap (λ i. model_row (row_of model_width models i)) (zero-add j)

  pub fine-read : (k : ℕ) → k ≤ count_of model_width models → Fine (RowFine [] (map model_row (rows_of model_width models))) k → (j : ℕ) → j < k → Read j
  fine-read k few fine j l = go (RowKeeps earlier) (model_row (row_of model_width models j)) refl (subst (Whole (RowKeeps earlier)) (posted-is j (omega arith)) (fine j l))
    where
      earlier : List Row
      earlier = reverse_aux (whole (take j (map model_row (rows_of model_width models)))) []

      go : (P : Row → Type 0) (o : Option Row) → model_row (row_of model_width models j) ≡ o → Whole P o → Read j
      go P None e w = absurd w
      go P (Some r) e w = e ∙ ap Some (sym (read (row_of model_width models j) (kind_in (row_of model_width models j)) r e))

  earlier-from : (i k n : ℕ) → i ≤ n → ((j : ℕ) → j < k + i → Read j)
      → reverse_aux (whole (take i (map (λ j. model_row (row_of model_width models j)) (from k n)))) (earlier_in models k) ≡ earlier_in models (k + i)
  earlier-from zero k n l f = rw add-zero
  earlier-from (suc i) k zero l f = absurd (omega arith)
  earlier-from (suc i) k (suc n) l f =
      let e : suc k + i ≡ k + suc i = omega arith in
      rw (f k (omega arith)) (earlier-from i (suc k) n (omega arith) (λ j h. f j (omega arith)) ∙ ap (earlier_in models) e)

  pub before-is : (k : ℕ) → k ≤ count_of model_width models → Fine (RowFine [] (map model_row (rows_of model_width models))) k
      → reverse_aux (whole (take k (map model_row (rows_of model_width models)))) [] ≡ earlier_in models k
  before-is k few fine =
      ap (λ (rs : List (Option Row)). reverse_aux (whole (take k rs)) []) (lines_are model_row model_width models)
      ∙ earlier-from k 0 (count_of model_width models) few (λ j l. fine-read k few fine j (omega arith)) ∙ ap (earlier_in models) (zero-add k)

-- ---- a coupling, where no row is bad
module _ (models : List ℕ) (fine : first_bad_row 0 [] (map model_row (rows_of model_width models)) ≡ None) where
  no-bad-row : first_bad_in Models models models ≡ None
  no-bad-row = place_none _ (sym (rows_agree models) ∙ fine)

  pub bad-coupling : (couplings : List ℕ) (k : ℕ) → first_bad (coupling_rules (whole (map model_row (rows_of model_width models)))) 0 (map coupling_row (rows_of coupling_width couplings)) ≡ Some k
      → coupling_keeps (all_in models) (row_of coupling_width couplings k) ≡ false
  unfolding keeps_in
  bad-coupling couplings k e = bad-at Couplings models couplings k (sym (couplings-agree models couplings no-bad-row) ∙ e)

  pub row-passes : (k : ℕ) → k < count_of model_width models → row_keeps models k ≡ true
  row-passes = row_kept models no-bad-row

  pub coupling-passes : (couplings : List ℕ) (k : ℕ) → first_bad (coupling_rules (whole (map model_row (rows_of model_width models)))) 0 (map coupling_row (rows_of coupling_width couplings)) ≡ None
      → k < count_of coupling_width couplings → coupling_keeps (all_in models) (row_of coupling_width couplings k) ≡ true
  unfolding keeps_in
  coupling-passes couplings k e l = all-kept Couplings models couplings (place_none _ (sym (couplings-agree models couplings no-bad-row) ∙ e)) k l

  -- the rows, in either order
  pub some-rows : (test : Row → Bool) → some_of test (whole (map model_row (rows_of model_width models))) ≡ some_of test (all_in models)
  some-rows test =
      ap (some_of test) (rows-are-read models no-bad-row) ∙ some-order models [] test (count_of model_width models)
      ∙ ap (λ n. some_of test (earlier_in models n)) (sym (count-is models no-bad-row))
