-- The verdict on a lent table is that of its words: sizes, then the first bad row of each part. Assumes nothing.
use Rattle.std.specs.Prelude.{ℕ, zero, suc, ◌+◌, ◌*◌, ◌/◌, ◌≤◌, ◌<◌, ◌≡◌, refl, Bool, true, false, ◌&&◌, length, leb, if◌then◌else◌, None, Some, Result, Ok, Err, ⊤, Option}
use Rattle.std.proofs.Common.{sym, ◌∙◌, subst, add-zero, zero-add, arith, le-leb}
use Rattle.std.proofs.Math.Path.{ap}
use Rattle.std.proofs.Math.Bool.{not}
use Rattle.std.proofs.lemmas.Bool.{false≢true, lt-leb}
use mathlib.Core.List.{List, [], ◌∷◌, map, map-map}
use Rattle.std.proofs.lemmas.List.{length-map}
use Rattle.std.proofs.Math.Dec.{T, eqb}
use Rattle.std.specs.Float.Ieee.Bits.{is_true}
use Rattle.std.specs.Float.Ieee.Fits.{and_l}
use Rattle.rules.specs.Base.{some_of, hold, from}
use Rattle.rules.specs.Table as Table
use Rattle.rules.specs.Table.{is_coupled}
use Rattle.rules.specs.Intake as Intake
use Rattle.rules.specs.Intake.{Posted, size_rules, row_rules, connector_rules, coupling_rules, first_bad_row, first_bad, whole}
use Rattle.rules.specs.Layout.{cell, rows_of, model_width, connector_width, coupling_width, model_row, connector_row, coupling_row, kind_in, lent}
use Rattle.rules.specs.Decides.{whole-some}
use Rattle.words.specs.Lists.{map-from}
use Rattle.words.specs.Search.{first_from}
use Rattle.words.specs.SearchLaws.{found-not}
use Rattle.table.specs.declared.Part.{Part}
use Rattle.table.specs.declared.Part.TheVariants.{Models, Connectors, Couplings}
use Rattle.table.specs.declared.BadTable.{BadTable}
use Rattle.table.specs.declared.BadTable.TheVariants.{TooLarge, Row, Connector, Coupling}
use Rattle.table.specs.Readers.{row_of}
use Rattle.table.specs.Verdicts.{verdict_of}
use Rattle.table.specs.Rows.{count_of, lines_are, row-begins, rows_fit, rows_whole}
use Rattle.table.specs.Judging.{row_in, earlier_in, is_child, row_fits, row_joins, row_keeps, coupling_keeps, owner_fits, width_of, keeps_in, first_bad_in}
use Rattle.table.specs.Earlier.{some-earlier}
use Rattle.table.specs.Agrees.{keeps, place_of, read, fits-length, first-bad-is, rows-first, row-keeps-is, connector-keeps-is, coupling-keeps-is}

-- ---- the first bad row of each part
pub rows_agree : (models : List ℕ) → first_bad_row 0 [] (map model_row (rows_of model_width models)) ≡ place_of (first_bad_in Models models models)
unfolding keeps_in
rows_agree models =
    let n = count_of model_width models in
    ap (first_bad_row 0 []) (lines_are model_row model_width models) ∙ rows-first models 0 n ∙ (λ i. place_of (first_from (λ k. not (row-keeps-is models k i)) 0 n))

pub connectors-agree : (models connectors : List ℕ) → first_bad connector_rules 0 (map connector_row (rows_of connector_width connectors)) ≡ place_of (first_bad_in Connectors models connectors)
unfolding keeps_in
connectors-agree models connectors =
    let n = count_of connector_width connectors in
    ap (first_bad connector_rules 0) (lines_are connector_row connector_width connectors) ∙ first-bad-is connector_rules (λ k. connector_row (row_of connector_width connectors k)) 0 n
    ∙ (λ i. place_of (first_from (λ k. not (connector-keeps-is (row_of connector_width connectors k) i)) 0 n))

-- ---- where no row is bad
all_keep : (f : ℕ → Bool) (k n : ℕ) → first_from (λ j. not (f j)) k n ≡ None → (j : ℕ) → j < n → f (k + j) ≡ true
all_keep f k zero e j l = absurd (omega arith)
all_keep f k (suc n) e j l = go (f k) refl e j l (all_keep f (suc k) n)
  where
    go : (b : Bool) → f k ≡ b → (if not b then Some k else first_from (λ j. not (f j)) (suc k) n) ≡ None → (j : ℕ) → j < suc n
        → (first_from (λ j. not (f j)) (suc k) n ≡ None → (j : ℕ) → j < n → f (suc k + j) ≡ true) → f (k + j) ≡ true
    go false t e j l later = absurd (found-not k e)
    go true t e zero l later = rw add-zero t
    go true t e (suc j) l later = let m : suc k + j ≡ k + suc j = omega arith in rw m at (later e j (omega arith))

-- rows that are all read whole
pub lines-whole : {A : Type 0} (f : List ℕ → Option A) (g : ℕ → A) (width : ℕ) (words : List ℕ) → ((k : ℕ) → k < count_of width words → f (row_of width words k) ≡ Some (g k))
    → whole (map f (rows_of width words)) ≡ map g (from 0 (count_of width words))
lines-whole f g width words read =
    let ks = from 0 (count_of width words) in
    ap whole (lines_are f width words ∙ map-from (λ k. f (row_of width words k)) (λ k. Some (g k)) 0 (count_of width words) (λ k low l. read k (omega arith)) ∙ sym (map-map Some g ks))
    ∙ whole-some (map g ks)

-- the rows of a part in which none is bad keep their rules
pub all-kept : (part : Part) (models words : List ℕ) → first_bad_in part models words ≡ None → (k : ℕ) → k < count_of (width_of part) words → keeps_in part models words k ≡ true
all-kept part models words fine k l = rw zero-add at (all_keep (keeps_in part models words) 0 (count_of (width_of part) words) fine k l)

module _ (models : List ℕ) (fine : first_bad_in Models models models ≡ None) where
  pub row_kept : (k : ℕ) → k < count_of model_width models → row_keeps models k ≡ true
  unfolding keeps_in
  row_kept = all-kept Models models models fine

  -- each row is read whole
  pub row_read : (k : ℕ) → k < count_of model_width models → model_row (row_of model_width models k) ≡ Some (row_in models k)
  row_read k l = go (model_row (row_of model_width models k)) refl (row-keeps-is models k ∙ row_kept k l)
    where
      go : (o : Option Table.Row) → model_row (row_of model_width models k) ≡ o → keeps (row_rules (earlier_in models k)) o ≡ true → model_row (row_of model_width models k) ≡ Some (row_in models k)
      go None e t = absurd (false≢true t)
      go (Some r) e t = e ∙ ap Some (sym (read (row_of model_width models k) (kind_in (row_of model_width models k)) r e))

  whole_length : (k : ℕ) → k < count_of model_width models → length (row_of model_width models k) ≡ model_width
  unfolding row_keeps
  whole_length k l =
      let r = row_of model_width models k in
      fits-length r (is_true (row_fits r) (and_l (row_fits r) (row_joins models k) (subst T (sym (row_kept k l)) tt)))

  pub rows-length : length models ≡ count_of model_width models * model_width
  rows-length = rows_whole model_width (omega arith) models whole_length

  pub rows-are-read : whole (map model_row (rows_of model_width models)) ≡ map (row_in models) (from 0 (count_of model_width models))
  rows-are-read = lines-whole model_row (row_in models) model_width models row_read

  pub count-is : length models / model_width ≡ count_of model_width models
  count-is = let e = rows-length in omega arith

-- ---- couplings, against the rows in either order
some-map : (test : Table.Row → Bool) (h : ℕ → Table.Row) (ks : List ℕ) → some_of test (map h ks) ≡ some_of (λ k. test (h k)) ks
some-map test h [] = refl
some-map test h (k ∷ ks) = rw (some-map test h ks)

module _ (models couplings : List ℕ) where
  pub some-order : (test : Table.Row → Bool) (n : ℕ) → some_of test (map (row_in models) (from 0 n)) ≡ some_of test (earlier_in models n)
  some-order test n = some-map test (row_in models) (from 0 n) ∙ sym (some-earlier test models n)

  coupling-order : (n : ℕ) (row : List ℕ) → coupling_keeps (map (row_in models) (from 0 n)) row ≡ coupling_keeps (earlier_in models n) row
  unfolding coupling_keeps owner_fits
  coupling-order n row = rw (some-order (λ r. eqb r.id (cell row 0) && is_coupled r.kind) n, some-order (is_child (cell row 0) (cell row 4)) n)

  pub couplings-agree : first_bad_in Models models models ≡ None
      → first_bad (coupling_rules (whole (map model_row (rows_of model_width models)))) 0 (map coupling_row (rows_of coupling_width couplings)) ≡ place_of (first_bad_in Couplings models couplings)
  unfolding keeps_in
  couplings-agree fine =
      let n = count_of coupling_width couplings in
      let rows = map (row_in models) (from 0 (count_of model_width models)) in
      ap (λ (rs : List Table.Row). first_bad (coupling_rules rs) 0 (map coupling_row (rows_of coupling_width couplings))) (rows-are-read models fine)
      ∙ ap (first_bad (coupling_rules rows) 0) (lines_are coupling_row coupling_width couplings)
      ∙ first-bad-is (coupling_rules rows) (λ k. coupling_row (row_of coupling_width couplings k)) 0 n
      ∙ (λ i. place_of (first_from (λ k. not (coupling-keeps-is rows (row_of coupling_width couplings k) i)) 0 n))
      ∙ (λ i. place_of (first_from (λ k. not (coupling-order (count_of model_width models) (row_of coupling_width couplings k) i)) 0 n))
      ∙ (λ i. place_of (first_from (λ k. not (coupling_keeps (earlier_in models (sym (count-is models fine) i)) (row_of coupling_width couplings k))) 0 n))

-- ---- the verdict
-- what was found in the three parts, in their order
abbrev pub judged : Option ℕ → Option ℕ → Option ℕ → Result ⊤ BadTable
judged (Some k) y z = Err (Row k)
judged None (Some k) z = Err (Connector k)
judged None None (Some k) = Err (Coupling k)
judged None None None = Ok tt

steps : (p : Posted) (x y z : Option ℕ) → hold (size_rules p) ≡ true → first_bad_row 0 [] p.rows ≡ place_of x → first_bad connector_rules 0 p.connectors ≡ place_of y
    → (x ≡ None → first_bad (coupling_rules (whole p.rows)) 0 p.couplings ≡ place_of z) → verdict_of (Intake.intake p) ≡ judged x y z
unfolding Intake.intake
steps p (Some k) y z s f g h = rw (s, f)
steps p None (Some k) z s f g h = rw (s, f, g)
steps p None None (Some k) s f g h = rw (s, f, g, h refl)
steps p None None None s f g h = rw (s, f, g, h refl)

module _ (models connectors couplings : List ℕ) where
  abbrev posted : Posted
  posted = lent models connectors couplings

  -- more rows than there may be
  large : hold (size_rules posted) ≡ false → verdict_of (Intake.intake posted) ≡ Err TooLarge
  unfolding Intake.intake
  large e = rw e

  size_fits : {A : Type 0} (f : List ℕ → Option A) (width : ℕ) → 0 < width → (most : ℕ) (words : List ℕ) → length words ≤ most * width → leb (length (map f (rows_of width words))) most ≡ true
  size_fits f width wide most words l = rw (length-map (rows_of width words) f) (le-leb (count_of width words) most ((rows_fit width wide words most).1 l))

  size-over : {A : Type 0} (f : List ℕ → Option A) (width : ℕ) → 0 < width → (most : ℕ) (words : List ℕ) → most * width < length words → leb (length (map f (rows_of width words))) most ≡ false
  size-over f width wide most words l = rw (length-map (rows_of width words) f) (lt-leb (count_of width words) most ((row-begins width wide words most).1 l))

  pub large-models : 640 < length models → verdict_of (Intake.intake posted) ≡ Err TooLarge
  unfolding lent
  large-models l = large (rw (size-over model_row 10 (omega arith) 64 models l))

  module _ (few : length models ≤ 640) where
    pub large-connectors : 1024 < length connectors → verdict_of (Intake.intake posted) ≡ Err TooLarge
    unfolding lent
    large-connectors l = large (rw (size_fits model_row 10 (omega arith) 64 models few, size-over connector_row 4 (omega arith) 256 connectors l))

    module _ (few' : length connectors ≤ 1024) where
      pub large-couplings : 1536 < length couplings → verdict_of (Intake.intake posted) ≡ Err TooLarge
      unfolding lent
      large-couplings l = large (rw (size_fits model_row 10 (omega arith) 64 models few, size_fits connector_row 4 (omega arith) 256 connectors few', size-over coupling_row 6 (omega arith) 256 couplings l))

      pub judged-is : length couplings ≤ 1536 → verdict_of (Intake.intake posted) ≡ judged (first_bad_in Models models models) (first_bad_in Connectors models connectors) (first_bad_in Couplings models couplings)
      unfolding lent
      judged-is l =
          steps posted (first_bad_in Models models models) (first_bad_in Connectors models connectors) (first_bad_in Couplings models couplings)
          (rw (size_fits model_row 10 (omega arith) 64 models few, size_fits connector_row 4 (omega arith) 256 connectors few', size_fits coupling_row 6 (omega arith) 256 couplings l))
          (rows_agree models) (connectors-agree models connectors) (couplings-agree models couplings)
