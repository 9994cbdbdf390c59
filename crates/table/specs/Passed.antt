-- What the words of a table say once it has passed intake: how many there are, and that each row, connector and coupling of the table is read off them. Assumes nothing.
use Rattle.std.specs.Prelude.{ℕ, zero, suc, ◌+◌, ◌*◌, ◌≤◌, ◌<◌, ◌≡◌, refl, Bool, true, false, length, take, T, leb, eqb, if◌then◌else◌, None, Some, Option}
use Rattle.std.proofs.Math.Path.{sym, ap}
use Rattle.std.proofs.Common.{◌∙◌, subst, add-zero, zero-add, arith, drop_of_length-le, leb→le, eqb→eq}
use Rattle.std.proofs.lemmas.Bool.{false≢true}
use mathlib.Core.List.{List, [], ◌∷◌, map, reverse_aux}
use Rattle.std.proofs.Math.Decide.{dec_le}
use Rattle.std.proofs.Math.ListN.{get_or, get_or-eq_default}
use Rattle.std.specs.Float.Ieee.Bits.{is_true}
use Rattle.rules.specs.Sizes.{is_id}
use Rattle.rules.specs.Base.{hold, from}
use Rattle.rules.specs.Table.{Kind, Row, Connector, Coupling, Table, no_row, row_at, id_at, kind_at, is_coupled}
use Rattle.rules.specs.Intake.{kind_rules, depth_of, intake, passed, coupling_rules}
use Rattle.rules.specs.Ends.{no-some, if-both, All, nil, ◌&◌, parts, whole_of}
use Rattle.rules.specs.Decides.{Judged, intake-exactly, rows-first, connectors-first, couplings-first}
use Rattle.rules.specs.Depth.{depths, depth_at, fine, passed-again}
use Rattle.rules.specs.Layout.{cell, parent_in, kind_in, model_width, connector_width, coupling_width, connector_row, coupling_row, lent}
use Rattle.rules.specs.Layout as Layout
use Rattle.words.specs.Lists.{length-lines, get_d-from}
use Rattle.table.specs.declared.Part.TheVariants.{Models, Connectors, Couplings}
use Rattle.table.specs.Readers.{row_of, id_in, named, kind_of, depth_in}
use Rattle.table.specs.Rows.{count_of, rows_whole}
use Rattle.table.specs.Judging.{input_in, output_in, inner_in, kind_or, row_in, earlier_in, cells_fit, connector_keeps, coupling_keeps, owner_fits, all_in, keeps_in, first_bad_in}
use Rattle.table.specs.Earlier.{coupled-is, none_deep, depth_same}
use Rattle.table.specs.Agrees.{keeps, place_of, coupling-keeps-is}
use Rattle.table.specs.Judged.{rows_agree, connectors-agree, couplings-agree, all-kept, lines-whole, row_read, rows-length, rows-are-read}

-- ---- a connector and a coupling, as their words say
abbrev pub connector_of : List ℕ → Connector
connector_of row = record { source = cell row 0; source_port = cell row 1; target = cell row 2; target_port = cell row 3 }

abbrev pub connector_at : List ℕ → ℕ → Connector
connector_at connectors k = connector_of (row_of connector_width connectors k)

-- 1 external input, 2 external output, 3 internal
abbrev pub coupling_of : List ℕ → Coupling
coupling_of row = if eqb (cell row 1) 1 then input_in row else if eqb (cell row 1) 2 then output_in row else inner_in row

abbrev pub coupling_at : List ℕ → ℕ → Coupling
coupling_at couplings k = coupling_of (row_of coupling_width couplings k)

-- ---- lists
pub place_none : (f : Option ℕ) → place_of f ≡ None → f ≡ None
place_none (Some k) e = absurd (no-some (sym e))
place_none None e = refl

-- ---- one row
row_is : (row : List ℕ) (o : Option Kind) (r : Row) → Layout.row_in row o ≡ Some r → o ≡ Some (kind_or o)
row_is row None r e = absurd (no-some e)
row_is row (Some k) r e = refl

connector-is : (row : List ℕ) → connector_keeps row ≡ true → (length row ≡ connector_width) × (connector_row row ≡ Some (connector_of row))
unfolding connector_keeps
connector-is row e =
    let t = (if-both (eqb (length row) connector_width) _ (subst T (sym e) tt)).0 in
    (eqb→eq (length row) connector_width t, rw (is_true (eqb (length row) connector_width) t))

kept : {A : Type 0} (rules : A → List Bool) (b : Bool) (x : A) → keeps rules (if b then Some x else None) ≡ true → (if b then Some x else None) ≡ Some x
kept rules true x e = refl
kept rules false x e = absurd (false≢true e)

-- a coupling is whole, and of one of the three kinds
pub record CouplingIs (row : List ℕ) : Type 0 where
  pub long : length row ≡ coupling_width
  pub kind-from : 1 ≤ cell row 1
  pub kind-to : cell row 1 ≤ 3
  pub reads : coupling_row row ≡ Some (coupling_of row)

owner-kinds : (rows : List Row) (owner kind target : ℕ) → T (owner_fits rows owner kind target) → (1 ≤ kind) × (kind ≤ 3)
unfolding owner_fits
owner-kinds rows owner kind target h =
    let x = if-both (leb 1 kind) _ h in
    (leb→le 1 kind x.0, leb→le kind 3 (if-both (leb kind 3) _ x.1).0)

coupling-is : (rows : List Row) (row : List ℕ) → coupling_keeps rows row ≡ true → CouplingIs row
unfolding coupling_keeps
coupling-is rows row e = is (parts (eqb (length row) coupling_width ∷ cells_fit row 0 1 ∷ cells_fit row 2 6 ∷ owner_fits rows (cell row 0) (cell row 1) (cell row 4) ∷ []) (subst T (sym e) tt))
  where
    go : (x y z : Coupling) (u v w : ℕ) (a b c : Bool)
        → keeps (coupling_rules rows) (Layout.whole_coupling row (if a then Some (x, u) else if b then Some (y, v) else if c then Some (z, w) else None)) ≡ true
        → Layout.whole_coupling row (if a then Some (x, u) else if b then Some (y, v) else if c then Some (z, w) else None) ≡ Some (if a then x else if b then y else z)
    go x y z u v w true b c e = kept (coupling_rules rows) (hold (eqb (length row) coupling_width ∷ is_id u ∷ [])) x e
    go x y z u v w false true c e = kept (coupling_rules rows) (hold (eqb (length row) coupling_width ∷ is_id v ∷ [])) y e
    go x y z u v w false false true e = kept (coupling_rules rows) (hold (eqb (length row) coupling_width ∷ is_id w ∷ [])) z e
    go x y z u v w false false false e = absurd (false≢true e)

    is : {a b : Bool} → All T (eqb (length row) coupling_width ∷ a ∷ b ∷ owner_fits rows (cell row 0) (cell row 1) (cell row 4) ∷ []) → CouplingIs row
    is (w & a & b & o & nil) = let k = owner-kinds rows (cell row 0) (cell row 1) (cell row 4) o in record {
      long = eqb→eq (length row) coupling_width w;
      kind-from = k.0;
      kind-to = k.1;
      reads = go (input_in row) (output_in row) (inner_in row) (cell row 2) (cell row 4) 0 (eqb (cell row 1) 1) (eqb (cell row 1) 2) (eqb (cell row 1) 3) (coupling-keeps-is rows row ∙ e);
    }

-- ---- rows, each after those before it
module _ (models : List ℕ) where
  earlier-from : (i k n : ℕ) → i ≤ n → reverse_aux (take i (map (row_in models) (from k n))) (earlier_in models k) ≡ earlier_in models (k + i)
  earlier-from zero k n l = rw add-zero
  earlier-from (suc i) k zero l = absurd (omega arith)
  earlier-from (suc i) k (suc n) l = let e : suc k + i ≡ k + suc i = omega arith in earlier-from i (suc k) n (omega arith) ∙ ap (earlier_in models) e

  depths-from : (k n i : ℕ) → i < n → get_or (depths (earlier_in models k) (map (row_in models) (from k n))) i 1 ≡ depth_of (earlier_in models (k + i)) (row_in models (k + i)).parent
  depths-from k zero i l = absurd (omega arith)
  depths-from k (suc n) zero l = rw add-zero
  depths-from k (suc n) (suc i) l = let e : suc k + i ≡ k + suc i = omega arith in rw (← e) (depths-from (suc k) n i (omega arith))

depths-long : (earlier rows : List Row) → length (depths earlier rows) ≡ length rows
depths-long earlier [] = refl
depths-long earlier (r ∷ rs) = ap suc (depths-long (r ∷ earlier) rs)

-- ---- a table that passed
module _ (models connectors couplings : List ℕ) (t : Table) (e : intake (lent models connectors couplings) ≡ passed t) where
  facts : Judged (lent models connectors couplings) (passed t)
  facts = (intake-exactly (lent models connectors couplings) (passed t)).0 e

  no-bad-row : first_bad_in Models models models ≡ None
  unfolding lent
  no-bad-row = place_none _ (sym (rows_agree models) ∙ (rows-first (lent models connectors couplings)).0.1 facts.1)

  no-bad-connector : first_bad_in Connectors models connectors ≡ None
  unfolding lent
  no-bad-connector = place_none _ (sym (connectors-agree models connectors) ∙ (connectors-first (lent models connectors couplings)).0.1 facts.2)

  no-bad-coupling : first_bad_in Couplings models couplings ≡ None
  unfolding lent
  no-bad-coupling = place_none _ (sym (couplings-agree models couplings no-bad-row) ∙ (couplings-first (lent models connectors couplings)).0.1 facts.3)

  -- ---- how many there are
  rows_are : t.rows ≡ map (row_in models) (from 0 (count_of model_width models))
  unfolding lent
  rows_are = ap (λ (u : Table). u.rows) facts.4 ∙ rows-are-read models no-bad-row

  connectors-are : t.connectors ≡ map (connector_at connectors) (from 0 (count_of connector_width connectors))
  unfolding lent keeps_in
  connectors-are =
      ap (λ (u : Table). u.connectors) facts.4
      ∙ lines-whole connector_row (connector_at connectors) connector_width connectors (λ k l. (connector-is (row_of connector_width connectors k) (all-kept Connectors models connectors no-bad-connector k l)).1)

  coupling-at : (k : ℕ) → k < count_of coupling_width couplings → CouplingIs (row_of coupling_width couplings k)
  unfolding keeps_in
  coupling-at k l = coupling-is (all_in models) (row_of coupling_width couplings k) (all-kept Couplings models couplings no-bad-coupling k l)

  couplings-are : t.couplings ≡ map (coupling_at couplings) (from 0 (count_of coupling_width couplings))
  unfolding lent
  couplings-are =
      ap (λ (u : Table). u.couplings) facts.4
      ∙ lines-whole coupling_row (coupling_at couplings) coupling_width couplings (λ k l. (coupling-at k l).reads)

  rows-count : length t.rows ≡ count_of model_width models
  rows-count = ap length rows_are ∙ length-lines (row_in models) (count_of model_width models)

  connectors-count : length t.connectors ≡ count_of connector_width connectors
  connectors-count = ap length connectors-are ∙ length-lines (connector_at connectors) (count_of connector_width connectors)

  couplings-count : length t.couplings ≡ count_of coupling_width couplings
  couplings-count = ap length couplings-are ∙ length-lines (coupling_at couplings) (count_of coupling_width couplings)

  pub models-long : length models ≡ 10 * length t.rows
  models-long = rw rows-count (let l = rows-length models no-bad-row in omega arith)

  pub connectors-long : length connectors ≡ 4 * length t.connectors
  unfolding keeps_in
  connectors-long =
      let l = rows_whole connector_width (omega arith) connectors (λ k l. (connector-is (row_of connector_width connectors k) (all-kept Connectors models connectors no-bad-connector k l)).0) in
      rw connectors-count (omega arith)

  pub couplings-long : length couplings ≡ 6 * length t.couplings
  couplings-long = let l = rows_whole coupling_width (omega arith) couplings (λ k l. (coupling-at k l).long) in rw couplings-count (omega arith)

  pub sizes : (length t.rows ≤ 64) × (length t.connectors ≤ 256) × (length t.couplings ≤ 256)
  sizes = let f = fine t (passed-again (lent models connectors couplings) t e) in (f.few-rows, f.few-connectors, f.few-couplings)

  -- ---- rows
  pub row-at : (i : ℕ) → i < length t.rows → row_at t i ≡ row_in models i
  row-at i l =
      ap (λ (rs : List Row). get_or rs i no_row) rows_are ∙ get_d-from (row_in models) no_row 0 (count_of model_width models) i (rw rows-count at l)
      ∙ ap (row_in models) (zero-add i)

  -- past the last row stand no words, and `no_row`
  past : (i : ℕ) → length t.rows ≤ i → (row_at t i ≡ no_row) × (row_of model_width models i ≡ [])
  past i l = (get_or-eq_default t.rows no_row l, ap (take 10) (drop_of_length-le models {i = i * 10} (let m = models-long in omega arith)))

  -- what holds of each row, and past the last, holds everywhere
  everywhere : (P : Row → List ℕ → ℕ → Type 0) → ((i : ℕ) → i < length t.rows → P (row_in models i) (row_of model_width models i) i) → ((i : ℕ) → P no_row [] i) → (i : ℕ) → P (row_at t i) (row_of model_width models i) i
  everywhere P f g i = elim (dec_le (suc i) (length t.rows)) [
    | yes l ↦ rw (row-at i l) (f i l)
    | no l ↦ let p = past i (omega arith) in rw (p.0, p.1) (g i)
  ]

  pub id-read : (i : ℕ) → id_at t i ≡ id_in models i
  id-read = everywhere (λ r row i. r.id ≡ cell row 0) (λ i l. refl) (λ i. refl)

  pub parent-read : (i : ℕ) → (row_at t i).parent ≡ parent_in (row_of model_width models i)
  parent-read = everywhere (λ r row i. r.parent ≡ parent_in row) (λ i l. refl) (λ i. refl)

  pub kind-read : (i : ℕ) → i < length t.rows → kind_in (row_of model_width models i) ≡ Some (kind_at t i)
  kind-read i l =
      row_is (row_of model_width models i) (kind_in (row_of model_width models i)) (row_in models i) (row_read models no-bad-row i (rw rows-count at l)) ∙ ap (λ (r : Row). Some r.kind) (sym (row-at i l))

  pub kind-keeps : (i : ℕ) → hold (kind_rules (kind_at t i)) ≡ true
  kind-keeps i = is_true (hold (kind_rules (kind_at t i))) (whole_of ((fine t (passed-again (lent models connectors couplings) t e)).kinds i))

  -- what `kind_at` answers
  pub kind-named : (i : ℕ) → i < length t.rows → kind_of (kind_in (row_of model_width models i)) ≡ Some (named (kind_at t i))
  kind-named i l = ap kind_of (kind-read i l) ∙ rw (kind-keeps i)

  pub coupled-read : (i : ℕ) → i < length t.rows → is_coupled (kind_at t i) ≡ eqb (cell (row_of model_width models i) 1) 4
  coupled-read i l = ap (λ (r : Row). is_coupled r.kind) (row-at i l) ∙ coupled-is (row_of model_width models i)

  -- ---- depth: by the table's own earlier rows, the nearest first, and as `Depth` counts it
  pub earlier-read : (i : ℕ) → i ≤ length t.rows → reverse_aux (take i t.rows) [] ≡ earlier_in models i
  earlier-read i l =
      ap (λ (rs : List Row). reverse_aux (take i rs) []) rows_are ∙ earlier-from models i 0 (count_of model_width models) (rw rows-count at l) ∙ ap (earlier_in models) (zero-add i)

  pub depth-of : (i : ℕ) → i ≤ length t.rows → depth_in models i ≡ depth_of (reverse_aux (take i t.rows) []) (row_at t i).parent
  unfolding depth_in
  depth-of i l = rw (earlier-read i l, parent-read i) (sym (depth_same models i (parent_in (row_of model_width models i))))

  pub depth-read : (i : ℕ) → depth_in models i ≡ depth_at t i
  unfolding depth_in
  depth-read i = elim (dec_le (suc i) (length t.rows)) [
    | yes l ↦
        sym (depth_same models i (parent_in (row_of model_width models i)))
        ∙ sym (ap (λ (rs : List Row). get_or (depths [] rs) i 1) rows_are ∙ depths-from models 0 (count_of model_width models) i (rw rows-count at l) ∙ rw zero-add)
    | no l ↦ let p = past i (omega arith) in rw p.1 (none_deep models i ∙ sym (get_or-eq_default (depths [] t.rows) 1 (rw (depths-long [] t.rows) (omega arith))))
  ]

  -- ---- connectors and couplings
  pub connectors-read : t.connectors ≡ map (connector_at connectors) (from 0 (length t.connectors))
  connectors-read = connectors-are ∙ ap (λ (n : ℕ). map (connector_at connectors) (from 0 n)) (sym connectors-count)

  pub couplings-read : t.couplings ≡ map (coupling_at couplings) (from 0 (length t.couplings))
  couplings-read = couplings-are ∙ ap (λ (n : ℕ). map (coupling_at couplings) (from 0 n)) (sym couplings-count)

  pub coupling-is-at : (k : ℕ) → k < length t.couplings → CouplingIs (row_of coupling_width couplings k)
  coupling-is-at k l = coupling-at k (rw couplings-count at l)
