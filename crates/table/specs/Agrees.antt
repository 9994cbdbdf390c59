-- The tests of the words agree with the rules of intake: each row's, and so the first bad row of each part, and the verdict. Assumes nothing.
use Prim.Native.Nat.{ℕ, zero, suc}
use Rattle.std.specs.Prelude.{◌≡◌, refl, Bool, false, ◌&&◌, List, [], ◌∷◌, ◌++◌, map, length, T, ltb, eqb, if◌then◌else◌, None, Some, Option}
use Rattle.std.proofs.Math.Path.{sym}
use Rattle.std.proofs.Common.{ap, ◌∙◌, subst, true≢false, arith, eqb→eq}
use Rattle.std.proofs.Math.Bool.{true, not}
use borrow.Author.Tests.{ne_eqb, le-leb, lt-leb}
use Rattle.std.proofs.Math.Dec.{leb}
use Rattle.std.specs.Float.Ieee.{binary64, of_bits}
use Rattle.times.specs.Time.{is_time}
use Rattle.rules.specs.declared.Metric.{Metric}
use Rattle.rules.specs.Sizes.{is_port, is_id, is_word, largest_batch}
use Rattle.rules.specs.Base.{every, hold, from}
use Rattle.rules.specs.Table as Table
use Rattle.rules.specs.Intake.{kind_rules, is_new, parent_fits, depth_fits, row_rules, connector_rules, coupling_rules, first_bad_row, first_bad, is_coupled_id, is_component_of}
use Rattle.rules.specs.Ends.{no-some, if-both, one}
use Rattle.rules.specs.Layout.{cell, parent_in, capacity_in, metric_in, stopwatch_in, kind_in, model_width, connector_width, coupling_width, model_row, connector_row, coupling_row, whole_coupling}
use Rattle.rules.specs.Layout as Layout
use Rattle.words.specs.Search.{first_from}
use Rattle.table.specs.Readers.{row_of, named, kind_of}
use Rattle.table.specs.Judging.{processor_of, batcher_of, stopwatch_of, input_in, output_in, inner_in, kind_or, row_in, earlier_in, is_kind, cells_fit, row_fits, parent_joins, row_joins, row_keeps, connector_keeps, owner_fits, coupling_keeps}

-- a row that is whole, and keeps these rules
abbrev pub keeps : {A : Type 0} → (A → List Bool) → Option A → Bool
keeps rules None = false
keeps rules (Some x) = hold (rules x)

keeps-where : {A : Type 0} (rules : A → List Bool) (b : Bool) (x : A) → keeps rules (if b then Some x else None) ≡ (if b then hold (rules x) else false)
keeps-where rules true x = refl
keeps-where rules false x = refl

abbrev pub place_of : Option ℕ → Option ℕ
place_of (Some k) = Some k
place_of None = None

-- ---- the first bad row, by a test of each
pick-place : (b : Bool) (k : ℕ) (rest : Option ℕ) → (if b then place_of rest else Some k) ≡ place_of (if not b then Some k else rest)
pick-place true k rest = refl
pick-place false k rest = refl

pub first-bad-is : {A : Type 0} (rules : A → List Bool) (f : ℕ → Option A) (k n : ℕ) → first_bad rules k (map f (from k n)) ≡ place_of (first_from (λ j. not (keeps rules (f j))) k n)
first-bad-is rules f k zero = refl
first-bad-is {A} rules f k (suc n) = go (f k) (first-bad-is rules f (suc k) n)
  where
    go : (o : Option A) → first_bad rules (suc k) (map f (from (suc k) n)) ≡ place_of (first_from (λ j. not (keeps rules (f j))) (suc k) n)
        → first_bad rules k (o ∷ map f (from (suc k) n)) ≡ place_of (if not (keeps rules o) then Some k else first_from (λ j. not (keeps rules (f j))) (suc k) n)
    go None e = refl
    go (Some x) e = rw e (pick-place (hold (rules x)) k (first_from (λ j. not (keeps rules (f j))) (suc k) n))

-- ---- a model row
pub read : (row : List ℕ) (o : Option Table.Kind) (r : Table.Row) → Layout.row_in row o ≡ Some r → record { id = cell row 0; parent = parent_in row; kind = kind_or o } ≡ r
read row None r e = absurd (no-some e)
read row (Some k) r e = go (hold (eqb (length row) model_width ∷ ltb (cell row 2) 8 ∷ every is_port (Layout.unused_ports k row) ∷ [])) e
  where
    go : (b : Bool) → (if b then Some (record { id = cell row 0; parent = parent_in row; kind = k }) else None) ≡ Some r → record { id = cell row 0; parent = parent_in row; kind = k } ≡ r
    go true e = cc
    go false e = absurd (no-some e)

pub rows-first : (models : List ℕ) (k n : ℕ) → first_bad_row k (earlier_in models k) (map (λ j. model_row (row_of model_width models j)) (from k n)) ≡ place_of (first_from (λ j. not (keeps (row_rules (earlier_in models j)) (model_row (row_of model_width models j)))) k n)
rows-first models k zero = refl
rows-first models k (suc n) = go (model_row (row_of model_width models k)) (read (row_of model_width models k) (kind_in (row_of model_width models k))) (rows-first models (suc k) n)
  where
    rest : Option ℕ
    rest = first_from (λ j. not (keeps (row_rules (earlier_in models j)) (model_row (row_of model_width models j)))) (suc k) n

    go : (o : Option Table.Row) → ((r : Table.Row) → o ≡ Some r → row_in models k ≡ r)
        → first_bad_row (suc k) (row_in models k ∷ earlier_in models k) (map (λ j. model_row (row_of model_width models j)) (from (suc k) n)) ≡ place_of rest
        → first_bad_row k (earlier_in models k) (o ∷ map (λ j. model_row (row_of model_width models j)) (from (suc k) n)) ≡ place_of (if not (keeps (row_rules (earlier_in models k)) o) then Some k else rest)
    go None f e = refl
    go (Some r) f e = rw (rw (f r refl) at e) (pick-place (hold (row_rules (earlier_in models k) r)) k rest)

-- ---- lists of tests
-- a list whose last test fails
last-fails : (bs : List Bool) → hold (bs ++ (false ∷ [])) ≡ false
last-fails [] = refl
last-fails (true ∷ bs) = last-fails bs
last-fails (false ∷ bs) = refl

-- one list after the other
joined : (xs ys : List Bool) → (if hold xs then hold ys else false) ≡ hold (xs ++ ys)
joined [] ys = refl
joined (true ∷ xs) ys = joined xs ys
joined (false ∷ xs) ys = refl

-- a test behind others
moved : (b : Bool) (xs ys : List Bool) → hold (b ∷ (xs ++ ys)) ≡ hold (xs ++ (b ∷ ys))
moved b [] ys = refl
moved b (true ∷ xs) ys = moved b xs ys
moved true (false ∷ xs) ys = refl
moved false (false ∷ xs) ys = refl

-- the ports that a kind uses, and those that it does not
module _ (p q r s : Bool) (rest : List Bool) where
  two-used : (hold (q ∷ r ∷ []) && hold (p ∷ s ∷ rest)) ≡ (hold (p ∷ q ∷ r ∷ s ∷ []) && hold (p ∷ s ∷ rest))
  two-used = go p q r s
    where
      go : (p q r s : Bool) → (hold (q ∷ r ∷ []) && hold (p ∷ s ∷ rest)) ≡ (hold (p ∷ q ∷ r ∷ s ∷ []) && hold (p ∷ s ∷ rest))
      go true true true true = refl
      go true true true false = refl
      go true true false s = refl
      go true false r s = refl
      go false true true s = refl
      go false true false s = refl
      go false false r s = refl

  all-used : hold (p ∷ q ∷ r ∷ s ∷ rest) ≡ (hold (p ∷ q ∷ r ∷ s ∷ []) && hold (p ∷ q ∷ r ∷ s ∷ rest))
  all-used = go p q r s
    where
      go : (p q r s : Bool) → hold (p ∷ q ∷ r ∷ s ∷ rest) ≡ (hold (p ∷ q ∷ r ∷ s ∷ []) && hold (p ∷ q ∷ r ∷ s ∷ rest))
      go true true true true = refl
      go true true true false = refl
      go true true false s = refl
      go true false r s = refl
      go false q r s = refl

-- `unused` and `ports` differ only where the kind's own rules fail
row-tests : (whole given unused ports kind : Bool) → (unused && kind) ≡ (ports && kind) → (i n p d : Bool)
    → (if hold (whole ∷ given ∷ unused ∷ []) then hold (i ∷ n ∷ p ∷ d ∷ kind ∷ []) else false) ≡ (hold (whole ∷ given ∷ ports ∷ kind ∷ []) && hold (i ∷ n ∷ p ∷ d ∷ []))
row-tests false given unused ports kind e i n p d = refl
row-tests true false unused ports kind e i n p d = refl
row-tests true true true true true e i n p d = refl
row-tests true true false false true e i n p d = refl
row-tests true true true false true e i n p d = absurd (true≢false e)
row-tests true true false true true e i n p d = absurd (true≢false (sym e))
row-tests true true true true false e i n p d = last-fails (i ∷ n ∷ p ∷ d ∷ [])
row-tests true true true false false e i n p d = last-fails (i ∷ n ∷ p ∷ d ∷ [])
row-tests true true false true false e i n p d = refl
row-tests true true false false false e i n p d = refl

-- what holds of each kind that a row can have, and of none, holds of the row's
kind-cases : (row : List ℕ) (P : Option Table.Kind → Type 0) → P (Some (processor_of (cell row 4) (cell row 7) (capacity_in row))) → P (Some (batcher_of (cell row 4) (cell row 7) (cell row 8) (cell row 9)))
    → ((o : Option Metric) → P (stopwatch_in row o)) → P (Some Table.coupled) → P None → P (kind_in row)
kind-cases row P processor batcher stopwatch coupled nothing = go (eqb (cell row 1) 1) (eqb (cell row 1) 2) (eqb (cell row 1) 3) (eqb (cell row 1) 4)
  where
    go : (a b c d : Bool) → P (if a then Some (processor_of (cell row 4) (cell row 7) (capacity_in row)) else if b then Some (batcher_of (cell row 4) (cell row 7) (cell row 8) (cell row 9)) else if c then stopwatch_in row (metric_in row) else if d then Some Table.coupled else None)
    go true b c d = processor
    go false true c d = batcher
    go false false true d = stopwatch (metric_in row)
    go false false false true = coupled
    go false false false false = nothing

-- a kind is named where its rules hold
named-is : (k : Table.Kind) → is_kind (kind_of (Some k)) ≡ hold (kind_rules k)
named-is k = go k (hold (kind_rules k))
  where
    go : (k : Table.Kind) (b : Bool) → is_kind (if b then Some (named k) else None) ≡ b
    go k false = refl
    go (Table.processor p) true = refl
    go (Table.batcher b) true = refl
    go (Table.stopwatch w) true = refl
    go Table.coupled true = refl

module _ (earlier : List Table.Row) (row : List ℕ) where
  -- the row, with this kind
  abbrev with_kind : Option Table.Kind → Table.Row
  with_kind o = record { id = cell row 0; parent = parent_in row; kind = kind_or o }

  abbrev Agree : Option Table.Kind → Type 0
  Agree o = keeps (row_rules earlier) (Layout.row_in row o)
      ≡ (hold (eqb (length row) model_width ∷ ltb (cell row 2) 8 ∷ cells_fit row 4 8 ∷ is_kind (kind_of o) ∷ [])
      && hold (is_id (cell row 0) ∷ is_new earlier (cell row 0) ∷ parent_fits earlier (parent_in row) ∷ depth_fits earlier (with_kind o) ∷ []))

  agree : (k : Table.Kind) → (every is_port (Layout.unused_ports k row) && hold (kind_rules k)) ≡ (cells_fit row 4 8 && hold (kind_rules k)) → Agree (Some k)
  agree k e =
      keeps-where (row_rules earlier) (hold (eqb (length row) model_width ∷ ltb (cell row 2) 8 ∷ every is_port (Layout.unused_ports k row) ∷ [])) (with_kind (Some k))
      ∙ rw (named-is k) (row-tests (eqb (length row) model_width) (ltb (cell row 2) 8) (every is_port (Layout.unused_ports k row)) (cells_fit row 4 8) (hold (kind_rules k)) e
      (is_id (cell row 0)) (is_new earlier (cell row 0)) (parent_fits earlier (parent_in row)) (depth_fits earlier (with_kind (Some k))))

  -- the four ports
  abbrev p4 : Bool
  p4 = is_port (cell row 4)

  abbrev p5 : Bool
  p5 = is_port (cell row 5)

  abbrev p6 : Bool
  p6 = is_port (cell row 6)

  abbrev p7 : Bool
  p7 = is_port (cell row 7)

  none-agrees : Agree None
  none-agrees = rw (last-fails (eqb (length row) model_width ∷ ltb (cell row 2) 8 ∷ cells_fit row 4 8 ∷ []))

  stopwatch-agrees : (o : Option Metric) → Agree (stopwatch_in row o)
  unfolding cells_fit
  stopwatch-agrees None = none-agrees
  stopwatch-agrees (Some m) = agree (stopwatch_of (cell row 4) (cell row 5) (cell row 6) (cell row 7) m) (all-used p4 p5 p6 p7 (not (eqb (cell row 4) (cell row 5)) ∷ not (eqb (cell row 4) (cell row 6)) ∷ not (eqb (cell row 5) (cell row 6)) ∷ []))

  agree-all : Agree (kind_in row)
  unfolding cells_fit
  agree-all =
      kind-cases row Agree (agree (processor_of (cell row 4) (cell row 7) (capacity_in row)) (two-used p4 p5 p6 p7 (is_word (capacity_in row) ∷ [])))
      (agree (batcher_of (cell row 4) (cell row 7) (cell row 8) (cell row 9)) (two-used p4 p5 p6 p7 (leb 1 (cell row 8) ∷ leb (cell row 8) largest_batch ∷ is_time (of_bits binary64 (cell row 9)) ∷ []))) stopwatch-agrees (agree Table.coupled refl) none-agrees

-- a model row keeps its rules where the tests of its words pass
pub row-keeps-is : (models : List ℕ) (k : ℕ) → keeps (row_rules (earlier_in models k)) (model_row (row_of model_width models k)) ≡ row_keeps models k
unfolding row_keeps row_fits row_joins parent_joins
row-keeps-is models k = agree-all (earlier_in models k) (row_of model_width models k)

-- a row that keeps its own rules is whole
pub fits-length : (row : List ℕ) → row_fits row ≡ true → length row ≡ model_width
unfolding row_fits
fits-length row e = eqb→eq (length row) model_width (if-both (eqb (length row) model_width) _ (subst T (sym e) tt)).0

-- ---- a connector and a coupling
pub connector-keeps-is : (row : List ℕ) → keeps connector_rules (connector_row row) ≡ connector_keeps row
unfolding connector_keeps cells_fit
connector-keeps-is row =
    keeps-where connector_rules (eqb (length row) connector_width) (record { source = cell row 0; source_port = cell row 1; target = cell row 2; target_port = cell row 3 })
    ∙ rw (one (cells_fit row 0 4))

-- the id that a coupling does not use is tested first, or in its place
module _ (w o a b c d : Bool) (more : List Bool) where
  abbrev in_order : Bool
  in_order = hold (w ∷ hold (o ∷ []) ∷ hold (a ∷ b ∷ c ∷ d ∷ []) ∷ hold more ∷ [])

  abbrev guard : Bool → Bool → Bool
  guard test rest = if test then rest else false

  flat : hold (w ∷ o ∷ a ∷ b ∷ c ∷ d ∷ more) ≡ in_order
  flat = sym
      (ap (λ (t : Bool). guard w (guard (hold (o ∷ [])) (guard (hold (a ∷ b ∷ c ∷ d ∷ [])) t))) (one (hold more))
      ∙ ap (λ (t : Bool). guard w (guard (hold (o ∷ [])) t)) (joined (a ∷ b ∷ c ∷ d ∷ []) more)
      ∙ ap (guard w) (joined (o ∷ []) (a ∷ b ∷ c ∷ d ∷ more)))

  first-unused : guard (hold (w ∷ a ∷ [])) (hold (o ∷ b ∷ c ∷ d ∷ more)) ≡ in_order
  first-unused = joined (w ∷ a ∷ []) (o ∷ b ∷ c ∷ d ∷ more) ∙ ap (guard w) (moved a (o ∷ []) (b ∷ c ∷ d ∷ more)) ∙ flat

  third-unused : guard (hold (w ∷ c ∷ [])) (hold (o ∷ a ∷ b ∷ d ∷ more)) ≡ in_order
  third-unused = joined (w ∷ c ∷ []) (o ∷ a ∷ b ∷ d ∷ more) ∙ ap (guard w) (moved c (o ∷ a ∷ b ∷ []) (d ∷ more)) ∙ flat

  none-unused : guard (hold (w ∷ true ∷ [])) (hold (o ∷ a ∷ b ∷ c ∷ d ∷ more)) ≡ in_order
  none-unused = joined (w ∷ true ∷ []) (o ∷ a ∷ b ∷ c ∷ d ∷ more) ∙ flat

module _ (rows : List Table.Row) (row : List ℕ) where
  abbrev wide : Bool
  wide = eqb (length row) coupling_width

  abbrev port : ℕ → Bool
  port c = is_port (cell row c)

  abbrev held : Bool
  held = is_coupled_id rows (cell row 0)

  abbrev fields : List Bool
  fields = wide ∷ hold (port 0 ∷ []) ∷ hold (port 2 ∷ port 3 ∷ port 4 ∷ port 5 ∷ []) ∷ []

  -- by the word of its kind
  by_kind : (n : ℕ) → keeps (coupling_rules rows) (whole_coupling row (if eqb n 1 then Some (input_in row, cell row 2) else if eqb n 2 then Some (output_in row, cell row 4) else if eqb n 3 then Some (inner_in row, 0) else None))
      ≡ hold (fields ++ (owner_fits rows (cell row 0) n (cell row 4) ∷ []))
  unfolding owner_fits
  by_kind zero = sym (last-fails fields)
  by_kind (suc zero) =
      keeps-where (coupling_rules rows) (hold (wide ∷ port 2 ∷ [])) (input_in row)
      ∙ first-unused wide (port 0) (port 2) (port 3) (port 4) (port 5) (held ∷ is_component_of rows (cell row 0) (cell row 4) ∷ [])
  by_kind (suc (suc zero)) =
      keeps-where (coupling_rules rows) (hold (wide ∷ port 4 ∷ [])) (output_in row) ∙ third-unused wide (port 0) (port 2) (port 3) (port 4) (port 5) (held ∷ [])
  by_kind (suc (suc (suc zero))) =
      keeps-where (coupling_rules rows) (hold (wide ∷ true ∷ [])) (inner_in row) ∙ none-unused wide (port 0) (port 2) (port 3) (port 4) (port 5) (held ∷ [])
  by_kind (suc (suc (suc (suc n)))) =
      let m : ℕ = suc (suc (suc (suc n))) in
      rw (ne_eqb m 1 (λ e. omega arith), ne_eqb m 2 (λ e. omega arith), ne_eqb m 3 (λ e. omega arith), le-leb 1 m (omega arith), lt-leb m 3 (omega arith)) (sym (last-fails fields))

  pub coupling-keeps-is : keeps (coupling_rules rows) (coupling_row row) ≡ coupling_keeps rows row
  unfolding coupling_keeps cells_fit
  coupling-keeps-is = by_kind (cell row 1)
