-- In a table that passes intake, the rules' lists are the places that a search finds, in order. Assumes nothing.
use Rattle.std.specs.Prelude.{ℕ, zero, suc, ◌+◌, ◌-◌, ◌≤◌, ◌<◌, ◌≡◌, refl, Bool, true, false, ◌&&◌, List, [], ◌∷◌, map, length, eqb, if◌then◌else◌, None, Some, Option}
use Rattle.std.proofs.Common.{ap, ◌∙◌, arith, add-one}
use Rattle.rules.specs.Base.{Outcome, done, ◌>>=◌, each, those, chosen, hold, from}
use Rattle.rules.specs.Sizes.{is_id}
use Rattle.rules.specs.Table.{Table, Target, Connector, Coupling, input_of, output_of, internal_of, connected, inputs, outputs, internals, components, parentless, id_at, is_parent, is_parentless}
use Rattle.rules.specs.Intake.{intake, passed}
use Rattle.rules.specs.Ends.{no-some}
use Rattle.rules.specs.Layout.{cell, coupling_width, coupling_in, whole_coupling, coupling_row, lent}
use Rattle.table.specs.Readers.{row_of}
use Rattle.table.specs.Passed as Passed
use Rattle.table.specs.Passed.{models-long, connectors-long, couplings-long, id-read, parent-read, connectors-read, couplings-read, coupling-is-at}
use Rattle.words.specs.Search.{first_from}
use Rattle.words.specs.SearchLaws.{first-at, first-nothing}
use Rattle.selection.specs.Selecting.{rows_in, connectors_in, couplings_in, connects, is_some, chosen_of, coupling_read, is_input, is_output, is_internal, is_component, is_free, has_id, target_in}
use Rattle.table.specs.Passed.{connector_at}
use Rattle.selection.specs.SelectingLaws.{kinds, coupling_by}

-- ---- a sweep over those that pass a test, by what a search answers
module _ {S : Type 0} (visit : ℕ → S → Outcome S) (test : ℕ → Bool) (k n : ℕ) (s : S) where
  pub each_on : (j : ℕ) → first_from test k n ≡ Some j → each visit (those test (from k n)) s ≡ (visit j s >>= each visit (those test (from (suc j) (k + n - suc j))))
  each_on j h = ap (λ (l : List ℕ). each visit l s) (first-at test k n j h).3

  pub each-end : first_from test k n ≡ None → each visit (those test (from k n)) s ≡ done s
  each-end h = ap (λ (l : List ℕ). each visit l s) (first-nothing test k n h)

-- the same, as a loop goes on: from `row` to before `end`, and then from the place after
module _ {S : Type 0} (visit : ℕ → S → Outcome S) (test : ℕ → Bool) (row end : ℕ) (s : S) where
  pub sweep-on : (j : ℕ) → first_from test row (end - row) ≡ Some j → each visit (those test (from row (end - row))) s ≡ (visit j s >>= each visit (those test (from (j + 1) (end - (j + 1)))))
  sweep-on j h =
      let first = first-at test row (end - row) j h in
      let left : row + (end - row) - suc j ≡ end - suc j = omega arith in
      each_on visit test row (end - row) s j h ∙ rw (left, add-one)

  pub sweep-end : first_from test row (end - row) ≡ None → each visit (those test (from row (end - row))) s ≡ done s
  sweep-end h = each-end visit test row (end - row) s h

  -- the place found is one of them
  pub sweep-bounds : (j : ℕ) → first_from test row (end - row) ≡ Some j → (row ≤ j) × (j < end) × (test j ≡ true)
  sweep-bounds j h = let first = first-at test row (end - row) j h in (omega arith, omega arith, first.2)

-- a sweep over things that are read at places is one over the places
pub each_map : {A S : Type 0} (visit : A → S → Outcome S) (f : ℕ → A) (ks : List ℕ) (s : S) → each visit (map f ks) s ≡ each (λ k. visit (f k)) ks s
each_map visit f [] s = refl
each_map visit f (k ∷ ks) s = λ i. visit (f k) s >>= (λ s. each_map visit f ks s i)

-- ---- lists of places
pub those-map : {A : Type 0} (test : A → Bool) (f : ℕ → A) (ks : List ℕ) → those test (map f ks) ≡ map f (those (λ k. test (f k)) ks)
those-map test f [] = refl
those-map test f (k ∷ ks) = by (test (f k)) (those-map test f ks)
  where
    by : (t : Bool) → those test (map f ks) ≡ map f (those (λ k. test (f k)) ks) → (if t then f k ∷ those test (map f ks) else those test (map f ks)) ≡ map f (if t then k ∷ those (λ k. test (f k)) ks else those (λ k. test (f k)) ks)
    by true later = ap (λ l. f k ∷ l) later
    by false later = later

-- what is chosen is `read`, where something is
abbrev Reads : {B : Type 0} → Option B → B → Type 0
Reads o read = o ≡ (if is_some o then Some read else None)

chosen-read : {B : Type 0} (g : ℕ → Option B) (read : ℕ → B) → ((k : ℕ) → Reads (g k) (read k)) → (ks : List ℕ) → chosen g ks ≡ map read (those (λ k. is_some (g k)) ks)
chosen-read g read reads [] = refl
chosen-read g read reads (k ∷ ks) = by (g k) (reads k) (chosen-read g read reads ks)
  where
    by : (o : Option _) → Reads o (read k) → chosen g ks ≡ map read (those (λ k. is_some (g k)) ks) → elim o [ None ↦ chosen g ks | Some y ↦ y ∷ chosen g ks ] ≡ map read (if is_some o then k ∷ those (λ k. is_some (g k)) ks else those (λ k. is_some (g k)) ks)
    by None h later = later
    by (Some y) h later = let same : y ≡ read k = cc in λ i. same i ∷ later i

-- what is chosen of each thing is what is chosen at its place
chosen-places : {A B : Type 0} (choose : A → Option B) (f : ℕ → A) (g : ℕ → Option B) (k n : ℕ) → ((j : ℕ) → j < k + n → choose (f j) ≡ g j) → chosen choose (map f (from k n)) ≡ chosen g (from k n)
chosen-places choose f g k zero same = refl
chosen-places choose f g k (suc n) same =
    λ i. let rest = chosen-places choose f g (suc k) n (λ j below. same j (omega arith)) i in elim (same k (omega arith) i) [ None ↦ rest | Some y ↦ y ∷ rest ]

-- ---- couplings
-- what is chosen of a coupling is what is chosen of its row
chosen-row : {B : Type 0} (choose : Coupling → Option B) (row : List ℕ) (c : Coupling) → coupling_row row ≡ Some c → choose c ≡ chosen_of choose (coupling_in row)
chosen-row choose row c h = by (coupling_in row) h
  where
    at : (t : Bool) (d : Coupling) → (if t then Some d else None) ≡ Some c → choose c ≡ choose d
    at true d h = let same : c ≡ d = cc in ap choose same
    at false d h = absurd (no-some h)

    by : (o : Option (Coupling × ℕ)) → whole_coupling row o ≡ Some c → choose c ≡ chosen_of choose o
    by None h = absurd (no-some h)
    by (Some (d, unused)) h = at (hold (eqb (length row) coupling_width ∷ is_id unused ∷ [])) d h

-- where a coupling leads: the cells 4 and 5 of its row
abbrev pub target_of : List ℕ → Target
target_of row = record { target = cell row 4; port = cell row 5 }

abbrev pub leads_to : List ℕ → ℕ → Target
leads_to couplings k = target_of (row_of coupling_width couplings k)

reads-if : {B : Type 0} (t : Bool) (x : B) → Reads (if t then Some x else None) x
reads-if true x = refl
reads-if false x = refl

-- what the rules choose of a row is what its words say there
module _ (owner : ℕ) (row : List ℕ) where
  input-reads : (port : ℕ) → Reads (chosen_of (input_of owner port) (coupling_in row)) (target_of row)
  input-reads port =
      kinds (cell row 1) (λ a b c. Reads (chosen_of (input_of owner port) (coupling_by row a b c)) (target_of row))
      (reads-if (eqb (cell row 0) owner && eqb (cell row 3) port) (target_of row)) refl refl refl

  module _ (source port : ℕ) where
    output-reads : Reads (chosen_of (output_of owner source port) (coupling_in row)) (cell row 5)
    output-reads =
        kinds (cell row 1) (λ a b c. Reads (chosen_of (output_of owner source port) (coupling_by row a b c)) (cell row 5))
        refl (reads-if (eqb (cell row 0) owner && eqb (cell row 2) source && eqb (cell row 3) port) (cell row 5)) refl refl

    internal-reads : Reads (chosen_of (internal_of owner source port) (coupling_in row)) (target_of row)
    internal-reads =
        kinds (cell row 1) (λ a b c. Reads (chosen_of (internal_of owner source port) (coupling_by row a b c)) (target_of row))
        refl refl (reads-if (eqb (cell row 0) owner && eqb (cell row 2) source && eqb (cell row 3) port) (target_of row)) refl

-- ---- a table that passed: its lists, by the words it was lent in
module _ (models connectors couplings : List ℕ) (t : Table) (h : intake (lent models connectors couplings) ≡ passed t) where
  rows-count : length t.rows ≡ rows_in models
  rows-count = let long = models-long models connectors couplings t h in omega arith

  connectors-count : length t.connectors ≡ connectors_in connectors
  connectors-count = let long = connectors-long models connectors couplings t h in omega arith

  couplings-count : length t.couplings ≡ couplings_in couplings
  couplings-count = let long = couplings-long models connectors couplings t h in omega arith

  -- the connectors from a source id and port
  pub connected-are : (source port : ℕ) → connected t source port ≡ map (connector_at connectors) (those (connects connectors source port) (from 0 (connectors_in connectors)))
  connected-are source port =
      let test : Connector → Bool = λ c. eqb c.source source && eqb c.source_port port in
      ap (those test) (connectors-read models connectors couplings t h ∙ ap (λ (n : ℕ). map (connector_at connectors) (from 0 n)) connectors-count)
      ∙ those-map test (connector_at connectors) (from 0 (connectors_in connectors))

  -- what a rule chooses of the couplings
  chosen-are : {B : Type 0} (choose : Coupling → Option B) (read : List ℕ → B) → ((row : List ℕ) → Reads (chosen_of choose (coupling_in row)) (read row))
      → chosen choose t.couplings ≡ map (λ k. read (row_of coupling_width couplings k)) (those (λ k. is_some (chosen_of choose (coupling_read couplings k))) (from 0 (couplings_in couplings)))
  chosen-are choose read reads =
      ap (chosen choose) (couplings-read models connectors couplings t h)
      ∙ chosen-places choose (Passed.coupling_at couplings) (λ k. chosen_of choose (coupling_read couplings k)) 0 (length t.couplings)
      (λ k below. chosen-row choose (row_of coupling_width couplings k) _ (coupling-is-at models connectors couplings t h k (omega arith)).reads)
      ∙ ap (λ (m : ℕ). chosen (λ k. chosen_of choose (coupling_read couplings k)) (from 0 m)) couplings-count
      ∙ chosen-read _ (λ k. read (row_of coupling_width couplings k)) (λ k. reads (row_of coupling_width couplings k)) (from 0 (couplings_in couplings))

  -- the external input couplings of an owner at a port, and its output and internal couplings from a component's port
  pub inputs_are : (owner port : ℕ) → inputs t owner port ≡ map (leads_to couplings) (those (is_input couplings owner port) (from 0 (couplings_in couplings)))
  inputs_are owner port = chosen-are (input_of owner port) target_of (λ row. input-reads owner row port)

  pub outputs-are : (owner source port : ℕ) → outputs t owner source port ≡ map (λ k. (leads_to couplings k).port) (those (is_output couplings owner source port) (from 0 (couplings_in couplings)))
  outputs-are owner source port = chosen-are (output_of owner source port) (λ row. (target_of row).port) (λ row. output-reads owner row source port)

  pub internals-are : (owner source port : ℕ) → internals t owner source port ≡ map (leads_to couplings) (those (is_internal couplings owner source port) (from 0 (couplings_in couplings)))
  internals-are owner source port = chosen-are (internal_of owner source port) target_of (λ row. internal-reads owner row source port)

  -- the components of a Coupled, and the models without parent
  pub components-are : (owner : ℕ) → components t owner ≡ those (is_component models owner) (from 0 (rows_in models))
  components-are owner = λ i. those (λ k. is_parent owner (parent-read models connectors couplings t h k i)) (from 0 (rows-count i))

  pub parentless-are : parentless t ≡ those (is_free models) (from 0 (rows_in models))
  parentless-are = λ i. those (λ k. is_parentless (parent-read models connectors couplings t h k i)) (from 0 (rows-count i))

  -- which row has an id
  pub id-is : (id k : ℕ) → eqb (id_at t k) id ≡ has_id models id k
  id-is id k = ap (λ (n : ℕ). eqb n id) (id-read models connectors couplings t h k)

-- ---- what the reader answers is where the rules' coupling leads
pub coupling-leads : (couplings : List ℕ) (k : ℕ) → ((target_in 6 4 couplings k).id ≡ (leads_to couplings k).target) × ((target_in 6 4 couplings k).port ≡ (leads_to couplings k).port)
coupling-leads couplings k = (refl, refl)
