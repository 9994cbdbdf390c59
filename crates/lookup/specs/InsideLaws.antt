-- The laws of the table inside a lent state: where its parts stand, how many rows they have, what a search in them finds, and how wide their words are. Assumes nothing.
use Rattle.std.specs.Prelude.{Option, ℕ, zero, suc, ◌+◌, ◌-◌, ◌*◌, ◌≤◌, ◌<◌, ◌≡◌, refl, Bool, true, false, List, [], ◌∷◌, map, length, get_or, take, drop, T, eqb, if◌then◌else◌, None, Some}
use Rattle.std.proofs.Common.{sym, ap, ◌∙◌, subst, arith, zero-add, add-zero, eqb-true, get_or-take, get_or-drop, ltb→lt}
use Rattle.std.proofs.Math.Nat.{sub-zero}
use Rattle.rules.specs.Base.{those, hold, from}
use Rattle.rules.specs.Sizes.{is_id}
use Rattle.rules.specs.Table.{Row, Connector, Coupling, row_at, id_at, kind_at, is_coupled, is_parent, is_parentless, components, parentless, connected, inputs, outputs, internals}
use Rattle.rules.specs.Intake.{connector_rules, coupling_rules}
use Rattle.rules.specs.Ends.{no-some, All, nil, ◌&◌, parts}
use Rattle.rules.specs.Decides.{passes, tells, same, parent-decides, parentless-decides, ◌∈◌, here, there, those-element, components-element, parentless-element}
use Rattle.rules.specs.Depth.{Fine, fine, passed-again}
use Rattle.rules.specs.Layout.{cell, model_width, kind_in, coupling_width, coupling_row, whole_coupling}
use Rattle.words.specs.Lists.{part_length}
use Rattle.words.specs.Search.{first_from}
use Rattle.table.specs.Readers.{row_of, id_in, named, kind_of}
use Rattle.table.specs.Passed.{connector_at, coupling_at, coupling_of, models-long, connectors-long, couplings-long, connectors-read, couplings-read, coupling-is-at, id-read, parent-read, kind-named, coupled-read, sizes}
use Rattle.table.specs.Rows.{row-cell}
use Rattle.table.specs.Judging.{input_in, output_in, inner_in}
use Rattle.selection.specs.declared.Target.{Target}
use Rattle.selection.specs.declared.Link.{Link}
use Rattle.selection.specs.Selecting.{connects, is_input, is_output, is_internal, is_component, is_free, has_id, rows_in, Finds}
use Rattle.selection.specs.Selecting as Selecting
use Rattle.selection.specs.SelectingLaws.{coupling_by}
use Rattle.selection.specs.Selected.{leads_to, id-is, connected-are, inputs_are, outputs-are, internals-are}
use Rattle.lookup.specs.Inside.{Inside, count_in, connectors_at, couplings_at, tail_at, models_in, connectors_in, couplings_in, posted_in, table_in}
use Rattle.lookup.specs.OneRow.{both-nowhere, both-here, both-not}

-- ---- the parts, as they are lent from one place to before another
part-is : (start end n : ℕ) (words : List ℕ) → end ≡ start + n → take (end - start) (drop start words) ≡ take n (drop start words)
part-is start end n words h = let left : end - start ≡ n = omega arith in ap (λ (m : ℕ). take m (drop start words)) left

module _ (state : List ℕ) where
  abbrev pub lent_models : List ℕ
  lent_models = take (connectors_at state - 3) (drop 3 state)

  abbrev pub lent_connectors : List ℕ
  lent_connectors = take (couplings_at state - connectors_at state) (drop (connectors_at state) state)

  abbrev pub lent_couplings : List ℕ
  lent_couplings = take (tail_at state - couplings_at state) (drop (couplings_at state) state)

  pub models-part : lent_models ≡ models_in state
  models-part = part-is 3 (connectors_at state) (count_in 0 state * 10) state (omega arith)

  pub connectors-part : lent_connectors ≡ connectors_in state
  connectors-part = part-is (connectors_at state) (couplings_at state) (count_in 1 state * 4) state (omega arith)

  pub couplings-part : lent_couplings ≡ couplings_in state
  couplings-part = part-is (couplings_at state) (tail_at state) (count_in 2 state * 6) state (omega arith)

-- ---- lists
element-keeps : {A : Type 0} (P : A → Type 0) {xs : List A} {x : A} → All P xs → x ∈ xs → P x
element-keeps {A = A} P nil x6 = elim x6 [ ]
element-keeps P (h & p) (here e) = subst P e h
element-keeps P (h & p) (there q) = element-keeps P p q

places-keep : {A : Type 0} (P : A → Type 0) (f : ℕ → A) (j n : ℕ) → All P (map f (from j n)) → (k : ℕ) → k < n → P (f (j + k))
places-keep P f j zero p k l = absurd (omega arith)
places-keep P f j (suc n) (h & p) zero l = rw add-zero h
places-keep P f j (suc n) (h & p) (suc k) l = let e : suc j + k ≡ j + suc k = omega arith in subst (λ (i : ℕ). P (f i)) e (places-keep P f (suc j) n p k (omega arith))

pub place-keeps : {A : Type 0} (P : A → Type 0) (f : ℕ → A) (n : ℕ) → All P (map f (from 0 n)) → (k : ℕ) → k < n → P (f k)
place-keeps P f n p k l = rw zero-add at (places-keep P f 0 n p k l)

-- ---- the cells of connectors and couplings are ids and ports
small : (n : ℕ) → T (is_id n) → n < 65536
small n t = ltb→lt n 65536 t

taken : {A : Type 0} (t : Bool) (x y : A) → (if t then Some x else None) ≡ Some y → T t
taken true x y e = tt
taken false x y e = absurd (no-some e)

abbrev LeadsSmall : List ℕ → Type 0
LeadsSmall row = (cell row 4 < 65536) × (cell row 5 < 65536)

-- those that the coupling's kind uses are by its rules, the other by the row's own test
module _ (rows : List Row) (row : List ℕ) where
  input-small : All T (coupling_rules rows (input_in row)) → LeadsSmall row
  input-small (owner & sp & target & tp & rest) = (small (cell row 4) target, small (cell row 5) tp)

  inner-small : All T (coupling_rules rows (inner_in row)) → LeadsSmall row
  inner-small (owner & source & sp & target & tp & rest) = (small (cell row 4) target, small (cell row 5) tp)

  output-small : All T (eqb (length row) coupling_width ∷ is_id (cell row 4) ∷ []) → All T (coupling_rules rows (output_in row)) → LeadsSmall row
  output-small (whole & unused & nil) (owner & source & sp & tp & rest) = (small (cell row 4) unused, small (cell row 5) tp)

  coupling-small : coupling_row row ≡ Some (coupling_of row) → T (hold (coupling_rules rows (coupling_of row))) → LeadsSmall row
  coupling-small = go (eqb (cell row 1) 1) (eqb (cell row 1) 2) (eqb (cell row 1) 3)
    where
      go : (a b c : Bool) → whole_coupling row (coupling_by row a b c) ≡ Some (if a then input_in row else if b then output_in row else inner_in row)
          → T (hold (coupling_rules rows (if a then input_in row else if b then output_in row else inner_in row))) → LeadsSmall row
      go true b c e h = input-small (parts (coupling_rules rows (input_in row)) h)
      go false true c e h =
          let checks = eqb (length row) coupling_width ∷ is_id (cell row 4) ∷ [] in
          output-small (parts checks (taken (hold checks) (output_in row) (output_in row) e)) (parts (coupling_rules rows (output_in row)) h)
      go false false c e h = inner-small (parts (coupling_rules rows (inner_in row)) h)

connector-small : (c : Connector) → T (hold (connector_rules c)) → (c.target < 65536) × (c.target_port < 65536)
connector-small c h = by (parts (connector_rules c) h)
  where
    by : All T (connector_rules c) → (c.target < 65536) × (c.target_port < 65536)
    by (source & sp & target & tp & nil) = (small c.target target, small c.target_port tp)

-- ---- the table inside
module _ (state : List ℕ) (inside : Inside state) where
  pub fine-in : Fine (table_in state)
  fine-in = fine (table_in state) (passed-again (posted_in state) (table_in state) inside.passes)

  rows_words : length (models_in state) ≡ 10 * length (table_in state).rows
  rows_words = models-long (models_in state) (connectors_in state) (couplings_in state) (table_in state) inside.passes

  connectors-words : length (connectors_in state) ≡ 4 * length (table_in state).connectors
  connectors-words = connectors-long (models_in state) (connectors_in state) (couplings_in state) (table_in state) inside.passes

  couplings-words : length (couplings_in state) ≡ 6 * length (table_in state).couplings
  couplings-words = couplings-long (models_in state) (connectors_in state) (couplings_in state) (table_in state) inside.passes

  -- words 0, 1 and 2 say how many there are
  pub counts : (length (table_in state).rows ≡ count_in 0 state) × (length (table_in state).connectors ≡ count_in 1 state) × (length (table_in state).couplings ≡ count_in 2 state)
  counts =
      let room = inside.room in
      let models = part_length 3 (count_in 0 state * 10) state (omega arith) in
      let connectors = part_length (connectors_at state) (count_in 1 state * 4) state (omega arith) in
      let couplings = part_length (couplings_at state) (count_in 2 state * 6) state (omega arith) in
      (omega (arith, rows_words), omega (arith, connectors-words), omega (arith, couplings-words))

  pub sizes-in : (length (table_in state).rows ≤ 64) × (length (table_in state).connectors ≤ 256) × (length (table_in state).couplings ≤ 256)
  sizes-in = sizes (models_in state) (connectors_in state) (couplings_in state) (table_in state) inside.passes

  -- the whole rows of each part
  rows_whole : rows_in (models_in state) ≡ length (table_in state).rows
  rows_whole = omega (arith, rows_words)

  connectors-whole : Selecting.connectors_in (connectors_in state) ≡ length (table_in state).connectors
  connectors-whole = omega (arith, connectors-words)

  couplings-whole : Selecting.couplings_in (couplings_in state) ≡ length (table_in state).couplings
  couplings-whole = omega (arith, couplings-words)

  -- ---- the rules' lists, by the places among the words
  pub inputs_in : (owner port : ℕ) → inputs (table_in state) owner port ≡ map (leads_to (couplings_in state)) (those (is_input (couplings_in state) owner port) (from 0 (length (table_in state).couplings)))
  inputs_in owner port =
      inputs_are (models_in state) (connectors_in state) (couplings_in state) (table_in state) inside.passes owner port
      ∙ ap (λ (n : ℕ). map (leads_to (couplings_in state)) (those (is_input (couplings_in state) owner port) (from 0 n))) couplings-whole

  pub outputs-in : (owner source port : ℕ) → outputs (table_in state) owner source port ≡ map (λ k. (leads_to (couplings_in state) k).port) (those (is_output (couplings_in state) owner source port) (from 0 (length (table_in state).couplings)))
  outputs-in owner source port =
      outputs-are (models_in state) (connectors_in state) (couplings_in state) (table_in state) inside.passes owner source port
      ∙ ap (λ (n : ℕ). map (λ k. (leads_to (couplings_in state) k).port) (those (is_output (couplings_in state) owner source port) (from 0 n))) couplings-whole

  pub internals-in : (owner source port : ℕ) → internals (table_in state) owner source port ≡ map (leads_to (couplings_in state)) (those (is_internal (couplings_in state) owner source port) (from 0 (length (table_in state).couplings)))
  internals-in owner source port =
      internals-are (models_in state) (connectors_in state) (couplings_in state) (table_in state) inside.passes owner source port
      ∙ ap (λ (n : ℕ). map (leads_to (couplings_in state)) (those (is_internal (couplings_in state) owner source port) (from 0 n))) couplings-whole

  pub connected-in : (source port : ℕ) → connected (table_in state) source port ≡ map (connector_at (connectors_in state)) (those (connects (connectors_in state) source port) (from 0 (length (table_in state).connectors)))
  connected-in source port =
      connected-are (models_in state) (connectors_in state) (couplings_in state) (table_in state) inside.passes source port
      ∙ ap (λ (n : ℕ). map (connector_at (connectors_in state)) (those (connects (connectors_in state) source port) (from 0 n))) connectors-whole

  -- ---- every id and port is below 2^16
  pub id-fits : (i : ℕ) → id_at (table_in state) i < 65536
  id-fits i = small (id_at (table_in state) i) (fine-in.ids i)

  pub coupling-fits : (k : ℕ) → k < length (table_in state).couplings → ((leads_to (couplings_in state) k).target < 65536) × ((leads_to (couplings_in state) k).port < 65536)
  coupling-fits k l =
      let read = couplings-read (models_in state) (connectors_in state) (couplings_in state) (table_in state) inside.passes in
      let is = coupling-is-at (models_in state) (connectors_in state) (couplings_in state) (table_in state) inside.passes k l in
      coupling-small (table_in state).rows (row_of coupling_width (couplings_in state) k) is.reads
      (place-keeps (λ c. T (hold (coupling_rules (table_in state).rows c))) (coupling_at (couplings_in state)) (length (table_in state).couplings)
      (subst (λ (cs : List Coupling). All (λ c. T (hold (coupling_rules (table_in state).rows c))) cs) read fine-in.inner) k l)

  pub connector-fits : (k : ℕ) → k < length (table_in state).connectors → ((connector_at (connectors_in state) k).target < 65536) × ((connector_at (connectors_in state) k).target_port < 65536)
  connector-fits k l =
      let read = connectors-read (models_in state) (connectors_in state) (couplings_in state) (table_in state) inside.passes in
      connector-small (connector_at (connectors_in state) k)
      (place-keeps (λ c. T (hold (connector_rules c))) (connector_at (connectors_in state)) (length (table_in state).connectors)
      (subst (λ (cs : List Connector). All (λ c. T (hold (connector_rules c))) cs) read fine-in.links) k l)

  -- ---- components
  pub found_in : (owner id j : ℕ) → (j ∷ []) ≡ those (λ i. eqb (id_at (table_in state) i) id) (components (table_in state) owner) → (j < length (table_in state).rows) × T (is_parent owner (row_at (table_in state) j).parent) × (id_at (table_in state) j ≡ id)
  found_in owner id j e =
      let both = (those-element (λ i. same (id_at (table_in state) i) id) (components (table_in state) owner) j).0 (subst (λ (js : List ℕ). j ∈ js) e (here refl)) in
      let row = (components-element (table_in state) owner j).0 both.0 in
      (row.0, passes (parent-decides owner (row_at (table_in state) j).parent) row.1, both.1)

  pub in-components : (owner j : ℕ) → j < length (table_in state).rows → T (is_parent owner (row_at (table_in state) j).parent) → (P : ℕ → Type 0) → All P (components (table_in state) owner) → P j
  in-components owner j l t P all =
      element-keeps P all ((components-element (table_in state) owner j).1 (l, tells (parent-decides owner (row_at (table_in state) j).parent) t))

  pub in-parentless : (j : ℕ) → j < length (table_in state).rows → T (is_parentless (row_at (table_in state) j).parent) → (P : ℕ → Type 0) → All P (parentless (table_in state)) → P j
  in-parentless j l t P all =
      element-keeps P all ((parentless-element (table_in state) j).1 (l, tells (parentless-decides (row_at (table_in state) j).parent) t))

  -- ---- what is read or found in a part, as it is lent, is the table's
  pub id-in : (row : ℕ) → id_in (lent_models state) row ≡ id_at (table_in state) row
  id-in row =
      ap (λ (words : List ℕ). id_in words row) (models-part state) ∙ sym (id-read (models_in state) (connectors_in state) (couplings_in state) (table_in state) inside.passes row)

  pub kind-in : (row : ℕ) → row < length (table_in state).rows → kind_of (kind_in (row_of model_width (lent_models state) row)) ≡ Some (named (kind_at (table_in state) row))
  kind-in row l =
      ap (λ (words : List ℕ). kind_of (kind_in (row_of model_width words row))) (models-part state)
      ∙ kind-named (models_in state) (connectors_in state) (couplings_in state) (table_in state) inside.passes row l

  -- the row's words are there
  pub row_room : (row : ℕ) → row < length (table_in state).rows → row * 10 + 13 ≤ length state
  row_room row l =
      let n = counts.0 in
      let room = inside.room in
      omega arith

  -- a Coupled's row, by the number of its kind
  pub coupled-in : (row : ℕ) → row < length (table_in state).rows → eqb (get_or state (row * 10 + 3 + 1) 0) 4 ≡ is_coupled (kind_at (table_in state) row)
  coupled-in row l =
      let n = counts.0 in
      let below : row * 10 + 1 < count_in 0 state * 10 = omega arith in
      let place : 3 + (row * 10 + 1) ≡ row * 10 + 3 + 1 = omega arith in
      ap (λ (w : ℕ). eqb w 4)
      (ap (λ (p : ℕ). get_or state p 0) (sym place) ∙ sym (get_or-drop 3 state (row * 10 + 1) 0) ∙ sym (get_or-take (count_in 0 state * 10) (drop 3 state) (row * 10 + 1) 0 below)
      ∙ sym (row-cell model_width (models_in state) row 1 (omega arith)))
      ∙ sym (coupled-read (models_in state) (connectors_in state) (couplings_in state) (table_in state) inside.passes row l)

  -- among the rows, by a test of the words that is one of the table
  row-search : (test : List ℕ → ℕ → Bool) (again : ℕ → Bool) → ((k : ℕ) → test (models_in state) k ≡ again k) → (start : ℕ)
      → first_from (test (lent_models state)) start (rows_in (lent_models state) - start)
      ≡ first_from again start (length (table_in state).rows - start)
  row-search test again agree start =
      ap (λ (words : List ℕ). first_from (test words) start (rows_in words - start)) (models-part state)
      ∙ (λ i. first_from (λ k. agree k i) start (rows_whole i - start))

  pub component-search : (owner start : ℕ)
      → first_from (is_component (lent_models state) owner) start (rows_in (lent_models state) - start)
      ≡ first_from (λ j. is_parent owner (row_at (table_in state) j).parent) start (length (table_in state).rows - start)
  component-search owner =
      row-search (λ words. is_component words owner) (λ j. is_parent owner (row_at (table_in state) j).parent)
      (λ k. ap (is_parent owner) (sym (parent-read (models_in state) (connectors_in state) (couplings_in state) (table_in state) inside.passes k)))

  pub parentless-search : (start : ℕ)
      → first_from (is_free (lent_models state)) start (rows_in (lent_models state) - start)
      ≡ first_from (λ j. is_parentless (row_at (table_in state) j).parent) start (length (table_in state).rows - start)
  parentless-search =
      row-search is_free (λ j. is_parentless (row_at (table_in state) j).parent)
      (λ k. ap is_parentless (sym (parent-read (models_in state) (connectors_in state) (couplings_in state) (table_in state) inside.passes k)))

  pub connector-finds : (test : List ℕ → ℕ → Bool) (lead : List ℕ → ℕ → Target) (looked : ℕ) (r : Option Link) (after : ℕ)
      → Finds (test (lent_connectors state)) (lead (lent_connectors state)) (Selecting.connectors_in (lent_connectors state)) looked r after
      → Finds (test (connectors_in state)) (lead (connectors_in state)) (length (table_in state).connectors) looked r after
  connector-finds test lead looked r after h =
      subst (λ (n : ℕ). Finds (test (connectors_in state)) (lead (connectors_in state)) n looked r after) connectors-whole
      (subst (λ (words : List ℕ). Finds (test words) (lead words) (Selecting.connectors_in words) looked r after) (connectors-part state) h)

  pub coupling-search : (test : List ℕ → ℕ → Bool) (start : ℕ)
      → first_from (test (lent_couplings state)) start (Selecting.couplings_in (lent_couplings state) - start)
      ≡ first_from (test (couplings_in state)) start (length (table_in state).couplings - start)
  coupling-search test start =
      ap (λ (words : List ℕ). first_from (test words) start (Selecting.couplings_in words - start)) (couplings-part state)
      ∙ ap (λ (n : ℕ). first_from (test (couplings_in state)) start (n - start)) couplings-whole

  -- ---- ids differ: the component of this id, by two searches: for the id, and from the row found on for a component
  module _ (owner id : ℕ) where
    -- the rules' two tests of a row
    abbrev named-so : ℕ → Bool
    named-so j = eqb (id_at (table_in state) j) id

    abbrev owned-so : ℕ → Bool
    owned-so j = is_parent owner (row_at (table_in state) j).parent

    unique-id : (i j : ℕ) → i < length (table_in state).rows → j < length (table_in state).rows → named-so i ≡ true → named-so j ≡ true → i ≡ j
    unique-id i j l m p q = fine-in.unique i j l m (eqb-true (id_at (table_in state) i) id p ∙ sym (eqb-true (id_at (table_in state) j) id q))

    id-search : first_from (has_id (lent_models state) id) 0 (rows_in (lent_models state) - 0) ≡ first_from named-so 0 (length (table_in state).rows)
    id-search =
        row-search (λ words. has_id words id) named-so (λ k. sym (id-is (models_in state) (connectors_in state) (couplings_in state) (table_in state) inside.passes id k)) 0
        ∙ ap (first_from named-so 0) (sub-zero (length (table_in state).rows))

    pub no-such-row : first_from (has_id (lent_models state) id) 0 (rows_in (lent_models state) - 0) ≡ None → [] ≡ those (λ j. eqb (id_at (table_in state) j) id) (components (table_in state) owner)
    no-such-row h = both-nowhere named-so owned-so (length (table_in state).rows) (sym id-search ∙ h)

    module _ (row : ℕ) (h : first_from (has_id (lent_models state) id) 0 (rows_in (lent_models state) - 0) ≡ Some row) where
      pub its-component : first_from (is_component (lent_models state) owner) row (rows_in (lent_models state) - row) ≡ Some row → row ∷ [] ≡ those (λ j. eqb (id_at (table_in state) j) id) (components (table_in state) owner)
      its-component g = both-here named-so owned-so (length (table_in state).rows) unique-id row (sym id-search ∙ h) (sym (component-search owner row) ∙ g)

      pub not-its-component : (first_from (is_component (lent_models state) owner) row (rows_in (lent_models state) - row) ≡ Some row → ⊥) → [] ≡ those (λ j. eqb (id_at (table_in state) j) id) (components (table_in state) owner)
      not-its-component never = both-not named-so owned-so (length (table_in state).rows) unique-id row (sym id-search ∙ h) (λ g. never (component-search owner row ∙ g))
