-- Intake's verdict does not hang on the capacity of a row that omits it, so the migration leaves it as it was. Assumes nothing.
use Rattle.std.specs.Prelude.{ℕ, suc, ◌+◌, ◌≤◌, ◌≡◌, refl, Bool, true, false, not, ◌&&◌, List, [], ◌∷◌, map, length, leb, ltb, eqb, if◌then◌else◌, Option, None, Some, Result, Ok, Err, ⊤}
use Rattle.std.proofs.Common.{sym, ap, ◌∙◌, subst, inl, inr, arith, eq-eqb, ne_eqb}
use Rattle.rules.specs.declared.Processor.{Processor}
use Rattle.rules.specs.Sizes.{is_id, is_port, deepest, most_rows, most_connectors, most_couplings, omitted_capacity}
use Rattle.rules.specs.Base.{every, some_of, hold}
use Rattle.rules.specs.Decides.{same, either}
use Rattle.rules.specs.Table.{Kind, processor, Row, Coupling, external_input, external_output, internal_coupling, is_coupled, is_parent}
use Rattle.rules.specs.Intake as Intake
use Rattle.rules.specs.Intake.{Posted, kind_rules, is_new, is_coupled_id, parent_fits, depth_of, row_rules, is_component_of, connector_rules, coupling_rules, first_bad_row, first_bad, whole, size_rules}
use Rattle.rules.specs.Layout.{rows_of, cell, is_given, parent_in, capacity_in, model_row, lent, model_width}
use Rattle.table.specs.declared.BadTable.{BadTable}
use Rattle.table.specs.declared.BadTable.TheVariants.{TooLarge, Row as RowBad, Connector, Coupling as CouplingBad}
use Rattle.table.specs.Verdicts.{verdict_of}
use Rattle.capacities.specs.Migration.{without_end, old_capacity_in, old_model_row, old_lent, written_out}
use Rattle.capacities.proofs.Migrated.{reads-as-before}

-- ---- rows that intake cannot tell apart: id, parent and kind are the same, and whether the kind keeps its rules; a Processor's capacity may be larger in the second
pub data Wider : Kind → Kind → Type 0 where
  equal : (k : Kind) → Wider k k
  wider : (p q : Processor) → p.queue_capacity ≤ q.queue_capacity → Wider (processor p) (processor q)

pub record Same (r s : Row) : Type 0 where
  pub id : r.id ≡ s.id
  pub parent : r.parent ≡ s.parent
  pub kind : Wider r.kind s.kind
  pub keeps : hold (kind_rules r.kind) ≡ hold (kind_rules s.kind)

coupled-same : (k l : Kind) → Wider k l → is_coupled k ≡ is_coupled l
coupled-same k l (equal m) = refl
coupled-same k l (wider p q more) = refl

pub data Alike : List Row → List Row → Type 0 where
  empty : Alike [] []
  next : {r s : Row} {rs ss : List Row} → Same r s → Alike rs ss → Alike (r ∷ rs) (s ∷ ss)

pub data Lines : List (Option Row) → List (Option Row) → Type 0 where
  nothing : Lines [] []
  broken : {rs ss : List (Option Row)} → Lines rs ss → Lines (None ∷ rs) (None ∷ ss)
  read : {r s : Row} {rs ss : List (Option Row)} → Same r s → Lines rs ss → Lines (Some r ∷ rs) (Some s ∷ ss)

some_alike : (f : Row → Bool) → ((r s : Row) → Same r s → f r ≡ f s) → (rs ss : List Row) → Alike rs ss → some_of f rs ≡ some_of f ss
some_alike f e rs ss empty = refl
some_alike f e (r ∷ rs) (s ∷ ss) (next h t) = λ i. if e r s h i then true else some_alike f e rs ss t i

coupled-alike : (rs ss : List Row) → Alike rs ss → (id : ℕ) → is_coupled_id rs id ≡ is_coupled_id ss id
coupled-alike rs ss t id = some_alike (λ (r : Row). eqb r.id id && is_coupled r.kind) (λ r s h. (λ i. eqb (h.id i) id && coupled-same r.kind s.kind h.kind i)) rs ss t

component-alike : (rs ss : List Row) → Alike rs ss → (owner target : ℕ) → is_component_of rs owner target ≡ is_component_of ss owner target
component-alike rs ss t owner target = some_alike (λ (r : Row). eqb r.id target && is_parent owner r.parent) (λ r s h. (λ i. eqb (h.id i) target && is_parent owner (h.parent i))) rs ss t

new-alike : (rs ss : List Row) → Alike rs ss → (id : ℕ) → is_new rs id ≡ is_new ss id
new-alike rs ss t id = ap not (some_alike (λ (r : Row). eqb r.id id) (λ r s h. (λ i. eqb (h.id i) id)) rs ss t)

parent-alike : (rs ss : List Row) → Alike rs ss → (parent : Option ℕ) → parent_fits rs parent ≡ parent_fits ss parent
parent-alike rs ss t None = refl
parent-alike rs ss t (Some parent) = coupled-alike rs ss t parent

depth-alike : (rs ss : List Row) → Alike rs ss → (parent : Option ℕ) → depth_of rs parent ≡ depth_of ss parent
depth-alike rs ss empty parent = refl
depth-alike (r ∷ rs) (s ∷ ss) (next h t) None = refl
depth-alike (r ∷ rs) (s ∷ ss) (next h t) (Some parent) =
    let above : depth_of rs r.parent ≡ depth_of ss s.parent = depth-alike rs ss t r.parent ∙ ap (depth_of ss) h.parent in
    λ i. if eqb (h.id i) parent then above i + 1 else depth-alike rs ss t (Some parent) i

-- ---- a row is judged alike
row-alike : (rs ss : List Row) → Alike rs ss → (r s : Row) → Same r s → hold (row_rules rs r) ≡ hold (row_rules ss s)
row-alike rs ss t r s h =
    let depth : depth_of rs r.parent ≡ depth_of ss s.parent = depth-alike rs ss t r.parent ∙ ap (depth_of ss) h.parent in
    let fresh : is_new rs r.id ≡ is_new ss s.id = new-alike rs ss t r.id ∙ ap (is_new ss) h.id in
    let held : parent_fits rs r.parent ≡ parent_fits ss s.parent = parent-alike rs ss t r.parent ∙ ap (parent_fits ss) h.parent in
    λ i. hold (is_id (h.id i) ∷ fresh i ∷ held i ∷ (if coupled-same r.kind s.kind h.kind i then leb (depth i) deepest else true) ∷ h.keeps i ∷ [])

rows_alike : (k : ℕ) (es fs : List Row) → Alike es fs → (rs ss : List (Option Row)) → Lines rs ss → first_bad_row k es rs ≡ first_bad_row k fs ss
rows_alike k es fs t rs ss nothing = refl
rows_alike k es fs t (None ∷ rs) (None ∷ ss) (broken l) = refl
rows_alike k es fs t (Some r ∷ rs) (Some s ∷ ss) (read h l) =
    λ i. if row-alike es fs t r s h i then rows_alike (suc k) (r ∷ es) (s ∷ fs) (next h t) rs ss l i else Some k

-- ---- and so is a coupling
pub whole-alike : (rs ss : List (Option Row)) → Lines rs ss → Alike (whole rs) (whole ss)
whole-alike rs ss nothing = empty
whole-alike (None ∷ rs) (None ∷ ss) (broken l) = whole-alike rs ss l
whole-alike (Some r ∷ rs) (Some s ∷ ss) (read h l) = next h (whole-alike rs ss l)

coupling-alike : (rs ss : List Row) → Alike rs ss → (c : Coupling) → coupling_rules rs c ≡ coupling_rules ss c
coupling-alike rs ss t (external_input owner sp target tp) =
    λ i. is_id owner ∷ is_port sp ∷ is_id target ∷ is_port tp ∷ coupled-alike rs ss t owner i ∷ component-alike rs ss t owner target i ∷ []
coupling-alike rs ss t (external_output owner source sp tp) = λ i. is_id owner ∷ is_id source ∷ is_port sp ∷ is_port tp ∷ coupled-alike rs ss t owner i ∷ []
coupling-alike rs ss t (internal_coupling owner source sp target tp) =
    λ i. is_id owner ∷ is_id source ∷ is_port sp ∷ is_id target ∷ is_port tp ∷ coupled-alike rs ss t owner i ∷ []

as_many : (rs ss : List (Option Row)) → Lines rs ss → length rs ≡ length ss
as_many rs ss nothing = refl
as_many (None ∷ rs) (None ∷ ss) (broken l) = ap suc (as_many rs ss l)
as_many (Some r ∷ rs) (Some s ∷ ss) (read h l) = ap suc (as_many rs ss l)

-- ---- the verdict, by what was found
abbrev found : Bool → Option ℕ → Option ℕ → Option ℕ → Result ⊤ BadTable
found false x y z = Err TooLarge
found true (Some k) y z = Err (RowBad k)
found true None (Some k) z = Err (Connector k)
found true None None (Some k) = Err (CouplingBad k)
found true None None None = Ok tt

judged-by : (p : Posted) → verdict_of (Intake.intake p) ≡ found (hold (size_rules p)) (first_bad_row 0 [] p.rows) (first_bad connector_rules 0 p.connectors) (first_bad (coupling_rules (whole p.rows)) 0 p.couplings)
unfolding Intake.intake
judged-by p = by (hold (size_rules p)) (first_bad_row 0 [] p.rows) (first_bad connector_rules 0 p.connectors) (first_bad (coupling_rules (whole p.rows)) 0 p.couplings)
  where
    by : (b : Bool) (x y z : Option ℕ)
        → verdict_of (if b then elim x [
          | Some row ↦ Intake.bad_row row
          | None ↦ elim y [
            | Some row ↦ Intake.bad_connector row
            | None ↦ elim z [
              | Some row ↦ Intake.bad_coupling row
              | None ↦ Intake.passed (record { rows = whole p.rows; connectors = whole p.connectors; couplings = whole p.couplings })
            ]
          ]
        ] else Intake.too_large) ≡ found b x y z
    by false x y z = refl
    by true (Some k) y z = refl
    by true None (Some k) z = refl
    by true None None (Some k) = refl
    by true None None None = refl

pub verdict-alike : (p q : Posted) → Lines p.rows q.rows → p.connectors ≡ q.connectors → p.couplings ≡ q.couplings → verdict_of (Intake.intake p) ≡ verdict_of (Intake.intake q)
verdict-alike p q l e f =
    judged-by p
    ∙ (λ i. found
    (hold (leb (as_many p.rows q.rows l i) most_rows ∷ leb (length (e i)) most_connectors ∷ leb (length (f i)) most_couplings ∷ []))
    (rows_alike 0 [] [] empty p.rows q.rows l i)
    (first_bad connector_rules 0 (e i))
    (first_bad (λ c. coupling-alike (whole p.rows) (whole q.rows) (whole-alike p.rows q.rows l) c i) 0 (f i)))
    ∙ sym (judged-by q)

-- ---- the two readings of a row
same_row : (r : Row) → Same r r
same_row r = record { id = refl; parent = refl; kind = equal r.kind; keeps = refl }

abbrev a_processor : List ℕ → ℕ → Row
a_processor row capacity = record { id = cell row 0; parent = parent_in row; kind = processor (record { input = cell row 4; output = cell row 7; queue_capacity = capacity }) }

capacities-same : (row : List ℕ) (given : Bool) → Same (a_processor row (if given then cell row 8 else omitted_capacity)) (a_processor row (if given then cell row 8 else without_end))
capacities-same row true = same_row (a_processor row (cell row 8))
capacities-same row false =
    let more : omitted_capacity ≤ without_end = omega arith in
    record { id = refl; parent = refl; kind = wider _ _ more; keeps = refl }

self : (o : Option Row) (rs ss : List (Option Row)) → Lines rs ss → Lines (o ∷ rs) (o ∷ ss)
self None rs ss l = broken l
self (Some r) rs ss l = read (same_row r) l

one_line : (row : List ℕ) (rs ss : List (Option Row)) → Lines rs ss → Lines (model_row row ∷ rs) (old_model_row row ∷ ss)
one_line row rs ss l = elim (either (same (cell row 1) 1)) [
  | inl is ↦ rw (eq-eqb (cell row 1) 1 is) (fits (hold (eqb (length row) model_width ∷ ltb (cell row 2) 8 ∷ every is_port (cell row 5 ∷ cell row 6 ∷ []) ∷ [])))
  | inr not ↦
      let e : model_row row ≡ old_model_row row = rw (ne_eqb (cell row 1) 1 not) in
      subst (λ (o : Option Row). Lines (model_row row ∷ rs) (o ∷ ss)) e (self (model_row row) rs ss l)
]
  where
    fits : (b : Bool) → Lines ((if b then Some (a_processor row (capacity_in row)) else None) ∷ rs) ((if b then Some (a_processor row (old_capacity_in row)) else None) ∷ ss)
    fits true = read (capacities-same row (is_given 2 row)) l
    fits false = broken l

pub all_lines : (rows : List (List ℕ)) → Lines (map model_row rows) (map old_model_row rows)
all_lines [] = nothing
all_lines (row ∷ rows) = one_line row (map model_row rows) (map old_model_row rows) (all_lines rows)

-- ---- "intake's verdict is the same": by the old reading, and by the new one
pub verdict-before : (models connectors couplings : List ℕ) → Intake.intake (lent (written_out models) connectors couplings) ≡ Intake.intake (old_lent models connectors couplings)
verdict-before models connectors couplings = ap Intake.intake (reads-as-before models connectors couplings)

readings-alike : (models connectors couplings : List ℕ) → verdict_of (Intake.intake (lent models connectors couplings)) ≡ verdict_of (Intake.intake (old_lent models connectors couplings))
unfolding lent old_lent
readings-alike models connectors couplings = verdict-alike (lent models connectors couplings) (old_lent models connectors couplings) (all_lines (rows_of model_width models)) refl refl

pub verdict-stays : (models connectors couplings : List ℕ) → verdict_of (Intake.intake (lent (written_out models) connectors couplings)) ≡ verdict_of (Intake.intake (lent models connectors couplings))
verdict-stays models connectors couplings = ap verdict_of (verdict-before models connectors couplings) ∙ sym (readings-alike models connectors couplings)
