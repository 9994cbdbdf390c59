-- Table intake: refusals 1 to 3, with the row. Definitions only. Assumes nothing.
use Rattle.std.specs.Prelude.{ℕ, suc, ◌+◌, Bool, true, false, not, ◌&&◌, List, [], ◌∷◌, map, length, leb, eqb, if◌then◌else◌, Option, None, Some}
use Rattle.times.specs.Time.{is_time}
use Rattle.rules.specs.declared.Refusal.TheVariants.{TooLarge, BadRow, BadCoupling}
use Rattle.rules.specs.Sizes.{is_id, is_port, is_word, most_rows, most_connectors, most_couplings, deepest, largest_batch}
use Rattle.rules.specs.Base.{Outcome, refused, done, chosen, some_of, hold}
use Rattle.rules.specs.Table.{Kind, processor, batcher, stopwatch, coupled, Row, Connector, Coupling, external_input, external_output, internal_coupling, Table, is_coupled, is_parent}

-- a table as it is handed in: a row that breaks by itself is `none` ("cut short", "a field beyond its width", "its kind is none of the four, its metric neither of the two": docs/LAYOUT.md and Layout.antt)
pub record Posted : Type 0 where
  pub rows : List (Option Row)
  pub connectors : List (Option Connector)
  pub couplings : List (Option Coupling)

-- ---- 1: "a table has too many rows, one cut short counted"
abbrev pub size_rules : Posted → List Bool
size_rules p = leb (length p.rows) most_rows ∷ leb (length p.connectors) most_connectors ∷ leb (length p.couplings) most_couplings ∷ []

-- ---- 2: "a model row breaks a rule above, .. or its batch time is no time"
-- "`max_batch_size` is 1 to 2^62. `queue_capacity` is any u64 .. A stopwatch's three input ports differ."
abbrev pub kind_rules : Kind → List Bool
kind_rules (processor p) = is_port p.input ∷ is_port p.output ∷ is_word p.queue_capacity ∷ []
kind_rules (batcher b) =
    is_port b.input ∷ is_port b.output ∷ leb 1 b.max_batch_size ∷ leb b.max_batch_size largest_batch ∷ is_time b.max_batch_time ∷ []
kind_rules (stopwatch w) =
    is_port w.start ∷ is_port w.stop ∷ is_port w.ask ∷ is_port w.output
    ∷ not (eqb w.start w.stop) ∷ not (eqb w.start w.ask) ∷ not (eqb w.stop w.ask) ∷ []
kind_rules coupled = []

-- "Ids are unique over the whole table." (`earlier` holds the rows before this one, the nearest first)
abbrev pub is_new : List Row → ℕ → Bool
is_new earlier id = not (some_of (λ (r : Row). eqb r.id id) earlier)

-- one of the rows has the id, and is a Coupled
abbrev pub is_coupled_id : List Row → ℕ → Bool
is_coupled_id rows id = some_of (λ (r : Row). eqb r.id id && is_coupled r.kind) rows

-- "A component's row names its parent, which is an earlier row and a Coupled."
abbrev pub parent_fits : List Row → Option ℕ → Bool
parent_fits earlier None = true
parent_fits earlier (Some parent) = is_coupled_id earlier parent

-- "(a row without parent has depth 1)", and a component is one deeper than its parent
abbrev pub depth_of : List Row → Option ℕ → ℕ
depth_of [] parent = 1
depth_of (r ∷ earlier) None = 1
depth_of (r ∷ earlier) (Some parent) = if eqb r.id parent then depth_of earlier r.parent + 1 else depth_of earlier (Some parent)

-- "A Coupled may hold another Coupled, to depth 4"
abbrev pub depth_fits : List Row → Row → Bool
depth_fits earlier r = if is_coupled r.kind then leb (depth_of earlier r.parent) deepest else true

abbrev pub row_rules : List Row → Row → List Bool
row_rules earlier r = is_id r.id ∷ is_new earlier r.id ∷ parent_fits earlier r.parent ∷ depth_fits earlier r ∷ hold (kind_rules r.kind) ∷ []

-- ---- 3: "a coupling's owner is no Coupled, an external input coupling's target is not its component, or a connector or coupling .. has a field beyond its width". "Connectors and other couplings may name ids that don't exist".
abbrev pub connector_rules : Connector → List Bool
connector_rules c = is_id c.source ∷ is_port c.source_port ∷ is_id c.target ∷ is_port c.target_port ∷ []

abbrev pub is_component_of : List Row → ℕ → ℕ → Bool
is_component_of rows owner target = some_of (λ (r : Row). eqb r.id target && is_parent owner r.parent) rows

abbrev pub coupling_rules : List Row → Coupling → List Bool
coupling_rules rows (external_input owner sp target tp) =
    is_id owner ∷ is_port sp ∷ is_id target ∷ is_port tp ∷ is_coupled_id rows owner ∷ is_component_of rows owner target ∷ []
coupling_rules rows (external_output owner source sp tp) = is_id owner ∷ is_id source ∷ is_port sp ∷ is_port tp ∷ is_coupled_id rows owner ∷ []
coupling_rules rows (internal_coupling owner source sp target tp) =
    is_id owner ∷ is_id source ∷ is_port sp ∷ is_id target ∷ is_port tp ∷ is_coupled_id rows owner ∷ []

-- ---- "Table intake checks 1, then 2 in row order, then 3": connectors, then couplings, each in row order
pub data Verdict : Type 0 where
  too_large : Verdict
  bad_row bad_connector bad_coupling : (row : ℕ) → Verdict
  passed : Table → Verdict

-- the first row, counted from k, that breaks a rule
abbrev pub first_bad_row : ℕ → List Row → List (Option Row) → Option ℕ
first_bad_row k earlier [] = None
first_bad_row k earlier (None ∷ rs) = Some k
first_bad_row k earlier (Some r ∷ rs) = let rest = first_bad_row (suc k) (r ∷ earlier) rs in if hold (row_rules earlier r) then rest else Some k

abbrev pub first_bad : {A : Type 0} → (A → List Bool) → ℕ → List (Option A) → Option ℕ
first_bad rules k [] = None
first_bad rules k (None ∷ xs) = Some k
first_bad rules k (Some x ∷ xs) = let rest = first_bad rules (suc k) xs in if hold (rules x) then rest else Some k

abbrev pub whole : {A : Type 0} → List (Option A) → List A
whole xs = chosen (λ x. x) xs

unfoldable pub intake : Posted → Verdict
intake p =
    if hold (size_rules p)
    then elim (first_bad_row 0 [] p.rows) [
      | Some row ↦ bad_row row
      | None ↦ elim (first_bad connector_rules 0 p.connectors) [
        | Some row ↦ bad_connector row
        | None ↦ elim (first_bad (coupling_rules (whole p.rows)) 0 p.couplings) [
          | Some row ↦ bad_coupling row
          | None ↦ passed (record { rows = whole p.rows; connectors = whole p.connectors; couplings = whole p.couplings })
        ]
      ]
    ]
    else too_large

-- 01's number for each verdict
abbrev pub taken_in : Verdict → Outcome Table
taken_in too_large = refused TooLarge
taken_in (bad_row row) = refused BadRow
taken_in (bad_connector row) = refused BadCoupling
taken_in (bad_coupling row) = refused BadCoupling
taken_in (passed t) = done t

-- a table with all rows whole, handed in
abbrev pub handed : Table → Posted
handed t = record { rows = map Some t.rows; connectors = map Some t.connectors; couplings = map Some t.couplings }

abbrev pub is_passed : Verdict → Bool
is_passed too_large = false
is_passed (bad_row row) = false
is_passed (bad_connector row) = false
is_passed (bad_coupling row) = false
is_passed (passed t) = true

-- "the table .. passes intake"
unfoldable pub passes_intake : Table → Bool
unfolding intake
passes_intake t = is_passed (intake (handed t))
