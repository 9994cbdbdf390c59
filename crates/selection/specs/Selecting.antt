-- Which rows of a lent table match, by the layout and the rules' own tests, and what a search for them answers and looks at. Definitions only. Assumes nothing.
use Rattle.std.specs.Prelude.{ℕ, zero, suc, ◌+◌, ◌-◌, ◌/◌, ◌≡◌, Bool, true, false, ◌&&◌, List, [], ◌∷◌, length, eqb, if◌then◌else◌, None, Some, Option}
use Rattle.rules.specs.Table.{Connector, Coupling, input_of, output_of, internal_of, is_parent, is_parentless}
use Rattle.rules.specs.Layout.{cell, model_width, connector_width, coupling_width, parent_in, coupling_in}
use Rattle.table.specs.Readers.{row_of, id_in}
use Rattle.table.specs.Passed.{connector_at}
use Rattle.words.specs.Search.{first_from}
use Rattle.selection.specs.declared.Target.{Target}
use Rattle.selection.specs.declared.Link.{Link}

-- the whole rows
abbrev pub rows_in : List ℕ → ℕ
rows_in models = length models / model_width

abbrev pub connectors_in : List ℕ → ℕ
connectors_in connectors = length connectors / connector_width

abbrev pub couplings_in : List ℕ → ℕ
couplings_in couplings = length couplings / coupling_width

-- ---- connectors
-- "every connector .. that matches source id and port"
abbrev pub comes_from : ℕ → ℕ → Connector → Bool
comes_from source port c = eqb c.source source && eqb c.source_port port

abbrev pub connects : List ℕ → ℕ → ℕ → ℕ → Bool
connects connectors source port k = comes_from source port (connector_at connectors k)

-- where it leads
abbrev pub lead_of : Connector → Target
lead_of c = record { id = c.target; port = c.target_port }

abbrev pub lead_at : List ℕ → ℕ → Target
lead_at connectors k = lead_of (connector_at connectors k)

-- ---- what a search for a connector answers, and which places it looks at
abbrev pub seen_of : Bool → Target → Option Target
seen_of true to = Some to
seen_of false to = None

-- the place that was found, with where it leads
abbrev pub link_of : (ℕ → Target) → Option ℕ → Option Link
link_of lead (Some k) = Some (record { place = k; target = lead k })
link_of lead None = None

-- of the n places from k on, those that are looked at: up to the first that passes the test, and it
abbrev pub looks : (ℕ → Bool) → ℕ → ℕ → List ℕ
looks test k zero = []
looks test k (suc n) = let rest = looks test (suc k) n in k ∷ (if test k then [] else rest)

-- `looked` of the `count` places have been looked at: the first of the others that passes the test is found, with one look at each place up to it, and `after` have been looked at then
pub record Finds (test : ℕ → Bool) (lead : ℕ → Target) (count looked : ℕ) (r : Option Link) (after : ℕ) : Type 0 where
  pub is : r ≡ link_of lead (first_from test looked (count - looked))
  pub once : after ≡ looked + length (looks test looked (count - looked))

-- ---- couplings
-- the id and the port at two cells of a row
abbrev pub target_in : ℕ → ℕ → List ℕ → ℕ → Target
target_in width at words k = record { id = cell (row_of width words k) at; port = cell (row_of width words k) (at + 1) }

abbrev pub is_some : {A : Type 0} → Option A → Bool
is_some None = false
is_some (Some x) = true

-- what a rule chooses of the coupling in a row, if it is one
abbrev pub chosen_of : {A : Type 0} → (Coupling → Option A) → Option (Coupling × ℕ) → Option A
chosen_of choose None = None
chosen_of choose (Some (coupling, unused)) = choose coupling

abbrev pub coupling_read : List ℕ → ℕ → Option (Coupling × ℕ)
coupling_read couplings k = coupling_in (row_of coupling_width couplings k)

abbrev pub is_input : List ℕ → ℕ → ℕ → ℕ → Bool
is_input couplings owner port k = is_some (chosen_of (input_of owner port) (coupling_read couplings k))

abbrev pub is_output : List ℕ → ℕ → ℕ → ℕ → ℕ → Bool
is_output couplings owner source port k = is_some (chosen_of (output_of owner source port) (coupling_read couplings k))

abbrev pub is_internal : List ℕ → ℕ → ℕ → ℕ → ℕ → Bool
is_internal couplings owner source port k = is_some (chosen_of (internal_of owner source port) (coupling_read couplings k))

-- ---- models
abbrev pub is_component : List ℕ → ℕ → ℕ → Bool
is_component models owner k = is_parent owner (parent_in (row_of model_width models k))

abbrev pub is_free : List ℕ → ℕ → Bool
is_free models k = is_parentless (parent_in (row_of model_width models k))

abbrev pub has_id : List ℕ → ℕ → ℕ → Bool
has_id models id k = eqb (id_in models k) id
