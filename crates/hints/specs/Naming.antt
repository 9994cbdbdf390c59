-- Which ends of connectors, couplings and injections "[name] no model or a port that the model does not have". Definitions only. Assumes nothing.
use Rattle.std.specs.Prelude.{ℕ, ◌/◌, Bool, true, false, List, [], ◌∷◌, map, length, eqb, if◌then◌else◌, Ok, Err, Result, ⊤, None, Some, Option}
use Rattle.rules.specs.Base.{those, chosen, from}
use Rattle.rules.specs.Table.{Coupling, external_input, external_output, internal_coupling, Table, id_at, kind_at, is_parent, is_parentless, parentless, components}
use Rattle.rules.specs.Valid.{member}
use Rattle.rules.specs.Layout.{model_width, coupling_width, parent_in, kind_in}
use Rattle.table.specs.declared.Kind.{Kind}
use Rattle.table.specs.declared.Kind.TheVariants.{Processor, Batcher, Stopwatch, Coupled}
use Rattle.table.specs.Readers.{row_of, id_in, named, kind_of}
use Rattle.table.specs.Passed.{coupling_at}
use Rattle.hints.specs.declared.Side.{Side}
use Rattle.hints.specs.declared.Side.TheVariants.{In, Out}
use Rattle.hints.specs.declared.BadEnd.{BadEnd}
use Rattle.hints.specs.declared.BadEnd.TheVariants.{NoModel, NoPort}

-- ---- the ports of a model
-- 01: "A message goes at once along every matching external input coupling to the component"; "Each message out is .. put out along external output couplings."
-- So a Coupled takes messages at the source ports of the former, and puts them out at the target ports of the latter.
abbrev pub port_from : Side → ℕ → Coupling → Option ℕ
port_from In owner (external_input o sp target tp) = if eqb o owner then Some sp else None
port_from In owner (external_output o source sp tp) = None
port_from In owner (internal_coupling o source sp target tp) = None
port_from Out owner (external_input o sp target tp) = None
port_from Out owner (external_output o source sp tp) = if eqb o owner then Some tp else None
port_from Out owner (internal_coupling o source sp target tp) = None

-- the ports on a side of the model with this id. A Batcher has the port that its row names, though 01 says of its jobs: "The port isn't looked at."
abbrev pub ports_of : Side → List Coupling → ℕ → Kind → List ℕ
ports_of In couplings id (Processor p) = p.input ∷ []
ports_of Out couplings id (Processor p) = p.output ∷ []
ports_of In couplings id (Batcher b) = b.input ∷ []
ports_of Out couplings id (Batcher b) = b.output ∷ []
ports_of In couplings id (Stopwatch w) = w.start ∷ w.stop ∷ w.ask ∷ []
ports_of Out couplings id (Stopwatch w) = w.output ∷ []
ports_of In couplings id Coupled = chosen (port_from In id) couplings
ports_of Out couplings id Coupled = chosen (port_from Out id) couplings

-- those of a row's kind: a broken row has no ports
abbrev pub ports_if : Side → List Coupling → ℕ → Option Kind → List ℕ
ports_if side couplings id (Some kind) = ports_of side couplings id kind
ports_if side couplings id None = []

-- ---- an end
-- by whether the model that it names has the port
abbrev pub of_port : Bool → Result ⊤ BadEnd
of_port true = Ok tt
of_port false = Err NoPort

-- of the models that have its id the first counts (in a table that passes intake there is one at most)
abbrev pub known_by : (ℕ → List ℕ) → ℕ → List ℕ → Result ⊤ BadEnd
known_by ports port [] = Err NoModel
known_by ports port (i ∷ more) = of_port (member port (ports i))

-- ---- in the rules' table
abbrev pub ports_at : Table → Side → ℕ → List ℕ
ports_at t side i = ports_of side t.couplings (id_at t i) (named (kind_at t i))

abbrev pub end_among : Table → List ℕ → ℕ → ℕ → Side → Result ⊤ BadEnd
end_among t rows id port side = known_by (ports_at t side) port (those (λ i. eqb (id_at t i) id) rows)

-- an end of a connector, or the target of an injection: in a step "each parentless model" takes messages and puts them out, and no other
abbrev pub root_end : Table → ℕ → ℕ → Side → Result ⊤ BadEnd
root_end t id port side = end_among t (parentless t) id port side

-- an end of a coupling of `owner` at a component
abbrev pub component_end : Table → ℕ → ℕ → ℕ → Side → Result ⊤ BadEnd
component_end t owner id port side = end_among t (components t owner) id port side

-- ---- in a table as it is lent, by its words (docs/LAYOUT.md). A row that is cut short is none
abbrev pub rows_where : (Option ℕ → Bool) → List ℕ → List ℕ
rows_where test models = those (λ k. test (parent_in (row_of model_width models k))) (from 0 (length models / model_width))

abbrev pub couplings_in : List ℕ → List Coupling
couplings_in couplings = map (coupling_at couplings) (from 0 (length couplings / coupling_width))

abbrev pub ports_in : List ℕ → List ℕ → Side → ℕ → List ℕ
ports_in models couplings side k = ports_if side (couplings_in couplings) (id_in models k) (kind_of (kind_in (row_of model_width models k)))

unfoldable pub end_in : (Option ℕ → Bool) → List ℕ → List ℕ → ℕ → ℕ → Side → Result ⊤ BadEnd
end_in test models couplings id port side = known_by (ports_in models couplings side) port (those (λ k. eqb (id_in models k) id) (rows_where test models))

abbrev pub root_end_in : List ℕ → List ℕ → ℕ → ℕ → Side → Result ⊤ BadEnd
root_end_in models couplings id port side = end_in is_parentless models couplings id port side

abbrev pub component_end_in : List ℕ → List ℕ → ℕ → ℕ → ℕ → Side → Result ⊤ BadEnd
component_end_in models couplings owner id port side = end_in (is_parent owner) models couplings id port side
