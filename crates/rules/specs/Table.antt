-- The table: model rows, connectors, couplings, and looking things up in it. Definitions only. Assumes nothing.
use Rattle.std.specs.Prelude.{ℕ, Bool, true, false, ◌&&◌, List, length, get_or, eqb, if◌then◌else◌, Option, None, Some}
use Rattle.rules.specs.declared.Processor.{Processor}
use Rattle.rules.specs.declared.Batcher.{Batcher}
use Rattle.rules.specs.declared.Stopwatch.{Stopwatch}
use Rattle.rules.specs.Base.{those, chosen, from}

-- "Processor, Batcher, Stopwatch, Coupled", with what the row says of it
pub data Kind : Type 0 where
  processor : Processor → Kind
  batcher : Batcher → Kind
  stopwatch : Stopwatch → Kind
  coupled : Kind

-- a model row: "A component's row names its parent"
pub record Row : Type 0 where
  pub id : ℕ
  pub parent : Option ℕ
  pub kind : Kind

pub record Connector : Type 0 where
  pub source : ℕ
  pub source_port : ℕ
  pub target : ℕ
  pub target_port : ℕ

-- a Coupled's three kinds of coupling. `owner` is the Coupled's id; a source or target id is a component's
pub data Coupling : Type 0 where
  external_input : (owner source_port target target_port : ℕ) → Coupling
  external_output : (owner source source_port target_port : ℕ) → Coupling
  internal_coupling : (owner source source_port target target_port : ℕ) → Coupling

pub record Table : Type 0 where
  pub rows : List Row
  pub connectors : List Connector
  pub couplings : List Coupling

-- ---- looking things up. Past the last row stands a Coupled without parent, in no list below.
abbrev pub no_row : Row
no_row = record { id = 0; parent = None; kind = coupled }

abbrev pub row_at : Table → ℕ → Row
row_at t i = get_or t.rows i no_row

abbrev pub id_at : Table → ℕ → ℕ
id_at t i = (row_at t i).id

abbrev pub kind_at : Table → ℕ → Kind
kind_at t i = (row_at t i).kind

abbrev pub is_coupled : Kind → Bool
is_coupled (processor p) = false
is_coupled (batcher b) = false
is_coupled (stopwatch w) = false
is_coupled coupled = true

abbrev pub is_parent : ℕ → Option ℕ → Bool
is_parent p None = false
is_parent p (Some q) = eqb q p

abbrev pub is_parentless : Option ℕ → Bool
is_parentless None = true
is_parentless (Some q) = false

-- the parentless models, in row order, by their place among the rows
abbrev pub parentless : Table → List ℕ
parentless t = those (λ i. is_parentless (row_at t i).parent) (from 0 (length t.rows))

-- the components of the Coupled with the id `owner`, in row order
abbrev pub components : Table → ℕ → List ℕ
components t owner = those (λ i. is_parent owner (row_at t i).parent) (from 0 (length t.rows))

-- "every connector, in order, that matches source id and port"
abbrev pub connected : Table → ℕ → ℕ → List Connector
connected t source port = those (λ c. eqb c.source source && eqb c.source_port port) t.connectors

-- a component's id with a port of it
pub record Target : Type 0 where
  pub target : ℕ
  pub port : ℕ

-- "every matching external input coupling": of this owner, at this port
abbrev pub input_of : ℕ → ℕ → Coupling → Option Target
input_of owner port (external_input o sp target tp) = if eqb o owner && eqb sp port then Some (record { target = target; port = tp }) else None
input_of owner port (external_output o s sp tp) = None
input_of owner port (internal_coupling o s sp target tp) = None

-- an external output coupling of this owner, from this component's port
abbrev pub output_of : ℕ → ℕ → ℕ → Coupling → Option ℕ
output_of owner source port (external_input o sp target tp) = None
output_of owner source port (external_output o s sp tp) = if eqb o owner && eqb s source && eqb sp port then Some tp else None
output_of owner source port (internal_coupling o s sp target tp) = None

-- an internal coupling of this owner, from this component's port
abbrev pub internal_of : ℕ → ℕ → ℕ → Coupling → Option Target
internal_of owner source port (external_input o sp target tp) = None
internal_of owner source port (external_output o s sp tp) = None
internal_of owner source port (internal_coupling o s sp target tp) =
    if eqb o owner && eqb s source && eqb sp port then Some (record { target = target; port = tp }) else None

abbrev pub inputs : Table → ℕ → ℕ → List Target
inputs t owner port = chosen (input_of owner port) t.couplings

abbrev pub outputs : Table → ℕ → ℕ → ℕ → List ℕ
outputs t owner source port = chosen (output_of owner source port) t.couplings

abbrev pub internals : Table → ℕ → ℕ → ℕ → List Target
internals t owner source port = chosen (internal_of owner source port) t.couplings
