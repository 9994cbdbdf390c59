-- A Coupled's parked messages by their places among its own words, and what one component takes of them. Definitions only. Assumes nothing.
use Rattle.std.specs.Prelude.{ℕ, ◌+◌, Bool, List, eqb, Float}
use Rattle.rules.specs.Base.{Outcome, each, those}
use Rattle.rules.specs.Table.{Table, id_at}
use Rattle.rules.specs.Simulation.{Parked}
use Rattle.rules.specs.Step.{World, external}
use Rattle.memory.specs.Words.{word_at}
use Rattle.memory.specs.View.{parked_of}

-- the message at place k, where the row's own words begin at `begin`
abbrev pub parked_at : ℕ → List ℕ → ℕ → Parked
parked_at begin mem k = parked_of (word_at mem (begin + k))

abbrev pub is_for : ℕ → ℕ → List ℕ → ℕ → Bool
is_for id begin mem k = eqb (parked_at begin mem k).component id

-- one message comes to the row j
abbrev pub handed : Table → List Float → ℕ → Float → ℕ → Parked → World → Outcome World
handed t services depth clock j m w = external t services depth clock j m.port m.content w

-- the row j takes, in order, those that are parked for it
abbrev pub takes : Table → List Float → ℕ → Float → List Parked → ℕ → World → Outcome World
takes t services depth clock parked j w =
    each (handed t services depth clock j) (those (λ (m : Parked). eqb m.component (id_at t j)) parked) w
