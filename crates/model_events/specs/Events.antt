-- What an event in place asks for, and the parts of a Coupled's events by couplings. Definitions only. Assumes nothing.
use Rattle.std.specs.Prelude.{ℕ, ◌<◌, List, length, T, eqb, Float}
use Rattle.times.specs.Time.{is_time}
use Rattle.rules.specs.Base.{Outcome, each, those}
use Rattle.rules.specs.Table.{Table, Target, id_at, components}
use Rattle.rules.specs.Step.{World, external}
use Rattle.lookup.specs.Inside.{Inside, table_in}
use Rattle.views.specs.World.{Ready}

-- the table inside the state has passed intake, the words are ready, the clock is a time
pub record Scene (state mem : List ℕ) (clock : Float) : Type 0 where
  pub inside : Inside state
  pub ready : Ready (table_in state) mem
  pub time : T (is_time clock)

-- and the row is one of the table's
pub record Event (state mem : List ℕ) (clock : Float) (row : ℕ) : Type 0 where
  pub scene : Scene state mem clock
  pub in_table : row < length (table_in state).rows

-- to the component of this owner that has the target's id
abbrev pub to_target : Table → List Float → ℕ → Float → ℕ → Target → ℕ → World → Outcome World
to_target t services depth clock owner to content w =
    each (λ j. external t services depth clock j to.port content) (those (λ j. eqb (id_at t j) to.target) (components t owner)) w
