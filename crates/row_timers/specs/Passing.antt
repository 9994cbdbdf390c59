-- The timers of all rows after an advance, and the rows whose timer's word is 0's. Definitions only. Assumes nothing.
use Rattle.std.specs.Prelude.{ℕ, ◌≡◌, Bool, List, map, Float}
use Rattle.std.specs.Float.{binary64}
use Rattle.std.specs.Float.Ieee.{of_bits, eq}
use Rattle.times.specs.Time.{instant}
use Rattle.rules.specs.Table.{Table}
use Rattle.rules.specs.Step.{after}
use Rattle.memory.specs.Words.{place_in, timer_in}
use Rattle.views.specs.World.{states_in, Ready}

-- "Every model keeps the timer less the step's advance, rounded once."
pub record Passed (t : Table) (advance : Float) (mem next : List ℕ) : Type 0 where
  pub ready : Ready t next
  pub states : states_in t next ≡ map (after advance) (states_in t mem)
  pub place : place_in next ≡ place_in mem

-- the word of the row's timer is that of 0
abbrev pub at_zero : List ℕ → ℕ → Bool
at_zero mem i = eq (of_bits binary64 (timer_in mem i)) instant
