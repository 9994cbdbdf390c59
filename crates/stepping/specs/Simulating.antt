-- The simulation that stands in the words, and what a step in place answers. Definitions only. Assumes nothing.
use Rattle.std.specs.Prelude.{ℕ, ◌+◌, ◌≤◌, ◌≡◌, List, [], length, T, Float, Err, Ok, Result, ⊤}
use Rattle.std.specs.Float.{binary64}
use Rattle.std.specs.Float.Ieee.{of_bits}
use Rattle.times.specs.Time.{is_time}
use Rattle.rules.specs.declared.Refusal.{Refusal}
use Rattle.rules.specs.declared.Message.{Message}
use Rattle.rules.specs.Base.{Outcome, refused, done, ◌>>=◌, each}
use Rattle.rules.specs.Sizes.{most_active}
use Rattle.rules.specs.Table.{Table, parentless}
use Rattle.rules.specs.Simulation.{Simulation}
use Rattle.rules.specs.Step.{Happening, World, root_turn, step_on}
use Rattle.rules.specs.Ends.{All}
use Rattle.rules.proofs.Worlds.{MessageFits}
use Rattle.memory.specs.Words.{word_at, place_in}
use Rattle.views.specs.World.{end_of, states_in, world_in, Ready}
use Rattle.views.specs.Messages.{messages_in}
use Rattle.stepping.specs.declared.Stopped.{Stopped}
use Rattle.stepping.specs.declared.Stopped.TheVariants as stopped

abbrev pub clock_in : List ℕ → Float
clock_in mem = of_bits binary64 (word_at mem 1)

-- the active messages stand after the rows' own words
abbrev pub active_in : Table → List ℕ → List Message
active_in t mem = messages_in (end_of t) (word_at mem 0) mem

abbrev pub sim_in : Table → List ℕ → Simulation
sim_in t mem = record { table = t; states = states_in t mem; active = active_in t mem; clock = clock_in mem; place = place_in mem }

-- 4 and 5 of a step: the turns, and what is left
abbrev pub turns_of : Table → List Float → Float → World × List Message → Outcome (World × List Message)
turns_of t services clock x = each (root_turn t services clock) (parentless t) x

abbrev pub closing : Table → Float → World × List Message → Outcome (Simulation × List Happening)
closing t clock r = done (record { table = t; states = r.0.states; active = r.1; clock = clock; place = r.0.place }, r.0.log)

-- what 20 asks of it, and room for 256 active messages and for what five levels put out
pub record Sound (t : Table) (mem : List ℕ) : Type 0 where
  pub ready : Ready t mem
  pub few : word_at mem 0 ≤ most_active
  pub active : All MessageFits (active_in t mem)
  pub clock : T (is_time (clock_in mem))
  pub room : end_of t + 2816 ≤ length mem

-- a step that is done: the words hold the simulation after it
pub record Went (services : List Float) (t : Table) (mem after : List ℕ) : Type 0 where
  pub sound : Sound t after
  pub log : List Happening
  pub is : step_on t services (sim_in t mem) ≡ done (sim_in t after, log)

-- a refused step, before anything was touched or halfway
pub record Kept-all (refusal : Refusal) (services : List Float) (t : Table) (mem after : List ℕ) : Type 0 where
  pub is : step_on t services (sim_in t mem) ≡ refused refusal
  pub same : after ≡ mem

abbrev pub Steps : Result ⊤ Stopped → List Float → Table → List ℕ → List ℕ → Type 0
Steps (Ok tt) services t mem after = Went services t mem after
Steps (Err (stopped.Untouched r)) services t mem after = Kept-all r services t mem after
Steps (Err (stopped.Halfway r)) services t mem after = step_on t services (sim_in t mem) ≡ refused r

-- the turns in place, and what they leave: the simulation after the step stands in the words
pub record Closes (t : Table) (services : List Float) (clock : Float) (mem after : List ℕ) : Type 0 where
  pub ready : Ready t after
  pub more : List Happening → List Happening
  pub is : (log : List Happening) → (turns_of t services clock (world_in t mem log, []) >>= closing t clock) ≡ done (sim_in t after, more log)

abbrev pub Closed : Result ⊤ Refusal → Table → List Float → Float → List ℕ → List ℕ → Type 0
Closed (Ok tt) t services clock mem after = Closes t services clock mem after
Closed (Err r) t services clock mem after = (log : List Happening) → turns_of t services clock (world_in t mem log, []) ≡ refused r
