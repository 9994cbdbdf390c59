-- A run in place: the simulation that a lent state holds, so many steps from it, and one step more. Definitions only. Assumes nothing.
use Rattle.std.specs.Prelude.{ℕ, zero, suc, ◌+◌, ◌*◌, ◌≤◌, ◌≡◌, List, [], length, drop, T, Float, Err, None, Ok, Option, Result, Some}
use Rattle.times.specs.Time.{is_time}
use Rattle.rules.specs.declared.Refusal.{Refusal}
use Rattle.rules.specs.Base.{Outcome, done, ◌>>=◌}
use Rattle.rules.specs.Sizes.{most_active}
use Rattle.rules.specs.Table.{Table}
use Rattle.rules.specs.Simulation.{Simulation}
use Rattle.rules.specs.Step.{Happening, step_on}
use Rattle.rules.specs.Ends.{All}
use Rattle.rules.proofs.Worlds.{MessageFits}
use Rattle.rules.specs.Calls as Calls
use Rattle.rules.specs.Calls.{Ran, ended, then_ran, look}
use Rattle.memory.specs.Words.{word_at}
use Rattle.lookup.specs.Inside.{Inside, tail_at, table_in}
use Rattle.views.specs.World.{end_of, Ready}
use Rattle.stepping.specs.Simulating.{clock_in, active_in, sim_in, Sound}

-- ---- the changing part of a lent state, and what 20 asks of it
abbrev pub tail_in : List ℕ → List ℕ
tail_in state = drop (tail_at state) state

pub record Stored (state : List ℕ) : Type 0 where
  pub inside : Inside state
  pub ready : Ready (table_in state) (tail_in state)
  pub few : word_at (tail_in state) 0 ≤ most_active
  pub active : All MessageFits (active_in (table_in state) (tail_in state))
  pub clock : T (is_time (clock_in (tail_in state)))
  pub room : end_of (table_in state) + word_at (tail_in state) 0 * 6 ≤ length (tail_in state)

abbrev pub sim_of : List ℕ → Simulation
sim_of state = sim_in (table_in state) (tail_in state)

-- ---- the simulation after k steps, each completed
abbrev pub reached : Table → List Float → ℕ → Simulation → Outcome Simulation
reached t services zero sim = done sim
reached t services (suc k) sim = reached t services k sim >>= λ s. step_on t services s >>= λ r. done r.0

-- all of them are completed
abbrev pub Completed : Table → List Float → ℕ → Simulation → Type 0
Completed t services k sim = (s : Simulation) × (reached t services k sim ≡ done s)

-- ---- one step of a run, and then the look at the clock and the room left: it goes on, it has reached `until`, or it is refused and the words hold the simulation from before the step
module _ (services : List Float) (until : Float) (room : ℕ) (t : Table) (mem after : List ℕ) where
  -- what the run does from here, by what it does after this step
  abbrev pub looks : (Simulation → Ran) → Ran
  looks rest = look until room (sim_in t mem) (step_on t services (sim_in t mem)) rest

  pub record Goes (n : ℕ) : Type 0 where
    pub sound : Sound t after
    pub count : n ≡ word_at after 0
    pub few : n ≤ room
    pub log : List Happening
    pub step : step_on t services (sim_in t mem) ≡ done (sim_in t after, log)
    pub is : (rest : Simulation → Ran) → looks rest ≡ then_ran (active_in t after) log (rest (sim_in t after))

  pub record Arrives : Type 0 where
    pub sound : Sound t after
    pub log : List Happening
    pub is : (rest : Simulation → Ran) → looks rest ≡ then_ran [] log (ended Calls.Reached (sim_in t after))

  pub record Refuses (r : Refusal) : Type 0 where
    pub sound : Sound t after
    pub same : sim_in t after ≡ sim_in t mem
    pub is : (rest : Simulation → Ran) → looks rest ≡ ended (Calls.Refused r) (sim_in t mem)

-- so many messages are to be collected, `until` is reached, or the step is refused
abbrev pub Nexts : Result (Option ℕ) Refusal → List Float → Float → ℕ → Table → List ℕ → List ℕ → Type 0
Nexts (Ok (Some n)) services until room t mem after = Goes services until room t mem after n
Nexts (Ok None) services until room t mem after = Arrives services until room t mem after
Nexts (Err r) services until room t mem after = Refuses services until room t mem after r
