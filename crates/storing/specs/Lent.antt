-- The calls on a lent state, and the lent memory after them, for every buffer. Definitions only. Assumes nothing.
use Rattle.std.specs.Prelude.{ℕ, Bool, List, length, leb, if◌then◌else◌, Err, Ok, Result, ⊤}
use Rattle.rules.specs.declared.Refusal.{Refusal}
use Rattle.rules.specs.declared.Refusal.TheVariants.{BadState}
use Rattle.rules.specs.declared.Message.{Message}
use Rattle.rules.specs.Base.{Outcome, refused, done, ◌>>=◌}
use Rattle.rules.specs.Layout.{lent, laid_down}
use Rattle.rules.specs.Simulation.{Simulation}
use Rattle.rules.specs.Calls.{Ran, Refused, ended, post, put}
use Rattle.rerunning.specs.Running.{sim_of}
use Rattle.storing.specs.State.{laid_state, over, kept, words_for, is_stored}

-- ---- "20 comes first, in every call."
unfoldable pub simulation_in : List ℕ → Outcome Simulation
simulation_in state = if is_stored state then done (sim_of state) else refused BadState

-- a call on the simulation that a buffer holds
abbrev pub call_in : {A : Type 0} → (Simulation → Outcome A) → List ℕ → Outcome A
call_in call state = simulation_in state >>= call

-- ---- "A refused call returns its number and changes neither the simulation .. nor any lent buffer."
abbrev pub answered : {A : Type 0} → Outcome A → Result ⊤ Refusal
answered (refused r) = Err r
answered (done a) = Ok tt

abbrev pub left : List ℕ → Outcome Simulation → List ℕ
left state (refused r) = state
left state (done sim) = kept state sim

-- the rows of an output that active messages were listed in
abbrev pub listed : List ℕ → Outcome (List Message) → List ℕ
listed rows (refused r) = rows
listed rows (done messages) = laid_down messages rows

-- ---- post and put bring a table of their own. "Of the state buffer `post` asks only the length": 20 where it is too short for the table; so does put, beside the state in it
module _ (models connectors couplings : List ℕ) where
  abbrev pub has_room : List ℕ → Bool
  has_room state = leb (words_for (length models) (length connectors) (length couplings)) (length state)

  unfoldable pub post_in : List ℕ → Outcome Simulation
  post_in state = if has_room state then post (lent models connectors couplings) else refused BadState

  unfoldable pub put_in : List ℕ → Outcome Simulation
  put_in state = call_in (λ sim. if has_room state then put (lent models connectors couplings) sim else refused BadState) state

  abbrev pub left_anew : List ℕ → Outcome Simulation → List ℕ
  left_anew state (refused r) = state
  left_anew state (done sim) = over (laid_state models connectors couplings sim) state

-- ---- a run of steps: "they keep earlier steps and rows, and return number, steps and rows"
unfoldable pub run_in : (Simulation → Ran) → List ℕ → Ran
run_in run state = if is_stored state then run (sim_of state) else ended (Refused BadState) (sim_of state)

unfoldable pub left_by_run : List ℕ → Ran → List ℕ
left_by_run state ran = if is_stored state then kept state ran.sim else state
