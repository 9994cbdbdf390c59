-- The C calls one after the other on one state buffer: what they leave in it, what they return, what happened, and what is demanded of a batcher. Definitions only. Assumes nothing.
-- A call is data, `rules/Calls.Call`, with its arguments as C hands them in; `room` is how many rows of 6 words its output has room for (`rules/Layout.room_in`). `rules/Runs.CallFits` asks of them only what C's types keep: ids and ports of 16 bits, a content and an allowance of 32, a count and lengths of 64, times that are doubles.
-- Each clause is the right-hand side of a contract in crates/host/src/lib.rt, with `state` for the words of the buffer when the call is made. The calls that only ask (jt_get_status, jt_get_messages, jt_get_global_time, jt_state_words, jt_intake) cannot write to a state: between the calls of a chain they change nothing. jt_write_out_capacity, which is for words from before A7 of 02, is no call of a chain: what it leaves of a state is `capacities/States.migrated`.
use Rattle.std.specs.Prelude.{ℕ, ◌≡◌, List, [], ◌∷◌, ◌++◌, T}
use Rattle.rules.specs.declared.Batcher.{Batcher}
use Rattle.rules.specs.Table.{Table, batcher, kind_at}
use Rattle.rules.specs.Simulation.{of_batcher, Simulation, state_at}
use Rattle.rules.specs.Step.{Happening}
use Rattle.rules.specs.Calls as Calls
use Rattle.rules.specs.Calls.{Call, InjectInput, Step, StepN, StepUntil, Reset, ResetMessages, ResetGlobalTime}
use Rattle.rules.proofs.Runs.{CallFits}
use Rattle.lookup.specs.Inside.{count_in}
use Rattle.rerunning.specs.Running.{sim_of}
use Rattle.storing.specs.State.{state_words, is_stored}
use Rattle.storing.specs.Lent.{call_in, left, post_in, put_in, left_anew, run_in, left_by_run}
use Rattle.host.specs.Numbers.{number_of, end_number}
use Rattle.promises.specs.Story.{state_then, CapacityNone, SixElsewhere, happened, left_by, Demand, Beyond}

-- ---- the buffer after a call: `leaves` of its contract
abbrev pub after : Call → List ℕ → List ℕ
-- jt_inject_input, with m made of its six arguments
after (InjectInput m) state = left state (call_in (Calls.inject_input m) state)
-- jt_step
after (Step services room) state = left_by_run state (run_in (Calls.step services room) state)
-- jt_step_n
after (StepN services room count) state = left_by_run state (run_in (Calls.step_n services room count) state)
-- jt_step_until
after (StepUntil services until room allowance) state = left_by_run state (run_in (Calls.step_until services until room allowance) state)
-- jt_reset, jt_reset_messages, jt_reset_global_time
after Reset state = left state (call_in Calls.reset state)
after ResetMessages state = left state (call_in Calls.reset_messages state)
after ResetGlobalTime state = left state (call_in Calls.reset_global_time state)

-- ---- what a call returns, 0 or the number of the refusal: `answers` of its contract
abbrev pub returned : Call → List ℕ → ℕ
returned (InjectInput m) state = number_of (call_in (Calls.inject_input m) state)
returned (Step services room) state = end_number (run_in (Calls.step services room) state).end
returned (StepN services room count) state = end_number (run_in (Calls.step_n services room count) state).end
returned (StepUntil services until room allowance) state = end_number (run_in (Calls.step_until services until room allowance) state).end
returned Reset state = number_of (call_in Calls.reset state)
returned ResetMessages state = number_of (call_in Calls.reset_messages state)
returned ResetGlobalTime state = number_of (call_in Calls.reset_global_time state)

-- ---- what happened in a call: the log of the very run that the contract speaks of. No model has an event outside of a run.
abbrev pub told : Call → List ℕ → List Happening
told (InjectInput m) state = []
told (Step services room) state = (run_in (Calls.step services room) state).log
told (StepN services room count) state = (run_in (Calls.step_n services room count) state).log
told (StepUntil services until room allowance) state = (run_in (Calls.step_until services until room allowance) state).log
told Reset state = []
told ResetMessages state = []
told ResetGlobalTime state = []

-- ---- a chain: each call is handed the buffer that the one before left
abbrev pub chain : List Call → List ℕ → List ℕ
chain [] state = state
chain (c ∷ cs) state = chain cs (after c state)

-- all that happened in it
abbrev pub chain_told : List Call → List ℕ → List Happening
chain_told [] state = []
chain_told (c ∷ cs) state = told c state ++ chain_told cs (after c state)

-- ---- where a chain begins: jt_post and jt_put, by `leaves` and `answers` of their contracts
module _ (models connectors couplings : List ℕ) where
  abbrev pub after_post : List ℕ → List ℕ
  after_post state = left_anew models connectors couplings state (post_in models connectors couplings state)

  abbrev pub returned_by_post : List ℕ → ℕ
  returned_by_post state = number_of (post_in models connectors couplings state)

  abbrev pub after_put : List ℕ → List ℕ
  after_put state = left_anew models connectors couplings state (put_in models connectors couplings state)

  abbrev pub returned_by_put : List ℕ → ℕ
  returned_by_put state = number_of (put_in models connectors couplings state)

-- ---- a buffer that 20 lets pass, and the simulation in it
abbrev pub BufferHolds : List ℕ → Simulation → Type 0
BufferHolds state sim = T (is_stored state) × (sim_of state ≡ sim)

-- how long it must be for any state of the table in it
abbrev pub needed : List ℕ → ℕ
needed state = state_words (count_in 0 state) (count_in 1 state) (count_in 2 state)

-- ---- the demand on the batcher b at a row of the table in `state`, under the C calls cs
pub record ChainDemand (state : List ℕ) (cs : List Call) (row : ℕ) (b : Batcher) : Type 0 where
  -- the simulation and the log that the demand speaks of are the chain's own: what its buffer holds at last, and what happened in it
  pub holds : BufferHolds (chain cs state) (left_by (sim_of state) cs)
  pub tells : chain_told cs state ≡ happened (sim_of state) cs
  -- the demand, a field for each sentence, and what is said beyond it
  pub demand : Demand (sim_of state) cs row b
  pub beyond : Beyond (sim_of state) cs row b
  -- in the buffer at last stands the batcher as its history in the chain makes it
  pub stands : state_at (sim_of (chain cs state)).states row ≡ of_batcher (state_then b row (chain_told cs state))
  -- "InvalidModelState never comes from it": the next call returns 6 only where the table has a processor of capacity 0, or another batcher that was handed in, in Release with h + 1 < m
  pub six : (c : Call) → CallFits c → returned c (chain cs state) ≡ 6 → SixElsewhere (sim_of state)

-- ---- where jt_post or jt_put has laid the table t into `state`: the demand on every batcher row of t; and 6 is then a processor's of capacity 0
pub record ChainOfAll (state : List ℕ) (t : Table) (cs : List Call) : Type 0 where
  pub demand : (row : ℕ) (b : Batcher) → kind_at t row ≡ batcher b → ChainDemand state cs row b
  pub six : (c : Call) → CallFits c → returned c (chain cs state) ≡ 6 → CapacityNone t
