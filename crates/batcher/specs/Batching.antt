-- What the batcher's events answer, by the rules. Definitions only. Assumes nothing.
use Rattle.std.specs.Prelude.{ℕ, ◌+◌, ◌≤◌, ◌≡◌, List, length, drop, ltb, Float, if◌then◌else◌, Ok, Err}
use Rattle.rules.specs.declared.Refusal.{Refusal}
use Rattle.rules.specs.declared.Refusal.TheVariants.{NoQueueRoom}
use Rattle.rules.specs.declared.BatcherPhase.{BatcherPhase}
use Rattle.rules.specs.Sizes.{most_jobs}
use Rattle.rules.specs.Base.{Outcome, ◌>>=◌, done}
use Rattle.times.specs.Time.{never}
use Rattle.rules.specs.declared.BatcherPhase.TheVariants as batching
use Rattle.rules.specs.Simulation as Simulation
use Rattle.rules.specs.Models.{Kept}
use Rattle.events.specs.declared.Taken.TheVariants as taken
use Rattle.batcher.specs.declared.BatcherState.{BatcherState}
use Rattle.events.specs.declared.Handed.{Handed}
use Rattle.events.specs.declared.Taken.{Taken}
use Rattle.events.specs.Meaning.{handed_back, fate_of, queue_after, count_of, out_of}

-- a state with the jobs that it holds
abbrev pub batcher_of : BatcherState → List ℕ → Simulation.BatcherState
batcher_of s queue = record { phase = s.phase; timer = s.timer; jobs = queue }

-- "infinite at first, phase Passive, nothing held"
abbrev pub fresh : BatcherState
fresh = record { phase = batching.Passive; timer = never; held = 0 }

-- the state as it was
abbrev pub unchanged : BatcherState → Refusal → Handed BatcherState Taken
unchanged s refusal = record { next = s; answer = Err refusal }

-- a job more, in this phase and with this timer
abbrev pub kept_as : BatcherState → BatcherPhase → Float → Handed BatcherState Taken
kept_as s phase timer =
    if ltb s.held most_jobs
    then (record { next = record { phase = phase; timer = timer; held = s.held + 1 }; answer = Ok taken.Kept })
    else unchanged s NoQueueRoom

-- an external event's answer is the rules' outcome: what is not refused is kept
pub record Took (s : BatcherState) (queue : List ℕ) (job : ℕ) (r : Handed BatcherState Taken) (outcome : Outcome Simulation.BatcherState) : Type 0 where
  pub tells : (batcher_of r.next (queue_after r.answer queue job), fate_of r.answer) ≡ handed_back (batcher_of s queue) (outcome >>= λ next. done (next, Kept))
  pub holds : length (queue_after r.answer queue job) ≡ r.next.held

-- an internal event's answer is the rules' outcome
pub record Went (s : BatcherState) (queue : List ℕ) (r : Handed BatcherState ℕ) (outcome : Outcome (Simulation.BatcherState × List ℕ)) : Type 0 where
  pub tells : (batcher_of r.next (drop (count_of r.answer) queue), out_of r.answer queue) ≡ handed_back (batcher_of s queue) outcome
  pub holds : length (drop (count_of r.answer) queue) ≡ r.next.held
  pub within : count_of r.answer ≤ length queue
