-- What the processor's events answer, by the rules. Definitions only. Assumes nothing.
use Rattle.std.specs.Prelude.{ℕ, ◌≤◌, ◌≡◌, List, length, drop, Ok, Result}
use Rattle.rules.specs.declared.Refusal.{Refusal}
use Rattle.rules.specs.Base.{Outcome}
use Rattle.times.specs.Time.{instant, never}
use Rattle.rules.specs.declared.ProcessorPhase.TheVariants as working
use Rattle.rules.specs.Simulation as Simulation
use Rattle.rules.specs.Models.{Fate}
use Rattle.events.specs.declared.Taken.{Taken}
use Rattle.processor.specs.declared.ProcessorState.{ProcessorState}
use Rattle.processor.specs.declared.Served.{Served}
use Rattle.events.specs.Meaning.{handed_back, placed, fate_of, queue_after, count_of, out_of}

-- a state with the jobs of its queue
abbrev pub processor_of : ProcessorState → List ℕ → Simulation.ProcessorState
processor_of s queue = record { phase = s.phase; timer = s.timer; queue = queue }

-- "infinite at first, phase Passive, nothing held"
abbrev pub fresh : ProcessorState
fresh = record { phase = working.Passive; timer = never; held = 0 }

-- the state and the place as they were
abbrev pub unchanged : ProcessorState → ℕ → Result Taken Refusal → Served Taken
unchanged s place answer = record { next = s; place = place; answer = answer }

-- jobs went out: Passive, timer 0
abbrev pub resting : ℕ → ℕ → ℕ → Served ℕ
resting held place out = record { next = record { phase = working.Passive; timer = instant; held = held }; place = place; answer = Ok out }

-- an external event's answer is the rules' outcome
pub record Took (s : ProcessorState) (place : ℕ) (queue : List ℕ) (job : ℕ) (r : Served Taken) (outcome : Outcome (Simulation.ProcessorState × ℕ × Fate)) : Type 0 where
  pub tells : ((processor_of r.next (queue_after r.answer queue job), r.place), fate_of r.answer) ≡ handed_back (processor_of s queue, place) (placed outcome)
  pub holds : length (queue_after r.answer queue job) ≡ r.next.held

-- an internal event's answer is the rules' outcome
pub record Went (s : ProcessorState) (place : ℕ) (queue : List ℕ) (r : Served ℕ) (outcome : Outcome (Simulation.ProcessorState × ℕ × List ℕ)) : Type 0 where
  pub tells : ((processor_of r.next (drop (count_of r.answer) queue), r.place), out_of r.answer queue) ≡ handed_back (processor_of s queue, place) (placed outcome)
  pub holds : length (drop (count_of r.answer) queue) ≡ r.next.held
  pub within : count_of r.answer ≤ length queue
