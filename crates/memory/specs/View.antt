-- From a row's words to its model's state, and what 20 asks of them beyond what it asks of that state. Definitions only. Assumes nothing.
use Rattle.std.specs.Prelude.{ℕ, ◌/◌, ◌%◌, ◌^◌, Bool, List, [], ◌∷◌, map, T, leb, ltb, eqb, if◌then◌else◌}
use Rattle.std.specs.Float.{binary64}
use Rattle.std.specs.Float.Ieee.{of_bits}
use Rattle.rules.specs.declared.ProcessorPhase.{ProcessorPhase}
use Rattle.rules.specs.declared.ProcessorPhase.TheVariants as working
use Rattle.rules.specs.declared.BatcherPhase.{BatcherPhase}
use Rattle.rules.specs.declared.BatcherPhase.TheVariants as batching
use Rattle.rules.specs.declared.StopwatchPhase.{StopwatchPhase}
use Rattle.rules.specs.declared.StopwatchPhase.TheVariants as watching
use Rattle.rules.specs.Sizes.{most_jobs}
use Rattle.rules.specs.Table.{Kind, processor, batcher, stopwatch, coupled}
use Rattle.rules.specs.Simulation.{ProcessorState, BatcherState, StopwatchState, Parked, State, of_processor, of_batcher, of_stopwatch, of_coupled}
use Rattle.rules.specs.Step.{Out}
use Rattle.rules.specs.Valid.{state_fits}
use Rattle.rules.specs.Ends.{All}
use Rattle.words.specs.Queue.{queue_in, unused_clear}
use Rattle.marks.specs.Jobs.{jobs_in, fit_in}
use Rattle.marks.specs.MarkingLaws.{unused_in}
use Rattle.memory.specs.Words.{phase_in, timer_in, held_in, width_of, own_in, Placed}

-- ---- phases by number
abbrev pub working_of : ℕ → ProcessorPhase
working_of n = if eqb n 1 then working.Active else working.Passive

abbrev pub batching_of : ℕ → BatcherPhase
batching_of n = if eqb n 1 then batching.Batching else if eqb n 2 then batching.Release else batching.Passive

abbrev pub watching_of : ℕ → StopwatchPhase
watching_of n = if eqb n 1 then watching.JobFetch else watching.Passive

abbrev pub working_number : ProcessorPhase → ℕ
working_number working.Passive = 0
working_number working.Active = 1

abbrev pub batching_number : BatcherPhase → ℕ
batching_number batching.Passive = 0
batching_number batching.Batching = 1
batching_number batching.Release = 2

abbrev pub watching_number : StopwatchPhase → ℕ
watching_number watching.Passive = 0
watching_number watching.JobFetch = 1

-- ---- a parked message in one word: component's id, port, content; and a message put out: port, content
abbrev pub parked_of : ℕ → Parked
parked_of word = record { component = word / 2 ^ 48; port = word / 2 ^ 32 % 2 ^ 16; content = word % 2 ^ 32 }

abbrev pub out_of : ℕ → Out
out_of word = record { port = word / 2 ^ 32; content = word % 2 ^ 32 }

-- the k messages put out that stand from `at` on
abbrev pub outs_in : ℕ → ℕ → List ℕ → List Out
outs_in at k mem = map out_of (own_in at k mem)

-- ---- the state of the row i, whose own words begin at b
module _ (b : ℕ) (mem : List ℕ) (i : ℕ) where
  abbrev pub processor_in : ProcessorState
  processor_in = record { phase = working_of (phase_in mem i); timer = of_bits binary64 (timer_in mem i); queue = queue_in (held_in mem i) (own_in b 64 mem) }

  abbrev pub batcher_in : BatcherState
  batcher_in = record { phase = batching_of (phase_in mem i); timer = of_bits binary64 (timer_in mem i); jobs = queue_in (held_in mem i) (own_in b 64 mem) }

  abbrev pub stopwatch_in : StopwatchState
  stopwatch_in = record { phase = watching_of (phase_in mem i); timer = of_bits binary64 (timer_in mem i); jobs = jobs_in (held_in mem i) (own_in b 192 mem) }

  abbrev pub parked_in : List Parked
  parked_in = map parked_of (queue_in (held_in mem i) (own_in b 64 mem))

abbrev pub state_in : Kind → ℕ → List ℕ → ℕ → State
state_in (processor p) b mem i = of_processor (processor_in b mem i)
state_in (batcher m) b mem i = of_batcher (batcher_in b mem i)
state_in (stopwatch w) b mem i = of_stopwatch (stopwatch_in b mem i)
state_in coupled b mem i = of_coupled (parked_in b mem i)

-- ---- what 20 asks of the words themselves: "phases are named ones", "lengths .. keep the sizes", unused places hold 0 (a Coupled has neither phase nor timer of its own), a mark that is not made is infinity
abbrev pub word_rules : Kind → (phase timer held : ℕ) → List ℕ → List Bool
word_rules (processor p) phase timer held own = ltb phase 2 ∷ leb held most_jobs ∷ unused_clear held own ∷ []
word_rules (batcher m) phase timer held own = ltb phase 3 ∷ leb held most_jobs ∷ unused_clear held own ∷ []
word_rules (stopwatch w) phase timer held own = ltb phase 2 ∷ fit_in held own ∷ unused_in held own ∷ []
word_rules coupled phase timer held own = eqb phase 0 ∷ eqb timer 0 ∷ leb held most_jobs ∷ unused_clear held own ∷ []

abbrev pub WordsFit : Kind → ℕ → List ℕ → ℕ → Type 0
WordsFit k b mem i = All T (word_rules k (phase_in mem i) (timer_in mem i) (held_in mem i) (own_in b (width_of k) mem))

-- the row i stands at b, its words fit and so does its state
pub record Row (k : Kind) (b : ℕ) (mem : List ℕ) (i : ℕ) : Type 0 where
  pub placed : Placed k b mem i
  pub words : WordsFit k b mem i
  pub fits : T (state_fits k (state_in k b mem i))
