-- The Processor, the Batcher and the Stopwatch ("The four models" of 01). "On an event, each hands its next state back to the caller." Definitions only. Assumes nothing.
use Rattle.std.specs.Prelude.{ℕ, ◌+◌, ◌*◌, Bool, not, List, [], ◌∷◌, ◌++◌, map, pos, length, get_or, take, drop, leb, ltb, eqb, Float, if◌then◌else◌, Option, None, Some}
use Rattle.std.specs.Float.{binary64}
use Rattle.std.specs.Float.Ieee.{add, sub, div, of_int, lt}
use Rattle.times.specs.Time.{instant, never, is_time}
use Rattle.rules.specs.declared.Refusal.TheVariants.{InvalidMessage, InvalidModelState, NoQueueRoom, NoServiceTime, BadTime}
use Rattle.rules.specs.declared.ProcessorPhase.{ProcessorPhase}
use Rattle.rules.specs.declared.ProcessorPhase.TheVariants as working
use Rattle.rules.specs.declared.BatcherPhase.{BatcherPhase}
use Rattle.rules.specs.declared.BatcherPhase.TheVariants as batching
use Rattle.rules.specs.declared.StopwatchPhase.{StopwatchPhase}
use Rattle.rules.specs.declared.StopwatchPhase.TheVariants as watching
use Rattle.rules.specs.declared.Metric.{Metric}
use Rattle.rules.specs.declared.Metric.TheVariants.{Minimum, Maximum}
use Rattle.rules.specs.declared.Processor.{Processor}
use Rattle.rules.specs.declared.Batcher.{Batcher}
use Rattle.rules.specs.declared.Stopwatch.{Stopwatch}
use Rattle.rules.specs.Sizes.{most_jobs}
use Rattle.rules.specs.Base.{Outcome, refused, done, ◌>>=◌, chosen, some_of, is_empty}
use Rattle.rules.specs.Simulation.{ProcessorState, BatcherState, StopwatchState, Marks}

-- what became of what came: a processor started it, kept it behind others or dropped it; a batcher kept it; a stopwatch marked it or was asked; a Coupled passed it on
pub data Fate : Type 0 where
  Started Kept Dropped Marked Asked Passed : Fate

-- 7: "a job would be kept, and 64 are"
abbrev pub keep : {A : Type 0} → A → List A → Outcome (List A)
keep job held = if ltb (length held) most_jobs then done (held ++ job ∷ []) else refused NoQueueRoom

-- the next service time, and the place after it. 9: "a service time is needed past the end of the list"; 10: "a service time read .. is no time"
unfoldable pub service : List Float → ℕ → Outcome (Float × ℕ)
service services place =
    if leb (length services) place then refused NoServiceTime
    else if is_time (get_or services place instant) then done (get_or services place instant, place + 1) else refused BadTime

-- ---- Processor (002)
-- "Below capacity, empty queue: keep the job, turn Active, timer is the next service time."
abbrev pub start : List Float → ℕ → ℕ → Outcome (ProcessorState × ℕ × Fate)
start services job place = do
  (time, next) ← service services place
  done (record { phase = working.Active; timer = time; queue = job ∷ [] }, next, Started)

-- "Below capacity, otherwise: keep it (7 if 64 are held)."
abbrev pub enqueue : ℕ → ProcessorState → ℕ → Outcome (ProcessorState × ℕ × Fate)
enqueue job s place = do
  queue ← keep job s.queue
  done (record { phase = s.phase; timer = s.timer; queue = queue }, place, Kept)

-- "A job on another port: 5. Queue at capacity: empty gives 6, otherwise the job is dropped and the event succeeds." "The queue includes the job in work."
unfoldable pub processor_external : Processor → List Float → ℕ → ℕ → ProcessorState → ℕ → Outcome (ProcessorState × ℕ × Fate)
processor_external p services port job s place =
    if not (eqb port p.input) then refused InvalidMessage
    else if eqb (length s.queue) p.queue_capacity
    then (if is_empty s.queue then refused InvalidModelState else done (s, place, Dropped))
    else if is_empty s.queue then start services job place else enqueue job s place

-- "Internal: Active puts out the first job, turns Passive, timer 0. Passive with jobs turns Active with the next service time. Passive without: timer infinite."
abbrev pub processor_internal_in : ProcessorPhase → List Float → ProcessorState → ℕ → Outcome (ProcessorState × ℕ × List ℕ)
processor_internal_in working.Active services s place =
    done (record { phase = working.Passive; timer = instant; queue = drop 1 s.queue }, place, take 1 s.queue)
processor_internal_in working.Passive services s place =
    if is_empty s.queue
    then done (record { phase = working.Passive; timer = never; queue = [] }, place, [])
    else do
      (time, next) ← service services place
      done (record { phase = working.Active; timer = time; queue = s.queue }, next, [])

unfoldable pub processor_internal : List Float → ProcessorState → ℕ → Outcome (ProcessorState × ℕ × List ℕ)
processor_internal services s place = processor_internal_in s.phase services s place

-- ---- Batcher (003)
-- "if h + 1 < m, Passive starts a batch (Batching, timer is the batch time), Batching adds with its timer unchanged, and Release gives 6"
abbrev pub joining : BatcherPhase → Batcher → BatcherState → Outcome (BatcherPhase × Float)
joining batching.Passive b s = done (batching.Batching, b.max_batch_time)
joining batching.Batching b s = done (batching.Batching, s.timer)
joining batching.Release b s = refused InvalidModelState

-- "With h held and maximum m: if h + 1 < m, ..; otherwise Release, timer 0. The job is kept (7 if 64 are held)." "The port isn't looked at."
unfoldable pub batcher_external : Batcher → ℕ → BatcherState → Outcome BatcherState
batcher_external b job s = do
  (phase, timer) ← if ltb (length s.jobs + 1) b.max_batch_size then joining s.phase b s else done (batching.Release, instant)
  jobs ← keep job s.jobs
  done (record { phase = phase; timer = timer; jobs = jobs })

-- "Internal: h at most m puts out all, Passive, infinite. h at least 2m puts out m, Release, timer 0. Between, m go out, Batching, timer is the batch time."
unfoldable pub batcher_internal : Batcher → BatcherState → BatcherState × List ℕ
batcher_internal b s =
    if leb (length s.jobs) b.max_batch_size
    then (record { phase = batching.Passive; timer = never; jobs = [] }, s.jobs)
    else if leb (2 * b.max_batch_size) (length s.jobs)
    then (record { phase = batching.Release; timer = instant; jobs = drop b.max_batch_size s.jobs }, take b.max_batch_size s.jobs)
    else (record { phase = batching.Batching; timer = b.max_batch_time; jobs = drop b.max_batch_size s.jobs }, take b.max_batch_size s.jobs)

-- ---- Stopwatch (004)
abbrev pub is_named : ℕ → Marks → Bool
is_named name j = eqb j.name name

-- "Start and stop set the clock on the job of that name, making it if new (7 if 64 names)."
abbrev pub marked : (Marks → Marks) → ℕ → List Marks → Outcome (List Marks)
marked mark name jobs =
    if some_of (is_named name) jobs then done (map (λ j. if is_named name j then mark j else j) jobs)
    else keep (mark (record { name = name; start = None; stop = None })) jobs

abbrev pub started : Float → Marks → Marks
started clock j = record { name = j.name; start = Some clock; stop = j.stop }

abbrev pub stopped : Float → Marks → Marks
stopped clock j = record { name = j.name; start = j.start; stop = Some clock }

abbrev pub marked_state : StopwatchState → Outcome (List Marks) → Outcome (StopwatchState × Fate)
marked_state s marking = marking >>= λ jobs. done (record { phase = s.phase; timer = s.timer; jobs = jobs }, Marked)

-- "Metric: JobFetch, timer 0." 5: "processor or stopwatch, unknown port"
unfoldable pub stopwatch_external : Stopwatch → Float → ℕ → ℕ → StopwatchState → Outcome (StopwatchState × Fate)
stopwatch_external w clock port job s =
    if eqb port w.start then marked_state s (marked (started clock) job s.jobs)
    else if eqb port w.stop then marked_state s (marked (stopped clock) job s.jobs)
    else if eqb port w.ask then done (record { phase = watching.JobFetch; timer = instant; jobs = s.jobs }, Asked)
    else refused InvalidMessage

-- a complete job: "stop less start, rounded once"
pub record Duration : Type 0 where
  pub name : ℕ
  pub length : Float

abbrev pub between : ℕ → Option Float → Option Float → Option Duration
between name None stop = None
between name (Some start) None = None
between name (Some start) (Some stop) = Some (record { name = name; length = sub binary64 stop start })

abbrev pub durations : List Marks → List Duration
durations jobs = chosen (λ j. between j.name j.start j.stop) jobs

-- "least (or greatest)"
abbrev pub better : Metric → Float → Float → Bool
better Minimum new best = lt new best
better Maximum new best = lt best new

-- "the complete job of least (or greatest) stop less start, .. the first made among equals"
abbrev pub best_of : Metric → Duration → List Duration → Duration
best_of metric best [] = best
best_of metric best (d ∷ ds) = best_of metric (if better metric d.length best.length then d else best) ds

-- "nothing if none is complete"
abbrev pub fetched : Metric → List Duration → List ℕ
fetched metric [] = []
fetched metric (d ∷ ds) = (best_of metric d ds).name ∷ []

-- "Internal in JobFetch puts out the complete job ..; then Passive, infinite. Internal in Passive: nothing, infinite."
abbrev pub asked : StopwatchPhase → Stopwatch → List Marks → List ℕ
asked watching.JobFetch w jobs = fetched w.metric (durations jobs)
asked watching.Passive w jobs = []

unfoldable pub stopwatch_internal : Stopwatch → StopwatchState → StopwatchState × List ℕ
stopwatch_internal w s = (record { phase = watching.Passive; timer = never; jobs = s.jobs }, asked s.phase w s.jobs)

-- status: "the mean of complete durations (summed in order from 0, then divided by their number, each operation rounded once), or none if none is complete"
abbrev pub summed : Float → List Duration → Float
summed sum [] = sum
summed sum (d ∷ ds) = summed (add binary64 sum d.length) ds

abbrev pub mean : List Duration → Option Float
mean [] = None
mean (d ∷ ds) = Some (div binary64 (summed instant (d ∷ ds)) (of_int binary64 (pos (length (d ∷ ds)))))
