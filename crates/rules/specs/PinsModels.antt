-- "The four models" of 01, the three atoms, pinned: each case is computed, and an edit of its sentence breaks it. Assumes nothing.
use Rattle.std.specs.Prelude.{ℕ, ◌+◌, ◌-◌, ◌^◌, ◌≡◌, refl, List, [], ◌∷◌, ◌++◌, map, Float, Option, None, Some}
use Rattle.std.specs.Float.Ieee.{add, sub, div, of_int, lt, le, fits, of_bits}
use Rattle.times.specs.Time.{instant, never, is_time}
use Rattle.rules.specs.declared.Refusal.TheVariants.{InvalidMessage, InvalidModelState, NoQueueRoom, NoServiceTime, BadTime}
use Rattle.rules.specs.declared.ProcessorPhase.TheVariants as working
use Rattle.rules.specs.declared.BatcherPhase.{BatcherPhase}
use Rattle.rules.specs.declared.BatcherPhase.TheVariants as batching
use Rattle.rules.specs.declared.StopwatchPhase.{StopwatchPhase}
use Rattle.rules.specs.declared.StopwatchPhase.TheVariants as watching
use Rattle.rules.specs.declared.Metric.{Metric}
use Rattle.rules.specs.declared.Metric.TheVariants.{Minimum, Maximum}
use Rattle.rules.specs.declared.Processor.{Processor}
use Rattle.rules.specs.declared.Batcher.{Batcher}
use Rattle.rules.specs.declared.Stopwatch.{Stopwatch}
use Rattle.rules.specs.Sizes.{omitted_capacity}
use Rattle.rules.specs.Base.{Outcome, refused, done, from}
use Rattle.rules.specs.Table.{coupled}
use Rattle.rules.specs.Simulation.{ProcessorState, BatcherState, StopwatchState, Marks, of_processor, of_batcher, of_stopwatch, of_coupled, fresh}
use Rattle.rules.specs.Models.{Fate, Started, Kept, Dropped, Marked, Asked, service, processor_external, processor_internal, batcher_external, batcher_internal, stopwatch_external, stopwatch_internal, durations, mean}
use Rattle.rules.specs.Examples.{at, one, two, three, four, five, ten, minus_zero, a_batcher, a_processor, a_stopwatch}

-- 64 and 63 jobs
abbrev full : List ℕ
full = from 1 64

abbrev nearly : List ℕ
nearly = from 1 63

-- ---- Processor: port in 1
abbrev server : ℕ → Processor
server capacity = record { input = 1; output = 2; queue_capacity = capacity }

abbrev in_work : List ℕ → Float → ProcessorState
in_work queue timer = record { phase = working.Active; timer = timer; queue = queue }

abbrev waiting : List ℕ → Float → ProcessorState
waiting queue timer = record { phase = working.Passive; timer = timer; queue = queue }

-- the job 9 comes at the port, with the service times 4 and 5
abbrev arrives : ℕ → ℕ → ProcessorState → ℕ → Outcome (ProcessorState × ℕ × Fate)
arrives capacity port s place = processor_external (server capacity) (four ∷ five ∷ []) port 9 s place

pub record Processors : Type 0 where
  -- "A job on another port: 5.", before 6, 7 and 9
  pub other-port : arrives 8 2 (waiting [] never) 0 ≡ refused InvalidMessage
  pub other-port-first : arrives 0 2 (waiting [] never) 2 ≡ refused InvalidMessage
  pub other-port-full : arrives 100 2 (in_work full two) 0 ≡ refused InvalidMessage
  -- "Queue at capacity: empty gives 6, otherwise the job is dropped and the event succeeds."
  pub empty-at-capacity : arrives 0 1 (waiting [] never) 2 ≡ refused InvalidModelState
  pub dropped : arrives 1 1 (in_work (7 ∷ []) two) 1 ≡ done (in_work (7 ∷ []) two, 1, Dropped)
  pub dropped-passive : arrives 2 1 (waiting (7 ∷ 8 ∷ []) instant) 1 ≡ done (waiting (7 ∷ 8 ∷ []) instant, 1, Dropped)
  pub dropped-at-64 : arrives 64 1 (in_work full two) 0 ≡ done (in_work full two, 0, Dropped)
  -- "Below capacity, empty queue: keep the job, turn Active, timer is the next service time."
  pub started : arrives 8 1 (waiting [] never) 0 ≡ done (in_work (9 ∷ []) four, 1, Started)
  pub started-next : arrives 1 1 (waiting [] instant) 1 ≡ done (in_work (9 ∷ []) five, 2, Started)
  -- a capacity is compared in full width
  pub capacity-wide : arrives (2 ^ 32) 1 (waiting [] never) 0 ≡ done (in_work (9 ∷ []) four, 1, Started)
  pub capacity-wide-held : arrives (2 ^ 32 + 1) 1 (in_work (7 ∷ []) two) 0 ≡ done (in_work (7 ∷ 9 ∷ []) two, 0, Kept)
  -- "Below capacity, otherwise: keep it (7 if 64 are held).", whatever the phase; "The queue includes the job in work."
  pub kept : arrives 2 1 (in_work (7 ∷ []) two) 1 ≡ done (in_work (7 ∷ 9 ∷ []) two, 1, Kept)
  pub kept-passive : arrives 8 1 (waiting (7 ∷ 8 ∷ []) instant) 1 ≡ done (waiting (7 ∷ 8 ∷ 9 ∷ []) instant, 1, Kept)
  pub kept-64th : arrives 100 1 (in_work nearly two) 0 ≡ done (in_work (nearly ++ 9 ∷ []) two, 0, Kept)
  pub no_room : arrives 100 1 (in_work full two) 0 ≡ refused NoQueueRoom
  pub no-room-any : arrives (2 ^ 64 - 1) 1 (in_work full two) 0 ≡ refused NoQueueRoom
  -- A7 of 02: "Rows that omit `queue_capacity` now get 32, so the 33rd job is dropped where it was kept."
  pub kept-32nd : arrives omitted_capacity 1 (in_work (from 1 31) two) 0 ≡ done (in_work (from 1 31 ++ 9 ∷ []) two, 0, Kept)
  pub dropped-33rd : arrives omitted_capacity 1 (in_work (from 1 32) two) 0 ≡ done (in_work (from 1 32) two, 0, Dropped)
  pub kept-33rd : arrives (2 ^ 64 - 1) 1 (in_work (from 1 32) two) 0 ≡ done (in_work (from 1 32 ++ 9 ∷ []) two, 0, Kept)
  -- 9: "a service time is needed past the end of the list"; 10: "a service time read .. is no time"
  pub no-service : arrives 8 1 (waiting [] never) 2 ≡ refused NoServiceTime
  pub no-service-past : arrives 8 1 (waiting [] never) 3 ≡ refused NoServiceTime
  pub bad-service : processor_external (server 8) (never ∷ []) 1 9 (waiting [] never) 0 ≡ refused BadTime
  pub minus-zero-service : processor_external (server 8) (minus_zero ∷ []) 1 9 (waiting [] never) 0 ≡ refused BadTime
  pub zero-service : processor_external (server 8) (instant ∷ []) 1 9 (waiting [] never) 0 ≡ done (in_work (9 ∷ []) instant, 1, Started)
  -- only the entry that is needed is looked at
  pub other-service : processor_external (server 8) (never ∷ five ∷ never ∷ []) 1 9 (waiting [] never) 1 ≡ done (in_work (9 ∷ []) five, 2, Started)
  -- "Internal: Active puts out the first job, turns Passive, timer 0."
  pub releases : processor_internal (four ∷ []) (in_work (7 ∷ 8 ∷ []) instant) 0 ≡ done (waiting (8 ∷ []) instant, 0, 7 ∷ [])
  pub releases-only : processor_internal [] (in_work (7 ∷ []) two) 3 ≡ done (waiting [] instant, 3, 7 ∷ [])
  -- "Passive with jobs turns Active with the next service time."
  pub goes_on : processor_internal (four ∷ five ∷ []) (waiting (7 ∷ 8 ∷ []) instant) 1 ≡ done (in_work (7 ∷ 8 ∷ []) five, 2, [])
  pub goes-on-no-service : processor_internal (four ∷ []) (waiting (7 ∷ []) instant) 1 ≡ refused NoServiceTime
  pub goes-on-bad-service : processor_internal (minus_zero ∷ []) (waiting (7 ∷ []) instant) 0 ≡ refused BadTime
  -- "Passive without: timer infinite."
  pub rests : processor_internal [] (waiting [] instant) 5 ≡ done (waiting [] never, 5, [])

pub processors : Processors
unfolding processor_external processor_internal service is_time fits le of_bits
processors = record {
  other-port = refl;
  other-port-first = refl;
  other-port-full = refl;
  empty-at-capacity = refl;
  dropped = refl;
  dropped-passive = refl;
  dropped-at-64 = refl;
  started = refl;
  started-next = refl;
  capacity-wide = refl;
  capacity-wide-held = refl;
  kept = refl;
  kept-passive = refl;
  kept-64th = refl;
  no_room = refl;
  no-room-any = refl;
  kept-32nd = refl;
  dropped-33rd = refl;
  kept-33rd = refl;
  no-service = refl;
  no-service-past = refl;
  bad-service = refl;
  minus-zero-service = refl;
  zero-service = refl;
  other-service = refl;
  releases = refl;
  releases-only = refl;
  goes_on = refl;
  goes-on-no-service = refl;
  goes-on-bad-service = refl;
  rests = refl;
}

-- ---- Batcher: batch time 10, and a state handed in with any phase and jobs
abbrev batch_of : ℕ → Batcher
batch_of size = record { input = 1; output = 2; max_batch_size = size; max_batch_time = ten }

abbrev holds : BatcherPhase → List ℕ → Float → BatcherState
holds phase jobs timer = record { phase = phase; timer = timer; jobs = jobs }

-- the job 9 comes
abbrev joins : ℕ → BatcherState → Outcome BatcherState
joins size s = batcher_external (batch_of size) 9 s

pub record Batchers : Type 0 where
  -- "if h + 1 < m, Passive starts a batch (Batching, timer is the batch time)"
  pub starts : joins 3 (holds batching.Passive [] never) ≡ done (holds batching.Batching (9 ∷ []) ten)
  pub starts-handed-in : joins 4 (holds batching.Passive (7 ∷ 8 ∷ []) two) ≡ done (holds batching.Batching (7 ∷ 8 ∷ 9 ∷ []) ten)
  -- "Batching adds with its timer unchanged"
  pub adds : joins 3 (holds batching.Batching (7 ∷ []) two) ≡ done (holds batching.Batching (7 ∷ 9 ∷ []) two)
  -- "and Release gives 6"; 6 comes before 7
  pub release-waits : joins 3 (holds batching.Release (7 ∷ []) instant) ≡ refused InvalidModelState
  pub release-waits-empty : joins 2 (holds batching.Release [] instant) ≡ refused InvalidModelState
  pub six-before-seven : joins 100 (holds batching.Release full instant) ≡ refused InvalidModelState
  -- "otherwise Release, timer 0", in every phase
  pub fills : joins 3 (holds batching.Batching (7 ∷ 8 ∷ []) two) ≡ done (holds batching.Release (7 ∷ 8 ∷ 9 ∷ []) instant)
  pub fills-at-once : joins 1 (holds batching.Passive [] never) ≡ done (holds batching.Release (9 ∷ []) instant)
  pub fills-over : joins 2 (holds batching.Release (6 ∷ 7 ∷ 8 ∷ []) instant) ≡ done (holds batching.Release (6 ∷ 7 ∷ 8 ∷ 9 ∷ []) instant)
  -- "The job is kept (7 if 64 are held)."
  pub kept-64th : joins 100 (holds batching.Batching nearly two) ≡ done (holds batching.Batching (nearly ++ 9 ∷ []) two)
  pub no_room : joins 100 (holds batching.Batching full two) ≡ refused NoQueueRoom
  pub no-room-release : joins 2 (holds batching.Release full instant) ≡ refused NoQueueRoom
  -- the maximum is compared in full width, coming and going
  pub size-wide : joins (2 ^ 32 + 2) (holds batching.Batching (7 ∷ []) two) ≡ done (holds batching.Batching (7 ∷ 9 ∷ []) two)
  pub size-largest : joins (2 ^ 62) (holds batching.Passive [] never) ≡ done (holds batching.Batching (9 ∷ []) ten)
  -- "Internal: h at most m puts out all, Passive, infinite."
  pub all-below : batcher_internal (batch_of 3) (holds batching.Batching (7 ∷ 8 ∷ []) instant) ≡ (holds batching.Passive [] never, 7 ∷ 8 ∷ [])
  pub all-at : batcher_internal (batch_of 2) (holds batching.Release (7 ∷ 8 ∷ []) instant) ≡ (holds batching.Passive [] never, 7 ∷ 8 ∷ [])
  pub all_none : batcher_internal (batch_of 2) (holds batching.Batching [] instant) ≡ (holds batching.Passive [] never, [])
  pub all-wide : batcher_internal (batch_of (2 ^ 32 + 1)) (holds batching.Batching (7 ∷ 8 ∷ []) instant) ≡ (holds batching.Passive [] never, 7 ∷ 8 ∷ [])
  -- "h at least 2m puts out m, Release, timer 0."
  pub twice : batcher_internal (batch_of 2) (holds batching.Release (5 ∷ 6 ∷ 7 ∷ 8 ∷ []) instant) ≡ (holds batching.Release (7 ∷ 8 ∷ []) instant, 5 ∷ 6 ∷ [])
  pub more-than-twice : batcher_internal (batch_of 1) (holds batching.Release (5 ∷ 6 ∷ 7 ∷ []) instant) ≡ (holds batching.Release (6 ∷ 7 ∷ []) instant, 5 ∷ [])
  -- "Between, m go out, Batching, timer is the batch time."
  pub between : batcher_internal (batch_of 2) (holds batching.Release (5 ∷ 6 ∷ 7 ∷ []) instant) ≡ (holds batching.Batching (7 ∷ []) ten, 5 ∷ 6 ∷ [])
  pub between-last : batcher_internal (batch_of 3) (holds batching.Release (4 ∷ 5 ∷ 6 ∷ 7 ∷ 8 ∷ []) instant) ≡ (holds batching.Batching (7 ∷ 8 ∷ []) ten, 4 ∷ 5 ∷ 6 ∷ [])

pub batchers : Batchers
unfolding batcher_external batcher_internal of_bits
batchers = record {
  starts = refl;
  starts-handed-in = refl;
  adds = refl;
  release-waits = refl;
  release-waits-empty = refl;
  six-before-seven = refl;
  fills = refl;
  fills-at-once = refl;
  fills-over = refl;
  kept-64th = refl;
  no_room = refl;
  no-room-release = refl;
  size-wide = refl;
  size-largest = refl;
  all-below = refl;
  all-at = refl;
  all_none = refl;
  all-wide = refl;
  twice = refl;
  more-than-twice = refl;
  between = refl;
  between-last = refl;
}

-- ---- Stopwatch: start 1, stop 2, metric 3, out 4
abbrev watch_of : Metric → Stopwatch
watch_of metric = record { start = 1; stop = 2; ask = 3; output = 4; metric = metric }

abbrev measures : StopwatchPhase → Float → List Marks → StopwatchState
measures phase timer jobs = record { phase = phase; timer = timer; jobs = jobs }

abbrev mark : ℕ → Option Float → Option Float → Marks
mark name start stop = record { name = name; start = start; stop = stop }

-- the job 9 comes at the port at clock 5
abbrev hears : ℕ → StopwatchState → Outcome (StopwatchState × Fate)
hears port s = stopwatch_external (watch_of Minimum) five port 9 s

abbrev idle : List Marks → StopwatchState
idle jobs = measures watching.Passive never jobs

abbrev others : List Marks
others = mark 7 (Some one) None ∷ mark 8 None (Some two) ∷ []

-- 64 names, from 1 or from 9 on, each started at 1
abbrev named : ℕ → List Marks
named first = map (λ k. mark k (Some one) None) (from first 64)

-- what is put out when it is asked, and the state after
abbrev answers : Metric → List Marks → StopwatchState × List ℕ
answers metric jobs = stopwatch_internal (watch_of metric) (measures watching.JobFetch instant jobs)

abbrev lasting : ℕ → Float → Float → Marks
lasting name start stop = mark name (Some start) (Some stop)

abbrev two_to_54 : Float
two_to_54 = at 0x4350_0000_0000_0000

pub record Stopwatches : Type 0 where
  -- "Start and stop set the clock on the job of that name, making it if new"
  pub start-new : hears 1 (idle others) ≡ done (idle (others ++ mark 9 (Some five) None ∷ []), Marked)
  pub stop-new : hears 2 (idle others) ≡ done (idle (others ++ mark 9 None (Some five) ∷ []), Marked)
  pub start-known : hears 1 (idle (mark 9 (Some one) (Some two) ∷ others)) ≡ done (idle (mark 9 (Some five) (Some two) ∷ others), Marked)
  pub stop-known : hears 2 (idle (others ++ mark 9 (Some one) None ∷ [])) ≡ done (idle (others ++ mark 9 (Some one) (Some five) ∷ []), Marked)
  pub phase-stays : hears 1 (measures watching.JobFetch instant []) ≡ done (measures watching.JobFetch instant (mark 9 (Some five) None ∷ []), Marked)
  pub phase-stays-stop : hears 2 (measures watching.JobFetch instant []) ≡ done (measures watching.JobFetch instant (mark 9 None (Some five) ∷ []), Marked)
  -- "(7 if 64 names)"
  pub no_room : hears 1 (idle (named 10)) ≡ refused NoQueueRoom
  pub no-room-stop : hears 2 (idle (named 10)) ≡ refused NoQueueRoom
  pub known-among-64 : hears 2 (idle (named 9)) ≡ done (idle (mark 9 (Some one) (Some five) ∷ map (λ k. mark k (Some one) None) (from 10 63)), Marked)
  -- "Metric: JobFetch, timer 0."
  pub metric : hears 3 (idle others) ≡ done (measures watching.JobFetch instant others, Asked)
  -- 5: "stopwatch, unknown port"; its output is none of the three
  pub unknown : hears 4 (idle others) ≡ refused InvalidMessage
  -- "Internal in JobFetch puts out the complete job of least (or greatest) stop less start, ..; then Passive, infinite."
  pub least : answers Minimum (lasting 7 one four ∷ lasting 8 one two ∷ lasting 9 one three ∷ []) ≡ (idle (lasting 7 one four ∷ lasting 8 one two ∷ lasting 9 one three ∷ []), 8 ∷ [])
  pub greatest : (answers Maximum (lasting 7 one three ∷ lasting 8 one four ∷ lasting 9 one two ∷ [])).1 ≡ 8 ∷ []
  -- "the first made among equals"
  pub first-least : (answers Minimum (lasting 7 one three ∷ lasting 8 two three ∷ lasting 9 one two ∷ [])).1 ≡ 8 ∷ []
  pub first-greatest : (answers Maximum (lasting 7 one two ∷ lasting 8 one three ∷ lasting 9 two four ∷ [])).1 ≡ 8 ∷ []
  -- negative durations count as they are
  pub least-negative : (answers Minimum (lasting 7 one one ∷ lasting 8 four one ∷ lasting 9 two one ∷ [])).1 ≡ 8 ∷ []
  pub greatest-negative : (answers Maximum (lasting 7 four one ∷ lasting 8 two one ∷ [])).1 ≡ 8 ∷ []
  -- "stop less start, rounded once": 2^54 - 1 is 2^54, as 2^54 - 0 is
  pub rounded : (answers Maximum (lasting 7 one two_to_54 ∷ lasting 8 instant two_to_54 ∷ [])).1 ≡ 7 ∷ []
  -- "complete": a start and a stop; "nothing if none is complete"
  pub incomplete-left-out : (answers Minimum (mark 7 (Some one) None ∷ mark 8 None (Some two) ∷ lasting 9 one two ∷ [])).1 ≡ 9 ∷ []
  pub none-complete : answers Minimum others ≡ (idle others, [])
  -- "Internal in Passive: nothing, infinite."
  pub in-passive : stopwatch_internal (watch_of Minimum) (measures watching.Passive instant (lasting 7 one two ∷ [])) ≡ (idle (lasting 7 one two ∷ []), [])
  -- status: "the mean of complete durations (summed in order from 0, then divided by their number, each operation rounded once), or none if none is complete"
  pub mean-of-two : mean (durations (lasting 7 one two ∷ mark 8 (Some one) None ∷ lasting 9 two four ∷ [])) ≡ Some (at 0x3FF8_0000_0000_0000)
  pub mean-rounded : mean (durations (lasting 7 instant one ∷ lasting 8 one one ∷ lasting 9 two two ∷ [])) ≡ Some (at 0x3FD5_5555_5555_5555)
  pub mean-in-order : mean (durations (lasting 7 instant one ∷ lasting 8 instant one ∷ lasting 9 instant one ∷ lasting 10 instant two_to_54 ∷ [])) ≡ Some (at 0x4330_0000_0000_0001)
  pub mean-in-other-order : mean (durations (lasting 7 instant two_to_54 ∷ lasting 8 instant one ∷ lasting 9 instant one ∷ lasting 10 instant one ∷ [])) ≡ Some (at 0x4330_0000_0000_0000)
  pub mean-none : mean (durations others) ≡ None

pub stopwatches : Stopwatches
unfolding stopwatch_external stopwatch_internal sub add div of_int lt of_bits
stopwatches = record {
  start-new = refl;
  stop-new = refl;
  start-known = refl;
  stop-known = refl;
  phase-stays = refl;
  phase-stays-stop = refl;
  no_room = refl;
  no-room-stop = refl;
  known-among-64 = refl;
  metric = refl;
  unknown = refl;
  least = refl;
  greatest = refl;
  first-least = refl;
  first-greatest = refl;
  least-negative = refl;
  greatest-negative = refl;
  rounded = refl;
  incomplete-left-out = refl;
  none-complete = refl;
  in-passive = refl;
  mean-of-two = refl;
  mean-rounded = refl;
  mean-in-order = refl;
  mean-in-other-order = refl;
  mean-none = refl;
}

-- ---- "Each has a timer, .. infinite at first, phase Passive, nothing held."
pub record Fresh : Type 0 where
  pub a-processor : fresh (a_processor 8) ≡ of_processor (waiting [] never)
  pub a-batcher : fresh (a_batcher 2 ten) ≡ of_batcher (holds batching.Passive [] never)
  pub a-stopwatch : fresh (a_stopwatch Maximum) ≡ of_stopwatch (idle [])
  pub a-coupled : fresh coupled ≡ of_coupled []

pub fresh-states : Fresh
fresh-states = record { a-processor = refl; a-batcher = refl; a-stopwatch = refl; a-coupled = refl }
