-- The demand seen on runs that the checker computes: 01's C1 and C3, a busy batcher with later arrivals, a batch that grows while it waits, a batcher inside a Coupled, refused steps, a batcher beside one that was handed in with a job. Assumes nothing.
use Rattle.std.specs.Prelude.{ℕ, ◌<◌, ◌≡◌, refl, List, [], ◌∷◌, ◌++◌, map, T, Float}
use Rattle.std.proofs.Common.{ap, ◌∙◌, arith}
use Rattle.std.specs.Float.Ieee.{add, sub, lt, le, eq, fits, of_bits, to_bits}
use Rattle.std.specs.Float.{binary64}
use Rattle.times.specs.Time.{instant, is_time, is_timer, least_of}
use Rattle.rules.specs.declared.Refusal.{Refusal}
use Rattle.rules.specs.declared.BatcherPhase.TheVariants as batching
use Rattle.rules.specs.declared.Batcher.{Batcher}
use Rattle.rules.specs.Base.{Outcome, refused, done, from}
use Rattle.rules.specs.Sizes.{largest_batch}
use Rattle.rules.specs.Table.{coupled, Row, Coupling, external_input, internal_coupling, Table}
use Rattle.rules.specs.Intake.{intake, passes_intake}
use Rattle.rules.specs.Simulation.{BatcherState, State, Simulation, fresh_batcher, begun, state_at}
use Rattle.rules.specs.Models.{Kept, service, processor_external, processor_internal, batcher_external, batcher_internal, stopwatch_external, stopwatch_internal}
use Rattle.rules.specs.Step.{out_at, Happening, came, went, waited, timer, external, internal, step_on}
use Rattle.rules.specs.Valid.{is_valid}
use Rattle.rules.specs.Calls.{inject_input, steps, step_n, step, Call, InjectInput, Step, StepN, called, calls}
use Rattle.rules.specs.Examples.{four, six, ten, row, within, a_batcher, a_processor, link, batch, release, no_batch, job, ending}
use Rattle.promises.specs.Story.{accepted, releases, state_then, Moment, Acceptance, ahead, Leaves, happened, Within, AcceptsWithRoom}

-- ---- tables and calls
abbrev pub table_of : List Row → List Coupling → Table
table_of rows couplings = record { rows = rows; connectors = link 1 2 9 1 ∷ []; couplings = couplings }

-- one batcher, m = 2, batch time 10
abbrev pub one : Table
one = table_of (row 1 (a_batcher 2 ten) ∷ []) []

abbrev pub sent : List ℕ → List Call
sent contents = map (λ c. InjectInput (job 1 1 c)) contents

abbrev pub stepped : ℕ → List Call
stepped n = StepN [] 256 n ∷ []

-- ---- what is seen of a batcher's row after calls, with the clock's bits
pub record Seen : Type 0 where
  pub accepted : List ℕ
  pub releases : List (List ℕ)
  pub state : State
  pub clock : ℕ

unfoldable pub seen_from : Simulation → ℕ → List Call → Seen
seen_from start i cs =
    let r = calls cs start in
    record { accepted = accepted i r.1; releases = releases i r.1; state = state_at r.0.states i; clock = to_bits binary64 r.0.clock }

abbrev pub seen : Table → ℕ → List Call → Seen
seen t i cs = seen_from (begun t) i cs

-- five jobs at once, two more after the first release, one more after the second
abbrev pub busy : List Call
busy = sent (11 ∷ 12 ∷ 13 ∷ 14 ∷ 15 ∷ []) ++ stepped 1 ++ sent (21 ∷ 22 ∷ []) ++ stepped 1 ++ sent (23 ∷ []) ++ stepped 2

-- m = 3, batch time 10, and beside it a batcher whose batch time 4 moves the clock: 12 comes at 4
abbrev pub pair : Table
pair = table_of (row 1 (a_batcher 3 ten) ∷ row 2 (a_batcher 3 four) ∷ []) []

abbrev pub growing : List Call
growing = sent (11 ∷ []) ++ InjectInput (job 2 1 91) ∷ [] ++ stepped 2 ++ sent (12 ∷ []) ++ stepped 1

-- C11's table: a batcher (m = 1) inside a Coupled feeds a processor
abbrev pub chain : Table
chain = table_of (row 1 coupled ∷ within 1 2 (a_batcher 1 ten) ∷ within 1 3 (a_processor 8) ∷ []) (external_input 1 1 2 1 ∷ internal_coupling 1 2 2 3 1 ∷ [])

-- the largest batcher: 64 jobs do not fill it, and the 65th has no room
abbrev pub largest : Table
largest = table_of (row 1 (a_batcher largest_batch ten) ∷ []) []

-- a batcher beside a processor of capacity 0
abbrev pub mixed : Table
mixed = table_of (row 1 (a_batcher 2 ten) ∷ row 2 (a_processor 0) ∷ []) []

abbrev pub numbers : ℕ → List ℕ
numbers n = from 1 n

-- two batchers (m = 2), the second as a caller hands it in: Batching with 91 and 4 left of its batch time; or in Release with nothing held, as no event leaves one
abbrev pub two : Table
two = table_of (row 1 (a_batcher 2 ten) ∷ row 2 (a_batcher 2 ten) ∷ []) []

abbrev pub handed_in : State → Simulation
handed_in other = record { table = two; states = no_batch ∷ other ∷ []; active = []; clock = instant; place = 0 }

abbrev pub besides : List Call
besides = sent (11 ∷ []) ++ stepped 3

-- how the last of a list of calls on a new simulation ends: the number of its refusal, or 0
unfoldable pub ends : Table → List Call → Call → ℕ
ends t cs last = ending (called last (calls cs (begun t)).0).end

pub record Cases : Type 0 where
  -- C1 m = 2; jobs 11, 12, 13 at once: 11 and 12 go, 13 held, Batching.
  pub c1 : seen one 0 (sent (11 ∷ 12 ∷ 13 ∷ []) ++ stepped 1) ≡ record { accepted = 11 ∷ 12 ∷ 13 ∷ []; releases = (11 ∷ 12 ∷ []) ∷ []; state = batch (13 ∷ []) ten; clock = 0 }
  -- C3 m = 2, four jobs: two go, Release, timer 0; next event two, Passive.
  pub c3 : seen one 0 (sent (11 ∷ 12 ∷ 13 ∷ 14 ∷ []) ++ stepped 1) ≡ record { accepted = 11 ∷ 12 ∷ 13 ∷ 14 ∷ []; releases = (11 ∷ 12 ∷ []) ∷ []; state = release (13 ∷ 14 ∷ []); clock = 0 }
  pub c3_next : seen one 0 (sent (11 ∷ 12 ∷ 13 ∷ 14 ∷ []) ++ stepped 2) ≡ record {
    accepted = 11 ∷ 12 ∷ 13 ∷ 14 ∷ [];
    releases = (11 ∷ 12 ∷ []) ∷ (13 ∷ 14 ∷ []) ∷ [];
    state = no_batch;
    clock = 0;
  }
  -- a busy batcher: what comes later goes later
  pub busy-all : seen one 0 busy ≡ record {
    accepted = 11 ∷ 12 ∷ 13 ∷ 14 ∷ 15 ∷ 21 ∷ 22 ∷ 23 ∷ [];
    releases = (11 ∷ 12 ∷ []) ∷ (13 ∷ 14 ∷ []) ∷ (15 ∷ 21 ∷ []) ∷ (22 ∷ 23 ∷ []) ∷ [];
    state = no_batch;
    clock = 0;
  }
  -- a batch that grows keeps its timer: both go at 10, ten after the first came, and not ten after the second
  pub growing-waits : seen pair 0 growing ≡ record { accepted = 11 ∷ 12 ∷ []; releases = []; state = batch (11 ∷ 12 ∷ []) six; clock = 0x4010_0000_0000_0000 }
  pub growing-goes : seen pair 0 (growing ++ stepped 1) ≡ record { accepted = 11 ∷ 12 ∷ []; releases = (11 ∷ 12 ∷ []) ∷ []; state = no_batch; clock = 0x4024_0000_0000_0000 }
  -- inside a Coupled
  pub inside : seen chain 1 (sent (11 ∷ []) ++ stepped 1) ≡ record { accepted = 11 ∷ []; releases = (11 ∷ []) ∷ []; state = no_batch; clock = 0 }
  -- 64 jobs are accepted; a step with a 65th is refused with 7, and nothing of it is in the log: "refused steps don't count"
  pub room-64 : (seen largest 0 (sent (numbers 64) ++ stepped 1)).accepted ≡ numbers 64
  pub no_room : ends largest (sent (numbers 65)) (Step [] 256) ≡ 7
  pub no-count : seen largest 0 (sent (numbers 65) ++ stepped 1) ≡ record { accepted = []; releases = []; state = no_batch; clock = 0 }
  -- 6 comes from the processor of capacity 0, and the batcher before it has accepted nothing
  pub six-of-another : ends mixed (sent (11 ∷ []) ++ InjectInput (job 2 1 12) ∷ []) (Step [] 256) ≡ 6
  pub six-undone : seen mixed 0 (sent (11 ∷ []) ++ InjectInput (job 2 1 12) ∷ stepped 1) ≡ record { accepted = []; releases = []; state = no_batch; clock = 0 }
  -- a job handed in at the other batcher: the fresh one does as ever, and the other's job goes when its time is over
  pub beside-held : seen_from (handed_in (batch (91 ∷ []) four)) 0 (sent (11 ∷ []) ++ stepped 1) ≡ record { accepted = 11 ∷ []; releases = []; state = batch (11 ∷ []) ten; clock = 0 }
  pub beside-goes : seen_from (handed_in (batch (91 ∷ []) four)) 0 besides ≡ record { accepted = 11 ∷ []; releases = (11 ∷ []) ∷ []; state = no_batch; clock = 0x4024_0000_0000_0000 }
  pub beside-releases : (seen_from (handed_in (batch (91 ∷ []) four)) 1 besides).releases ≡ (91 ∷ []) ∷ []
  -- 6 from a batcher that was handed in, in Release, where one more does not fill its batch
  pub six-handed-in : ending (called (Step [] 256) (calls (InjectInput (job 2 1 12) ∷ []) (handed_in (release []))).0).end ≡ 6

pub cases : Cases
unfolding is_time is_timer least_of add sub lt le eq fits of_bits to_bits service processor_external processor_internal batcher_external batcher_internal stopwatch_external stopwatch_internal timer external internal step_on intake passes_intake is_valid inject_input steps step_n step called seen_from ends
cases = record {
  c1 = refl;
  c3 = refl;
  c3_next = refl;
  busy-all = refl;
  growing-waits = refl;
  growing-goes = refl;
  inside = refl;
  room-64 = refl;
  no_room = refl;
  no-count = refl;
  six-of-another = refl;
  beside-held = refl;
  beside-goes = refl;
  beside-releases = refl;
  six-handed-in = refl;
  six-undone = refl;
}

-- ---- the theorems themselves on three of these runs
abbrev pub takes : Float → ℕ → ℕ → Happening
takes clock i content = came clock i 1 content Kept

abbrev pub gives : Float → ℕ → List ℕ → Happening
gives clock i contents = went clock i (map (out_at 2) contents)

-- ---- the busy run: its log, the moments at which 13 and 21 are accepted, and where they leave
abbrev pub take_in : ℕ → Happening
take_in content = takes instant 0 content

abbrev pub give_out : List ℕ → Happening
give_out contents = gives instant 0 contents

abbrev pub pause : Happening
pause = waited instant

abbrev pub first : List Happening
first = take_in 11 ∷ take_in 12 ∷ []

abbrev pub rest : List Happening
rest =
    take_in 14 ∷ take_in 15 ∷ pause ∷ give_out (11 ∷ 12 ∷ []) ∷ take_in 21 ∷ take_in 22 ∷ pause ∷ give_out (13 ∷ 14 ∷ []) ∷ take_in 23 ∷ pause
    ∷ give_out (15 ∷ 21 ∷ []) ∷ pause ∷ give_out (22 ∷ 23 ∷ []) ∷ []

pub busy-log : happened (begun one) busy ≡ first ++ take_in 13 ∷ rest
unfolding is_time is_timer least_of add sub lt le eq fits of_bits to_bits service processor_external processor_internal batcher_external batcher_internal stopwatch_external stopwatch_internal timer external internal step_on intake passes_intake is_valid inject_input steps step_n step called
busy-log = refl

abbrev pub of_two : Batcher
of_two = record { input = 1; output = 2; max_batch_size = 2; max_batch_time = ten }

-- 13 is accepted with 2 ahead, before anything is released
abbrev pub at_13 : Acceptance 0 (happened (begun one) busy)
at_13 = record { before = first; clock = instant; port = 1; job = 13; later = rest; all = busy-log }

-- 21 comes after the first release, with 13, 14 and 15 ahead
abbrev pub at_21 : Acceptance 0 (happened (begun one) busy)
at_21 = record {
  before = first ++ take_in 13 ∷ take_in 14 ∷ take_in 15 ∷ pause ∷ give_out (11 ∷ 12 ∷ []) ∷ [];
  clock = instant;
  port = 1;
  job = 21;
  later = take_in 22 ∷ pause ∷ give_out (13 ∷ 14 ∷ []) ∷ take_in 23 ∷ pause ∷ give_out (15 ∷ 21 ∷ []) ∷ pause ∷ give_out (22 ∷ 23 ∷ []) ∷ [];
  all = busy-log;
}

-- 23 comes after the second release, with 15, 21 and 22 ahead: its event is the last that comes
abbrev pub at_23 : Acceptance 0 (happened (begun one) busy)
at_23 = record {
  before = first ++ take_in 13 ∷ take_in 14 ∷ take_in 15 ∷ pause ∷ give_out (11 ∷ 12 ∷ []) ∷ take_in 21 ∷ take_in 22 ∷ pause ∷ give_out (13 ∷ 14 ∷ []) ∷ [];
  clock = instant;
  port = 1;
  job = 23;
  later = pause ∷ give_out (15 ∷ 21 ∷ []) ∷ pause ∷ give_out (22 ∷ 23 ∷ []) ∷ [];
  all = busy-log;
}

-- ---- the batch that grows: 11 is accepted at 0, 12 at 4, and both leave at 10
abbrev pub meanwhile : List Happening
meanwhile =
    takes instant 1 91 ∷ waited instant ∷ waited four ∷ gives four 1 (91 ∷ []) ∷ takes four 0 12 ∷ waited instant
    ∷ waited six ∷ gives ten 0 (11 ∷ 12 ∷ []) ∷ []

pub growing-log : happened (begun pair) (growing ++ stepped 1) ≡ takes instant 0 11 ∷ meanwhile
unfolding is_time is_timer least_of add sub lt le eq fits of_bits to_bits service processor_external processor_internal batcher_external batcher_internal stopwatch_external stopwatch_internal timer external internal step_on intake passes_intake is_valid inject_input steps step_n step called
growing-log = refl

abbrev pub of_three : Batcher
of_three = record { input = 1; output = 2; max_batch_size = 3; max_batch_time = ten }

abbrev pub at_11 : Acceptance 0 (happened (begun pair) (growing ++ stepped 1))
at_11 = record { before = []; clock = instant; port = 1; job = 11; later = meanwhile; all = growing-log }

-- the moment after the first job has come: one job is held, and the timer is the batch time
abbrev pub after_11 : Moment (happened (begun pair) (growing ++ stepped 1))
after_11 = record { before = takes instant 0 11 ∷ []; later = meanwhile; all = growing-log }

-- ---- beside a batcher that was handed in with a job: the theorem for the one that begins in its default state
abbrev pub after_it : List Happening
after_it = waited instant ∷ waited four ∷ gives four 1 (91 ∷ []) ∷ waited six ∷ gives ten 0 (11 ∷ []) ∷ []

pub beside-log : happened (handed_in (batch (91 ∷ []) four)) besides ≡ takes instant 0 11 ∷ after_it
unfolding is_time is_timer least_of add sub lt le eq fits of_bits to_bits service processor_external processor_internal batcher_external batcher_internal stopwatch_external stopwatch_internal timer external internal step_on intake passes_intake is_valid inject_input steps step_n step called
beside-log = refl

abbrev pub at_11_beside : Acceptance 0 (happened (handed_in (batch (91 ∷ []) four)) besides)
at_11_beside = record { before = []; clock = instant; port = 1; job = 11; later = after_it; all = beside-log }

pub record Applied : Type 0 where
  pub ahead-13 : ahead at_13 ≡ 2
  pub leaves-13 : Leaves ((11 ∷ 12 ∷ []) ∷ (13 ∷ 14 ∷ []) ∷ (15 ∷ 21 ∷ []) ∷ (22 ∷ 23 ∷ []) ∷ []) 2 0 13 2
  pub ahead-21 : ahead at_21 ≡ 3
  pub leaves-21 : Leaves ((13 ∷ 14 ∷ []) ∷ (15 ∷ 21 ∷ []) ∷ (22 ∷ 23 ∷ []) ∷ []) 2 1 21 3
  pub ahead-23 : ahead at_23 ≡ 3
  pub leaves-23 : Leaves ((15 ∷ 21 ∷ []) ∷ (22 ∷ 23 ∷ []) ∷ []) 2 1 23 3
  -- one job held: its timer, the batch time, is not above the batch time
  pub held-11 : state_then of_three 0 (takes instant 0 11 ∷ []) ≡ record { phase = batching.Batching; timer = ten; jobs = 11 ∷ [] }
  pub timely-11 : T (le (state_then of_three 0 (takes instant 0 11 ∷ [])).timer ten)
  -- the advances while 11 waits, 0, 4, 0 and 6, fit into one batch time of 10
  pub waits-11 : Within ten (instant ∷ four ∷ instant ∷ six ∷ [])
  -- beside a batcher that was handed in with a job, 11 leaves in its batcher's first event
  pub leaves-beside : Leaves ((11 ∷ []) ∷ []) 1 0 11 0

-- ---- what each sentence shuts out: what a wrong batcher would do in such runs, against the sentence
pub record ShutOut : Type 0 where
  -- m = 2, jobs 11 and 12: a batch in reverse
  pub reversed-in-order : ◌≡◌ {A = List ℕ} ((12 ∷ 11 ∷ []) ++ []) (11 ∷ 12 ∷ []) → ⊥
  pub reversed-leaves : Leaves ((12 ∷ 11 ∷ []) ∷ []) 1 0 11 0 → ⊥
  -- m = 2, jobs 11, 12 and 13: the newest first, so that 11 waits for 13
  pub newest-first : Leaves ((12 ∷ 13 ∷ []) ∷ (11 ∷ []) ∷ []) 1 0 11 0 → ⊥
  -- one event late; and a place counted from 1
  pub late : Leaves ([] ∷ (11 ∷ 12 ∷ []) ∷ []) 1 0 11 0 → ⊥
  pub place-from-one : Leaves ((11 ∷ 12 ∷ []) ∷ []) 1 1 11 0 → ⊥
  -- two jobs of one content: the second is not taken for the first
  pub another-of-its-content : Leaves ((12 ∷ []) ∷ (12 ∷ []) ∷ []) 2 0 12 0 → ⊥
  -- the batch that grows, with a timer that restarts when 12 comes: 11 waits 4 and then 10
  pub restarted-timer : T (le ten six) → ⊥
  pub restarted-wait : Within ten (instant ∷ four ∷ instant ∷ ten ∷ []) → ⊥
  -- a batcher that accepts nothing: it refuses every job, or takes it and keeps none
  pub accepts-nothing : (r : Refusal) → AcceptsWithRoom (λ b job s. refused r) of_two fresh_batcher → ⊥
  pub keeps-nothing : AcceptsWithRoom (λ b job s. done s) of_two fresh_batcher → ⊥

pub shut_out : ShutOut
unfolding le sub of_bits
shut_out = record {
  reversed-in-order = λ e. let z : ◌≡◌ {A = ℕ} 12 11 = cc in omega arith;
  reversed-leaves = λ h. let z : ◌≡◌ {A = ℕ} 12 11 = h.is in omega arith;
  newest-first = λ h. let z : ◌≡◌ {A = ℕ} 12 11 = h.is in omega arith;
  late = λ h. let z : 0 < 0 = h.there in omega arith;
  place-from-one = λ h. let z : ◌≡◌ {A = ℕ} 12 11 = h.is in omega arith;
  another-of-its-content = λ h. let z : ◌≡◌ {A = ℕ} 1 0 = h.itself in omega arith;
  restarted-timer = λ t. t;
  restarted-wait = λ h. h.1.1.1.0;
  accepts-nothing = λ r h. let e : ◌≡◌ {A = Outcome BatcherState} (refused r) (done (h 11 (omega arith)).0) = (h 11 (omega arith)).1 in let z : ◌≡◌ {A = ℕ} 0 1 = cc in omega arith;
  keeps-nothing = λ h. let k = h 11 (omega arith) in let d : fresh_batcher ≡ k.0 = cc in let e : ◌≡◌ {A = List ℕ} [] (11 ∷ []) = ap (λ (s : BatcherState). s.jobs) d ∙ k.2 in let z : ◌≡◌ {A = ℕ} 0 1 = cc in omega arith;
}
