-- What the log of a list of calls tells of one batcher, and what is demanded of it, as one record. Definitions only. Assumes nothing.
-- Each definition up to the demand is a function of the log, so it has one answer; the log is the one that the rules give (`rules/Step.Happening`), and no rule reads it (`rules/Ghost`).
use Rattle.std.specs.Prelude.{ℕ, zero, suc, ◌+◌, ◌-◌, ◌/◌, ◌%◌, ◌≤◌, ◌<◌, ◌≡◌, ◌⊎◌, Bool, true, false, List, [], ◌∷◌, ◌++◌, map, length, get_or, take, T, eqb, Float, if◌then◌else◌}
use Rattle.std.specs.Float.{binary64}
use Rattle.std.specs.Float.Ieee.{sub, le}
use Rattle.times.specs.Time.{instant, is_time}
use Rattle.rules.specs.declared.Refusal.TheVariants.{InvalidModelState}
use Rattle.rules.specs.declared.Processor.{Processor}
use Rattle.rules.specs.declared.BatcherPhase.TheVariants as batching
use Rattle.rules.specs.declared.Batcher.{Batcher}
use Rattle.rules.specs.declared.Message.{Message}
use Rattle.rules.specs.Sizes.{most_jobs, largest_batch}
use Rattle.rules.specs.Base.{Outcome, refused, done, those}
use Rattle.rules.specs.Table.{Table, processor, batcher, id_at, kind_at}
use Rattle.rules.specs.Simulation.{BatcherState, State, of_batcher, Simulation, fresh_batcher, state_at, as_batcher}
use Rattle.rules.specs.Models.{Fate, Started, Kept, Dropped, Marked, Asked, Passed, batcher_external, batcher_internal}
use Rattle.rules.specs.Step.{Out, Happening, came, went, waited}
use Rattle.rules.specs.Calls.{Refused, Call, called, calls}
use Rattle.rules.proofs.Runs.{CallFits}

-- ---- the history of one row, read off the log: an external event that kept a job, an internal event with the jobs that it put out, an advance of every timer
pub data Event : Type 0 where
  Accepted : (job : ℕ) → Event
  Released : (jobs : List ℕ) → Event
  Waited : (advance : Float) → Event

abbrev pub was_kept : Fate → Bool
was_kept Started = false
was_kept Kept = true
was_kept Dropped = false
was_kept Marked = false
was_kept Asked = false
was_kept Passed = false

abbrev pub contents : List Out → List ℕ
contents out = map (λ (m : Out). m.content) out

abbrev pub event_of : ℕ → Happening → List Event
event_of row (came clock i port content fate) = if eqb i row then (if was_kept fate then Accepted content ∷ [] else []) else []
event_of row (went clock i out) = if eqb i row then Released (contents out) ∷ [] else []
event_of row (waited advance) = Waited advance ∷ []

abbrev pub history : ℕ → List Happening → List Event
history row [] = []
history row (h ∷ log) = event_of row h ++ history row log

-- ---- what a history says was accepted, and what each internal event released
abbrev pub accepted_in : List Event → List ℕ
accepted_in [] = []
accepted_in (Accepted job ∷ es) = job ∷ accepted_in es
accepted_in (Released jobs ∷ es) = accepted_in es
accepted_in (Waited advance ∷ es) = accepted_in es

abbrev pub releases_in : List Event → List (List ℕ)
releases_in [] = []
releases_in (Accepted job ∷ es) = releases_in es
releases_in (Released jobs ∷ es) = jobs ∷ releases_in es
releases_in (Waited advance ∷ es) = releases_in es

abbrev pub joined : List (List ℕ) → List ℕ
joined [] = []
joined (jobs ∷ releases) = jobs ++ joined releases

-- all jobs that the row accepted, in the order of acceptance
abbrev pub accepted : ℕ → List Happening → List ℕ
accepted row log = accepted_in (history row log)

-- what each of its internal events released, in order
abbrev pub releases : ℕ → List Happening → List (List ℕ)
releases row log = releases_in (history row log)

-- all jobs ever released, in the order of release
abbrev pub released : ℕ → List Happening → List ℕ
released row log = joined (releases row log)

-- all that comes to the row, whatever becomes of it
abbrev pub came_to : ℕ → List Happening → List ℕ
came_to row [] = []
came_to row (came clock i port content fate ∷ log) = (if eqb i row then content ∷ [] else []) ++ came_to row log
came_to row (went clock i out ∷ log) = came_to row log
came_to row (waited advance ∷ log) = came_to row log

-- what the row holds
abbrev pub held_by : List State → ℕ → List ℕ
held_by states row = (as_batcher (state_at states row)).jobs

-- what a step brings to a parentless row: the contents of the active messages with its id, in list order
abbrev pub sent_to : Table → ℕ → List Message → List ℕ
sent_to t row active = map (λ (m : Message). m.content) (those (λ (m : Message). eqb m.target_id (id_at t row)) active)

-- ---- the batcher's state after an event, by the batcher rule. (A job that it refuses would leave it as it was; in a history none is refused: `Lawful`.)
abbrev pub done_or : BatcherState → Outcome BatcherState → BatcherState
done_or s (refused r) = s
done_or s (done next) = next

abbrev pub after_event : Batcher → Event → BatcherState → BatcherState
after_event b (Accepted job) s = done_or s (batcher_external b job s)
after_event b (Released jobs) s = (batcher_internal b s).0
after_event b (Waited advance) s = record { phase = s.phase; timer = sub binary64 s.timer advance; jobs = s.jobs }

abbrev pub state_after : Batcher → List Event → BatcherState → BatcherState
state_after b [] s = s
state_after b (e ∷ es) s = state_after b es (after_event b e s)

-- the batcher's state once all of `log` has happened: "from its default state"
abbrev pub state_then : Batcher → ℕ → List Happening → BatcherState
state_then b row log = state_after b (history row log) fresh_batcher

-- each event is what the batcher rule does: it accepts the job, it puts out these jobs, its timer allows the advance
abbrev pub LawfulEvent : Batcher → BatcherState → Event → Type 0
LawfulEvent b s (Accepted job) = batcher_external b job s ≡ done (after_event b (Accepted job) s)
LawfulEvent b s (Released jobs) = jobs ≡ (batcher_internal b s).1
LawfulEvent b s (Waited advance) = T (is_time advance) × T (le advance s.timer)

abbrev pub Lawful : Batcher → BatcherState → List Event → Type 0
Lawful b s [] = Unit {0}
Lawful b s (e ∷ es) = LawfulEvent b s e × Lawful b (after_event b e s) es

-- ---- moments of a run: what had happened before, and what happened later
pub record Moment (log : List Happening) : Type 0 where
  pub before : List Happening
  pub later : List Happening
  pub all : log ≡ before ++ later

-- the moment at which the row accepts a job, as the k-th, counting from 0, with k the length of `accepted row before`. (What a batcher does not refuse, it keeps.)
pub record Acceptance (row : ℕ) (log : List Happening) : Type 0 where
  pub before : List Happening
  pub clock : Float
  pub port : ℕ
  pub job : ℕ
  pub later : List Happening
  pub all : log ≡ before ++ came clock row port job Kept ∷ later

-- "with p jobs ahead": accepted before it, and not yet released
abbrev pub ahead : {row : ℕ} {log : List Happening} → Acceptance row log → ℕ
ahead {row} a = length (accepted row a.before) - length (released row a.before)

-- "internal event number (p div m) + 1 after acceptance", "at place p mod m of that release, counting from 0"
abbrev pub event_number : ℕ → ℕ → ℕ
event_number m p = p / m + 1

abbrev pub place_in_it : ℕ → ℕ → ℕ
place_in_it m p = p % m

-- "if that event comes": events are numbered from 1
abbrev pub Comes : ℕ → List (List ℕ) → Type 0
Comes number events = number ≤ length events

abbrev pub event_at : ℕ → List (List ℕ) → List ℕ
event_at number events = get_or events (number - 1) []

-- the job leaves in that event, at that place; and it is that very job, not another of the same content: as many leave before it, from its acceptance on, as were ahead of it
pub record Leaves (events : List (List ℕ)) (number place job ahead : ℕ) : Type 0 where
  pub from_one : 1 ≤ number
  pub there : place < length (event_at number events)
  pub is : get_or (event_at number events) place 0 ≡ job
  pub itself : length (joined (take (number - 1) events)) + place ≡ ahead

abbrev pub HoldsJob : BatcherState → Type 0
HoldsJob s = 1 ≤ length s.jobs

-- "from its default state", of one row; the other rows may hold anything that 20 lets pass
abbrev pub BeginsFresh : Simulation → ℕ → Type 0
BeginsFresh start row = state_at start.states row ≡ of_batcher fresh_batcher

-- a processor of capacity 0, which answers a job with 6 (C5)
abbrev pub CapacityNone : Table → Type 0
CapacityNone t = (i : ℕ) × (p : Processor) × (kind_at t i ≡ processor p) × (p.queue_capacity ≡ 0)

-- 01's other 6, "at a batcher in Release with h + 1 < m": a batcher that was handed in so. No event leads into that state.
abbrev pub HandedInShort : Simulation → Type 0
HandedInShort start =
    (i : ℕ) × (b : Batcher) × (s : BatcherState) × (kind_at start.table i ≡ batcher b) × (state_at start.states i ≡ of_batcher s) × (s.phase ≡ batching.Release)
    × (length s.jobs + 1 < b.max_batch_size)

-- who can answer a job with 6
abbrev pub SixElsewhere : Simulation → Type 0
SixElsewhere start = CapacityNone start.table ⊎ HandedInShort start

-- all that happened in the calls cs on the simulation `start`, each handed the simulation that the one before left, and the simulation that they leave. What a refused step did is undone and not in the log: "refused steps don't count".
abbrev pub happened : Simulation → List Call → List Happening
happened start cs = (calls cs start).1

abbrev pub left_by : Simulation → List Call → Simulation
left_by start cs = (calls cs start).0

-- ---- the demand on the batcher b at a row, with m = max_batch_size
pub record Demand (start : Simulation) (cs : List Call) (row : ℕ) (b : Batcher) : Type 0 where
  -- its history is the batcher rule's, event by event, and ends in the state that the calls leave
  pub lawful : Lawful b fresh_batcher (history row (happened start cs))
  pub state : state_at (left_by start cs).states row ≡ of_batcher (state_then b row (happened start cs))
  -- "a job accepted with p jobs ahead leaves in its batcher's internal event number (p div m) + 1 after acceptance, if that event comes, at place p mod m of that release, counting from 0, whatever arrives later"
  pub leaves : (a : Acceptance row (happened start cs)) → Comes (event_number b.max_batch_size (ahead a)) (releases row a.later)
      → Leaves (releases row a.later) (event_number b.max_batch_size (ahead a)) (place_in_it b.max_batch_size (ahead a)) a.job (ahead a)
  -- "while it holds a job its timer is never above its batch time"
  pub timely : (n : Moment (happened start cs)) → HoldsJob (state_then b row n.before) → T (le (state_then b row n.before).timer b.max_batch_time)
  -- "released then held is always accepted, in order"
  pub in_order : (n : Moment (happened start cs)) → released row n.before ++ (state_then b row n.before).jobs ≡ accepted row n.before
  -- "InvalidModelState never comes from it": at no moment, whatever job comes
  pub never-six : (n : Moment (happened start cs)) (job : ℕ) → batcher_external b job (state_then b row n.before) ≡ refused InvalidModelState → ⊥
  -- and the next call is refused with 6 only where the table has a processor of capacity 0, or another batcher that was handed in, in Release with h + 1 < m
  pub six-is-anothers : (c : Call) → CallFits c → (called c (left_by start cs)).end ≡ Refused InvalidModelState → SixElsewhere start

-- ---- beyond the demand: why nothing old waits for something new, and that nothing above is empty
-- the advances of the timers up to the next internal event after `passed` of them, or all if it does not come
abbrev pub advances_until : ℕ → List Event → List Float
advances_until passed [] = []
advances_until passed (Accepted job ∷ es) = advances_until passed es
advances_until zero (Released jobs ∷ es) = []
advances_until (suc passed) (Released jobs ∷ es) = advances_until passed es
advances_until passed (Waited advance ∷ es) = advance ∷ advances_until passed es

-- they fit into one `time`, counted down: each is at most what those before it leave
abbrev pub Within : Float → List Float → Type 0
Within time [] = Unit {0}
Within time (advance ∷ more) = T (le advance time) × Within (sub binary64 time advance) more

-- asked of a rule for a job that comes: with room for one more it accepts any job, behind all that it holds
abbrev pub AcceptsWithRoom : (Batcher → ℕ → BatcherState → Outcome BatcherState) → Batcher → BatcherState → Type 0
AcceptsWithRoom rule b s = (job : ℕ) → length s.jobs + 1 ≤ most_jobs → (next : BatcherState) × (rule b job s ≡ done next) × (next.jobs ≡ s.jobs ++ job ∷ [])

pub record Beyond (start : Simulation) (cs : List Call) (row : ℕ) (b : Batcher) : Type 0 where
  -- "a batcher of maximum size m, 1 to 2^62"
  pub size : (1 ≤ b.max_batch_size) × (b.max_batch_size ≤ largest_batch)
  -- at every moment it accepts while there is room
  pub accepts : (n : Moment (happened start cs)) → AcceptsWithRoom batcher_external b (state_then b row n.before)
  -- what is said of a job at its acceptance holds at every moment while it is held: behind p others, it leaves in internal event number (p div m) + 1 from then on, at place p mod m
  pub held-leaves : (n : Moment (happened start cs)) (p : ℕ) → p < length (state_then b row n.before).jobs → Comes (event_number b.max_batch_size p) (releases row n.later)
      → Leaves (releases row n.later) (event_number b.max_batch_size p) (place_in_it b.max_batch_size p) (get_or (state_then b row n.before).jobs p 0) p
  -- in Release it holds m at least: so the 6 of 01's table ("in Release with h + 1 < m") is never met
  pub release-holds : (n : Moment (happened start cs)) → (state_then b row n.before).phase ≡ batching.Release → b.max_batch_size ≤ length (state_then b row n.before).jobs
  -- a full batch does not wait: the timer is 0
  pub at_once : (n : Moment (happened start cs)) → b.max_batch_size ≤ length (state_then b row n.before).jobs → (state_then b row n.before).timer ≡ instant
  -- an arrival never puts off the jobs that are held
  pub no-later : (a : Acceptance row (happened start cs)) → HoldsJob (state_then b row a.before)
      → T (le (after_event b (Accepted a.job) (state_then b row a.before)).timer (state_then b row a.before).timer)
  -- from its acceptance to its leaving a job waits one batch time at most, however many are ahead and whatever arrives later
  pub one-batch-time : (a : Acceptance row (happened start cs)) → Within b.max_batch_time (advances_until (ahead a / b.max_batch_size) (history row a.later))

-- ---- what `post` and `put` leave: every model is in its default state, so all of this holds of every batcher; and 6 is then a processor's of capacity 0
pub record OfAll (start : Simulation) (cs : List Call) : Type 0 where
  pub demand : (row : ℕ) (b : Batcher) → kind_at start.table row ≡ batcher b → Demand start cs row b
  pub beyond : (row : ℕ) (b : Batcher) → kind_at start.table row ≡ batcher b → Beyond start cs row b
  pub six : (c : Call) → CallFits c → (called c (left_by start cs)).end ≡ Refused InvalidModelState → CapacityNone start.table
