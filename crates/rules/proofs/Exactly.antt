-- The refusal table's "Given exactly when", for every input: `Refuses o lines` says that o gives each refusal exactly when its line says so, and no refusal without a line. Assumes nothing.
use Prim.Native.Nat.{ℕ, zero, suc, ◌+◌, ◌≤◌, ◌<◌}
use Rattle.std.specs.Prelude.{◌≡◌, ◌↔◌, ◌⊎◌, Bool, true, false, not, ◌&&◌, cond, length, get_or, T, leb, ltb, Float, if◌then◌else◌, None}
use Rattle.std.proofs.Math.Path.{refl, sym}
use Rattle.std.proofs.Common.{ap, ◌∙◌, subst, inl, inr}
use mathlib.Core.List.{List, [], ◌∷◌, ◌++◌, map}
use native.Mathlib.Omega.{arith}
use Rattle.std.proofs.Math.ListN.{length-append}
use Rattle.std.proofs.lemmas.List.{length-map}
use Rattle.std.proofs.Math.Dec.{eqb}
use Rattle.std.specs.Float.Ieee.{binary64, add}
use Rattle.times.specs.Time.{instant, is_never, is_time}
use Rattle.rules.specs.declared.Refusal.{Refusal}
use Rattle.rules.specs.declared.Refusal.TheVariants.{TooLarge, BadRow, BadCoupling, ModelNotFound, InvalidMessage, InvalidModelState, NoQueueRoom, NoMessageRoom, NoServiceTime, BadTime, ClockOverflow, Idle, NoOutRoom, BadBlock, BadState}
use Rattle.rules.specs.declared.ProcessorPhase.{ProcessorPhase}
use Rattle.rules.specs.declared.ProcessorPhase.TheVariants as working
use Rattle.rules.specs.declared.BatcherPhase.{BatcherPhase}
use Rattle.rules.specs.declared.BatcherPhase.TheVariants as batching
use Rattle.rules.specs.declared.Processor.{Processor}
use Rattle.rules.specs.declared.Batcher.{Batcher}
use Rattle.rules.specs.declared.Stopwatch.{Stopwatch}
use Rattle.rules.specs.declared.Message.{Message}
use Rattle.rules.specs.Names.{number}
use Rattle.rules.specs.Sizes.{most_jobs, most_parked, most_out, most_active}
use Rattle.rules.specs.Base.{Outcome, refused, done, ◌>>=◌, each, those, some_of, is_empty, at_most}
use Rattle.rules.specs.Table.{Kind, processor, batcher, stopwatch, coupled, Table, Target, row_at, id_at, kind_at, components, inputs, outputs, internals, parentless, connected}
use Rattle.rules.specs.Intake.{Posted, Verdict, too_large, bad_row, bad_connector, bad_coupling, passed, intake, taken_in}
use Rattle.rules.specs.Simulation.{ProcessorState, BatcherState, Marks, StopwatchState, Parked, of_coupled, of_processor, of_batcher, of_stopwatch, Simulation, begun, state_at, as_processor, as_batcher, as_stopwatch, as_coupled}
use Rattle.rules.specs.Models.{Passed, keep, service, processor_external, processor_internal_in, processor_internal, joining, batcher_external, batcher_internal, is_named, marked, marked_state, started, stopped, stopwatch_external, stopwatch_internal}
use Rattle.rules.specs.Step.{World, Happening, Out, out_at, came, noted, becomes, due, external_as, external, park, hand, turn, internal_as, internal, levels, taken, along, send, root_turn, least_timer, advance, all_after, step_on, one_step}
use Rattle.rules.specs.Valid.{is_valid, model_fits, guarded_by, processor_external_call, processor_internal_call, batcher_external_call, batcher_internal_call, stopwatch_external_call, stopwatch_internal_call}
use Rattle.rules.specs.Calls.{post, put, inject_input, without_messages, at_clock_zero, reset, reset_messages, reset_global_time, get_messages, get_global_time, status_of_first, get_status, ended, Refused, fitting, step_n, step_until}
use Rattle.rules.specs.Ends.{two-not, Ends, stops, goes, ends-if, ends-bind, ends-map, ends-refused, ends-each, ends-most, all_any}
use Rattle.rules.specs.Decides.{Decides, tells, passes, either, fails, is_true, is_false, Any, here, ◌∈◌, some-decides, at-most, below, same, itself, empty-decides, member-decides, named-decides, those-element, parentless-element, Judged, intake-exactly}

infixr 5 ◌by◌
-- it refuses with these only; nothing is said of what was done
abbrev pub Only : {A : Type 0} → (Refusal → Type 0) → Outcome A → Type 0
Only B o = Ends B (λ _. Unit {0}) o

-- ---- lines of the refusal table: a refusal, and when it is given; none but these
abbrev pub Lines : Type 1
Lines = List (Refusal × Type 0)

abbrev pub given : Lines → Refusal → Type 0
given [] r = ⊥
given (line ∷ lines) r = cond (eqb (number line.0) (number r)) line.1 (given lines r)

-- `given lines r`, at a refusal r by name, computes to what its line says, and to ⊥ if it has none
abbrev pub Refuses : {A : Type 0} → Outcome A → Lines → Type 0
Refuses o lines = (r : Refusal) → (o ≡ refused r) ↔ given lines r

-- the number names the refusal
named : ℕ → Refusal
named n =
    get_or (BadState ∷ TooLarge ∷ BadRow ∷ BadCoupling ∷ ModelNotFound ∷ InvalidMessage ∷ InvalidModelState ∷ NoQueueRoom ∷ NoMessageRoom ∷ NoServiceTime ∷ BadTime ∷ ClockOverflow ∷ Idle ∷ NoOutRoom ∷ BadBlock ∷ [])
    n BadState

named-number : (r : Refusal) → named (number r) ≡ r
unfolding named
named-number TooLarge = refl
named-number BadRow = refl
named-number BadCoupling = refl
named-number ModelNotFound = refl
named-number InvalidMessage = refl
named-number InvalidModelState = refl
named-number NoQueueRoom = refl
named-number NoMessageRoom = refl
named-number NoServiceTime = refl
named-number BadTime = refl
named-number ClockOverflow = refl
named-number Idle = refl
named-number NoOutRoom = refl
named-number BadBlock = refl
named-number BadState = refl

-- what follows from each line follows from the table
abbrev Each : (Refusal → Type 0) → Lines → Type 0
Each R [] = Unit {0}
Each R (line ∷ lines) = (line.1 → R line.0) × Each R lines

abbrev ◌by◌ : {P Q : Type 0} → P → Q → P × Q
p by q = (p, q)

each_line : (R : Refusal → Type 0) (lines : Lines) → Each R lines → (r : Refusal) → given lines r → R r
each_line R [] e r h = absurd h
each_line R (line ∷ lines) e r h = go (eqb (number line.0) (number r)) (same (number line.0) (number r)) (each_line R lines e.1 r) h
  where
    go : (b : Bool) → Decides b (number line.0 ≡ number r) → (given lines r → R r) → cond b line.1 (given lines r) → R r
    go true d k h = subst R (sym (named-number line.0) ∙ ap named (tells d tt) ∙ named-number r) (e.0 h)
    go false d k h = k h

exactly-given : {A : Type 0} (lines : Lines) {o : Outcome A} → Only (given lines) o → Each (λ r. o ≡ refused r) lines → Refuses o lines
exactly-given lines {o} p e r = (ends-refused p, each_line (λ r. o ≡ refused r) lines e r)

-- the refusals of o, and of all that o starts
only : {A : Type 0} (B : Refusal → Type 0) (lines : Lines) (o : Outcome A) → Refuses o lines → Each B lines → Only B o
only B lines (refused r) h e = stops (each_line B lines e r ((h r).0 refl))
only B lines (done a) h e = goes tt

after : {A C : Type 0} (B : Refusal → Type 0) (lines : Lines) {o : Outcome A} (next : A → Outcome C) → Refuses o lines → Each B lines → ((a : A) → Only B (next a)) → Only B (o >>= next)
after B lines {o} next h e k = ends-bind next (only B lines o h e) (λ a _. k a)

-- ---- keeping a job, and reading a service time
-- 7: "a job would be kept, and 64 are"
abbrev pub keep_lines : {A : Type 0} → List A → Lines
keep_lines held = (NoQueueRoom, 64 ≤ length held) ∷ []

pub keep-exactly : {A : Type 0} (job : A) (held : List A) → Refuses (keep job held) (keep_lines held)
keep-exactly job held =
    exactly-given (keep_lines held)
    (ends-if (ltb (length held) most_jobs) (λ _. goes tt) (λ t. stops (let n = tells (fails (below (length held) 64)) t in omega arith)))
    ((λ l. rw (is_false (below (length held) 64) (omega arith))) by tt)

-- a list has room for so many: 8 and 13 are decided by this
pub room-exactly : {A : Type 0} (most : ℕ) (r : Refusal) (xs : List A) → Refuses (at_most most r xs) ((r, most < length xs) ∷ [])
room-exactly most r xs =
    exactly-given ((r, most < length xs) ∷ [])
    (ends-if (leb (length xs) most) (λ _. goes tt) (λ t. stops {r = r} (rw (is_true (same (number r) (number r)) refl) (let n = tells (fails (at-most (length xs) most)) t in omega arith))))
    ((λ l. rw (is_false (at-most (length xs) most) (omega arith))) by tt)

-- 9: "a service time is needed past the end of the list"; 10: "a service time read .. is no time"
abbrev pub service_lines : List Float → ℕ → Lines
service_lines services place = (NoServiceTime, length services ≤ place) ∷ (BadTime, (place < length services) × (T (is_time (get_or services place instant)) → ⊥)) ∷ []

pub service-exactly : (services : List Float) (place : ℕ) → Refuses (service services place) (service_lines services place)
unfolding service
service-exactly services place =
    exactly-given (service_lines services place)
    (ends-if (leb (length services) place) (λ t. stops (tells past t))
    (λ t. ends-if (is_time (get_or services place instant)) (λ _. goes tt) (λ u. stops {r = BadTime} (let n = tells (fails past) t in omega arith, tells (fails time) u))))
    ((λ l. rw (is_true past l)) by (λ h. let l = h.0 in rw (is_false past (omega arith), is_false time h.1)) by tt)
  where
    past : Decides (leb (length services) place) (length services ≤ place)
    past = at-most (length services) place

    time : Decides (is_time (get_or services place instant)) (T (is_time (get_or services place instant)))
    time = itself (is_time (get_or services place instant))

-- ---- Processor
-- "Below capacity, empty queue": a service time is needed
abbrev pub Starts : Processor → ℕ → ProcessorState → Type 0
Starts p port s = (port ≡ p.input) × (length s.queue ≡ 0) × (p.queue_capacity ≡ 0 → ⊥)

-- 5: "processor or stopwatch, unknown port"; 6: "a job at an empty processor of capacity 0"; 7: "a job would be kept, and 64 are"; 9 and 10 where a service time is needed
abbrev pub processor_lines : Processor → List Float → ℕ → ProcessorState → ℕ → Lines
processor_lines p services port s place =
    (InvalidMessage, port ≡ p.input → ⊥)
    ∷ (InvalidModelState, (port ≡ p.input) × (length s.queue ≡ 0) × (p.queue_capacity ≡ 0))
    ∷ (NoQueueRoom, (port ≡ p.input) × (1 ≤ length s.queue) × (length s.queue ≡ p.queue_capacity → ⊥) × (64 ≤ length s.queue))
    ∷ (NoServiceTime, Starts p port s × (length services ≤ place))
    ∷ (BadTime, Starts p port s × (place < length services) × (T (is_time (get_or services place instant)) → ⊥)) ∷ []

module _ (p : Processor) (services : List Float) (port job : ℕ) (s : ProcessorState) (place : ℕ) where
  at-port : Decides (eqb port p.input) (port ≡ p.input)
  at-port = same port p.input

  full : Decides (eqb (length s.queue) p.queue_capacity) (length s.queue ≡ p.queue_capacity)
  full = same (length s.queue) p.queue_capacity

  none-held : Decides (is_empty s.queue) (length s.queue ≡ 0)
  none-held = empty-decides s.queue

  processor-external-ends : Only (given (processor_lines p services port s place)) (processor_external p services port job s place)
  unfolding processor_external
  processor-external-ends =
      ends-if (not (eqb port p.input)) (λ t. stops (tells (fails at-port) t))
      (λ t. let e = tells at-port (two-not (eqb port p.input) t) in
      ends-if (eqb (length s.queue) p.queue_capacity)
      (λ u. let f = tells full u in ends-if (is_empty s.queue) (λ v. let z = tells none-held v in stops {r = InvalidModelState} (e, z, omega arith)) (λ _. goes tt))
      (λ u. let n = tells (fails full) u in
      ends-if (is_empty s.queue)
      (λ v. let z = tells none-held v in
      let starts : Starts p port s = (e, z, λ c. n (z ∙ sym c)) in
      after (given (processor_lines p services port s place)) (service_lines services place) _ (service-exactly services place) ((λ h. (starts, h)) by (λ h. (starts, h.0, h.1)) by tt) (λ _. goes tt))
      (λ v. let m = tells (fails none-held) v in
      after (given (processor_lines p services port s place)) (keep_lines s.queue) _ (keep-exactly job s.queue) ((λ h. (e, omega arith, n, h)) by tt) (λ _. goes tt))))

  pub processor-external-exactly : Refuses (processor_external p services port job s place) (processor_lines p services port s place)
  unfolding processor_external
  processor-external-exactly =
      exactly-given (processor_lines p services port s place) processor-external-ends
      ((λ n. rw (is_false at-port n))
      by (λ h. rw (is_true at-port h.0, is_true full (h.1 ∙ sym h.2), is_true none-held h.1))
      by (λ h. let l = h.1 in rw (is_true at-port h.0, is_false full h.2, is_false none-held (omega arith), (keep-exactly job s.queue NoQueueRoom).1 h.3))
      by (λ h. serve h.0 ((service-exactly services place NoServiceTime).1 h.1))
      by (λ h. serve h.0 ((service-exactly services place BadTime).1 (h.1, h.2)))
      by tt)
    where
      serve : Starts p port s → {r : Refusal} → service services place ≡ refused r → processor_external p services port job s place ≡ refused r
      serve h e = rw (is_true at-port h.0, is_false full (λ c. h.2 (sym c ∙ h.1)), is_true none-held h.1, e)

-- "Passive with jobs turns Active with the next service time."
abbrev pub Resumes : ProcessorState → Type 0
Resumes s = (s.phase ≡ working.Passive) × (1 ≤ length s.queue)

abbrev pub resume_lines : List Float → ProcessorState → ℕ → Lines
resume_lines services s place =
    (NoServiceTime, Resumes s × (length services ≤ place)) ∷ (BadTime, Resumes s × (place < length services) × (T (is_time (get_or services place instant)) → ⊥)) ∷ []

pub processor-internal-exactly : (services : List Float) (s : ProcessorState) (place : ℕ) → Refuses (processor_internal services s place) (resume_lines services s place)
unfolding processor_internal
processor-internal-exactly services s place =
    exactly-given (resume_lines services s place) (ends s.phase refl)
    ((λ h. resume h.0 ((service-exactly services place NoServiceTime).1 h.1)) by (λ h. resume h.0 ((service-exactly services place BadTime).1 (h.1, h.2))) by tt)
  where
    none-held : Decides (is_empty s.queue) (length s.queue ≡ 0)
    none-held = empty-decides s.queue

    ends : (phase : ProcessorPhase) → s.phase ≡ phase → Only (given (resume_lines services s place)) (processor_internal_in phase services s place)
    ends working.Active e = goes tt
    ends working.Passive e =
        ends-if (is_empty s.queue) (λ _. goes tt)
        (λ v. let m = tells (fails none-held) v in
        let resumes : Resumes s = (e, omega arith) in
        after (given (resume_lines services s place)) (service_lines services place) _ (service-exactly services place) ((λ h. (resumes, h)) by (λ h. (resumes, h.0, h.1)) by tt) (λ _. goes tt))

    resume : Resumes s → {r : Refusal} → service services place ≡ refused r → processor_internal_in s.phase services s place ≡ refused r
    resume h e = let l = h.1 in rw (h.0, is_false none-held (omega arith), e)

-- ---- Batcher
-- 6: "at a batcher in Release with h + 1 < m"
abbrev pub Released : Batcher → BatcherState → Type 0
Released b s = (length s.jobs + 1 < b.max_batch_size) × (s.phase ≡ batching.Release)

-- 7: "a job would be kept, and 64 are"
abbrev pub batcher_lines : Batcher → BatcherState → Lines
batcher_lines b s = (InvalidModelState, Released b s) ∷ (NoQueueRoom, (Released b s → ⊥) × (64 ≤ length s.jobs)) ∷ []

pub batcher-external-exactly : (b : Batcher) (job : ℕ) (s : BatcherState) → Refuses (batcher_external b job s) (batcher_lines b s)
unfolding batcher_external
batcher-external-exactly b job s =
    exactly-given (batcher_lines b s)
    (ends-bind _ (ends-if (ltb (length s.jobs + 1) b.max_batch_size) (λ t. joins (tells less t) s.phase refl) (λ t. goes (λ h. tells (fails less) t h.0)))
    (λ a n. after (given (batcher_lines b s)) (keep_lines s.jobs) _ (keep-exactly job s.jobs) ((λ h. (n, h)) by tt) (λ _. goes tt)))
    ((λ h. rw (is_true less h.0, h.1))
    by (λ h. rw ((joined (ltb (length s.jobs + 1) b.max_batch_size) less s.phase refl h.0).1, (keep-exactly job s.jobs NoQueueRoom).1 h.1))
    by tt)
  where
    less : Decides (ltb (length s.jobs + 1) b.max_batch_size) (length s.jobs + 1 < b.max_batch_size)
    less = below (length s.jobs + 1) b.max_batch_size

    joins : length s.jobs + 1 < b.max_batch_size → (phase : BatcherPhase) → s.phase ≡ phase → Ends (given (batcher_lines b s)) (λ _. Released b s → ⊥) (joining phase b s)
    joins l batching.Passive e = goes (λ h. let z : ◌≡◌ {A = ℕ} 0 1 = cc in omega arith)
    joins l batching.Batching e = goes (λ h. let z : ◌≡◌ {A = ℕ} 0 1 = cc in omega arith)
    joins l batching.Release e = stops {r = InvalidModelState} (l, e)

    joined : (c : Bool) → Decides c (length s.jobs + 1 < b.max_batch_size) → (phase : BatcherPhase) → s.phase ≡ phase → (Released b s → ⊥)
        → (a : BatcherPhase × Float) × ((if c then joining phase b s else done (batching.Release, instant)) ≡ done a)
    joined false d phase e n = ((batching.Release, instant), refl)
    joined true d batching.Passive e n = ((batching.Batching, b.max_batch_time), refl)
    joined true d batching.Batching e n = ((batching.Batching, s.timer), refl)
    joined true d batching.Release e n = absurd (n (tells d tt, e))

-- ---- Stopwatch
-- "making it if new (7 if 64 names)"
abbrev pub Full : ℕ → List Marks → Type 0
Full name jobs = (Any (λ (j : Marks). j.name ≡ name) jobs → ⊥) × (64 ≤ length jobs)

abbrev pub marked_lines : ℕ → List Marks → Lines
marked_lines name jobs = (NoQueueRoom, Full name jobs) ∷ []

marked-exactly : (mark : Marks → Marks) (name : ℕ) (jobs : List Marks) → Refuses (marked mark name jobs) (marked_lines name jobs)
marked-exactly mark name jobs =
    exactly-given (marked_lines name jobs)
    (ends-if (some_of (is_named name) jobs) (λ _. goes tt)
    (λ t. only (given (marked_lines name jobs)) (keep_lines jobs) (keep new jobs) (keep-exactly new jobs) ((λ h. (tells (fails known) t, h)) by tt)))
    ((λ h. rw (is_false known h.0, (keep-exactly new jobs NoQueueRoom).1 h.1)) by tt)
  where
    new : Marks
    new = mark (record { name = name; start = None; stop = None })

    known : Decides (some_of (is_named name) jobs) (Any (λ (j : Marks). j.name ≡ name) jobs)
    known = some-decides (named-decides name) jobs

-- 5: "processor or stopwatch, unknown port"; 7: "a job would be kept, and 64 are"
abbrev pub stopwatch_lines : Stopwatch → ℕ → ℕ → StopwatchState → Lines
stopwatch_lines w port job s =
    (InvalidMessage, (port ≡ w.start → ⊥) × (port ≡ w.stop → ⊥) × (port ≡ w.ask → ⊥))
    ∷ (NoQueueRoom, ((port ≡ w.start) ⊎ (port ≡ w.stop)) × Full job s.jobs) ∷ []

pub stopwatch-external-exactly : (w : Stopwatch) (clock : Float) (port job : ℕ) (s : StopwatchState) → Refuses (stopwatch_external w clock port job s) (stopwatch_lines w port job s)
unfolding stopwatch_external
stopwatch-external-exactly w clock port job s =
    exactly-given (stopwatch_lines w port job s)
    (ends-if (eqb port w.start) (λ t. mark (started clock) (inl (tells (same port w.start) t)))
    (λ t. ends-if (eqb port w.stop) (λ u. mark (stopped clock) (inr (tells (same port w.stop) u)))
    (λ u. ends-if (eqb port w.ask) (λ _. goes tt)
    (λ v. stops {r = InvalidMessage} (tells (fails (same port w.start)) t, tells (fails (same port w.stop)) u, tells (fails (same port w.ask)) v)))))
    ((λ h. rw (is_false (same port w.start) h.0, is_false (same port w.stop) h.1, is_false (same port w.ask) h.2))
    by (λ h. full h.0 h.1)
    by tt)
  where
    mark : (f : Marks → Marks) → (port ≡ w.start) ⊎ (port ≡ w.stop) → Only (given (stopwatch_lines w port job s)) (marked_state s (marked f job s.jobs))
    mark f e = after (given (stopwatch_lines w port job s)) (marked_lines job s.jobs) _ (marked-exactly f job s.jobs) ((λ h. (e, h)) by tt) (λ _. goes tt)

    full : (port ≡ w.start) ⊎ (port ≡ w.stop) → Full job s.jobs → stopwatch_external w clock port job s ≡ refused NoQueueRoom
    full e h = elim (either (same port w.start)) [
      | inl f ↦ rw (is_true (same port w.start) f, (marked-exactly (started clock) job s.jobs NoQueueRoom).1 h)
      | inr n ↦ rw (is_false (same port w.start) n, is_true (same port w.stop) (elim e [ inl f ↦ absurd (n f) | inr f ↦ f ]), (marked-exactly (stopped clock) job s.jobs NoQueueRoom).1 h)
    ]

-- ---- every event, of any row at any depth: 5, 6, 7, 8, 9 or 10, and 20 below the last level
abbrev pub event_lines : Lines
event_lines =
    (InvalidMessage, Unit {0}) ∷ (InvalidModelState, Unit {0}) ∷ (NoQueueRoom, Unit {0}) ∷ (NoMessageRoom, Unit {0}) ∷ (NoServiceTime, Unit {0}) ∷ (BadTime, Unit {0}) ∷ (BadState, Unit {0}) ∷ []

abbrev pub EventRefusal : Refusal → Type 0
EventRefusal = given event_lines

sweep : {A S : Type 0} {B : Refusal → Type 0} (visit : A → S → Outcome S) (xs : List A) (s : S) → ((x : A) (s : S) → Only B (visit x s)) → Only B (each visit xs s)
sweep visit xs s f = ends-each {K = λ _. Unit {0}} {P = λ _. Unit {0}} visit s (all_any xs (λ _. tt)) (λ x s _ _. f x s) tt

sweep-each : {A C S : Type 0} {B : Refusal → Type 0} (visit : A → C → S → Outcome S) (ys : A → List C) (xs : List A) (s : S)
    → ((x : A) (y : C) (s : S) → Only B (visit x y s)) → Only B (each (λ x. each (visit x) (ys x)) xs s)
sweep-each visit ys xs s f = sweep (λ x. each (visit x) (ys x)) xs s (λ x s. sweep (visit x) (ys x) s (f x))

any : {P : Type 0} → P → Unit {0}
any _ = tt

module _ (t : Table) (services : List Float) where
  pub external-only : (depth : ℕ) (clock : Float) (i port content : ℕ) (w : World) → Only EventRefusal (external t services depth clock i port content w)
  unfolding external
  external-only zero clock i port content w = stops {r = BadState} tt
  external-only (suc depth) clock i port content w = go (kind_at t i) (external-only depth clock)
    where
      go : (k : Kind) → ((j port content : ℕ) (w : World) → Only EventRefusal (external t services depth clock j port content w))
          → Only EventRefusal (external_as t services k (external t services depth clock) clock i port content w)
      go (processor p) deeper =
          let s = as_processor (state_at w.states i) in
          after EventRefusal (processor_lines p services port s w.place) _ (processor-external-exactly p services port content s w.place) (any by any by any by any by any by tt) (λ _. goes tt)
      go (batcher b) deeper =
          let s = as_batcher (state_at w.states i) in
          after EventRefusal (batcher_lines b s) _ (batcher-external-exactly b content s) (any by any by tt) (λ _. goes tt)
      go (stopwatch p) deeper =
          let s = as_stopwatch (state_at w.states i) in
          after EventRefusal (stopwatch_lines p port content s) _ (stopwatch-external-exactly p clock port content s) (any by any by tt) (λ _. goes tt)
      go coupled deeper =
          sweep-each (λ (to : Target) j. external t services depth clock j to.port content) (λ to. those (λ j. eqb (id_at t j) to.target) (components t (id_at t i)))
          (inputs t (id_at t i) port) (noted (came clock i port content Passed) w) (λ to j w. deeper j to.port content w)

  -- 8: "a message would be the 257th .. put out, or the 65th parked"
  hand-only : (i j : ℕ) (m : Out) (z : World × List Out) → Only EventRefusal (hand t services i j m z)
  hand-only i j m (w, out) =
      ends-bind _
      (ends-bind {R = λ _. Unit {0}} _
      (ends-most most_parked NoMessageRoom (as_coupled (state_at w.states i) ++ map (λ (to : Target). record { component = to.target; port = to.port; content = m.content }) (internals t (id_at t i) (id_at t j) m.port)) tt)
      (λ parked _. goes {a = becomes i (of_coupled parked) w} tt))
      (λ w _. ends-bind _ (ends-most most_out NoMessageRoom (out ++ map (λ port. out_at port m.content) (outputs t (id_at t i) (id_at t j) m.port)) tt) (λ out _. goes tt))

  pub internal-only : (depth : ℕ) (clock : Float) (i : ℕ) (w : World) → Only EventRefusal (internal t services depth clock i w)
  unfolding internal
  internal-only zero clock i w = stops {r = BadState} tt
  internal-only (suc depth) clock i w = go (kind_at t i) (internal-only depth clock)
    where
      go : (k : Kind) → ((j : ℕ) (w : World) → Only EventRefusal (internal t services depth clock j w))
          → Only EventRefusal (internal_as t services k depth (external t services depth clock) (internal t services depth clock) clock i w)
      go (processor p) deeper =
          let s = as_processor (state_at w.states i) in
          after EventRefusal (resume_lines services s w.place) _ (processor-internal-exactly services s w.place) (any by any by tt) (λ _. goes tt)
      go (batcher b) deeper = goes tt
      go (stopwatch p) deeper = goes tt
      go coupled deeper =
          ends-bind _
          (sweep-each (λ j (m : Parked). external t services depth clock j m.port m.content) (λ j. those (λ (m : Parked). eqb m.component (id_at t j)) (as_coupled (state_at w.states i)))
          (components t (id_at t i)) w (λ j m w. external-only depth clock j m.port m.content w))
          (λ w₁ _. ends-bind _ (sweep (turn t services depth (internal t services depth clock) i) (components t (id_at t i)) (becomes i (of_coupled []) w₁, []) turns) (λ _ _. goes tt))
        where
          turns : (j : ℕ) (z : World × List Out) → Only EventRefusal (turn t services depth (internal t services depth clock) i j z)
          turns j (w, out) = ends-if (due t depth w.states j) (λ _. ends-bind _ (deeper j w) (λ r _. sweep (hand t services i j) r.1 (r.0, out) (hand-only i j))) (λ _. goes tt)

  -- with no active message, nothing is taken
  pub taken_none : (clock : Float) (w : World) → taken t services clock [] w ≡ done w
  taken_none clock w = go (parentless t)
    where
      go : (is : List ℕ) → each (λ i. each (λ (m : Message). external t services levels clock i m.target_port m.content) []) is w ≡ done w
      go [] = refl
      go (i ∷ is) = go is

  taken-only : (clock : Float) (active : List Message) (w : World) → Only EventRefusal (taken t services clock active w)
  taken-only clock active w =
      sweep-each (λ i (m : Message). external t services levels clock i m.target_port m.content) (λ i. those (λ (m : Message). eqb m.target_id (id_at t i)) active)
      (parentless t) w (λ i m w. external-only levels clock i m.target_port m.content w)

  root-only : (clock : Float) (i : ℕ) (z : World × List Message) → Only EventRefusal (root_turn t services clock i z)
  root-only clock i (w, sent) =
      ends-if (due t levels w.states i)
      (λ _. ends-bind _ (internal-only levels clock i w)
      (λ r _. ends-bind _ (sweep (send t clock i) r.1 sent (λ m sent. ends-map (ends-most most_active NoMessageRoom (sent ++ map (along t clock i m) (connected t (id_at t i) m.port)) tt) (λ _ h. h) (λ _ _. tt))) (λ _ _. goes tt)))
      (λ _. goes tt)

-- ---- the step
-- what a step begins with
abbrev pub opening : Simulation → World
opening sim = record { states = sim.states; place = sim.place; log = [] }

-- 12: "a step with no active message and every timer infinite" (Idle.antt says it of the kept timers and the parked lists); 11: "the new clock is no time"
abbrev pub step_lines : List Float → Simulation → Lines
step_lines services sim =
    (Idle, (sim.active ≡ []) × T (is_never (least_timer sim.table sim.states)))
    ∷ (
      ClockOverflow,
      (w : World) × (a : Float) × (taken sim.table services sim.clock sim.active (opening sim) ≡ done w)
          × (advance sim.table sim.active w.states ≡ done a) × (T (is_time (add binary64 sim.clock a)) → ⊥),
    )
    ∷ event_lines

known : {A : Type 0} {B : Refusal → Type 0} {o : Outcome A} → Only B o → Ends B (λ a. o ≡ done a) o
known (stops b) = stops b
known (goes _) = goes refl

module _ (services : List Float) (sim : Simulation) where
  pub step-only : Only (given (step_lines services sim)) (one_step services sim)
  unfolding step_on
  step-only =
      ends-bind _ (known (events (taken-only sim.table services sim.clock sim.active (opening sim))))
      (λ w e. ends-bind _ (known (advances w sim.active refl e))
      (λ a f. ends-bind _ (ends-if {Q = λ _. Unit {0}} (is_time (add binary64 sim.clock a)) (λ _. goes tt)
      (λ t. stops {r = ClockOverflow} (w, a, e, f, tells (fails (itself (is_time (add binary64 sim.clock a)))) t)))
      (λ clock _. ends-bind _ (events (sweep (root_turn sim.table services clock) (parentless sim.table) (all_after a w, []) (root-only sim.table services clock))) (λ _ _. goes tt))))
    where
      events : {A : Type 0} {o : Outcome A} → Only EventRefusal o → Only (given (step_lines services sim)) o
      events p = ends-map p (each_line (given (step_lines services sim)) event_lines (any by any by any by any by any by any by any by tt)) (λ _ _. tt)

      advances : (w : World) (active : List Message) → sim.active ≡ active → taken sim.table services sim.clock active (opening sim) ≡ done w
          → Only (given (step_lines services sim)) (advance sim.table active w.states)
      advances w (m ∷ ms) q e = goes tt
      advances w [] q e =
          ends-if (is_never (least_timer sim.table w.states))
          (λ t. let z : w ≡ opening sim = cc (taken_none sim.table services sim.clock (opening sim)) in stops {r = Idle} (q, subst (λ (v : World). T (is_never (least_timer sim.table v.states))) z t))
          (λ _. goes tt)

  pub step-idle : (one_step services sim ≡ refused Idle) ↔ ((sim.active ≡ []) × T (is_never (least_timer sim.table sim.states)))
  unfolding step_on
  step-idle = (ends-refused step-only, λ h. rw (h.0, taken_none sim.table services sim.clock (opening sim), is_true (itself (is_never (least_timer sim.table sim.states))) h.1))

  pub step-overflow : (one_step services sim ≡ refused ClockOverflow)
      ↔ ((w : World) × (a : Float) × (taken sim.table services sim.clock sim.active (opening sim) ≡ done w)
      × (advance sim.table sim.active w.states ≡ done a) × (T (is_time (add binary64 sim.clock a)) → ⊥))
  unfolding step_on
  step-overflow = (ends-refused step-only, λ (w, a, e, f, n). rw (e, f, is_false (itself (is_time (add binary64 sim.clock a))) n))

-- ---- 8 and 13, where they are decided
-- what comes after is done, so the refusals are those of o
then-done : {A C : Type 0} (lines : Lines) (o : Outcome A) (f : A → C) → Refuses o lines → Refuses (o >>= λ a. done (f a)) lines
then-done lines (refused x) f h r = (λ e. (h r).0 (let z : x ≡ r = cc in ap refused z), λ g. let z : refused x ≡ refused r = (h r).1 g in let y : x ≡ r = cc in ap refused y)
then-done lines (done a) f h r = (λ e. absurd (let z : ◌≡◌ {A = ℕ} 0 1 = cc in omega arith), λ g. absurd (let e = (h r).1 g in let z : ◌≡◌ {A = ℕ} 0 1 = cc in omega arith))

-- so many stand there, and so many more come
more-exactly : {A C : Type 0} (most : ℕ) (r : Refusal) (xs : List A) (f : C → A) (ys : List C) → Refuses (at_most most r (xs ++ map f ys)) ((r, most < length xs + length ys) ∷ [])
more-exactly most r xs f ys =
    subst (λ (n : ℕ). Refuses (at_most most r (xs ++ map f ys)) ((r, most < n) ∷ [])) (length-append xs (map f ys) ∙ ap (λ (n : ℕ). length xs + n) (length-map ys f)) (room-exactly most r (xs ++ map f ys))

module _ (t : Table) (services : List Float) (i : ℕ) where
  -- "the 257th active": one message out along all its connectors
  pub send-exactly : (clock : Float) (m : Out) (sent : List Message) → Refuses (send t clock i m sent) ((NoMessageRoom, 256 < length sent + length (connected t (id_at t i) m.port)) ∷ [])
  send-exactly clock m sent = more-exactly 256 NoMessageRoom sent (along t clock i m) (connected t (id_at t i) m.port)

  module _ (j : ℕ) (m : Out) where
    abbrev pub park_lines : World → Lines
    park_lines w = (NoMessageRoom, 64 < length (as_coupled (state_at w.states i)) + length (internals t (id_at t i) (id_at t j) m.port)) ∷ []

    -- "the 65th parked": one message out along all its internal couplings
    pub park-exactly : (w : World) → Refuses (park t services i j m w) (park_lines w)
    park-exactly w =
        then-done (park_lines w) _ (λ parked. becomes i (of_coupled parked) w)
        (more-exactly 64 NoMessageRoom (as_coupled (state_at w.states i)) (λ (to : Target). record { component = to.target; port = to.port; content = m.content }) (internals t (id_at t i) (id_at t j) m.port))

    abbrev pub out_lines : List Out → Lines
    out_lines out = (NoMessageRoom, 256 < length out + length (outputs t (id_at t i) (id_at t j) m.port)) ∷ []

    -- "or put out": the 257th out of this internal event, or the 65th parked
    pub hand-exactly : (w : World) (out : List Out) → Refuses (hand t services i j m (w, out)) ((NoMessageRoom, given (park_lines w) NoMessageRoom ⊎ given (out_lines out) NoMessageRoom) ∷ [])
    hand-exactly w out =
        exactly-given lines (after (given lines) (park_lines w) next (park-exactly w) (inl by tt) (λ w'. only (given lines) (out_lines out) (next w') (outs w') (inr by tt)))
        ((λ h. elim h [ inl p ↦ rw ((park-exactly w NoMessageRoom).1 p) | inr q ↦ full (park t services i j m w) (park-exactly w) q ]) by tt)
      where
        lines : Lines
        lines = (NoMessageRoom, given (park_lines w) NoMessageRoom ⊎ given (out_lines out) NoMessageRoom) ∷ []

        next : World → Outcome (World × List Out)
        next w' = at_most most_out NoMessageRoom (out ++ map (λ port. out_at port m.content) (outputs t (id_at t i) (id_at t j) m.port)) >>= λ out'. done (w', out')

        outs : (w' : World) → Refuses (next w') (out_lines out)
        outs w' = then-done (out_lines out) _ (λ out'. (w', out')) (more-exactly 256 NoMessageRoom out (λ port. out_at port m.content) (outputs t (id_at t i) (id_at t j) m.port))

        full : (o : Outcome World) → Refuses o (park_lines w) → given (out_lines out) NoMessageRoom → (o >>= next) ≡ refused NoMessageRoom
        full (refused r) h q = each_line (λ r. ◌≡◌ {A = Outcome (World × List Out)} (refused r) (refused NoMessageRoom)) (park_lines w) ((λ _. refl) by tt) r ((h r).0 refl)
        full (done w') h q = (outs w' NoMessageRoom).1 q

-- 13: "a step's rows must be collected, .. and they don't fit"
pub fitting-exactly : (room : ℕ) (next : Simulation) (log : List Happening) → Refuses (fitting room (next, log)) ((NoOutRoom, room < length next.active) ∷ [])
fitting-exactly room next log =
    exactly-given ((NoOutRoom, room < length next.active) ∷ [])
    (ends-if (leb (length next.active) room) (λ _. goes tt) (λ u. stops (let n = tells (fails (at-most (length next.active) room)) u in omega arith)))
    ((λ l. rw (is_false (at-most (length next.active) room) (omega arith))) by tt)

-- ---- the calls
-- "20 comes first, in every call.": given when the test fails; the other lines, where it passes
abbrev pub passing : Bool → Lines → Lines
passing b [] = []
passing b (line ∷ lines) = (line.0, T b × line.1) ∷ passing b lines

abbrev pub guard_lines : Bool → Lines → Lines
guard_lines b lines = (BadState, T b → ⊥) ∷ passing b lines

given-passing : (b : Bool) (lines : Lines) (r : Refusal) → given (passing b lines) r ↔ (T b × given lines r)
given-passing b [] r = (λ h. absurd h, λ h. h.1)
given-passing b (line ∷ lines) r = go (eqb (number line.0) (number r)) (given-passing b lines r)
  where
    go : (c : Bool) → given (passing b lines) r ↔ (T b × given lines r) → cond c (T b × line.1) (given (passing b lines) r) ↔ (T b × cond c line.1 (given lines r))
    go true h = (λ x. x, λ x. x)
    go false h = h

guarded-exactly : {A : Type 0} (b : Bool) (lines : Lines) {o : Outcome A} → Refuses o lines → (given lines BadState → ⊥) → Refuses (guarded_by b o) (guard_lines b lines)
guarded-exactly b lines {o} h n r = go b (eqb 20 (number r)) (same 20 (number r)) (given-passing b lines r)
  where
    bad : 20 ≡ number r → r ≡ BadState
    bad e = sym (named-number r) ∙ ap named (sym e) ∙ named-number BadState

    go : (b c : Bool) → Decides c (20 ≡ number r) → given (passing b lines) r ↔ (T b × given lines r) → (guarded_by b o ≡ refused r) ↔ cond c (T b → ⊥) (given (passing b lines) r)
    go true true d g = (λ e. absurd (n (subst (given lines) (bad (tells d tt)) ((h r).0 e))), λ f. absurd (f tt))
    go true false d g = (λ e. g.1 (tt, (h r).0 e), λ x. (h r).1 (g.0 x).1)
    go false true d g = (λ _ t. t, λ _. ap refused (sym (bad (tells d tt))))
    go false false d g = (λ e. absurd (passes d (let z : BadState ≡ r = cc in ap number z)), λ x. absurd (g.0 x).0)

done-exactly : {A : Type 0} (a : A) → Refuses (done a) []
done-exactly a = exactly-given [] (goes tt) tt

-- ---- an event on its own, with its row and state handed in
pub processor-external-call : (p : Processor) (services : List Float) (port job : ℕ) (s : ProcessorState) (place : ℕ)
    → Refuses (processor_external_call p services port job s place) (guard_lines (model_fits (processor p) (of_processor s)) (processor_lines p services port s place))
unfolding processor_external_call
processor-external-call p services port job s place =
    guarded-exactly (model_fits (processor p) (of_processor s)) (processor_lines p services port s place) (processor-external-exactly p services port job s place) (λ h. h)

pub processor-internal-call : (p : Processor) (services : List Float) (s : ProcessorState) (place : ℕ)
    → Refuses (processor_internal_call p services s place) (guard_lines (model_fits (processor p) (of_processor s)) (resume_lines services s place))
unfolding processor_internal_call
processor-internal-call p services s place =
    guarded-exactly (model_fits (processor p) (of_processor s)) (resume_lines services s place) (processor-internal-exactly services s place) (λ h. h)

pub batcher-external-call : (b : Batcher) (job : ℕ) (s : BatcherState) → Refuses (batcher_external_call b job s) (guard_lines (model_fits (batcher b) (of_batcher s)) (batcher_lines b s))
unfolding batcher_external_call
batcher-external-call b job s = guarded-exactly (model_fits (batcher b) (of_batcher s)) (batcher_lines b s) (batcher-external-exactly b job s) (λ h. h)

pub batcher-internal-call : (b : Batcher) (s : BatcherState) → Refuses (batcher_internal_call b s) (guard_lines (model_fits (batcher b) (of_batcher s)) [])
unfolding batcher_internal_call
batcher-internal-call b s = guarded-exactly (model_fits (batcher b) (of_batcher s)) [] (done-exactly (batcher_internal b s)) (λ h. h)

-- "clock (also one given to an event)"
pub stopwatch-external-call : (w : Stopwatch) (clock : Float) (port job : ℕ) (s : StopwatchState)
    → Refuses (stopwatch_external_call w clock port job s) (guard_lines (model_fits (stopwatch w) (of_stopwatch s) && is_time clock) (stopwatch_lines w port job s))
unfolding stopwatch_external_call
stopwatch-external-call w clock port job s =
    guarded-exactly (model_fits (stopwatch w) (of_stopwatch s) && is_time clock) (stopwatch_lines w port job s) (stopwatch-external-exactly w clock port job s) (λ h. h)

pub stopwatch-internal-call : (w : Stopwatch) (s : StopwatchState) → Refuses (stopwatch_internal_call w s) (guard_lines (model_fits (stopwatch w) (of_stopwatch s)) [])
unfolding stopwatch_internal_call
stopwatch-internal-call w s = guarded-exactly (model_fits (stopwatch w) (of_stopwatch s)) [] (done-exactly (stopwatch_internal w s)) (λ h. h)

-- ---- post and put
-- 1: "a table has too many rows"; 2: "a model row breaks a rule above"; 3: a connector or coupling breaks one, and no row does
abbrev pub post_lines : Posted → Lines
post_lines p =
    (TooLarge, Judged p too_large) ∷ (BadRow, (k : ℕ) × Judged p (bad_row k)) ∷ (BadCoupling, (k : ℕ) × (Judged p (bad_connector k) ⊎ Judged p (bad_coupling k))) ∷ []

taken-in-exactly : (p : Posted) (next : Table → Simulation) → Refuses (taken_in (intake p) >>= λ t. done (next t)) (post_lines p)
taken-in-exactly p next =
    exactly-given (post_lines p) (ends (intake p) refl)
    ((λ n. rw ((intake-exactly p too_large).1 n)) by (λ (k, h). rw ((intake-exactly p (bad_row k)).1 h))
    by (λ (k, h). elim h [ inl f ↦ rw ((intake-exactly p (bad_connector k)).1 f) | inr f ↦ rw ((intake-exactly p (bad_coupling k)).1 f) ]) by tt)
  where
    ends : (v : Verdict) → intake p ≡ v → Only (given (post_lines p)) (taken_in v >>= λ t. done (next t))
    ends too_large e = stops {r = TooLarge} ((intake-exactly p too_large).0 e)
    ends (bad_row k) e = stops {r = BadRow} (k, (intake-exactly p (bad_row k)).0 e)
    ends (bad_connector k) e = stops {r = BadCoupling} (k, inl ((intake-exactly p (bad_connector k)).0 e))
    ends (bad_coupling k) e = stops {r = BadCoupling} (k, inr ((intake-exactly p (bad_coupling k)).0 e))
    ends (passed t) e = goes tt

pub post-exactly : (p : Posted) → Refuses (post p) (post_lines p)
unfolding post
post-exactly p = taken-in-exactly p begun

module _ (sim : Simulation) where
  pub put-exactly : (p : Posted) → Refuses (put p sim) (guard_lines (is_valid sim) (post_lines p))
  unfolding put
  put-exactly p = guarded-exactly (is_valid sim) (post_lines p) (taken-in-exactly p _) (λ h. h)

  -- ---- inject_input
  -- 10: "an injected time .. is no time"; 8: "a message would be the 257th active"
  abbrev pub inject_lines : Message → Lines
  inject_lines m = (BadTime, T (is_time m.time) → ⊥) ∷ (NoMessageRoom, T (is_time m.time) × (256 ≤ length sim.active)) ∷ []

  pub inject-exactly : (m : Message) → Refuses (inject_input m sim) (guard_lines (is_valid sim) (inject_lines m))
  unfolding inject_input
  inject-exactly m =
      guarded-exactly (is_valid sim) (inject_lines m)
      (exactly-given (inject_lines m)
      (ends-if (not (is_time m.time)) (λ u. stops {r = BadTime} (tells (fails time) u))
      (λ u. ends-bind _
      (ends-if {Q = λ _. Unit {0}} (leb (length (sim.active ++ m ∷ [])) most_active) (λ _. goes tt)
      (λ v. stops {r = NoMessageRoom} (two-not (is_time m.time) u, let n = tells (fails room) v in omega (arith, length-append sim.active (m ∷ [])))))
      (λ _ _. goes tt)))
      ((λ n. rw (is_false time n)) by (λ h. let l = h.1 in rw (is_true time h.0, is_false room (omega (arith, length-append sim.active (m ∷ []))))) by tt))
      (λ h. h)
    where
      time : Decides (is_time m.time) (T (is_time m.time))
      time = itself (is_time m.time)

      room : Decides (leb (length (sim.active ++ m ∷ [])) most_active) (length (sim.active ++ m ∷ []) ≤ 256)
      room = at-most (length (sim.active ++ m ∷ [])) 256

  -- ---- messages, clock, status and the resets
  -- 13: "or the active messages listed, and they don't fit"
  abbrev pub messages_lines : ℕ → Lines
  messages_lines room = (NoOutRoom, room < length sim.active) ∷ []

  pub messages-exactly : (room : ℕ) → Refuses (get_messages room sim) (guard_lines (is_valid sim) (messages_lines room))
  unfolding get_messages
  messages-exactly room = guarded-exactly (is_valid sim) (messages_lines room) (room-exactly room NoOutRoom sim.active) (λ h. h)

  -- 4: "status of an id not among the models without parent"
  abbrev pub status_lines : ℕ → Lines
  status_lines id = (ModelNotFound, (i : ℕ) → i < length sim.table.rows → (row_at sim.table i).parent ≡ None → id_at sim.table i ≡ id → ⊥) ∷ []

  pub status-exactly : (id : ℕ) → Refuses (get_status id sim) (guard_lines (is_valid sim) (status_lines id))
  unfolding get_status
  status-exactly id = guarded-exactly (is_valid sim) (status_lines id) (exactly-given (status_lines id) (ends roots refl) ((λ n. rw (no-roots roots refl n)) by tt)) (λ h. h)
    where
      roots : List ℕ
      roots = those (λ i. eqb (id_at sim.table i) id) (parentless sim.table)

      rooted : (i : ℕ) → (i ∈ roots) ↔ ((i ∈ parentless sim.table) × (id_at sim.table i ≡ id))
      rooted i = those-element (λ i. same (id_at sim.table i) id) (parentless sim.table) i

      ends : (is : List ℕ) → roots ≡ is → Only (given (status_lines id)) (status_of_first sim.states is)
      ends [] e = stops {r = ModelNotFound} (λ i l p q. passes (member-decides i []) (subst (λ (is : List ℕ). i ∈ is) e ((rooted i).1 ((parentless-element sim.table i).1 (l, p), q))))
      ends (i ∷ is) e = goes tt

      no-roots : (is : List ℕ) → roots ≡ is → ((i : ℕ) → i < length sim.table.rows → (row_at sim.table i).parent ≡ None → id_at sim.table i ≡ id → ⊥) → is ≡ []
      no-roots [] e n = refl
      no-roots (i ∷ is) e n =
          let z = (rooted i).0 (subst (λ (js : List ℕ). i ∈ js) (sym e) (here refl)) in
          let y = (parentless-element sim.table i).0 z.0 in
          absurd (n i y.0 y.1 z.1)

  pub time-exactly : Refuses (get_global_time sim) (guard_lines (is_valid sim) [])
  unfolding get_global_time
  time-exactly = guarded-exactly (is_valid sim) [] (done-exactly sim.clock) (λ h. h)

  pub reset-exactly : Refuses (reset sim) (guard_lines (is_valid sim) [])
  unfolding reset
  reset-exactly = guarded-exactly (is_valid sim) [] (done-exactly (at_clock_zero (without_messages sim))) (λ h. h)

  pub reset-messages-exactly : Refuses (reset_messages sim) (guard_lines (is_valid sim) [])
  unfolding reset_messages
  reset-messages-exactly = guarded-exactly (is_valid sim) [] (done-exactly (without_messages sim)) (λ h. h)

  pub reset-time-exactly : Refuses (reset_global_time sim) (guard_lines (is_valid sim) [])
  unfolding reset_global_time
  reset-time-exactly = guarded-exactly (is_valid sim) [] (done-exactly (at_clock_zero sim)) (λ h. h)

  -- ---- step_n and step_until: a simulation that breaks a rule is refused before any step
  pub step-bad-state : (services : List Float) (room count : ℕ) → (T (is_valid sim) → ⊥) → step_n services room count sim ≡ ended (Refused BadState) sim
  unfolding step_n
  step-bad-state services room count n = rw (is_false (itself (is_valid sim)) n)

  pub until-bad-state : (services : List Float) (until : Float) (room allowance : ℕ) → (T (is_valid sim) → ⊥) → step_until services until room allowance sim ≡ ended (Refused BadState) sim
  unfolding step_until
  until-bad-state services until room allowance n = rw (is_false (itself (is_valid sim)) n)

  -- "A bad `until` is refused before any step.": with 0 steps
  pub until-bad-time : (services : List Float) (until : Float) (room allowance : ℕ) → T (is_valid sim) → (T (is_time until) → ⊥)
      → step_until services until room allowance sim ≡ ended (Refused BadTime) sim
  unfolding step_until
  until-bad-time services until room allowance t n = rw (is_true (itself (is_valid sim)) t, is_false (itself (is_time until)) n)
