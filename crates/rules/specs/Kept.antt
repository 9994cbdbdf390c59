-- Each model's events keep what refusal 20 asks of its state, put out contents only, and leave the place in the service list a word. Assumes nothing.
use Rattle.std.specs.Prelude.{ℕ, zero, suc, ◌+◌, ◌*◌, ◌≤◌, ◌<◌, ◌^◌, ◌≡◌, refl, Bool, true, false, not, ◌&&◌, get_or, leb, ltb, eqb, Float, if◌then◌else◌, Option, None, Some}
use Rattle.std.proofs.Common.{sym, ap, ◌∙◌, subst, length-append, eqb→eq}
use mathlib.Core.List.{List, [], ◌∷◌, ◌++◌, map}
use native.Mathlib.Omega.{arith}
use Rattle.std.proofs.Math.ListN.{length, take, drop, length-drop}
use Rattle.std.proofs.lemmas.List.{length-map}
use Rattle.std.proofs.Math.Dec.{T, leb→le, le→leb, nleb→lt, ltb→lt, lt→ltb, eqb_refl, T_not, not_T}
use Rattle.times.specs.Time.{instant, never, is_time, is_timer}
use Rattle.times.proofs.Laws as law
use Rattle.rules.specs.declared.Refusal.{Refusal}
use Rattle.rules.specs.declared.Refusal.TheVariants.{TooLarge, BadRow, BadCoupling, ModelNotFound, InvalidMessage, InvalidModelState, NoQueueRoom, NoMessageRoom, NoServiceTime, BadTime, ClockOverflow, Idle, NoOutRoom, BadBlock, BadState}
use Rattle.rules.specs.declared.ProcessorPhase.{ProcessorPhase}
use Rattle.rules.specs.declared.ProcessorPhase.TheVariants as working
use Rattle.rules.specs.declared.BatcherPhase.{BatcherPhase}
use Rattle.rules.specs.declared.BatcherPhase.TheVariants as batching
use Rattle.rules.specs.declared.StopwatchPhase.{StopwatchPhase}
use Rattle.rules.specs.declared.StopwatchPhase.TheVariants as watching
use Rattle.rules.specs.declared.Metric.{Metric}
use Rattle.rules.specs.declared.Processor.{Processor}
use Rattle.rules.specs.declared.Batcher.{Batcher}
use Rattle.rules.specs.declared.Stopwatch.{Stopwatch}
use Rattle.rules.specs.Sizes.{is_content, is_word, most_jobs}
use Rattle.rules.specs.Base.{Outcome, every, some_of, hold, is_empty}
use Rattle.rules.specs.Simulation.{ProcessorState, BatcherState, StopwatchState, Marks}
use Rattle.rules.specs.Models.{Started, Kept, Dropped, Marked, Asked, keep, service, processor_external, processor_internal_in, processor_internal, joining, batcher_external, batcher_internal, is_named, marked, marked_state, started, stopped, stopwatch_external, stopwatch_internal, Duration, durations, between, better, best_of, fetched, asked}
use Rattle.rules.specs.Valid.{is_active, processor_rules, batcher_rules, marks_rules, member, differ, names, stopwatch_rules}
use Rattle.rules.specs.Ends.{not-or, not-or-i, but-not, but-not-i, no-some, All, nil, ◌&◌, all_append, all_map, all-chosen, every-all, all-every, parts, whole_of, Ends, stops, goes, ends-if, ends-bind, ends-map}

-- every refusal that an event or a step may give whatever the table: not 6, not 14 and not 20
abbrev pub Other : Refusal → Type 0
Other TooLarge = Unit {0}
Other BadRow = Unit {0}
Other BadCoupling = Unit {0}
Other ModelNotFound = Unit {0}
Other InvalidMessage = Unit {0}
Other InvalidModelState = ⊥
Other NoQueueRoom = Unit {0}
Other NoMessageRoom = Unit {0}
Other NoServiceTime = Unit {0}
Other BadTime = Unit {0}
Other ClockOverflow = Unit {0}
Other Idle = Unit {0}
Other NoOutRoom = Unit {0}
Other BadBlock = ⊥
Other BadState = ⊥

instant-timer : T (is_timer instant)
instant-timer = law.time-timer instant law.instant-time

-- ---- lists of contents
abbrev pub Contents : List ℕ → Type 0
Contents xs = All (λ x. T (is_content x)) xs

contents-take : (n : ℕ) {xs : List ℕ} → Contents xs → Contents (take n xs)
contents-take zero p = nil
contents-take (suc n) nil = nil
contents-take (suc n) (h & p) = h & contents-take n p

contents-drop : (n : ℕ) {xs : List ℕ} → Contents xs → Contents (drop n xs)
contents-drop zero p = p
contents-drop (suc n) nil = nil
contents-drop (suc n) (h & p) = contents-drop n p

-- ---- a job is kept
pub record More {A : Type 0} (job : A) (held jobs : List A) : Type 0 where
  pub longer : length jobs ≡ length held + 1
  pub room : length jobs ≤ most_jobs
  pub is : jobs ≡ held ++ job ∷ []

contents-more : (job : ℕ) (held jobs : List ℕ) → More job held jobs → T (is_content job) → T (every is_content held) → T (every is_content jobs)
contents-more job held jobs k w c = subst (λ (z : List ℕ). T (every is_content z)) (sym k.is) (all-every is_content (all_append (every-all is_content held c) (w & nil)))

module _ (B : Refusal → Type 0) (other : (r : Refusal) → Other r → B r) where
  pub keep-more : {A : Type 0} (job : A) (held : List A) → Ends B (More job held) (keep job held)
  keep-more job held =
      ends-if (ltb (length held) most_jobs)
      (λ t. goes (record { longer = length-append held (job ∷ []); room = let l = ltb→lt (length held) most_jobs t in omega (arith, length-append held (job ∷ [])); is = refl }))
      (λ t. stops (other NoQueueRoom tt))

  service-time : (services : List Float) (place : ℕ) → T (is_word (length services)) → Ends B (λ r. T (is_time r.0) × T (is_word r.1)) (service services place)
  unfolding service
  service-time services place short =
      ends-if (leb (length services) place) (λ t. stops (other NoServiceTime tt))
      (λ t. ends-if (is_time (get_or services place instant))
      (λ u. goes {a = (get_or services place instant, place + 1)} (u, let l = nleb→lt (length services) place t in let m = ltb→lt (length services) (2 ^ 64) short in lt→ltb (place + 1) (2 ^ 64) (omega arith)))
      (λ u. stops (other BadTime tt)))

  -- ---- Processor
  module _ (p : Processor) (services : List Float) (short : T (is_word (length services))) where
    pub processor-external : (port job : ℕ) (s : ProcessorState) (place : ℕ) → (p.queue_capacity ≡ 0 → B InvalidModelState) → T (is_content job) → T (is_word place) → All T (processor_rules p s)
        → Ends B (λ r. All T (processor_rules p r.0) × T (is_word r.1)) (processor_external p services port job s place)
    unfolding processor_external
    processor-external port job s place six w v (a & b & c & d & e & nil) =
        ends-if (not (eqb port p.input)) (λ _. stops (other InvalidMessage tt))
        (λ _. ends-if (eqb (length s.queue) p.queue_capacity)
        (λ full. ends-if (is_empty s.queue) (λ z. stops (six (sym (eqb→eq (length s.queue) p.queue_capacity full) ∙ empty-length s.queue z)))
        (λ _. goes {a = (s, place, Dropped)} ((a & b & c & d & e & nil), v)))
        (λ room. ends-if (is_empty s.queue)
        (λ z. ends-bind _ (service-time services place short)
        (λ r t. goes {a = (record { phase = working.Active; timer = r.0; queue = job ∷ [] }, r.1, Started)}
        ((law.time-timer r.0 t.0 & tt & all-every is_content {xs = job ∷ []} (w & nil) & le→leb 1 p.queue_capacity (omega (arith, room-left room)) & tt & nil), t.1)))
        (λ _. ends-bind _ (keep-more job s.queue)
        (λ q k. goes {a = (record { phase = s.phase; timer = s.timer; queue = q }, place, Kept)} (
          (a & le→leb (length q) most_jobs k.room & contents-more job s.queue q k w c
              & le→leb (length q) p.queue_capacity (omega (arith, room-left room, k.longer))
              & never_both (is_active s.phase) (ap is_empty k.is ∙ snoc-some s.queue job) & nil),
          v,
        )))))
      where
        room-left : T (not (eqb (length s.queue) p.queue_capacity)) → length s.queue < p.queue_capacity
        room-left t =
            let l = leb→le (length s.queue) p.queue_capacity d in
            let n : (length s.queue ≡ p.queue_capacity) → ⊥ = λ e. T_not (eqb (length s.queue) p.queue_capacity) t (subst (λ (z : ℕ). T (eqb (length s.queue) z)) e (eqb_refl (length s.queue))) in
            omega arith

        empty-length : (xs : List ℕ) → T (is_empty xs) → length xs ≡ 0
        empty-length [] t = refl
        empty-length (x ∷ xs) t = absurd t

        snoc-some : (xs : List ℕ) (x : ℕ) → is_empty (xs ++ x ∷ []) ≡ false
        snoc-some [] x = refl
        snoc-some (y ∷ xs) x = refl

        never_both : (a : Bool) {b : Bool} → b ≡ false → T (not (a && b))
        never_both true e = subst (λ (z : Bool). T (not z)) (sym e) tt
        never_both false e = tt

    pub processor-internal : (s : ProcessorState) (place : ℕ) → T (is_word place) → All T (processor_rules p s)
        → Ends B (λ r. All T (processor_rules p r.0) × T (is_word r.1) × Contents r.2) (processor_internal services s place)
    unfolding processor_internal
    processor-internal s place v h = go s.phase h
      where
        go : (phase : ProcessorPhase) → All T (processor_rules p s) → Ends B (λ r. All T (processor_rules p r.0) × T (is_word r.1) × Contents r.2) (processor_internal_in phase services s place)
        go working.Active (a & b & c & d & e & nil) =
            let ws = every-all is_content s.queue c in
            let l = leb→le (length s.queue) most_jobs b in
            let m = leb→le (length s.queue) p.queue_capacity d in
            goes {a = (record { phase = working.Passive; timer = instant; queue = drop 1 s.queue }, place, take 1 s.queue)} (
              (instant-timer & le→leb (length (drop 1 s.queue)) most_jobs (omega (arith, length-drop 1 s.queue)) & all-every is_content (contents-drop 1 ws)
                  & le→leb (length (drop 1 s.queue)) p.queue_capacity (omega (arith, length-drop 1 s.queue)) & tt & nil),
              v,
              contents-take 1 ws,
            )
        go working.Passive (a & b & c & d & e & nil) =
            ends-if (is_empty s.queue)
            (λ z. goes {a = (record { phase = working.Passive; timer = never; queue = [] }, place, [])} ((law.never-timer & tt & tt & le→leb 0 p.queue_capacity (omega arith) & tt & nil), v, nil))
            (λ z. ends-bind _ (service-time services place short)
            (λ r t. goes {a = (record { phase = working.Active; timer = r.0; queue = s.queue }, r.1, [])} ((law.time-timer r.0 t.0 & b & c & d & z & nil), t.1, nil)))

  -- ---- Batcher
  pub batcher-external : (b : Batcher) (job : ℕ) (s : BatcherState) → B InvalidModelState → T (is_time b.max_batch_time) → T (is_content job) → All T (batcher_rules s)
      → Ends B (λ n. All T (batcher_rules n)) (batcher_external b job s)
  unfolding batcher_external
  batcher-external b job s six t w (a & l & c & nil) =
      ends-bind {Q = λ pt. T (is_timer pt.1)} _
      (ends-if (ltb (length s.jobs + 1) b.max_batch_size) (λ _. joined s.phase) (λ _. goes {a = (batching.Release, instant)} instant-timer))
      (λ pt h. ends-bind _ (keep-more job s.jobs) (λ q k. goes (h & le→leb (length q) most_jobs k.room & contents-more job s.jobs q k w c & nil)))
    where
      joined : (phase : BatcherPhase) → Ends B (λ pt. T (is_timer pt.1)) (joining phase b s)
      joined batching.Passive = goes {a = (batching.Batching, b.max_batch_time)} (law.time-timer b.max_batch_time t)
      joined batching.Batching = goes {a = (batching.Batching, s.timer)} a
      joined batching.Release = stops six

pub batcher-internal : (b : Batcher) (s : BatcherState) → T (is_time b.max_batch_time) → All T (batcher_rules s) → All T (batcher_rules (batcher_internal b s).0) × Contents (batcher_internal b s).1
unfolding batcher_internal
batcher-internal b s t (a & l & c & nil) = go (leb (length s.jobs) b.max_batch_size) (leb (2 * b.max_batch_size) (length s.jobs))
  where
    all-out : BatcherState × List ℕ
    all-out = (record { phase = batching.Passive; timer = never; jobs = [] }, s.jobs)

    full : BatcherState × List ℕ
    full = (record { phase = batching.Release; timer = instant; jobs = drop b.max_batch_size s.jobs }, take b.max_batch_size s.jobs)

    part : BatcherState × List ℕ
    part = (record { phase = batching.Batching; timer = b.max_batch_time; jobs = drop b.max_batch_size s.jobs }, take b.max_batch_size s.jobs)

    ws : Contents s.jobs
    ws = every-all is_content s.jobs c

    short : T (leb (length (drop b.max_batch_size s.jobs)) most_jobs)
    short = let m = leb→le (length s.jobs) most_jobs l in le→leb (length (drop b.max_batch_size s.jobs)) most_jobs (omega (arith, length-drop b.max_batch_size s.jobs))

    go : (x y : Bool) → All T (batcher_rules (if x then all-out else if y then full else part).0) × Contents (if x then all-out else if y then full else part).1
    go true y = ((law.never-timer & tt & tt & nil), ws)
    go false true = ((instant-timer & short & all-every is_content (contents-drop b.max_batch_size ws) & nil), contents-take b.max_batch_size ws)
    go false false = ((law.time-timer b.max_batch_time t & short & all-every is_content (contents-drop b.max_batch_size ws) & nil), contents-take b.max_batch_size ws)

-- ---- Stopwatch
-- names that differ, and one more that is none of them
flip : (x y : ℕ) → T (not (eqb x y)) → T (not (eqb y x))
flip x y t = not_T (eqb y x) (λ u. T_not (eqb x y) t (subst (λ (z : ℕ). T (eqb x z)) (sym (eqb→eq y x u)) (eqb_refl x)))

member-snoc : (y x : ℕ) (ys : List ℕ) → T (not (member y ys)) → T (not (eqb x y)) → T (not (member y (ys ++ x ∷ [])))
member-snoc y x [] t u = not-or-i (eqb x y) false u tt
member-snoc y x (z ∷ ys) t u = let w = not-or (eqb z y) (member y ys) t in not-or-i (eqb z y) (member y (ys ++ x ∷ [])) w.0 (member-snoc y x ys w.1 u)

differ-snoc : (x : ℕ) (xs : List ℕ) → T (differ xs) → T (not (member x xs)) → T (differ (xs ++ x ∷ []))
differ-snoc x [] d n = tt
differ-snoc x (y ∷ ys) d n =
    let w = but-not (member y ys) (differ ys) d in
    let v = not-or (eqb y x) (member x ys) n in
    but-not-i (member y (ys ++ x ∷ [])) (differ (ys ++ x ∷ [])) (member-snoc y x ys w.0 (flip y x v.0)) (differ-snoc x ys w.1 v.1)

named-member : (name : ℕ) (jobs : List Marks) → some_of (is_named name) jobs ≡ member name (names jobs)
named-member name [] = refl
named-member name (j ∷ jobs) = ap (λ (z : Bool). if eqb j.name name then true else z) (named-member name jobs)

names-snoc : (jobs : List Marks) (j : Marks) → names (jobs ++ j ∷ []) ≡ names jobs ++ j.name ∷ []
names-snoc [] j = refl
names-snoc (x ∷ jobs) j = ap (λ (z : List ℕ). x.name ∷ z) (names-snoc jobs j)

abbrev marks_fit : Marks → Bool
marks_fit j = hold (marks_rules j)

-- a mark that keeps the name and what 20 asks
record Marking (mark : Marks → Marks) : Type 0 where
  same : (j : Marks) → (mark j).name ≡ j.name
  fits : (j : Marks) → T (marks_fit j) → T (marks_fit (mark j))

marked-names : (mark : Marks → Marks) → Marking mark → (name : ℕ) (jobs : List Marks) → names (map (λ j. if is_named name j then mark j else j) jobs) ≡ names jobs
marked-names mark m name [] = refl
marked-names mark m name (j ∷ jobs) = let p = go (is_named name j) in let q = marked-names mark m name jobs in λ i. p i ∷ q i
  where
    go : (b : Bool) → (if b then mark j else j).name ≡ j.name
    go true = m.same j
    go false = refl

abbrev JobsFit : List Marks → Type 0
JobsFit jobs = T (leb (length jobs) most_jobs) × T (every marks_fit jobs) × T (differ (names jobs))

started-marks : (clock : Float) → T (is_time clock) → Marking (started clock)
started-marks clock c = record { same = λ j. refl; fits = λ j t. go j (parts (marks_rules j) t) }
  where
    go : (j : Marks) → All T (marks_rules j) → T (marks_fit (started clock j))
    go j (a & b & d & nil) = whole_of {bs = marks_rules (started clock j)} (a & c & d & nil)

stopped-marks : (clock : Float) → T (is_time clock) → Marking (stopped clock)
stopped-marks clock c = record { same = λ j. refl; fits = λ j t. go j (parts (marks_rules j) t) }
  where
    go : (j : Marks) → All T (marks_rules j) → T (marks_fit (stopped clock j))
    go j (a & b & d & nil) = whole_of {bs = marks_rules (stopped clock j)} (a & b & c & nil)

module _ (B : Refusal → Type 0) (other : (r : Refusal) → Other r → B r) where
  marked-fits : (mark : Marks → Marks) → Marking mark → (name : ℕ) (jobs : List Marks) → T (is_content name) → JobsFit jobs → Ends B JobsFit (marked mark name jobs)
  marked-fits mark m name jobs w h =
      ends-if (some_of (is_named name) jobs)
      (λ _. goes (
        subst (λ (n : ℕ). T (leb n most_jobs)) (sym (length-map jobs (λ j. if is_named name j then mark j else j))) h.0,
        all-every marks_fit (all_map (λ j. if is_named name j then mark j else j) (every-all marks_fit jobs h.1) (λ j t. go (is_named name j) j t)),
        subst (λ (z : List ℕ). T (differ z)) (sym (marked-names mark m name jobs)) h.2,
      ))
      (λ new. ends-map (keep-more B other (mark unmarked) jobs) (λ r b. b)
      (λ js k. (
        le→leb (length js) most_jobs k.room,
        subst (λ (z : List Marks). T (every marks_fit z)) (sym k.is) (all-every marks_fit (all_append (every-all marks_fit jobs h.1) (m.fits unmarked (whole_of {bs = marks_rules unmarked} (w & tt & tt & nil)) & nil))),
        subst (λ (z : List ℕ). T (differ z)) (sym (ap names k.is ∙ names-snoc jobs (mark unmarked) ∙ ap (λ (z : ℕ). names jobs ++ z ∷ []) (m.same unmarked)))
            (differ-snoc name (names jobs) h.2 (subst (λ (z : Bool). T (not z)) (named-member name jobs) new)),
      )))
    where
      unmarked : Marks
      unmarked = record { name = name; start = None; stop = None }

      go : (b : Bool) (j : Marks) → T (marks_fit j) → T (marks_fit (if b then mark j else j))
      go true j t = m.fits j t
      go false j t = t

  pub stopwatch-external : (w : Stopwatch) (clock : Float) (port job : ℕ) (s : StopwatchState) → T (is_time clock) → T (is_content job) → All T (stopwatch_rules s)
      → Ends B (λ r. All T (stopwatch_rules r.0)) (stopwatch_external w clock port job s)
  unfolding stopwatch_external
  stopwatch-external w clock port job s t u (a & b & c & d & nil) =
      ends-if (eqb port w.start) (λ _. keeps (marked-fits (started clock) (started-marks clock t) job s.jobs u (b, c, d)))
      (λ _. ends-if (eqb port w.stop) (λ _. keeps (marked-fits (stopped clock) (stopped-marks clock t) job s.jobs u (b, c, d)))
      (λ _. ends-if (eqb port w.ask)
      (λ _. goes {a = (record { phase = watching.JobFetch; timer = instant; jobs = s.jobs }, Asked)} (instant-timer & b & c & d & nil))
      (λ _. stops (other InvalidMessage tt))))
    where
      keeps : {o : Outcome (List Marks)} → Ends B JobsFit o → Ends B (λ r. All T (stopwatch_rules r.0)) (marked_state s o)
      keeps h = ends-bind _ h (λ js k. goes {a = (record { phase = s.phase; timer = s.timer; jobs = js }, Marked)} (a & k.0 & k.1 & k.2 & nil))

-- a name that is put out is one of the stopwatch's
abbrev Named : Duration → Type 0
Named d = T (is_content d.name)

between-named : (name : ℕ) (start stop : Option Float) (d : Duration) → T (is_content name) → between name start stop ≡ Some d → Named d
between-named name None stop d t e = absurd (no-some e)
between-named name (Some x) None d t e = absurd (no-some e)
between-named name (Some x) (Some y) d t e = subst (λ (n : ℕ). T (is_content n)) (let z : name ≡ d.name = cc in z) t

best-named : (metric : Metric) (best : Duration) (ds : List Duration) → Named best → All Named ds → Named (best_of metric best ds)
best-named metric best [] t p = t
best-named metric best (d ∷ ds) t (h & p) = best-named metric (if better metric d.length best.length then d else best) ds (go (better metric d.length best.length)) p
  where
    go : (b : Bool) → Named (if b then d else best)
    go true = h
    go false = t

fetched-contents : (metric : Metric) (ds : List Duration) → All Named ds → Contents (fetched metric ds)
fetched-contents metric [] p = nil
fetched-contents metric (d ∷ ds) (h & p) = best-named metric d ds h p & nil

asked-contents : (phase : StopwatchPhase) (w : Stopwatch) (jobs : List Marks) → T (every marks_fit jobs) → Contents (asked phase w jobs)
asked-contents watching.JobFetch w jobs t =
    fetched-contents w.metric (durations jobs)
    (all-chosen (λ j. between j.name j.start j.stop) (every-all marks_fit jobs t) (λ j d f e. between-named j.name j.start j.stop d (name_of j (parts (marks_rules j) f)) e))
  where
    name_of : (j : Marks) → All T (marks_rules j) → T (is_content j.name)
    name_of j (a & b) = a
asked-contents watching.Passive w jobs t = nil

pub stopwatch-internal : (w : Stopwatch) (s : StopwatchState) → All T (stopwatch_rules s) → All T (stopwatch_rules (stopwatch_internal w s).0) × Contents (stopwatch_internal w s).1
unfolding stopwatch_internal
stopwatch-internal w s (a & b & c & d & nil) = ((law.never-timer & b & c & d & nil), asked-contents s.phase w s.jobs c)
