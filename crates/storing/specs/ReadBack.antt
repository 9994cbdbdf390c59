-- What the layout makes of a simulation that 20 lets pass reads back as it; so do the words of a state that a call lays or leaves. Assumes nothing.
use Rattle.std.specs.Prelude.{ℕ, zero, suc, ◌+◌, ◌-◌, ◌*◌, ◌/◌, ◌%◌, ◌^◌, ◌≤◌, ◌<◌, ◌≡◌, refl, get_or, take, drop, leb, ltb, eqb, Float, Option, None, Some}
use Rattle.std.proofs.Common.{sym, ◌∙◌, add-zero, zero-add, arith, length-append, length-drop, drop-cons, get_or-append-add, get_or-drop, take_at, drop_at, drop-drop, ext_get_or, le→leb}
use Rattle.std.proofs.Math.Path.{ap, subst, transport}
use mathlib.Core.List.{List, [], ◌∷◌, ◌++◌, map, append_assoc}
use Rattle.std.proofs.Math.ListN.{length, get_or-append, get_or-eq_default}
use Rattle.std.proofs.lemmas.List.{length-map}
use Rattle.std.proofs.Math.Seq.{take-append_seam, drop-append_seam, drop-append-add}
use Rattle.std.proofs.Math.Dec.{T}
use Rattle.std.specs.Float.Ieee.{binary64, of_bits, to_bits}
use Rattle.std.specs.Float.Ieee.Bits.{of_bits-to_bits}
use Rattle.std.specs.Float.Ieee.Fits.{and_i}
use Rattle.times.specs.Time.{never, is_time, is_timer}
use Rattle.times.proofs.Laws.{time-fits, time-timer, timer-fits, never-timer}
use Rattle.times.proofs.AnswerLaws.{bits_back}
use Rattle.rules.specs.declared.Message.{Message}
use Rattle.rules.specs.declared.ProcessorPhase.{ProcessorPhase}
use Rattle.rules.specs.declared.ProcessorPhase.TheVariants as working
use Rattle.rules.specs.declared.BatcherPhase.{BatcherPhase}
use Rattle.rules.specs.declared.BatcherPhase.TheVariants as batching
use Rattle.rules.specs.declared.StopwatchPhase.{StopwatchPhase}
use Rattle.rules.specs.declared.StopwatchPhase.TheVariants as watching
use Rattle.rules.specs.Base.{every, hold, from}
use Rattle.rules.specs.Layout.{lent, written, written_all}
use Rattle.rules.specs.Table as table
use Rattle.rules.specs.Table.{Kind, processor, batcher, stopwatch, coupled, Table, no_row, kind_at}
use Rattle.rules.specs.Intake.{intake, passed}
use Rattle.rules.specs.Simulation.{Marks, Parked, State, of_processor, of_batcher, of_stopwatch, of_coupled, Simulation, state_at}
use Rattle.rules.specs.Valid as valid
use Rattle.rules.specs.Valid.{marks_rules, differ, names, stopwatch_rules, is_valid}
use Rattle.rules.specs.Ends.{All, nil, ◌&◌, every-all, parts, whole_of}
use Rattle.rules.specs.Decides.{tells, passes, timer-decides, stopwatch-decides, message-decides, ParkedKeeps, StateKeeps, of-processor, of-batcher, of-stopwatch, of-coupled, state-decides, whole_table, intake-exactly}
use Rattle.rules.proofs.Least.{Fitted}
use Rattle.rules.proofs.Worlds.{MessageFits}
use Rattle.rules.proofs.Runs.{Valid, valid-of}
use Rattle.words.specs.Queue.{queue_in, unused_clear}
use Rattle.words.specs.Lists.{get_d-from}
use Rattle.marks.specs.Jobs.{time_in, mark_in, job_at, jobs_in, whole_in, mark_fits, words_fit, fit_in}
use Rattle.marks.specs.MarkingLaws.{not_made, every-from, jobs-length, unused_in, unused-is}
use Rattle.words.specs.Laying.{zeros-long}
use Rattle.memory.specs.Words.{word_at, head_at, phase_in, timer_in, held_in, width_of, own_in}
use Rattle.memory.specs.View.{working_of, batching_of, watching_of, working_number, batching_number, watching_number, parked_of, state_in, word_rules, WordsFit}
use Rattle.views.specs.World.{widths_of, begin_of, end_of, states_in, Ready}
use Rattle.views.specs.Messages.{message_in}
use Rattle.views.proofs.Frames.{states-are}
use Rattle.copying.specs.CopiedLaws.{written-long}
use Rattle.stepping.specs.Simulating.{clock_in, active_in, sim_in}
use Rattle.lookup.specs.Inside.{connectors_at, couplings_at, tail_at, models_in, connectors_in, couplings_in, posted_in, table_in, Inside}
use Rattle.table.specs.Passed.{models-long, connectors-long, couplings-long}
use Rattle.rerunning.specs.Running.{tail_in, sim_of}
use Rattle.storing.specs.State.{zeros, filled, mark_word, parked_word, own_words, phase_word, timer_word, held_word, own_width, heads, owns, changing, laid_state, over, kept, state_words, is_stored}
use Rattle.storing.specs.StoredLaws.{Holds, holds-stored, stored-long, stored-inside, is-stored, counted}

-- ---- a column of 64 places
zeros-clear : (n : ℕ) → T (every (λ w. eqb w 0) (zeros n))
zeros-clear zero = tt
zeros-clear (suc n) = zeros-clear n

-- past its words it reads 0, as past its end
with-zeros : (words : List ℕ) (n k : ℕ) → get_or (words ++ zeros n) k 0 ≡ get_or words k 0
with-zeros [] zero k = refl
with-zeros [] (suc n) zero = refl
with-zeros [] (suc n) (suc k) = with-zeros [] n k
with-zeros (w ∷ ws) n zero = refl
with-zeros (w ∷ ws) n (suc k) = with-zeros ws n k

filled-long : (words : List ℕ) → length words ≤ 64 → length (filled words) ≡ 64
filled-long words few = let a = length-append words (zeros (64 - length words)) in let z = zeros-long (64 - length words) in omega arith

filled-queue : (words : List ℕ) → queue_in (length words) (filled words) ≡ words
filled-queue words = take-append_seam words (zeros (64 - length words))

filled-clear : (words : List ℕ) → T (unused_clear (length words) (filled words))
filled-clear words = rw (drop-append_seam words (zeros (64 - length words))) (zeros-clear (64 - length words))

-- ---- what is made of each, by its place
map_at : {A : Type 0} (f : A → ℕ) (xs : List A) (k : ℕ) (d : A) → k < length xs → get_or (map f xs) k 0 ≡ f (get_or xs k d)
map_at f [] k d l = absurd (omega arith)
map_at f (x ∷ xs) zero d l = refl
map_at f (x ∷ xs) (suc k) d l = map_at f xs k d (omega arith)

all-at : {A : Type 0} {P : A → Type 0} {xs : List A} (d : A) → All P xs → (k : ℕ) → k < length xs → P (get_or xs k d)
all-at d nil k l = absurd (omega arith)
all-at d (h & p) zero l = h
all-at d (h & p) (suc k) l = all-at d p k (omega arith)

-- ---- a mark, a phase and a parked message are read from the words that they make
mark-back : (m : Option Float) → T (valid.mark_fits m) → mark_in (mark_word m) ≡ m
mark-back None t = not_made
mark-back (Some x) t = ap time_in (bits_back x t)

timer-back : (x : Float) → T (is_timer x) → of_bits binary64 (to_bits binary64 x) ≡ x
timer-back x t = of_bits-to_bits binary64 x (timer-fits x t)

mark-timer : (m : Option Float) → T (valid.mark_fits m) → T (mark_fits (mark_word m))
mark-timer None t = rw (timer-back never never-timer) never-timer
mark-timer (Some x) t = let u = time-timer x t in rw (timer-back x u) u

working-back : (p : ProcessorPhase) → working_of (working_number p) ≡ p
working-back working.Passive = refl
working-back working.Active = refl

batching-back : (p : BatcherPhase) → batching_of (batching_number p) ≡ p
batching-back batching.Passive = refl
batching-back batching.Batching = refl
batching-back batching.Release = refl

watching-back : (p : StopwatchPhase) → watching_of (watching_number p) ≡ p
watching-back watching.Passive = refl
watching-back watching.JobFetch = refl

parked-back : (m : Parked) → ParkedKeeps m → parked_of (parked_word m) ≡ m
parked-back m (id, (port, content)) =
    let component-is : parked_word m / 2 ^ 48 ≡ m.component = omega arith in
    let port-is : parked_word m / 2 ^ 32 % 2 ^ 16 ≡ m.port = omega arith in
    let content-is : parked_word m % 2 ^ 32 ≡ m.content = omega arith in
    λ i. record { component = component-is i; port = port-is i; content = content-is i }

all_back : {parked : List Parked} → All ParkedKeeps parked → map parked_of (map parked_word parked) ≡ parked
all_back nil = refl
all_back (◌&◌ {x = m} h p) = λ i. parked-back m h i ∷ all_back p i

-- ---- a stopwatch's three columns
abbrev no_job : Marks
no_job = record { name = 0; start = None; stop = None }

abbrev name_of : Marks → ℕ
name_of j = j.name

abbrev start_of : Marks → ℕ
start_of j = mark_word j.start

abbrev stop_of : Marks → ℕ
stop_of j = mark_word j.stop

module _ (jobs : List Marks) (few : length jobs ≤ 64) where
  -- a column of what is made of each job
  abbrev column : (Marks → ℕ) → List ℕ
  column f = filled (map f jobs)

  column-long : (f : Marks → ℕ) → length (column f) ≡ 64
  column-long f = filled-long (map f jobs) (let l = length-map jobs f in omega arith)

  column-at : (f : Marks → ℕ) (k : ℕ) → k < length jobs → get_or (column f) k 0 ≡ f (get_or jobs k no_job)
  column-at f k l = with-zeros (map f jobs) (64 - length (map f jobs)) k ∙ map_at f jobs k no_job l

  column-past : (f : Marks → ℕ) (k : ℕ) → length jobs ≤ k → get_or (column f) k 0 ≡ 0
  column-past f k l = with-zeros (map f jobs) (64 - length (map f jobs)) k ∙ get_or-eq_default (map f jobs) 0 (let m = length-map jobs f in omega arith)

  abbrev own : List ℕ
  own = column name_of ++ column start_of ++ column stop_of

  two-long : length (column name_of ++ column start_of) ≡ 128
  two-long = let a = length-append (column name_of) (column start_of) in let n = column-long name_of in let s = column-long start_of in omega arith

  own-long : length own ≡ 192
  own-long = let a = length-append (column name_of ++ column start_of) (column stop_of) in let n = two-long in let s = column-long stop_of in omega arith

  -- a word of each column
  names_at : (k : ℕ) → k < 64 → get_or own k 0 ≡ get_or (column name_of) k 0
  names_at k l =
      get_or-append (column name_of ++ column start_of) (column stop_of) 0 k (let n = two-long in omega arith)
      ∙ get_or-append (column name_of) (column start_of) 0 k (let n = column-long name_of in omega arith)

  starts-at : (k : ℕ) → k < 64 → get_or own (64 + k) 0 ≡ get_or (column start_of) k 0
  starts-at k l =
      get_or-append (column name_of ++ column start_of) (column stop_of) 0 (64 + k) (let n = two-long in omega arith)
      ∙ ap (λ (n : ℕ). get_or (column name_of ++ column start_of) (n + k) 0) (sym (column-long name_of))
      ∙ get_or-append-add (column name_of) (column start_of) k 0

  stops_at : (k : ℕ) → get_or own (128 + k) 0 ≡ get_or (column stop_of) k 0
  stops_at k =
      ap (λ (n : ℕ). get_or own (n + k) 0) (sym two-long)
      ∙ get_or-append-add (column name_of ++ column start_of) (column stop_of) k 0

  unused-back : T (unused_in (length jobs) own)
  unused-back = unused-is (length jobs) own few (λ k a b. (names_at k b ∙ column-past name_of k a, starts-at k b ∙ column-past start_of k a, stops_at k ∙ column-past stop_of k a))

  module _ (fit : T (every (λ j. hold (marks_rules j)) jobs)) (apart : T (differ (names jobs))) where
    marks-at : (k : ℕ) → k < length jobs → T (valid.mark_fits (get_or jobs k no_job).start) × T (valid.mark_fits (get_or jobs k no_job).stop)
    marks-at k l = go (get_or jobs k no_job) (parts (marks_rules (get_or jobs k no_job)) (all-at no_job (every-all (λ j. hold (marks_rules j)) jobs fit) k l))
      where
        go : (j : Marks) → All T (marks_rules j) → T (valid.mark_fits j.start) × T (valid.mark_fits j.stop)
        go j (name & start & stop & nil) = (start, stop)

    start_word : (k : ℕ) → k < length jobs → get_or own (64 + k) 0 ≡ mark_word (get_or jobs k no_job).start
    start_word k l = starts-at k (omega arith) ∙ column-at start_of k l

    stop-word : (k : ℕ) → k < length jobs → get_or own (128 + k) 0 ≡ mark_word (get_or jobs k no_job).stop
    stop-word k l = stops_at k ∙ column-at stop_of k l

    job-back : (k : ℕ) → k < length jobs → job_at own k ≡ get_or jobs k no_job
    job-back k l =
        let marks = marks-at k l in
        λ i. record {
          name = (names_at k (omega arith) ∙ column-at name_of k l) i;
          start = (ap mark_in (start_word k l) ∙ mark-back (get_or jobs k no_job).start marks.0) i;
          stop = (ap mark_in (stop-word k l) ∙ mark-back (get_or jobs k no_job).stop marks.1) i;
        }

    jobs-back : jobs_in (length jobs) own ≡ jobs
    jobs-back =
        ext_get_or no_job (jobs_in (length jobs) own) jobs (jobs-length (length jobs) own)
        (λ k l. let m : k < length jobs = omega (arith, jobs-length (length jobs) own) in
        get_d-from (job_at own) no_job 0 (length jobs) k m ∙ ap (job_at own) (zero-add k) ∙ job-back k m)

    fit-back : T (fit_in (length jobs) own)
    unfolding fit_in
    fit-back =
        whole_of {bs = whole_in (length jobs) own ∷ every (words_fit own) (from 0 (length jobs)) ∷ every (λ j. hold (marks_rules j)) (jobs_in (length jobs) own) ∷ differ (names (jobs_in (length jobs) own)) ∷ []}
        (and_i (leb (length jobs) 64) (leb 192 (length own)) (le→leb (length jobs) 64 few) (le→leb 192 (length own) (let n = own-long in omega arith))
        & every-from (words_fit own) 0 (length jobs) (λ k a b. marks-timers k (omega arith))
        & subst (λ (js : List Marks). T (every (λ j. hold (marks_rules j)) js)) (sym jobs-back) fit
        & subst (λ (js : List Marks). T (differ (names js))) (sym jobs-back) apart
        & nil)
      where
        marks-timers : (k : ℕ) → k < length jobs → T (words_fit own k)
        marks-timers k l =
            let marks = marks-at k l in
            and_i (mark_fits (get_or own (64 + k) 0)) (mark_fits (get_or own (128 + k) 0))
            (subst (λ (w : ℕ). T (mark_fits w)) (sym (start_word k l)) (mark-timer (get_or jobs k no_job).start marks.0))
            (subst (λ (w : ℕ). T (mark_fits w)) (sym (stop-word k l)) (mark-timer (get_or jobs k no_job).stop marks.1))

-- ---- one row, of any kind: its state is read back, and its words fit
record Reads (s : State) (b width : ℕ) (mem : List ℕ) (i : ℕ) : Type 0 where
  phase : phase_in mem i ≡ phase_word s
  timer : timer_in mem i ≡ timer_word s
  held : held_in mem i ≡ held_word s
  own : own_in b width mem ≡ own_words s

record Back (k : Kind) (s : State) (b : ℕ) (mem : List ℕ) (i : ℕ) : Type 0 where
  state : state_in k b mem i ≡ s
  words : WordsFit k b mem i

wide-as : {k : Kind} {s : State} → StateKeeps k s → own_width s ≡ width_of k
wide-as (of-processor h) = refl
wide-as (of-batcher h) = refl
wide-as (of-stopwatch h) = refl
wide-as (of-coupled h) = refl

long_as : {k : Kind} {s : State} → StateKeeps k s → length (own_words s) ≡ width_of k
long_as (of-processor {s = s} h) = filled-long s.queue h.length_most
long_as (of-batcher {s = s} h) = filled-long s.jobs h.length_most
long_as (of-stopwatch {s = s} h) = own-long s.jobs h.length_most
long_as (of-coupled {parked = parked} h) = filled-long (map parked_word parked) (let l = length-map parked parked_word in let f = h.0 in omega arith)

module _ (b : ℕ) (mem : List ℕ) (i : ℕ) where
  timed : (x : Float) → T (is_timer x) → timer_in mem i ≡ to_bits binary64 x → of_bits binary64 (timer_in mem i) ≡ x
  timed x t e = ap (of_bits binary64) e ∙ timer-back x t

  row_back : {k : Kind} {s : State} → StateKeeps k s → Reads s b (width_of k) mem i → Back k s b mem i
  row_back (of-processor {p = p} {s = s} h) r = record {
    state = λ j. of_processor (record {
      phase = (ap working_of r.phase ∙ working-back s.phase) j;
      timer = timed s.timer (passes (timer-decides s.timer) h.timer) r.timer j;
      queue = ((λ n. queue_in (r.held n) (r.own n)) ∙ filled-queue s.queue) j;
    });
    words = transport (λ j. All T (word_rules (processor p) (sym r.phase j) (sym r.timer j) (sym r.held j) (sym r.own j)))
        (low s.phase & le→leb (length s.queue) 64 h.length_most & filled-clear s.queue & nil);
  }
    where
      low : (p : ProcessorPhase) → T (ltb (working_number p) 2)
      low working.Passive = tt
      low working.Active = tt
  row_back (of-batcher {b = m} {s = s} h) r = record {
    state = λ j. of_batcher (record {
      phase = (ap batching_of r.phase ∙ batching-back s.phase) j;
      timer = timed s.timer (passes (timer-decides s.timer) h.timer) r.timer j;
      jobs = ((λ n. queue_in (r.held n) (r.own n)) ∙ filled-queue s.jobs) j;
    });
    words = transport (λ j. All T (word_rules (batcher m) (sym r.phase j) (sym r.timer j) (sym r.held j) (sym r.own j)))
        (low s.phase & le→leb (length s.jobs) 64 h.length_most & filled-clear s.jobs & nil);
  }
    where
      low : (p : BatcherPhase) → T (ltb (batching_number p) 3)
      low batching.Passive = tt
      low batching.Batching = tt
      low batching.Release = tt
  row_back (of-stopwatch {w = w} {s = s} h) r = go (parts (stopwatch_rules s) (passes (stopwatch-decides s) h))
    where
      low : (p : StopwatchPhase) → T (ltb (watching_number p) 2)
      low watching.Passive = tt
      low watching.JobFetch = tt

      go : All T (stopwatch_rules s) → Back (stopwatch w) (of_stopwatch s) b mem i
      go (timer & few & fit & apart & nil) = record {
        state = λ j. of_stopwatch (record {
          phase = (ap watching_of r.phase ∙ watching-back s.phase) j;
          timer = timed s.timer timer r.timer j;
          jobs = ((λ n. jobs_in (r.held n) (r.own n)) ∙ jobs-back s.jobs h.length_most fit apart) j;
        });
        words = transport (λ j. All T (word_rules (stopwatch w) (sym r.phase j) (sym r.timer j) (sym r.held j) (sym r.own j)))
            (low s.phase & fit-back s.jobs h.length_most fit apart & unused-back s.jobs h.length_most & nil);
      }
  row_back (of-coupled {parked = parked} h) r = record {
    state = ap of_coupled (ap (map parked_of) ((λ n. queue_in (held n) (r.own n)) ∙ filled-queue (map parked_word parked)) ∙ all_back h.1);
    words = transport (λ j. All T (word_rules coupled (sym r.phase j) (sym r.timer j) (sym held j) (sym r.own j)))
        (tt & tt & le→leb (length (map parked_word parked)) 64 (let l = length-map parked parked_word in let f = h.0 in omega arith) & filled-clear (map parked_word parked) & nil);
  }
    where
      held : held_in mem i ≡ length (map parked_word parked)
      held = r.held ∙ sym (length-map parked parked_word)

-- ---- all rows: the heads and the own words, each at its place
abbrev head_of : State → ℕ → List ℕ
head_of s begin = phase_word s ∷ timer_word s ∷ held_word s ∷ begin ∷ []

heads-long : (begin : ℕ) (states : List State) → length (heads begin states) ≡ length states * 4
heads-long begin [] = refl
heads-long begin (s ∷ ss) = let h = heads-long (begin + own_width s) ss in omega arith

-- each row has a state of its kind
abbrev Keep : List table.Row → List State → Type 0
Keep rows states = (i : ℕ) → StateKeeps (get_or rows i no_row).kind (state_at states i)

heads-read : (rows : List table.Row) (states : List State) (begin : ℕ) (more : List ℕ) → length states ≡ length rows → Keep rows states → (i c : ℕ) → i < length rows → c < 4
    → get_or (heads begin states ++ more) (i * 4 + c) 0 ≡ get_or (head_of (state_at states i) (begin + widths_of rows i)) c 0
heads-read [] ss begin more long keep i c l m = absurd (omega arith)
heads-read (r ∷ rs) [] begin more long keep i c l m = absurd (omega arith)
heads-read (r ∷ rs) (s ∷ ss) begin more long keep zero c l m =
    ap (λ (n : ℕ). get_or (heads begin (s ∷ ss) ++ more) n 0) (zero-add c)
    ∙ get_or-append (head_of s begin) (heads (begin + own_width s) ss ++ more) 0 c m
    ∙ ap (λ (n : ℕ). get_or (head_of s n) c 0) (sym (add-zero begin))
heads-read (r ∷ rs) (s ∷ ss) begin more long keep (suc i) c l m =
    let place : suc i * 4 + c ≡ suc (suc (suc (suc (i * 4 + c)))) = omega arith in
    let next : begin + own_width s + widths_of rs i ≡ begin + (width_of r.kind + widths_of rs i) = (let w = wide-as (keep 0) in omega arith) in
    ap (λ (n : ℕ). get_or (heads begin (s ∷ ss) ++ more) n 0) place
    ∙ heads-read rs ss (begin + own_width s) more (omega arith) (λ j. keep (suc j)) i c (omega arith) m
    ∙ ap (λ (n : ℕ). get_or (head_of (state_at ss i) n) c 0) next

-- the words from the row i's own on
owns-from : (rows : List table.Row) (states : List State) (more : List ℕ) → length states ≡ length rows → Keep rows states → (i : ℕ) → i ≤ length rows
    → drop (widths_of rows i) (owns states ++ more) ≡ owns (drop i states) ++ more
owns-from rows ss more long keep zero l = refl
owns-from [] ss more long keep (suc i) l = absurd (omega arith)
owns-from (r ∷ rs) [] more long keep (suc i) l = absurd (omega arith)
owns-from (r ∷ rs) (s ∷ ss) more long keep (suc i) l =
    sym (drop-drop (widths_of rs i) (width_of r.kind) (owns (s ∷ ss) ++ more))
    ∙ ap (λ (ws : List ℕ). drop (widths_of rs i) (drop (width_of r.kind) ws)) (append_assoc (own_words s) (owns ss) more)
    ∙ ap (drop (widths_of rs i)) (drop_at (own_words s) (owns ss ++ more) (width_of r.kind) (long_as (keep 0)))
    ∙ owns-from rs ss more (omega arith) (λ j. keep (suc j)) i (omega arith)

owns-long : (rows : List table.Row) (states : List State) → length states ≡ length rows → Keep rows states → length (owns states) ≡ widths_of rows (length rows)
owns-long [] [] long keep = refl
owns-long [] (s ∷ ss) long keep = absurd (omega arith)
owns-long (r ∷ rs) [] long keep = absurd (omega arith)
owns-long (r ∷ rs) (s ∷ ss) long keep =
    let h = owns-long rs ss (omega arith) (λ j. keep (suc j)) in
    let w = long_as (keep 0) in
    let a = length-append (own_words s) (owns ss) in
    omega arith

-- ---- messages written out are read back
messages-back : (at : ℕ) (mem : List ℕ) (messages : List Message) (more : List ℕ) (k : ℕ) → All MessageFits messages → drop (at + k * 6) mem ≡ written_all messages ++ more → map (message_in at mem) (from k (length messages)) ≡ messages
unfolding written
messages-back at mem [] more k fit e = refl
messages-back at mem (m ∷ ms) more k (h & fit) e = λ i. one i ∷ messages-back at mem ms more (suc k) fit next i
  where
    word : (c w : ℕ) → get_or ((written m ++ written_all ms) ++ more) c 0 ≡ w → word_at mem (at + k * 6 + c) ≡ w
    word c w is = sym (get_or-drop (at + k * 6) mem c 0) ∙ ap (λ (ws : List ℕ). get_or ws c 0) e ∙ is

    one : message_in at mem k ≡ m
    one = λ i. record {
      source_id = (ap (word_at mem) (sym (add-zero (at + k * 6))) ∙ word 0 m.source_id refl) i;
      source_port = word 1 m.source_port refl i;
      target_id = word 2 m.target_id refl i;
      target_port = word 3 m.target_port refl i;
      time = (ap (of_bits binary64) (word 4 (to_bits binary64 m.time) refl) ∙ of_bits-to_bits binary64 m.time (time-fits m.time (tells (message-decides m) h).1.1.1.1.0)) i;
      content = word 5 m.content refl i;
    }

    next : drop (at + suc k * 6) mem ≡ written_all ms ++ more
    next =
        let place : at + suc k * 6 ≡ at + k * 6 + 6 = omega arith in
        ap (λ (n : ℕ). drop n mem) place ∙ sym (drop-drop 6 (at + k * 6) mem) ∙ ap (drop 6) e

-- ---- the whole: three words, the heads, the rows' own words, the messages, and any words after them
module _ (sim : Simulation) (rest : List ℕ) (ok : Valid sim) where
  abbrev t : Table
  t = sim.table

  abbrev beyond : List ℕ
  beyond = owns sim.states ++ (written_all sim.active ++ rest)

  abbrev mem : List ℕ
  mem = length sim.active ∷ to_bits binary64 sim.clock ∷ sim.place ∷ (heads (head_at (length sim.states)) sim.states ++ beyond)

  spread : changing sim ++ rest ≡ mem
  unfolding changing
  spread =
      ap (λ (ws : List ℕ). length sim.active ∷ to_bits binary64 sim.clock ∷ sim.place ∷ ws)
      (append_assoc (heads (head_at (length sim.states)) sim.states) (owns sim.states ++ written_all sim.active) rest
      ∙ ap (λ (ws : List ℕ). heads (head_at (length sim.states)) sim.states ++ ws) (append_assoc (owns sim.states) (written_all sim.active) rest))

  keep : Keep t.rows sim.states
  keep i = tells (state-decides (kind_at t i) (state_at sim.states i)) (ok.fitted.fit i)

  same : length sim.states ≡ length t.rows
  same = ok.fitted.same

  heads-end : length (heads (head_at (length sim.states)) sim.states) ≡ length t.rows * 4
  heads-end = heads-long (head_at (length sim.states)) sim.states ∙ ap (λ (n : ℕ). n * 4) same

  -- past the heads
  past-heads : (n : ℕ) → drop (head_at (length t.rows) + n) mem ≡ drop n beyond
  past-heads n =
      let place : head_at (length t.rows) + n ≡ suc (suc (suc (length t.rows * 4 + n))) = omega arith in
      ap (λ (m : ℕ). drop m mem) place
      ∙ ap (λ (m : ℕ). drop (m + n) (heads (head_at (length sim.states)) sim.states ++ beyond)) (sym heads-end)
      ∙ drop-append-add (heads (head_at (length sim.states)) sim.states) beyond n

  head-word : (i c : ℕ) → i < length t.rows → c < 4 → word_at mem (head_at i + c) ≡ get_or (head_of (state_at sim.states i) (begin_of t i)) c 0
  head-word i c l m =
      let place : head_at i + c ≡ suc (suc (suc (i * 4 + c))) = omega arith in
      ap (word_at mem) place
      ∙ heads-read t.rows sim.states (head_at (length sim.states)) beyond same keep i c l m
      ∙ ap (λ (n : ℕ). get_or (head_of (state_at sim.states i) (head_at n + widths_of t.rows i)) c 0) same

  own-words : (i : ℕ) → i < length t.rows → own_in (begin_of t i) (width_of (kind_at t i)) mem ≡ own_words (state_at sim.states i)
  own-words i l =
      let after = written_all sim.active ++ rest in
      let m : i < length sim.states = (let s = same in omega arith) in
      ap (take (width_of (kind_at t i)))
      (past-heads (widths_of t.rows i) ∙ owns-from t.rows sim.states after same keep i (omega arith)
      ∙ ap (λ (ss : List State). owns ss ++ after) (drop-cons sim.states i (of_coupled []) m)
      ∙ append_assoc (own_words (state_at sim.states i)) (owns (drop (suc i) sim.states)) after)
      ∙ take_at (own_words (state_at sim.states i)) (owns (drop (suc i) sim.states) ++ after) (width_of (kind_at t i)) (long_as (keep i))

  back_at : (i : ℕ) → i < length t.rows → Back (kind_at t i) (state_at sim.states i) (begin_of t i) mem i
  back_at i l = row_back (begin_of t i) mem i (keep i) (record {
    phase = ap (word_at mem) (sym (add-zero (head_at i))) ∙ head-word i 0 l (omega arith);
    timer = head-word i 1 l (omega arith);
    held = head-word i 2 l (omega arith);
    own = own-words i l;
  })

  states-back : states_in t mem ≡ sim.states
  states-back = states-are t mem sim.states same (λ i l. sym (back_at i l).state)

  past-rows : drop (end_of t) mem ≡ written_all sim.active ++ rest
  past-rows =
      past-heads (widths_of t.rows (length t.rows))
      ∙ drop_at (owns sim.states) (written_all sim.active ++ rest) (widths_of t.rows (length t.rows)) (owns-long t.rows sim.states same keep)

  active-back : active_in t mem ≡ sim.active
  active-back =
      let place : end_of t + 0 * 6 ≡ end_of t = omega arith in
      messages-back (end_of t) mem sim.active rest 0 ok.active (ap (λ (n : ℕ). drop n mem) place ∙ past-rows)

  clock-back : clock_in mem ≡ sim.clock
  clock-back = of_bits-to_bits binary64 sim.clock (time-fits sim.clock ok.clock)

  sim-back : sim_in t mem ≡ sim
  sim-back = λ i. record { table = t; states = states-back i; active = active-back i; clock = clock-back i; place = sim.place }

  mem_long : end_of t + length sim.active * 6 ≤ length mem
  mem_long =
      let h = heads-end in
      let o = owns-long t.rows sim.states same keep in
      let w = written-long sim.active in
      let a = length-append (heads (head_at (length sim.states)) sim.states) beyond in
      let b = length-append (owns sim.states) (written_all sim.active ++ rest) in
      let d = length-append (written_all sim.active) rest in
      omega arith

  mem-holds : Holds t mem
  mem-holds = record {
    ready = record {
      laid = record {
        room = (let l = mem_long in omega arith);
        begins = λ i l. head-word i 3 l (omega arith);
        words = λ i l. (back_at i l).words;
      };
      good = (subst (Fitted t) (sym states-back) ok.fitted, ok.place);
    };
    few = ok.few;
    active = subst (All MessageFits) (sym active-back) ok.active;
    clock = subst (λ (x : Float). T (is_time x)) (sym clock-back) ok.clock;
    room = mem_long;
  }

pub read_back : (sim : Simulation) (rest : List ℕ) → T (is_valid sim) → sim_in sim.table (changing sim ++ rest) ≡ sim
read_back sim rest ok = let v = valid-of sim ok in ap (sim_in sim.table) (spread sim rest v) ∙ sim-back sim rest v

pub laid-holds : (sim : Simulation) (rest : List ℕ) → T (is_valid sim) → Holds sim.table (changing sim ++ rest)
laid-holds sim rest ok = let v = valid-of sim ok in subst (Holds sim.table) (sym (spread sim rest v)) (mem-holds sim rest v)

pub laid-ready : (sim : Simulation) (rest : List ℕ) → T (is_valid sim) → Ready sim.table (changing sim ++ rest)
laid-ready sim rest ok = (laid-holds sim rest ok).ready

-- ---- a state that a call lays: its parts, by where they stand
module _ (rows links inner : ℕ) (models connectors couplings tail : List ℕ) where
  abbrev laid : List ℕ
  laid = rows ∷ links ∷ inner ∷ (models ++ (connectors ++ (couplings ++ tail)))

  module _ (models-are : length models ≡ rows * 10) (connectors-are : length connectors ≡ links * 4) (couplings-are : length couplings ≡ inner * 6) where
    after-models : drop (connectors_at laid) laid ≡ connectors ++ (couplings ++ tail)
    after-models =
        let place : connectors_at laid ≡ suc (suc (suc (rows * 10))) = omega arith in
        ap (λ (n : ℕ). drop n laid) place ∙ drop_at models (connectors ++ (couplings ++ tail)) (rows * 10) models-are

    after-connectors : drop (couplings_at laid) laid ≡ couplings ++ tail
    after-connectors =
        sym (drop-drop (links * 4) (connectors_at laid) laid) ∙ ap (drop (links * 4)) after-models ∙ drop_at connectors (couplings ++ tail) (links * 4) connectors-are

    tail-is : tail_in laid ≡ tail
    tail-is = sym (drop-drop (inner * 6) (couplings_at laid) laid) ∙ ap (drop (inner * 6)) after-connectors ∙ drop_at couplings tail (inner * 6) couplings-are

    posted-is : posted_in laid ≡ lent models connectors couplings
    posted-is = λ i. lent
        (take_at models (connectors ++ (couplings ++ tail)) (rows * 10) models-are i)
        ((ap (take (links * 4)) after-models ∙ take_at connectors (couplings ++ tail) (links * 4) connectors-are) i)
        ((ap (take (inner * 6)) after-connectors ∙ take_at couplings tail (inner * 6) couplings-are) i)

    tail-there : tail_at laid ≤ length laid
    tail-there =
        let a = length-append models (connectors ++ (couplings ++ tail)) in
        let b = length-append connectors (couplings ++ tail) in
        let d = length-append couplings tail in
        omega arith

-- ---- it is one that 20 lets pass, and holds its simulation
module _ (models connectors couplings buffer : List ℕ) (sim : Simulation) (e : intake (lent models connectors couplings) ≡ passed sim.table) (ok : T (is_valid sim))
    (room : state_words (length models / 10) (length connectors / 4) (length couplings / 6) ≤ length buffer) where
  abbrev rest : List ℕ
  rest = drop (length (laid_state models connectors couplings sim)) buffer

  abbrev state : List ℕ
  state = laid (length models / 10) (length connectors / 4) (length couplings / 6) models connectors couplings (changing sim ++ rest)

  state-is : over (laid_state models connectors couplings sim) buffer ≡ state
  state-is =
      ap (λ (ws : List ℕ). length models / 10 ∷ length connectors / 4 ∷ length couplings / 6 ∷ ws)
      (append_assoc models (connectors ++ (couplings ++ changing sim)) rest
      ∙ ap (λ (ws : List ℕ). models ++ ws) (append_assoc connectors (couplings ++ changing sim) rest ∙ ap (λ (ws : List ℕ). connectors ++ ws) (append_assoc couplings (changing sim) rest)))

  long : length buffer ≤ length state
  long =
      let a = length-append (laid_state models connectors couplings sim) rest in
      let d = length-drop (length (laid_state models connectors couplings sim)) buffer in
      let s = ap length state-is in
      omega arith

  rows_whole : length models ≡ length models / 10 * 10
  rows_whole = omega (arith, models-long models connectors couplings sim.table e)

  links-whole : length connectors ≡ length connectors / 4 * 4
  links-whole = omega (arith, connectors-long models connectors couplings sim.table e)

  inner-whole : length couplings ≡ length couplings / 6 * 6
  inner-whole = omega (arith, couplings-long models connectors couplings sim.table e)

  posted : posted_in state ≡ lent models connectors couplings
  posted = posted-is (length models / 10) (length connectors / 4) (length couplings / 6) models connectors couplings (changing sim ++ rest) rows_whole links-whole inner-whole

  tail : tail_in state ≡ changing sim ++ rest
  tail = tail-is (length models / 10) (length connectors / 4) (length couplings / 6) models connectors couplings (changing sim ++ rest) rows_whole links-whole inner-whole

  table_is : table_in state ≡ sim.table
  table_is = ap whole_table posted ∙ sym ((intake-exactly (lent models connectors couplings) (passed sim.table)).0 e).4

  inside : Inside state
  inside = record {
    room = tail-there (length models / 10) (length connectors / 4) (length couplings / 6) models connectors couplings (changing sim ++ rest) rows_whole links-whole inner-whole;
    passes = ap intake posted ∙ e ∙ ap passed (sym table_is);
  }

  holds : Holds (table_in state) (tail_in state)
  holds = transport (λ i. Holds (sym table_is i) (sym tail i)) (laid-holds sim rest ok)

  stored : T (is_stored state) × (sim_of state ≡ sim)
  stored = (is-stored state (holds-stored state inside holds) (let l = long in omega arith), (λ i. sim_in (table_is i) (tail i)) ∙ read_back sim rest ok)

  pub laid-stored : T (is_stored (over (laid_state models connectors couplings sim) buffer)) × (sim_of (over (laid_state models connectors couplings sim) buffer) ≡ sim)
  laid-stored = subst (λ (words : List ℕ). T (is_stored words) × (sim_of words ≡ sim)) (sym state-is) stored

pub kept-stored : (state : List ℕ) (sim : Simulation) → T (is_stored state) → sim.table ≡ table_in state → T (is_valid sim) → T (is_stored (kept state sim)) × (sim_of (kept state sim) ≡ sim)
kept-stored state sim stored same ok =
    let inside = stored-inside state stored in
    let (rows, links, inner) = counted state inside in
    laid-stored (models_in state) (connectors_in state) (couplings_in state) state sim (inside.passes ∙ ap passed (sym same)) ok (let l = stored-long state stored in omega arith)
