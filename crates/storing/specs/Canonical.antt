-- Words that are laid out as the table says are those that the layout makes of the simulation in them: a row's own words, its head, all rows, the whole. Assumes nothing.
use Rattle.std.specs.Prelude.{ℕ, zero, suc, ◌+◌, ◌-◌, ◌*◌, ◌/◌, ◌^◌, ◌≤◌, ◌<◌, ◌≡◌, refl, Bool, List, [], ◌∷◌, ◌++◌, map, length, get_or, take, drop, T, leb, eqb, Float, None, Option, Some}
use Rattle.std.proofs.Common.{sym, ap, subst, ◌∙◌, inl, inr, add-zero, zero-add, div-add-mod', arith, length-drop, take-append-drop, length-take-le, drop-cons, drop-drop, take-add, take_all, leb→le, ltb→lt, eqb→eq}
use Rattle.std.proofs.lemmas.Simd.{map-map}
use Rattle.std.proofs.Math.Nat.{div-div-eq-div-mul}
use Rattle.std.proofs.lemmas.List.{length-map}
use Rattle.std.specs.Float.{binary64}
use Rattle.std.specs.Float.Ieee.{of_bits, to_bits}
use Rattle.std.specs.Float.Ieee.Bits.{is_true}
use Rattle.std.specs.Float.Ieee.Fits.{and_l, and_r}
use Rattle.times.specs.Time.{is_time, is_timer}
use Rattle.times.proofs.Laws.{timer-split, timer-clear, time-timer}
use Rattle.times.proofs.Patterns.{clear-bits}
use Rattle.times.specs.Answers.{time_of_bits}
use Rattle.times.proofs.AnswerLaws.{bad-says, bits-kept}
use Rattle.rules.specs.Base.{every, from}
use Rattle.rules.specs.Table.{Kind, processor, batcher, stopwatch, coupled, Table, kind_at}
use Rattle.rules.specs.Simulation.{Marks, State}
use Rattle.rules.specs.Ends.{if-both, All, nil, ◌&◌, all_map, every-all}
use Rattle.rules.proofs.Least.{fits-timer}
use Rattle.rules.proofs.Worlds.{MessageFits}
use Rattle.words.specs.Queue.{queue_in, unused_clear}
use Rattle.words.specs.QueueLaws.{queue-length}
use Rattle.words.specs.Lists.{part_length, length-lines, map-from}
use Rattle.marks.specs.Jobs.{time_in, mark_in, job_at, jobs_in, mark_fits, words_fit, fit_in}
use Rattle.marks.specs.MarkingLaws.{jobs-length, fit-rules, whole_says, unused_in, unused-says}
use Rattle.memory.specs.Words.{word_at, head_at, phase_in, timer_in, held_in, begin_in, width_of, own_in}
use Rattle.memory.specs.View.{working_of, batching_of, watching_of, working_number, batching_number, watching_number, parked_of, state_in, word_rules, Row}
use Rattle.lookup.specs.InsideLaws.{place-keeps}
use Rattle.views.specs.World.{begin_of, end_of, state_of, states_in, Ready}
use Rattle.views.proofs.WorldLayout.{states-long, row_of, head-begin, begin-end}
use Rattle.views.specs.MessageLaws.{messages-long}
use Rattle.copying.specs.CopiedLaws.{messages-written}
use Rattle.stepping.specs.Simulating.{clock_in, active_in, sim_in}
use Rattle.copying.specs.EndLaws.{widths-next}
use Rattle.storing.specs.State.{zeros, filled, mark_word, parked_word, own_words, phase_word, timer_word, held_word, own_width, heads, owns, changing}

-- ---- a test that every place passes
pub at_each : (test : ℕ → Bool) (n : ℕ) → T (every test (from 0 n)) → (k : ℕ) → k < n → T (test k)
at_each test n t = place-keeps T test n (all_map {R = T} test (every-all test (from 0 n) t) (λ j h. h))

-- ---- a column of 64 places
clear-zeros : (words : List ℕ) → T (every (λ w. eqb w 0) words) → words ≡ zeros (length words)
clear-zeros [] t = refl
clear-zeros (w ∷ ws) t = let z = if-both (eqb w 0) (every (λ w. eqb w 0) ws) t in λ i. eqb→eq w 0 z.0 i ∷ clear-zeros ws z.1 i

queue-filled : (held : ℕ) (words : List ℕ) → length words ≡ 64 → held ≤ 64 → T (unused_clear held words) → filled (queue_in held words) ≡ words
queue-filled held words long few clear =
    ap (λ (n : ℕ). take held words ++ zeros (64 - n)) (length-take-le held words (omega arith))
    ∙ ap (λ (n : ℕ). take held words ++ zeros n) (sym (length-drop held words ∙ ap (λ (n : ℕ). n - held) long))
    ∙ ap (λ (z : List ℕ). take held words ++ z) (sym (clear-zeros (drop held words) clear))
    ∙ take-append-drop held words

-- the words from p on, one by one, and those among them that are 0
module _ (words : List ℕ) where
  words-read : (p k n : ℕ) → p + k + n ≤ length words → map (λ j. get_or words (p + j) 0) (from k n) ≡ take n (drop (p + k) words)
  words-read p k zero room = refl
  words-read p k (suc n) room =
      let l : p + k < length words = omega arith in
      let e : p + suc k ≡ suc (p + k) = omega arith in
      rw (drop-cons words (p + k) 0 l) (ap (λ (ws : List ℕ). get_or words (p + k) 0 ∷ ws) (words-read p (suc k) n (omega arith) ∙ ap (λ (q : ℕ). take n (drop q words)) e))

  zeros-read : (p n : ℕ) → p + n ≤ length words → ((k : ℕ) → p ≤ k → k < p + n → get_or words k 0 ≡ 0) → zeros n ≡ take n (drop p words)
  zeros-read p zero room clear = refl
  zeros-read p (suc n) room clear =
      let l : p < length words = omega arith in
      rw (drop-cons words p 0 l, clear p (omega arith) (omega arith)) (ap (λ (ws : List ℕ). 0 ∷ ws) (zeros-read (suc p) n (omega arith) (λ k a b. clear k (omega arith) (omega arith))))

  column-filled : (p held : ℕ) (f : ℕ → ℕ) → p + 64 ≤ length words → held ≤ 64 → ((k : ℕ) → k < held → f k ≡ get_or words (p + k) 0)
      → ((k : ℕ) → held ≤ k → k < 64 → get_or words (p + k) 0 ≡ 0) → filled (map f (from 0 held)) ≡ take 64 (drop p words)
  column-filled p held f room few same clear =
      let whole : held + (64 - held) ≡ 64 = omega arith in
      ap (λ (n : ℕ). map f (from 0 held) ++ zeros (64 - n)) (length-lines f held)
      ∙ (λ i. jobs i ++ zeros-read (p + held) (64 - held) (omega arith) beyond i)
      ∙ ap (λ (ws : List ℕ). take held (drop p words) ++ take (64 - held) ws) (sym (drop-drop held p words))
      ∙ sym (take-add held (64 - held) (drop p words))
      ∙ ap (λ (n : ℕ). take n (drop p words)) whole
    where
      jobs : map f (from 0 held) ≡ take held (drop p words)
      jobs =
          map-from f (λ k. get_or words (p + k) 0) 0 held (λ j a b. same j (omega arith))
          ∙ words-read p 0 held (omega arith)
          ∙ ap (λ (q : ℕ). take held (drop q words)) (add-zero p)

      beyond : (k : ℕ) → p + held ≤ k → k < p + held + (64 - held) → get_or words k 0 ≡ 0
      beyond k a b = let e : k ≡ p + (k - p) = omega arith in ap (λ (n : ℕ). get_or words n 0) e ∙ clear (k - p) (omega arith) (omega arith)

-- ---- a mark, a timer, a phase and a parked message are read from the words that they make
mark-kept : (word : ℕ) → T (mark_fits word) → mark_word (mark_in word) ≡ word
mark-kept word t = go (time_of_bits word) refl
  where
    go : (read : Option Float) → time_of_bits word ≡ read → mark_word (time_in read) ≡ word
    go (Some x) e = bits-kept word x e
    go None e = elim (timer-split (of_bits binary64 word) t) [
      | inl u ↦ absurd (subst T (bad-says word e) u)
      | inr n ↦ ap (to_bits binary64) (sym n) ∙ clear-bits word (timer-clear (of_bits binary64 word) t)
    ]

working-kept : (n : ℕ) → n < 2 → working_number (working_of n) ≡ n
working-kept zero l = refl
working-kept (suc zero) l = refl
working-kept (suc (suc n)) l = absurd (omega arith)

batching-kept : (n : ℕ) → n < 3 → batching_number (batching_of n) ≡ n
batching-kept zero l = refl
batching-kept (suc zero) l = refl
batching-kept (suc (suc zero)) l = refl
batching-kept (suc (suc (suc n))) l = absurd (omega arith)

watching-kept : (n : ℕ) → n < 2 → watching_number (watching_of n) ≡ n
watching-kept zero l = refl
watching-kept (suc zero) l = refl
watching-kept (suc (suc n)) l = absurd (omega arith)

parked-kept : (word : ℕ) → parked_word (parked_of word) ≡ word
parked-kept word =
    let low = div-add-mod' word (2 ^ 32) in
    let high = div-add-mod' (word / 2 ^ 32) (2 ^ 16) in
    let top = div-div-eq-div-mul word (2 ^ 32) (2 ^ 16) in
    omega arith

all-parked : (words : List ℕ) → map parked_word (map parked_of words) ≡ words
all-parked [] = refl
all-parked (w ∷ ws) = λ i. parked-kept w i ∷ all-parked ws i

-- ---- a stopwatch's three columns
module _ (held : ℕ) (own : List ℕ) (fit : T (fit_in held own)) (unused : T (unused_in held own)) (long : length own ≡ 192) where
  few : held ≤ 64
  few = (whole_says held own (fit-rules held own (is_true (fit_in held own) fit)).whole).0

  marks-fit : (k : ℕ) → k < held → T (words_fit own k)
  marks-fit = at_each (words_fit own) held (fit-rules held own (is_true (fit_in held own) fit)).timers

  -- what is made of each job, by its place
  made : (f : Marks → ℕ) → filled (map f (jobs_in held own)) ≡ filled (map (λ k. f (job_at own k)) (from 0 held))
  made f = ap filled (map-map f (job_at own) (from 0 held))

  names-filled : filled (map (λ (j : Marks). j.name) (jobs_in held own)) ≡ take 64 (drop 0 own)
  names-filled =
      made (λ j. j.name)
      ∙ column-filled own 0 held (λ k. get_or own k 0) (omega arith) few (λ k l. let e : k ≡ 0 + k = omega arith in ap (λ (n : ℕ). get_or own n 0) e)
      (λ k a b. let e : 0 + k ≡ k = omega arith in ap (λ (n : ℕ). get_or own n 0) e ∙ (unused-says held own unused k a b).0)

  starts-filled : filled (map (λ (j : Marks). mark_word j.start) (jobs_in held own)) ≡ take 64 (drop 64 own)
  starts-filled =
      made (λ j. mark_word j.start)
      ∙ column-filled own 64 held (λ k. mark_word (mark_in (get_or own (64 + k) 0))) (omega arith) few
      (λ k l. mark-kept (get_or own (64 + k) 0) (and_l (mark_fits (get_or own (64 + k) 0)) (mark_fits (get_or own (128 + k) 0)) (marks-fit k l)))
      (λ k a b. (unused-says held own unused k a b).1)

  stops-filled : filled (map (λ (j : Marks). mark_word j.stop) (jobs_in held own)) ≡ take 64 (drop 128 own)
  stops-filled =
      made (λ j. mark_word j.stop)
      ∙ column-filled own 128 held (λ k. mark_word (mark_in (get_or own (128 + k) 0))) (omega arith) few
      (λ k l. mark-kept (get_or own (128 + k) 0) (and_r (mark_fits (get_or own (64 + k) 0)) (mark_fits (get_or own (128 + k) 0)) (marks-fit k l)))
      (λ k a b. (unused-says held own unused k a b).2)

  columns-filled : filled (map (λ (j : Marks). j.name) (jobs_in held own)) ++ filled (map (λ (j : Marks). mark_word j.start) (jobs_in held own)) ++ filled (map (λ (j : Marks). mark_word j.stop) (jobs_in held own)) ≡ own
  columns-filled =
      (λ i. names-filled i ++ starts-filled i ++ stops-filled i)
      ∙ ap (λ (ws : List ℕ). ws ++ take 64 (drop 128 own)) (sym (take-add 64 64 own))
      ∙ sym (take-add 128 64 own)
      ∙ take_all 192 own (omega arith)

-- ---- one row, of any kind: the words of its state are its own
record Kept (s : State) (b width : ℕ) (mem : List ℕ) (i : ℕ) : Type 0 where
  phase : phase_word s ≡ phase_in mem i
  timer : timer_word s ≡ timer_in mem i
  held : held_word s ≡ held_in mem i
  wide : own_width s ≡ width
  own : own_words s ≡ own_in b width mem

module _ (b : ℕ) (mem : List ℕ) (i : ℕ) where
  timer-kept : T (is_timer (of_bits binary64 (timer_in mem i))) → to_bits binary64 (of_bits binary64 (timer_in mem i)) ≡ timer_in mem i
  timer-kept t = clear-bits (timer_in mem i) (timer-clear (of_bits binary64 (timer_in mem i)) t)

  module _ (room : b + 64 ≤ length mem) (few : T (leb (held_in mem i) 64)) where
    queue_long : length (queue_in (held_in mem i) (own_in b 64 mem)) ≡ held_in mem i
    queue_long = queue-length (held_in mem i) (own_in b 64 mem) (let l = part_length b 64 mem room in let f = leb→le (held_in mem i) 64 few in omega arith)

    queue-own : T (unused_clear (held_in mem i) (own_in b 64 mem)) → filled (queue_in (held_in mem i) (own_in b 64 mem)) ≡ own_in b 64 mem
    queue-own clear = queue-filled (held_in mem i) (own_in b 64 mem) (part_length b 64 mem room) (leb→le (held_in mem i) 64 few) clear

  row_kept : (k : Kind) → Row k b mem i → Kept (state_in k b mem i) b (width_of k) mem i
  row_kept (processor p) r = go r.words
    where
      go : All T (word_rules (processor p) (phase_in mem i) (timer_in mem i) (held_in mem i) (own_in b 64 mem)) → Kept (state_in (processor p) b mem i) b 64 mem i
      go (phase & few & clear & nil) = record {
        phase = working-kept (phase_in mem i) (ltb→lt (phase_in mem i) 2 phase);
        timer = timer-kept (fits-timer (processor p) (state_in (processor p) b mem i) r.fits);
        held = queue_long r.placed.room few;
        wide = refl;
        own = queue-own r.placed.room few clear;
      }
  row_kept (batcher m) r = go r.words
    where
      go : All T (word_rules (batcher m) (phase_in mem i) (timer_in mem i) (held_in mem i) (own_in b 64 mem)) → Kept (state_in (batcher m) b mem i) b 64 mem i
      go (phase & few & clear & nil) = record {
        phase = batching-kept (phase_in mem i) (ltb→lt (phase_in mem i) 3 phase);
        timer = timer-kept (fits-timer (batcher m) (state_in (batcher m) b mem i) r.fits);
        held = queue_long r.placed.room few;
        wide = refl;
        own = queue-own r.placed.room few clear;
      }
  row_kept (stopwatch w) r = go r.words
    where
      go : All T (word_rules (stopwatch w) (phase_in mem i) (timer_in mem i) (held_in mem i) (own_in b 192 mem)) → Kept (state_in (stopwatch w) b mem i) b 192 mem i
      go (phase & fit & unused & nil) = record {
        phase = watching-kept (phase_in mem i) (ltb→lt (phase_in mem i) 2 phase);
        timer = timer-kept (fits-timer (stopwatch w) (state_in (stopwatch w) b mem i) r.fits);
        held = jobs-length (held_in mem i) (own_in b 192 mem);
        wide = refl;
        own = columns-filled (held_in mem i) (own_in b 192 mem) fit unused (part_length b 192 mem r.placed.room);
      }
  row_kept coupled r = go r.words
    where
      go : All T (word_rules coupled (phase_in mem i) (timer_in mem i) (held_in mem i) (own_in b 64 mem)) → Kept (state_in coupled b mem i) b 64 mem i
      go (phase & timer & few & clear & nil) = record {
        phase = sym (eqb→eq (phase_in mem i) 0 phase);
        timer = sym (eqb→eq (timer_in mem i) 0 timer);
        held = length-map (queue_in (held_in mem i) (own_in b 64 mem)) parked_of ∙ queue_long r.placed.room few;
        wide = refl;
        own = ap filled (all-parked (queue_in (held_in mem i) (own_in b 64 mem))) ∙ queue-own r.placed.room few clear;
      }

-- ---- all rows, in order
begin-next : (t : Table) (i : ℕ) → i < length t.rows → begin_of t (suc i) ≡ begin_of t i + width_of (kind_at t i)
begin-next t i l = let h = widths-next t.rows i l in omega arith

-- words taken in two parts
pub cut : (p a c q : ℕ) (mem : List ℕ) → p + a ≡ q → take (a + c) (drop p mem) ≡ take a (drop p mem) ++ take c (drop q mem)
cut p a c q mem e = take-add a c (drop p mem) ∙ ap (λ (ws : List ℕ). take a (drop p mem) ++ take c ws) (drop-drop a p mem ∙ ap (λ (n : ℕ). drop n mem) e)

-- and one by one
one_word : (mem : List ℕ) (n p q : ℕ) {ws : List ℕ} → p < length mem → suc p ≡ q → take n (drop q mem) ≡ ws → take (suc n) (drop p mem) ≡ word_at mem p ∷ ws
one_word mem n p q l e h = rw (drop-cons mem p 0 l, e) (ap (λ (ws : List ℕ). word_at mem p ∷ ws) h)

pub three-words : (mem : List ℕ) (p : ℕ) → p + 3 ≤ length mem → take 3 (drop p mem) ≡ word_at mem p ∷ word_at mem (p + 1) ∷ word_at mem (p + 2) ∷ []
three-words mem p room =
    one_word mem 2 p (p + 1) (omega arith) (omega arith) (one_word mem 1 (p + 1) (p + 2) (omega arith) (omega arith) (one_word mem 0 (p + 2) (p + 3) (omega arith) (omega arith) refl))

module _ (t : Table) (mem : List ℕ) (ready : Ready t mem) where
  kept_at : (i : ℕ) → i < length t.rows → Kept (state_of t mem i) (begin_of t i) (width_of (kind_at t i)) mem i
  kept_at i l = row_kept (begin_of t i) mem i (kind_at t i) (row_of t mem i l ready)

  heads-are : (k n : ℕ) → k + n ≡ length t.rows → heads (begin_of t k) (map (state_of t mem) (from k n)) ≡ take (n * 4) (drop (head_at k) mem)
  heads-are k zero e = refl
  heads-are k (suc n) e =
      let l : k < length t.rows = omega arith in
      let one = kept_at k l in
      let room = ready.laid.room in
      let begins = head-begin t k (length t.rows) l in
      let four : 4 + n * 4 ≡ suc n * 4 = omega arith in
      (λ i. one.phase i ∷ one.timer i ∷ one.held i ∷ sym (ready.laid.begins k l) i ∷ heads (next i) (map (state_of t mem) (from (suc k) n)))
      ∙ ap (λ (ws : List ℕ). phase_in mem k ∷ timer_in mem k ∷ held_in mem k ∷ begin_in mem k ∷ ws) (heads-are (suc k) n (omega arith))
      ∙ ap (λ (ws : List ℕ). ws ++ take (n * 4) (drop (head_at (suc k)) mem)) (sym (head-words (head_at k) (omega arith)))
      ∙ sym (cut (head_at k) 4 (n * 4) (head_at (suc k)) mem (omega arith))
      ∙ ap (λ (m : ℕ). take m (drop (head_at k) mem)) four
    where
      head-words : (p : ℕ) → p + 4 ≤ length mem → take 4 (drop p mem) ≡ word_at mem p ∷ word_at mem (p + 1) ∷ word_at mem (p + 2) ∷ word_at mem (p + 3) ∷ []
      head-words p room =
          cut p 3 1 (p + 3) mem refl ∙ (λ i. three-words mem p (omega arith) i ++ one_word mem 0 (p + 3) (p + 4) (omega arith) (omega arith) refl i)

      next : begin_of t k + own_width (state_of t mem k) ≡ begin_of t (suc k)
      next = let l : k < length t.rows = omega arith in ap (λ (m : ℕ). begin_of t k + m) (kept_at k l).wide ∙ sym (begin-next t k l)

  owns-are : (k n : ℕ) → k + n ≡ length t.rows → owns (map (state_of t mem) (from k n)) ≡ take (end_of t - begin_of t k) (drop (begin_of t k) mem)
  owns-are k zero e =
      let last : k ≡ length t.rows = omega arith in
      let same = ap (begin_of t) last in
      let none : 0 ≡ end_of t - begin_of t k = omega arith in
      ap (λ (m : ℕ). take m (drop (begin_of t k) mem)) none
  owns-are k (suc n) e =
      let l : k < length t.rows = omega arith in
      let next = begin-next t k l in
      let within = begin-end t k l in
      let parts : width_of (kind_at t k) + (end_of t - begin_of t (suc k)) ≡ end_of t - begin_of t k = omega arith in
      (λ i. (kept_at k l).own i ++ owns-are (suc k) n (omega arith) i)
      ∙ sym (cut (begin_of t k) (width_of (kind_at t k)) (end_of t - begin_of t (suc k)) (begin_of t (suc k)) mem (sym next))
      ∙ ap (λ (m : ℕ). take m (drop (begin_of t k) mem)) parts

  -- the words before the messages: three, the heads, the rows' own
  abbrev ahead : List ℕ → List ℕ
  ahead rest = word_at mem 0 ∷ word_at mem 1 ∷ word_at mem 2 ∷ (take (length t.rows * 4) (drop 3 mem) ++ (take (end_of t - begin_of t 0) (drop (begin_of t 0) mem) ++ rest))

  ahead-is : (c : ℕ) → take (end_of t + c) mem ≡ ahead (take c (drop (end_of t) mem))
  ahead-is c =
      let n = length t.rows * 4 in
      let own = end_of t - begin_of t 0 in
      let room = ready.laid.room in
      let all : end_of t + c ≡ 3 + (n + (own + c)) = omega arith in
      ap (λ (m : ℕ). take m mem) all
      ∙ cut 0 3 (n + (own + c)) 3 mem refl
      ∙ (λ i. three-words mem 0 (omega arith) i ++ cut 3 n (own + c) (begin_of t 0) mem (omega arith) i)
      ∙ ap (λ (ws : List ℕ). word_at mem 0 ∷ word_at mem 1 ∷ word_at mem 2 ∷ (take n (drop 3 mem) ++ ws)) (cut (begin_of t 0) own c (end_of t) mem (omega arith))

-- ---- the whole
pub words_are : (t : Table) (mem : List ℕ) → Ready t mem → All MessageFits (active_in t mem) → T (is_time (clock_in mem)) → end_of t + word_at mem 0 * 6 ≤ length mem
    → take (end_of t + word_at mem 0 * 6) mem ≡ changing (sim_in t mem)
unfolding changing
words_are t mem ready active clock room =
    ahead-is t mem ready (word_at mem 0 * 6)
    ∙ (λ i. sym (messages-long (end_of t) (word_at mem 0) mem) i
    ∷ sym (clear-bits (word_at mem 1) (timer-clear (clock_in mem) (time-timer (clock_in mem) clock))) i
    ∷ word_at mem 2
    ∷ (sym row-heads i ++ (sym (owns-are t mem ready 0 (length t.rows) (zero-add (length t.rows))) i ++ sym (messages-written (end_of t) mem (word_at mem 0) room active) i)))
  where
    begins : head_at (length (states_in t mem)) ≡ begin_of t 0
    begins = ap head_at (states-long t mem) ∙ sym (add-zero (head_at (length t.rows)))

    row-heads : heads (head_at (length (states_in t mem))) (states_in t mem) ≡ take (length t.rows * 4) (drop 3 mem)
    row-heads = ap (λ (b : ℕ). heads b (states_in t mem)) begins ∙ heads-are t mem ready 0 (length t.rows) (zero-add (length t.rows))
