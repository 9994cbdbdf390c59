-- The timers less an advance, row by row: what one row's turn changes, and what is so after the turns of the first rows. Assumes nothing.
use Rattle.std.specs.Prelude.{ℕ, ◌+◌, ◌≤◌, ◌<◌, ◌≡◌, refl, ◌⊎◌, Bool, true, false, List, [], map, length, set, T, Float}
use Rattle.std.proofs.Common.{sym, ap, ◌∙◌, subst, inl, inr, arith, length-set, get_or-set_same, get_or-set_other, eqb→eq}
use Rattle.std.proofs.Math.Path.{transport}
use Rattle.std.proofs.lemmas.Bool.{false≢true}
use Rattle.std.proofs.lemmas.List.{length-map}
use Rattle.std.specs.Float.{binary64}
use Rattle.std.specs.Float.Ieee.{sub, of_bits, to_bits, eq}
use Rattle.std.specs.Float.Ieee.Bits.{of_bits-to_bits}
use Rattle.std.specs.Float.Ieee.Fits.{sub-fits}
use Rattle.times.specs.Time.{instant, never, is_time, is_timer}
use Rattle.times.proofs.Laws as law
use Rattle.rules.specs.Sizes.{is_word}
use Rattle.rules.specs.Table.{Kind, processor, batcher, stopwatch, coupled, Table, kind_at, is_coupled}
use Rattle.rules.specs.Simulation.{State, of_processor, of_batcher, of_stopwatch, of_coupled, state_at}
use Rattle.rules.specs.Step.{after}
use Rattle.rules.specs.Ends.{All, nil, ◌&◌}
use Rattle.rules.proofs.Least.{Fitted, own_timer, Below}
use Rattle.rules.proofs.Worlds.{after-at, fitted-after}
use Rattle.words.specs.Queue.{queue_in}
use Rattle.marks.specs.Jobs.{jobs_in}
use Rattle.memory.specs.Words.{word_at, place_in, head_at, phase_in, timer_in, held_in, width_of, own_in, Own}
use Rattle.memory.specs.View.{working_of, batching_of, watching_of, state_in, word_rules, WordsFit}
use Rattle.memory.specs.Places.{before-own, own_same, outside}
use Rattle.views.specs.World.{begin_of, end_of, state_of, states_in, Laid, Ready, Frame}
use Rattle.views.proofs.WorldLayout.{head-begin, states-long, state-is}
use Rattle.views.proofs.Frames.{states-are, same-or-apart, own-laid, own-states, own-frame, frame_same, frame_then}
use Rattle.views.proofs.Timers.{head-here, own-timer}
use Rattle.row_timers.specs.Passing.{Passed}

-- ---- the row i of a kind, its own words from b on, before and after only its timer's word was written
record Ticked (k : Kind) (b i : ℕ) (a : Float) (mem next : List ℕ) : Type 0 where
  phase : phase_in next i ≡ phase_in mem i
  timer : of_bits binary64 (timer_in next i) ≡ sub binary64 (of_bits binary64 (timer_in mem i)) a
  held : held_in next i ≡ held_in mem i
  own : own_in b (width_of k) next ≡ own_in b (width_of k) mem

ticked-state : (k : Kind) (b i : ℕ) (a : Float) (mem next : List ℕ) → is_coupled k ≡ false → Ticked k b i a mem next → state_in k b next i ≡ after a (state_in k b mem i)
ticked-state (processor p) b i a mem next e s = λ j. of_processor (record { phase = working_of (s.phase j); timer = s.timer j; queue = queue_in (s.held j) (s.own j) })
ticked-state (batcher m) b i a mem next e s = λ j. of_batcher (record { phase = batching_of (s.phase j); timer = s.timer j; jobs = queue_in (s.held j) (s.own j) })
ticked-state (stopwatch w) b i a mem next e s = λ j. of_stopwatch (record { phase = watching_of (s.phase j); timer = s.timer j; jobs = jobs_in (s.held j) (s.own j) })
ticked-state coupled b i a mem next e s = absurd (false≢true (sym e))

-- an atom's words are asked nothing of the timer's
ticked-words : (k : Kind) (b i : ℕ) (a : Float) (mem next : List ℕ) → is_coupled k ≡ false → Ticked k b i a mem next → WordsFit k b mem i → WordsFit k b next i
ticked-words (processor p) b i a mem next e s fit = transport (λ j. All T (word_rules (processor p) (sym s.phase j) 0 (sym s.held j) (sym s.own j))) fit
ticked-words (batcher m) b i a mem next e s fit = transport (λ j. All T (word_rules (batcher m) (sym s.phase j) 0 (sym s.held j) (sym s.own j))) fit
ticked-words (stopwatch w) b i a mem next e s fit = transport (λ j. All T (word_rules (stopwatch w) (sym s.phase j) 0 (sym s.held j) (sym s.own j))) fit
ticked-words coupled b i a mem next e s fit = absurd (false≢true (sym e))

coupled-stays : (k : Kind) (b i : ℕ) (a : Float) (mem : List ℕ) → is_coupled k ≡ true → state_in k b mem i ≡ after a (state_in k b mem i)
coupled-stays (processor p) b i a mem e = absurd (false≢true e)
coupled-stays (batcher m) b i a mem e = absurd (false≢true e)
coupled-stays (stopwatch w) b i a mem e = absurd (false≢true e)
coupled-stays coupled b i a mem e = refl

never-ages : (k : Kind) (b i : ℕ) (a : Float) (mem : List ℕ) → T (is_time a) → of_bits binary64 (timer_in mem i) ≡ never → state_in k b mem i ≡ after a (state_in k b mem i)
never-ages k b i a mem u e = by (is_coupled k) refl
  where
    by : (c : Bool) → is_coupled k ≡ c → state_in k b mem i ≡ after a (state_in k b mem i)
    by true c = coupled-stays k b i a mem c
    by false c = ticked-state k b i a mem mem c (record { phase = refl; timer = sym (ap (λ (x : Float). sub binary64 x a) e ∙ (law.after_never never a law.never-timer u (law.timers-never a (law.time-timer a u))).1 refl ∙ sym e); held = refl; own = refl })

-- ---- a turn of the row i: its state is the one after the advance, and no other word is touched
pub record Aged (t : Table) (a : Float) (i : ℕ) (mem next : List ℕ) : Type 0 where
  pub own : Own i (begin_of t i) (width_of (kind_at t i)) 0 0 mem next
  pub place : place_in next ≡ place_in mem
  pub words : WordsFit (kind_at t i) (begin_of t i) next i
  pub state : state_of t next i ≡ after a (state_of t mem i)

module _ (t : Table) (a : Float) (i : ℕ) (inside : i < length t.rows) (mem : List ℕ) (laid : Laid t mem) where
  pub aged-coupled : is_coupled (kind_at t i) ≡ true → Aged t a i mem mem
  aged-coupled e = record {
    own = own_same i (begin_of t i) (width_of (kind_at t i)) 0 0 mem;
    place = refl;
    words = laid.words i inside;
    state = coupled-stays (kind_at t i) (begin_of t i) i a mem e;
  }

  -- a timer that never runs out stays
  pub aged-never : T (is_time a) → of_bits binary64 (timer_in mem i) ≡ never → Aged t a i mem mem
  aged-never u e = record {
    own = own_same i (begin_of t i) (width_of (kind_at t i)) 0 0 mem;
    place = refl;
    words = laid.words i inside;
    state = never-ages (kind_at t i) (begin_of t i) i a mem u e;
  }

  abbrev bits : ℕ
  bits = to_bits binary64 (sub binary64 (of_bits binary64 (timer_in mem i)) a)

  abbrev next : List ℕ
  next = set mem (head_at i + 1) bits

  others : (p : ℕ) → (p ≡ head_at i + 1 → ⊥) → word_at next p ≡ word_at mem p
  others p away = get_or-set_other mem (head_at i + 1) p bits 0 away

  ticked : Ticked (kind_at t i) (begin_of t i) i a mem next
  ticked = let h = head-begin t i i inside in record {
    phase = others (head_at i) (λ e. omega arith);
    timer =
        ap (of_bits binary64) (get_or-set_same mem (head_at i + 1) bits 0 (let r = head-here t mem i inside laid in omega arith))
        ∙ of_bits-to_bits binary64 (sub binary64 (of_bits binary64 (timer_in mem i)) a) (sub-fits binary64 (of_bits binary64 (timer_in mem i)) a);
    held = others (head_at i + 2) (λ e. omega arith);
    own = before-own (begin_of t i) (width_of (kind_at t i)) (head_at i + 1) bits mem (omega arith);
  }

  pub aged-atom : is_coupled (kind_at t i) ≡ false → Aged t a i mem (set mem (head_at i + 1) (to_bits binary64 (sub binary64 (of_bits binary64 (timer_in mem i)) a)))
  aged-atom e = record {
    own = record { long = length-set mem (head_at i + 1) bits; rest = λ p away. others p (outside p (head_at i) (head_at i + 3) (head_at i + 1) away.head (omega arith) (omega arith)) };
    place = others 2 (λ e. omega arith);
    words = ticked-words (kind_at t i) (begin_of t i) i a mem next e ticked (laid.words i inside);
    state = ticked-state (kind_at t i) (begin_of t i) i a mem next e ticked;
  }

-- ---- the timer's word is a timer's in any row: a Coupled's is 0
any-timer : (k : Kind) (b : ℕ) (mem : List ℕ) (i : ℕ) → WordsFit k b mem i → T (is_timer (own_timer (state_in k b mem i))) → T (is_timer (of_bits binary64 (timer_in mem i)))
unfolding of_bits
any-timer (processor p) b mem i fit timer = timer
any-timer (batcher m) b mem i fit timer = timer
any-timer (stopwatch w) b mem i fit timer = timer
any-timer coupled b mem i (phase & none & held & unused & nil) timer = subst (λ (n : ℕ). T (is_timer (of_bits binary64 n))) (sym (eqb→eq (timer_in mem i) 0 none)) (law.time-timer instant law.instant-time)

pub timer-any : (t : Table) (mem : List ℕ) (i : ℕ) → i < length t.rows → Laid t mem → T (is_timer (own_timer (state_of t mem i))) → T (is_timer (of_bits binary64 (timer_in mem i)))
timer-any t mem i inside laid timer = any-timer (kind_at t i) (begin_of t i) mem i (laid.words i inside) timer

-- ---- the rows before `row` have had their turn, the others have not
pub record Partly (t : Table) (a : Float) (row : ℕ) (mem next : List ℕ) : Type 0 where
  pub laid : Laid t next
  pub place : place_in next ≡ place_in mem
  pub frame : Frame t 0 0 mem next
  pub aged : (j : ℕ) → j < length t.rows → j < row → state_of t next j ≡ after a (state_of t mem j)
  pub left : (j : ℕ) → j < length t.rows → row ≤ j → state_of t next j ≡ state_of t mem j

module _ (t : Table) (a : Float) (mem : List ℕ) where
  pub partly-start : Laid t mem → Partly t a 0 mem mem
  partly-start laid = record { laid = laid; place = refl; frame = frame_same t 0 0 mem; aged = λ j l m. absurd (omega arith); left = λ j l m. refl }

  module _ (row : ℕ) (inside : row < length t.rows) (mid next : List ℕ) (before : Partly t a row mem mid) (turn : Aged t a row mid next) where
    far : (p : ℕ) → p < end_of t → (p < 0) ⊎ (0 ≤ p)
    far p l = inr (omega arith)

    other : (j : ℕ) → j < length t.rows → (j ≡ row → ⊥) → state_of t next j ≡ state_of t mid j
    other j l apart =
        sym (state-is t next j l)
        ∙ ap (λ (states : List State). state_at states j) (own-states t row 0 0 mid next inside far before.laid turn.own)
        ∙ get_or-set_other (states_in t mid) row j (state_of t next row) (of_coupled []) apart
        ∙ state-is t mid j l

    pub partly-next : Partly t a (row + 1) mem next
    partly-next = record {
      laid = own-laid t row 0 0 mid next inside far before.laid turn.own turn.words;
      place = turn.place ∙ before.place;
      frame = frame_then t 0 0 mem mid next before.frame (own-frame t row 0 0 mid next inside far before.laid turn.own);
      aged = λ j l m. elim (same-or-apart row j) [
        | inl e ↦ subst (λ (n : ℕ). state_of t next n ≡ after a (state_of t mem n)) (sym e) (turn.state ∙ ap (after a) (before.left row inside (omega arith)))
        | inr u ↦ other j l (λ e. elim u [ inl w ↦ omega arith | inr w ↦ omega arith ]) ∙ before.aged j l (elim u [ inl w ↦ w | inr w ↦ omega arith ])
      ];
      left = λ j l m. other j l (λ e. omega arith) ∙ before.left j l (omega arith);
    }

  -- ---- what holds of all states after the advance holds of the words
  passed-of : Ready t mem → T (is_time a) → Below a (states_in t mem) → (next : List ℕ) → Laid t next → place_in next ≡ place_in mem → states_in t next ≡ map (after a) (states_in t mem) → Passed t a mem next
  passed-of ready u below next laid place states = record {
    ready = record {
      laid = laid;
      good = (subst (Fitted t) (sym states) (fitted-after a (states_in t mem) ready.good.0 u below), subst (λ (n : ℕ). T (is_word n)) (sym place) ready.good.1);
    };
    states = states;
    place = place;
  }

  pub partly-end : Ready t mem → T (is_time a) → Below a (states_in t mem) → (row : ℕ) → length t.rows ≤ row → (next : List ℕ) → Partly t a row mem next → Passed t a mem next
  partly-end ready u below row whole next p =
      passed-of ready u below next p.laid p.place
      (states-are t next (map (after a) (states_in t mem)) (length-map (states_in t mem) (after a) ∙ states-long t mem)
      (λ j l. after-at a (states_in t mem) j ∙ ap (after a) (state-is t mem j l) ∙ sym (p.aged j l (omega arith))))

-- ---- an advance of 0 leaves every state as it is
after_none : (s : State) → T (is_timer (own_timer s)) → after instant s ≡ s
after_none (of_processor s) h = λ j. of_processor (record { phase = s.phase; timer = law.after-instant s.timer h j; queue = s.queue })
after_none (of_batcher s) h = λ j. of_batcher (record { phase = s.phase; timer = law.after-instant s.timer h j; jobs = s.jobs })
after_none (of_stopwatch s) h = λ j. of_stopwatch (record { phase = s.phase; timer = law.after-instant s.timer h j; jobs = s.jobs })
after_none (of_coupled parked) h = refl

pub none_passed : (t : Table) (a : Float) (mem : List ℕ) → Ready t mem → T (is_time a) → Below a (states_in t mem) → eq a instant ≡ true → Passed t a mem mem
none_passed t a mem ready u below none =
    passed-of t a mem ready u below mem ready.laid refl
    (states-are t mem (map (after a) (states_in t mem)) (length-map (states_in t mem) (after a) ∙ states-long t mem)
    (λ j l.
    after-at a (states_in t mem) j
    ∙ ap (after a) (state-is t mem j l)
    ∙ ap (λ (x : Float). after x (state_of t mem j)) ((law.timers-zero a (law.time-timer a u)).0 (subst T (sym none) tt))
    ∙ after_none (state_of t mem j) (own-timer t mem j l ready)))
