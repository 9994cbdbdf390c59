-- What an event of one row leaves as it was, and what a change outside of the rows' words does. Assumes nothing.
use Rattle.std.specs.Prelude.{ℕ, suc, ◌+◌, ◌≤◌, ◌<◌, ◌≡◌, refl, ◌⊎◌, List, [], map, length, set, T}
use Rattle.std.proofs.Common.{sym, subst, ◌∙◌, inl, inr, arith, length-set, ext_get_or, get_or-set_same, get_or-set_other}
use Rattle.std.proofs.Math.Path.{transport}
use Rattle.std.proofs.Math.Decide.{dec_le}
use Rattle.std.specs.Float.{binary64}
use Rattle.std.specs.Float.Ieee.{of_bits}
use Rattle.rules.specs.Table.{Kind, processor, batcher, stopwatch, coupled, Table, kind_at}
use Rattle.rules.specs.Simulation.{State, of_processor, of_batcher, of_stopwatch, of_coupled, state_at}
use Rattle.rules.specs.Step.{Happening}
use Rattle.rules.specs.Ends.{All}
use Rattle.words.specs.Queue.{queue_in}
use Rattle.marks.specs.Jobs.{jobs_in}
use Rattle.memory.specs.Words.{word_at, head_at, phase_in, timer_in, held_in, begin_in, width_of, own_in, Own}
use Rattle.memory.specs.View.{working_of, batching_of, watching_of, parked_of, state_in, word_rules, WordsFit}
use Rattle.memory.specs.Places.{own-reaching, own-reach}
use Rattle.views.specs.World.{begin_of, end_of, state_of, states_in, world_in, Laid, Frame}
use Rattle.views.proofs.WorldLayout.{begins-apart, begin-end, head-begin, states-long, state-is}

-- ---- the row j, whose own words begin at b, is as it was
record Same (j b width : ℕ) (mem after : List ℕ) : Type 0 where
  phase : phase_in after j ≡ phase_in mem j
  timer : timer_in after j ≡ timer_in mem j
  held : held_in after j ≡ held_in mem j
  begin : begin_in after j ≡ begin_in mem j
  own : own_in b width after ≡ own_in b width mem

row_same : (j b width : ℕ) (mem after : List ℕ) → length (own_in b width after) ≡ length (own_in b width mem)
    → ((p : ℕ) → head_at j ≤ p → p < head_at j + 4 → word_at after p ≡ word_at mem p)
    → ((p : ℕ) → b ≤ p → p < b + width → word_at after p ≡ word_at mem p)
    → Same j b width mem after
row_same j b width mem after reach head own = record {
  phase = head (head_at j) (omega arith) (omega arith);
  timer = head (head_at j + 1) (omega arith) (omega arith);
  held = head (head_at j + 2) (omega arith) (omega arith);
  begin = head (head_at j + 3) (omega arith) (omega arith);
  own = own-reaching b width mem after reach own;
}

-- so is its state, and its words fit as before
state-same : (k : Kind) (b : ℕ) (mem after : List ℕ) (j : ℕ) → Same j b (width_of k) mem after → state_in k b after j ≡ state_in k b mem j
state-same (processor p) b mem after j s = λ i. of_processor (record { phase = working_of (s.phase i); timer = of_bits binary64 (s.timer i); queue = queue_in (s.held i) (s.own i) })
state-same (batcher m) b mem after j s = λ i. of_batcher (record { phase = batching_of (s.phase i); timer = of_bits binary64 (s.timer i); jobs = queue_in (s.held i) (s.own i) })
state-same (stopwatch w) b mem after j s = λ i. of_stopwatch (record { phase = watching_of (s.phase i); timer = of_bits binary64 (s.timer i); jobs = jobs_in (s.held i) (s.own i) })
state-same coupled b mem after j s = λ i. of_coupled (map parked_of (queue_in (s.held i) (s.own i)))

words_same : (k : Kind) (b : ℕ) (mem after : List ℕ) (j : ℕ) → Same j b (width_of k) mem after → WordsFit k b mem j → WordsFit k b after j
words_same k b mem after j s fit = transport (λ i. All T (word_rules k (sym s.phase i) (sym s.timer i) (sym s.held i) (sym s.own i))) fit

-- ---- states that are each those in the words are the states in the words
pub states-are : (t : Table) (mem : List ℕ) (states : List State) → length states ≡ length t.rows → ((j : ℕ) → j < length t.rows → state_at states j ≡ state_of t mem j) → states_in t mem ≡ states
states-are t mem states long each =
    ext_get_or (of_coupled []) (states_in t mem) states (states-long t mem ∙ sym long)
    (λ j l. let m : j < length t.rows = omega (arith, states-long t mem) in state-is t mem j m ∙ sym (each j m))

pub same-or-apart : (i j : ℕ) → (j ≡ i) ⊎ ((j < i) ⊎ (i < j))
same-or-apart i j = elim (dec_le (suc j) i) [
  | yes l ↦ inr (inl (omega arith))
  | no l ↦ elim (dec_le (suc i) j) [ yes m ↦ inr (inr (omega arith)) | no m ↦ inl (omega arith) ]
]

-- ---- an event of the row i
module _ (t : Table) (i lo hi : ℕ) (mem after : List ℕ) (inside : i < length t.rows) (far : (p : ℕ) → p < end_of t → (p < lo) ⊎ (hi ≤ p)) (laid : Laid t mem)
    (own : Own i (begin_of t i) (width_of (kind_at t i)) lo hi mem after) where
  -- every other row is as it was
  other-same : (j : ℕ) → j < length t.rows → (j < i) ⊎ (i < j) → Same j (begin_of t j) (width_of (kind_at t j)) mem after
  other-same j l apart = row_same j (begin_of t j) (width_of (kind_at t j)) mem after (own-reach (begin_of t j) (width_of (kind_at t j)) mem after own.long) head words
    where
      head : (p : ℕ) → head_at j ≤ p → p < head_at j + 4 → word_at after p ≡ word_at mem p
      head p from to = own.rest p (record {
        place = inr (omega arith);
        head = elim apart [ inl m ↦ inl (omega arith) | inr m ↦ inr (omega arith) ];
        own = inl (let h = head-begin t j i l in omega arith);
        out = far p (let h = head-begin t j (length t.rows) l in omega arith);
      })

      words : (p : ℕ) → begin_of t j ≤ p → p < begin_of t j + width_of (kind_at t j) → word_at after p ≡ word_at mem p
      words p from to = let h = head-begin t i j inside in own.rest p (record {
        place = inr (omega arith);
        head = inr (omega arith);
        own = elim apart [ inl m ↦ inl (let z = begins-apart t j i m inside in omega arith) | inr m ↦ inr (let z = begins-apart t i j m l in omega arith) ];
        out = far p (let z = begin-end t j l in omega arith);
      })

  begin-same : (j : ℕ) → j < length t.rows → begin_in after j ≡ begin_in mem j
  begin-same j l = let h = head-begin t j i l in own.rest (head_at j + 3) (record {
    place = inr (omega arith);
    head = elim (dec_le i j) [ yes m ↦ inr (omega arith) | no m ↦ inl (omega arith) ];
    own = inl (omega arith);
    out = far (head_at j + 3) (let z = head-begin t j (length t.rows) l in omega arith);
  })

  pub own-laid : WordsFit (kind_at t i) (begin_of t i) after i → Laid t after
  own-laid fit = record {
    room = let r = laid.room in omega (arith, own.long);
    begins = λ j l. begin-same j l ∙ laid.begins j l;
    words = λ j l. elim (same-or-apart i j) [
      | inl e ↦ subst (λ (n : ℕ). WordsFit (kind_at t n) (begin_of t n) after n) (sym e) fit
      | inr a ↦ words_same (kind_at t j) (begin_of t j) mem after j (other-same j l a) (laid.words j l)
    ];
  }

  pub own-states : states_in t after ≡ set (states_in t mem) i (state_of t after i)
  own-states =
      states-are t after (set (states_in t mem) i (state_of t after i)) (length-set (states_in t mem) i (state_of t after i) ∙ states-long t mem)
      (λ j l. elim (same-or-apart i j) [
        | inl e ↦ subst (λ (n : ℕ). state_at (set (states_in t mem) i (state_of t after i)) n ≡ state_of t after n) (sym e)
            (get_or-set_same (states_in t mem) i (state_of t after i) (of_coupled []) (omega (arith, states-long t mem)))
        | inr a ↦ get_or-set_other (states_in t mem) i j (state_of t after i) (of_coupled []) (λ e. elim a [ inl m ↦ omega arith | inr m ↦ omega arith ])
            ∙ state-is t mem j l
            ∙ sym (state-same (kind_at t j) (begin_of t j) mem after j (other-same j l a))
      ])

  pub own-frame : Frame t lo hi mem after
  own-frame = let h = head-begin t i i inside in let e = begin-end t i inside in record {
    long = own.long;
    low = λ p l. own.rest p (record { place = inl (omega arith); head = inl (omega arith); own = inl (omega arith); out = far p (omega arith) });
    high = λ p l out. own.rest p (record { place = inr (omega arith); head = inr (omega arith); own = inr (omega arith); out = out });
  }

-- ---- the rows' words and the place are as they were, and reach as far as they did
module _ (t : Table) (mem after : List ℕ) (reach : (j : ℕ) → j < length t.rows → length (own_in (begin_of t j) (width_of (kind_at t j)) after) ≡ length (own_in (begin_of t j) (width_of (kind_at t j)) mem))
    (same : (p : ℕ) → 2 ≤ p → p < end_of t → word_at after p ≡ word_at mem p) where
  each_same : (j : ℕ) → j < length t.rows → Same j (begin_of t j) (width_of (kind_at t j)) mem after
  each_same j l =
      let h = head-begin t j j l in
      let e = begin-end t j l in
      row_same j (begin_of t j) (width_of (kind_at t j)) mem after (reach j l) (λ p from to. same p (omega arith) (omega arith)) (λ p from to. same p (omega arith) (omega arith))

  pub same-laid : end_of t ≤ length after → Laid t mem → Laid t after
  same-laid fits laid = record {
    room = fits;
    begins = λ j l. (each_same j l).begin ∙ laid.begins j l;
    words = λ j l. words_same (kind_at t j) (begin_of t j) mem after j (each_same j l) (laid.words j l);
  }

  pub same-world : (log : List Happening) → world_in t after log ≡ world_in t mem log
  same-world log = λ k. record { states = states k; place = same 2 (omega arith) (omega arith) k; log = log }
    where
      states : states_in t after ≡ states_in t mem
      states = states-are t after (states_in t mem) (states-long t mem) (λ j l. state-is t mem j l ∙ sym (state-same (kind_at t j) (begin_of t j) mem after j (each_same j l)))

-- ---- frames: of a change that is none, of two changes, and in a range that holds another
pub frame_same : (t : Table) (lo hi : ℕ) (mem : List ℕ) → Frame t lo hi mem mem
frame_same t lo hi mem = record { long = refl; low = λ p l. refl; high = λ p l out. refl }

pub frame_then : (t : Table) (lo hi : ℕ) (mem middle after : List ℕ) → Frame t lo hi mem middle → Frame t lo hi middle after → Frame t lo hi mem after
frame_then t lo hi mem middle after f g = record {
  long = g.long ∙ f.long;
  low = λ p l. g.low p l ∙ f.low p l;
  high = λ p l out. g.high p l out ∙ f.high p l out;
}

pub frame-wider : (t : Table) (lo hi lo' hi' : ℕ) (mem after : List ℕ) → lo' ≤ lo → hi ≤ hi' → Frame t lo hi mem after → Frame t lo' hi' mem after
frame-wider t lo hi lo' hi' mem after low high f = record {
  long = f.long;
  low = f.low;
  high = λ p l out. f.high p l (elim out [ inl m ↦ inl (omega arith) | inr m ↦ inr (omega arith) ]);
}

-- a range without words lies in each
pub frame-none : (t : Table) (lo hi : ℕ) (mem after : List ℕ) → Frame t 0 0 mem after → Frame t lo hi mem after
frame-none t lo hi mem after f = record { long = f.long; low = f.low; high = λ p l out. f.high p l (inr (omega arith)) }

-- the same range, with its end named otherwise
pub frame-to : (t : Table) (lo hi hi' : ℕ) (mem after : List ℕ) → hi ≡ hi' → Frame t lo hi mem after → Frame t lo hi' mem after
frame-to t lo hi hi' mem after e f = subst (λ (n : ℕ). Frame t lo n mem after) e f
