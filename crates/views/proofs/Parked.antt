-- What is parked in a Coupled, by the number in its head; and its own timer by that. Assumes nothing.
use Rattle.std.specs.Prelude.{ℕ, ◌≤◌, ◌<◌, ◌≡◌, refl, Bool, true, false, List, [], ◌∷◌, length, take, T, ltb, if◌then◌else◌}
use Rattle.std.proofs.Common.{sym, ap, ◌∙◌, subst, arith, leb→le, eqb→eq, ltb→lt, lt→ltb}
use Rattle.std.proofs.lemmas.List.{length-map}
use Rattle.std.specs.Float.{binary64}
use Rattle.std.specs.Float.Ieee.{of_bits}
use Rattle.times.specs.Time.{never}
use Rattle.rules.specs.Table.{Kind, processor, batcher, stopwatch, coupled, Table, kind_at, is_coupled}
use Rattle.rules.specs.Simulation.{Parked, of_coupled}
use Rattle.rules.specs.Ends.{All, nil, ◌&◌}
use Rattle.rules.proofs.Least.{own_timer}
use Rattle.words.specs.QueueLaws.{queue-length}
use Rattle.memory.specs.Words.{phase_in, timer_in, held_in, own_in}
use Rattle.memory.specs.View.{parked_of, parked_in, state_in, word_rules, Row}
use Rattle.memory.specs.Places.{part_length}
use Rattle.views.specs.World.{begin_of, state_of, Ready}
use Rattle.views.proofs.WorldLayout.{row_of}

-- ---- a Coupled's words
module _ (b : ℕ) (mem : List ℕ) (i : ℕ) (here : Row coupled b mem i) where
  abbrev Words : Type 0
  Words = All T (word_rules coupled (phase_in mem i) (timer_in mem i) (held_in mem i) (own_in b 64 mem))

  pub few-held : held_in mem i ≤ 64
  few-held = go here.words
    where
      go : Words → held_in mem i ≤ 64
      go (p & c & h & u & nil) = leb→le (held_in mem i) 64 h

  -- the timer's word is 0's
  word-zero : timer_in mem i ≡ 0
  word-zero = go here.words
    where
      go : Words → timer_in mem i ≡ 0
      go (p & c & h & u & nil) = eqb→eq (timer_in mem i) 0 c

  pub held-length : length (parked_in b mem i) ≡ held_in mem i
  held-length =
      length-map (take (held_in mem i) (own_in b 64 mem)) parked_of
      ∙ queue-length (held_in mem i) (own_in b 64 mem) (omega (arith, few-held, part_length b 64 mem here.placed.room))

  pub parked-none : held_in mem i ≡ 0 → parked_in b mem i ≡ []
  parked-none e = go (parked_in b mem i) (held-length ∙ e)
    where
      go : (parked : List Parked) → length parked ≡ 0 → parked ≡ []
      go [] n = refl
      go (m ∷ parked) n = absurd (omega arith)

  pub parked-some : 0 < held_in mem i → (m : Parked) × (parked : List Parked) × (parked_in b mem i ≡ m ∷ parked)
  parked-some l = go (parked_in b mem i) refl (omega (arith, held-length))
    where
      go : (parked : List Parked) → parked_in b mem i ≡ parked → 0 < length parked → (m : Parked) × (rest : List Parked) × (parked_in b mem i ≡ m ∷ rest)
      go [] e n = absurd (omega arith)
      go (m ∷ parked) e n = (m, parked, e)

-- ---- whether a row's own timer is the one that its words say: a Coupled's word is 0, and counts while a message is parked in it
abbrev pub counts : Kind → ℕ → Bool
counts k held = if is_coupled k then ltb 0 held else true

pub own-counts : (k : Kind) (b : ℕ) (mem : List ℕ) (i : ℕ) → Row k b mem i → own_timer (state_in k b mem i) ≡ (if counts k (held_in mem i) then of_bits binary64 (timer_in mem i) else never)
unfolding of_bits
own-counts (processor p) b mem i here = refl
own-counts (batcher m) b mem i here = refl
own-counts (stopwatch w) b mem i here = refl
own-counts coupled b mem i here = go (ltb 0 (held_in mem i)) (ltb→lt 0 (held_in mem i)) (lt→ltb 0 (held_in mem i)) (parked_in b mem i) (held-length b mem i here)
  where
    go : (some : Bool) → (T some → 0 < held_in mem i) → (0 < held_in mem i → T some) → (parked : List Parked) → length parked ≡ held_in mem i
        → own_timer (of_coupled parked) ≡ (if some then of_bits binary64 (timer_in mem i) else never)
    go true more less [] e = absurd (let l = more tt in omega arith)
    go true more less (m ∷ parked) e = sym (ap (of_bits binary64) (word-zero b mem i here))
    go false more less [] e = refl
    go false more less (m ∷ parked) e = absurd (less (omega arith))

-- ---- the state of a row that is a Coupled's
module _ (t : Table) (mem : List ℕ) (i : ℕ) (inside : i < length t.rows) (is : kind_at t i ≡ coupled) (ready : Ready t mem) where
  pub row-coupled : Row coupled (begin_of t i) mem i
  row-coupled = subst (λ (k : Kind). Row k (begin_of t i) mem i) is (row_of t mem i inside ready)

  state-coupled : state_of t mem i ≡ of_coupled (parked_in (begin_of t i) mem i)
  state-coupled = ap (λ (k : Kind). state_in k (begin_of t i) mem i) is

  pub state-none : held_in mem i ≡ 0 → state_of t mem i ≡ of_coupled []
  state-none e = state-coupled ∙ ap of_coupled (parked-none (begin_of t i) mem i row-coupled e)

  pub state-some : 0 < held_in mem i → (m : Parked) × (parked : List Parked) × (state_of t mem i ≡ of_coupled (m ∷ parked))
  state-some l = let s = parked-some (begin_of t i) mem i row-coupled l in (s.0, s.1, state-coupled ∙ ap of_coupled s.2)
