-- A row's own timer, by the words of its head. Assumes nothing.
use Rattle.std.specs.Prelude.{ℕ, ◌+◌, ◌≤◌, ◌<◌, ◌≡◌, refl, false, List, length, T, Float}
use Rattle.std.proofs.Common.{sym, subst, arith}
use Rattle.std.proofs.lemmas.Bool.{false≢true}
use Rattle.std.specs.Float.{binary64}
use Rattle.std.specs.Float.Ieee.{of_bits}
use Rattle.times.specs.Time.{is_timer}
use Rattle.rules.specs.Table.{Kind, processor, batcher, stopwatch, coupled, Table, kind_at, is_coupled}
use Rattle.rules.proofs.Least.{own_timer, fits-timer}
use Rattle.memory.specs.Words.{head_at, timer_in}
use Rattle.memory.specs.View.{state_in}
use Rattle.views.specs.World.{begin_of, state_of, Laid, Ready}
use Rattle.views.proofs.WorldLayout.{begin-end, head-begin, row_of}

-- an atom's own timer is the second word of its head
pub own-here : (k : Kind) (b : ℕ) (mem : List ℕ) (i : ℕ) → is_coupled k ≡ false → own_timer (state_in k b mem i) ≡ of_bits binary64 (timer_in mem i)
own-here (processor p) b mem i e = refl
own-here (batcher m) b mem i e = refl
own-here (stopwatch w) b mem i e = refl
own-here coupled b mem i e = absurd (false≢true (sym e))

module _ (t : Table) (mem : List ℕ) (i : ℕ) (inside : i < length t.rows) where
  pub head-here : Laid t mem → head_at i + 4 ≤ length mem
  head-here laid = let h = head-begin t i i inside in let e = begin-end t i inside in let r = laid.room in omega arith

  pub own-timer : Ready t mem → T (is_timer (own_timer (state_of t mem i)))
  own-timer ready = fits-timer (kind_at t i) (state_of t mem i) (row_of t mem i inside ready).fits

  pub timer-here : is_coupled (kind_at t i) ≡ false → T (is_timer (own_timer (state_of t mem i))) → T (is_timer (of_bits binary64 (timer_in mem i)))
  timer-here e timer = subst (λ (x : Float). T (is_timer x)) (own-here (kind_at t i) (begin_of t i) mem i e) timer
