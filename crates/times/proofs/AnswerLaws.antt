-- What each answer of the functions that answer with an enum says. Assumes nothing.
use Rattle.std.specs.Prelude.{◌≡◌, refl, ℕ, Bool, true, false, cond, T, Float, None, Some}
use Rattle.std.proofs.Common.{sym, ap, ◌∙◌, subst, arith, ne_eqb}
use Rattle.std.specs.Float.{binary64}
use Rattle.std.specs.Float.Ieee.{add, fits, of_bits, to_bits}
use Rattle.std.specs.Float.Ieee.Bits.{of_bits-to_bits, is_true}
use Rattle.times.specs.Time.{clear, never, is_time, is_timer}
use Rattle.times.proofs.Laws.{time-fits, timer-fits, timer-clear, time-timer, never-timer}
use Rattle.times.proofs.Patterns.{infinite, time-bits, timer-bits, clear-bits}
use Rattle.times.specs.Answers.{answer, time_of_bits, timer_of_bits, later_of}

-- ---- what an answer says, once for the three
abbrev Only : {A : Type 0} → (Float → A) → A → Type 0
Only give refuse = ((x y : Float) → give x ≡ give y → y ≡ x) × ((x : Float) → give x ≡ refuse → ⊥)

given : {A : Type 0} (test : Float → Bool) (give : Float → A) (refuse : A) → Only give refuse → (x y : Float) → answer test give refuse x ≡ give y → T (test y) × (y ≡ x)
given test give refuse o x y e = go (test x) refl e
  where
    go : (b : Bool) → test x ≡ b → cond b (give x) refuse ≡ give y → T (test y) × (y ≡ x)
    go true t e = let z = o.0 x y e in (subst T (sym (ap test z ∙ t)) tt, z)
    go false t e = absurd (o.1 y (sym e))

refused : {A : Type 0} (test : Float → Bool) (give : Float → A) (refuse : A) → Only give refuse → (x : Float) → answer test give refuse x ≡ refuse → test x ≡ false
refused test give refuse o x e = go (test x) e
  where
    go : (b : Bool) → cond b (give x) refuse ≡ refuse → b ≡ false
    go true e = absurd (o.1 x e)
    go false e = refl

-- a time, a timer and a clock that is none is none of those that are given
only-time : Only Some None
only-time = (λ x y e. cc, λ x e. let z : ◌≡◌ {A = ℕ} 0 1 = cc in omega arith)

only-timer : Only Some None
only-timer = only-time

only-clock : Only Some None
only-clock = only-time

-- a time was read: the value of the bits, and a time
pub time-says : (b : ℕ) (x : Float) → time_of_bits b ≡ Some x → T (is_time x) × (x ≡ of_bits binary64 b)
unfolding time_of_bits
time-says b x e = given is_time Some None only-time (of_bits binary64 b) x e

-- none was read: the value of the bits is no time
pub bad-says : (b : ℕ) → time_of_bits b ≡ None → is_time (of_bits binary64 b) ≡ false
unfolding time_of_bits
bad-says b e = refused is_time Some None only-time (of_bits binary64 b) e

-- the same of timers
pub timer-says : (b : ℕ) (x : Float) → timer_of_bits b ≡ Some x → T (is_timer x) × (x ≡ of_bits binary64 b)
unfolding timer_of_bits
timer-says b x e = given is_timer Some None only-timer (of_bits binary64 b) x e

pub no-timer-says : (b : ℕ) → timer_of_bits b ≡ None → is_timer (of_bits binary64 b) ≡ false
unfolding timer_of_bits
no-timer-says b e = refused is_timer Some None only-timer (of_bits binary64 b) e

-- a new clock: the rounded sum, and a time
pub clock-says : (clock a c : Float) → later_of clock a ≡ Some c → T (is_time c) × (c ≡ add binary64 clock a)
unfolding later_of
clock-says clock a c e = given is_time Some None only-clock (add binary64 clock a) c e

-- none: the rounded sum is no time
pub overflow-says : (clock a : Float) → later_of clock a ≡ None → is_time (add binary64 clock a) ≡ false
unfolding later_of
overflow-says clock a e = refused is_time Some None only-clock (add binary64 clock a) e

-- ---- there and back: the bits of a time or a timer are read as it
module _ {A : Type 0} (test : Float → Bool) (give : Float → A) (refuse : A) where
  passes : (x : Float) → T (test x) → answer test give refuse x ≡ give x
  passes x t = ap (λ (b : Bool). cond b (give x) refuse) (is_true (test x) t)

  back : (x : Float) → T (fits binary64 x) → T (test x) → answer test give refuse (of_bits binary64 (to_bits binary64 x)) ≡ give x
  back x f t = ap (answer test give refuse) (of_bits-to_bits binary64 x f) ∙ passes x t

pub bits_back : (x : Float) → T (is_time x) → time_of_bits (to_bits binary64 x) ≡ Some x
unfolding time_of_bits
bits_back x t = back is_time Some None x (time-fits x t) t

pub timer-bits-back : (x : Float) → T (is_timer x) → timer_of_bits (to_bits binary64 x) ≡ Some x
unfolding timer_of_bits
timer-bits-back x t = back is_timer Some None x (timer-fits x t) t

-- ---- a timer's bits are those of +infinity or a time's
pub of-never : timer_of_bits infinite ≡ Some never
unfolding to_bits
of-never = timer-bits-back never never-timer

pub of-time : (b : ℕ) (x : Float) → time_of_bits b ≡ Some x → timer_of_bits b ≡ Some x
unfolding timer_of_bits
of-time b x e = let w = time-says b x e in ap (answer is_timer Some None) (sym w.1) ∙ passes is_timer Some None x (time-timer x w.0)

pub of-bad : (b : ℕ) → time_of_bits b ≡ None → (b ≡ infinite → ⊥) → timer_of_bits b ≡ None
unfolding timer_of_bits
of-bad b e n = rw (timer-bits b, sym (time-bits b) ∙ bad-says b e, ne_eqb b infinite n)

-- ---- and what is read has the bits that it was read from
pub timer-bits-kept : (b : ℕ) (x : Float) → timer_of_bits b ≡ Some x → to_bits binary64 x ≡ b
timer-bits-kept b x e = let w = timer-says b x e in ap (to_bits binary64) w.1 ∙ clear-bits b (subst (λ (y : Float). T (clear y)) w.1 (timer-clear x w.0))

pub bits-kept : (b : ℕ) (x : Float) → time_of_bits b ≡ Some x → to_bits binary64 x ≡ b
bits-kept b x e = timer-bits-kept b x (of-time b x e)
