-- What the functions that may find no time answer. Assumes nothing.
use Rattle.std.specs.Prelude.{ℕ, Bool, cond, Float, Option, Some, None}
use Rattle.std.specs.Float.{binary64}
use Rattle.std.specs.Float.Ieee.{add, of_bits}
use Rattle.times.specs.Time.{is_time, is_timer}

-- x, if it passes the test
abbrev pub answer : {A : Type 0} → (Float → Bool) → (Float → A) → A → Float → A
answer test give refuse x = cond (test x) (give x) refuse

-- the value of the bits if it is a time
unfoldable pub time_of_bits : ℕ → Option Float
time_of_bits b = answer is_time Some None (of_bits binary64 b)

-- the value of the bits if it is a timer
unfoldable pub timer_of_bits : ℕ → Option Float
timer_of_bits b = answer is_timer Some None (of_bits binary64 b)

-- "The clock gains the advance, rounded once; refusal 11 is decided here": "the new clock is no time"
unfoldable pub later_of : Float → Float → Option Float
later_of c a = answer is_time Some None (add binary64 c a)
