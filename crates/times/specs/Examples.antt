-- Worked examples, as one table: antt computes each line. Assumes nothing.
use Rattle.std.specs.Prelude.{◌≡◌, refl, ℕ, Bool, true, false, Float, None, Some}
use Rattle.std.specs.Float.{binary64}
use Rattle.std.specs.Float.Ieee.{fits, le, add, sub, of_bits, to_bits}
use Rattle.times.specs.Time.{latest, is_time, is_timer}
use Rattle.times.specs.Answers.{later_of}

abbrev f64 : ℕ → Float
f64 bits = of_bits binary64 bits

-- whether the bits are a time's, and whether they are a timer's
abbrev Are : ℕ → Bool → Bool → Type 0
Are bits time timer = (is_time (f64 bits) ≡ time) × (is_timer (f64 bits) ≡ timer)

pub record Table : Type 0 where
  pub plus-zero : Are 0x0000_0000_0000_0000 true true
  pub minus-zero : Are 0x8000_0000_0000_0000 false false
  pub smallest-subnormal : Are 0x0000_0000_0000_0001 true true
  pub largest-subnormal : Are 0x000F_FFFF_FFFF_FFFF true true
  pub minus-subnormal : Are 0x8000_0000_0000_0001 false false
  pub just-below : Are 0x43AF_FFFF_FFFF_FFFF true true
  pub two-to-sixty : Are 0x43B0_0000_0000_0000 true true
  pub just-above : Are 0x43B0_0000_0000_0001 false false
  pub infinity : Are 0x7FF0_0000_0000_0000 false true
  pub minus-infinity : Are 0xFFF0_0000_0000_0000 false false
  pub past-infinity : Are 0x7FF0_0000_0000_0001 false false
  pub not-a-number : Are 0x7FF8_0000_0000_0000 false false
  -- -0 equals 0 as a number
  pub zeros : le (f64 0x8000_0000_0000_0000) (f64 0) ≡ true
  -- 0.3 - 0.1 is 0.19999999999999998
  pub tenths : to_bits binary64 (sub binary64 (f64 0x3FD3_3333_3333_3333) (f64 0x3FB9_9999_9999_999A)) ≡ 0x3FC9_9999_9999_9999
  -- 2^60 + 128 is a tie, and goes down to the even 2^60: the clock stands still
  pub stands-still : later_of latest (f64 0x4060_0000_0000_0000) ≡ Some latest
  -- 2^60 + 256 is past the last time
  pub overflows : later_of latest (f64 0x4070_0000_0000_0000) ≡ None

pub examples : Table
unfolding is_time is_timer fits le of_bits to_bits sub add later_of
examples = record {
  plus-zero = (refl, refl);
  minus-zero = (refl, refl);
  smallest-subnormal = (refl, refl);
  largest-subnormal = (refl, refl);
  minus-subnormal = (refl, refl);
  just-below = (refl, refl);
  two-to-sixty = (refl, refl);
  just-above = (refl, refl);
  infinity = (refl, refl);
  minus-infinity = (refl, refl);
  past-infinity = (refl, refl);
  not-a-number = (refl, refl);
  zeros = refl;
  tenths = refl;
  stands-still = refl;
  overflows = refl;
}
