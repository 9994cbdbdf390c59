-- The decimals of single clocks, by their bits: antt computes each line. Assumes nothing.
use Rattle.std.specs.Prelude.{◌≡◌, refl, ℕ}
use Rattle.std.specs.Float.{binary64}
use Rattle.std.specs.Float.Ieee.{fits, le, of_bits}
use Rattle.times.specs.Time.{is_time}
use Rattle.decimals.specs.Decimal.{millionths, micros_of}
use Rattle.decimals.specs.declared.Micros.{Micros}

-- the f64 of these bits is `whole` and `micros` millionths
abbrev Reads : ℕ → ℕ → ℕ → Type 0
Reads bits whole micros = ◌≡◌ {A = Micros} (micros_of (of_bits binary64 bits)) (record { whole = whole; micros = micros })

pub record Table : Type 0 where
  pub zero : Reads 0x0000_0000_0000_0000 0 0
  pub half : Reads 0x3FE0_0000_0000_0000 0 500000
  pub twelve-and-a-quarter : Reads 0x4028_8000_0000_0000 12 250000
  pub a_tenth : Reads 0x3FB9_9999_9999_999A 0 100000
  -- 2.5e-7
  pub quarter-of-a-millionth : Reads 0x3E90_C6F7_A0B5_ED8D 0 0
  -- 5e-7: as an f64 just below the half
  pub below-a-half : Reads 0x3EA0_C6F7_A0B5_ED8D 0 0
  -- the f64 after it
  pub above-a-half : Reads 0x3EA0_C6F7_A0B5_ED8E 0 1
  -- 1.5e-6: as an f64 just above the tie
  pub one_and_a_half : Reads 0x3EB9_2A73_7110_E454 0 2
  -- 1 / 128 is 7,812.5 millionths
  pub tie_down : Reads 0x3F80_0000_0000_0000 0 7812
  -- the f64 after it
  pub past-the-tie : Reads 0x3F80_0000_0000_0001 0 7813
  -- 3 / 128 is 23,437.5 millionths
  pub tie_up : Reads 0x3F98_0000_0000_0000 0 23438
  -- the f64 before it
  pub before-the-tie : Reads 0x3F97_FFFF_FFFF_FFFF 0 23437
  -- 2^40 + 1 / 128
  pub large-tie-down : Reads 0x4270_0000_0000_0020 1099511627776 7812
  -- 2^40 + 3 / 128
  pub large-tie-up : Reads 0x4270_0000_0000_0060 1099511627776 23438
  -- 0.9999995
  pub carries : Reads 0x3FEF_FFFE_F390_85F5 1 0
  -- 0.99999949
  pub stays-below : Reads 0x3FEF_FFFE_EE32_223C 0 999999
  pub just-below-one : Reads 0x3FEF_FFFF_FFFF_FFFF 1 0
  -- 999999.9999999
  pub carries-far : Reads 0x412E_847F_FFFF_FCA5 1000000 0
  -- 2^20 + 2^-32, of 32 binary places
  pub thirty-two-places : Reads 0x4130_0000_0000_0001 1048576 0
  -- 2^20 - 2^-33, of 33
  pub thirty-three-places : Reads 0x412F_FFFF_FFFF_FFFF 1048576 0
  -- 2^52 - 0.5
  pub last-half : Reads 0x432F_FFFF_FFFF_FFFF 4503599627370495 500000
  -- 2^53 - 1
  pub last-odd : Reads 0x433F_FFFF_FFFF_FFFF 9007199254740991 0
  pub two-to-fifty-three : Reads 0x4340_0000_0000_0000 9007199254740992 0
  -- 2^60 - 128
  pub before-the-last : Reads 0x43AF_FFFF_FFFF_FFFF 1152921504606846848 0
  -- 2^60
  pub last-time : Reads 0x43B0_0000_0000_0000 1152921504606846976 0
  pub smallest : Reads 0x0000_0000_0000_0001 0 0
  pub two-to-minus-twenty-one : Reads 0x3EA0_0000_0000_0000 0 0
  pub two-to-minus-twenty-two : Reads 0x3E90_0000_0000_0000 0 0
  -- the f64 before 2^-21
  pub one-place-more : Reads 0x3E9F_FFFF_FFFF_FFFF 0 0
  -- what is no time
  -- a NaN
  pub no_number : Reads 0x7FF8_0000_0000_0000 0 0
  pub infinity : Reads 0x7FF0_0000_0000_0000 0 0
  pub minus-zero : Reads 0x8000_0000_0000_0000 0 0
  pub minus-half : Reads 0xBFE0_0000_0000_0000 0 0
  -- 2^60 + 256
  pub past-the-last : Reads 0x43B0_0000_0000_0001 0 0

pub examples : Table
unfolding micros_of millionths is_time fits le of_bits
examples = record {
  zero = refl;
  half = refl;
  twelve-and-a-quarter = refl;
  a_tenth = refl;
  quarter-of-a-millionth = refl;
  below-a-half = refl;
  above-a-half = refl;
  one_and_a_half = refl;
  tie_down = refl;
  past-the-tie = refl;
  tie_up = refl;
  before-the-tie = refl;
  large-tie-down = refl;
  large-tie-up = refl;
  carries = refl;
  stays-below = refl;
  just-below-one = refl;
  carries-far = refl;
  thirty-two-places = refl;
  thirty-three-places = refl;
  last-half = refl;
  last-odd = refl;
  two-to-fifty-three = refl;
  before-the-last = refl;
  last-time = refl;
  smallest = refl;
  two-to-minus-twenty-one = refl;
  two-to-minus-twenty-two = refl;
  one-place-more = refl;
  no_number = refl;
  infinity = refl;
  minus-zero = refl;
  minus-half = refl;
  past-the-last = refl;
}
