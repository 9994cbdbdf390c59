-- Words computed as times: decimal numbers rounded once, whole numbers and bits, and what is none of these. Assumes nothing.
use Rattle.std.specs.Prelude.{ℕ, ◌≡◌, refl, Some, None}
use Prim.Native.String.{String}
use Rattle.std.specs.Float.Ieee.{of_int, round, to_bits}
use Rattle.bench_words.specs.Numbers.{digit_of, numeral, number_of, has_bits, decimal_of, time_of}
use Rattle.bench_words.specs.Texts.{bytes}

abbrev Reads : String → ℕ → Type 0
Reads word bits = time_of (bytes word) ≡ Some bits

abbrev Refused : String → Type 0
Refused word = time_of (bytes word) ≡ None

pub record Table : Type 0 where
  pub half : Reads "0.5" 0x3FE0_0000_0000_0000
  pub quarter : Reads "12.25" 0x4028_8000_0000_0000
  pub tenth : Reads "0.1" 0x3FB9_9999_9999_999A
  pub three-tenths : Reads "0.3" 0x3FD3_3333_3333_3333
  pub below-2675 : Reads "2.675" 0x4005_6666_6666_6666
  pub fifteen_digits : Reads "999999999999.999" 0x426D_1A94_A1FF_FFF8
  pub smallest : Reads "0.00000000000001" 0x3D06_849B_86A1_2B9B
  pub zero-before : Reads "00.5" 0x3FE0_0000_0000_0000
  pub nine-and-six : Reads "123456789.012345" 0x419D_6F34_540C_A42B
  pub fourteen-and-one : Reads "99999999999999.9" 0x42D6_BCC4_1E8F_FFFA
  pub nought : Reads "0.0" 0x0000_0000_0000_0000
  pub whole-with-point : Reads "12.0" 0x4028_0000_0000_0000
  pub whole : Reads "12" 0x4028_0000_0000_0000
  pub sixteen-digits-whole : Reads "9007199254740992" 0x4340_0000_0000_0000
  pub bits : Reads "0x3FB999999999999A" 0x3FB9_9999_9999_999A
  pub nothing-before : Refused ".5"
  pub nothing-behind : Refused "5."
  pub two-points : Refused "1.2.3"
  pub minus : Refused "-0.5"
  pub plus : Refused "+1.5"
  pub exponent : Refused "1e3"
  pub exponent-behind : Refused "1.5e3"
  pub unit : Refused "2.5ms"
  pub hex-digit : Refused "1.A"
  pub sixteen-digits : Refused "0.000000000000001"
  pub sixteen-digits-before : Refused "123456789012345.6"
  pub empty : Refused ""
  pub lone-point : Refused "."
  pub comma : Refused "1,5"
  pub bits-with-point : Refused "0x3FB999999999.99A"

pub cases : Table
unfolding digit_of numeral number_of has_bits decimal_of time_of of_int round to_bits
cases = record {
  half = refl;
  quarter = refl;
  tenth = refl;
  three-tenths = refl;
  below-2675 = refl;
  fifteen_digits = refl;
  smallest = refl;
  zero-before = refl;
  nine-and-six = refl;
  fourteen-and-one = refl;
  nought = refl;
  whole-with-point = refl;
  whole = refl;
  sixteen-digits-whole = refl;
  bits = refl;
  nothing-before = refl;
  nothing-behind = refl;
  two-points = refl;
  minus = refl;
  plus = refl;
  exponent = refl;
  exponent-behind = refl;
  unit = refl;
  hex-digit = refl;
  sixteen-digits = refl;
  sixteen-digits-before = refl;
  empty = refl;
  lone-point = refl;
  comma = refl;
  bits-with-point = refl;
}
