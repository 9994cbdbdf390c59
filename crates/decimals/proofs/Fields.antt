-- The millionths of a time by the fields of its bits: by the exponent's field, and the digits with the leading one. Assumes nothing.
use mathlib.Core.Path.{◌≡◌, refl, sym, ap, ◌∙◌, subst}
use Prim.Native.Nat.{ℕ, zero, suc, ◌+◌, ◌-◌, ◌*◌, ◌/◌, ◌%◌, ◌^◌, ◌≤◌, ◌<◌}
use native.Mathlib.Nat.{lt_of_lt_of_le, mul_assoc, mul_comm, mul_left_comm}
use native.Mathlib.Omega.{arith}
use mathlib.Core.Bool.{Bool, false, not}
use lib.Dec.{T, leb, eqb, leb→le}
use lib.Pow.{pow-add, pow_pos, pow_mono, shl_lt}
use lib.Ieee.{Float, binary64, odd, fits, of_bits, to_bits}
use lib.Ieee.Bits.{of_bits-to_bits}
use lib.Ieee.Exact.{odd_sign}
use lib.Ieee.Nearest.{closest_same}
use borrow.Author.Tests.{ne_eqb}
use Rattle.times.specs.Time.{is_time}
use Rattle.times.specs.Order.{value}
use Rattle.times.proofs.Patterns.{limit, leading, at_zero, at-middle, bits-clear, time-pattern}
use Rattle.decimals.specs.Decimal.{million, nearest, millionths, placed, micros_of}
use Rattle.decimals.specs.Rounding.{nearest-exact, nearest-none}
use Rattle.decimals.specs.Laws.{of-time, by_fraction}

-- the digits with the leading one
abbrev pub digits : ℕ → ℕ
digits b = leading + b % leading

abbrev units : ℕ
units = 2 ^ 1074

-- ---- q * 2 ^ x in units of 2 ^ -1074
of-odd : (q x : ℕ) → millionths (odd 53 false q x 1074) ≡ nearest (q * 2 ^ x * million) units
of-odd q x = by_fraction (pow_pos 1074) (value (odd 53 false q x 1074) (q * 2 ^ x) units (odd_sign 53 false q x 1074))

within : (b : ℕ) → b ≤ limit → b < 0x8000_0000_0000_0000
within b h = omega arith

no_top : (b x : ℕ) → b ≤ limit → b / leading ≡ suc x → T (not (eqb (suc x) 2047))
no_top b x h e = subst (λ (t : Bool). T (not t)) (sym (ne_eqb (suc x) 2047 (λ f. apart b (e ∙ f) h))) tt
  where
    apart : (b : ℕ) → b / leading ≡ 2047 → b ≤ limit → ⊥
    apart b e h = omega arith

normal : (b x : ℕ) → b ≤ limit → b / leading ≡ suc x → millionths (of_bits binary64 b) ≡ nearest (digits b * 2 ^ x * million) units
normal b x h e = ap millionths (bits-clear b (within b h) ∙ (rw e) ∙ at-middle x (b % leading) (no_top b x h e)) ∙ of-odd (digits b) x

-- ---- the field from 1075 on: a whole number
pub whole-field : (b j : ℕ) → b ≤ limit → b / leading ≡ 1075 + j → millionths (of_bits binary64 b) ≡ digits b * 2 ^ j * million
whole-field b j h e =
    normal b (1074 + j) h (e ∙ next j) ∙ ap (λ (z : ℕ). nearest z units) (ap (λ (z : ℕ). digits b * z * million) (pow-add 2 1074 j) ∙ turned (digits b) units (2 ^ j) million) ∙ nearest-exact (digits b * 2 ^ j * million) units (pow_pos 1074)
  where
    next : (j : ℕ) → 1075 + j ≡ suc (1074 + j)
    next j = omega arith

    turned : (q u w m : ℕ) → q * (u * w) * m ≡ q * w * m * u
    turned q u w m = simp (mul_assoc, mul_comm, mul_left_comm)

-- ---- the field from 1 to 1074: s binary places
pub placed-field : (b s : ℕ) → b ≤ limit → 0 < b / leading → b / leading + s ≡ 1075 → millionths (of_bits binary64 b) ≡ nearest (digits b * million) (2 ^ s)
placed-field b s h l e =
    let x = b / leading - 1 in
    let all : x + s ≡ 1074 = omega arith in
    normal b x h (omega arith)
    ∙ closest_same (digits b * 2 ^ x * million) units (digits b * million) (2 ^ s) (pow_pos 1074) (pow_pos s)
    (turned (digits b) (2 ^ x) million (2 ^ s) ∙ ap (λ (z : ℕ). digits b * million * z) (sym (pow-add 2 x s) ∙ ap (λ (z : ℕ). 2 ^ z) all))
  where
    turned : (q u m w : ℕ) → q * u * m * w ≡ q * m * (u * w)
    turned q u m w = simp (mul_assoc, mul_left_comm)

-- ---- the field up to 1001: less than half of a millionth
less : (a : ℕ) → a < 2 ^ 1053 → nearest (a * million) units ≡ 0
less a h = nearest-none (a * million) units (pow_pos 1074) (scaled a (2 ^ 1053) h)
  where
    scaled : (a c : ℕ) → a < c → 2 * (a * million) ≤ c * 2 ^ 21
    scaled a c h = omega arith

pub small-field : (b : ℕ) → b ≤ limit → b / leading < 1002 → millionths (of_bits binary64 b) ≡ 0
small-field b h l = go (b / leading) refl
  where
    few : (q x : ℕ) → q < 2 ^ 53 → x ≤ 1000 → q * 2 ^ x < 2 ^ 1053
    few q x a k = lt_of_lt_of_le (shl_lt 53 x a) (pow_mono {j = 1053} (omega arith))

    go : (k : ℕ) → b / leading ≡ k → millionths (of_bits binary64 b) ≡ 0
    go zero e = ap millionths (bits-clear b (within b h) ∙ (rw e) ∙ at_zero (b % leading)) ∙ of-odd (b % leading) 0 ∙ less (b % leading * 2 ^ 0) (few (b % leading) 0 (omega arith) (omega arith))
    go (suc x) e = normal b x h e ∙ less (digits b * 2 ^ x) (few (digits b) x (omega arith) (omega arith))

-- ---- an f64 that is a time, by its bits
module _ (x : Float) (b : ℕ) (f : T (fits binary64 x)) (t : T (is_time x)) (e : b ≡ to_bits binary64 x) where
  pub bits-within : b ≤ limit
  bits-within = leb→le b limit (subst T (time-pattern x f ∙ ap (λ (z : ℕ). leb z limit) (sym e)) t)

  pub by_bits : placed (millionths (of_bits binary64 b)) ≡ micros_of x
  by_bits = ap (λ (y : Float). placed (millionths y)) (ap (of_bits binary64) e ∙ of_bits-to_bits binary64 x f) ∙ sym (of-time x t)

-- what the code multiplies fits a word
pub product-fits : (b j u : ℕ) → u ≡ 2 ^ j → j ≤ 8 → digits b * u < 2 ^ 64
product-fits b j u e h = subst (λ (z : ℕ). digits b * z < 2 ^ 64) (sym e) (lt_of_lt_of_le (shl_lt 53 j (top b)) (pow_mono {j = 64} (omega arith)))
  where
    top : (b : ℕ) → digits b < 2 ^ 53
    top b = omega arith
