-- Which bits are a time's: those of at most 0x43B0_0000_0000_0000, which are 2 ^ 60's. A timer's are these and the bits of +infinity. Assumes nothing.
use Rattle.std.specs.Prelude.{◌≡◌, refl, ◌⊎◌, ◌↔◌, ℕ, zero, suc, ◌+◌, ◌*◌, ◌/◌, ◌%◌, ◌^◌, ◌≤◌, ◌<◌, Bool, true, false, not, ◌&&◌, ◌||◌, cond, pos, T, leb, ltb, eqb, Float}
use Rattle.std.proofs.Common.{sym, ap, ap₂, ◌∙◌, subst, inl, inr, le_trans, le_of_eq, le_of_lt, not-le_of_lt, eq-or-lt_of_le, le-add_right, add-zero, mul-one, suc-mul, mul_assoc, mul_comm, mul-le-mul_left, mul-le-mul_right, mul-lt-mul_of_pos_right, le_of_mul-le-mul_right, mod-eq_of_lt, mod-lt, div-add-mod', arith, ltb→lt, nltb→le, leb→le, le→leb, eqb→eq, lit≤, lit<, pow_pos, pow_mono, le-leb}
use Rattle.std.proofs.Math.Nat.{pow-succ', mul-lt-mul_of_pos_left}
use Rattle.std.proofs.Math.Pow.{pow-lt}
use Rattle.std.specs.Float.{nan, inf, binary64}
use Rattle.std.specs.Float.Ieee.{odd, of_fields, of_bits, to_bits, nan_bits, fits, le}
use Rattle.std.specs.Float.Ieee.Fits.{eq→eqb}
use Rattle.std.specs.Float.Ieee.Bits.{is_true, cond_no, of_bits-fits, of_bits-to_bits, to_bits-of_bits, nan_bits_is}
use Rattle.std.specs.Float.Ieee.Exact.{odd_sign}
use Rattle.std.proofs.lemmas.Bool.{lt-leb}
use Rattle.times.specs.Time.{clear, is_never, never, latest, is_time, is_timer}
use Rattle.times.specs.Order.{same_test, Is, is, value, clear-no-nan, le-values}
use Rattle.times.proofs.Laws.{never-is, timer-clear, time-timer}

-- the bits of 2 ^ 60 and of +infinity
abbrev pub limit : ℕ
limit = 0x43B0_0000_0000_0000

abbrev pub infinite : ℕ
infinite = 0x7FF0_0000_0000_0000

-- the weights of the sign bit and of the exponent's lowest bit
abbrev sign_bit : ℕ
sign_bit = 0x8000_0000_0000_0000

abbrev pub leading : ℕ
leading = 0x10_0000_0000_0000

below_or : (a b : ℕ) → (a < b) ⊎ (b ≤ a)
below_or a b = go (ltb a b) (ltb→lt a b) (nltb→le a b)
  where
    go : (t : Bool) → (T t → a < b) → (T (not t) → b ≤ a) → (a < b) ⊎ (b ≤ a)
    go true p q = inl (p tt)
    go false p q = inr (q tt)

-- ---- what `is_time` asks besides that the value is an f64
abbrev bounded : Float → Bool
bounded x = clear x && le x latest

time-bounded : (x : Float) → T (fits binary64 x) → is_time x ≡ bounded x
unfolding is_time
time-bounded x f = ap (λ (b : Bool). b && clear x && le x latest) (is_true (fits binary64 x) f)

-- a value a / c is bounded exactly if a ≤ 2 ^ 60 * c
bounded-value : {a c : ℕ} {x : Float} → 0 < c → Is a c x → bounded x ≡ leb a (2 ^ 60 * c)
bounded-value {a} {c} C (is m e v) = le-values C (pow_pos 0) (is m e v) (is 1 (pos 60) refl) ∙ ap (λ (z : ℕ). leb z (2 ^ 60 * c)) (mul-one a)

pub time-value : {a c : ℕ} {x : Float} → T (fits binary64 x) → 0 < c → Is a c x → is_time x ≡ leb a (2 ^ 60 * c)
time-value {x = x} f C v = time-bounded x f ∙ bounded-value C v

-- ---- the fields in the order of the values
-- a y below K
lower-value : (H t y K : ℕ) → t < H → y < K → (H + t) * 2 ^ y ≤ H * 2 ^ K
lower-value H t y K l k =
    le_trans (mul-le-mul_right (2 ^ y) (both H t l))
    (le_trans (le_of_eq (ap (λ (z : ℕ). z * 2 ^ y) (mul_comm 2 H) ∙ mul_assoc H 2 (2 ^ y) ∙ ap (λ (z : ℕ). H * z) (sym (pow-succ' 2 y)))) (mul-le-mul_left H (pow_mono k)))
  where
    both : (H t : ℕ) → t < H → H + t ≤ 2 * H
    both H t l = omega arith

lower-fields : (H t y K : ℕ) → t < H → y < K → suc y * H + t ≤ suc K * H
lower-fields H t y K l k =
    le_trans (more (suc y * H) H t l) (le_trans (le_of_eq (sym (suc-mul (suc y) H))) (mul-le-mul_right H (up_one k)))
  where
    more : (p H t : ℕ) → t < H → p + t ≤ p + H
    more p H t l = omega arith

    up_one : {y K : ℕ} → y < K → suc (suc y) ≤ suc K
    up_one k = omega arith

no_more : (p t : ℕ) → p + t ≤ p → t ≡ 0
no_more p t h = omega arith

above : (p q t : ℕ) → p < q → q + t ≤ p → ⊥
above p q t h k = omega arith

-- (H + t) * 2 ^ y, H being the leading digit, against H * 2 ^ K
ordered : (H t y K : ℕ) → 0 < H → t < H → ((H + t) * 2 ^ y ≤ H * 2 ^ K) ↔ (suc y * H + t ≤ suc K * H)
ordered H t y K P l = elim (below_or y K) [
  | inl k ↦ (λ _. lower-fields H t y K l k, λ _. lower-value H t y K l k)
  | inr k ↦ elim (eq-or-lt_of_le k) [ inl e ↦ equal e | inr m ↦ more m ]
]
  where
    equal : K ≡ y → ((H + t) * 2 ^ y ≤ H * 2 ^ K) ↔ (suc y * H + t ≤ suc K * H)
    equal e = subst (λ (z : ℕ). ((H + t) * 2 ^ z ≤ H * 2 ^ K) ↔ (suc z * H + t ≤ suc K * H)) e (
      λ h. le_of_eq (ap (λ (z : ℕ). suc K * H + z) (no_more H t (le_of_mul-le-mul_right h (pow_pos K))) ∙ add-zero (suc K * H)),
      λ h. le_of_eq (ap (λ (z : ℕ). (H + z) * 2 ^ K) (no_more (suc K * H) t h) ∙ ap (λ (z : ℕ). z * 2 ^ K) (add-zero H)),
    )

    more : K < y → ((H + t) * 2 ^ y ≤ H * 2 ^ K) ↔ (suc y * H + t ≤ suc K * H)
    more k = (
      λ h. absurd (not-le_of_lt (mul-lt-mul_of_pos_left (pow-lt k) P) (le_trans (mul-le-mul_right (2 ^ y) (le-add_right H t)) h)),
      λ h. absurd (above (suc K * H) (suc y * H) t (mul-lt-mul_of_pos_right (step k) P) h),
    )
      where
        step : {a b : ℕ} → a < b → suc a < suc b
        step h = omega arith

same-leb : (a b c d : ℕ) → (a ≤ b) ↔ (c ≤ d) → leb a b ≡ leb c d
same-leb a b c d h = same_test (leb a b) (leb c d) (λ t. le→leb c d (h.0 (leb→le a b t))) (λ t. le→leb a b (h.1 (leb→le c d t)))

-- ---- the value that three fields stand for, with the sign bit clear
odd-bounded : (q k : ℕ) → bounded (odd 53 false q k 1074) ≡ leb (q * 2 ^ k) (2 ^ 60 * 2 ^ 1074)
odd-bounded q k = bounded-value (pow_pos 1074) (value (odd 53 false q k 1074) (q * 2 ^ k) (2 ^ 1074) (odd_sign 53 false q k 1074))

pub at_zero : (t : ℕ) → of_fields binary64 false 0 t ≡ odd 53 false t 0 1074
unfolding of_fields
at_zero t = refl

pub at-middle : (x t : ℕ) → T (not (eqb (suc x) 2047)) → of_fields binary64 false (suc x) t ≡ odd 53 false (leading + t) x 1074
unfolding of_fields
at-middle x t n = cond_no (eqb (suc x) 2047) (cond (eqb t 0) (inf false) nan) (odd 53 false (leading + t) x 1074) n

at_top : (x t : ℕ) → T (eqb (suc x) 2047) → bounded (of_fields binary64 false (suc x) t) ≡ false
unfolding of_fields le
at_top x t h = go (eqb (suc x) 2047) (eqb t 0) h
  where
    go : (a b : Bool) → T a → bounded (cond a (cond b (inf false) nan) (odd 53 false (leading + t) x 1074)) ≡ false
    go true true u = refl
    go true false u = refl
    go false b u = absurd u

over : (x t : ℕ) → suc x ≡ 2047 → limit < suc x * leading + t
over x t e = omega arith

under-limit : (t : ℕ) → t < leading → 0 * leading + t ≤ limit
under-limit t h = omega arith

under_top : (t : ℕ) → t < leading → t * 2 ^ 0 ≤ 2 ^ 60 * 2 ^ 1074
under_top t h = le_trans (le_of_eq (mul-one t)) (le_trans (le_of_lt h) (lit≤ tt))

fields-bounded : (x t : ℕ) → t < leading → bounded (of_fields binary64 false x t) ≡ leb (x * leading + t) limit
fields-bounded zero t h =
    ap bounded (at_zero t) ∙ odd-bounded t 0 ∙ le-leb (t * 2 ^ 0) (2 ^ 60 * 2 ^ 1074) (under_top t h) ∙ sym (le-leb (0 * leading + t) limit (under-limit t h))
fields-bounded (suc x) t h = go (eqb (suc x) 2047) (at_top x t) (at-middle x t) (eqb→eq (suc x) 2047)
  where
    go : (b : Bool) → (T b → bounded (of_fields binary64 false (suc x) t) ≡ false) → (T (not b) → of_fields binary64 false (suc x) t ≡ odd 53 false (leading + t) x 1074)
        → (T b → suc x ≡ 2047) → bounded (of_fields binary64 false (suc x) t) ≡ leb (suc x * leading + t) limit
    go true p q e = p tt ∙ sym (lt-leb (suc x * leading + t) limit (over x t (e tt)))
    go false p q e =
        ap bounded (q tt)
        ∙ odd-bounded (leading + t) x
        ∙ same-leb ((leading + t) * 2 ^ x) (leading * 2 ^ 1082) (suc x * leading + t) (suc 1082 * leading) (ordered leading t x 1082 (lit< tt) h)

-- ---- the sign bit
odd_set : (d q k l : ℕ) → clear (odd d true q k l) ≡ false
unfolding odd
odd_set d zero k l = refl
odd_set d (suc q) k l = refl

fields-set : (x t : ℕ) → clear (of_fields binary64 true x t) ≡ false
unfolding of_fields
fields-set zero t = odd_set 53 t 0 1074
fields-set (suc x) t = go (eqb (suc x) 2047) (eqb t 0)
  where
    go : (a b : Bool) → clear (cond a (cond b (inf true) nan) (odd 53 true (leading + t) x 1074)) ≡ false
    go true true = refl
    go true false = refl
    go false b = odd_set 53 (leading + t) x 1074

opened : (b : ℕ) → of_bits binary64 b ≡ of_fields binary64 (leb sign_bit b) (b % sign_bit / leading) (b % leading)
unfolding of_bits
opened b = refl

bits-set : (b : ℕ) → sign_bit ≤ b → clear (of_bits binary64 b) ≡ false
bits-set b h =
    let x = b % sign_bit / leading in
    let t = b % leading in
    ap clear (opened b ∙ ap (λ (s : Bool). of_fields binary64 s x t) (le-leb sign_bit b h)) ∙ fields-set x t

pub bits-clear : (b : ℕ) → b < sign_bit → of_bits binary64 b ≡ of_fields binary64 false (b / leading) (b % leading)
bits-clear b h =
    opened b
    ∙ ap₂ (λ (s : Bool) (z : ℕ). of_fields binary64 s (z / leading) (b % leading)) (lt-leb sign_bit b h) (mod-eq_of_lt h)

-- ---- a time exactly when the bits are at most 0x43B0_0000_0000_0000
pub time-bits : (b : ℕ) → is_time (of_bits binary64 b) ≡ leb b limit
time-bits b = time-bounded (of_bits binary64 b) (of_bits-fits binary64 b) ∙ elim (below_or b sign_bit) [
  | inl h ↦ ap bounded (bits-clear b h) ∙ fields-bounded (b / leading) (b % leading) (mod-lt b (lit< tt)) ∙ ap (λ (z : ℕ). leb z limit) (div-add-mod' b leading)
  | inr h ↦ ap (λ (s : Bool). s && le (of_bits binary64 b) latest) (bits-set b h) ∙ sym (lt-leb b limit (past b h))
]
  where
    past : (b : ℕ) → sign_bit ≤ b → limit < b
    past b h = omega arith

-- the same of an f64: its bits decide
pub time-pattern : (x : Float) → T (fits binary64 x) → is_time x ≡ leb (to_bits binary64 x) limit
time-pattern x f = ap is_time (sym (of_bits-to_bits binary64 x f)) ∙ time-bits (to_bits binary64 x)

-- a time's bits are no NaN's
pub limit-no-nan : (b : ℕ) → b ≤ limit → T (not (nan_bits binary64 b))
limit-no-nan b h =
    let x = of_bits binary64 b in
    subst (λ (t : Bool). T (not t)) (sym (nan_bits_is binary64 b)) (clear-no-nan x (timer-clear x (time-timer x (subst T (sym (time-bits b)) (le→leb b limit h)))))

-- ---- a timer exactly when they are at most that, or 0x7FF0_0000_0000_0000
never-read : of_bits binary64 infinite ≡ never
unfolding of_bits
never-read = refl

never-written : to_bits binary64 never ≡ infinite
unfolding to_bits
never-written = refl

-- bits whose value has its sign bit clear are that value's
pub clear-bits : (b : ℕ) → T (clear (of_bits binary64 b)) → to_bits binary64 (of_bits binary64 b) ≡ b
clear-bits b t = to_bits-of_bits binary64 b (elim (below_or b sign_bit) [ inl h ↦ wider b h | inr h ↦ absurd (subst T (bits-set b h) t) ]) (clear-no-nan (of_bits binary64 b) t)
  where
    wider : (b : ℕ) → b < sign_bit → b < 2 * sign_bit
    wider b h = omega arith

never-bits : (b : ℕ) → is_never (of_bits binary64 b) ≡ eqb b infinite
never-bits b =
    same_test (is_never (of_bits binary64 b)) (eqb b infinite)
    (λ t. let e = never-is (of_bits binary64 b) t in eq→eqb (sym (clear-bits b (subst (λ (x : Float). T (clear x)) (sym e) tt)) ∙ ap (to_bits binary64) e ∙ never-written))
    (λ t. subst (λ (x : Float). T (is_never x)) (sym (ap (of_bits binary64) (eqb→eq b infinite t) ∙ never-read)) tt)

pub timer-bits : (b : ℕ) → is_timer (of_bits binary64 b) ≡ (leb b limit || eqb b infinite)
unfolding is_timer
timer-bits b = ap₂ ◌||◌ (time-bits b) (never-bits b)
