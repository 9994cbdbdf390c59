-- The order of the values whose sign bit is clear. It is total and transitive, and antisymmetric among those that a format holds. Assumes nothing.
use Rattle.std.specs.Prelude.{◌≡◌, refl, ◌⊎◌, ℕ, ◌+◌, ◌-◌, ◌*◌, ◌/◌, ◌^◌, ◌≤◌, ◌<◌, Bool, true, false, not, ◌&&◌, ◌||◌, ℤ, T, leb, ltb, eqb, Float}
use Rattle.std.proofs.Common.{sym, ap, ◌∙◌, subst, inl, inr, le_refl, le_of_eq, le_of_lt, le_antisymm, eq-or-lt_of_le, lt_of_not-le, not-le_of_lt, mul_right_comm, true≢false, leb→le, le→leb, ltb→lt, lt→ltb, eqb→eq, T_not}
use Rattle.std.proofs.Math.Dec.{eqb_refl, not_T}
use Rattle.std.specs.Float.{nan, inf, fin, Format}
use Rattle.std.specs.Float.Ieee.{prec, low, hid, up, down, size, fits, is_nan, lt, le, eq, to_bits, of_bits}
use Rattle.std.specs.Float.Ieee.Fits.{down_pos, and_i, and_l, eq→eqb}
use Rattle.std.specs.Float.Ieee.Bits.{of_bits-to_bits}
use Rattle.std.specs.Float.Ieee.Exact.{HasValue}
use Rattle.std.specs.Float.Ieee.Order.{transfer, le_of_values}
use Rattle.std.specs.Float.Ieee.Nearest.{div_same}
use Rattle.std.specs.Float.Ieee.Positive.{through}
use Rattle.times.specs.Time.{clear}

-- ---- tests
pub or_split : (a b : Bool) → T (a || b) → T a ⊎ T b
or_split true b t = inl tt
or_split false b t = inr t

pub or_l : (a b : Bool) → T a → T (a || b)
or_l true b t = tt
or_l false b t = absurd t

pub or_r : (a b : Bool) → T b → T (a || b)
or_r true b t = tt
or_r false b t = t

pub same_test : (a b : Bool) → (T a → T b) → (T b → T a) → a ≡ b
same_test true true p q = refl
same_test true false p q = absurd (p tt)
same_test false true p q = absurd (q tt)
same_test false false p q = refl

-- ---- a value whose sign bit is clear is +infinity or a number
pub data Clear : Float → Type 0 where
  endless : Clear (inf false)
  number : (m : ℕ) (e : ℤ) → Clear (fin false m e)

pub view : (x : Float) → T (clear x) → Clear x
view nan t = absurd t
view (inf true) t = absurd t
view (inf false) t = endless
view (fin true m e) t = absurd t
view (fin false m e) t = number m e

pub clear-no-nan : (x : Float) → T (clear x) → T (not (is_nan x))
unfolding is_nan
clear-no-nan nan t = elim t [ ]
clear-no-nan (inf s) t = tt
clear-no-nan (fin s m e) t = tt

-- a number whose sign bit is clear
pub data Number : Float → Type 0 where
  at : (m : ℕ) (e : ℤ) → Number (fin false m e)

-- the number a / c
pub data Is (a c : ℕ) : Float → Type 0 where
  is : (m : ℕ) (e : ℤ) → m * up e * c ≡ a * down e → Is a c (fin false m e)

pub value : (x : Float) (a c : ℕ) → HasValue x false a c → Is a c x
value nan a c v = absurd v
value (inf s) a c v = absurd v
value (fin true m e) a c v = absurd (true≢false v.0)
value (fin false m e) a c v = is m e v.1

-- ---- the order
lt-or-eq : (a b : ℕ) → T (ltb a b || (eqb a b && true)) → a ≤ b
lt-or-eq a b t = elim (or_split (ltb a b) (eqb a b && true) t) [ inl u ↦ le_of_lt (ltb→lt a b u) | inr u ↦ le_of_eq (eqb→eq a b (and_l (eqb a b) true u)) ]

pub cross : (m : ℕ) (e : ℤ) (n : ℕ) (d : ℤ) → T (le (fin false m e) (fin false n d)) → m * up e * down d ≤ n * up d * down e
unfolding le
cross m e n d h = lt-or-eq (m * up e * down d) (n * up d * down e) h

pub uncross : (m : ℕ) (e : ℤ) (n : ℕ) (d : ℤ) → m * up e * down d ≤ n * up d * down e → T (le (fin false m e) (fin false n d))
uncross m e n d h = le_of_values (fin false m e) (fin false n d) (m * up e) (down e) (n * up d) (down d) (down_pos e) (down_pos d) (refl, refl) (refl, refl) h

-- by any fractions that the two values equal
pub le-values : {a c b d : ℕ} {x y : Float} → 0 < c → 0 < d → Is a c x → Is b d y → le x y ≡ leb (a * d) (b * c)
le-values {a} {c} {b} {d} C D (is m e v) (is n k w) =
    same_test (le (fin false m e) (fin false n k)) (leb (a * d) (b * c))
    (λ t. le→leb (a * d) (b * c) (transfer a b c d (m * up e) (n * up k) (down e) (down k) (down_pos e) (down_pos k) (sym v) (sym w) (cross m e n k t)))
    (λ t. uncross m e n k (transfer (m * up e) (n * up k) (down e) (down k) a b c d C D v w (leb→le (a * d) (b * c) t)))

no-le-below-endless : (m : ℕ) (e : ℤ) → T (le (inf false) (fin false m e)) → ⊥
unfolding le
no-le-below-endless m e h = h

pub le-endless : (x : Float) → Clear x → T (le x (inf false))
unfolding le
le-endless x endless = tt
le-endless x (number m e) = tt

pub reflexive : (x : Float) → Clear x → T (le x x)
reflexive x endless = le-endless (inf false) endless
reflexive x (number m e) = uncross m e m e (le_refl (m * up e * down e))

pub transitive : (x y z : Float) → Clear x → Clear y → Clear z → T (le x y) → T (le y z) → T (le x z)
transitive x y z p q endless h k = le-endless x p
transitive x y z p endless (number n d) h k = absurd (no-le-below-endless n d k)
transitive x y z endless (number l c) (number n d) h k = absurd (no-le-below-endless l c h)
transitive x y z (number m e) (number l c) (number n d) h k =
    uncross m e n d (through (m * up e) (l * up c) (n * up d) (down e) (down c) (down d) (down_pos c) (cross m e l c h) (cross l c n d k))

-- ---- `lt` is `le` the other way round, refused
lt-is : (a b : ℕ) → ltb a b ≡ not (ltb b a || (eqb b a && true))
lt-is a b =
    same_test (ltb a b) (not (ltb b a || (eqb b a && true)))
    (λ t. not_T (ltb b a || (eqb b a && true)) (λ u. not-le_of_lt (ltb→lt a b t) (lt-or-eq b a u)))
    (λ t. lt→ltb a b (lt_of_not-le (λ (h : b ≤ a). T_not (ltb b a || (eqb b a && true)) t (of_le b a h))))
  where
    of_le : (x y : ℕ) → x ≤ y → T (ltb x y || (eqb x y && true))
    of_le x y h = elim (eq-or-lt_of_le h) [
      | inl p ↦ or_r (ltb x y) (eqb x y && true) (and_i (eqb x y) true (eq→eqb p) tt)
      | inr q ↦ or_l (ltb x y) (eqb x y && true) (lt→ltb x y q)
    ]

pub lt_not_le : (x y : Float) → Clear x → Clear y → lt x y ≡ not (le y x)
unfolding lt le
lt_not_le x y endless endless = refl
lt_not_le x y endless (number n d) = refl
lt_not_le x y (number m e) endless = refl
lt_not_le x y (number m e) (number n d) = lt-is (m * up e * down d) (n * up d * down e)

pub lt-le : (x y : Float) → T (lt x y) → T (le x y)
unfolding le
lt-le x y h = or_l (lt x y) (eq x y) h

pub lt-or-le : (x y : Float) → Clear x → Clear y → T (lt x y) ⊎ T (le y x)
lt-or-le x y p q = go (le y x) (lt_not_le x y p q)
  where
    go : (b : Bool) → lt x y ≡ not b → T (lt x y) ⊎ T b
    go true e = inr tt
    go false e = inl (subst T (sym e) tt)

-- ---- one number that a format holds is written in one way
abbrev units_of : ℕ → ℕ → ℕ → ℕ
units_of l a c = a * 2 ^ l / c

abbrev bits_of : Format → ℕ → ℕ
bits_of f n = 0 + (size n - prec f) * hid f + n / 2 ^ (size n - prec f)

bits_are : (f : Format) (m : ℕ) (e : ℤ) → to_bits f (fin false m e) ≡ bits_of f (units_of (low f) (m * up e) (down e))
unfolding to_bits
bits_are f m e = refl

same_number : (f : Format) (m : ℕ) (e : ℤ) (n : ℕ) (d : ℤ) → T (fits f (fin false m e)) → T (fits f (fin false n d)) → m * up e * down d ≡ n * up d * down e
    → ◌≡◌ {A = Float} (fin false m e) (fin false n d)
same_number f m e n d p q h =
    let l = 2 ^ low f in
    let u : m * up e * l / down e ≡ n * up d * l / down d =
    div_same (m * up e * l) (down e) (n * up d * l) (down d) (down_pos e) (down_pos d)
    (mul_right_comm (m * up e) l (down d) ∙ ap (λ (z : ℕ). z * l) h ∙ mul_right_comm (n * up d) (down e) l) in
    sym (of_bits-to_bits f (fin false m e) p) ∙ ap (of_bits f) (bits_are f m e ∙ ap (bits_of f) u ∙ sym (bits_are f n d)) ∙ of_bits-to_bits f (fin false n d) q

pub antisymmetric : (f : Format) (x y : Float) → Clear x → Clear y → T (fits f x) → T (fits f y) → T (le x y) → T (le y x) → x ≡ y
antisymmetric f x y endless endless p q h k = refl
antisymmetric f x y endless (number n d) p q h k = absurd (no-le-below-endless n d h)
antisymmetric f x y (number m e) endless p q h k = absurd (no-le-below-endless m e k)
antisymmetric f x y (number m e) (number n d) p q h k = same_number f m e n d p q (le_antisymm (cross m e n d h) (cross n d m e k))

-- two values that a format holds and that equal one fraction
pub unique : (f : Format) {a c : ℕ} {x y : Float} → T (fits f x) → T (fits f y) → 0 < c → Is a c x → Is a c y → x ≡ y
unique f {a} {c} p q C (is m e v) (is n d w) =
    same_number f m e n d p q
    (le_antisymm
    (transfer (m * up e) (n * up d) (down e) (down d) a a c c C C v w (le_refl (a * c)))
    (transfer (n * up d) (m * up e) (down d) (down e) a a c c C C w v (le_refl (a * c))))

-- ---- `eq`
pub eq-same : (f : Format) (x y : Float) → Clear x → Clear y → T (fits f x) → T (fits f y) → T (eq x y) → x ≡ y
unfolding eq
eq-same f x y endless endless p q h = refl
eq-same f x y endless (number n d) p q h = absurd h
eq-same f x y (number m e) endless p q h = absurd h
eq-same f x y (number m e) (number n d) p q h =
    same_number f m e n d p q (eqb→eq (m * up e * down d) (n * up d * down e) (and_l (eqb (m * up e * down d) (n * up d * down e)) true h))

pub eq_self : (x : Float) → Clear x → T (eq x x)
unfolding eq
eq_self x endless = tt
eq_self x (number m e) = and_i (eqb (m * up e * down e) (m * up e * down e)) true (eqb_refl (m * up e * down e)) tt
