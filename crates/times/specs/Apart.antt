-- Two numbers that an f64 holds and that differ never have the difference 0: it is 2 ^ -1074 at least, and does not round to 0. Assumes nothing.
use Rattle.std.specs.Prelude.{◌≡◌, refl, ℕ, ◌-◌, ◌*◌, ◌^◌, ◌≤◌, ◌<◌, false, ℤ, negsuc, T, Float}
use Rattle.std.proofs.Common.{sym, ap, ◌∙◌, subst, le_trans, le_of_eq, mul_comm, mul_assoc, mul_right_comm, mul-pos, mul-le-mul_right, mul-lt-mul_of_pos_right, lt_of_mul-lt-mul_right, arith, ltb→lt, pow_pos}
use Rattle.std.proofs.Math.Nat.{mul-sub}
use Rattle.std.specs.Float.{fin, binary64}
use Rattle.std.specs.Float.Ieee.{up, down, round, sub, fits, lt, le}
use Rattle.std.specs.Float.Ieee.Fits.{down_pos}
use Rattle.std.specs.Float.Ieee.Order.{round_mono}
use Rattle.times.specs.Time.{instant}
use Rattle.times.specs.Order.{Number, at, lt-le}
use Rattle.times.specs.Rounded.{place, parts, sub-opens, round-at}

-- the smallest value above 0
abbrev smallest : Float
smallest = fin false 1 (negsuc 1073)

smallest-fits : T (fits binary64 smallest)
unfolding fits
smallest-fits = tt

smallest-above : T (le smallest instant) → ⊥
unfolding le
smallest-above h = h

-- x and y in units of 1 / u, as X and Y: where y < x, the difference is a unit at least
unit-apart : (A B C u X Y : ℕ) → A * u ≡ X * C → B * u ≡ Y * C → B < A → 0 < u → 1 * C ≤ (A - B) * u
unit-apart A B C u X Y p q h U =
    let l : Y < X = lt_of_mul-lt-mul_right C (subst (λ (z : ℕ). z < X * C) q (subst (λ (z : ℕ). B * u < z) p (mul-lt-mul_of_pos_right h U))) in
    le_trans (mul-le-mul_right C (gap X Y l))
    (le_of_eq
    (mul_comm (X - Y) C
    ∙ mul-sub C X Y
    ∙ ap (λ (z : ℕ). z - C * Y) (mul_comm C X ∙ sym p ∙ mul_comm A u)
    ∙ ap (λ (z : ℕ). u * A - z) (mul_comm C Y ∙ sym q ∙ mul_comm B u)
    ∙ sym (mul-sub u A B)
    ∙ mul_comm u (A - B)))
  where
    gap : (X Y : ℕ) → Y < X → 1 ≤ X - Y
    gap X Y l = omega arith

in-units : (m ue de dd u j : ℕ) → ue * u ≡ 2 ^ j * de → m * ue * dd * u ≡ m * 2 ^ j * (de * dd)
in-units m ue de dd u j h =
    mul_right_comm (m * ue) dd u ∙ ap (λ (z : ℕ). z * dd) (mul_assoc m ue u ∙ ap (λ (z : ℕ). m * z) h ∙ sym (mul_assoc m (2 ^ j) de)) ∙ mul_assoc (m * 2 ^ j) de dd

lt-cross : (n : ℕ) (d : ℤ) (m : ℕ) (e : ℤ) → T (lt (fin false n d) (fin false m e)) → n * up d * down e < m * up e * down d
unfolding lt
lt-cross n d m e h = ltb→lt (n * up d * down e) (m * up e * down d) h

sub-apart : {x y : Float} → Number x → Number y → T (fits binary64 x) → T (fits binary64 y) → T (lt y x) → T (le smallest (sub binary64 x y))
sub-apart (at m e) (at n d) f g h =
    let A = m * up e * down d in
    let B = n * up d * down e in
    let C = down e * down d in
    let j = place 1074 e (parts binary64 m e f).1 in
    let k = place 1074 d (parts binary64 n d g).1 in
    subst (λ (z : Float). T (le smallest z)) (sym (sub-opens m e n d (lt-le (fin false n d) (fin false m e) h)))
    (subst (λ (z : Float). T (le z (round binary64 false (A - B) C))) (round-at binary64 1 (negsuc 1073) 1 (2 ^ 1074) smallest-fits (pow_pos 1074) refl)
    (round_mono binary64 1 (2 ^ 1074) (A - B) C (pow_pos 1074) (mul-pos (down_pos e) (down_pos d))
    (unit-apart A B C (2 ^ 1074) (m * 2 ^ j.0) (n * 2 ^ k.0) (in-units m (up e) (down e) (down d) (2 ^ 1074) j.0 j.1)
    (in-units n (up d) (down d) (down e) (2 ^ 1074) k.0 k.1 ∙ ap (λ (z : ℕ). n * 2 ^ k.0 * z) (mul_comm (down d) (down e))) (lt-cross n d m e h) (pow_pos 1074))))

pub no_zero : {x y : Float} → Number x → Number y → T (fits binary64 x) → T (fits binary64 y) → T (lt y x) → sub binary64 x y ≡ instant → ⊥
no_zero p q f g h e = smallest-above (subst (λ (z : Float). T (le smallest z)) e (sub-apart p q f g h))
