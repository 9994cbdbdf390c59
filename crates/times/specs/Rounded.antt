-- Sums and differences of numbers whose sign bit is clear: each is one `round` of a fraction. A value that a format holds is its own `round`. Assumes nothing.
use Rattle.std.specs.Prelude.{◌≡◌, refl, ℕ, zero, suc, ◌+◌, ◌-◌, ◌*◌, ◌%◌, ◌^◌, ◌≤◌, ◌<◌, Bool, true, false, ◌&&◌, cond, ℤ, pos, negsuc, T, leb, ltb, eqb, Float}
use Rattle.std.proofs.Common.{sym, ap, ap₂, ◌∙◌, subst, le_trans, le_of_eq, le_of_suc-le-suc, lt_of_not-le, lt_of_lt_of_le, lt_irrefl, not-le_of_lt, zero-mul, mul-one, mul_comm, mul_assoc, mul_left_comm, mul_right_comm, mul-pos, mul-add, add-zero, le-mul_of_pos_right, mul-le-mul_right, mul-lt-mul_of_pos_right, lt_of_mul-lt-mul_right, arith, ltb→lt, leb→le, eqb→eq, pow-add, pow_pos}
use Prim.{Unit}
use Rattle.std.proofs.Math.Nat.{mul-sub, sub-zero}
use Rattle.std.proofs.Math.Pow.{pow-lt}
use Rattle.std.specs.Float.{inf, fin, Format, binary64}
use Rattle.std.specs.Float.Ieee.{prec, emax, low, up, down, odd, units, round, sum, add, sub, fits, le}
use Rattle.std.specs.Float.Ieee.Fits.{up_pos, down_pos, and_l, and_r, round-fits}
use Rattle.std.specs.Float.Ieee.Digits.{back}
use Rattle.std.specs.Float.Ieee.Exact.{round_exact}
use Rattle.std.specs.Float.Ieee.Order.{round_mono}
use Rattle.std.specs.Float.Ieee.Scale.{round_same}
use Rattle.times.specs.Time.{clear, instant}
use Rattle.times.specs.Order.{Number, at, Is, is, value, cross, unique}

-- ---- the sign of a `round` is the one that it was handed
odd-clear : (d q k l : ℕ) → T (clear (odd d false q k l))
unfolding odd
odd-clear d zero k l = tt
odd-clear d (suc q) k l = tt

units-clear : (f : Format) (q k : ℕ) → T (clear (units f false q k))
unfolding units
units-clear f q k = go (ltb (q * 2 ^ k) (2 ^ (low f + suc (emax f))))
  where
    go : (b : Bool) → T (clear (cond b (odd (suc (prec f)) false q k (low f)) (inf false)))
    go true = odd-clear (suc (prec f)) q k (low f)
    go false = tt

round-clear : (f : Format) (a c : ℕ) → T (clear (round f false a c))
unfolding round
round-clear f a c = units-clear f _ _

-- ---- a value that the format holds is its own `round`
pow_le_back : (a l : ℕ) → 2 ^ a ≤ 2 ^ l → a ≤ l
pow_le_back a l h = le_of_suc-le-suc (lt_of_not-le (λ (g : suc l ≤ a). lt_irrefl (2 ^ l) (lt_of_lt_of_le (pow-lt g) h)))

-- 2 ^ e is 2 ^ j of the smallest values, for a j
pub place : (l : ℕ) (e : ℤ) → down e ≤ 2 ^ l → (j : ℕ) × (up e * 2 ^ l ≡ 2 ^ j * down e)
place l (pos a) h = (a + l, sym (pow-add 2 a l) ∙ sym (mul-one (2 ^ (a + l))))
place l (negsuc a) h =
    let g : suc a ≤ l = pow_le_back (suc a) l h in
    (l - suc a, mul_comm 1 (2 ^ l) ∙ mul-one (2 ^ l) ∙ ap (λ (x : ℕ). 2 ^ x) (sym (back l (suc a) g)) ∙ pow-add 2 (l - suc a) (suc a))

-- what `fits` says of a number
abbrev pub Parts : Format → ℕ → ℤ → Type 0
Parts f m e = (m < 2 ^ prec f) × (down e ≤ 2 ^ low f) × (m * up e < 2 ^ suc (emax f) * down e)

one-at-least : (u d : ℕ) → 0 < u → u * d ≡ 1 → d ≤ 1
one-at-least u d U h = le_trans (le-mul_of_pos_right d U) (le_of_eq (mul_comm d u ∙ h))

pub parts : (f : Format) (m : ℕ) (e : ℤ) → T (fits f (fin false m e)) → Parts f m e
unfolding fits
parts f zero e t = (
  pow_pos (prec f),
  le_trans (one-at-least (up e) (down e) (up_pos e) (eqb→eq (up e * down e) 1 t)) (pow_pos (low f)),
  subst (λ (x : ℕ). x < 2 ^ suc (emax f) * down e) (sym (zero-mul (up e))) (mul-pos (pow_pos (suc (emax f))) (down_pos e)),
)
parts f (suc m) e t =
    let A = eqb (suc m % 2) 1 in
    let B = ltb (suc m) (2 ^ prec f) in
    let C = leb (down e) (2 ^ low f) in
    let D = ltb (suc m * up e) (2 ^ suc (emax f) * down e) in (
      ltb→lt (suc m) (2 ^ prec f) (and_r A B (and_l (A && B) C (and_l (A && B && C) D t))),
      leb→le (down e) (2 ^ low f) (and_r (A && B) C (and_l (A && B && C) D t)),
      ltb→lt (suc m * up e) (2 ^ suc (emax f) * down e) (and_r (A && B && C) D t),
    )

round-own : (f : Format) (m : ℕ) (e : ℤ) → T (fits f (fin false m e)) → round f false (m * up e) (down e) ≡ fin false m e
round-own f m e t =
    let p = parts f m e t in
    let l = low f in
    let z = place l e p.1 in
    let j = z.0 in
    let h : m * up e * 2 ^ l ≡ m * 2 ^ j * down e = mul_assoc m (up e) (2 ^ l) ∙ ap (λ (x : ℕ). m * x) z.1 ∙ sym (mul_assoc m (2 ^ j) (down e)) in
    let g : m * 2 ^ j < 2 ^ (l + suc (emax f)) =
    lt_of_mul-lt-mul_right (down e)
    (subst (λ (x : ℕ). x < 2 ^ (l + suc (emax f)) * down e) h
    (lt_of_lt_of_le (mul-lt-mul_of_pos_right p.2 (pow_pos l))
    (le_of_eq (mul_right_comm (2 ^ suc (emax f)) (down e) (2 ^ l) ∙ ap (λ (x : ℕ). x * down e) (mul_comm (2 ^ suc (emax f)) (2 ^ l) ∙ sym (pow-add 2 l (suc (emax f)))))))) in
    unique f (round-fits f false (m * up e) (down e)) t (down_pos e)
    (value (round f false (m * up e) (down e)) (m * up e) (down e) (round_exact f false (m * up e) (down e) m j (down_pos e) p.0 g h)) (is m e refl)

-- by any fraction that equals it
pub round-at : (f : Format) (m : ℕ) (e : ℤ) (a c : ℕ) → T (fits f (fin false m e)) → 0 < c → a * down e ≡ m * up e * c → round f false a c ≡ fin false m e
round-at f m e a c t C h = round_same f false a c (m * up e) (down e) C (down_pos e) h ∙ round-own f m e t

-- ---- what sums and differences share
-- Each is one `round` of what `over` makes of the numerators, once the denominators are alike: of those two values that `may` lets through.
pub record Rounds : Type 1 where
  pub run : Float → Float → Float
  pub over : ℕ → ℕ → ℕ
  pub may : Float → Float → Type 0
  pub opens : (m : ℕ) (e : ℤ) (n : ℕ) (d : ℤ) → may (fin false m e) (fin false n d)
      → run (fin false m e) (fin false n d) ≡ round binary64 false (over (m * up e * down d) (n * up d * down e)) (down e * down d)
  pub spreads : (c a b : ℕ) → c * over a b ≡ over (c * a) (c * b)
  pub grows : (a b c : ℕ) → a ≤ b → over a c ≤ over b c
  pub stays : (a : ℕ) → over a 0 ≡ a

pick : (a b c : ℕ) → b ≤ a → sum binary64 false a true b c ≡ round binary64 false (a - b) c
unfolding sum
pick a b c h = go (ltb a b) (ltb→lt a b)
  where
    go : (t : Bool) → (T t → a < b) → cond t (round binary64 true (b - a) c) (round binary64 false (a - b) c) ≡ round binary64 false (a - b) c
    go true k = absurd (not-le_of_lt (k tt) h)
    go false k = refl

pub sub-opens : (m : ℕ) (e : ℤ) (n : ℕ) (d : ℤ) → T (le (fin false n d) (fin false m e))
    → sub binary64 (fin false m e) (fin false n d) ≡ round binary64 false (m * up e * down d - n * up d * down e) (down e * down d)
unfolding sub
sub-opens m e n d h = pick (m * up e * down d) (n * up d * down e) (down e * down d) (cross n d m e h)

pub add-opens : (m : ℕ) (e : ℤ) (n : ℕ) (d : ℤ)
    → add binary64 (fin false m e) (fin false n d) ≡ round binary64 false (m * up e * down d + n * up d * down e) (down e * down d)
unfolding add sum
add-opens m e n d = refl

abbrev pub differences : Rounds
differences = record {
  run = sub binary64;
  over = ◌-◌;
  may = λ x y. T (le y x);
  opens = sub-opens;
  spreads = mul-sub;
  grows = λ a b c h. omega arith;
  stays = sub-zero;
}

abbrev pub sums : Rounds
sums = record {
  run = add binary64;
  over = ◌+◌;
  may = λ x y. Unit {0};
  opens = λ m e n d _. add-opens m e n d;
  spreads = mul-add;
  grows = λ a b c h. omega arith;
  stays = add-zero;
}

pub sub-endless : (n : ℕ) (d : ℤ) → sub binary64 (inf false) (fin false n d) ≡ inf false
unfolding sub
sub-endless n d = refl

-- ---- the laws that both have
by-factor : {a b p q : ℕ} (k : ℕ) → p ≡ a * k → b * k ≡ q → a ≤ b → p ≤ q
by-factor k e d h = le_trans (le_of_eq e) (le_trans (mul-le-mul_right k h) (le_of_eq d))

swaps : (x dx dy a c d : ℕ) → x * c ≡ a * dx → c * d * (x * dy) ≡ dx * dy * (a * d)
swaps x dx dy a c d p = simp (mul_assoc, mul_comm, mul_left_comm) (simp (mul_assoc, mul_comm, mul_left_comm) at (ap (λ (z : ℕ). z * (d * dy)) p))

module _ (R : Rounds) where
  pub run-clear : {x y : Float} → Number x → Number y → R.may x y → T (clear (R.run x y))
  run-clear (at m e) (at n d) h = subst (λ (z : Float). T (clear z)) (sym (R.opens m e n d h)) (round-clear binary64 (R.over (m * up e * down d) (n * up d * down e)) (down e * down d))

  -- x / dx ≤ y / dy carries over to what both make of one z / dz
  ordered : (x dx y dy z dz : ℕ) → x * dy ≤ y * dx → R.over (x * dz) (z * dx) * (dy * dz) ≤ R.over (y * dz) (z * dy) * (dx * dz)
  ordered x dx y dy z dz h =
      le_trans (le_of_eq (mul_comm (R.over (x * dz) (z * dx)) (dy * dz) ∙ R.spreads (dy * dz) (x * dz) (z * dx) ∙ ap (R.over (dy * dz * (x * dz))) (simp (mul_assoc, mul_comm, mul_left_comm))))
      (le_trans (R.grows (dy * dz * (x * dz)) (dx * dz * (y * dz)) (dx * dz * (z * dy)) (by-factor (dz * dz) (simp (mul_assoc, mul_left_comm)) (simp (mul_assoc, mul_comm, mul_left_comm)) h))
      (le_of_eq (sym (mul_comm (R.over (y * dz) (z * dy)) (dx * dz) ∙ R.spreads (dx * dz) (y * dz) (z * dy)))))

  pub run-mono : {x y z : Float} → Number x → Number y → Number z → R.may x z → R.may y z → T (le x y) → T (le (R.run x z) (R.run y z))
  run-mono (at m e) (at n d) (at l c) h k g =
      rw (R.opens m e l c h, R.opens n d l c k) (round_mono binary64 (R.over (m * up e * down c) (l * up c * down e)) (down e * down c) (R.over (n * up d * down c) (l * up c * down d)) (down d * down c) (mul-pos (down_pos e) (down_pos c)) (mul-pos (down_pos d) (down_pos c))
      (ordered (m * up e) (down e) (n * up d) (down d) (l * up c) (down c) (cross m e n d g)))

  pub run-instant : {x : Float} → Number x → T (fits binary64 x) → R.may x instant → R.run x instant ≡ x
  run-instant (at m e) f h =
      R.opens m e 0 (pos 0) h
      ∙ round-at binary64 m e (R.over (m * up e * 1) (0 * 1 * down e)) (down e * 1) f (mul-pos (down_pos e) (pow_pos 0))
      (simp (mul-one, zero-mul, R.stays))

  -- by any fractions that the two values equal
  pub run-values : {a c b d : ℕ} {x y : Float} → 0 < c → 0 < d → Is a c x → Is b d y → R.may x y → R.run x y ≡ round binary64 false (R.over (a * d) (b * c)) (c * d)
  run-values {a} {c} {b} {d} C D (is m e v) (is n k w) h =
      let X = m * up e * down k in
      let Y = n * up k * down e in
      R.opens m e n k h
      ∙ round_same binary64 false (R.over X Y) (down e * down k) (R.over (a * d) (b * c)) (c * d) (mul-pos (down_pos e) (down_pos k)) (mul-pos C D)
      (mul_comm (R.over X Y) (c * d)
      ∙ R.spreads (c * d) X Y
      ∙ ap₂ R.over (swaps (m * up e) (down e) (down k) a c d v) (ap (λ (z : ℕ). z * Y) (mul_comm c d) ∙ swaps (n * up k) (down k) (down e) b d c w ∙ ap (λ (z : ℕ). z * (b * c)) (mul_comm (down k) (down e)))
      ∙ sym (R.spreads (down e * down k) (a * d) (b * c))
      ∙ mul_comm (down e * down k) (R.over (a * d) (b * c)))

-- ---- a larger advance leaves no more
less : (p q r s : ℕ) → p ≡ r → s ≤ q → p - q ≤ r - s
less p q r s e h = omega arith

pub sub_anti : {x y z : Float} → Number x → Number y → Number z → T (le y z) → T (le z x) → T (le y x) → T (le (sub binary64 x z) (sub binary64 x y))
sub_anti (at m e) (at n d) (at l c) g h k =
    let X = m * up e in
    rw (sub-opens m e l c h, sub-opens m e n d k) (round_mono binary64 (X * down c - l * up c * down e) (down e * down c) (X * down d - n * up d * down e) (down e * down d) (mul-pos (down_pos e) (down_pos c)) (mul-pos (down_pos e) (down_pos d))
    (shrinks X (down e) (n * up d) (down d) (l * up c) (down c) (cross n d l c g)))
  where
    shrinks : (x dx y dy z dz : ℕ) → y * dz ≤ z * dy → (x * dz - z * dx) * (dx * dy) ≤ (x * dy - y * dx) * (dx * dz)
    shrinks x dx y dy z dz h =
        le_trans (le_of_eq (mul_comm (x * dz - z * dx) (dx * dy) ∙ mul-sub (dx * dy) (x * dz) (z * dx)))
        (le_trans (less (dx * dy * (x * dz)) (dx * dy * (z * dx)) (dx * dz * (x * dy)) (dx * dz * (y * dx)) (simp (mul_assoc, mul_comm, mul_left_comm))
        (by-factor (dx * dx) (simp (mul_assoc, mul_comm, mul_left_comm)) (simp (mul_assoc, mul_comm, mul_left_comm)) h))
        (le_of_eq (sym (mul_comm (x * dy - y * dx) (dx * dz) ∙ mul-sub (dx * dz) (x * dy) (y * dx)))))
