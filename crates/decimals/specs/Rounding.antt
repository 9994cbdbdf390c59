-- `nearest` is what its name says: no whole number is nearer to the fraction, and of two that are equally near it is the even one. No other number is. Assumes nothing.
use Rattle.std.specs.Prelude.{◌≡◌, refl, ◌⊎◌, not, T, eqb}
use Rattle.std.proofs.Common.{ap, ◌∙◌, subst, inl, inr, lt_irrefl, le_antisymm, le_of_suc-le-suc, lt_of_not-le, eq-or-lt_of_le, suc-mul, add-mul, mod-lt, div-add-mod', arith, leb→le, eqb→eq}
use Prim.Native.Nat.{ℕ, zero, suc, ◌+◌, ◌-◌, ◌*◌, ◌/◌, ◌%◌, ◌≤◌, ◌<◌, compare, Ordering}
use Rattle.std.proofs.Math.Dec.{is_le, compare_is_eq, nleb→lt, eqb_refl}
use Rattle.std.proofs.Math.Arith.{lt_of_le-ne}
use Rattle.std.specs.Float.Ieee as Ieee
use Rattle.decimals.specs.Decimal.{nearest}

-- twice the distance between n * d and a
abbrev pub twice_off : ℕ → ℕ → ℕ → ℕ
twice_off a d n = 2 * (n * d - a + (a - n * d))

-- n is a / d to the nearest: it is off by a half at most, and even where it is off by a half
pub record Nearest (a d n : ℕ) : Type 0 where
  pub within : twice_off a d n ≤ d
  pub even : twice_off a d n ≡ d → n % 2 ≡ 0

-- ---- the three cases, by the remainder r
below : (a d q r : ℕ) → q * d + r ≡ a → r * 2 < d → Nearest a d q
below a d q r e l = record { within = omega arith; even = λ h. omega arith }

above : (a d q r : ℕ) → q * d + r ≡ a → r < d → d < r * 2 → Nearest a d (suc q)
above a d q r e l g = let m : suc q * d ≡ q * d + d = suc-mul q d in record { within = omega arith; even = λ h. omega arith }

tie : (a d q r : ℕ) → q * d + r ≡ a → r * 2 ≡ d → Nearest a d (q + q % 2)
tie a d q r e t = elim (parity q) [ inl z ↦ kept z | inr o ↦ next o ]
  where
    parity : (q : ℕ) → (q % 2 ≡ 0) ⊎ (q % 2 ≡ 1)
    parity q = elim (eq-or-lt_of_le (bit q)) [ inl o ↦ inr o | inr z ↦ inl (omega arith) ]
      where
        bit : (q : ℕ) → q % 2 ≤ 1
        bit q = omega arith

    kept : q % 2 ≡ 0 → Nearest a d (q + q % 2)
    kept z =
        let m : (q + q % 2) * d ≡ q * d = ap (λ (x : ℕ). x * d) (omega arith) in
        record { within = omega arith; even = λ h. omega arith }

    next : q % 2 ≡ 1 → Nearest a d (q + q % 2)
    next o =
        let m : (q + q % 2) * d ≡ q * d + d = ap (λ (x : ℕ). x * d) (omega arith) ∙ suc-mul q d in
        record { within = omega arith; even = λ h. omega arith }

abbrev Says : Ordering → ℕ → ℕ → Type 0
Says Ordering.lt a b = a < b
Says Ordering.eq a b = a ≡ b
Says Ordering.gt a b = b < a

says : (a b : ℕ) → Says (compare a b) a b
says a b = go (compare a b) (leb→le a b) (nleb→lt a b) (eqb→eq a b) (λ (e : a ≡ b). subst (λ (x : ℕ). T (eqb a x)) e (eqb_refl a))
  where
    go : (o : Ordering) → (T (is_le o) → a ≤ b) → (T (not (is_le o)) → b < a) → (T (compare_is_eq o) → a ≡ b) → (a ≡ b → T (compare_is_eq o)) → Says o a b
    go Ordering.lt h k e n = lt_of_le-ne (h tt) n
    go Ordering.eq h k e n = e tt
    go Ordering.gt h k e n = k tt

pub nearest-is : (a d : ℕ) → 0 < d → Nearest a d (nearest a d)
nearest-is a d D = go (compare (a % d * 2) d) (says (a % d * 2) d)
  where
    go : (o : Ordering) → Says o (a % d * 2) d → Nearest a d (Ieee.nearest (a / d) o)
    go Ordering.lt s = below a d (a / d) (a % d) (div-add-mod' a d) s
    go Ordering.eq s = tie a d (a / d) (a % d) (div-add-mod' a d) s
    go Ordering.gt s = above a d (a / d) (a % d) (div-add-mod' a d) (mod-lt a D) s

-- ---- and no other number is
apart : (a d n k : ℕ) → Nearest a d n → Nearest a d (suc (n + k)) → 0 < d → ⊥
apart a d n zero p q D =
    let m : suc (n + 0) * d ≡ n * d + d = ap (λ (x : ℕ). x * d) (omega arith) ∙ suc-mul n d in
    let t : twice_off a d n ≡ d = omega (arith, p.within, q.within) in
    let u : twice_off a d (suc (n + 0)) ≡ d = omega (arith, p.within, q.within) in
    omega (arith, p.even t, q.even u)
apart a d n (suc k) p q D =
    let m : suc (n + suc k) * d ≡ n * d + k * d + d + d = suc-mul (n + suc k) d ∙ ap (λ (x : ℕ). x * d + d) (omega arith) ∙ ap (λ (x : ℕ). x + d) (suc-mul (n + k) d) ∙ ap (λ (x : ℕ). x + d + d) (add-mul n k d) in
    omega (arith, p.within, q.within)

no_less : (a d m n : ℕ) → Nearest a d m → Nearest a d n → 0 < d → n ≤ m
no_less a d m n p q D =
    le_of_suc-le-suc (lt_of_not-le (λ (g : suc m ≤ n). apart a d m (n - suc m) p (subst (Nearest a d) (gap m n g) q) D))
  where
    gap : (m n : ℕ) → suc m ≤ n → n ≡ suc (m + (n - suc m))
    gap m n g = omega arith

pub nearest-only : (a d n : ℕ) → 0 < d → Nearest a d n → nearest a d ≡ n
nearest-only a d n D p = let q = nearest-is a d D in le_antisymm (no_less a d n (nearest a d) p q D) (no_less a d (nearest a d) n q p D)

-- ---- so it is known by the remainder
module _ (a d : ℕ) (D : 0 < d) where
  pub nearest-below : a % d * 2 < d → nearest a d ≡ a / d
  nearest-below l = nearest-only a d (a / d) D (below a d (a / d) (a % d) (div-add-mod' a d) l)

  pub nearest-above : d < a % d * 2 → nearest a d ≡ suc (a / d)
  nearest-above g = nearest-only a d (suc (a / d)) D (above a d (a / d) (a % d) (div-add-mod' a d) (mod-lt a D) g)

  pub nearest-tie : a % d * 2 ≡ d → nearest a d ≡ a / d + a / d % 2
  nearest-tie t = nearest-only a d (a / d + a / d % 2) D (tie a d (a / d) (a % d) (div-add-mod' a d) t)

-- ---- a whole number is itself, and what is half of 1 at most is 0
pub nearest-exact : (n d : ℕ) → 0 < d → nearest (n * d) d ≡ n
nearest-exact n d D = nearest-only (n * d) d n D (record { within = omega arith; even = λ h. absurd (lt_irrefl 0 (omega arith)) })

pub nearest-none : (a d : ℕ) → 0 < d → 2 * a ≤ d → nearest a d ≡ 0
nearest-none a d D h = nearest-only a d 0 D (record { within = omega arith; even = λ _. refl })
