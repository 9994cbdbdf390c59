-- A number of millionths taken in parts that fit a word: the whole ticks apart, or units of 2 ^ 31 and whether there is a rest. Assumes nothing.
use mathlib.Core.Path.{◌≡◌, sym, ap, ◌∙◌, subst}
use mathlib.Core.Logic.{◌⊎◌, inl, inr}
use Prim.Native.Nat.{ℕ, ◌+◌, ◌-◌, ◌*◌, ◌/◌, ◌%◌, ◌^◌, ◌≤◌, ◌<◌}
use native.Mathlib.Nat.{lt_irrefl, mul_assoc, mul_right_comm, add-mul, mul-pos, mod-lt, div-add-mod'}
use native.Mathlib.Omega.{arith}
use lib.Dec.{lit<}
use lib.Pow.{pow-add, pow_pos, pow_mono}
use Rattle.decimals.specs.Decimal.{million, nearest, placed}
use Rattle.decimals.specs.Rounding.{Nearest, twice_off, nearest-is, nearest-only}
use Rattle.decimals.specs.declared.Micros.{Micros}

-- what is known of a unit 2 ^ p
pub unit : (k u p : ℕ) → u ≡ 2 ^ p → p ≤ k → (0 < u) × (u ≤ 2 ^ k)
unit k u p e h = (subst (λ (z : ℕ). 0 < z) (sym e) (pow_pos p), subst (λ (z : ℕ). z ≤ 2 ^ k) (sym e) (pow_mono h))

-- ---- w wholes more of the fraction, f * million / u being k
with-wholes : (n u w f k : ℕ) → w * u + f ≡ n → Nearest (f * million) u k → Nearest (n * million) u (w * million + k)
with-wholes n u w f k e p =
    let m : (w * million + k) * u ≡ w * u * million + k * u = add-mul (w * million) k u ∙ ap (λ (z : ℕ). z + k * u) (mul_right_comm w million u) in
    let q : twice_off (n * million) u (w * million + k) ≡ twice_off (f * million) u k = omega arith in
    record { within = omega (arith, p.within); even = λ h. omega (arith, p.even (sym q ∙ h)) }

wholes-apart : (n u : ℕ) → 0 < u → nearest (n * million) u ≡ n / u * million + nearest (n % u * million) u
wholes-apart n u U =
    let k = nearest (n % u * million) u in
    nearest-only (n * million) u (n / u * million + k) U (with-wholes n u (n / u) (n % u) k (div-add-mod' n u) (nearest-is (n % u * million) u U))

placed-with : (w k : ℕ) → placed (w * million + k) ≡ record { whole = w + k / million; micros = k % million }
placed-with w k = let p = before w k in let q = after w k in λ i. record { whole = p i; micros = q i }
  where
    before : (w k : ℕ) → (w * million + k) / million ≡ w + k / million
    before w k = omega arith

    after : (w k : ℕ) → (w * million + k) % million ≡ k % million
    after w k = omega arith

-- ---- high * 2 ^ 32 + rest over a multiple of 2 ^ 33: high * 2, and one more where there is a rest, over the multiple of 4
abbrev Flag : ℕ → ℕ → Type 0
Flag rest f = ((rest ≡ 0) × (f ≡ 0)) ⊎ ((0 < rest) × (f ≡ 1))

-- where there is a rest it is no tie
no_tie : (a high rest e q : ℕ) → a ≡ high * 0x1_0000_0000 + rest → rest < 0x1_0000_0000 → 0 < rest → 2 * (q * 4 - (high * 2 + 1) + (high * 2 + 1 - q * 4)) ≤ e * 4
    → 2 * (q * 0x2_0000_0000 - a + (a - q * 0x2_0000_0000)) < e * 0x2_0000_0000
no_tie a high rest e q s l z h = omega arith

in-units : (a high rest f e k : ℕ) → a ≡ high * 0x1_0000_0000 + rest → rest < 0x1_0000_0000 → Flag rest f → Nearest (high * 2 + f) (e * 4) k → Nearest a (e * 0x2_0000_0000) k
in-units a high rest f e k s l g p = elim g [ inl z ↦ none z.0 z.1 | inr o ↦ some o.0 o.1 ]
  where
    small : k * (e * 4) ≡ k * e * 4
    small = sym (mul_assoc k e 4)

    large : k * (e * 0x2_0000_0000) ≡ k * e * 0x2_0000_0000
    large = sym (mul_assoc k e 0x2_0000_0000)

    none : rest ≡ 0 → f ≡ 0 → Nearest a (e * 0x2_0000_0000) k
    none z o =
        let m = small in
        let n = large in
        record {
          within = omega (arith, p.within);
          even = λ h. p.even (omega arith);
        }

    some : 0 < rest → f ≡ 1 → Nearest a (e * 0x2_0000_0000) k
    some z o =
        let m = small in
        let n = large in
        let t = no_tie a high rest e (k * e) s l z (omega (arith, p.within)) in
        record {
          within = omega arith;
          even = λ h. absurd (lt_irrefl (e * 0x2_0000_0000) (omega arith));
        }

by_units : (n high rest f e : ℕ) → n * million ≡ high * 0x1_0000_0000 + rest → rest < 0x1_0000_0000 → Flag rest f → 0 < e
    → nearest (n * million) (e * 0x2_0000_0000) ≡ nearest (high * 2 + f) (e * 4)
by_units n high rest f e s l g E =
    nearest-only (n * million) (e * 0x2_0000_0000) (nearest (high * 2 + f) (e * 4)) (mul-pos E (lit< tt))
    (in-units (n * million) high rest f e (nearest (high * 2 + f) (e * 4)) s l g (nearest-is (high * 2 + f) (e * 4) (mul-pos E (lit< tt))))

-- ---- what the two functions answer
abbrev low : ℕ → ℕ
low n = n % 0x1_0000_0000 * million

abbrev high : ℕ → ℕ
high n = n / 0x1_0000_0000 * million + low n / 0x1_0000_0000

pub few : (n p u k : ℕ) → u ≡ 2 ^ p → k ≡ nearest (n % u * million) u
    → ◌≡◌ {A = Micros} (record { whole = n / u + k / million; micros = k % million }) (placed (nearest (n * million) (2 ^ p)))
few n p u k d e =
    let U : 0 < u = subst (λ (z : ℕ). 0 < z) (sym d) (pow_pos p) in
    sym (placed-with (n / u) k) ∙ ap (λ (z : ℕ). placed (n / u * million + z)) e ∙ ap placed (sym (wholes-apart n u U)) ∙ ap (λ (z : ℕ). placed (nearest (n * million) z)) d

pub many : (n p u k f : ℕ) → 32 < p → u ≡ 2 ^ (p - 31) → Flag (low n % 0x1_0000_0000) f → k ≡ nearest (high n * 2 + f) u → k ≡ nearest (n * million) (2 ^ p)
many n p u k f h d g e =
    let four : 2 ^ (p - 31) ≡ 2 ^ (p - 33) * 4 = ap (λ (z : ℕ). 2 ^ z) (omega arith) ∙ pow-add 2 (p - 33) 2 in
    let all : 2 ^ p ≡ 2 ^ (p - 33) * 0x2_0000_0000 = ap (λ (z : ℕ). 2 ^ z) (omega arith) ∙ pow-add 2 (p - 33) 33 in
    e
    ∙ ap (nearest (high n * 2 + f)) (d ∙ four)
    ∙ sym (by_units n (high n) (low n % 0x1_0000_0000) f (2 ^ (p - 33)) (cut n) (mod-lt (low n) (lit< tt)) g (pow_pos (p - 33)))
    ∙ ap (nearest (n * million)) (sym all)
  where
    cut : (n : ℕ) → n * million ≡ high n * 0x1_0000_0000 + low n % 0x1_0000_0000
    cut n = omega arith
