-- What `micros_of` says of a time: by any fraction that it equals, of whole ticks, of two times in their order. Assumes nothing.
use Rattle.std.specs.Prelude.{◌≡◌, ℕ, ◌+◌, ◌*◌, ◌^◌, ◌≤◌, ◌<◌, Bool, false, cond, T, Float}
use Rattle.std.proofs.Common.{sym, ap, ◌∙◌, subst, mul-one, mul_right_comm, mul-le-mul_right, le_trans, le_of_eq, mod-lt, div-add-mod', mul-div_cancel, lit<, pow_pos}
use Rattle.std.proofs.Math.Nat.{mul-mod_left}
use Rattle.std.specs.Float.Ieee.{up, down, le}
use Rattle.std.specs.Float.Ieee.Bits.{is_true}
use Rattle.std.specs.Float.Ieee.Fits.{down_pos}
use Rattle.std.specs.Float.Ieee.Nearest.{closest_same, closest_mono}
use Rattle.std.specs.Float.Ieee.Positive.{num, den, den_pos}
use Rattle.times.specs.Time.{is_time}
use Rattle.times.specs.Order.{Number, at, Is, is, cross}
use Rattle.times.proofs.Laws.{time-number}
use Rattle.times.proofs.Whole.{tick, tick_is, tick-time}
use Rattle.decimals.specs.Decimal.{million, nearest, millionths, placed, micros_of}
use Rattle.decimals.specs.Rounding.{Nearest, nearest-is, nearest-only, nearest-exact}
use Rattle.decimals.specs.declared.Micros.{Micros}

-- ---- the two numbers are the millionths, and what is no time is 0
pub of-time : (x : Float) → T (is_time x) → micros_of x ≡ placed (millionths x)
unfolding micros_of
of-time x t = ap (λ (b : Bool). placed (cond b (millionths x) 0)) (is_true (is_time x) t)

pub of_none : (x : Float) → is_time x ≡ false → micros_of x ≡ placed 0
unfolding micros_of
of_none x e = ap (λ (b : Bool). placed (cond b (millionths x) 0)) e

pub places-below : (x : Float) → (micros_of x).micros < million
unfolding micros_of
places-below x = mod-lt (cond (is_time x) (millionths x) 0) (lit< tt)

pub together : (x : Float) → T (is_time x) → (micros_of x).whole * million + (micros_of x).micros ≡ millionths x
together x t = ap (λ (r : Micros). r.whole * million + r.micros) (of-time x t) ∙ div-add-mod' (millionths x) million

-- a time is read as the number of millionths that is nearest to it, which no other is
pub clock-nearest : (x : Float) → T (is_time x) → Nearest (num x * million) (den x) ((micros_of x).whole * million + (micros_of x).micros)
unfolding millionths
clock-nearest x t = subst (Nearest (num x * million) (den x)) (sym (together x t)) (nearest-is (num x * million) (den x) (den_pos x))

pub clock-only : (x : Float) (n : ℕ) → T (is_time x) → Nearest (num x * million) (den x) n → (micros_of x).whole * million + (micros_of x).micros ≡ n
unfolding millionths
clock-only x n t p = together x t ∙ nearest-only (num x * million) (den x) n (den_pos x) p

-- ---- by any fraction that the value equals
pub by_fraction : {a d : ℕ} {x : Float} → 0 < d → Is a d x → millionths x ≡ nearest (a * million) d
unfolding millionths
by_fraction {a} {d} D (is m e v) =
    closest_same (m * up e * million) (down e) (a * million) d (down_pos e) D
    (mul_right_comm (m * up e) million d ∙ ap (λ (z : ℕ). z * million) v ∙ mul_right_comm a (down e) million)

-- ---- a whole number of ticks is that number, with nothing after the point
pub whole-millionths : (n : ℕ) {x : Float} → Is n 1 x → millionths x ≡ n * million
whole-millionths n v = by_fraction (pow_pos 0) v ∙ ap (λ (z : ℕ). nearest z 1) (sym (mul-one (n * million))) ∙ nearest-exact (n * million) 1 (pow_pos 0)

pub placed-whole : (n : ℕ) → placed (n * million) ≡ record { whole = n; micros = 0 }
placed-whole n = λ i. record { whole = mul-div_cancel n {n = million} (lit< tt) i; micros = mul-mod_left n million i }

pub whole-ticks : (n : ℕ) {x : Float} → T (is_time x) → Is n 1 x → micros_of x ≡ record { whole = n; micros = 0 }
whole-ticks n {x} t v = of-time x t ∙ ap placed (whole-millionths n v) ∙ placed-whole n

pub ticks : (n : ℕ) → n ≤ 2 ^ 53 → micros_of (tick n) ≡ record { whole = n; micros = 0 }
ticks n h = whole-ticks n (tick-time n h) (tick_is n h)

-- ---- a later time is not read as an earlier one
in_order : {x y : Float} → Number x → Number y → T (le x y) → millionths x ≤ millionths y
unfolding millionths
in_order (at m e) (at n d) h =
    closest_mono (m * up e * million) (down e) (n * up d * million) (down d) (down_pos e) (down_pos d)
    (le_trans (le_of_eq (mul_right_comm (m * up e) million (down d))) (le_trans (mul-le-mul_right million (cross m e n d h)) (le_of_eq (mul_right_comm (n * up d) (down e) million))))

pub later-no-less : (x y : Float) → T (is_time x) → T (is_time y) → T (le x y) → millionths x ≤ millionths y
later-no-less x y s t h = in_order (time-number x s) (time-number y t) h
