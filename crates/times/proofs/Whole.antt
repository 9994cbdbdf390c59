-- Whole ticks: up to 2 ^ 53 the whole numbers as floats add, subtract and compare as the numbers do. Assumes nothing.
use Rattle.std.specs.Prelude.{◌≡◌, refl, ℕ, ◌+◌, ◌-◌, ◌*◌, ◌^◌, ◌≤◌, false, pos, T, leb, Float}
use Rattle.std.proofs.Common.{sym, ap₂, ◌∙◌, subst, le_trans, le_antisymm, mul-one, leb→le, le→leb, lit≤, pow_pos, le-leb}
use Rattle.std.specs.Float.{binary64}
use Rattle.std.specs.Float.Ieee.{add, sub, le, of_int}
use Rattle.std.specs.Float.Ieee.Fits.{of_int-fits}
use Rattle.std.specs.Float.Ieee.Back.{round_whole}
use Rattle.times.specs.Time.{instant, is_time}
use Rattle.times.specs.Order.{Is, is, value, le-values, unique}
use Rattle.times.specs.Rounded.{Rounds, differences, sums, run-values}
use Rattle.times.proofs.Laws.{time-fits, time-timer, instant-time, timers-reflexive}
use Rattle.times.proofs.Patterns.{time-value}

-- n ticks: n as an f64
abbrev pub tick : ℕ → Float
tick n = of_int binary64 (pos n)

-- up to 2 ^ 53 it is n exactly
pub tick_is : (n : ℕ) → n ≤ 2 ^ 53 → Is n 1 (tick n)
unfolding of_int
tick_is n h = value (tick n) n 1 (round_whole binary64 false n h)

pub tick-time : (n : ℕ) → n ≤ 2 ^ 53 → T (is_time (tick n))
tick-time n h = subst T (sym (time-value (of_int-fits binary64 (pos n)) (pow_pos 0) (tick_is n h) ∙ le-leb n (2 ^ 60 * 1) (le_trans h (lit≤ tt)))) tt

pub tick-zero : tick 0 ≡ instant
tick-zero = unique binary64 (of_int-fits binary64 (pos 0)) (time-fits instant instant-time) (pow_pos 0) (tick_is 0 (lit≤ tt)) (is 0 (pos 0) refl)

pub tick-le : (m n : ℕ) → m ≤ 2 ^ 53 → n ≤ 2 ^ 53 → le (tick m) (tick n) ≡ leb m n
tick-le m n h k = le-values (pow_pos 0) (pow_pos 0) (tick_is m h) (tick_is n k) ∙ ap₂ leb (mul-one m) (mul-one n)

pub tick-injective : (m n : ℕ) → m ≤ 2 ^ 53 → n ≤ 2 ^ 53 → tick m ≡ tick n → m ≡ n
tick-injective m n h k e = le_antisymm (half m n h k e) (half n m k h (sym e))
  where
    half : (m n : ℕ) → m ≤ 2 ^ 53 → n ≤ 2 ^ 53 → tick m ≡ tick n → m ≤ n
    half m n h k e =
        leb→le m n (subst T (tick-le m n h k) (subst (λ (x : Float). T (le (tick m) x)) e (timers-reflexive (tick m) (time-timer (tick m) (tick-time m h)))))

-- "whole ticks below 2^53 add and subtract exactly"
tick-run : (R : Rounds) (m n : ℕ) → m ≤ 2 ^ 53 → n ≤ 2 ^ 53 → R.may (tick m) (tick n) → R.run (tick m) (tick n) ≡ tick (R.over m n)
unfolding of_int
tick-run R m n h k l = run-values R (pow_pos 0) (pow_pos 0) (tick_is m h) (tick_is n k) l ∙ simp mul-one

-- `tick (m + n)` is m + n where that is at most 2 ^ 53 (`tick_is`), and m + n rounded beyond
pub tick-add : (m n : ℕ) → m ≤ 2 ^ 53 → n ≤ 2 ^ 53 → add binary64 (tick m) (tick n) ≡ tick (m + n)
tick-add m n h k = tick-run sums m n h k tt

pub tick-sub : (m n : ℕ) → m ≤ 2 ^ 53 → n ≤ m → sub binary64 (tick m) (tick n) ≡ tick (m - n)
tick-sub m n h k =
    let l = le_trans k h in
    tick-run differences m n h l (subst T (sym (tick-le n m l h)) (le→leb n m k))
