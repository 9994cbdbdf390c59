-- What the reader of decimal numbers asks: the word's parts by their lengths, and that the quotient of two whole floats is their fraction, rounded once. Assumes nothing.
use Rattle.std.specs.Prelude.{◌≡◌, ℕ, suc, ◌+◌, ◌-◌, ◌*◌, ◌^◌, ◌≤◌, ◌<◌, false, List, ◌++◌, length, take, ℤ, Float, None}
use Rattle.std.proofs.Common.{sym, ap, ◌∙◌, subst, le_trans, mul_comm, mul_assoc, mul_left_comm, mul-pos, mul-one, arith, length-take-le, lit≤, pow_pos}
use Rattle.std.proofs.Math.Nat.{one-le-pow, pow-le-pow_right}
use borrow.Author.Tests.{lt-ltb, le-leb, lt-leb, ne_eqb}
use Rattle.std.proofs.Math.ListN.{drop, length-drop, length-append}
use Rattle.std.specs.Float.{fin, binary64}
use Rattle.std.specs.Float.Ieee.{up, down, round, div}
use Rattle.std.specs.Float.Ieee.Fits.{down_pos}
use Rattle.std.specs.Float.Ieee.Positive.{first_pos}
use Rattle.std.specs.Float.Ieee.Scale.{round_same}
use Rattle.times.specs.Order.{Is, is}
use Rattle.times.proofs.Whole.{tick, tick_is}
use Rattle.bench_words.specs.Texts.{text_span}
use Rattle.bench_words.specs.Numbers.{numeral, over_tens, nines, decimal_of}
use Rattle.bench_words.specs.NumbersLaws.{and-false, number-some}

-- ---- the quotient of two numbers is one `round`
div-opens : (m : ℕ) (e : ℤ) (n : ℕ) (d : ℤ) → 0 < n → div binary64 (fin false m e) (fin false n d) ≡ round binary64 false (m * up e * down d) (n * up d * down e)
unfolding div
div-opens m e n d h = rw (ne_eqb n 0 (λ z. omega arith))

crosses : (x dx y dy a c b d : ℕ) → x * c ≡ a * dx → y * d ≡ b * dy → x * dy * (b * c) ≡ a * d * (y * dx)
crosses x dx y dy a c b d p q =
    let l : x * dy * (b * c) ≡ x * c * (b * dy) = simp (mul_assoc, mul_comm, mul_left_comm) in
    let r : a * dx * (y * d) ≡ a * d * (y * dx) = simp (mul_assoc, mul_comm, mul_left_comm) in
    l ∙ ap (λ (z : ℕ). z * (b * dy)) p ∙ ap (λ (z : ℕ). a * dx * z) (sym q) ∙ r

-- by any fractions that the two values equal
div-values : {a c b d : ℕ} {x y : Float} → 0 < b → 0 < c → Is a c x → Is b d y → div binary64 x y ≡ round binary64 false (a * d) (b * c)
div-values {a} {c} {b} {d} B C (is m e v) (is n k w) =
    let N : 0 < n * up k = first_pos (n * up k) d (subst (λ (z : ℕ). 0 < z) (sym w) (mul-pos B (down_pos k))) in
    div-opens m e n k (first_pos n (up k) N)
    ∙ round_same binary64 false (m * up e * down k) (n * up k * down e) (a * d) (b * c) (mul-pos N (down_pos e)) (mul-pos B C)
    (crosses (m * up e) (down e) (n * up k) (down k) a c b d v w)

-- "rounded once": up to 2 ^ 53 whole numbers are floats as they are
pub tick-div : (n p : ℕ) → n ≤ 2 ^ 53 → 0 < p → p ≤ 2 ^ 53 → div binary64 (tick n) (tick p) ≡ round binary64 false n p
tick-div n p h P k = div-values P (pow_pos 0) (tick_is n h) (tick_is p k) ∙ simp mul-one

-- ---- powers of ten
pub tens-most : (k : ℕ) → k ≤ 15 → 10 ^ k ≤ 1_000_000_000_000_000
tens-most k h = le_trans (pow-le-pow_right (lit≤ tt) h) (lit≤ tt)

pub tens-pos : (k : ℕ) → 0 < 10 ^ k
tens-pos k = one-le-pow k 10 (lit≤ tt)

-- ---- a word with its first point at `point`, and the digits behind it
module _ (word : List ℕ) (point behind : ℕ) (at : point ≡ text_span word) (inside : point < length word) (left : behind ≡ length word - point - 1) where
  before-length : length (take (text_span word) word) ≡ point
  before-length = rw (← at) (length-take-le point word (omega arith))

  behind-length : length (drop (suc (text_span word)) word) ≡ behind
  behind-length = rw (← at) (length-drop (suc point) word ∙ omega arith)

  pub decimal-no-before : point ≡ 0 → decimal_of word ≡ None
  unfolding decimal_of
  decimal-no-before h = rw (before-length, h)

  pub decimal-no-behind : behind ≡ 0 → decimal_of word ≡ None
  unfolding decimal_of
  decimal-no-behind h = simp (behind-length, h, and-false)

  pub decimal-long : 16 < length word → decimal_of word ≡ None
  unfolding decimal_of
  decimal-long h = simp (before-length, behind-length, lt-leb (point + behind) 15 (omega arith), and-false)

  pub decimal-is : 0 < point → 0 < behind → length word ≤ 16 → decimal_of word ≡ over_tens behind (numeral 10 nines 0 (take point word ++ drop (suc point) word))
  unfolding decimal_of
  decimal-is P B h =
      simp (before-length, behind-length, lt-ltb 0 point P, lt-ltb 0 behind B, le-leb (point + behind) 15 (omega arith), ← at)
      (ap (over_tens behind) (number-some nines (take point word ++ drop (suc point) word) (λ none. omega (arith, length-append (take point word) (drop (suc point) word), length-drop (suc point) word))))
