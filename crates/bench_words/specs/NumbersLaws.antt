-- The laws of numerals: their steps, and what the code asks before it takes one digit more. Assumes nothing.
use Rattle.std.specs.Prelude.{ℕ, ◌+◌, ◌*◌, ◌-◌, ◌/◌, ◌≤◌, ◌<◌, refl, Bool, true, false, ◌&&◌, length, get_or, drop, T, ltb, pos, if◌then◌else◌, Option, Some, None}
use Rattle.std.proofs.Math.Path.{◌≡◌}
use mathlib.Core.List.{List, [], ◌∷◌, ◌++◌}
use Rattle.std.proofs.Common.{rules, tests, div-lt_iff_lt-mul, le-div_iff_mul-le, add-one, arith, drop_of_length-le, drop-cons, le→leb}
use borrow.Author.Tests.{lt-ltb, le-ltb, le-leb, lt-leb, leb-true}
use Rattle.std.proofs.Math.Dec.{leb}
use Rattle.std.specs.Float.{binary64}
use Rattle.std.specs.Float.Ieee.{in_float}
use Rattle.bench_words.specs.Numbers.{digit_of, numeral, number_of, has_bits, has_point, ticks, decimal_of, time_of}

pub and-false : (b : Bool) → b && false ≡ false
and-false true = refl
and-false false = refl

module _ (base most value : ℕ) (word : List ℕ) (at : ℕ) where
  pub numeral-end : length word ≤ at → numeral base most value (drop at word) ≡ Some value
  unfolding numeral
  numeral-end h = rw (drop_of_length-le word h)

  module _ (h : at < length word) where
    pub numeral-none : base ≤ digit_of (get_or word at 0) → numeral base most value (drop at word) ≡ None
    unfolding numeral
    numeral-none bad = rw (drop-cons word at 0 h, le-ltb _ _ bad)

    pub numeral-over : most < value * base + digit_of (get_or word at 0) → numeral base most value (drop at word) ≡ None
    unfolding numeral
    numeral-over over = rw (drop-cons word at 0 h, lt-leb _ _ over, and-false (ltb (digit_of (get_or word at 0)) base))

    pub numeral-more : digit_of (get_or word at 0) < base → value * base + digit_of (get_or word at 0) ≤ most
        → numeral base most value (drop at word) ≡ numeral base most (value * base + digit_of (get_or word at 0)) (drop (at + 1) word)
    unfolding numeral
    numeral-more is fits = rw (drop-cons word at 0 h, lt-ltb _ _ is, le-leb _ _ fits, add-one)

module _ (base most value d : ℕ) (some : 0 < base) where
  pub fits_more : d ≤ most → value ≤ (most - d) / base → value * base + d ≤ most
  fits_more h room = omega (arith, (le-div_iff_mul-le some).0 room)

  pub goes_over : (most - d) / base < value → most < value * base + d
  goes_over h = omega (arith, (div-lt_iff_lt-mul some).0 h)

-- ---- a number is at most what it may be
pub data Within (most : ℕ) : Option ℕ → Type 0 where
  is : {n : ℕ} → n ≤ most → Within most (Some n)
  not : Within most None

within_by : (most : ℕ) (t u : Bool) (value : ℕ) (rest : Option ℕ) → leb value most ≡ u → (value ≤ most → Within most rest) → Within most (if t && u then rest else None)
within_by most true true value rest h go = go (leb-true value most h)
within_by most true false value rest h go = not
within_by most false u value rest h go = not

numeral-within : (base most value : ℕ) (bs : List ℕ) → value ≤ most → Within most (numeral base most value bs)
unfolding numeral
numeral-within base most value [] h = is h
numeral-within base most value (b ∷ bs) h =
    within_by most (ltb (digit_of b) base) (leb (value * base + digit_of b) most) (value * base + digit_of b) (numeral base most (value * base + digit_of b) bs) refl (numeral-within base most (value * base + digit_of b) bs)

number-within : (most : ℕ) (word : List ℕ) → Within most (number_of most word)
unfolding number_of
number-within most [] = not
number-within most (b ∷ bs) = numeral-within 10 most 0 (b ∷ bs) (omega arith)

within-is : {most n : ℕ} → Within most (Some n) → n ≤ most
within-is (is h) = h

pub number-most : (most : ℕ) (word : List ℕ) (n : ℕ) → number_of most word ≡ Some n → n ≤ most
number-most most word n e = within-is (rw e at (number-within most word))

pub numeral-most : (base most value : ℕ) (bs : List ℕ) (n : ℕ) → value ≤ most → numeral base most value bs ≡ Some n → n ≤ most
numeral-most base most value bs n h e = within-is (rw e at (numeral-within base most value bs h))

-- ---- digits behind digits
joined_by : (t : Bool) (x y z : Option ℕ) (w : ℕ) → (x ≡ Some w → y ≡ z) → (if t then x else None) ≡ Some w → (if t then y else None) ≡ z
joined_by true x y z w go e = go e
joined_by false x y z w go e = let no : ◌≡◌ {A = ℕ} 0 1 = cc in absurd (omega arith)

broken-by : (t : Bool) (x y : Option ℕ) → (x ≡ None → y ≡ None) → (if t then x else None) ≡ None → (if t then y else None) ≡ None
broken-by true x y go e = go e
broken-by false x y go e = refl

module _ (base most : ℕ) (ys : List ℕ) where
  pub numeral-joined : (value : ℕ) (xs : List ℕ) (w : ℕ) → numeral base most value xs ≡ Some w → numeral base most value (xs ++ ys) ≡ numeral base most w ys
  unfolding numeral
  numeral-joined value [] w e = let same : value ≡ w = cc in rw same
  numeral-joined value (b ∷ bs) w e = joined_by (ltb (digit_of b) base && leb (value * base + digit_of b) most) _ _ _ w (numeral-joined (value * base + digit_of b) bs w) e

  pub numeral-broken : (value : ℕ) (xs : List ℕ) → numeral base most value xs ≡ None → numeral base most value (xs ++ ys) ≡ None
  unfolding numeral
  numeral-broken value [] e = let no : ◌≡◌ {A = ℕ} 0 1 = cc in absurd (omega arith)
  numeral-broken value (b ∷ bs) e = broken-by (ltb (digit_of b) base && leb (value * base + digit_of b) most) _ _ (numeral-broken (value * base + digit_of b) bs) e

-- ---- a word by its length
pub number-empty : (most : ℕ) (word : List ℕ) → length word ≡ 0 → number_of most word ≡ None
unfolding number_of
number-empty most [] h = refl
number-empty most (b ∷ bs) h = absurd (omega arith)

pub number-some : (most : ℕ) (word : List ℕ) → (length word ≡ 0 → ⊥) → number_of most word ≡ numeral 10 most 0 word
unfolding number_of
number-some most [] h = absurd (h refl)
number-some most (b ∷ bs) h = refl

-- ---- a time by its kind
pub bits-length : (word : List ℕ) → has_bits word ≡ true → length word ≡ 18
unfolding has_bits
bits-length word h = search (rules, tests)

module _ (word : List ℕ) where
  pub time-bits : has_bits word ≡ true → time_of word ≡ numeral 16 0xFFFF_FFFF_FFFF_FFFF 0 (drop 2 word)
  unfolding time_of
  time-bits h = rw h

  module _ (h : has_bits word ≡ false) where
    pub time-decimal : has_point word ≡ true → time_of word ≡ decimal_of word
    unfolding time_of
    time-decimal p = simp (h, p)

    pub time-whole : has_point word ≡ false → time_of word ≡ ticks (number_of 0x20_0000_0000_0000 word)
    unfolding time_of
    time-whole p = simp (h, p)

pub whole-fits : (n : ℕ) → n ≤ 0x20_0000_0000_0000 → T (in_float binary64 (pos n))
unfolding in_float
whole-fits n h = le→leb n 0x20_0000_0000_0000 h
