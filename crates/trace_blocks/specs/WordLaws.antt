-- The laws of words and bytes: a word comes back from its bytes and the bytes from their words, a number from its halves, and parts of a list that is read by its places. Assumes nothing.
use Rattle.std.specs.Prelude.{ℕ, zero, suc, ◌+◌, ◌-◌, ◌*◌, ◌/◌, ◌%◌, ◌≤◌, ◌<◌, ◌^◌, ◌≡◌, refl, List, [], ◌∷◌, ◌++◌, map, ◌≢◌, length, get_or, drop}
use Rattle.std.proofs.Common.{sym, ap, ◌∙◌, ⊎_elim, eq-or-lt_of_le, mod-eq_of_lt, add-one, arith, drop_of_length-le, drop-cons, ext_get_or, get_or-append-add}
use Rattle.std.proofs.Math.Nat.{div-div-eq-div-mul}
use Rattle.std.proofs.lemmas.List.{length-map}
use Rattle.std.proofs.Math.ListN.{get_or-append}
use Rattle.std.proofs.Math.Arith.{digits_div, digits_mod}
use Rattle.rules.specs.Base.{from}
use Rattle.rules.specs.Ends.{All, nil, ◌&◌}
use Rattle.words.specs.Laying.{zeros}
use Rattle.words.specs.Lists.{length_from, get_d-from, map-from}
use Rattle.trace_blocks.specs.Blocks.{word_limit, word_bytes, bytes_of, word_at, halves, sum, number_at}

-- a list of bytes; a list of words
abbrev pub AreBytes : List ℕ → Type 0
AreBytes block = (i : ℕ) → get_or block i 0 < 256

abbrev pub AreWords : List ℕ → Type 0
AreWords words = All (λ w. w < word_limit) words

-- at each place of a list, and at those behind it
pub held_at : {A : Type 0} {P : A → Type 0} {xs : List A} (d : A) → P d → All P xs → (i : ℕ) → P (get_or xs i d)
held_at d q nil i = q
held_at d q (h & p) zero = h
held_at d q (h & p) (suc i) = held_at d q p i

-- ---- words to bytes, and back
pub bytes-long : (words : List ℕ) → length (bytes_of words) ≡ 4 * length words
bytes-long [] = refl
bytes-long (w ∷ words) = let e = bytes-long words in omega arith

pub are-bytes : (words : List ℕ) → AreBytes (bytes_of words)
are-bytes words = held_at 0 (omega arith) (go words)
  where
    go : (words : List ℕ) → All (λ b. b < 256) (bytes_of words)
    go [] = nil
    go (w ∷ words) = low w & low (w / 256) & low (w / 65_536) & low (w / 16_777_216) & go words
      where
        low : (n : ℕ) → n % 256 < 256
        low n = omega arith

word-behind : (w : ℕ) (bytes : List ℕ) (i : ℕ) → word_at (word_bytes w ++ bytes) (suc i) ≡ word_at bytes i
unfolding word_at
word-behind w bytes i =
    let e : 4 * suc i ≡ suc (suc (suc (suc (4 * i)))) = omega arith in
    let e1 : 4 * suc i + 1 ≡ suc (suc (suc (suc (4 * i + 1)))) = omega arith in
    let e2 : 4 * suc i + 2 ≡ suc (suc (suc (suc (4 * i + 2)))) = omega arith in
    let e3 : 4 * suc i + 3 ≡ suc (suc (suc (suc (4 * i + 3)))) = omega arith in
    rw (e1, e2, e3, e)

pub word-written : (words : List ℕ) → AreWords words → (i : ℕ) → word_at (bytes_of words) i ≡ get_or words i 0
unfolding word_at
word-written [] nil i = refl
word-written (w ∷ words) (l & small) zero =
    let first : w / 256 * 256 + w % 256 ≡ w = omega arith in
    let second : w / 65_536 * 256 + w / 256 % 256 ≡ w / 256 = (let e = div-div-eq-div-mul w 256 256 in omega arith) in
    let third : w / 16_777_216 * 256 + w / 65_536 % 256 ≡ w / 65_536 = (let e = div-div-eq-div-mul w 65_536 256 in omega arith) in
    let fourth : w / 16_777_216 % 256 ≡ w / 16_777_216 = omega arith in
    omega arith
word-written (w ∷ words) (l & small) (suc i) = word-behind w (bytes_of words) i ∙ word-written words small i

pub word_small : (block : List ℕ) → AreBytes block → (i : ℕ) → word_at block i < word_limit
unfolding word_at
word_small block bytes i = omega (arith, bytes (4 * i), bytes (4 * i + 1), bytes (4 * i + 2), bytes (4 * i + 3))

four-back : (a b c d : ℕ) → a < 256 → b < 256 → c < 256 → d < 256 → word_bytes (a + b * 256 + c * 65_536 + d * 16_777_216) ≡ a ∷ b ∷ c ∷ d ∷ []
four-back a b c d i j k l =
    let w = a + b * 256 + c * 65_536 + d * 16_777_216 in
    let v = (d * 256 + c) * 256 + b in
    let whole : w ≡ v * 256 + a = omega arith in
    let first : w % 256 ≡ a = ap (λ (n : ℕ). n % 256) whole ∙ digits_mod v i in
    let second : w / 256 ≡ v = ap (λ (n : ℕ). n / 256) whole ∙ digits_div v i in
    let third : w / 65_536 ≡ d * 256 + c = sym (div-div-eq-div-mul w 256 256) ∙ ap (λ (n : ℕ). n / 256) second ∙ digits_div (d * 256 + c) j in
    let fourth : w / 16_777_216 ≡ d = sym (div-div-eq-div-mul w 65_536 256) ∙ ap (λ (n : ℕ). n / 256) third ∙ digits_div d k in
    rw (first, second, third, fourth, digits_mod (d * 256 + c) j, digits_mod d k, mod-eq_of_lt l)

next-byte : (block : List ℕ) (at next : ℕ) → at + 1 ≡ next → at < length block → drop at block ≡ get_or block at 0 ∷ drop next block
next-byte block at next e l = drop-cons block at 0 l ∙ ap (λ (i : ℕ). get_or block at 0 ∷ drop i block) (sym (add-one at) ∙ e)

-- the bytes from word k on are those of its words
pub bytes_back : (block : List ℕ) → AreBytes block → (k n : ℕ) → length block ≡ 4 * (k + n) → bytes_of (map (word_at block) (from k n)) ≡ drop (4 * k) block
unfolding word_at
bytes_back block bytes k zero long = sym (drop_of_length-le block {i = 4 * k} (omega arith))
bytes_back block bytes k (suc n) long =
    let at = 4 * k in
    let byte : ℕ → ℕ = λ i. get_or block i 0 in
    ap (λ (four : List ℕ). four ++ bytes_of (map (word_at block) (from (suc k) n)))
    (four-back (byte at) (byte (at + 1)) (byte (at + 2)) (byte (at + 3)) (bytes at) (bytes (at + 1)) (bytes (at + 2)) (bytes (at + 3)))
    ∙ (rw (
      bytes_back block bytes (suc k) n (omega arith),
      next-byte block at (at + 1) refl (omega arith),
      next-byte block (at + 1) (at + 2) (omega arith) (omega arith),
      next-byte block (at + 2) (at + 3) (omega arith) (omega arith),
      next-byte block (at + 3) (4 * suc k) (omega arith) (omega arith),
    ))

-- ---- numbers and their halves
pub halves_long : (numbers : List ℕ) → length (halves numbers) ≡ 2 * length numbers
halves_long [] = refl
halves_long (n ∷ numbers) = let e = halves_long numbers in omega arith

pub halves_small : {numbers : List ℕ} → All (λ n. n < 2 ^ 64) numbers → AreWords (halves numbers)
halves_small nil = nil
halves_small (◌&◌ {x = n} l small) = low & high & halves_small small
  where
    low : n % word_limit < word_limit
    low = omega arith

    high : n / word_limit < word_limit
    high = omega arith

pub halves-same : (xs ys : List ℕ) → halves xs ≡ halves ys → xs ≡ ys
halves-same [] [] e = refl
halves-same [] (y ∷ ys) e = cc
halves-same (x ∷ xs) [] e = cc
halves-same (x ∷ xs) (y ∷ ys) e =
    let low : x % word_limit ≡ y % word_limit = cc in
    let high : x / word_limit ≡ y / word_limit = cc in
    let rest : halves xs ≡ halves ys = cc in
    let same : x ≡ y = omega arith in
    rw (same, halves-same xs ys rest)

-- the halves of the numbers from number k on are their words
pub halves-back : (block : List ℕ) → AreBytes block → (k n : ℕ) → halves (map (number_at block) (from k n)) ≡ map (word_at block) (from (2 + 2 * k) (2 * n))
unfolding number_at
halves-back block bytes k zero = refl
halves-back block bytes k (suc n) =
    let a = word_at block (2 + 2 * k) in
    let b = word_at block (3 + 2 * k) in
    let i = word_small block bytes (2 + 2 * k) in
    let low : (a + b * word_limit) % word_limit ≡ a = omega arith in
    let high : (a + b * word_limit) / word_limit ≡ b = omega arith in
    let twice : 2 * suc n ≡ suc (suc (2 * n)) = omega arith in
    let next : 3 + 2 * k ≡ suc (2 + 2 * k) = omega arith in
    let beyond : 2 + 2 * suc k ≡ suc (suc (2 + 2 * k)) = omega arith in
    rw (low, high, halves-back block bytes (suc k) n, twice, next, beyond)

pub numbers-small : (block : List ℕ) → AreBytes block → (i : ℕ) → number_at block i < 2 ^ 64
unfolding number_at
numbers-small block bytes i = omega (arith, word_small block bytes (2 + 2 * i), word_small block bytes (3 + 2 * i))

-- ---- zeros and sums
pub zeros-small : (n : ℕ) → AreWords (zeros n)
zeros-small zero = nil
zeros-small (suc n) = small & zeros-small n
  where
    small : 0 < word_limit
    small = omega arith

pub sum-append : (xs ys : List ℕ) → sum (xs ++ ys) ≡ sum xs + sum ys
sum-append [] ys = omega arith
sum-append (x ∷ xs) ys = let e = sum-append xs ys in omega arith

-- two sums that differ in one place
pub sum-but-one : (f g : ℕ → ℕ) (k n j : ℕ) → k ≤ j → j < k + n → ((i : ℕ) → i < k + n → i ≢ j → f i ≡ g i) → sum (map f (from k n)) + g j ≡ sum (map g (from k n)) + f j
sum-but-one f g k zero j a b alike = absurd (omega arith)
sum-but-one f g k (suc n) j a b alike =
    ⊎_elim
    (λ (e : k ≡ j). omega (arith, ap sum (map-from f g (suc k) n (λ i l h. alike i (omega arith) (λ z. omega arith))), ap f e, ap g e))
    (λ (l : k < j). omega (arith, sum-but-one f g (suc k) n j l (omega arith) (λ i h. alike i (omega arith)), alike k (omega arith) (λ z. omega arith)))
    (eq-or-lt_of_le a)

-- ---- parts of a list, by their places
module _ {A : Type 0} (f : ℕ → A) where
  pub from_parts : (k m n : ℕ) → map f (from k (m + n)) ≡ map f (from k m) ++ map f (from (k + m) n)
  from_parts k zero n = let e : k ≡ k + 0 = omega arith in let z : 0 + n ≡ n = omega arith in rw (z, ← e)
  from_parts k (suc m) n =
      let e : suc m + n ≡ suc (m + n) = omega arith in
      let j : suc k + m ≡ k + suc m = omega arith in
      rw (e, ← j) (ap (λ z. f k ∷ z) (from_parts (suc k) m n))

  -- the words 2 to 126, cut behind the first m
  pub from_cut : (m : ℕ) → m ≤ 124 → map f (from 2 125) ≡ map f (from 2 m) ++ (map f (from (2 + m) (124 - m)) ++ f 126 ∷ [])
  from_cut m l =
      let size : 125 ≡ m + (124 - m + 1) = omega arith in
      let last : 2 + m + (124 - m) ≡ 126 = omega arith in
      ap (λ (n : ℕ). map f (from 2 n)) size
      ∙ from_parts 2 m (124 - m + 1)
      ∙ ap (λ (z : List A). map f (from 2 m) ++ z) (from_parts (2 + m) (124 - m) 1 ∙ ap (λ (n : ℕ). map f (from (2 + m) (124 - m)) ++ f n ∷ []) last)

-- the part of a list that begins at k, read by its places
pub part-read : (xs ys zs : List ℕ) (k n : ℕ) → length xs ≡ k → length ys ≡ n → map (λ i. get_or (xs ++ (ys ++ zs)) i 0) (from k n) ≡ ys
part-read xs ys zs k n e l =
    ext_get_or 0 (map whole (from k n)) ys (length-map (from k n) whole ∙ length_from k n ∙ sym l) at
  where
    whole : ℕ → ℕ
    whole i = get_or (xs ++ (ys ++ zs)) i 0

    at : (i : ℕ) → i < length (map whole (from k n)) → get_or (map whole (from k n)) i 0 ≡ get_or ys i 0
    at i h =
        let long = length-map (from k n) whole ∙ length_from k n in
        let j : i < n = omega arith in
        get_d-from whole 0 k n i j
        ∙ ap (λ (m : ℕ). get_or (xs ++ (ys ++ zs)) (m + i) 0) (sym e)
        ∙ get_or-append-add xs (ys ++ zs) i 0
        ∙ get_or-append ys zs 0 i (omega arith)
