-- The laws of a block by pairs: a pair has its eight bytes and its two words, words that follow one another go by pairs, a row's number is a pair, and a block is judged by its pairs, test after test. Assumes nothing.
use Rattle.std.specs.Prelude.{ℕ, zero, suc, ◌+◌, ◌-◌, ◌*◌, ◌/◌, ◌%◌, ◌≤◌, ◌<◌, Bool, ◌||◌, ◌≡◌, List, [], ◌∷◌, ◌++◌, map, length, get_or, set, take, T, leb, if◌then◌else◌, Some, None}
use Rattle.std.proofs.Math.Bool.{true, false}
use Rattle.std.proofs.Math.Path.{refl, ap}
use Rattle.std.proofs.Common.{sym, subst, ◌∙◌, le_trans, mul-le-mul_left, add-one, take-suc-set}
use native.Mathlib.Omega.{arith}
use Rattle.std.proofs.Math.Dec.{eqb, eqb-suc-zero}
use Rattle.rules.specs.Base.{every, hold, from}
use Rattle.rules.specs.Ends.{All, nil, ◌&◌}
use Rattle.rules.specs.Decides.{tells, ◌and◌, alone, at-most, itself}
use Rattle.words.specs.Lists.{map_last}
use Rattle.trace_blocks.specs.declared.BlockKind.{BlockKind}
use Rattle.trace_blocks.specs.Blocks.{block_bytes, word_limit, is_kind, word_at, sum, count_in, is_block, judged, number_at, numbers_in}
use Rattle.trace_blocks.specs.Pairs.{pair_at}
use Rattle.trace_blocks.specs.WordLaws.{AreBytes, word_small}
use Rattle.trace_blocks.specs.BlockLaws.{kind-decides}

-- ---- several tests: one that fails, all that hold
pub hold-not : (bs : List Bool) (i : ℕ) → get_or bs i true ≡ false → hold bs ≡ false
hold-not [] i e = e
hold-not (b ∷ bs) zero e = rw e
hold-not (true ∷ bs) (suc i) e = hold-not bs i e
hold-not (false ∷ bs) (suc i) e = refl

pub hold-all : (bs : List Bool) → All (λ b. b ≡ true) bs → hold bs ≡ true
hold-all [] nil = refl
hold-all (b ∷ bs) (e & es) = rw e (hold-all bs es)

-- ---- a pair by its bytes, and by its two words
pub pair-bytes :
    (bytes : List ℕ) (i : ℕ) →
    get_or bytes (i * 8) 0
    + get_or bytes (i * 8 + 1) 0 * 0x100
    + get_or bytes (i * 8 + 2) 0 * 0x1_0000
    + get_or bytes (i * 8 + 3) 0 * 0x100_0000
    + get_or bytes (i * 8 + 4) 0 * 0x1_0000_0000
    + get_or bytes (i * 8 + 5) 0 * 0x100_0000_0000
    + get_or bytes (i * 8 + 6) 0 * 0x1_0000_0000_0000
    + get_or bytes (i * 8 + 7) 0 * 0x100_0000_0000_0000
    ≡ pair_at bytes i
unfolding pair_at word_at
pair-bytes bytes i =
    let low : 4 * (2 * i) ≡ i * 8 = omega arith in
    let high : 4 * (2 * i + 1) ≡ i * 8 + 4 = omega arith in
    let at5 : i * 8 + 4 + 1 ≡ i * 8 + 5 = omega arith in
    let at6 : i * 8 + 4 + 2 ≡ i * 8 + 6 = omega arith in
    let at7 : i * 8 + 4 + 3 ≡ i * 8 + 7 = omega arith in
    simp (low, high, at5, at6, at7) (omega arith)

pub pair-low : (bytes : List ℕ) → AreBytes bytes → (i : ℕ) → pair_at bytes i % word_limit ≡ word_at bytes (2 * i)
unfolding pair_at
pair-low bytes b i = omega (arith, word_small bytes b (2 * i))

pub pair-high : (bytes : List ℕ) → AreBytes bytes → (i : ℕ) → pair_at bytes i / word_limit ≡ word_at bytes (2 * i + 1)
unfolding pair_at
pair-high bytes b i = omega (arith, word_small bytes b (2 * i))

-- ---- words that follow one another, a pair at a time
next-pair : (i end : ℕ) → 2 * i + 2 ≤ end → from (2 * i) (end - 2 * i) ≡ 2 * i ∷ (2 * i + 1) ∷ from (2 * (i + 1)) (end - 2 * (i + 1))
next-pair i end l =
    let n : end - 2 * i ≡ suc (suc (end - 2 * (i + 1))) = omega arith in
    let at : suc (2 * i) ≡ 2 * i + 1 = omega arith in
    let next : suc (suc (2 * i)) ≡ 2 * (i + 1) = omega arith in
    ap (from (2 * i)) n ∙ rw (next, at)

-- the sum of the words from a pair on
unfoldable pub sum_from : List ℕ → ℕ → ℕ
sum_from bytes i = sum (map (word_at bytes) (from (2 * i) (128 - 2 * i)))

pub sum-whole : (bytes : List ℕ) → sum (map (word_at bytes) (from 0 128)) ≡ sum_from bytes 0
unfolding sum_from
sum-whole bytes = refl

pub sum-next : (bytes : List ℕ) → AreBytes bytes → (i : ℕ) → i < 64 → sum_from bytes i ≡ pair_at bytes i % word_limit + pair_at bytes i / word_limit + sum_from bytes (i + 1)
unfolding sum_from
sum-next bytes b i l =
    let e : sum (map (word_at bytes) (from (2 * i) (128 - 2 * i))) ≡ _ = ap (λ (ns : List ℕ). sum (map (word_at bytes) ns)) (next-pair i 128 (omega arith)) in
    omega (arith, pair-low bytes b i, pair-high bytes b i)

-- every word from a pair on is zero, up to word 125
unfoldable pub clear_from : List ℕ → ℕ → Bool
clear_from bytes i = every (λ j. eqb (word_at bytes j) 0) (from (2 * i) (126 - 2 * i))

pub clear-on : (bytes : List ℕ) (i : ℕ) → i < 63 → pair_at bytes i ≡ 0 → clear_from bytes i ≡ clear_from bytes (i + 1)
unfolding clear_from pair_at
clear-on bytes i l e =
    let low : word_at bytes (2 * i) ≡ 0 = omega arith in
    let high : word_at bytes (2 * i + 1) ≡ 0 = omega arith in
    rw (next-pair i 126 (omega arith), low, high)

pub clear-not : (bytes : List ℕ) (i : ℕ) → i < 63 → (pair_at bytes i ≡ 0 → ⊥) → clear_from bytes i ≡ false
unfolding clear_from pair_at
clear-not bytes i l n = rw (next-pair i 126 (omega arith)) (go (word_at bytes (2 * i)) (word_at bytes (2 * i + 1)) n (clear_from bytes (i + 1)))
  where
    go : (low high : ℕ) → (low + high * word_limit ≡ 0 → ⊥) → (rest : Bool) → (if eqb low 0 then if eqb high 0 then rest else false else false) ≡ false
    go zero zero n rest = absurd (n refl)
    go zero (suc high) n rest = rw (eqb-suc-zero high)
    go (suc low) high n rest = rw (eqb-suc-zero low)

pub clear-end : (bytes : List ℕ) (i : ℕ) → 63 ≤ i → clear_from bytes i ≡ true
unfolding clear_from
clear-end bytes i l = let e : 126 - 2 * i ≡ 0 = omega arith in rw e

-- ---- a row's number is a pair
pub number-pair : (bytes : List ℕ) (i : ℕ) → pair_at bytes (i + 1) ≡ number_at bytes i
unfolding pair_at number_at
number-pair bytes i =
    let low : 2 * (i + 1) ≡ 2 + 2 * i = omega arith in
    let high : 2 * (i + 1) + 1 ≡ 3 + 2 * i = omega arith in
    rw (high, low)

pub number_more : (bytes rows : List ℕ) (i number : ℕ) → i < length rows → take i rows ≡ numbers_in i bytes → number ≡ pair_at bytes (i + 1) → take (i + 1) (set rows i number) ≡ numbers_in (i + 1) bytes
number_more bytes rows i number l before e =
    let at : i ≡ 0 + i = omega arith in
    ap (λ (n : ℕ). take n (set rows i number)) (add-one i)
    ∙ take-suc-set rows i number l
    ∙ ap (λ (z : List ℕ). z ++ number ∷ []) before
    ∙ ap (λ (n : ℕ). numbers_in i bytes ++ n ∷ []) (e ∙ number-pair bytes i ∙ ap (number_at bytes) at)
    ∙ sym (map_last (number_at bytes) 0 i)
    ∙ ap (λ (n : ℕ). numbers_in n bytes) (sym (add-one i))

-- ---- a block judged by its pairs
-- the count is one that a block may have
abbrev pub count_fits : BlockKind → (count : ℕ) → (ends : Bool) → Bool
count_fits kind count ends = hold (leb 1 count ∷ leb count kind.most ∷ (ends || eqb count kind.most) ∷ [])

-- so many rows have room in a block
pub count_room : (kind : BlockKind) (count : ℕ) (ends : Bool) → is_kind kind ≡ true → count_fits kind count ends ≡ true → kind.width * count ≤ 62
count_room kind count ends k f =
    let fits = tells (at-most 1 count and at-most count kind.most and alone (itself (ends || eqb count kind.most))) (subst T (sym f) tt) in
    le_trans (mul-le-mul_left kind.width fits.1.0) (tells (kind-decides kind) (subst T (sym k) tt)).room

-- what the code asks, in its order
abbrev pub pair_tests : BlockKind → (number : ℕ) → (ends : Bool) → List ℕ → List Bool
pair_tests kind number ends block =
    let count = pair_at block 0 / word_limit in
    is_kind kind
    ∷ eqb (length block) block_bytes
    ∷ eqb (pair_at block 0 % word_limit) number
    ∷ count_fits kind count ends
    ∷ clear_from block (kind.width * count + 1)
    ∷ eqb (pair_at block 63 % word_limit) kind.mark
    ∷ eqb (sum_from block 0 % word_limit) (word_limit - 1)
    ∷ []

module _ (kind : BlockKind) (number : ℕ) (ends : Bool) (block : List ℕ) where
  is_block-made :
      is_block kind number ends block
      ≡ hold
      (eqb (length block) block_bytes
      ∷ eqb (word_at block 0) number
      ∷ leb 1 (count_in block)
      ∷ leb (count_in block) kind.most
      ∷ (ends || eqb (count_in block) kind.most)
      ∷ clear_from block (kind.width * count_in block + 1)
      ∷ eqb (word_at block 126) kind.mark
      ∷ eqb (sum_from block 0 % word_limit) (word_limit - 1)
      ∷ [])
  unfolding is_block clear_from sum_from
  is_block-made = let at : 2 + 2 * (kind.width * count_in block) ≡ 2 * (kind.width * count_in block + 1) = omega arith in rw at

  pub judged-pairs : AreBytes block → judged kind number ends block ≡ (if hold (pair_tests kind number ends block) then Some (pair_at block 0 / word_limit) else None)
  unfolding judged
  judged-pairs b =
      ap (λ (t : Bool). if hold (is_kind kind ∷ t ∷ []) then Some (count_in block) else None) is_block-made
      ∙ ap (λ (t : Bool). if t then Some (count_in block) else None)
      (flat (is_kind kind) (eqb (length block) block_bytes) (eqb (word_at block 0) number) (leb 1 (count_in block)) (leb (count_in block) kind.most)
      (ends || eqb (count_in block) kind.most) (clear_from block (kind.width * count_in block + 1)) (eqb (word_at block 126) kind.mark) (eqb (sum_from block 0 % word_limit) (word_limit - 1)))
      ∙ rw (pair-low block b 0, pair-high block b 0, pair-low block b 63)
    where
      flat : (k a b c d e f g h : Bool) → hold (k ∷ hold (a ∷ b ∷ c ∷ d ∷ e ∷ f ∷ g ∷ h ∷ []) ∷ []) ≡ hold (k ∷ a ∷ b ∷ hold (c ∷ d ∷ e ∷ []) ∷ f ∷ g ∷ h ∷ [])
      flat false a b c d e f g h = refl
      flat true false b c d e f g h = refl
      flat true true false c d e f g h = refl
      flat true true true false d e f g h = refl
      flat true true true true false e f g h = refl
      flat true true true true true false f g h = refl
      flat true true true true true true false g h = refl
      flat true true true true true true true false h = refl
      flat true true true true true true true true false = refl
      flat true true true true true true true true true = refl

  pub judged-bad : AreBytes block → (i : ℕ) → get_or (pair_tests kind number ends block) i true ≡ false → judged kind number ends block ≡ None
  judged-bad b i e = judged-pairs b ∙ ap (λ (t : Bool). if t then Some (pair_at block 0 / word_limit) else None) (hold-not (pair_tests kind number ends block) i e)

  pub judged-rows : AreBytes block → All (λ t. t ≡ true) (pair_tests kind number ends block) → judged kind number ends block ≡ Some (pair_at block 0 / word_limit)
  judged-rows b ts = judged-pairs b ∙ ap (λ (t : Bool). if t then Some (pair_at block 0 / word_limit) else None) (hold-all (pair_tests kind number ends block) ts)
