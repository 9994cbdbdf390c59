-- The laws of one block: how long it is, that its rows come back from it, that it is good, that every good block is the one that is written of its rows, and what is found where one word, one byte or the number is another. Assumes nothing.
use Rattle.std.specs.Prelude.{ℕ, zero, suc, ◌+◌, ◌-◌, ◌*◌, ◌/◌, ◌%◌, ◌≤◌, ◌<◌, ◌^◌, ◌≡◌, Bool, true, false, ◌||◌, ◌≢◌, set, eqb}
use Rattle.std.proofs.Math.Path.{refl, sym, ap, subst}
use Rattle.std.proofs.Common.{◌∙◌, ⊎_elim, div-le_self, mul-le-mul, mul-le-mul_left, mul-zero, get_or-set_same, get_or-set_other}
use mathlib.Core.List.{List, [], ◌∷◌, ◌++◌, map, append_assoc, append-nil}
use Rattle.std.proofs.Math.Nat.{eq_of_mul-eq-mul_left, le_of_mul-le-mul_left, mul-div_cancel_left, mul-mod_right, div-add-mod}
use native.Mathlib.Omega.{arith}
use Rattle.std.proofs.Math.ListN.{length, get_or, length-append}
use Rattle.std.proofs.Math.Dec.{T}
use Rattle.rules.specs.Base.{every, from}
use Rattle.rules.specs.Ends.{All, nil, ◌&◌, Whatever, all_any, all_map, all_append}
use Rattle.rules.specs.Decides.{Decides, exactly, tells, passes, is_false, either, reads, ◌and◌, alone, at-most, same, itself}
use Rattle.words.specs.Laying.{zeros, zeros-long}
use Rattle.words.specs.Lists.{length-lines, map-from, map_last}
use Rattle.trace_blocks.specs.declared.BlockKind.{BlockKind}
use Rattle.trace_blocks.specs.Blocks.{word_limit, is_kind, bytes_of, word_at, halves, sum, body_of, check_of, words_of, block_of, fills_block, count_in, unused_from, is_block, number_at, numbers_in, rows_in}
pub use Rattle.trace_blocks.specs.WordLaws.{word-written}
use Rattle.trace_blocks.specs.WordLaws.{AreBytes, AreWords, bytes-long, are-bytes, word_small, bytes_back, halves_long, halves_small, halves-same, halves-back, numbers-small, zeros-small, sum-append, sum-but-one, from_cut, part-read}

-- ---- the tests taken apart
pub record Kind (kind : BlockKind) : Type 0 where
  pub wide : 1 ≤ kind.width
  pub some-rows : 1 ≤ kind.most
  pub room : kind.width * kind.most ≤ 62

pub kind-decides : (kind : BlockKind) → Decides (is_kind kind) (Kind kind)
unfolding is_kind
kind-decides kind =
    reads (at-most 1 kind.width and at-most 1 kind.most and alone (at-most (kind.width * kind.most) 62))
    (λ h. record { wide = h.0; some-rows = h.1.0; room = h.1.1 })
    (λ h. (h.wide, (h.some-rows, h.room)))

-- where the code says that it is one
pub kind-is : (kind : BlockKind) → is_kind kind ≡ true → Kind kind
kind-is kind e = tells (kind-decides kind) (subst T (sym e) tt)

pub record Fills (kind : BlockKind) (numbers : ℕ) : Type 0 where
  pub any : 1 ≤ numbers
  pub whole : numbers % kind.width ≡ 0
  pub fit : numbers ≤ kind.width * kind.most

pub fills-decides : (kind : BlockKind) (numbers : ℕ) → Decides (fills_block kind numbers) (Fills kind numbers)
unfolding fills_block
fills-decides kind numbers =
    reads (at-most 1 numbers and same (numbers % kind.width) 0 and alone (at-most numbers (kind.width * kind.most)))
    (λ h. record { any = h.0; whole = h.1.0; fit = h.1.1 })
    (λ h. (h.any, (h.whole, h.fit)))

-- so many zeros, from a place on
clear-decides : (f : ℕ → ℕ) (k n : ℕ) → Decides (every (λ i. eqb (f i) 0) (from k n)) (map f (from k n) ≡ zeros n)
clear-decides f k zero = exactly (λ _. refl) (λ _. tt)
clear-decides f k (suc n) =
    reads (same (f k) 0 and clear-decides f (suc k) n) (λ h. rw (h.0, h.1)) (λ e. (cc, cc))

abbrev pub words : List ℕ → List ℕ
words block = map (word_at block) (from 0 128)

pub record Good (kind : BlockKind) (number : ℕ) (ends : Bool) (block : List ℕ) : Type 0 where
  pub long : length block ≡ 512
  pub numbered : word_at block 0 ≡ number
  pub any : 1 ≤ count_in block
  pub fit : count_in block ≤ kind.most
  pub full : T (ends || eqb (count_in block) kind.most)
  pub clear : map (word_at block) (from (unused_from kind block) (126 - unused_from kind block)) ≡ zeros (126 - unused_from kind block)
  pub marked : word_at block 126 ≡ kind.mark
  pub adds : sum (words block) % word_limit ≡ word_limit - 1

pub good-decides : (kind : BlockKind) (number : ℕ) (ends : Bool) (block : List ℕ) → Decides (is_block kind number ends block) (Good kind number ends block)
unfolding is_block
good-decides kind number ends block =
    reads
    (same (length block) 512 and same (word_at block 0) number and at-most 1 (count_in block) and at-most (count_in block) kind.most and itself (ends || eqb (count_in block) kind.most)
    and clear-decides (word_at block) (unused_from kind block) (126 - unused_from kind block) and same (word_at block 126) kind.mark and alone (same (sum (words block) % word_limit) (word_limit - 1)))
    (λ h. record { long = h.0; numbered = h.1.0; any = h.1.1.0; fit = h.1.1.1.0; full = h.1.1.1.1.0; clear = h.1.1.1.1.1.0; marked = h.1.1.1.1.1.1.0; adds = h.1.1.1.1.1.1.1 })
    (λ h. (h.long, (h.numbered, (h.any, (h.fit, (h.full, (h.clear, (h.marked, h.adds))))))))

-- ---- how long a block is
body-long : (kind : BlockKind) (number : ℕ) (rows : List ℕ) → length rows ≤ 62 → length (body_of kind number rows) ≡ 127
unfolding body_of
body-long kind number rows l =
    let blank = zeros (124 - 2 * length rows) in
    let a = length-append (halves rows) (blank ++ kind.mark ∷ []) in
    let b = length-append blank (kind.mark ∷ []) in
    omega (arith, halves_long rows, zeros-long (124 - 2 * length rows))

words_long : (kind : BlockKind) (number : ℕ) (rows : List ℕ) → length rows ≤ 62 → length (words_of kind number rows) ≡ 128
unfolding words_of
words_long kind number rows l =
    let body = body_of kind number rows in
    let a = length-append body (check_of body ∷ []) in
    omega (arith, body-long kind number rows l)

pub block-long : (kind : BlockKind) (number : ℕ) (rows : List ℕ) → T (is_kind kind) → length rows ≤ kind.width * kind.most → length (block_of kind number rows) ≡ 512
unfolding block_of
block-long kind number rows few l =
    let room = (tells (kind-decides kind) few).room in
    let a = bytes-long (words_of kind number rows) in
    omega (arith, words_long kind number rows (omega arith))

pub block-bytes : (kind : BlockKind) (number : ℕ) (rows : List ℕ) → AreBytes (block_of kind number rows)
unfolding block_of
block-bytes kind number rows = are-bytes (words_of kind number rows)

-- ---- rows that fill a block: their count
pub record Counted (kind : BlockKind) (numbers : ℕ) : Type 0 where
  pub rows : kind.width * (numbers / kind.width) ≡ numbers
  pub any : 1 ≤ numbers / kind.width
  pub fit : numbers / kind.width ≤ kind.most
  pub few : numbers ≤ 62
  pub word : numbers / kind.width < word_limit

pub counted : (kind : BlockKind) (numbers : ℕ) → T (is_kind kind) → T (fills_block kind numbers) → Counted kind numbers
counted kind numbers few fills = go (tells (kind-decides kind) few) (tells (fills-decides kind numbers) fills)
  where
    count : ℕ
    count = numbers / kind.width

    go : Kind kind → Fills kind numbers → Counted kind numbers
    go is has =
        let whole : kind.width * count ≡ numbers = omega (arith, div-add-mod numbers kind.width) in
        record {
          rows = whole;
          any = some_of count whole;
          fit = le_of_mul-le-mul_left {m = count} {n = kind.most} {k = kind.width} (omega arith) is.wide;
          few = omega arith;
          word = omega (arith, div-le_self numbers kind.width);
        }
      where
        some_of : (n : ℕ) → kind.width * n ≡ numbers → 1 ≤ n
        some_of zero e = absurd (let z = mul-zero kind.width in omega arith)
        some_of (suc n) e = omega arith

-- a block that ends the file need not be full
either_way : (ends : Bool) (a b : Bool) → (T a → T b) → T (ends || a) → T (ends || b)
either_way true a b f t = tt
either_way false a b f t = f t

-- ---- the check word is the one that makes the sum
check-adds : (body : List ℕ) → sum (body ++ check_of body ∷ []) % word_limit ≡ word_limit - 1
unfolding check_of
check-adds body = let e = sum-append body (check_of body ∷ []) in omega arith

check-only : (body : List ℕ) (check : ℕ) → check < word_limit → sum (body ++ check ∷ []) % word_limit ≡ word_limit - 1 → check_of body ≡ check
unfolding check_of
check-only body check l adds = let e = sum-append body (check ∷ []) in omega arith

-- ---- a block that was written
module _ (kind : BlockKind) (number : ℕ) (rows : List ℕ) (few : T (is_kind kind)) (fills : T (fills_block kind (length rows)))
    (place : number < word_limit) (mark : kind.mark < word_limit) (small : All (λ n. n < 2 ^ 64) rows) where
  body-small : AreWords (body_of kind number rows)
  unfolding body_of
  body-small = place & (counted kind (length rows) few fills).word & all_append (halves_small small) (all_append (zeros-small (124 - 2 * length rows)) (mark & nil))

  all_small : AreWords (words_of kind number rows)
  unfolding words_of check_of
  all_small = all_append body-small (below & nil)
    where
      below : check_of (body_of kind number rows) < word_limit
      below = omega arith

  part-written : (xs ys zs : List ℕ) (k n : ℕ) → words_of kind number rows ≡ xs ++ (ys ++ zs) → length xs ≡ k → length ys ≡ n → map (word_at (block_of kind number rows)) (from k n) ≡ ys
  unfolding block_of
  part-written xs ys zs k n e l m =
      map-from (word_at (block_of kind number rows)) (λ i. get_or (xs ++ (ys ++ zs)) i 0) k n (λ i _ _. word-written (words_of kind number rows) all_small i ∙ ap (λ (ws : List ℕ). get_or ws i 0) e)
      ∙ part-read xs ys zs k n l m

  pub count-written : count_in (block_of kind number rows) ≡ length rows / kind.width
  unfolding block_of words_of body_of
  count-written = word-written (words_of kind number rows) all_small 1

  -- as many numbers as were written
  numbers-written : kind.width * count_in (block_of kind number rows) ≡ length rows
  numbers-written = ap (λ (n : ℕ). kind.width * n) count-written ∙ (counted kind (length rows) few fills).rows

  -- the block's words, part by part
  rows-part : map (word_at (block_of kind number rows)) (from 2 (2 * length rows)) ≡ halves rows
  unfolding words_of body_of
  rows-part =
      let count = length rows / kind.width in
      let blank = zeros (124 - 2 * length rows) ++ kind.mark ∷ [] in
      let check = check_of (body_of kind number rows) ∷ [] in
      part-written (number ∷ count ∷ []) (halves rows) (blank ++ check) 2 (2 * length rows)
      (ap (λ (z : List ℕ). number ∷ count ∷ z) (append_assoc (halves rows) blank check)) refl (halves_long rows)

  clear-part : map (word_at (block_of kind number rows)) (from (2 + 2 * length rows) (124 - 2 * length rows)) ≡ zeros (124 - 2 * length rows)
  unfolding words_of body_of
  clear-part =
      let head = number ∷ length rows / kind.width ∷ halves rows in
      let blank = zeros (124 - 2 * length rows) in
      let check = check_of (body_of kind number rows) ∷ [] in
      part-written head blank (kind.mark ∷ check) (2 + 2 * length rows) (124 - 2 * length rows)
      (append_assoc head (blank ++ kind.mark ∷ []) check ∙ ap (λ (z : List ℕ). head ++ z) (append_assoc blank (kind.mark ∷ []) check))
      (omega (arith, halves_long rows)) (zeros-long (124 - 2 * length rows))

  mark-part : word_at (block_of kind number rows) 126 ≡ kind.mark
  unfolding words_of body_of
  mark-part =
      let head = number ∷ length rows / kind.width ∷ halves rows in
      let blank = zeros (124 - 2 * length rows) in
      let check = check_of (body_of kind number rows) ∷ [] in
      let long : length (head ++ blank) ≡ 126 = (let e = length-append head blank in let few = (counted kind (length rows) few fills).few in omega (arith, halves_long rows, zeros-long (124 - 2 * length rows))) in
      let cut : (head ++ (blank ++ kind.mark ∷ [])) ++ check ≡ (head ++ blank) ++ (kind.mark ∷ check) = simp append_assoc in
      ap (λ (z : List ℕ). get_or z 0 0) (part-written (head ++ blank) (kind.mark ∷ []) check 126 1 cut long refl)

  all_words : words (block_of kind number rows) ≡ words_of kind number rows
  all_words = part-written [] (words_of kind number rows) [] 0 128 (sym (append-nil (words_of kind number rows))) refl (words_long kind number rows (counted kind (length rows) few fills).few)

  pub rows_written : rows_in kind (block_of kind number rows) ≡ rows
  rows_written =
      let block = block_of kind number rows in
      ap (λ (n : ℕ). numbers_in n block) numbers-written
      ∙ halves-same (numbers_in (length rows) block) rows (halves-back block (block-bytes kind number rows) 0 (length rows) ∙ rows-part)

  written-parts : (ends : Bool) → T (ends || eqb (length rows) (kind.width * kind.most)) → Good kind number ends (block_of kind number rows)
  unfolding words_of body_of block_of
  written-parts ends full =
      let block = block_of kind number rows in
      let has = counted kind (length rows) few fills in
      let unused : unused_from kind block ≡ 2 + 2 * length rows = omega (arith, numbers-written) in
      let left : 126 - unused_from kind block ≡ 124 - 2 * length rows = omega arith in
      record {
        long = block-long kind number rows few (tells (fills-decides kind (length rows)) fills).fit;
        numbered = word-written (words_of kind number rows) all_small 0;
        any = subst (λ n. 1 ≤ n) (sym count-written) has.any;
        fit = subst (λ n. n ≤ kind.most) (sym count-written) has.fit;
        full = either_way ends (eqb (length rows) (kind.width * kind.most)) (eqb (count_in block) kind.most)
            (λ t. passes (same (count_in block) kind.most)
            (count-written ∙ eq_of_mul-eq-mul_left kind.width (tells (kind-decides kind) few).wide (length rows / kind.width) kind.most
            (has.rows ∙ tells (same (length rows) (kind.width * kind.most)) t)))
            full;
        clear = rw (left, unused) clear-part;
        marked = mark-part;
        adds = ap (λ (ws : List ℕ). sum ws % word_limit) all_words ∙ check-adds (body_of kind number rows);
      }

  pub good-written : (ends : Bool) → T (ends || eqb (length rows) (kind.width * kind.most)) → T (is_block kind number ends (block_of kind number rows))
  good-written ends full = passes (good-decides kind number ends (block_of kind number rows)) (written-parts ends full)

-- ---- a good block
pub rows_long : (kind : BlockKind) (block : List ℕ) → length (rows_in kind block) ≡ kind.width * count_in block
rows_long kind block = length-lines (number_at block) (kind.width * count_in block)

pub rows-small : (kind : BlockKind) (block : List ℕ) → AreBytes block → All (λ n. n < 2 ^ 64) (rows_in kind block)
rows-small kind block bytes = all_map (number_at block) (all_any {P = Whatever} (from 0 (kind.width * count_in block)) (λ _. tt)) (λ i _. numbers-small block bytes i)

module _ (kind : BlockKind) (number : ℕ) (ends : Bool) (block : List ℕ) (few : T (is_kind kind)) (bytes : AreBytes block) (good : T (is_block kind number ends block)) where
  asked : Good kind number ends block
  asked = tells (good-decides kind number ends block) good

  pub number_small : number < word_limit
  number_small = subst (λ n. n < word_limit) asked.numbered (word_small block bytes 0)

  fit-rows : kind.width * count_in block ≤ kind.width * kind.most
  fit-rows = mul-le-mul_left kind.width asked.fit

  pub rows_fill : T (fills_block kind (length (rows_in kind block)))
  rows_fill = subst (λ n. T (fills_block kind n)) (sym (rows_long kind block)) (passes (fills-decides kind numbers) (record { any = any; whole = mul-mod_right kind.width (count_in block); fit = fit-rows }))
    where
      numbers : ℕ
      numbers = kind.width * count_in block

      any : 1 ≤ numbers
      any = omega (arith, mul-le-mul (tells (kind-decides kind) few).wide asked.any)

  same_body : body_of kind number (rows_in kind block) ≡ map (word_at block) (from 0 127)
  unfolding body_of
  same_body =
      let w = word_at block in
      let n = kind.width * count_in block in
      let room : n ≤ 62 = omega (arith, fit-rows, (tells (kind-decides kind) few).room) in
      let count : n / kind.width ≡ w 1 = mul-div_cancel_left (count_in block) (tells (kind-decides kind) few).wide in
      let left : 126 - unused_from kind block ≡ 124 - 2 * n = omega arith in
      let clear : map w (from (2 + 2 * n) (124 - 2 * n)) ≡ zeros (124 - 2 * n) = rw left at asked.clear in
      let first : number ≡ w 0 = sym asked.numbered in
      let second : length (rows_in kind block) / kind.width ≡ w 1 = ap (λ (m : ℕ). m / kind.width) (rows_long kind block) ∙ count in
      let blank : zeros (124 - 2 * length (rows_in kind block)) ≡ map w (from (2 + 2 * n) (124 - 2 * n)) = ap (λ (m : ℕ). zeros (124 - 2 * m)) (rows_long kind block) ∙ sym clear in
      let last_one : kind.mark ≡ w 126 = sym asked.marked in
      (λ i. first i ∷ second i ∷ (halves-back block bytes 0 n i ++ (blank i ++ last_one i ∷ []))) ∙ ap (λ (z : List ℕ). w 0 ∷ w 1 ∷ z) (sym (from_cut w (2 * n) (omega arith)))

  same-words : words_of kind number (rows_in kind block) ≡ words block
  unfolding words_of
  same-words =
      let front = map (word_at block) (from 0 127) in
      let whole : words block ≡ front ++ word_at block 127 ∷ [] = map_last (word_at block) 0 127 in
      let adds : sum (front ++ word_at block 127 ∷ []) % word_limit ≡ word_limit - 1 = subst (λ (ws : List ℕ). sum ws % word_limit ≡ word_limit - 1) whole asked.adds in
      let check = check-only front (word_at block 127) (word_small block bytes 127) adds in
      ap (λ (body : List ℕ). body ++ check_of body ∷ []) same_body ∙ ap (λ (c : ℕ). front ++ c ∷ []) check ∙ sym whole

  pub written-good : block_of kind number (rows_in kind block) ≡ block
  unfolding block_of
  written-good = ap bytes_of same-words ∙ bytes_back block bytes 0 128 asked.long

  -- full rows, where more blocks follow
  pub rows-full : T (ends || eqb (length (rows_in kind block)) (kind.width * kind.most))
  rows-full =
      either_way ends (eqb (count_in block) kind.most) (eqb (length (rows_in kind block)) (kind.width * kind.most))
      (λ t. passes (same (length (rows_in kind block)) (kind.width * kind.most)) (rows_long kind block ∙ ap (λ (n : ℕ). kind.width * n) (tells (same (count_in block) kind.most) t)))
      asked.full

-- ---- a block of bytes is good exactly if it is the one that is written of some rows
pub record WrittenOf (kind : BlockKind) (number : ℕ) (ends : Bool) (block : List ℕ) : Type 0 where
  pub rows : List ℕ
  pub small : All (λ n. n < 2 ^ 64) rows
  pub fills : T (fills_block kind (length rows))
  pub full : T (ends || eqb (length rows) (kind.width * kind.most))
  pub place : number < word_limit
  pub is : block_of kind number rows ≡ block

pub exactly-written : (kind : BlockKind) (number : ℕ) (ends : Bool) (block : List ℕ) → T (is_kind kind) → kind.mark < word_limit → AreBytes block
    → Decides (is_block kind number ends block) (WrittenOf kind number ends block)
exactly-written kind number ends block few mark bytes =
    exactly
    (λ good.
    record {
      rows = rows_in kind block;
      small = rows-small kind block bytes;
      fills = rows_fill kind number ends block few bytes good;
      full = rows-full kind number ends block few bytes good;
      place = number_small kind number ends block few bytes good;
      is = written-good kind number ends block few bytes good;
    })
    (λ h. subst (λ b. T (is_block kind number ends b)) h.is (good-written kind number h.rows few h.fills h.place mark h.small ends h.full))

-- ---- blocks with the same words are the same
pub words_same : (x y : List ℕ) → AreBytes x → AreBytes y → length x ≡ 512 → length y ≡ 512 → ((i : ℕ) → i < 128 → word_at x i ≡ word_at y i) → x ≡ y
words_same x y x-bytes y-bytes x-long y-long alike =
    sym (bytes_back x x-bytes 0 128 x-long) ∙ ap bytes_of (map-from (word_at x) (word_at y) 0 128 (λ i _ l. alike i l)) ∙ bytes_back y y-bytes 0 128 y-long

-- sums that leave the same, and differ by words, are the same
same_rest : (s t a b : ℕ) → s + b ≡ t + a → s % word_limit ≡ word_limit - 1 → t % word_limit ≡ word_limit - 1 → a < word_limit → b < word_limit → a ≡ b
same_rest s t a b e p q l m = omega arith

-- ---- what is found: a block that differs from a good one in one word is no block, of any kind and for any number
module _ (x y : List ℕ) (x-bytes : AreBytes x) (y-bytes : AreBytes y) (kind : BlockKind) (number : ℕ) (ends : Bool) (good : T (is_block kind number ends x))
    (other-kind : BlockKind) (other-number : ℕ) (other-ends : Bool) where
  pub one-word-found : (j : ℕ) → j < 128 → ((i : ℕ) → i < 128 → i ≢ j → word_at x i ≡ word_at y i) → word_at x j ≢ word_at y j → is_block other-kind other-number other-ends y ≡ false
  one-word-found j l alike differ = is_false (good-decides other-kind other-number other-ends y) (λ h. both (tells (good-decides kind number ends x) good).adds h.adds)
    where
      both : sum (words x) % word_limit ≡ word_limit - 1 → sum (words y) % word_limit ≡ word_limit - 1 → ⊥
      both a b = differ (same_rest (sum (words x)) (sum (words y)) (word_at x j) (word_at y j) (sum-but-one (word_at x) (word_at y) 0 128 j (omega arith) l alike) a b (word_small x x-bytes j) (word_small y y-bytes j))

  pub one-byte-found : (j : ℕ) → j < 512 → ((i : ℕ) → i < 512 → i ≢ j → get_or x i 0 ≡ get_or y i 0) → get_or x j 0 ≢ get_or y j 0 → is_block other-kind other-number other-ends y ≡ false
  unfolding word_at
  one-byte-found j l alike differ = is_false (good-decides other-kind other-number other-ends y) (λ h. subst T (one-word-found (j / 4) (omega arith) others (differs h)) (passes (good-decides other-kind other-number other-ends y) h))
    where
      others : (i : ℕ) → i < 128 → i ≢ j / 4 → word_at x i ≡ word_at y i
      others i h n =
          rw (alike (4 * i) (omega arith) (λ e. n (omega arith)), alike (4 * i + 1) (omega arith) (λ e. n (omega arith)), alike (4 * i + 2) (omega arith) (λ e. n (omega arith)), alike (4 * i + 3) (omega arith) (λ e. n (omega arith)))

      differs : Good other-kind other-number other-ends y → word_at x (j / 4) ≢ word_at y (j / 4)
      differs h e = differ (ap (λ (block : List ℕ). get_or block j 0) (words_same x y x-bytes y-bytes (tells (good-decides kind number ends x) good).long h.long every-word))
        where
          every-word : (i : ℕ) → i < 128 → word_at x i ≡ word_at y i
          every-word i b = ⊎_elim (λ (q : i ≡ j / 4). subst (λ k. word_at x k ≡ word_at y k) (sym q) e) (others i b) (either (same i (j / 4)))

-- and so with a byte put in place of another: a flipped bit of it, say
pub changed-byte-found : (x : List ℕ) → AreBytes x → (kind : BlockKind) (number : ℕ) (ends : Bool) → T (is_block kind number ends x) → (other-kind : BlockKind) (other-number : ℕ) (other-ends : Bool)
    → (j byte : ℕ) → j < 512 → byte < 256 → byte ≢ get_or x j 0 → is_block other-kind other-number other-ends (set x j byte) ≡ false
changed-byte-found x bytes kind number ends good other-kind other-number other-ends j byte l small differ =
    one-byte-found x (set x j byte) bytes all-bytes kind number ends good other-kind other-number other-ends j l (λ i _ n. sym (get_or-set_other x j i byte 0 n)) (λ e. differ (sym (e ∙ here)))
  where
    here : get_or (set x j byte) j 0 ≡ byte
    here = get_or-set_same x j byte 0 (omega (arith, (tells (good-decides kind number ends x) good).long))

    all-bytes : AreBytes (set x j byte)
    all-bytes i = ⊎_elim (λ (q : i ≡ j). subst (λ n. n < 256) (sym (ap (λ (k : ℕ). get_or (set x j byte) k 0) q ∙ here)) small) (λ n. subst (λ b. b < 256) (sym (get_or-set_other x j i byte 0 n)) (bytes i)) (either (same i j))

pub other-number-found : (kind other-kind : BlockKind) (number other : ℕ) (ends other-ends : Bool) (block : List ℕ) → T (is_block kind number ends block) → number ≢ other → is_block other-kind other other-ends block ≡ false
other-number-found kind other-kind number other ends other-ends block good differ =
    is_false (good-decides other-kind other other-ends block) (λ h. differ (sym (tells (good-decides kind number ends block) good).numbered ∙ h.numbered))
