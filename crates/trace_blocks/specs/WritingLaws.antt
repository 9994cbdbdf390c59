-- A block as it is written, part after part: four bytes of a word set one by one, the numbers of the rows one after the other, and the whole. Assumes nothing.
use Rattle.std.specs.Prelude.{ℕ, zero, suc, ◌+◌, ◌-◌, ◌*◌, ◌/◌, ◌%◌, ◌≤◌, ◌<◌, true, ◌≡◌, get_or, set, take, T, if◌then◌else◌}
use Rattle.std.proofs.Math.Path.{refl, sym, ap}
use Rattle.std.proofs.Common.{subst, ◌∙◌, zero-add, div-le_self, add-one, length-set, take-suc}
use mathlib.Core.List.{List, [], ◌∷◌, ◌++◌, append_assoc}
use native.Mathlib.Omega.{arith}
use Rattle.std.proofs.Math.ListN.{length, length-append}
use Rattle.std.proofs.Math.Seq.{length-take-le}
use Rattle.words.specs.Laying.{zeros, zeros-long, over, laid, laid_one, laid_more, three-laid}
use Rattle.rules.specs.Decides.{tells, ◌and◌, alone, at-most}
use Rattle.trace_blocks.specs.declared.BlockKind.{BlockKind}
use Rattle.trace_blocks.specs.WordLaws.{bytes-long, halves_long, sum-append}
use Rattle.trace_blocks.specs.BlockLaws.{kind-decides, fills-decides}
use Rattle.trace_blocks.specs.Blocks.{word_limit, bytes_of, halves, sum, body_of, check_of, words_of, block_of, can_write, written_block}

-- ---- four bytes, set one by one
pub four-laid : (at a b c d : ℕ) (buffer : List ℕ) → at + 4 ≤ length buffer → set (set (set (set buffer at a) (at + 1) b) (at + 2) c) (at + 3) d ≡ laid at (a ∷ b ∷ c ∷ d ∷ []) buffer
four-laid at a b c d buffer room =
    let one = set buffer at a in
    let two = set one (at + 1) b in
    let three = set two (at + 2) c in
    let long = length-set buffer at a in
    let long-2 = length-set one (at + 1) b in
    let long-3 = length-set two (at + 2) c in
    laid_more at (at + 3) (a ∷ b ∷ c ∷ []) (d ∷ []) buffer three (set three (at + 3) d) (omega arith)
    (three-laid at a b c buffer (omega arith)) (omega arith) (laid_one (at + 3) d three (omega arith))

-- ---- words and bytes of one list behind another
pub bytes-append : (ws vs : List ℕ) → bytes_of (ws ++ vs) ≡ bytes_of ws ++ bytes_of vs
bytes-append [] vs = refl
bytes-append (w ∷ ws) vs = ap (λ (z : List ℕ). w % 256 ∷ w / 256 % 256 ∷ w / 65_536 % 256 ∷ w / 16_777_216 % 256 ∷ z) (bytes-append ws vs)

pub halves-append : (ns ms : List ℕ) → halves (ns ++ ms) ≡ halves ns ++ halves ms
halves-append [] ms = refl
halves-append (n ∷ ns) ms = ap (λ (z : List ℕ). n % word_limit ∷ n / word_limit ∷ z) (halves-append ns ms)

-- ---- one number more
module _ (rows : List ℕ) (i : ℕ) (l : i < length rows) where
  number : ℕ
  number = get_or rows i 0

  more : halves (take (i + 1) rows) ≡ halves (take i rows) ++ halves (number ∷ [])
  unfolding number
  more = ap (λ (n : ℕ). halves (take n rows)) (add-one i) ∙ ap halves (take-suc rows i 0 l) ∙ halves-append (take i rows) (get_or rows i 0 ∷ [])

  pub sum_more : (s : ℕ) → s ≡ sum (halves (take i rows)) → s + (get_or rows i 0 % word_limit + get_or rows i 0 / word_limit) ≡ sum (halves (take (i + 1) rows))
  unfolding number
  sum_more s e =
      let all : sum (halves (take (i + 1) rows)) ≡ sum (halves (take i rows)) + sum (halves (get_or rows i 0 ∷ [])) = ap sum more ∙ sum-append (halves (take i rows)) (halves (get_or rows i 0 ∷ [])) in
      omega arith

  pub numbers_more : (buffer mid after : List ℕ) → 8 ≤ length buffer → mid ≡ laid 8 (bytes_of (halves (take i rows))) buffer → after ≡ laid ((i + 1) * 8) (bytes_of (halves (get_or rows i 0 ∷ []))) mid → after ≡ laid 8 (bytes_of (halves (take (i + 1) rows))) buffer
  unfolding number
  numbers_more buffer mid after room e f =
      let before = halves (take i rows) in
      let next = halves (get_or rows i 0 ∷ []) in
      let long : 8 + length (bytes_of before) ≡ (i + 1) * 8 = (let h = bytes-long before in let k = halves_long (take i rows) in let t = length-take-le i rows (omega arith) in omega arith) in
      laid_more 8 ((i + 1) * 8) (bytes_of before) (bytes_of next) buffer mid after room e long f
      ∙ ap (λ (z : List ℕ). laid 8 z buffer) (sym (bytes-append before next) ∙ ap bytes_of (sym more))

-- ---- zeros
sum_zeros : (k : ℕ) → sum (zeros k) ≡ 0
sum_zeros zero = refl
sum_zeros (suc k) = zero-add (sum (zeros k)) ∙ sum_zeros k

bytes-zeros : (k : ℕ) → bytes_of (zeros k) ≡ zeros (k * 4)
bytes-zeros zero = refl
bytes-zeros (suc k) =
    let e : suc k * 4 ≡ suc (suc (suc (suc (k * 4)))) = omega arith in
    ap (λ (z : List ℕ). 0 ∷ 0 ∷ 0 ∷ 0 ∷ z) (bytes-zeros k) ∙ ap zeros (sym e)

-- ---- the whole block, in four parts
pub writable : (kind : BlockKind) (numbers room : ℕ) → can_write kind numbers room ≡ true → (1 ≤ kind.width) × (numbers ≤ 62) × (512 ≤ room) × (numbers / kind.width ≤ 62)
unfolding can_write
writable kind numbers room e =
    let w = tells (kind-decides kind and fills-decides kind numbers and alone (at-most 512 room)) (subst T (sym e) tt) in
    let l = w.0.room in
    (w.0.wide, omega (arith, w.1.0.fit), w.1.1, omega (arith, w.1.0.fit, div-le_self numbers kind.width))

module _ (kind : BlockKind) (number : ℕ) (rows : List ℕ) (few : length rows ≤ 62) (small : number < word_limit) (marked : kind.mark < word_limit) where
  abbrev count : ℕ
  count = length rows / kind.width

  abbrev gap : ℕ
  gap = 124 - 2 * length rows

  -- the words that the code has added up before the last two
  abbrev pub first_sum : ℕ
  first_sum = ((number + count * word_limit) % word_limit + (number + count * word_limit) / word_limit) + sum (halves rows)

  head-halves : halves ((number + count * word_limit) ∷ []) ≡ number ∷ count ∷ []
  head-halves =
      let low : (number + count * word_limit) % word_limit ≡ number = omega arith in
      let high : (number + count * word_limit) / word_limit ≡ count = omega arith in
      λ i. low i ∷ high i ∷ []

  body-sum : sum (body_of kind number rows) ≡ first_sum + kind.mark
  unfolding body_of
  body-sum =
      let low : (number + count * word_limit) % word_limit ≡ number = omega arith in
      let high : (number + count * word_limit) / word_limit ≡ count = omega arith in
      let a = sum-append (halves rows) (zeros gap ++ kind.mark ∷ []) in
      let b = sum-append (zeros gap) (kind.mark ∷ []) in
      let z = sum_zeros gap in
      omega arith

  abbrev pub last_pair : ℕ
  last_pair = kind.mark + (word_limit - 1 - (first_sum + kind.mark) % word_limit) * word_limit

  last-halves : halves (last_pair ∷ []) ≡ kind.mark ∷ check_of (body_of kind number rows) ∷ []
  unfolding check_of
  last-halves =
      let low : last_pair % word_limit ≡ kind.mark = omega arith in
      let high : last_pair / word_limit ≡ word_limit - 1 - (first_sum + kind.mark) % word_limit = omega arith in
      (λ i. low i ∷ high i ∷ []) ∙ ap (λ (n : ℕ). kind.mark ∷ (word_limit - 1 - n % word_limit) ∷ []) (sym body-sum)

  block-parts : block_of kind number rows ≡ ((bytes_of (halves ((number + count * word_limit) ∷ [])) ++ bytes_of (halves rows)) ++ zeros (63 * 8 - (length rows * 8 + 8))) ++ bytes_of (halves (last_pair ∷ []))
  unfolding block_of words_of body_of
  block-parts =
      let check = check_of (body_of kind number rows) in
      let front = number ∷ count ∷ halves rows in
      let e : gap * 4 ≡ 63 * 8 - (length rows * 8 + 8) = omega arith in
      ap bytes_of (append_assoc front (zeros gap ++ kind.mark ∷ []) (check ∷ []) ∙ ap (λ (z : List ℕ). front ++ z) (append_assoc (zeros gap) (kind.mark ∷ []) (check ∷ [])))
      ∙ bytes-append front (zeros gap ++ kind.mark ∷ check ∷ [])
      ∙ ap (λ (z : List ℕ). bytes_of front ++ z) (bytes-append (zeros gap) (kind.mark ∷ check ∷ []))
      ∙ sym (append_assoc (bytes_of front) (bytes_of (zeros gap)) (bytes_of (kind.mark ∷ check ∷ [])))
      ∙ (λ i. (bytes_of front ++ (bytes-zeros gap ∙ ap zeros e) i) ++ bytes_of (sym last-halves i))
      ∙ ap (λ (z : List ℕ). ((bytes_of z ++ bytes_of (halves rows)) ++ zeros (63 * 8 - (length rows * 8 + 8))) ++ bytes_of (halves (last_pair ∷ []))) (sym head-halves)

  -- laid one behind the other they are the block
  pub block-laid : (b0 b1 b2 b3 b4 : List ℕ) → can_write kind (length rows) (length b0) ≡ true
      → b1 ≡ laid (0 * 8) (bytes_of (halves ((number + count * word_limit) ∷ []))) b0
      → b2 ≡ laid 8 (bytes_of (halves rows)) b1
      → b3 ≡ laid (length rows * 8 + 8) (zeros (63 * 8 - (length rows * 8 + 8))) b2
      → b4 ≡ laid (63 * 8) (bytes_of (halves (last_pair ∷ []))) b3
      → b4 ≡ written_block kind number rows b0
  unfolding written_block
  block-laid b0 b1 b2 b3 b4 can e1 e2 e3 e4 =
      let head = bytes_of (halves ((number + count * word_limit) ∷ [])) in
      let body = bytes_of (halves rows) in
      let clear = zeros (63 * 8 - (length rows * 8 + 8)) in
      let long = bytes-long (halves rows) in
      let long-2 = halves_long rows in
      let long-3 = length-append head body in
      let long-4 = zeros-long (63 * 8 - (length rows * 8 + 8)) in
      let long-5 = length-append (head ++ body) clear in
      let two : b2 ≡ laid 0 (head ++ body) b0 = laid_more 0 8 head body b0 b1 b2 (omega arith) e1 refl e2 in
      let three : b3 ≡ laid 0 ((head ++ body) ++ clear) b0 = laid_more 0 (length rows * 8 + 8) (head ++ body) clear b0 b2 b3 (omega arith) two (omega arith) e3 in
      laid_more 0 (63 * 8) ((head ++ body) ++ clear) (bytes_of (halves (last_pair ∷ []))) b0 b3 b4 (omega arith) three (omega arith) e4
      ∙ ap (λ (z : List ℕ). over z b0) (sym block-parts)
      ∙ sym (ap (λ t. if t then over (block_of kind number rows) b0 else b0) can)
