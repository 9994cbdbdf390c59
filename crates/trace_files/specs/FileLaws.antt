-- The file of rows: how long it is, its blocks one by one, and that writing in parts gives the file of the whole. Assumes nothing.
use Rattle.std.specs.Prelude.{ℕ, zero, suc, ◌+◌, ◌-◌, ◌*◌, ◌/◌, ◌%◌, ◌^◌, ◌≤◌, ◌<◌, ◌≡◌, List, [], ◌∷◌, ◌++◌, map, length, take, drop, T}
use Rattle.std.proofs.Common.{sym, ◌∙◌, append-nil, mul_assoc, mul-add, mul-suc, mul_comm, mul-le-mul_left, le-mul_of_pos_right, zero-add, add_assoc, arith, length-drop, length-append, take_all}
use Rattle.std.proofs.Math.Path.{ap}
use Rattle.std.proofs.Math.Nat.{div-add-mod, mul-sub, mul-mod_right, lt_of_mul-lt-mul_left}
use Rattle.std.proofs.Math.Decide.{dec_le}
use Rattle.std.proofs.Math.ListN.{length-take}
use Rattle.std.proofs.lemmas.List.{take-append-le, drop-append-le}
use Rattle.std.proofs.Math.Seq.{drop-append-add}
use Rattle.std.specs.Float.Ieee.Bits.{is_true}
use Rattle.rules.specs.Base.{from}
use Rattle.rules.specs.Ends.{All}
use Rattle.rules.specs.Decides.{tells, passes}
use Rattle.words.specs.Lists.{part_length, map-from}
use Rattle.trace_blocks.specs.declared.BlockKind.{BlockKind}
use Rattle.trace_blocks.specs.Blocks.{block_bytes, word_limit, is_kind, block_of, fills_block}
use Rattle.trace_blocks.specs.WordLaws.{AreBytes}
use Rattle.trace_blocks.specs.BlockLaws.{kind-decides, fills-decides, block-long, block-bytes}
use Rattle.trace_files.specs.Files.{pieces, full_of, part_of, joined, file_from, row_count, most_traced, block_at, blocks_in}
use Rattle.trace_files.specs.PieceLaws.{piece_inside}
use Rattle.trace_files.specs.KindLaws.{full-some}
use Rattle.trace_files.specs.WriteLoop.{blocks-long}
use Rattle.trace_files.specs.Cutting.{pieces-only, pieces-both, pieces-full, joined-both, even-same, joined-part, all_take, all_drop}

-- ---- the file of any rows, block by block
module _ (kind : BlockKind) (start : ℕ) (rows : List ℕ) (known : T (is_kind kind)) where
  block-of : ℕ → List ℕ
  block-of i = block_of kind (start + i) (part_of kind rows i)

  each_long : (i : ℕ) → 0 ≤ i → i < 0 + pieces (full_of kind) (length rows) → length (block-of i) ≡ block_bytes
  unfolding block-of
  each_long i a l = block-long kind (start + i) (part_of kind rows i) known (omega (arith, length-take (full_of kind) (drop (full_of kind * i) rows)))

  pub file-long : length (file_from kind start rows) ≡ block_bytes * pieces (full_of kind) (length rows)
  file-long = blocks-long kind start rows (is_true (is_kind kind) known) (pieces (full_of kind) (length rows))

  pub blocks-written : blocks_in (file_from kind start rows) ≡ pieces (full_of kind) (length rows)
  blocks-written = ap (pieces block_bytes) file-long ∙ pieces-full block_bytes (pieces (full_of kind) (length rows)) (omega arith)

  pub block-there : (i : ℕ) → i < pieces (full_of kind) (length rows) → block_at (file_from kind start rows) i ≡ block_of kind (start + i) (part_of kind rows i)
  unfolding block-of
  block-there i l =
      let blocks = pieces (full_of kind) (length rows) in
      joined-part block_bytes block-of 0 blocks i (even-same block_bytes block-of 0 blocks (omega arith) each_long) l
      ∙ ap block-of (zero-add i)

-- it is bytes
bytes-append : (xs ys : List ℕ) → AreBytes xs → AreBytes ys → AreBytes (xs ++ ys)
bytes-append [] ys p q i = q i
bytes-append (x ∷ xs) ys p q zero = p 0
bytes-append (x ∷ xs) ys p q (suc i) = bytes-append xs ys (λ j. p (suc j)) q i

pub file-bytes : (kind : BlockKind) (start : ℕ) (rows : List ℕ) → AreBytes (file_from kind start rows)
file-bytes kind start rows = go (from 0 (pieces (full_of kind) (length rows)))
  where
    go : (places : List ℕ) → AreBytes (joined (map (λ i. block_of kind (start + i) (part_of kind rows i)) places))
    go [] = λ i. omega arith
    go (k ∷ places) =
        bytes-append (block_of kind (start + k) (part_of kind rows k)) (joined (map (λ i. block_of kind (start + i) (part_of kind rows i)) places)) (block-bytes kind (start + k) (part_of kind rows k)) (go places)

-- ---- whole rows
module _ (kind : BlockKind) (rows : List ℕ) (known : T (is_kind kind)) (whole : length rows % kind.width ≡ 0) where
  pub rows-count : length rows ≡ kind.width * row_count kind (length rows)
  rows-count = omega (arith, div-add-mod (length rows) kind.width, whole)

  before-block : (i : ℕ) → i < pieces (full_of kind) (length rows) → kind.most * i < row_count kind (length rows)
  before-block i l =
      let h = piece_inside (full_of kind) (length rows) i (full-some kind (is_true (is_kind kind) known)) l in
      lt_of_mul-lt-mul_left kind.width (omega (arith, mul_assoc kind.width kind.most i, rows-count))

  -- ---- the numbers of one block
  pub part-full : (i : ℕ) → full_of kind * suc i ≤ length rows → length (part_of kind rows i) ≡ full_of kind
  part-full i l = part_length (full_of kind * i) (full_of kind) rows (omega (arith, mul-suc (full_of kind) i))

  pub part-rest : (i : ℕ) → length rows ≤ full_of kind * suc i → part_of kind rows i ≡ drop (full_of kind * i) rows
  part-rest i l = take_all (full_of kind) (drop (full_of kind * i) rows) (omega (arith, length-drop (full_of kind * i) rows, mul-suc (full_of kind) i))

  rest-long : (i : ℕ) → length rows ≤ full_of kind * suc i → length (part_of kind rows i) ≡ kind.width * (row_count kind (length rows) - kind.most * i)
  rest-long i l =
      let e = mul-sub kind.width (row_count kind (length rows)) (kind.most * i) in
      ap length (part-rest i l) ∙ omega (arith, length-drop (full_of kind * i) rows, rows-count, mul_assoc kind.width kind.most i)

  pub part-fills : (i : ℕ) → i < pieces (full_of kind) (length rows) → T (fills_block kind (length (part_of kind rows i)))
  part-fills i l =
      let some = full-some kind (is_true (is_kind kind) known) in
      let above = piece_inside (full_of kind) (length rows) i some l in
      elim (dec_le (full_of kind * suc i) (length rows)) [
        | yes m ↦ (let e = part-full i m in
            passes (fills-decides kind (length (part_of kind rows i))) (record { any = omega arith; whole = rw e (mul-mod_right kind.width kind.most); fit = omega arith }))
        | no m ↦ (let r = rest-long i (omega arith) in
            let e = ap length (part-rest i (omega arith)) in
            let d = length-drop (full_of kind * i) rows in
            passes (fills-decides kind (length (part_of kind rows i)))
            (record {
              any = omega arith;
              whole = rw r (mul-mod_right kind.width (row_count kind (length rows) - kind.most * i));
              fit = omega (arith, mul-suc (full_of kind) i);
            }))
      ]

-- ---- what a writer takes: whole rows of numbers of 64 bits, no more of them than a trace has, those before `start` counted
pub record Traceable (kind : BlockKind) (start : ℕ) (rows : List ℕ) : Type 0 where
  pub known : T (is_kind kind)
  pub mark : kind.mark < word_limit
  pub whole : length rows % kind.width ≡ 0
  pub small : All (λ n. n < 2 ^ 64) rows
  pub few : kind.most * start + row_count kind (length rows) ≤ most_traced

module _ (kind : BlockKind) (start : ℕ) (rows : List ℕ) (t : Traceable kind start rows) where
  pub number-low : (i : ℕ) → i < pieces (full_of kind) (length rows) → start + i < word_limit
  number-low i l =
      let is = tells (kind-decides kind) t.known in
      let a = le-mul_of_pos_right (start + i) is.some-rows in
      omega (arith, before-block kind rows t.known t.whole i l, mul_comm (start + i) kind.most, mul-add kind.most start i, t.few)

  pub part_small : (i : ℕ) → All (λ n. n < 2 ^ 64) (part_of kind rows i)
  part_small i = all_take (full_of kind) (all_drop (full_of kind * i) t.small)

-- ---- rows of full blocks
pub first-blocks : (kind : BlockKind) → T (is_kind kind) → (a : List ℕ) → length a % full_of kind ≡ 0 → length a ≡ full_of kind * pieces (full_of kind) (length a)
first-blocks kind known a whole =
    let long : length a ≡ full_of kind * (length a / full_of kind) = omega (arith, div-add-mod (length a) (full_of kind)) in
    long ∙ ap (λ (n : ℕ). full_of kind * n) (sym (ap (pieces (full_of kind)) long ∙ pieces-full (full_of kind) (length a / full_of kind) (full-some kind (is_true (is_kind kind) known))))

-- ---- writing in parts: where the first is of full blocks, its file and then the file of the second, numbered from there on, are that of both
module _ (kind : BlockKind) (known : T (is_kind kind)) (a b : List ℕ) (whole : length a % full_of kind ≡ 0) where
  abbrev blocks : ℕ
  blocks = pieces (full_of kind) (length a)

  long : length a ≡ full_of kind * blocks
  long = first-blocks kind known a whole

  both-pieces : pieces (full_of kind) (length (a ++ b)) ≡ blocks + pieces (full_of kind) (length b)
  both-pieces =
      ap (pieces (full_of kind)) (length-append a b ∙ ap (λ (n : ℕ). n + length b) long)
      ∙ pieces-both (full_of kind) blocks (length b) (full-some kind (is_true (is_kind kind) known))

  part-first : (i : ℕ) → i < blocks → part_of kind (a ++ b) i ≡ part_of kind a i
  part-first i l =
      let h = mul-le-mul_left (full_of kind) l in
      let e = mul-suc (full_of kind) i in
      ap (take (full_of kind)) (drop-append-le (full_of kind * i) a b (omega (arith, long)))
      ∙ take-append-le (full_of kind) (drop (full_of kind * i) a) b (omega (arith, long, length-drop (full_of kind * i) a))

  part-second : (i : ℕ) → part_of kind (a ++ b) (blocks + i) ≡ part_of kind b i
  part-second i =
      let e : full_of kind * (blocks + i) ≡ length a + full_of kind * i = mul-add (full_of kind) blocks i ∙ ap (λ (n : ℕ). n + full_of kind * i) (sym long) in
      ap (take (full_of kind)) (ap (λ (n : ℕ). drop n (a ++ b)) e ∙ drop-append-add a b (full_of kind * i))

  pub parts-together : (start : ℕ) → file_from kind start (a ++ b) ≡ file_from kind start a ++ file_from kind (start + pieces (full_of kind) (length a)) b
  parts-together start =
      let both : ℕ → List ℕ = λ i. block_of kind (start + i) (part_of kind (a ++ b) i) in
      let first : ℕ → List ℕ = λ i. block_of kind (start + i) (part_of kind a i) in
      let second : ℕ → List ℕ = λ i. block_of kind (start + blocks + i) (part_of kind b i) in
      let after = pieces (full_of kind) (length b) in
      ap (λ (n : ℕ). joined (map both (from 0 n))) both-pieces
      ∙ joined-both both blocks after
      ∙ ap (λ (z : List (List ℕ)). joined z ++ joined (map (λ i. both (blocks + i)) (from 0 after)))
      (map-from both first 0 blocks (λ j u v. ap (block_of kind (start + j)) (part-first j (omega arith))))
      ∙ ap (λ (z : List (List ℕ)). joined (map first (from 0 blocks)) ++ joined z)
      (map-from (λ i. both (blocks + i)) second 0 after
      (λ j u v. ap (λ (z : List ℕ). block_of kind (start + (blocks + j)) z) (part-second j) ∙ ap (λ (n : ℕ). block_of kind n (part_of kind b j)) (sym (add_assoc start blocks j))))

-- and so for a list of parts, each of which but the last is of full blocks
abbrev pub parts_from : BlockKind → (start : ℕ) → List (List ℕ) → List ℕ
parts_from kind start [] = []
parts_from kind start (a ∷ rest) = file_from kind start a ++ parts_from kind (start + pieces (full_of kind) (length a)) rest

pub data Parts (kind : BlockKind) : List (List ℕ) → Type 0 where
  none : Parts kind []
  last : {a : List ℕ} → Parts kind (a ∷ [])
  more : {a : List ℕ} {rest : List (List ℕ)} → length a % full_of kind ≡ 0 → Parts kind rest → Parts kind (a ∷ rest)

pub file-in-parts : (kind : BlockKind) (start : ℕ) {all : List (List ℕ)} → T (is_kind kind) → Parts kind all → parts_from kind start all ≡ file_from kind start (joined all)
file-in-parts kind start known none = sym (ap (λ (n : ℕ). joined (map (λ i. block_of kind (start + i) (part_of kind [] i)) (from 0 n))) (pieces-only (full_of kind) 0 0 (full-some kind (is_true (is_kind kind) known)) (λ i l. absurd (omega arith)) (omega arith)))
file-in-parts kind start known (last {a = a}) = append-nil (file_from kind start a) ∙ ap (file_from kind start) (sym (append-nil a))
file-in-parts kind start known (more {a = a} {rest = rest} whole p) =
    ap (λ (z : List ℕ). file_from kind start a ++ z) (file-in-parts kind (start + pieces (full_of kind) (length a)) known p)
    ∙ sym (parts-together kind known a (joined rest) whole start)
