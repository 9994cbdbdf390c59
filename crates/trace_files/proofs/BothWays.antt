-- Reading what was written gives the rows, from every block on those from there; writing what was read from a block on gives the bytes from there on, and so from block 0 the file. Assumes nothing.
use Rattle.std.specs.Prelude.{ℕ, zero, suc, ◌+◌, ◌-◌, ◌*◌, ◌%◌, ◌^◌, ◌≤◌, ◌<◌, ◌≡◌, Bool, ◌||◌, List, [], ◌∷◌, map, length, take, drop, T, eqb}
use Rattle.std.proofs.Common.{sym, ap, subst, ◌∙◌, inl, inr, mul-add, mul-zero, mul-le-mul_left, zero-add, add-zero, arith, length-take, length-drop, length-append, take_all, get_or-take, get_or-drop}
use Rattle.std.proofs.Math.Nat.{one-le-mul, mul-sub, mul-mod_right, le_of_mul-le-mul_left}
use Rattle.std.proofs.Math.Decide.{dec_le}
use Rattle.std.proofs.Math.ListN.{get_or-eq_default}
use Rattle.std.specs.Float.Ieee.Bits.{is_true}
use Rattle.rules.specs.Base.{done, from}
use Rattle.rules.specs.Ends.{All, nil, all_append}
use Rattle.rules.specs.Decides.{tells, passes, same}
use Rattle.times.specs.Order.{or_split, or_l, or_r}
use Rattle.words.specs.Lists.{map-from}
use Rattle.trace_blocks.specs.declared.BlockKind.{BlockKind}
use Rattle.trace_blocks.specs.Blocks.{block_bytes, word_limit, is_kind, block_of, sum, count_in, rows_in}
use Rattle.trace_blocks.specs.WordLaws.{AreBytes}
use Rattle.trace_blocks.specs.BlockLaws.{kind-decides, Good, good-decides, rows_written, good-written, rows_long, rows-small, written-good}
use Rattle.trace_files.specs.Files.{pieces, full_of, part_of, joined, file_from, file_of, row_count, whole_rows, most_traced, write_trace, read, block_at, ends_file, is_good, blocks_in, read_trace}
use Rattle.trace_files.specs.PieceLaws.{piece_inside, pieces-all}
use Rattle.trace_files.specs.WriteTests.{whole-rows, file-long as bytes-written}
use Rattle.trace_files.specs.Cutting.{map-shift, cut-joined, Even, joined-part, joined-pieces, all_take}
use Rattle.trace_files.specs.KindLaws.{full-some}
use Rattle.trace_files.specs.FileLaws.{file-long, blocks-written, block-there, Traceable, rows-count, number-low, part-full, part-fills, part_small}
use Rattle.trace_files.specs.WriteLaws.{whole-count, whole-already, done-exactly}
use Rattle.trace_files.specs.ReadLaws.{count_to, rows_to, GoodTo, Whole}
use Rattle.trace_files.proofs.ReadLaws.{read-exactly}

pub or-rest : (a b : Bool) → T (a || b) → (T a → ⊥) → T b
or-rest a b t n = elim (or_split a b t) [ inl u ↦ absurd (n u) | inr u ↦ u ]

-- the numbers of some blocks' rows are as many as the blocks say
pub rows-counted : (kind : BlockKind) (file : List ℕ) (start stop : ℕ) → length (rows_to kind file start stop) ≡ kind.width * count_to file start stop
rows-counted kind file start stop = go (from start (stop - start))
  where
    go : (places : List ℕ) → length (joined (map (λ i. rows_in kind (block_at file i)) places)) ≡ kind.width * sum (map (λ i. count_in (block_at file i)) places)
    go [] = sym (mul-zero kind.width)
    go (i ∷ places) =
        let rest = go places in
        let e = mul-add kind.width (count_in (block_at file i)) (sum (map (λ i. count_in (block_at file i)) places)) in
        omega (arith, length-append (rows_in kind (block_at file i)) (joined (map (λ i. rows_in kind (block_at file i)) places)), rows_long kind (block_at file i))

-- ---- what was written, read from a block on
module _ (kind : BlockKind) (rows : List ℕ) (t : Traceable kind 0 rows) where
  block-at : (i : ℕ) → i < blocks_in (file_of kind rows) → block_at (file_of kind rows) i ≡ block_of kind i (part_of kind rows i)
  block-at i l = block-there kind 0 rows t.known i (omega (arith, blocks-written kind 0 rows t.known)) ∙ ap (λ (n : ℕ). block_of kind n (part_of kind rows i)) (zero-add i)

  block_inside : (i : ℕ) → i < blocks_in (file_of kind rows) → i < pieces (full_of kind) (length rows)
  block_inside i l = omega (arith, blocks-written kind 0 rows t.known)

  block-low : (i : ℕ) → i < blocks_in (file_of kind rows) → i < word_limit
  block-low i l = omega (arith, number-low kind 0 rows t i (block_inside i l))

  -- a block is full, or it ends the file
  ends-or-full : (i : ℕ) → i < blocks_in (file_of kind rows) → T (ends_file (file_of kind rows) i || eqb (length (part_of kind rows i)) (full_of kind))
  ends-or-full i l = elim (dec_le (suc (suc i)) (blocks_in (file_of kind rows))) [
    | yes m ↦ or_r (ends_file (file_of kind rows) i) (eqb (length (part_of kind rows i)) (full_of kind))
        (passes (same (length (part_of kind rows i)) (full_of kind)) (part-full kind rows t.known t.whole i (omega (arith, piece_inside (full_of kind) (length rows) (suc i) (full-some kind (is_true (is_kind kind) t.known)) (block_inside (suc i) m)))))
    | no m ↦ or_l (ends_file (file_of kind rows) i) (eqb (length (part_of kind rows i)) (full_of kind))
        (passes (same (block_bytes * suc i) (length (file_of kind rows))) (omega (arith, file-long kind 0 rows t.known, blocks-written kind 0 rows t.known)))
  ]

  good-at : (i : ℕ) → i < blocks_in (file_of kind rows) → T (is_good kind (file_of kind rows) i)
  good-at i l =
      rw (block-at i l)
      (good-written kind i (part_of kind rows i) t.known (part-fills kind rows t.known t.whole i (block_inside i l)) (block-low i l) t.mark (part_small kind 0 rows t i)
      (ends_file (file_of kind rows) i) (ends-or-full i l))

  rows_at : (i : ℕ) → i < blocks_in (file_of kind rows) → rows_in kind (block_at (file_of kind rows) i) ≡ part_of kind rows i
  rows_at i l =
      ap (rows_in kind) (block-at i l)
      ∙ rows_written kind i (part_of kind rows i) t.known (part-fills kind rows t.known t.whole i (block_inside i l)) (block-low i l) t.mark (part_small kind 0 rows t i)

  module _ (start room : ℕ) (inside : start ≤ pieces (full_of kind) (length rows)) where
    rows-there : rows_to kind (file_of kind rows) start (blocks_in (file_of kind rows)) ≡ drop (full_of kind * start) rows
    rows-there =
        let after = blocks_in (file_of kind rows) - start in
        let hold = pieces-all (full_of kind) (length rows) (full-some kind (is_true (is_kind kind) t.known)) in
        let e = blocks-written kind 0 rows t.known in
        let f = mul-sub (full_of kind) (blocks_in (file_of kind rows)) start in
        let g = ap (λ (n : ℕ). full_of kind * n) e in
        ap joined (map-from (λ i. rows_in kind (block_at (file_of kind rows) i)) (part_of kind rows) start after (λ i a b. rows_at i (omega arith)))
        ∙ cut-joined (full_of kind) rows start after
        ∙ take_all (full_of kind * after) (drop (full_of kind * start) rows) (omega (arith, length-drop (full_of kind * start) rows))

    pub read-written : length (drop (full_of kind * start) rows) ≤ kind.width * room → read_trace kind (file_of kind rows) start room ≡ read (drop (full_of kind * start) rows)
    read-written fits =
        let long = file-long kind 0 rows t.known in
        let counted = rows-counted kind (file_of kind rows) start (blocks_in (file_of kind rows)) in
        let same = ap length rows-there in
        (read-exactly kind (file_of kind rows) start room (drop (full_of kind * start) rows)).1 (
          omega arith,
          record {
            goods = λ i a b. good-at i b;
            fits = le_of_mul-le-mul_left {k = kind.width} (omega arith) (tells (kind-decides kind) t.known).wide;
            these = sym rows-there;
          },
        )

-- and of whatever a writer made a file of
pub rows-again : (kind : BlockKind) (rows file : List ℕ) (bytes start room : ℕ) → T (is_kind kind) → kind.mark < word_limit → All (λ n. n < 2 ^ 64) rows
    → write_trace kind rows 0 bytes ≡ done file → start ≤ blocks_in file → length (drop (full_of kind * start) (whole_rows kind rows)) ≤ kind.width * room
    → read_trace kind file start room ≡ read (drop (full_of kind * start) (whole_rows kind rows))
rows-again kind rows file bytes start room known mark small wrote inside fits =
    let says = (done-exactly kind rows 0 bytes file).0 wrote in
    let few = says.0.few in
    let blocks = ap blocks_in says.1 ∙ blocks-written kind 0 (whole_rows kind rows) known in
    ap (λ (z : List ℕ). read_trace kind z start room) says.1
    ∙ read-written kind (whole_rows kind rows)
    (record { known = known; mark = mark; whole = whole-rows kind (is_true (is_kind kind) known) rows; small = all_take (row_count kind (length rows) * kind.width) small; few = omega (arith, whole-count kind rows known) })
    start room (omega arith) fits

-- ---- parts of bytes
pub bytes-taken : (xs : List ℕ) (n : ℕ) → AreBytes xs → AreBytes (take n xs)
bytes-taken xs n bytes j = elim (dec_le (suc j) n) [
  | yes l ↦ rw (get_or-take n xs j 0 l) (bytes j)
  | no l ↦ (let e = get_or-eq_default (take n xs) 0 {n = j} (omega (arith, length-take n xs)) in omega arith)
]

pub bytes-at : (file : List ℕ) → AreBytes file → (i : ℕ) → AreBytes (block_at file i)
bytes-at file bytes i = bytes-taken (drop (block_bytes * i) file) block_bytes (λ j. rw (get_or-drop (block_bytes * i) file j 0) (bytes (block_bytes * i + j)))

-- ---- a file all of whose blocks are good, from a start on that is not past its end
module _ (kind : BlockKind) (file : List ℕ) (start : ℕ) (begins : block_bytes * start ≤ length file) (goods : GoodTo kind file start (blocks_in file)) where
  pub good-block : (i : ℕ) → start ≤ i → i < blocks_in file → Good kind i (ends_file file i) (block_at file i)
  good-block i a l = tells (good-decides kind i (ends_file file i) (block_at file i)) (goods i a l)

  -- its last block is whole
  pub whole-blocks : length file ≡ block_bytes * blocks_in file
  whole-blocks = go (blocks_in file) (pieces-all block_bytes (length file) (omega arith)) (λ i a l. (good-block i a l).long) (λ i l. piece_inside block_bytes (length file) i (omega arith) l)
    where
      go : (n : ℕ) → length file ≤ block_bytes * n → ((i : ℕ) → start ≤ i → i < n → length (block_at file i) ≡ block_bytes) → ((i : ℕ) → i < n → block_bytes * i < length file) → length file ≡ block_bytes * n
      go zero hold long above = omega arith
      go (suc n) hold long above = elim (dec_le start n) [
        | yes a ↦ omega (arith, long n a (omega arith), above n (omega arith), length-take block_bytes (drop (block_bytes * n) file), length-drop (block_bytes * n) file)
        | no a ↦ omega arith
      ]

  -- and those before it are full
  pub full-before : (i : ℕ) → start ≤ i → suc i < blocks_in file → count_in (block_at file i) ≡ kind.most
  full-before i a l =
      tells (same (count_in (block_at file i)) kind.most)
      (or-rest (ends_file file i) (eqb (count_in (block_at file i)) kind.most) (good-block i a (omega arith)).full
      (λ t. let e = tells (same (block_bytes * suc i) (length file)) t in omega (arith, whole-blocks)))

  module _ (known : T (is_kind kind)) where
    abbrev after : ℕ
    after = blocks_in file - start

    abbrev rows-from : List ℕ
    rows-from = rows_to kind file start (blocks_in file)

    rows-even : Even (full_of kind) (λ i. rows_in kind (block_at file i)) start after
    rows-even =
        record {
          full = λ i a b. rows_long kind (block_at file i) ∙ ap (λ (n : ℕ). kind.width * n) (full-before i a (omega arith));
          some = λ i a b. let l : i < blocks_in file = omega arith in
              omega (arith, rows_long kind (block_at file i), one-le-mul (tells (kind-decides kind) known).wide (good-block i a l).any);
          most = λ i a b. let l : i < blocks_in file = omega arith in
              omega (arith, rows_long kind (block_at file i), mul-le-mul_left kind.width (good-block i a l).fit);
        }

    blocks-read : pieces (full_of kind) (length rows-from) ≡ after
    blocks-read = joined-pieces (full_of kind) (λ i. rows_in kind (block_at file i)) start after (full-some kind (is_true (is_kind kind) known)) rows-even

    part-read : (i : ℕ) → i < after → part_of kind rows-from i ≡ rows_in kind (block_at file (start + i))
    part-read i l = joined-part (full_of kind) (λ i. rows_in kind (block_at file i)) start after i rows-even l

    bytes-again : AreBytes file → file_from kind start rows-from ≡ drop (block_bytes * start) file
    bytes-again bytes =
        ap (λ (n : ℕ). joined (map (λ i. block_of kind (start + i) (part_of kind rows-from i)) (from 0 n))) blocks-read
        ∙ ap joined (map-from (λ i. block_of kind (start + i) (part_of kind rows-from i)) (λ i. block_at file (start + i)) 0 after (λ i a b. same_block i (omega arith)) ∙ sym (map-shift (block_at file) start 0 after))
        ∙ ap (λ (k : ℕ). joined (map (block_at file) (from k after))) (add-zero start)
        ∙ cut-joined block_bytes file start after
        ∙ take_all (block_bytes * after) (drop (block_bytes * start) file) (omega (arith, whole-blocks, length-drop (block_bytes * start) file))
      where
        same_block : (i : ℕ) → i < after → block_of kind (start + i) (part_of kind rows-from i) ≡ block_at file (start + i)
        same_block i l =
            ap (block_of kind (start + i)) (part-read i l)
            ∙ written-good kind (start + i) (ends_file file (start + i)) (block_at file (start + i)) known (bytes-at file bytes (start + i)) (goods (start + i) (omega arith) (omega arith))

-- ---- what was read from a block on
module _ (kind : BlockKind) (file rows : List ℕ) (start room : ℕ) (reads : read_trace kind file start room ≡ read rows) where
  pub read-begins : block_bytes * start ≤ length file
  read-begins = ((read-exactly kind file start room rows).0 reads).0

  pub read_whole : Whole kind file start (blocks_in file) room rows
  read_whole = ((read-exactly kind file start room rows).0 reads).1

  module _ (known : T (is_kind kind)) where
    -- the rows of each block are those that the writer would put there
    pub rows-of-block : (i : ℕ) → i < blocks_in file - start → rows_in kind (block_at file (start + i)) ≡ part_of kind rows i
    rows-of-block i l = sym (ap (λ (z : List ℕ). part_of kind z i) read_whole.these ∙ part-read kind file start read-begins read_whole.goods known i l)

    -- and written again, numbered from there on, they give the bytes from there on
    pub again-from : AreBytes file → file_from kind start rows ≡ drop (block_bytes * start) file
    again-from bytes = ap (file_from kind start) read_whole.these ∙ bytes-again kind file start read-begins read_whole.goods known bytes

-- ---- all that is in a file, written again
module _ (kind : BlockKind) (file rows : List ℕ) (room : ℕ) (known : T (is_kind kind)) (bytes : AreBytes file) (reads : read_trace kind file 0 room ≡ read rows) where
  is_whole : Whole kind file 0 (blocks_in file) room rows
  is_whole = read_whole kind file rows 0 room reads

  pub file-again : file_of kind rows ≡ file
  file-again = again-from kind file rows 0 room reads known bytes

  -- they are rows that a writer takes
  pub read-traceable : kind.mark < word_limit → row_count kind (length rows) ≤ most_traced → Traceable kind 0 rows
  read-traceable mark few =
      record {
        known = known;
        mark = mark;
        whole = ap (λ (n : ℕ). n % kind.width) (ap length is_whole.these ∙ rows-counted kind file 0 (blocks_in file)) ∙ mul-mod_right kind.width (count_to file 0 (blocks_in file));
        small = subst (λ (z : List ℕ). All (λ n. n < 2 ^ 64) z) (sym is_whole.these) (all_small (from 0 (blocks_in file - 0)));
        few = omega (arith, mul-zero kind.most);
      }
    where
      all_small : (places : List ℕ) → All (λ n. n < 2 ^ 64) (joined (map (λ i. rows_in kind (block_at file i)) places))
      all_small [] = nil
      all_small (i ∷ places) = all_append (rows-small kind (block_at file i) (bytes-at file bytes i)) (all_small places)

  -- and gives the bytes, where there is room for them
  pub write_again : kind.mark < word_limit → row_count kind (length rows) ≤ most_traced → (lent : ℕ) → length file ≤ lent → write_trace kind rows 0 lent ≡ done file
  write_again mark few lent fits =
      let t = read-traceable mark few in
      let already = whole-already kind rows (rows-count kind rows known t.whole) in
      let file-is = sym file-again ∙ ap (file_from kind 0) (sym already) in
      (done-exactly kind rows 0 lent file).1 (record { few = t.few; fits = omega (arith, ap length file-is, bytes-written kind (is_true (is_kind kind) known) rows 0) }, file-is)
