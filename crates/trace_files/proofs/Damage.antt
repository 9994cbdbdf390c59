-- What a reader that starts at any block tells of a file that was good from there on and is damaged there: a changed word, a block left out before the last, doubled, swapped with another or put at another's place; a block cut short. The last blocks left out are another file, which no reader can tell. Assumes nothing.
use Rattle.std.specs.Prelude.{ℕ, suc, ◌+◌, ◌-◌, ◌*◌, ◌/◌, ◌%◌, ◌≤◌, ◌<◌, ◌≡◌, ◌≢◌, Bool, false, not, ◌||◌, List, ◌++◌, map, length, get_or, set, take, drop, T, eqb}
use Rattle.std.proofs.Common.{sym, ap, subst, ◌∙◌, inr, mul-zero, arith, length-take, length-drop, length-set, length-append, take-append-drop, length-take-le, take_at, drop_at, take-take, get_or-take, get_or-drop}
use Rattle.std.proofs.Math.Decide.{dec_le}
use Rattle.std.proofs.lemmas.List.{take-append-le, take-set-le, drop-set-add}
use Rattle.std.proofs.Math.Seq.{take-set-lt}
use Rattle.rules.specs.Base.{from}
use Rattle.rules.specs.Decides.{tells, passes, same, is_false}
use Rattle.times.specs.Order.{or_l, or_r}
use Rattle.words.specs.Lists.{map-from}
use Rattle.trace_blocks.specs.declared.BlockKind.{BlockKind}
use Rattle.trace_blocks.specs.Blocks.{block_bytes, is_kind, sum, count_in, word_at, is_block, rows_in}
use Rattle.trace_blocks.specs.WordLaws.{AreBytes}
use Rattle.trace_blocks.specs.BlockLaws.{Good, good-decides, one-word-found, changed-byte-found, other-number-found}
use Rattle.trace_files.specs.Files.{pieces, full_of, part_of, joined, file_from, read, bad_block, block_at, ends_file, is_good, blocks_in, read_trace}
use Rattle.trace_files.specs.PieceLaws.{piece_inside}
use Rattle.trace_files.specs.Cutting.{pieces-above, pieces-full, map-shift, cut-joined, drop-take}
use Rattle.trace_files.specs.ReadLaws.{count_to, rows_to, GoodTo, count-both}
use Rattle.trace_files.proofs.ReadLaws.{bad-exactly, read-exactly}
use Rattle.trace_files.proofs.BothWays.{or-rest, good-block, whole-blocks, full-before, read-begins, read_whole, rows-of-block, again-from, bytes-taken, bytes-at}

untrue : {b : Bool} → b ≡ false → T (not b)
untrue e = subst (λ (b : Bool). T (not b)) (sym e) tt

-- ---- a file whose bytes before block i are known has these blocks before it
block-taken : (file : List ℕ) (i k : ℕ) → k < i → block_at (take (block_bytes * i) file) k ≡ block_at file k
block-taken file i k l =
    let e : block_bytes * i ≡ block_bytes * k + block_bytes * (i - k) = omega arith in
    ap (λ (n : ℕ). take block_bytes (drop (block_bytes * k) (take n file))) e
    ∙ ap (take block_bytes) (drop-take (block_bytes * k) (block_bytes * (i - k)) file)
    ∙ take-take block_bytes (block_bytes * (i - k)) (drop (block_bytes * k) file) (omega arith)

same-before : (file other : List ℕ) (i k : ℕ) → take (block_bytes * i) other ≡ take (block_bytes * i) file → k < i → block_at other k ≡ block_at file k
same-before file other i k e l = sym (block-taken other i k l) ∙ ap (λ (z : List ℕ). block_at z k) e ∙ block-taken file i k l

module _ (kind : BlockKind) (file rows : List ℕ) (start room : ℕ) (reads : read_trace kind file start room ≡ read rows) where
  begins : block_bytes * start ≤ length file
  begins = read-begins kind file rows start room reads

  goods : GoodTo kind file start (blocks_in file)
  goods = (read_whole kind file rows start room reads).goods

  good-there : (i : ℕ) → start ≤ i → i < blocks_in file → Good kind i (ends_file file i) (block_at file i)
  good-there = good-block kind file start begins goods

  -- from the start to before block i, another file has this one's blocks
  abbrev pub Alike : (other : List ℕ) → (i : ℕ) → Type 0
  Alike other i = (k : ℕ) → start ≤ k → k < i → block_at other k ≡ block_at file k

  -- and they are full
  abbrev pub FullTo : (i : ℕ) → Type 0
  FullTo i = (k : ℕ) → start ≤ k → k < i → count_in (block_at file k) ≡ kind.most

  module _ (other : List ℕ) (i : ℕ) (behind : start ≤ i) (there : i ≤ blocks_in file) (alike : Alike other i) where
    -- a good block stays good, where it is full or ends that file
    still-good : (k : ℕ) → start ≤ k → k < i → T (ends_file other k || eqb (count_in (block_at file k)) kind.most) → T (is_good kind other k)
    still-good k a l full =
        let h = good-there k a (omega arith) in
        rw (alike k a l)
        (passes (good-decides kind k (ends_file other k) (block_at file k))
        (record { long = h.long; numbered = h.numbered; any = h.any; fit = h.fit; full = full; clear = h.clear; marked = h.marked; adds = h.adds }))

    still-fits : count_to other start i ≤ room
    still-fits =
        let count : List ℕ → ℕ → ℕ = λ z k. count_in (block_at z k) in
        let e = ap sum (map-from (count other) (count file) start (i - start) (λ k a l. ap count_in (alike k a (omega arith)))) in
        omega (arith, count-both file start i (blocks_in file) behind there, (read_whole kind file rows start room reads).fits)

    -- ---- the first block that is not good for its place is told, where those before it are full
    pub first-told : FullTo i → i < blocks_in other → T (not (is_good kind other i)) → read_trace kind other start room ≡ bad_block i
    first-told full inside bad =
        (bad-exactly kind other start room i).1
        (inr (record {
          behind = behind;
          inside = inside;
          goods = λ k a l. still-good k a l (or_r (ends_file other k) (eqb (count_in (block_at file k)) kind.most) (passes (same (count_in (block_at file k)) kind.most) (full k a l)));
          fits = still-fits;
          bad = bad;
        }))

  -- all before block i are full, where it is one of the file
  before-full : (i : ℕ) → i < blocks_in file → FullTo i
  before-full i l k a m = full-before kind file start begins goods k a (omega arith)

  reach : (i : ℕ) → i ≤ blocks_in file → block_bytes * i ≤ length file
  reach i l = omega (arith, whole-blocks kind file start begins goods)

  -- ---- at place i stands a block that is not good there, whatever comes behind it
  module _ (i : ℕ) (block rest : List ℕ) (behind : start ≤ i) (there : i ≤ blocks_in file) (long : length block ≡ block_bytes) where
    front_long : length (take (block_bytes * i) file) ≡ block_bytes * i
    front_long = length-take-le (block_bytes * i) file (reach i there)

    pub put-found : FullTo i → ((ends : Bool) → is_block kind i ends block ≡ false) → read_trace kind (take (block_bytes * i) file ++ (block ++ rest)) start room ≡ bad_block i
    put-found full bad =
        let other = take (block_bytes * i) file ++ (block ++ rest) in
        let here : block_at other i ≡ block = ap (take block_bytes) (drop_at (take (block_bytes * i) file) (block ++ rest) (block_bytes * i) front_long) ∙ take_at block rest block_bytes long in
        first-told other i behind there (λ k a l. same-before file other i k (take_at (take (block_bytes * i) file) (block ++ rest) (block_bytes * i) front_long) l) full
        (pieces-above block_bytes (length other) i (omega arith) (omega (arith, length-append (take (block_bytes * i) file) (block ++ rest), length-append block rest, front_long)))
        (untrue (ap (is_block kind i (ends_file other i)) here ∙ bad (ends_file other i)))

  -- ---- a good block of another number stands there, whatever comes behind it: so a copy of a block is found wherever it is not at its own place
  pub elsewhere-found : (other : List ℕ) (i j : ℕ) (ends : Bool) → start ≤ i → i ≤ blocks_in file → Alike other i → FullTo i
      → T (is_block kind j ends (block_at other i)) → j ≢ i → read_trace kind other start room ≡ bad_block i
  elsewhere-found other i j ends a l alike full good differ =
      let long = (tells (good-decides kind j ends (block_at other i)) good).long in
      first-told other i a l alike full
      (pieces-above block_bytes (length other) i (omega arith) (omega (arith, length-take block_bytes (drop (block_bytes * i) other), length-drop (block_bytes * i) other)))
      (untrue (other-number-found kind kind j i ends (ends_file other i) (block_at other i) good differ))

  -- another block of the file is one
  elsewhere : (i j : ℕ) → start ≤ j → j < blocks_in file → j ≢ i → (ends : Bool) → is_block kind i ends (block_at file j) ≡ false
  elsewhere i j a l differ ends = other-number-found kind kind j i (ends_file file j) ends (block_at file j) (goods j a l) differ

  -- ---- one word of block i is another: in one bit or in more
  pub changed-word-found : AreBytes file → (i : ℕ) (block : List ℕ) → start ≤ i → i < blocks_in file → length block ≡ block_bytes → AreBytes block
      → (w : ℕ) → w < 128 → ((k : ℕ) → k < 128 → k ≢ w → word_at (block_at file i) k ≡ word_at block k) → word_at (block_at file i) w ≢ word_at block w
      → read_trace kind (take (block_bytes * i) file ++ (block ++ drop (block_bytes * suc i) file)) start room ≡ bad_block i
  changed-word-found bytes i block a l long fine w m alike differ =
      put-found i block (drop (block_bytes * suc i) file) a (omega arith) long (before-full i l)
      (λ ends. one-word-found (block_at file i) block (bytes-at file bytes i) fine kind i (ends_file file i) (goods i a l) kind i ends w m alike differ)

  -- ---- one byte of the file is another: its block is told
  pub changed-found : AreBytes file → (p byte : ℕ) → start ≤ p / block_bytes → p < length file → byte < 256 → byte ≢ get_or file p 0 → read_trace kind (set file p byte) start room ≡ bad_block (p / block_bytes)
  changed-found bytes p byte a l small differ =
      first-told (set file p byte) i a (omega arith) (λ k _ m. same-before file (set file p byte) i k (take-set-le (block_bytes * i) file p byte (omega arith)) m) (before-full i inside)
      (pieces-above block_bytes (length (set file p byte)) i (omega arith) (omega (arith, length-set file p byte)))
      (untrue (ap (is_block kind i (ends_file (set file p byte) i)) here
      ∙ changed-byte-found (block_at file i) (bytes-at file bytes i) kind i (ends_file file i) (goods i a inside) kind i (ends_file (set file p byte) i) j byte (omega arith) small (λ e. differ (e ∙ there))))
    where
      i : ℕ
      i = p / block_bytes

      j : ℕ
      j = p % block_bytes

      place : p ≡ block_bytes * i + j
      place = omega arith

      inside : i < blocks_in file
      inside = pieces-above block_bytes (length file) i (omega arith) (omega arith)

      there : get_or (block_at file i) j 0 ≡ get_or file p 0
      there = get_or-take block_bytes (drop (block_bytes * i) file) j 0 (omega arith) ∙ get_or-drop (block_bytes * i) file j 0 ∙ ap (λ (n : ℕ). get_or file n 0) (sym place)

      here : block_at (set file p byte) i ≡ set (block_at file i) j byte
      here =
          ap (λ (n : ℕ). take block_bytes (drop (block_bytes * i) (set file n byte))) place
          ∙ ap (take block_bytes) (drop-set-add (block_bytes * i) file j byte)
          ∙ take-set-lt block_bytes (drop (block_bytes * i) file) j byte (omega arith)

  -- ---- block i is left out, and is not the last
  pub left-out-found : (i : ℕ) → start ≤ i → suc i < blocks_in file → read_trace kind (take (block_bytes * i) file ++ drop (block_bytes * suc i) file) start room ≡ bad_block i
  left-out-found i a l =
      let after = drop (block_bytes * suc i) file in
      ap (λ (z : List ℕ). read_trace kind (take (block_bytes * i) file ++ z) start room) (sym (take-append-drop block_bytes after))
      ∙ put-found i (block_at file (suc i)) (drop block_bytes after) a (omega arith) (good-there (suc i) (omega arith) l).long (before-full i (omega arith)) (elsewhere i (suc i) (omega arith) l (omega arith))

  -- ---- block i stands twice: the second is told, by its number; but where it is not full, which only the last is, the first, since it no longer ends the file
  pub doubled-found : (i : ℕ) → start ≤ i → i < blocks_in file → count_in (block_at file i) ≡ kind.most → read_trace kind (take (block_bytes * suc i) file ++ drop (block_bytes * i) file) start room ≡ bad_block (suc i)
  doubled-found i a l full =
      let after = drop (block_bytes * i) file in
      ap (λ (z : List ℕ). read_trace kind (take (block_bytes * suc i) file ++ z) start room) (sym (take-append-drop block_bytes after))
      ∙ put-found (suc i) (block_at file i) (drop block_bytes after) (omega arith) l (good-there i a l).long
      (λ k b m. elim (dec_le (suc k) i) [
        | yes h ↦ before-full i l k b h
        | no h ↦ (let e : i ≡ k = omega arith in subst (λ (n : ℕ). count_in (block_at file n) ≡ kind.most) e full)
      ])
      (elsewhere (suc i) i a l (omega arith))

  pub doubled-last-found : (i : ℕ) → start ≤ i → i < blocks_in file → count_in (block_at file i) ≢ kind.most → read_trace kind (take (block_bytes * suc i) file ++ drop (block_bytes * i) file) start room ≡ bad_block i
  doubled-last-found i a l few =
      first-told other i a (omega arith) (λ k _ m. same-before file other i k alike m) (before-full i l) (pieces-above block_bytes (length other) i (omega arith) (omega (arith, other-long)))
      (untrue (is_false (good-decides kind i (ends_file other i) (block_at other i)) (λ h. few (sym (ap count_in here) ∙ tells (same (count_in (block_at other i)) kind.most) (or-rest (ends_file other i) (eqb (count_in (block_at other i)) kind.most) h.full goes_on)))))
    where
      front : List ℕ
      front = take (block_bytes * suc i) file

      after : List ℕ
      after = drop (block_bytes * i) file

      other : List ℕ
      other = front ++ after

      front-is : length front ≡ block_bytes * suc i
      front-is = length-take-le (block_bytes * suc i) file (reach (suc i) l)

      other-long : length other ≡ block_bytes * suc i + (length file - block_bytes * i)
      other-long = omega (arith, length-append front after, front-is, length-drop (block_bytes * i) file)

      alike : take (block_bytes * i) other ≡ take (block_bytes * i) file
      alike = take-append-le (block_bytes * i) front after (omega (arith, front-is)) ∙ take-take (block_bytes * i) (block_bytes * suc i) file (omega arith)

      here : block_at other i ≡ block_at file i
      here = same-before file other (suc i) i (take_at front after (block_bytes * suc i) front-is) (omega arith)

      goes_on : T (ends_file other i) → ⊥
      goes_on t = let e = tells (same (block_bytes * suc i) (length other)) t in omega (arith, other-long, piece_inside block_bytes (length file) i (omega arith) l)

  -- ---- two blocks are swapped: the first of them is told
  pub swapped-found : (i j : ℕ) → start ≤ i → i < j → j < blocks_in file
      → read_trace kind (take (block_bytes * i) file ++ (block_at file j ++ (take (block_bytes * (j - suc i)) (drop (block_bytes * suc i) file) ++ (block_at file i ++ drop (block_bytes * suc j) file)))) start room ≡ bad_block i
  swapped-found i j a m l =
      put-found i (block_at file j) (take (block_bytes * (j - suc i)) (drop (block_bytes * suc i) file) ++ (block_at file i ++ drop (block_bytes * suc j) file)) a (omega arith)
      (good-there j (omega arith) l).long (before-full i (omega arith)) (elsewhere i j (omega arith) l (omega arith))

  -- ---- the file ends within block i
  pub torn-found : (i p : ℕ) → start ≤ i → i < blocks_in file → block_bytes * i < p → p < block_bytes * suc i → read_trace kind (take p file) start room ≡ bad_block i
  torn-found i p s l a b =
      let long = length-take-le p file (omega (arith, reach (suc i) l)) in
      first-told (take p file) i s (omega arith) (λ k _ m. same-before file (take p file) i k (take-take (block_bytes * i) p file (omega arith)) m) (before-full i l)
      (pieces-above block_bytes (length (take p file)) i (omega arith) (omega arith))
      (untrue (is_false (good-decides kind i (ends_file (take p file) i) (block_at (take p file) i))
      (λ h. let e = h.long in omega (arith, length-take block_bytes (drop (block_bytes * i) (take p file)), length-drop (block_bytes * i) (take p file)))))

  -- ---- but the first m blocks are a file: that of the first rows
  module _ (known : T (is_kind kind)) (m : ℕ) (behind : start ≤ m) (l : m ≤ blocks_in file) where
    abbrev other : List ℕ
    other = take (block_bytes * m) file

    abbrev some : List ℕ
    some = take (full_of kind * (m - start)) rows

    other-long : length other ≡ block_bytes * m
    other-long = length-take-le (block_bytes * m) file (reach m l)

    blocks : blocks_in other ≡ m
    blocks = ap (pieces block_bytes) other-long ∙ pieces-full block_bytes m (omega arith)

    alike : Alike other m
    alike k a h = same-before file other m k (take-take (block_bytes * m) (block_bytes * m) file (omega arith)) h

    ends-or-full : (k : ℕ) → start ≤ k → k < m → T (ends_file other k || eqb (count_in (block_at file k)) kind.most)
    ends-or-full k a h = elim (dec_le (suc (suc k)) m) [
      | yes n ↦ or_r (ends_file other k) (eqb (count_in (block_at file k)) kind.most) (passes (same (count_in (block_at file k)) kind.most) (full-before kind file start begins goods k a (omega arith)))
      | no n ↦ or_l (ends_file other k) (eqb (count_in (block_at file k)) kind.most) (passes (same (block_bytes * suc k) (length other)) (omega (arith, other-long)))
    ]

    rows_are : rows_to kind other start (blocks_in other) ≡ some
    rows_are =
        let e : blocks_in other - start ≡ m - start = omega (arith, blocks) in
        let from_start : start ≡ start + 0 = omega arith in
        ap (λ (n : ℕ). joined (map (λ k. rows_in kind (block_at other k)) (from start n))) e
        ∙ ap (λ (j : ℕ). joined (map (λ k. rows_in kind (block_at other k)) (from j (m - start)))) from_start
        ∙ ap joined (map-shift (λ k. rows_in kind (block_at other k)) start 0 (m - start)
        ∙ map-from (λ k. rows_in kind (block_at other (start + k))) (part_of kind rows) 0 (m - start)
        (λ k a b. ap (rows_in kind) (alike (start + k) (omega arith) (omega arith)) ∙ rows-of-block kind file rows start room reads known k (omega arith)))
        ∙ cut-joined (full_of kind) rows 0 (m - start)
        ∙ ap (λ (n : ℕ). take (full_of kind * (m - start)) (drop n rows)) (mul-zero (full_of kind))

    pub shorter-reads : read_trace kind (take (block_bytes * m) file) start room ≡ read (take (full_of kind * (m - start)) rows)
    shorter-reads =
        (read-exactly kind other start room some).1 (
          omega (arith, other-long),
          record {
            goods = λ k a b. let h : k < m = omega (arith, blocks) in still-good other m behind l alike k a h (ends-or-full k a h);
            fits = subst (λ (n : ℕ). count_to other start n ≤ room) (sym blocks) (still-fits other m behind l alike);
            these = sym rows_are;
          },
        )

    pub shorter-file : AreBytes file → file_from kind start (take (full_of kind * (m - start)) rows) ≡ drop (block_bytes * start) (take (block_bytes * m) file)
    shorter-file bytes = again-from kind other some start room shorter-reads known (bytes-taken file (block_bytes * m) bytes)
