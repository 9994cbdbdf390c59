-- A reader block by block: what is left of a file from block i on, by the test of that block; what the loop that judges and the one that lays the rows keep. Assumes nothing.
use Prim.Native.Nat.{ℕ, suc, ◌+◌, ◌-◌, ◌*◌, ◌/◌, ◌≤◌, ◌<◌}
use Rattle.std.proofs.Math.Path.{◌≡◌, refl, ap}
use Rattle.std.proofs.Common.{sym, subst, ◌∙◌, append-nil, append_assoc, zero-add, mul-le-mul_left, add-one, length-append, length-take, length-drop}
use Rattle.std.specs.Prelude.{Bool, List, [], ◌∷◌, ◌++◌, length, take, drop, T, leb, eqb, if◌then◌else◌, Option, Some, None, Ok, Err}
use Rattle.std.proofs.Math.Bool.{true, false}
use Rattle.std.proofs.Math.Nat.{sub-zero, zero-div, mul-add-div, mul-div-le}
use native.Mathlib.Omega.{arith}
use borrow.Author.Tests.{le-leb, lt-leb, leb-true, eq-eqb, ne_eqb, eqb-true, eqb-false}
use borrow.Rule.Slice.PartMut.{put_mid}
use Rattle.rules.specs.Base.{hold}
use Rattle.rules.specs.Decides.{tells, is_false}
use Rattle.words.specs.Lists.{part_length}
use Rattle.words.specs.Laying.{over, laid, laid_more, laid-long}
use Rattle.trace_blocks.specs.declared.BlockKind.{BlockKind}
use Rattle.trace_blocks.specs.Blocks.{is_kind, count_in, judged, numbers_in, rows_in}
use Rattle.trace_blocks.specs.Pairs.{numbers_out, count_out}
use Rattle.trace_blocks.specs.BlockLaws.{good-decides, rows_long, kind-is}
use Rattle.trace_files.specs.declared.ReadError.TheVariants.{BadBlock, NoRoom}
use Rattle.trace_files.specs.Files.{Reading, read, bad_block, no_room, block_at, ends_file, is_good, before, read_blocks, blocks_in, rows_after}
use Rattle.trace_files.specs.Answers.{Read, is_read, read_is}

same_test : (a b m n : ℕ) → (a ≡ b → m ≡ n) → (m ≡ n → a ≡ b) → eqb a b ≡ eqb m n
same_test a b m n f g = go (eqb m n) refl
  where
    go : (t : Bool) → eqb m n ≡ t → eqb a b ≡ t
    go true e = eq-eqb a b (g (eqb-true m n e))
    go false e = ne_eqb a b (λ h. eqb-false m n e (f h))

-- ---- so many rows before an answer
abbrev pub more_rows : ℕ → Read → Read
more_rows n (Ok m) = Ok (n + m)
more_rows n (Err e) = Err e

none_more : (r : Read) → more_rows 0 r ≡ r
none_more (Ok m) = ap Ok (zero-add m)
none_more (Err e) = refl

more-more : (m n : ℕ) (r : Read) → more_rows m (more_rows n r) ≡ more_rows (m + n) r
more-more m n (Ok k) = let e : m + (n + k) ≡ m + n + k = omega arith in ap Ok e
more-more m n (Err e) = refl

-- ---- numbers before what is read
before-none : (r : Reading) → before [] r ≡ r
before-none (read more) = refl
before-none (bad_block i) = refl
before-none no_room = refl

before-both : (xs ys : List ℕ) (r : Reading) → before xs (before ys r) ≡ before (xs ++ ys) r
before-both xs ys (read more) = ap read (sym (append_assoc xs ys more))
before-both xs ys (bad_block i) = refl
before-both xs ys no_room = refl

before-read : (xs : List ℕ) (r : Reading) → is_read (before xs r) ≡ is_read r
before-read xs (read more) = refl
before-read xs (bad_block i) = refl
before-read xs no_room = refl

-- a block's rows before an answer are so many rows
rows_before : (kind : BlockKind) → is_kind kind ≡ true → (b : List ℕ) (r : Reading) → read_is kind (before (rows_in kind b) r) ≡ more_rows (count_in b) (read_is kind r)
rows_before kind k b (read more) =
    ap Ok (ap (λ (n : ℕ). n / kind.width) (length-append (rows_in kind b) more ∙ ap (λ (n : ℕ). n + length more) (rows_long kind b)) ∙ mul-add-div (kind-is kind k).wide (count_in b) (length more))
rows_before kind k b (bad_block i) = refl
rows_before kind k b no_room = refl

module _ (kind : BlockKind) (file : List ℕ) where
  -- ---- what is left from block i on
  abbrev pub rest : (i room : ℕ) → Reading
  rest i room = read_blocks kind file (blocks_in file - i) i room

  abbrev turn : (i room : ℕ) → Reading
  turn i room =
      if is_good kind file i
      then (if leb (count_in (block_at file i)) room then before (rows_in kind (block_at file i)) (rest (i + 1) (room - count_in (block_at file i))) else no_room)
      else bad_block i

  rest-next : (i room : ℕ) → i < blocks_in file → rest i room ≡ turn i room
  unfolding read_blocks
  rest-next i room l =
      let n : blocks_in file - i ≡ suc (blocks_in file - (i + 1)) = omega arith in
      ap (λ (j : ℕ). read_blocks kind file j i room) n ∙ rw (add-one i)

  rest-none : (i room : ℕ) → blocks_in file ≤ i → rest i room ≡ read []
  unfolding read_blocks
  rest-none i room l =
      let n : blocks_in file - i ≡ 0 = omega arith in
      ap (λ (j : ℕ). read_blocks kind file j i room) n

  rest-bad : (i room : ℕ) → i < blocks_in file → is_good kind file i ≡ false → rest i room ≡ bad_block i
  rest-bad i room l b = rest-next i room l ∙ rw b

  rest-full : (i room : ℕ) → i < blocks_in file → is_good kind file i ≡ true → room < count_in (block_at file i) → rest i room ≡ no_room
  rest-full i room l g m = rest-next i room l ∙ rw (g, lt-leb (count_in (block_at file i)) room m)

  rest-good : (i room : ℕ) → i < blocks_in file → is_good kind file i ≡ true → count_in (block_at file i) ≤ room → rest i room ≡ before (rows_in kind (block_at file i)) (rest (i + 1) (room - count_in (block_at file i)))
  rest-good i room l g m = rest-next i room l ∙ rw (g, le-leb (count_in (block_at file i)) room m)

  -- ---- block i as the code has it: lent from its first byte to its last, and told whether it ends the file
  abbrev lent : ℕ → List ℕ
  lent i = take (512 * i + 512 - 512 * i) (drop (512 * i) file)

  lent_is : (i : ℕ) → lent i ≡ block_at file i
  lent_is i = let n : 512 * i + 512 - 512 * i ≡ 512 = omega arith in ap (λ (j : ℕ). take j (drop (512 * i) file)) n

  lent-long : (i : ℕ) → 512 * i + 512 ≤ length file → length (lent i) ≡ 512
  lent-long i l = part_length (512 * i) (512 * i + 512 - 512 * i) file (omega arith) ∙ omega arith

  ends_is : (i : ℕ) → 512 ≤ length file - 512 * i → eqb (length file - 512 * i) 512 ≡ ends_file file i
  ends_is i l = same_test (length file - 512 * i) 512 (512 * suc i) (length file) (λ e. omega arith) (λ e. omega arith)

  judged-is : (i : ℕ) → 512 ≤ length file - 512 * i → judged kind i (eqb (length file - 512 * i) 512) (lent i) ≡ judged kind i (ends_file file i) (block_at file i)
  judged-is i l = λ j. judged kind i (ends_is i l j) (lent_is i j)

  cut-bad : (i : ℕ) → length file - 512 * i < 512 → is_good kind file i ≡ false
  cut-bad i l =
      is_false
      (good-decides kind i (ends_file file i) (block_at file i))
      (λ g. let h = length-take 512 (drop (512 * i) file) in let d = length-drop (512 * i) file in omega (arith, g.long))

  told-rows : (i n : ℕ) → judged kind i (ends_file file i) (block_at file i) ≡ Some n → (is_good kind file i ≡ true) × (n ≡ count_in (block_at file i))
  unfolding judged
  told-rows i n e = go (is_kind kind) (is_good kind file i) e
    where
      go : (a b : Bool) → (if hold (a ∷ b ∷ []) then Some (count_in (block_at file i)) else None) ≡ Some n → (b ≡ true) × (n ≡ count_in (block_at file i))
      go true true e = (refl, cc)
      go true false e = let z : ◌≡◌ {A = ℕ} 0 1 = cc in absurd (omega arith)
      go false b e = let z : ◌≡◌ {A = ℕ} 0 1 = cc in absurd (omega arith)

  told-bad : (i : ℕ) → is_kind kind ≡ true → judged kind i (ends_file file i) (block_at file i) ≡ None → is_good kind file i ≡ false
  unfolding judged
  told-bad i k e = go (is_kind kind) (is_good kind file i) k e
    where
      go : (a b : Bool) → a ≡ true → (if hold (a ∷ b ∷ []) then Some (count_in (block_at file i)) else None) ≡ None → b ≡ false
      go true true k e = let z : ◌≡◌ {A = ℕ} 0 1 = cc in absurd (omega arith)
      go true false k e = refl
      go false b k e = let z : ◌≡◌ {A = ℕ} 0 1 = cc in absurd (omega arith)

  -- ---- judging: the rows so far, and before which answer they stand
  pub record Judging (start room i rows : ℕ) : Type 0 where
    pub fits : rows ≤ room
    pub whole : read_is kind (rest start room) ≡ more_rows rows (read_is kind (rest i (room - rows)))

  pub judging-start : (start room : ℕ) → Judging start room start 0
  judging-start start room =
      record { fits = omega arith; whole = sym (none_more (read_is kind (rest start room))) ∙ ap (λ (n : ℕ). more_rows 0 (read_is kind (rest start n))) (sym (sub-zero room)) }

  module _ (start room i rows : ℕ) (so : Judging start room i rows) where
    pub judging-end : is_kind kind ≡ true → blocks_in file ≤ i → Ok rows ≡ read_is kind (rest start room)
    judging-end k l =
        let none : rows + 0 / kind.width ≡ rows = (let z = zero-div kind.width in omega arith) in
        sym (so.whole ∙ ap (λ (r : Reading). more_rows rows (read_is kind r)) (rest-none i (room - rows) l) ∙ ap Ok none)

    judging-bad : i < blocks_in file → is_good kind file i ≡ false → Err (BadBlock i) ≡ read_is kind (rest start room)
    judging-bad l b = sym (so.whole ∙ ap (λ (r : Reading). more_rows rows (read_is kind r)) (rest-bad i (room - rows) l b))

    pub judging-cut : i < blocks_in file → length file - 512 * i < 512 → Err (BadBlock i) ≡ read_is kind (rest start room)
    judging-cut l m = judging-bad l (cut-bad i m)

    module _ (k : is_kind kind ≡ true) (l : i < blocks_in file) (long : 512 ≤ length file - 512 * i) (answer : Option ℕ) (e : answer ≡ judged kind i (eqb (length file - 512 * i) 512) (lent i)) where
      pub judging-told : answer ≡ None → Err (BadBlock i) ≡ read_is kind (rest start room)
      judging-told b = judging-bad l (told-bad i k (sym (judged-is i long) ∙ sym e ∙ b))

      module _ (n : ℕ) (a : answer ≡ Some n) where
        good : (is_good kind file i ≡ true) × (n ≡ count_in (block_at file i))
        good = told-rows i n (sym (judged-is i long) ∙ sym e ∙ a)

        pub judging-full : room - rows < n → Err NoRoom ≡ read_is kind (rest start room)
        judging-full m = sym (so.whole ∙ ap (λ (r : Reading). more_rows rows (read_is kind r)) (rest-full i (room - rows) l good.0 (omega (arith, good.1))))

        pub judging-more : n ≤ room - rows → Judging start room (i + 1) (rows + n)
        judging-more m =
            let b = block_at file i in
            let is = good.1 in
            let room-left : room - rows - count_in b ≡ room - (rows + n) = omega arith in
            let more : more_rows (count_in b) (read_is kind (rest (i + 1) (room - rows - count_in b))) ≡ more_rows n (read_is kind (rest (i + 1) (room - (rows + n)))) = (λ j. more_rows (sym is j) (read_is kind (rest (i + 1) (room-left j)))) in
            record {
              fits = omega (arith, so.fits);
              whole =
                  so.whole
                  ∙ ap (λ (r : Reading). more_rows rows (read_is kind r)) (rest-good i (room - rows) l good.0 (omega arith))
                  ∙ ap (more_rows rows) (rows_before kind k b (rest (i + 1) (room - rows - count_in b)) ∙ more)
                  ∙ more-more rows n (read_is kind (rest (i + 1) (room - (rows + n))));
            }

  -- ---- laying: where all is read, block i is good and its rows fit
  pub record Turn (i room : ℕ) : Type 0 where
    pub inside : 512 * i + 512 ≤ length file
    pub few : count_in (block_at file i) ≤ kind.most
    pub fits : count_in (block_at file i) ≤ room
    pub next : rest i room ≡ before (rows_in kind (block_at file i)) (rest (i + 1) (room - count_in (block_at file i)))

  good_turn : (i room : ℕ) → i < blocks_in file → is_read (rest i room) ≡ true → Turn i room
  good_turn i room l e = go (is_good kind file i) refl (leb (count_in (block_at file i)) room) refl (sym (ap is_read (rest-next i room l)) ∙ e)
    where
      go : (g : Bool) → is_good kind file i ≡ g → (f : Bool) → leb (count_in (block_at file i)) room ≡ f
          → is_read (if g then (if f then before (rows_in kind (block_at file i)) (rest (i + 1) (room - count_in (block_at file i))) else no_room) else bad_block i) ≡ true
          → Turn i room
      go true g true f r =
          let is = tells (good-decides kind i (ends_file file i) (block_at file i)) (subst T (sym g) tt) in
          let fit = leb-true (count_in (block_at file i)) room f in
          let h = length-take 512 (drop (512 * i) file) in
          let d = length-drop (512 * i) file in
          record { inside = omega (arith, is.long); few = is.fit; fits = fit; next = rest-good i room l g fit }
      go true g false f r = let z : ◌≡◌ {A = ℕ} 0 1 = cc in absurd (omega arith)
      go false g f e r = let z : ◌≡◌ {A = ℕ} 0 1 = cc in absurd (omega arith)

  -- the numbers so far, laid at the start of the rows, and before which answer they stand
  pub record Laying (start i count : ℕ) (first rows : List ℕ) : Type 0 where
    pub numbers : List ℕ
    pub long : length numbers ≡ kind.width * count
    pub fits : count ≤ length first / kind.width
    pub whole : rest start (length first / kind.width) ≡ before numbers (rest i (length first / kind.width - count))
    pub is : rows ≡ over numbers first

  pub laying-start : (start : ℕ) (first : List ℕ) → Laying start start 0 first first
  laying-start start first =
      record {
        numbers = [];
        long = omega arith;
        fits = omega arith;
        whole = sym (before-none (rest start (length first / kind.width))) ∙ ap (λ (n : ℕ). before [] (rest start n)) (sym (sub-zero (length first / kind.width)));
        is = refl;
      }

  module _ (start i count : ℕ) (first rows : List ℕ) (so : Laying start i count first rows) where
    pub laying-end : blocks_in file ≤ i → rows ≡ rows_after first (rest start (length first / kind.width))
    laying-end l =
        so.is
        ∙ ap (λ (z : List ℕ). over z first) (sym (append-nil so.numbers))
        ∙ sym (ap (rows_after first) (so.whole ∙ ap (before so.numbers) (rest-none i (length first / kind.width - count) l)))

    pub laying-from : kind.width * count ≤ length first
    laying-from = let w = kind.width in let r = mul-div-le (length first) w in let m = mul-le-mul_left w so.fits in omega arith

    pub laying-same : length rows ≡ length first
    laying-same = ap length so.is ∙ laid-long 0 so.numbers first (let f = laying-from in omega (arith, so.long))

    module _ (l : i < blocks_in file) (all : is_read (rest start (length first / kind.width)) ≡ true) where
      pub laying-turn : Turn i (length first / kind.width - count)
      laying-turn =
          let left = rest i (length first / kind.width - count) in
          good_turn i (length first / kind.width - count) l (sym (before-read so.numbers left) ∙ sym (ap is_read so.whole) ∙ all)

      module _ (got : ℕ) (e : got ≡ count_out (lent i)) where
        got-is : got ≡ count_in (block_at file i)
        unfolding count_out
        got-is = e ∙ rw (le-leb 512 (length (lent i)) (let h = lent-long i laying-turn.inside in omega arith)) (ap count_in (lent_is i))

        pub laying-fits : count + got ≤ length first / kind.width
        laying-fits = let t = laying-turn.fits in let g = got-is in omega (arith, so.fits)

        pub laying-to : kind.width * (count + got) ≤ length first
        laying-to = let w = kind.width in let r = mul-div-le (length first) w in let m = mul-le-mul_left w laying-fits in omega arith

        module _ (k : is_kind kind ≡ true) where
          abbrev size : ℕ
          size = kind.width * (count + got) - kind.width * count

          size_is : size ≡ kind.width * count_in (block_at file i)
          size_is = let g = ap (λ (n : ℕ). kind.width * n) got-is in omega arith

          size_small : size ≤ 62
          size_small = let m = mul-le-mul_left kind.width laying-turn.few in omega (arith, size_is, (kind-is kind k).room)

          abbrev rows-part : List ℕ
          rows-part = take size (drop (kind.width * count) rows)

          part-long : length rows-part ≡ size
          part-long = part_length (kind.width * count) size rows (let f = laying-to in let s = laying-same in omega arith)

          numbers-are : numbers_out (lent i) rows-part ≡ rows_in kind (block_at file i)
          unfolding numbers_out
          numbers-are =
              let h = lent-long i laying-turn.inside in
              let long = part-long in
              let small = size_small in
              rw (le-leb 512 (length (lent i)) (omega arith), le-leb (length rows-part) 62 (omega arith)) (λ j. numbers_in ((long ∙ size_is) j) (lent_is i j))

          pub laying-more : (new : List ℕ) → new ≡ numbers_out (lent i) rows-part → Laying start (i + 1) (count + got) first (put_mid (kind.width * count) size rows new)
          laying-more new n =
              let b = block_at file i in
              let more = rows_in kind b in
              let from = kind.width * count in
              let many = rows_long kind b in
              let put : put_mid from size rows new ≡ laid from more rows = (λ j. take from rows ++ ((n ∙ numbers-are) j ++ drop ((size_is ∙ sym many) j) (drop from rows))) in
              let room : length first / kind.width - count - count_in b ≡ length first / kind.width - (count + got) = (let g = got-is in omega arith) in
              record {
                numbers = so.numbers ++ more;
                long = length-append so.numbers more ∙ (let g = ap (λ (n : ℕ). kind.width * n) got-is in omega (arith, so.long, many));
                fits = laying-fits;
                whole =
                    so.whole
                    ∙ ap (before so.numbers) laying-turn.next
                    ∙ before-both so.numbers more (rest (i + 1) (length first / kind.width - count - count_in b))
                    ∙ ap (λ (m : ℕ). before (so.numbers ++ more) (rest (i + 1) m)) room;
                is = laid_more 0 from so.numbers more first rows (put_mid from size rows new) (omega arith) so.is (zero-add (length so.numbers) ∙ so.long) put;
              }
