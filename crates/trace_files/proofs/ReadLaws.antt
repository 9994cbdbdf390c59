-- What a reader answers, exactly: the rows, 14 with the first bad block's number, or 13; and what a writer answers. Assumes nothing.
use Prim.Native.Nat.{ℕ, zero, suc, ◌+◌, ◌-◌, ◌*◌, ◌≤◌, ◌<◌}
use Rattle.std.specs.Prelude.{◌≡◌, refl, ◌↔◌, ◌⊎◌, Bool, true, false, not, length, T, leb, if◌then◌else◌}
use Rattle.std.proofs.Math.Path.{sym, ap}
use Rattle.std.proofs.Common.{subst, ◌∙◌, inl, inr, T_not, leb→le}
use mathlib.Core.List.{List, ◌++◌, map}
use Rattle.std.proofs.Math.Decide.{dec_le}
use native.Mathlib.Omega.{arith}
use Rattle.std.proofs.Math.Dec.{nleb→lt}
use Rattle.trace_blocks.specs.declared.BlockKind.{BlockKind}
use Rattle.trace_blocks.specs.Blocks.{block_bytes, sum, count_in, rows_in}
use Rattle.trace_files.specs.Files.{joined, Reading, read, bad_block, no_room, block_at, is_good, before, read_blocks, blocks_in, read_trace}
use Rattle.trace_files.specs.PieceLaws.{piece_inside, pieces-all}
use Rattle.trace_files.proofs.ReadTests.{past_end, in-file}
use Rattle.trace_files.specs.ReadLaws.{count_to, rows_to, GoodTo, from_next, from-none, count-both, Whole, FirstBad, FirstFull}

data Ended (kind : BlockKind) (file : List ℕ) (start stop room : ℕ) : Reading → Type 0 where
  whole : {rows : List ℕ} → Whole kind file start stop room rows → Ended kind file start stop room (read rows)
  stopped : {i : ℕ} → FirstBad kind file start stop room i → Ended kind file start stop room (bad_block i)
  filled : (i : ℕ) → FirstFull kind file start stop room i → Ended kind file start stop room no_room

module _ (kind : BlockKind) (file : List ℕ) where
  -- one block before the others
  count_next : (start stop : ℕ) → start < stop → count_to file start stop ≡ count_in (block_at file start) + count_to file (suc start) stop
  count_next start stop l = ap (λ (z : List ℕ). sum (map (λ i. count_in (block_at file i)) z)) (from_next start stop l)

  rows_next : (start stop : ℕ) → start < stop → rows_to kind file start stop ≡ rows_in kind (block_at file start) ++ rows_to kind file (suc start) stop
  rows_next start stop l = ap (λ (z : List ℕ). joined (map (λ i. rows_in kind (block_at file i)) z)) (from_next start stop l)

  count_none : (start : ℕ) → count_to file start start ≡ 0
  count_none start = ap (λ (z : List ℕ). sum (map (λ i. count_in (block_at file i)) z)) (from-none start start (omega arith))

  good-next : (start stop : ℕ) → T (is_good kind file start) → GoodTo kind file (suc start) stop → GoodTo kind file start stop
  good-next start stop good goods i a b = elim (dec_le (suc start) i) [
    | yes l ↦ goods i l b
    | no l ↦ (let e : start ≡ i = omega arith in subst (λ (k : ℕ). T (is_good kind file k)) e good)
  ]

  module _ (start stop room : ℕ) (l : start < stop) (good : T (is_good kind file start)) where
    ended-next : {r : Reading} → count_in (block_at file start) ≤ room → Ended kind file (suc start) stop (room - count_in (block_at file start)) r → Ended kind file start stop room (before (rows_in kind (block_at file start)) r)
    ended-next fit (whole {rows = rows} w) =
        let e = count_next start stop l in
        let f = w.fits in
        whole
        (record {
          goods = good-next start stop good w.goods;
          fits = omega arith;
          these = ap (λ (z : List ℕ). rows_in kind (block_at file start) ++ z) w.these ∙ sym (rows_next start stop l);
        })
    ended-next fit (stopped {i = i} w) =
        let b = w.behind in
        let f = w.fits in
        let e = count_next start i (omega arith) in
        stopped {i = i}
        (record {
          behind = omega arith;
          inside = w.inside;
          goods = good-next start i good w.goods;
          fits = omega arith;
          bad = w.bad;
        })
    ended-next fit (filled i w) =
        let b = w.behind in
        let f = w.fits in
        let o = w.over in
        let e = count_next start i (omega arith) in
        let g = count_next start (suc i) (omega arith) in
        filled i
        (record {
          behind = omega arith;
          inside = w.inside;
          goods = good-next start (suc i) good w.goods;
          fits = omega arith;
          over = omega arith;
        })

    ended-full : room < count_in (block_at file start) → Ended kind file start stop room no_room
    ended-full o =
        let e = count_none start in
        let g = count_next start (suc start) (omega arith) in
        filled start
        (record {
          behind = omega arith;
          inside = l;
          goods = good-next start (suc start) good (λ i a b. absurd (omega arith));
          fits = omega arith;
          over = omega arith;
        })

  ended-bad : (start stop room : ℕ) → start < stop → T (not (is_good kind file start)) → Ended kind file start stop room (bad_block start)
  ended-bad start stop room l bad =
      let e = count_none start in
      stopped {i = start}
      (record {
        behind = omega arith;
        inside = l;
        goods = λ i a b. absurd (omega arith);
        fits = omega arith;
        bad = bad;
      })

  -- ---- each reading ends in one of them
  ended : (n start stop room : ℕ) → start + n ≡ stop → Ended kind file start stop room (read_blocks kind file n start room)
  unfolding read_blocks
  ended zero start stop room e =
      let none = from-none start stop (omega arith) in
      whole
      (record {
        goods = λ i a b. absurd (omega arith);
        fits = omega (arith, ap (λ (z : List ℕ). sum (map (λ i. count_in (block_at file i)) z)) none);
        these = sym (ap (λ (z : List ℕ). joined (map (λ i. rows_in kind (block_at file i)) z)) none);
      })
  ended (suc n) start stop room e =
      let count = count_in (block_at file start) in
      go (is_good kind file start) (leb count room) (λ t. t) (λ t. t) (leb→le count room) (nleb→lt count room) (ended n (suc start) stop (room - count) (omega arith))
    where
      l : start < stop
      l = omega arith

      go : (good fits : Bool) {r : Reading} → (T good → T (is_good kind file start)) → (T (not good) → T (not (is_good kind file start)))
          → (T fits → count_in (block_at file start) ≤ room) → (T (not fits) → room < count_in (block_at file start))
          → Ended kind file (suc start) stop (room - count_in (block_at file start)) r
          → Ended kind file start stop room (if good then (if fits then before (rows_in kind (block_at file start)) r else no_room) else bad_block start)
      go true true a b u v w = ended-next start stop room l (a tt) (u tt) w
      go true false a b u v w = ended-full start stop room l (a tt) (v tt)
      go false fits a b u v w = ended-bad start stop room l (b tt)

  -- and in no other
  module _ (start stop room : ℕ) where
    count-up : (i j : ℕ) → start ≤ i → i ≤ j → count_to file start i ≤ count_to file start j
    count-up i j a b = omega (arith, count-both file start i j a b)

    bad-good : (i j : ℕ) → start ≤ i → i < j → T (not (is_good kind file i)) → GoodTo kind file start j → ⊥
    bad-good i j a b bad goods = T_not (is_good kind file i) bad (goods i a b)

    one-bad : (i j : ℕ) → FirstBad kind file start stop room i → FirstBad kind file start stop room j → i ≤ j
    one-bad i j v w = elim (dec_le i j) [
      | yes l ↦ l
      | no l ↦ absurd (bad-good j i w.behind (omega arith) w.bad v.goods)
    ]

    bad-full : (i j : ℕ) → FirstBad kind file start stop room i → FirstFull kind file start stop room j → ⊥
    bad-full i j v w = elim (dec_le i j) [
      | yes l ↦ bad-good i (suc j) v.behind (omega arith) v.bad w.goods
      | no l ↦ (let b = w.behind in let o = w.over in let f = v.fits in omega (arith, count-up (suc j) i (omega arith) (omega arith)))
    ]

    whole-bad : {rows : List ℕ} {i : ℕ} → Whole kind file start stop room rows → FirstBad kind file start stop room i → ⊥
    whole-bad {i = i} v w = bad-good i stop w.behind w.inside w.bad v.goods

    whole-full : {rows : List ℕ} (i : ℕ) → Whole kind file start stop room rows → FirstFull kind file start stop room i → ⊥
    whole-full i v w = let b = w.behind in let n = w.inside in let o = w.over in let f = v.fits in omega (arith, count-up (suc i) stop (omega arith) (omega arith))

    ended-one : {r q : Reading} → Ended kind file start stop room r → Ended kind file start stop room q → r ≡ q
    ended-one (whole v) (whole w) = ap read (v.these ∙ sym w.these)
    ended-one (whole v) (stopped w) = absurd (whole-bad v w)
    ended-one (whole v) (filled j w) = absurd (whole-full j v w)
    ended-one (stopped v) (whole w) = absurd (whole-bad w v)
    ended-one (stopped {i = i} v) (stopped {i = j} w) = ap bad_block (let a = one-bad i j v w in let b = one-bad j i w v in omega arith)
    ended-one (stopped {i = i} v) (filled j w) = absurd (bad-full i j v w)
    ended-one (filled i v) (whole w) = absurd (whole-full i w v)
    ended-one (filled i v) (stopped {i = j} w) = absurd (bad-full j i w v)
    ended-one (filled i v) (filled j w) = refl

-- ---- a file, read from a block on
module _ (kind : BlockKind) (file : List ℕ) (start room : ℕ) where
  -- where the start is not past the end, the reading of its blocks is the answer
  told : block_bytes * start ≤ length file → Ended kind file start (blocks_in file) room (read_trace kind file start room)
  told l =
      let h = pieces-all block_bytes (length file) (omega arith) in
      subst (λ (r : Reading). Ended kind file start (blocks_in file) room r) (sym (in-file kind file start room (omega arith))) (ended kind file (blocks_in file - start) start (blocks_in file) room (omega arith))

  is-told : {r : Reading} → block_bytes * start ≤ length file → Ended kind file start (blocks_in file) room r → read_trace kind file start room ≡ r
  is-told l w = ended-one kind file start (blocks_in file) room (told l) w

  told-by : {r : Reading} → block_bytes * start ≤ length file → read_trace kind file start room ≡ r → Ended kind file start (blocks_in file) room r
  told-by l e = subst (λ (r : Reading). Ended kind file start (blocks_in file) room r) e (told l)

  -- a block of the file is not behind its end
  start-inside : (i : ℕ) → start ≤ i → i < blocks_in file → block_bytes * start ≤ length file
  start-inside i a b = omega (arith, piece_inside block_bytes (length file) i (omega arith) b)

  -- ---- the rows, exactly where all blocks from the start on are good and their rows fit
  pub read-exactly : (rows : List ℕ) → (read_trace kind file start room ≡ read rows) ↔ ((block_bytes * start ≤ length file) × Whole kind file start (blocks_in file) room rows)
  read-exactly rows = (says, λ w. is-told w.0 (whole w.1))
    where
      rows_of : Ended kind file start (blocks_in file) room (read rows) → Whole kind file start (blocks_in file) room rows
      rows_of (whole w) = w

      says : read_trace kind file start room ≡ read rows → (block_bytes * start ≤ length file) × Whole kind file start (blocks_in file) room rows
      says e = elim (dec_le (block_bytes * start) (length file)) [
        | yes l ↦ (l, rows_of (told-by l e))
        | no l ↦ (let p = past_end kind file start room (omega arith) in let z : ◌≡◌ {A = ℕ} 0 1 = cc in absurd (omega arith))
      ]

  -- ---- 14, with the first bad block's number, or the start's where that is past the end
  pub bad-exactly : (i : ℕ) → (read_trace kind file start room ≡ bad_block i) ↔ (((length file < block_bytes * start) × (i ≡ start)) ⊎ FirstBad kind file start (blocks_in file) room i)
  bad-exactly i = (
    says,
    λ w. elim w [
      | inl p ↦ (let l = p.0 in past_end kind file start room (omega arith)) ∙ ap bad_block (sym p.1)
      | inr b ↦ is-told (start-inside i b.behind b.inside) (stopped b)
    ],
  )
    where
      first_of : Ended kind file start (blocks_in file) room (bad_block i) → FirstBad kind file start (blocks_in file) room i
      first_of (stopped w) = w

      says : read_trace kind file start room ≡ bad_block i → ((length file < block_bytes * start) × (i ≡ start)) ⊎ FirstBad kind file start (blocks_in file) room i
      says e = elim (dec_le (block_bytes * start) (length file)) [
        | yes l ↦ inr (first_of (told-by l e))
        | no l ↦ (let p = past_end kind file start room (omega arith) in let same : i ≡ start = cc in inl (omega arith, same))
      ]

  -- ---- 13, exactly where a block's rows do not fit before any is bad
  pub room-exactly : (read_trace kind file start room ≡ no_room) ↔ ((i : ℕ) × FirstFull kind file start (blocks_in file) room i)
  room-exactly = (says, λ w. is-told (start-inside w.0 w.1.behind w.1.inside) (filled w.0 w.1))
    where
      full-of : Ended kind file start (blocks_in file) room no_room → (i : ℕ) × FirstFull kind file start (blocks_in file) room i
      full-of (filled i w) = (i, w)

      says : read_trace kind file start room ≡ no_room → (i : ℕ) × FirstFull kind file start (blocks_in file) room i
      says e = elim (dec_le (block_bytes * start) (length file)) [
        | yes l ↦ full-of (told-by l e)
        | no l ↦ (let p = past_end kind file start room (omega arith) in let z : ◌≡◌ {A = ℕ} 0 1 = cc in absurd (omega arith))
      ]
