-- The blocks of rows, written one behind the other: how long they are, one block more, and what a loop that writes them leaves. Assumes nothing.
use Rattle.std.specs.Prelude.{ℕ, zero, suc, ◌+◌, ◌-◌, ◌*◌, ◌/◌, ◌%◌, ◌≤◌, ◌<◌, min, ◌≡◌, refl, ◌⊎◌, true, take, drop}
use Rattle.std.proofs.Common.{sym, ap, subst, ◌∙◌, inl, inr, ⊎_elim, zero-add, mul_assoc, div-add-mod', add-one, length-append, length-take, length-drop, drop_of_length-le}
use mathlib.Core.List.{List, [], ◌∷◌, ◌++◌, map, append-nil, append_assoc}
use Rattle.std.proofs.Math.Nat.{zero-min, min-zero, suc-min-suc, mul-sub, mul-mod_right}
use native.Mathlib.Omega.{arith}
use borrow.Author.Tests.{le-leb, eq-eqb}
use borrow.Rule.Slice.PartMut.{put_mid}
use Rattle.std.proofs.Math.ListN.{length}
use Rattle.std.proofs.Math.Dec.{T}
use Rattle.rules.specs.Base.{from}
use Rattle.words.specs.Lists.{part_length, map_last}
use Rattle.words.specs.Laying.{over, laid, laid_more}
use Rattle.trace_blocks.specs.declared.BlockKind.{BlockKind}
use Rattle.trace_blocks.specs.Blocks.{is_kind, block_of, can_write, fills_block, written_block}
use Rattle.trace_blocks.specs.BlockLaws.{block-long}
use Rattle.trace_files.specs.Files.{pieces, full_of, part_of, joined, blocks_of}
use Rattle.trace_files.specs.PieceLaws.{piece_inside}
use Rattle.trace_files.specs.KindLaws.{full-some}

joined-last : (xss : List (List ℕ)) (ys : List ℕ) → joined (xss ++ ys ∷ []) ≡ joined xss ++ ys
joined-last [] ys = append-nil ys
joined-last (xs ∷ xss) ys = ap (λ (z : List ℕ). xs ++ z) (joined-last xss ys) ∙ sym (append_assoc xs (joined xss) ys)

-- so many numbers at most as there are
part-up-to : (n : ℕ) (xs : List ℕ) → take (min n (length xs)) xs ≡ take n xs
part-up-to zero xs = rw zero-min
part-up-to (suc n) [] = rw min-zero
part-up-to (suc n) (x ∷ xs) = rw suc-min-suc (ap (λ (z : List ℕ). x ∷ z) (part-up-to n xs))

min-is : (a b : ℕ) → (min a b ≡ a) ⊎ (min a b ≡ b)
min-is zero b = inl (zero-min b)
min-is (suc a) zero = inr (min-zero (suc a))
min-is (suc a) (suc b) = ⊎_elim (λ e. inl (suc-min-suc a b ∙ ap suc e)) (λ e. inr (suc-min-suc a b ∙ ap suc e)) (min-is a b)

module _ (kind : BlockKind) (start : ℕ) (rows : List ℕ) where
  pub blocks_more : (i : ℕ) → blocks_of kind start rows (suc i) ≡ blocks_of kind start rows i ++ block_of kind (start + i) (part_of kind rows i)
  blocks_more i =
      let block : ℕ → List ℕ = λ (j : ℕ). block_of kind (start + j) (part_of kind rows j) in
      ap joined (map_last block 0 i) ∙ joined-last (map block (from 0 i)) (block (0 + i)) ∙ ap (λ (j : ℕ). blocks_of kind start rows i ++ block j) (zero-add i)

  part-fits : (i : ℕ) → length (part_of kind rows i) ≤ full_of kind
  part-fits i = let h = length-take (full_of kind) (drop (full_of kind * i) rows) in omega arith

  pub blocks-long : is_kind kind ≡ true → (i : ℕ) → length (blocks_of kind start rows i) ≡ 512 * i
  blocks-long k zero = refl
  blocks-long k (suc i) =
      let one = block-long kind (start + i) (part_of kind rows i) (subst T (sym k) tt) (part-fits i) in
      let both = length-append (blocks_of kind start rows i) (block_of kind (start + i) (part_of kind rows i)) in
      let rest = blocks-long k i in
      ap length (blocks_more i) ∙ omega arith

  -- ---- one turn of the writer's loop
  module _ (k : is_kind kind ≡ true) (whole : length rows % kind.width ≡ 0) (i : ℕ) (inside : i < pieces (full_of kind) (length rows)) where
    part-is : (end : ℕ) → end ≡ full_of kind * i + min (full_of kind) (length rows - full_of kind * i) → take (end - full_of kind * i) (drop (full_of kind * i) rows) ≡ part_of kind rows i
    part-is end e =
        let full = full_of kind in
        let n : end - full * i ≡ min full (length rows - full * i) = omega arith in
        ap (λ (j : ℕ). take j (drop (full * i) rows)) (n ∙ ap (min full) (sym (length-drop (full * i) rows))) ∙ part-up-to full (drop (full * i) rows)

    part-long : length (part_of kind rows i) ≡ min (full_of kind) (length rows - full_of kind * i)
    part-long = length-take (full_of kind) (drop (full_of kind * i) rows) ∙ ap (min (full_of kind)) (length-drop (full_of kind * i) rows)

    -- a full part has whole rows, and so has what is left
    part-whole : length (part_of kind rows i) % kind.width ≡ 0
    part-whole =
        let w = kind.width in
        let full = full_of kind in
        let q = length rows / w in
        let m = kind.most * i in
        let rows_all : length rows ≡ w * q = (let h = div-add-mod' (length rows) w in omega arith) in
        let left : length rows - full * i ≡ w * (q - m) = (λ j. rows_all j - mul_assoc w kind.most i j) ∙ sym (mul-sub w q m) in
        ⊎_elim
        (λ e. ap (λ (j : ℕ). j % w) (part-long ∙ e) ∙ mul-mod_right w kind.most)
        (λ e. ap (λ (j : ℕ). j % w) (part-long ∙ e ∙ left) ∙ mul-mod_right w (q - m))
        (min-is full (length rows - full * i))

    can-write : (room : ℕ) → room ≡ 512 → can_write kind (length (part_of kind rows i)) room ≡ true
    unfolding can_write fills_block
    can-write room e =
        let n = length (part_of kind rows i) in
        let one : 1 ≤ full_of kind = full-some kind k in
        let some : full_of kind * i < length rows = piece_inside (full_of kind) (length rows) i one inside in
        let long = part-long in
        rw (k, le-leb 1 n (omega arith), eq-eqb (n % kind.width) 0 part-whole, le-leb n (kind.width * kind.most) (omega arith), le-leb 512 room (omega arith))

    -- what is written there is the block, all of it
    block-there : (lent : List ℕ) → length lent ≡ 512 → written_block kind (start + i) (part_of kind rows i) lent ≡ block_of kind (start + i) (part_of kind rows i)
    unfolding written_block
    block-there lent e =
        let block = block_of kind (start + i) (part_of kind rows i) in
        let long : length block ≡ 512 = block-long kind (start + i) (part_of kind rows i) (subst T (sym k) tt) (part-fits i) in
        let less : length lent ≤ length block = omega arith in
        rw (can-write (length lent) e) (ap (λ (z : List ℕ). block ++ z) (drop_of_length-le lent less) ∙ append-nil block)

    module _ (first file : List ℕ) (room : 512 * pieces (full_of kind) (length rows) ≤ length first) (now : file ≡ over (blocks_of kind start rows i) first) (same : length file ≡ length first) where
      pub written-more : (end : ℕ) (new : List ℕ) → end ≡ full_of kind * i + min (full_of kind) (length rows - full_of kind * i)
          → new ≡ written_block kind (start + i) (take (end - full_of kind * i) (drop (full_of kind * i) rows)) (take (512 * i + 512 - 512 * i) (drop (512 * i) file))
          → put_mid (512 * i) (512 * i + 512 - 512 * i) file new ≡ over (blocks_of kind start rows (i + 1)) first
      written-more end new e n =
          let block = block_of kind (start + i) (part_of kind rows i) in
          let bytes = 512 * i + 512 - 512 * i in
          let width : bytes ≡ 512 = omega arith in
          let long : length block ≡ 512 = block-long kind (start + i) (part_of kind rows i) (subst T (sym k) tt) (part-fits i) in
          let lent = take bytes (drop (512 * i) file) in
          let lent-long : length lent ≡ 512 = part_length (512 * i) bytes file (omega arith) ∙ width in
          let is : new ≡ block = n ∙ ap (λ (z : List ℕ). written_block kind (start + i) z lent) (part-is end e) ∙ block-there lent lent-long in
          let put : put_mid (512 * i) bytes file new ≡ laid (512 * i) block file = (λ j. take (512 * i) file ++ (is j ++ drop ((width ∙ sym long) j) (drop (512 * i) file))) in
          laid_more 0 (512 * i) (blocks_of kind start rows i) block first file (put_mid (512 * i) bytes file new) (omega arith) now (zero-add (length (blocks_of kind start rows i)) ∙ blocks-long k i) put
          ∙ ap (λ (z : List ℕ). over z first) (sym (blocks_more i) ∙ ap (blocks_of kind start rows) (sym (add-one i)))
