-- The writer's answer by its tests: where it is refused, and that else the whole rows' blocks are written; what the loop then needs. Assumes nothing.
use Rattle.std.specs.Prelude.{ℕ, zero, suc, ◌+◌, ◌-◌, ◌*◌, ◌/◌, ◌%◌, ◌≤◌, ◌<◌, ◌≡◌, refl, Bool, true, false, ◌&&◌, List, length, take, leb, if◌then◌else◌}
use Rattle.std.proofs.Common.{ap, ◌∙◌, div-mul-le_self, div-lt_iff_lt-mul, le-div_iff_mul-le, arith, length-take-le}
use Rattle.std.proofs.Math.Nat.{sub-zero, mul-mod_left}
use borrow.Author.Tests.{le-leb, lt-leb}
use Rattle.rules.specs.Base.{refused, done}
use Rattle.rules.specs.declared.Refusal.TheVariants.{NoOutRoom}
use Rattle.trace_blocks.specs.declared.BlockKind.{BlockKind}
use Rattle.trace_blocks.specs.Blocks.{is_kind}
use Rattle.trace_files.specs.Files.{pieces, full_of, file_from, row_count, whole_rows, most_traced, bytes_for, trace_bytes, write_trace}
use Rattle.trace_files.specs.PieceLaws.{pieces-most, pieces-wide}
use Rattle.trace_blocks.specs.BlockLaws.{kind-is}
use Rattle.trace_files.specs.WriteLoop.{blocks-long}

-- ---- the start's test, with no product that wraps
pub start-over : (most start : ℕ) → 1 ≤ most → most_traced / most < start → most_traced < most * start
start-over most start l h = let m : most_traced < start * most = (div-lt_iff_lt-mul l).0 h in omega arith

pub start_under : (most start : ℕ) → 1 ≤ most → start ≤ most_traced / most → most * start ≤ most_traced
start_under most start l h = let m : start * most ≤ most_traced = (le-div_iff_mul-le l).0 h in omega arith

both-fail : {A : Type 0} (b : Bool) (x y : A) → (if b && false then x else y) ≡ y
both-fail true x y = refl
both-fail false x y = refl

module _ (kind : BlockKind) (rows : List ℕ) (start room : ℕ) where
  pub too_many : most_traced < kind.most * start + row_count kind (length rows) → write_trace kind rows start room ≡ refused NoOutRoom
  unfolding write_trace
  too_many l = rw (lt-leb (kind.most * start + row_count kind (length rows)) most_traced l)

  pub no_room : room < bytes_for kind (length rows) → write_trace kind rows start room ≡ refused NoOutRoom
  unfolding write_trace
  no_room l = rw (lt-leb (bytes_for kind (length rows)) room l) (both-fail (leb (kind.most * start + row_count kind (length rows)) most_traced) (done (file_from kind start (whole_rows kind rows))) (refused NoOutRoom))

  pub is-written : kind.most * start + row_count kind (length rows) ≤ most_traced → bytes_for kind (length rows) ≤ room → write_trace kind rows start room ≡ done (file_from kind start (whole_rows kind rows))
  unfolding write_trace
  is-written l m = rw (le-leb (kind.most * start + row_count kind (length rows)) most_traced l, le-leb (bytes_for kind (length rows)) room m)

-- ---- the bytes, where there are not too many rows
pub bytes-are : (kind : BlockKind) (numbers : ℕ) → row_count kind numbers ≤ most_traced → trace_bytes kind numbers ≡ bytes_for kind numbers
unfolding trace_bytes
bytes-are kind numbers l = rw (le-leb (row_count kind numbers) most_traced l)

-- ---- the whole rows, lent as a part
module _ (kind : BlockKind) (k : is_kind kind ≡ true) (rows : List ℕ) where
  pub whole-lent : take (row_count kind (length rows) * kind.width - 0) rows ≡ whole_rows kind rows
  whole-lent = ap (λ (n : ℕ). take n rows) (sub-zero (row_count kind (length rows) * kind.width))

  pub whole_long : length (whole_rows kind rows) ≡ row_count kind (length rows) * kind.width
  whole_long = length-take-le (row_count kind (length rows) * kind.width) rows (div-mul-le_self (length rows) kind.width)

  pub whole-rows : length (whole_rows kind rows) % kind.width ≡ 0
  whole-rows = ap (λ (n : ℕ). n % kind.width) whole_long ∙ mul-mod_left (row_count kind (length rows)) kind.width

  pub whole-pieces : pieces (full_of kind) (length (whole_rows kind rows)) ≡ pieces kind.most (row_count kind (length rows))
  whole-pieces =
      let is = kind-is kind k in
      ap (pieces (full_of kind)) whole_long ∙ pieces-wide kind.width kind.most (row_count kind (length rows)) is.wide is.some-rows

  pub file-long : (start : ℕ) → length (file_from kind start (whole_rows kind rows)) ≡ bytes_for kind (length rows)
  file-long start = blocks-long kind start (whole_rows kind rows) k (pieces (full_of kind) (length (whole_rows kind rows))) ∙ ap (λ (n : ℕ). 512 * n) whole-pieces

  -- the blocks' numbers fit a word
  pub numbers_fit : (start : ℕ) → kind.most * start + row_count kind (length rows) ≤ most_traced → start + pieces (full_of kind) (length (whole_rows kind rows)) ≤ most_traced
  numbers_fit start l =
      let is = kind-is kind k in
      let few = pieces-most kind.most (row_count kind (length rows)) is.some-rows in
      let less : start ≤ kind.most * start = at_least kind.most start is.some-rows in
      omega (arith, whole-pieces)
    where
      at_least : (a b : ℕ) → 1 ≤ a → b ≤ a * b
      at_least zero b l = absurd (omega arith)
      at_least (suc a) b l = omega arith
