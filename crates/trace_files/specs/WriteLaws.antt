-- What a writer answers, exactly: how many bytes, 13 and no other refusal; and that what is written in parts is what is written at once. Assumes nothing.
use Rattle.std.specs.Prelude.{ℕ, ◌+◌, ◌*◌, ◌/◌, ◌%◌, ◌≤◌, ◌<◌, ◌≡◌, ◌↔◌, ◌⊎◌, List, ◌++◌, length, take, T}
use Rattle.std.proofs.Common.{sym, ap, ◌∙◌, inl, inr, mul-div_cancel, mul_comm, mul_assoc, mul-add, add-mul, arith, length-append, take_all}
use Rattle.std.proofs.Math.Nat.{mul-div_cancel_left, mul-add-div}
use Rattle.std.proofs.Math.Decide.{dec_le}
use Rattle.std.proofs.Math.Seq.{take-append-add}
use Rattle.std.specs.Float.Ieee.Bits.{is_true}
use Rattle.rules.specs.Base.{refused, done}
use Rattle.rules.specs.declared.Refusal.{Refusal}
use Rattle.rules.specs.declared.Refusal.TheVariants.{NoOutRoom}
use Rattle.rules.specs.Decides.{tells}
use Rattle.trace_blocks.specs.declared.BlockKind.{BlockKind}
use Rattle.trace_blocks.specs.Blocks.{is_kind}
use Rattle.trace_blocks.specs.BlockLaws.{kind-decides}
use Rattle.trace_files.specs.Files.{pieces, full_of, file_from, row_count, whole_rows, most_traced, bytes_for, write_trace}
use Rattle.trace_files.specs.WriteTests.{too_many, no_room, is-written, whole_long, file-long as bytes-written}
use Rattle.trace_files.specs.Cutting.{pieces-both, pieces-full}
use Rattle.trace_files.specs.FileLaws.{first-blocks, parts-together}

-- ---- the whole rows of what was lent: as many, and themselves where there are no other words
pub whole-count : (kind : BlockKind) (rows : List ℕ) → T (is_kind kind) → row_count kind (length (whole_rows kind rows)) ≡ row_count kind (length rows)
whole-count kind rows known =
    ap (λ (n : ℕ). n / kind.width) (whole_long kind (is_true (is_kind kind) known) rows) ∙ mul-div_cancel (row_count kind (length rows)) (tells (kind-decides kind) known).wide

pub whole-already : (kind : BlockKind) (rows : List ℕ) → length rows ≡ kind.width * row_count kind (length rows) → whole_rows kind rows ≡ rows
whole-already kind rows e = take_all (row_count kind (length rows) * kind.width) rows (omega (arith, mul_comm (row_count kind (length rows)) kind.width))

-- ---- what a writer answers: the file where its blocks fit and there are not too many rows, else 13, and no other refusal
pub record Fits (kind : BlockKind) (rows : List ℕ) (start room : ℕ) : Type 0 where
  pub few : kind.most * start + row_count kind (length rows) ≤ most_traced
  pub fits : bytes_for kind (length rows) ≤ room

abbrev pub TooMuch : BlockKind → (rows : List ℕ) → (start room : ℕ) → Type 0
TooMuch kind rows start room = (room < bytes_for kind (length rows)) ⊎ (most_traced < kind.most * start + row_count kind (length rows))

module _ (kind : BlockKind) (rows : List ℕ) (start room : ℕ) where
  write-refused : TooMuch kind rows start room → write_trace kind rows start room ≡ refused NoOutRoom
  write-refused w = elim w [ inl l ↦ no_room kind rows start room l | inr l ↦ too_many kind rows start room l ]

  fits-or-not : Fits kind rows start room ⊎ TooMuch kind rows start room
  fits-or-not = elim (dec_le (kind.most * start + row_count kind (length rows)) most_traced) [
    | yes a ↦ elim (dec_le (bytes_for kind (length rows)) room) [ yes b ↦ inl (record { few = a; fits = b }) | no b ↦ inr (inl (omega arith)) ]
    | no a ↦ inr (inr (omega arith))
  ]

  pub done-exactly : (bytes : List ℕ) → (write_trace kind rows start room ≡ done bytes) ↔ (Fits kind rows start room × (bytes ≡ file_from kind start (whole_rows kind rows)))
  done-exactly bytes = (says, λ h. is-written kind rows start room h.0.few h.0.fits ∙ ap done (sym h.1))
    where
      says : write_trace kind rows start room ≡ done bytes → Fits kind rows start room × (bytes ≡ file_from kind start (whole_rows kind rows))
      says e = elim fits-or-not [
        | inl f ↦ (let d = is-written kind rows start room f.few f.fits in let same : bytes ≡ file_from kind start (whole_rows kind rows) = cc in (f, same))
        | inr w ↦ (let d = write-refused w in let z : ◌≡◌ {A = ℕ} 0 1 = cc in absurd (omega arith))
      ]

  pub refused-exactly : (r : Refusal) → (write_trace kind rows start room ≡ refused r) ↔ ((r ≡ NoOutRoom) × TooMuch kind rows start room)
  refused-exactly r = (says, λ h. write-refused h.1 ∙ ap refused (sym h.0))
    where
      says : write_trace kind rows start room ≡ refused r → (r ≡ NoOutRoom) × TooMuch kind rows start room
      says e = elim fits-or-not [
        | inl f ↦ (let d = is-written kind rows start room f.few f.fits in let z : ◌≡◌ {A = ℕ} 0 1 = cc in absurd (omega arith))
        | inr w ↦ (let d = write-refused w in let same : r ≡ NoOutRoom = cc in (same, w))
      ]

-- ---- a part of full blocks is written, and then another from there on: together they are what is written of both
module _ (kind : BlockKind) (known : T (is_kind kind)) (a b : List ℕ) (whole : length a % full_of kind ≡ 0) (start : ℕ) where
  abbrev blocks : ℕ
  blocks = pieces (full_of kind) (length a)

  rows-first : length a ≡ kind.width * (kind.most * blocks)
  rows-first = first-blocks kind known a whole ∙ mul_assoc kind.width kind.most blocks

  count-first : row_count kind (length a) ≡ kind.most * blocks
  count-first = ap (λ (n : ℕ). n / kind.width) rows-first ∙ mul-div_cancel_left (kind.most * blocks) (tells (kind-decides kind) known).wide

  count-all : row_count kind (length (a ++ b)) ≡ kind.most * blocks + row_count kind (length b)
  count-all =
      ap (λ (n : ℕ). n / kind.width) (length-append a b ∙ ap (λ (n : ℕ). n + length b) rows-first)
      ∙ mul-add-div (tells (kind-decides kind) known).wide (kind.most * blocks) (length b)

  whole-first : whole_rows kind a ≡ a
  whole-first = whole-already kind a (rows-first ∙ ap (λ (n : ℕ). kind.width * n) (sym count-first))

  whole-all : whole_rows kind (a ++ b) ≡ a ++ whole_rows kind b
  whole-all =
      let after = row_count kind (length b) in
      let e : row_count kind (length (a ++ b)) * kind.width ≡ length a + after * kind.width
      = omega (arith, ap (λ (n : ℕ). n * kind.width) count-all, add-mul (kind.most * blocks) after kind.width, mul_comm (kind.most * blocks) kind.width, rows-first) in
      ap (λ (n : ℕ). take n (a ++ b)) e ∙ take-append-add a b (after * kind.width)

  sizes : bytes_for kind (length (a ++ b)) ≡ bytes_for kind (length a) + bytes_for kind (length b)
  sizes =
      let some = (tells (kind-decides kind) known).some-rows in
      let all = ap (pieces kind.most) count-all ∙ pieces-both kind.most blocks (row_count kind (length b)) some in
      let first = ap (pieces kind.most) count-first ∙ pieces-full kind.most blocks some in
      omega arith

  pub parts-written : (room more : ℕ) (x y : List ℕ) → write_trace kind a start room ≡ done x → write_trace kind b (start + pieces (full_of kind) (length a)) more ≡ done y → write_trace kind (a ++ b) start (length x + length y) ≡ done (x ++ y)
  parts-written room more x y first second =
      let f = (done-exactly kind a start room x).0 first in
      let g = (done-exactly kind b (start + blocks) more y).0 second in
      let few = g.0.few in
      let x-long = ap length f.1 ∙ bytes-written kind (is_true (is_kind kind) known) a start in
      let y-long = ap length g.1 ∙ bytes-written kind (is_true (is_kind kind) known) b (start + blocks) in
      (done-exactly kind (a ++ b) start (length x + length y) (x ++ y)).1 (
        record { few = omega (arith, count-all, mul-add kind.most start blocks); fits = omega (arith, sizes) },
        ap (λ (z : List ℕ). z ++ y) (f.1 ∙ ap (file_from kind start) whole-first)
            ∙ ap (λ (z : List ℕ). file_from kind start a ++ z) g.1
            ∙ sym (parts-together kind known a (whole_rows kind b) whole start)
            ∙ sym (ap (file_from kind start) whole-all),
      )
