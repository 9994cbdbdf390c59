-- The reader's answer: a start past the end or inside, and that a refusal leaves the rows as they were. Assumes nothing.
use Rattle.std.specs.Prelude.{ℕ, ◌*◌, ◌/◌, ◌≤◌, ◌<◌, ◌≡◌, refl, true, List, Ok, Err}
use Rattle.std.proofs.Common.{div-lt_iff_lt-mul, le-div_iff_mul-le, arith, le-leb}
use Rattle.std.proofs.lemmas.Bool.{lt-leb}
use Rattle.std.proofs.Math.ListN.{length}
use Rattle.trace_blocks.specs.declared.BlockKind.{BlockKind}
use Rattle.trace_files.specs.declared.ReadError.{ReadError}
use Rattle.trace_files.specs.declared.ReadError.TheVariants.{BadBlock, NoRoom}
use Rattle.trace_files.specs.Files.{Reading, read, bad_block, no_room, read_trace, rows_after}
use Rattle.trace_files.specs.Answers.{Read, is_read, read_is}
use Rattle.trace_files.proofs.ReadLoop.{rest}

module _ (kind : BlockKind) (file : List ℕ) (start room : ℕ) where
  pub past_end : length file / 512 < start → read_trace kind file start room ≡ bad_block start
  unfolding read_trace
  past_end l = let m : length file < start * 512 = (div-lt_iff_lt-mul {k = 512} (omega arith)).0 l in rw (lt-leb (512 * start) (length file) (omega arith))

  pub in-file : start ≤ length file / 512 → read_trace kind file start room ≡ rest kind file start room
  unfolding read_trace
  in-file l = let m : start * 512 ≤ length file = (le-div_iff_mul-le {k = 512} (omega arith)).0 l in rw (le-leb (512 * start) (length file) (omega arith))

-- ---- an answer and what was read
module _ (kind : BlockKind) (answer : Read) where
  pub rows-read : (r : Reading) (n : ℕ) → answer ≡ read_is kind r → answer ≡ Ok n → is_read r ≡ true
  rows-read (read numbers) n e a = refl
  rows-read (bad_block i) n e a = let z : ◌≡◌ {A = ℕ} 0 1 = cc in absurd (omega arith)
  rows-read no_room n e a = let z : ◌≡◌ {A = ℕ} 0 1 = cc in absurd (omega arith)

  pub err-keeps : (rows : List ℕ) (r : Reading) (why : ReadError) → answer ≡ read_is kind r → answer ≡ Err why → rows ≡ rows_after rows r
  err-keeps rows (read numbers) why e a = let z : ◌≡◌ {A = ℕ} 0 1 = cc in absurd (omega arith)
  err-keeps rows (bad_block j) why e a = refl
  err-keeps rows no_room why e a = refl

  pub bad-keeps : (rows : List ℕ) (r : Reading) (i : ℕ) → answer ≡ read_is kind r → answer ≡ Err (BadBlock i) → rows ≡ rows_after rows r
  bad-keeps rows r i e a = err-keeps rows r (BadBlock i) e a

  pub full-keeps : (rows : List ℕ) (r : Reading) → answer ≡ read_is kind r → answer ≡ Err NoRoom → rows ≡ rows_after rows r
  full-keeps rows r e a = err-keeps rows r NoRoom e a
