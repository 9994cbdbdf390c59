-- What the code's answers are, by the definitions: "When an answer is an enum, a definition states this paper's number and values for each enum case." Definitions only. Assumes nothing.
use Rattle.std.specs.Prelude.{ℕ, ◌/◌, Bool, true, false, List, length, Result, Ok, Err}
use Rattle.rules.specs.Base.{Outcome, refused, done}
use Rattle.trace_blocks.specs.declared.BlockKind.{BlockKind}
use Rattle.rules.specs.declared.Refusal.{Refusal}
use Rattle.trace_files.specs.declared.ReadError.{ReadError}
use Rattle.trace_files.specs.declared.ReadError.TheVariants.{BadBlock, NoRoom}
use Rattle.trace_files.specs.Files.{Reading, read, bad_block, no_room}

-- how many bytes were written, or why none
abbrev pub Written : Type 0
Written = Result ℕ Refusal

-- how many rows were read, or why none
abbrev pub Read : Type 0
Read = Result ℕ ReadError

-- 0 and the bytes written, or the refusal
abbrev pub written_is : Outcome (List ℕ) → Written
written_is (refused r) = Err r
written_is (done bytes) = Ok (length bytes)

-- 0 and the rows read; 14 and the bad block; 13
abbrev pub read_is : BlockKind → Reading → Read
read_is kind (read numbers) = Ok (length numbers / kind.width)
read_is kind (bad_block i) = Err (BadBlock i)
read_is kind no_room = Err NoRoom

-- it is no refusal
abbrev pub is_read : Reading → Bool
is_read (read numbers) = true
is_read (bad_block i) = false
is_read no_room = false
