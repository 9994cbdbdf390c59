-- A trace on disk (02, A1): the file of a list of rows, in blocks, and the reading of a file from a block on. Definitions only. Assumes nothing.
use Rattle.std.specs.Prelude.{ℕ, zero, suc, ◌+◌, ◌-◌, ◌*◌, ◌/◌, ◌^◌, Bool, ◌&&◌, List, [], ◌∷◌, ◌++◌, map, length, take, drop, leb, eqb, if◌then◌else◌}
use Rattle.rules.specs.Base.{Outcome, refused, done, from}
use Rattle.rules.specs.declared.Refusal.TheVariants.{NoOutRoom, BadBlock}
use Rattle.rules.specs.Names.{number}
use Rattle.words.specs.Laying.{over}
use Rattle.trace_blocks.specs.declared.BlockKind.{BlockKind}
use Rattle.trace_blocks.specs.Blocks.{block_bytes, block_of, count_in, is_block, rows_in}

-- so many as it takes to hold n, at `each` apiece
abbrev pub pieces : (each n : ℕ) → ℕ
pieces each n = (n + (each - 1)) / each

-- ---- the file of rows, which are given number after number
-- the numbers of a full block
abbrev pub full_of : BlockKind → ℕ
full_of kind = kind.width * kind.most

-- "All blocks but the last are full": the numbers of block i
abbrev pub part_of : BlockKind → List ℕ → ℕ → List ℕ
part_of kind rows i = take (full_of kind) (drop (full_of kind * i) rows)

abbrev pub joined : List (List ℕ) → List ℕ
joined [] = []
joined (xs ∷ xss) = xs ++ joined xss

-- the first n blocks of these rows, numbered from `start` on
abbrev pub blocks_of : BlockKind → (start : ℕ) → List ℕ → (n : ℕ) → List ℕ
blocks_of kind start rows n = joined (map (λ i. block_of kind (start + i) (part_of kind rows i)) (from 0 n))

-- "and no rows make a file of no bytes"
abbrev pub file_from : BlockKind → (start : ℕ) → List ℕ → List ℕ
file_from kind start rows = blocks_of kind start rows (pieces (full_of kind) (length rows))

abbrev pub file_of : BlockKind → List ℕ → List ℕ
file_of kind rows = file_from kind 0 rows

-- ---- a writer
-- how many rows there are, and their numbers: "Words past a lent buffer's last whole row are neither read nor written."
abbrev pub row_count : BlockKind → (numbers : ℕ) → ℕ
row_count kind numbers = numbers / kind.width

abbrev pub whole_rows : BlockKind → List ℕ → List ℕ
whole_rows kind rows = take (row_count kind (length rows) * kind.width) rows

abbrev pub most_traced : ℕ
most_traced = 2 ^ 32

-- how many bytes the blocks have of so many lent numbers
abbrev pub bytes_for : BlockKind → (numbers : ℕ) → ℕ
bytes_for kind numbers = block_bytes * pieces kind.most (row_count kind numbers)

-- include/jambthrush.h: "How many bytes the blocks of so many words of rows have; words past the last whole row are not counted. 0 where there is no whole row, and where there are more than 2^32 rows."
unfoldable pub trace_bytes : BlockKind → (numbers : ℕ) → ℕ
trace_bytes kind numbers = if leb (row_count kind numbers) most_traced then bytes_for kind numbers else 0

-- "A writer refuses with 13 where the blocks don't fit or there are more than 2^32 rows", those of the blocks before `start` counted
unfoldable pub write_trace : BlockKind → (rows : List ℕ) → (start room : ℕ) → Outcome (List ℕ)
write_trace kind rows start room =
    if leb (kind.most * start + row_count kind (length rows)) most_traced && leb (bytes_for kind (length rows)) room
    then done (file_from kind start (whole_rows kind rows))
    else refused NoOutRoom

-- what is lent for the file, after that: "nothing is written" where it is refused
abbrev pub file_after : List ℕ → Outcome (List ℕ) → List ℕ
file_after file (refused r) = file
file_after file (done bytes) = over bytes file

-- ---- a reader
-- what it answers: the rows, number after number; or "14 BadBlock, with the first bad block's number"; or 13, "given where the rows read don't fit"
pub data Reading : Type 0 where
  read : List ℕ → Reading
  bad_block : ℕ → Reading
  no_room : Reading

abbrev pub block_at : List ℕ → ℕ → List ℕ
block_at file i = take block_bytes (drop (block_bytes * i) file)

-- block i ends the file: no byte is behind it
abbrev pub ends_file : List ℕ → ℕ → Bool
ends_file file i = eqb (block_bytes * suc i) (length file)

abbrev pub is_good : BlockKind → List ℕ → ℕ → Bool
is_good kind file i = is_block kind i (ends_file file i) (block_at file i)

-- the rows of one block, before those of the blocks behind it
abbrev pub before : List ℕ → Reading → Reading
before rows (read more) = read (rows ++ more)
before rows (bad_block i) = bad_block i
before rows no_room = no_room

-- n blocks from block i on, into room for so many rows: "at each block before 13, given where the rows read don't fit"
unfoldable pub read_blocks : BlockKind → (file : List ℕ) → (n i room : ℕ) → Reading
read_blocks kind file zero i room = read []
read_blocks kind file (suc n) i room =
    let count = count_in (block_at file i) in
    if is_good kind file i
    then (if leb count room then before (rows_in kind (block_at file i)) (read_blocks kind file n (suc i) (room - count)) else no_room)
    else bad_block i

-- how many blocks a file has, a last one cut short counted
abbrev pub blocks_in : List ℕ → ℕ
blocks_in file = pieces block_bytes (length file)

-- "a reader may start at any block"; "14 .. for a start past the end"
unfoldable pub read_trace : BlockKind → (file : List ℕ) → (start room : ℕ) → Reading
read_trace kind file start room =
    if leb (block_bytes * start) (length file) then read_blocks kind file (blocks_in file - start) start room else bad_block start

-- its number
abbrev pub reading_number : Reading → ℕ
reading_number (read rows) = 0
reading_number (bad_block i) = number BadBlock
reading_number no_room = number NoOutRoom

-- the rows that were lent, after that: "A refused read writes no row."
abbrev pub rows_after : List ℕ → Reading → List ℕ
rows_after rows (read numbers) = over numbers rows
rows_after rows (bad_block i) = rows
rows_after rows no_room = rows
