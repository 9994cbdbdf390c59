-- A block by pairs of words, as the code goes through it; the numbers of a block's rows in what is lent for them. Definitions only. Assumes nothing.
use Rattle.std.specs.Prelude.{ℕ, ◌+◌, ◌*◌, ◌&&◌, List, length, leb, if◌then◌else◌}
use Rattle.trace_blocks.specs.Blocks.{block_bytes, word_limit, word_at, count_in, numbers_in}

-- the words 2 i and 2 i + 1 as one number, low word first
unfoldable pub pair_at : List ℕ → ℕ → ℕ
pair_at bytes i = word_at bytes (2 * i) + word_at bytes (2 * i + 1) * word_limit

-- so many numbers as there is room for, where a block holds so many
unfoldable pub numbers_out : (block rows : List ℕ) → List ℕ
numbers_out block rows = if leb block_bytes (length block) && leb (length rows) 62 then numbers_in (length rows) block else rows

unfoldable pub count_out : List ℕ → ℕ
count_out block = if leb block_bytes (length block) then count_in block else 0
