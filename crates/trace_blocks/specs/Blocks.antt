-- A trace on disk (02, A1), block by block: the 128 words of so many rows and their 512 bytes; what a reader asks of a block, and the rows in it. Definitions only. Assumes nothing.
use Rattle.std.specs.Prelude.{ℕ, ◌+◌, ◌-◌, ◌*◌, ◌/◌, ◌%◌, ◌^◌, Bool, ◌||◌, List, [], ◌∷◌, ◌++◌, map, length, get_or, leb, eqb, if◌then◌else◌, Option, Some, None}
use Rattle.rules.specs.Base.{every, hold, from}
use Rattle.words.specs.Laying.{zeros, over}
use Rattle.trace_blocks.specs.declared.BlockKind.{BlockKind}

-- "blocks of 512 bytes, 128 little-endian words of 32 bits"
abbrev pub block_bytes : ℕ
block_bytes = 512

abbrev pub word_limit : ℕ
word_limit = 2 ^ 32

-- what a kind says: how many numbers a row has, how many rows a block has at most, and word 126. A1's: "ten rows of twelve words", "122 to 126 are zero"
abbrev pub six : BlockKind
six = record { width = 6; most = 10; mark = 0 }

-- its rows have room in the words 2 to 125: 124 words, two a number
unfoldable pub is_kind : BlockKind → Bool
is_kind kind = hold (leb 1 kind.width ∷ leb 1 kind.most ∷ leb (kind.width * kind.most) 62 ∷ [])

-- ---- words and bytes, both ways
abbrev pub word_bytes : ℕ → List ℕ
word_bytes w = w % 256 ∷ w / 256 % 256 ∷ w / 65_536 % 256 ∷ w / 16_777_216 % 256 ∷ []

abbrev pub bytes_of : List ℕ → List ℕ
bytes_of [] = []
bytes_of (w ∷ ws) = word_bytes w ++ bytes_of ws

unfoldable pub word_at : List ℕ → ℕ → ℕ
word_at bytes i = get_or bytes (4 * i) 0 + get_or bytes (4 * i + 1) 0 * 256 + get_or bytes (4 * i + 2) 0 * 65_536 + get_or bytes (4 * i + 3) 0 * 16_777_216

-- "low word first"
abbrev pub halves : List ℕ → List ℕ
halves [] = []
halves (n ∷ ns) = n % word_limit ∷ n / word_limit ∷ halves ns

abbrev pub sum : List ℕ → ℕ
sum [] = 0
sum (w ∷ ws) = w + sum ws

-- ---- the block of these rows, which are given number after number
-- "Word 0 is the block number from 0, word 1 the rows (1 to 10), words 2 to 121 ten rows of twelve words, low word first, unused ones zero; 122 to 126 are zero"
unfoldable pub body_of : BlockKind → (number : ℕ) → List ℕ → List ℕ
body_of kind number rows = number ∷ length rows / kind.width ∷ halves rows ++ (zeros (124 - 2 * length rows) ++ kind.mark ∷ [])

-- "127 makes the sum of all 128 words, modulo 2^32, equal to 2^32 - 1"
unfoldable pub check_of : List ℕ → ℕ
check_of body = word_limit - 1 - sum body % word_limit

unfoldable pub words_of : BlockKind → (number : ℕ) → List ℕ → List ℕ
words_of kind number rows = body_of kind number rows ++ check_of (body_of kind number rows) ∷ []

unfoldable pub block_of : BlockKind → (number : ℕ) → List ℕ → List ℕ
block_of kind number rows = bytes_of (words_of kind number rows)

-- whole rows, at least one and at most as many as a block holds
unfoldable pub fills_block : BlockKind → (numbers : ℕ) → Bool
fills_block kind numbers = hold (leb 1 numbers ∷ eqb (numbers % kind.width) 0 ∷ leb numbers (kind.width * kind.most) ∷ [])

-- there is such a block, and room for it
unfoldable pub can_write : BlockKind → (numbers room : ℕ) → Bool
can_write kind numbers room = hold (is_kind kind ∷ fills_block kind numbers ∷ leb block_bytes room ∷ [])

-- what is lent for the block, after that
unfoldable pub written_block : BlockKind → (number : ℕ) → (rows lent : List ℕ) → List ℕ
written_block kind number rows lent = if can_write kind (length rows) (length lent) then over (block_of kind number rows) lent else lent

-- ---- what a reader asks of a block with its number, which ends the file or does not: "a wrong length, number, count, zero word or check"
abbrev pub count_in : List ℕ → ℕ
count_in block = word_at block 1

-- the word behind those of the block's rows
abbrev pub unused_from : BlockKind → List ℕ → ℕ
unused_from kind block = 2 + 2 * (kind.width * count_in block)

-- how a block is told to be one: each line is a rule of its own
unfoldable pub is_block : BlockKind → (number : ℕ) → (ends : Bool) → List ℕ → Bool
is_block kind number ends block =
    hold
    (eqb (length block) block_bytes
    ∷ eqb (word_at block 0) number
    ∷ leb 1 (count_in block)
    ∷ leb (count_in block) kind.most
    ∷ (ends || eqb (count_in block) kind.most)
    ∷ every (λ i. eqb (word_at block i) 0) (from (unused_from kind block) (126 - unused_from kind block))
    ∷ eqb (word_at block 126) kind.mark
    ∷ eqb (sum (map (word_at block) (from 0 128)) % word_limit) (word_limit - 1)
    ∷ [])

-- how many rows it has, or none where it is bad; so is every block of what is no kind
unfoldable pub judged : BlockKind → (number : ℕ) → (ends : Bool) → List ℕ → Option ℕ
judged kind number ends block = if hold (is_kind kind ∷ is_block kind number ends block ∷ []) then Some (count_in block) else None

-- ---- the rows in a block: so many numbers from word 2 on
unfoldable pub number_at : List ℕ → ℕ → ℕ
number_at block i = word_at block (2 + 2 * i) + word_at block (3 + 2 * i) * word_limit

abbrev pub numbers_in : (numbers : ℕ) → List ℕ → List ℕ
numbers_in numbers block = map (number_at block) (from 0 numbers)

abbrev pub rows_in : BlockKind → List ℕ → List ℕ
rows_in kind block = numbers_in (kind.width * count_in block) block
