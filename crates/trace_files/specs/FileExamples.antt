-- Computed files: of no rows, 1, 10, 11 and 12 rows; reading from block 1, from the end and past it; 13 before and after 14; how many bytes, and when a writer refuses; what is lent and answered after each. Assumes nothing.
use Rattle.std.specs.Prelude.{ℕ, ◌*◌, ◌+◌, ◌-◌, ◌^◌, ◌≡◌, refl, List, [], ◌∷◌, ◌++◌, map, length, set, take, drop, Ok, Err}
use Rattle.rules.specs.Base.{refused, done, from}
use Rattle.rules.specs.declared.Refusal.TheVariants.{NoOutRoom}
use Rattle.trace_blocks.specs.Blocks.{six, word_at, block_of, words_of, body_of, check_of, is_block, number_at}
use Rattle.trace_files.specs.declared.ReadError.TheVariants.{BadBlock, NoRoom}
use Rattle.trace_files.specs.Files.{joined, file_from, file_of, trace_bytes, write_trace, file_after, read, bad_block, no_room, block_at, read_blocks, read_trace, reading_number, rows_after}
use Rattle.trace_files.specs.Answers.{written_is, read_is}

-- so many rows: jobs 1, 2, .. that go from 1:2 to 2:1 at the clock 4
abbrev rows : ℕ → List ℕ
rows n = joined (map (λ job. 1 ∷ 2 ∷ 2 ∷ 1 ∷ 0x4010_0000_0000_0000 ∷ job ∷ []) (from 1 n))

abbrev file : ℕ → List ℕ
file n = file_of six (rows n)

-- ---- "no rows make a file of no bytes"
none_written : file_of six [] ≡ []
none_written = refl

none_read : read_trace six [] 0 0 ≡ read []
unfolding read_trace read_blocks
none_read = refl

past-nothing : read_trace six [] 1 0 ≡ bad_block 1
unfolding read_trace
past-nothing = refl

-- ---- 1, 10 and 11 rows
blocks-long : map (λ n. length (file n)) (1 ∷ 10 ∷ 11 ∷ []) ≡ 512 ∷ 512 ∷ 1_024 ∷ []
unfolding block_of words_of body_of check_of
blocks-long = refl

-- the second block of 12 rows: its number and its count, which differ; and the block of a part that begins later
second_block : map (word_at (block_at (file 12) 1)) (0 ∷ 1 ∷ []) ≡ 1 ∷ 2 ∷ []
unfolding block_of words_of body_of check_of word_at
second_block = refl

later-part : map (word_at (file_from six 429_496_729 (rows 3))) (0 ∷ 1 ∷ []) ≡ 429_496_729 ∷ 3 ∷ []
unfolding block_of words_of body_of check_of word_at
later-part = refl

-- all 11 rows in their order; the second block's do not fit behind those of the first
eleven : map (read_trace six (file 11) 0) (11 ∷ 10 ∷ []) ≡ read (rows 11) ∷ no_room ∷ []
unfolding read_trace read_blocks is_block block_of words_of body_of check_of word_at number_at
eleven = refl

-- ---- from a block on, from the end, and past it
starts : map (λ start. read_trace six (file 11) start 1) (1 ∷ 2 ∷ 3 ∷ []) ≡ read (1 ∷ 2 ∷ 2 ∷ 1 ∷ 0x4010_0000_0000_0000 ∷ 11 ∷ []) ∷ read [] ∷ bad_block 3 ∷ []
unfolding read_trace read_blocks is_block block_of words_of body_of check_of word_at number_at
starts = refl

-- the block before the start is bad, and then the one at the start: it is told by its place in the file
bad-beside-start : map (λ at. read_trace six (set (file 11) at 7) 1 1) (100 ∷ 600 ∷ []) ≡ read (1 ∷ 2 ∷ 2 ∷ 1 ∷ 0x4010_0000_0000_0000 ∷ 11 ∷ []) ∷ bad_block 1 ∷ []
unfolding read_trace read_blocks is_block block_of words_of body_of check_of word_at number_at
bad-beside-start = refl

-- a file that ends within block 1: read from there, and from places past the end
torn-starts : map (λ start. read_trace six (take 600 (file 11)) start 0) (1 ∷ 2 ∷ (2 ^ 64 - 1) ∷ []) ≡ bad_block 1 ∷ bad_block 2 ∷ bad_block (2 ^ 64 - 1) ∷ []
unfolding read_trace read_blocks is_block block_of words_of body_of check_of word_at number_at
torn-starts = refl

-- block 0 of two is left out: found from 0, and not from 1, where the file ends now
left_out : map (λ start. read_trace six (drop 512 (file 11)) start 1) (0 ∷ 1 ∷ []) ≡ bad_block 0 ∷ read [] ∷ []
unfolding read_trace read_blocks is_block block_of words_of body_of check_of word_at number_at
left_out = refl

-- ---- 13 and 14: "at each block before 13"; and what is bad behind a block that does not fit is not seen
first_good : map (read_trace six (file 1) 0) (1 ∷ 0 ∷ []) ≡ read (rows 1) ∷ no_room ∷ []
unfolding read_trace read_blocks is_block block_of words_of body_of check_of word_at number_at
first_good = refl

first-bad : read_trace six (set (file 1) 100 7) 0 0 ≡ bad_block 0
unfolding read_trace read_blocks is_block block_of words_of body_of check_of word_at number_at
first-bad = refl

second-bad : map (read_trace six (set (file 11) 600 7) 0) (10 ∷ 9 ∷ []) ≡ bad_block 1 ∷ no_room ∷ []
unfolding read_trace read_blocks is_block block_of words_of body_of check_of word_at number_at
second-bad = refl

-- ---- a file of another length: cut short, and with a byte behind a block that is not full, and that is
wrong-lengths : map (λ bytes. read_trace six bytes 0 20) (take 1_023 (file 11) ∷ (file 1 ++ 0 ∷ []) ∷ (file 10 ++ 0 ∷ []) ∷ []) ≡ bad_block 1 ∷ bad_block 0 ∷ bad_block 1 ∷ []
unfolding read_trace read_blocks is_block block_of words_of body_of check_of word_at number_at
wrong-lengths = refl

-- ---- "0 where there is no whole row or there are more than 2^32 rows"
how-many-bytes : map (trace_bytes six) (0 ∷ 5 ∷ 6 ∷ 60 ∷ 66 ∷ (6 * 2 ^ 32) ∷ (6 * 2 ^ 32 + 6) ∷ []) ≡ 0 ∷ 0 ∷ 512 ∷ 512 ∷ 1_024 ∷ (512 * 429_496_730) ∷ 0 ∷ []
unfolding trace_bytes
how-many-bytes = refl

-- ---- a writer refuses where the blocks do not fit, and where 10 * start and the rows are above 2^32 together, also with no rows
fits-or-not : map (write_trace six (rows 1) 0) (512 ∷ 511 ∷ []) ≡ done (file 1) ∷ refused NoOutRoom ∷ []
unfolding write_trace
fits-or-not = refl

last-starts : map (λ start. write_trace six [] start 0) (429_496_729 ∷ 429_496_730 ∷ []) ≡ done [] ∷ refused NoOutRoom ∷ []
unfolding write_trace
last-starts = refl

last-rows : map (λ n. write_trace six (rows n) 429_496_729 512) (6 ∷ 7 ∷ []) ≡ done (file_from six 429_496_729 (rows 6)) ∷ refused NoOutRoom ∷ []
unfolding write_trace
last-rows = refl

-- ---- "Words past a lent buffer's last whole row are neither read nor written."
past-whole : map (λ more. write_trace six (rows 1 ++ more) 0 512) ((9 ∷ []) ∷ (9 ∷ 9 ∷ 9 ∷ 9 ∷ 9 ∷ []) ∷ []) ≡ done (file 1) ∷ done (file 1) ∷ []
unfolding write_trace
past-whole = refl

no_whole : write_trace six (9 ∷ 9 ∷ 9 ∷ 9 ∷ 9 ∷ []) 0 0 ≡ done []
unfolding write_trace
no_whole = refl

-- ---- what is lent, and what is answered: bytes written, none, and refused; rows read, none, a bad block, and no room
file-after : map (file_after (8 ∷ 8 ∷ 8 ∷ [])) (done (1 ∷ 2 ∷ []) ∷ done [] ∷ refused NoOutRoom ∷ []) ≡ (1 ∷ 2 ∷ 8 ∷ []) ∷ (8 ∷ 8 ∷ 8 ∷ []) ∷ (8 ∷ 8 ∷ 8 ∷ []) ∷ []
file-after = refl

written-told : map written_is (done (1 ∷ 2 ∷ []) ∷ done [] ∷ refused NoOutRoom ∷ []) ≡ Ok 2 ∷ Ok 0 ∷ Err NoOutRoom ∷ []
written-told = refl

rows-after : map (rows_after (8 ∷ 8 ∷ 8 ∷ [])) (read (1 ∷ 2 ∷ []) ∷ read [] ∷ bad_block 5 ∷ no_room ∷ []) ≡ (1 ∷ 2 ∷ 8 ∷ []) ∷ (8 ∷ 8 ∷ 8 ∷ []) ∷ (8 ∷ 8 ∷ 8 ∷ []) ∷ (8 ∷ 8 ∷ 8 ∷ []) ∷ []
rows-after = refl

read_told : map (read_is six) (read (rows 2) ∷ read [] ∷ bad_block 5 ∷ no_room ∷ []) ≡ Ok 2 ∷ Ok 0 ∷ Err (BadBlock 5) ∷ Err NoRoom ∷ []
read_told = refl

read-numbers : map reading_number (read (rows 2) ∷ bad_block 5 ∷ no_room ∷ []) ≡ 0 ∷ 14 ∷ 13 ∷ []
read-numbers = refl
