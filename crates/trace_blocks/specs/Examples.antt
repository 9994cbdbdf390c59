-- Computed blocks: one row, ten rows, check words that wrap, and what a reader says of blocks, right and wrong. Assumes nothing.
use Rattle.std.specs.Prelude.{ℕ, ◌+◌, ◌-◌, ◌*◌, ◌^◌, true, false, ◌≡◌, refl, List, [], ◌∷◌, ◌++◌, map, length, take, drop, replicate, Some, None}
use Rattle.rules.specs.Base.{from}
use Rattle.trace_blocks.specs.declared.BlockKind.{BlockKind}
use Rattle.trace_blocks.specs.Blocks.{six, is_kind, bytes_of, word_at, halves, body_of, check_of, words_of, block_of, fills_block, can_write, written_block, is_block, judged, number_at, rows_in}
use Rattle.trace_blocks.specs.Pairs.{pair_at, numbers_out, count_out}

-- the message from 3:4 to 5:6 at the clock 4, about the job 11
abbrev row : List ℕ
row = 3 ∷ 4 ∷ 5 ∷ 6 ∷ 0x4010_0000_0000_0000 ∷ 11 ∷ []

-- so many numbers, each with two words of its own: n and n + 100, from 1 on
abbrev numbers : ℕ → List ℕ
numbers n = map (λ i. i + (i + 100) * 2 ^ 32) (from 1 n)

-- a second kind (A8's): eight rows of seven numbers, word 126 is 1
abbrev eight : BlockKind
eight = record { width = 7; most = 8; mark = 1 }

-- the block of these words, of 0 from there to word 125, and of the words 126 and 127
abbrev block : List ℕ → (mark check : ℕ) → List ℕ
block words mark check = bytes_of (words ++ (replicate (126 - length words) 0 ++ mark ∷ check ∷ []))

-- the words before the unused ones: block 7 with that row. 7 + 1 + 3 + 4 + 5 + 6 + 0x4010_0000 + 11 is 0x4010_0025, and 0xffff_ffff - 0x4010_0025 is 0xbfef_ffda
abbrev used : List ℕ
used = 7 ∷ 1 ∷ 3 ∷ 0 ∷ 4 ∷ 0 ∷ 5 ∷ 0 ∷ 6 ∷ 0 ∷ 0 ∷ 0x4010_0000 ∷ 11 ∷ 0 ∷ []

abbrev good : List ℕ
good = block used 0 0xbfef_ffda

-- block 5, full: the first words are 1 to 60, 1,830 in all, the second ones 101 to 160, 7,830 in all; with 5 and 10 that is 9,675, and 2^32 - 1 - 9,675 is 0xffff_da34
abbrev full : List ℕ
full = block (5 ∷ 10 ∷ halves (numbers 60)) 0 0xffff_da34

-- a row that brings the sum of block 7 to 2^32 - 1 with no check word: 7 + 1 + (2^32 - 9)
abbrev even_row : List ℕ
even_row = 0xffff_fff7 ∷ replicate 5 0

pub record Words : Type 0 where
  -- "little-endian words"
  pub little : bytes_of (0x0403_0201 ∷ 0x0807_0605 ∷ []) ≡ 1 ∷ 2 ∷ 3 ∷ 4 ∷ 5 ∷ 6 ∷ 7 ∷ 8 ∷ []
  pub word_back : word_at (1 ∷ 2 ∷ 3 ∷ 4 ∷ 5 ∷ 6 ∷ 7 ∷ 8 ∷ []) 1 ≡ 0x0807_0605
  pub largest : word_at (replicate 4 255) 0 ≡ 2 ^ 32 - 1
  pub behind : word_at (1 ∷ 2 ∷ 3 ∷ 4 ∷ []) 1 ≡ 0
  -- "low word first"
  pub low_first : halves (0x0000_0002_0000_0001 ∷ 3 ∷ []) ≡ 1 ∷ 2 ∷ 3 ∷ 0 ∷ []
  pub number-back : number_at (bytes_of (8 ∷ 9 ∷ 1 ∷ 2 ∷ 3 ∷ 4 ∷ [])) 1 ≡ 0x0000_0004_0000_0003
  pub pair-back : pair_at (bytes_of (8 ∷ 9 ∷ 1 ∷ 2 ∷ [])) 1 ≡ 0x0000_0002_0000_0001
  -- "modulo 2^32, equal to 2^32 - 1"
  pub check-small : check_of (2 ∷ 3 ∷ []) ≡ 0xffff_fffa
  pub check-none : check_of (0xffff_fffe ∷ 1 ∷ []) ≡ 0
  pub check-ones : check_of (0xffff_ffff ∷ 1 ∷ []) ≡ 0xffff_ffff
  pub check-wraps : check_of (0xffff_ffff ∷ 0xffff_ffff ∷ 0xffff_ffff ∷ 9 ∷ []) ≡ 0xffff_fff9

pub words : Words
unfolding word_at number_at pair_at check_of
words = record { little = refl; word_back = refl; largest = refl; behind = refl; low_first = refl; number-back = refl; pair-back = refl; check-small = refl; check-none = refl; check-ones = refl; check-wraps = refl }

pub record Kinds : Type 0 where
  pub kind-six : is_kind six ≡ true
  pub kind-eight : is_kind eight ≡ true
  pub kind-least : is_kind (record { width = 1; most = 1; mark = 0 }) ≡ true
  pub kind-widest : is_kind (record { width = 31; most = 2; mark = 0 }) ≡ true
  pub kind-wider : is_kind (record { width = 21; most = 3; mark = 0 }) ≡ false
  pub no-width : is_kind (record { width = 0; most = 10; mark = 0 }) ≡ false
  pub no_rows : is_kind (record { width = 6; most = 0; mark = 0 }) ≡ false
  -- "the rows (1 to 10)", each whole
  pub none-fill : fills_block six 0 ≡ false
  pub part-fills : fills_block six 5 ≡ false
  pub one-fills : fills_block six 6 ≡ true
  pub more-fill : fills_block six 7 ≡ false
  pub ten-fill : fills_block six 60 ≡ true
  pub eleven-fill : fills_block six 66 ≡ false
  pub eight-fill : fills_block eight 56 ≡ true
  pub nine-fill : fills_block eight 63 ≡ false

pub kinds : Kinds
unfolding is_kind fills_block
kinds = record { kind-six = refl; kind-eight = refl; kind-least = refl; kind-widest = refl; kind-wider = refl; no-width = refl; no_rows = refl; none-fill = refl; part-fills = refl; one-fills = refl; more-fill = refl; ten-fill = refl; eleven-fill = refl; eight-fill = refl; nine-fill = refl }

pub record Blocks : Type 0 where
  pub one-row : words_of six 7 row ≡ 7 ∷ 1 ∷ 3 ∷ 0 ∷ 4 ∷ 0 ∷ 5 ∷ 0 ∷ 6 ∷ 0 ∷ 0 ∷ 0x4010_0000 ∷ 11 ∷ 0 ∷ (replicate 113 0 ++ 0xbfef_ffda ∷ [])
  pub one-long : length (block_of six 7 row) ≡ 512
  pub one-first : take 20 (block_of six 7 row) ≡ 7 ∷ 0 ∷ 0 ∷ 0 ∷ 1 ∷ 0 ∷ 0 ∷ 0 ∷ 3 ∷ 0 ∷ 0 ∷ 0 ∷ 0 ∷ 0 ∷ 0 ∷ 0 ∷ 4 ∷ 0 ∷ 0 ∷ 0 ∷ []
  pub one_last : drop 504 (block_of six 7 row) ≡ 0 ∷ 0 ∷ 0 ∷ 0 ∷ 0xda ∷ 0xff ∷ 0xef ∷ 0xbf ∷ []
  -- full: words 2 to 121 are used, 122 to 126 are zero
  pub ten-first : take 6 (words_of six 5 (numbers 60)) ≡ 5 ∷ 10 ∷ 1 ∷ 101 ∷ 2 ∷ 102 ∷ []
  pub ten-last : drop 120 (words_of six 5 (numbers 60)) ≡ 60 ∷ 160 ∷ 0 ∷ 0 ∷ 0 ∷ 0 ∷ 0 ∷ 0xffff_da34 ∷ []
  -- 120 words of all ones are 120 less than a multiple of 2^32: with 5 and 10, 105 less
  pub wraps : drop 119 (words_of six 5 (replicate 60 (2 ^ 64 - 1))) ≡ 0xffff_ffff ∷ 0xffff_ffff ∷ 0xffff_ffff ∷ 0 ∷ 0 ∷ 0 ∷ 0 ∷ 0 ∷ 104 ∷ []
  pub no-check : drop 126 (words_of six 7 even_row) ≡ 0 ∷ 0 ∷ []
  pub all-check : drop 126 (words_of six 8 even_row) ≡ 0 ∷ 0xffff_ffff ∷ []
  pub largest-number : take 2 (words_of six 0xffff_ffff row) ≡ 0xffff_ffff ∷ 1 ∷ []
  -- the second kind: words 2 to 113 are used, 114 to 125 are zero; 5 + 8 + 1,596 + 7,196 + 1 is 8,806
  pub eight-first : take 4 (words_of eight 5 (numbers 56)) ≡ 5 ∷ 8 ∷ 1 ∷ 101 ∷ []
  pub eight-last : drop 112 (words_of eight 5 (numbers 56)) ≡ 56 ∷ 156 ∷ (replicate 12 0 ++ 1 ∷ 0xffff_dd99 ∷ [])

pub blocks : Blocks
unfolding words_of body_of check_of block_of
blocks = record { one-row = refl; one-long = refl; one-first = refl; one_last = refl; ten-first = refl; ten-last = refl; wraps = refl; no-check = refl; all-check = refl; largest-number = refl; eight-first = refl; eight-last = refl }

pub record Lent : Type 0 where
  pub can : can_write six 6 512 ≡ true
  pub short : can_write six 6 511 ≡ false
  pub nothing : can_write six 0 512 ≡ false
  pub too_many : can_write six 66 512 ≡ false
  pub no_kind : can_write (record { width = 7; most = 9; mark = 1 }) 7 512 ≡ false
  -- what is behind the block stays; with no room all stays
  pub written : written_block six 7 row (replicate 513 9) ≡ good ++ 9 ∷ []
  pub stays : written_block six 7 row (replicate 511 9) ≡ replicate 511 9

pub lent : Lent
unfolding can_write is_kind fills_block written_block block_of words_of body_of check_of
lent = record { can = refl; short = refl; nothing = refl; too_many = refl; no_kind = refl; written = refl; stays = refl }

pub record Judgements : Type 0 where
  pub one : judged six 7 true good ≡ Some 1
  -- full, with a sum that wraps
  pub ten : judged six 5 false (block (5 ∷ 10 ∷ replicate 120 0xffff_ffff) 0 104) ≡ Some 10
  pub second-kind : judged eight 7 true (block used 1 0xbfef_ffd9) ≡ Some 1
  -- "a wrong length", where all else is right: the last byte of this one is 0
  pub short : judged six 7 true (take 511 (block (7 ∷ 1 ∷ halves even_row) 0 0)) ≡ None
  pub long : judged six 7 true (good ++ 0 ∷ []) ≡ None
  -- "number"
  pub other-number : judged six 8 true good ≡ None
  pub number-wraps : judged six (2 ^ 32 + 7) true good ≡ None
  -- "count"
  pub no_row : judged six 7 true (block (7 ∷ 0 ∷ []) 0 0xffff_fff8) ≡ None
  pub eleven : judged six 7 true (block (7 ∷ 11 ∷ []) 0 0xffff_ffed) ≡ None
  pub not_full : judged six 7 false good ≡ None
  -- "zero word": the first unused one, the last, the one behind ten rows, and word 126
  pub first-unused : judged six 7 true (block (used ++ 1 ∷ []) 0 0xbfef_ffd9) ≡ None
  pub last-unused : judged six 7 true (block (used ++ (replicate 111 0 ++ 1 ∷ [])) 0 0xbfef_ffd9) ≡ None
  pub behind-ten : judged six 5 true (block (5 ∷ 10 ∷ halves (numbers 60) ++ 1 ∷ []) 0 0xffff_da33) ≡ None
  pub marked : judged six 7 true (block used 1 0xbfef_ffd9) ≡ None
  pub not-marked : judged eight 7 true good ≡ None
  -- "check"
  pub one_less : judged six 7 true (block used 0 0xbfef_ffd9) ≡ None
  -- what is no kind has no block
  pub no_kind : judged (record { width = 0; most = 10; mark = 0 }) 7 true (block (7 ∷ 1 ∷ []) 0 0xffff_fff7) ≡ None

pub judgements : Judgements
unfolding judged is_kind is_block word_at
judgements = record { one = refl; ten = refl; second-kind = refl; short = refl; long = refl; other-number = refl; number-wraps = refl; no_row = refl; eleven = refl; not_full = refl; first-unused = refl; last-unused = refl; behind-ten = refl; marked = refl; not-marked = refl; one_less = refl; no_kind = refl }

pub record Read : Type 0 where
  pub rows_back : rows_in six good ≡ row
  pub ten-back : rows_in six full ≡ numbers 60
  pub seventh-back : rows_in eight (block used 1 0xbfef_ffd9) ≡ row ++ 0 ∷ []
  -- so many as there is room for; nothing of a shorter block, nor more than a block holds
  pub two_out : numbers_out good (replicate 2 9) ≡ 3 ∷ 4 ∷ []
  pub two-long : numbers_out (good ++ 9 ∷ []) (replicate 2 9) ≡ 3 ∷ 4 ∷ []
  pub none-short : numbers_out (take 511 good) (replicate 2 9) ≡ replicate 2 9
  pub most-out : drop 60 (numbers_out full (replicate 62 9)) ≡ 0 ∷ 0 ∷ []
  pub none_more : numbers_out full (replicate 63 9) ≡ replicate 63 9
  pub count-out : count_out full ≡ 10
  pub count_long : count_out (full ++ 9 ∷ []) ≡ 10
  pub count-short : count_out (take 511 full) ≡ 0

pub read : Read
unfolding word_at number_at numbers_out count_out
read = record { rows_back = refl; ten-back = refl; seventh-back = refl; two_out = refl; two-long = refl; none-short = refl; most-out = refl; none_more = refl; count-out = refl; count_long = refl; count-short = refl }
