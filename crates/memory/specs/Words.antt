-- The changing part of a lent state, by its words (docs/LAYOUT.md): three words of the simulation, four words a row, each row's own words in row order. Definitions only. Assumes nothing.
use Rattle.std.specs.Prelude.{ℕ, ◌+◌, ◌*◌, ◌≤◌, ◌<◌, ◌≡◌, ◌⊎◌, List, ◌++◌, length, get_or, set, take, drop}
use Rattle.rules.specs.Table.{Kind, processor, batcher, stopwatch, coupled}

abbrev pub word_at : List ℕ → ℕ → ℕ
word_at mem p = get_or mem p 0

-- ---- word 0: how many messages are active. Word 1: the clock's bits. Word 2: the place in the service list
abbrev pub place_at : ℕ
place_at = 2

abbrev pub place_in : List ℕ → ℕ
place_in mem = word_at mem place_at

-- ---- from word 3 on, four words a row: its phase, its timer's bits, how many it holds, where its own words begin
abbrev pub head_at : ℕ → ℕ
head_at i = i * 4 + 3

abbrev pub phase_in : List ℕ → ℕ → ℕ
phase_in mem i = word_at mem (head_at i)

abbrev pub timer_in : List ℕ → ℕ → ℕ
timer_in mem i = word_at mem (head_at i + 1)

abbrev pub held_in : List ℕ → ℕ → ℕ
held_in mem i = word_at mem (head_at i + 2)

abbrev pub begin_in : List ℕ → ℕ → ℕ
begin_in mem i = word_at mem (head_at i + 3)

-- the first three words of a row, written
abbrev pub headed : ℕ → ℕ → ℕ → ℕ → List ℕ → List ℕ
headed i phase timer held mem = set (set (set mem (head_at i) phase) (head_at i + 1) timer) (head_at i + 2) held

-- ---- then the rows' own words: 64 places, or the 192 words of a stopwatch's jobs
abbrev pub width_of : Kind → ℕ
width_of (processor p) = 64
width_of (batcher b) = 64
width_of (stopwatch w) = 192
width_of coupled = 64

-- `width` words from `begin` on
abbrev pub own_in : ℕ → ℕ → List ℕ → List ℕ
own_in begin width mem = take width (drop begin mem)

-- the words with `width` of them, from b on, replaced by others
abbrev pub replaced : ℕ → ℕ → List ℕ → List ℕ → List ℕ
replaced b width words mem = take b mem ++ (words ++ drop (b + width) mem)

-- where a row of a kind stands: its own words begin at b, after its head, and are there
pub record Placed (k : Kind) (b : ℕ) (mem : List ℕ) (i : ℕ) : Type 0 where
  pub begin : begin_in mem i ≡ b
  pub head : head_at i + 4 ≤ b
  pub room : b + width_of k ≤ length mem

-- p is none of the words that an event of the row i may write: the place, the first three of its head, its own words from b on, and from lo to before hi
pub record Away (i b width lo hi p : ℕ) : Type 0 where
  pub place : (p < place_at) ⊎ (place_at < p)
  pub head : (p < head_at i) ⊎ (head_at i + 3 ≤ p)
  pub own : (p < b) ⊎ (b + width ≤ p)
  pub out : (p < lo) ⊎ (hi ≤ p)

-- only such words were written
pub record Own (i b width lo hi : ℕ) (mem after : List ℕ) : Type 0 where
  pub long : length after ≡ length mem
  pub rest : (p : ℕ) → Away i b width lo hi p → word_at after p ≡ word_at mem p

-- only words from lo to before hi were written
pub record Only (lo hi : ℕ) (mem after : List ℕ) : Type 0 where
  pub long : length after ≡ length mem
  pub rest : (p : ℕ) → (p < lo) ⊎ (hi ≤ p) → word_at after p ≡ word_at mem p
