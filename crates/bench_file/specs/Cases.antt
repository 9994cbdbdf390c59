-- Files computed: what is read, where it stands, and which line is wrong. Assumes nothing.
use Rattle.std.specs.Prelude.{◌≡◌, refl, true, false, ℕ, List, [], ◌∷◌, ◌++◌, replicate, Ok, Err}
use Rattle.std.specs.Float.Ieee.{of_int, to_bits}
use Rattle.bench_words.specs.Splitting.{lines_from, words_from, word_at}
use Rattle.bench_words.specs.Numbers.{digit_of, numeral, number_of, has_bits, time_of}
use Rattle.bench_words.specs.Texts.{bytes, same}
use Rattle.bench_lines.specs.declared.Value.TheVariants.{TheEnd, AnId}
use Rattle.bench_lines.specs.declared.Wanted.TheVariants.{AnItem, AValue, NoMore}
use Rattle.bench_lines.specs.Reading.{only, read_line}
use Rattle.bench_file.specs.declared.Page.TheVariants.{Models, Connectors, Couplings, Services, Actions}
use Rattle.bench_file.specs.Filing.{Pages, pages_at, ending, wrong_line, read_file, line_of}

-- what is lent: room for two models and a word more, one connector, no coupling, three service times, two actions. All of it holds 7
abbrev lent : Pages
lent = pages_at (replicate 21 7) (replicate 4 7) (replicate 5 7) (replicate 3 7) (replicate 14 7)

abbrev on_each : List ℕ
on_each = bytes "# each\ncoupled 1\nconnector 1:1 to 2:1\ninput 1:1 to 2:1\n\nservice 1\nrows\nstep_n 1"

pub record Table : Type 0 where
  -- the rows from the start on, and 7 beyond
  pub bench :
      read_file (bytes "# the bench\nbatcher 1 in 1 out 2 max_batch_size 2 max_batch_time 10\nprocessor 2 in 1 out 2 queue_capacity 8\nconnector 1:2 to 2:1\n\nservice 4\nservice 5\ninject_input 0:1 to 1:1 time 0 content 11\nstep_until_idle allowance 100\nrows") lent
      ≡ ending (Ok (record { models = 2; connectors = 1; couplings = 0; services = 2; actions = 2; rows = true }))
      (pages_at (1 ∷ 2 ∷ 0 ∷ 0 ∷ 1 ∷ 0 ∷ 0 ∷ 2 ∷ 2 ∷ 0x4024000000000000 ∷ 2 ∷ 1 ∷ 2 ∷ 0 ∷ 1 ∷ 0 ∷ 0 ∷ 2 ∷ 8 ∷ 0 ∷ 7 ∷ []) (1 ∷ 2 ∷ 2 ∷ 1 ∷ []) (replicate 5 7) (0x4010000000000000 ∷ 0x4014000000000000 ∷ 7 ∷ []) (1 ∷ 0 ∷ 1 ∷ 1 ∷ 1 ∷ 0 ∷ 11 ∷ 4 ∷ 100 ∷ 0 ∷ 0 ∷ 0 ∷ 0 ∷ 0 ∷ []))
  pub empty : read_file [] lent ≡ ending (Ok (record { models = 0; connectors = 0; couplings = 0; services = 0; actions = 0; rows = false })) lent
  -- line 3, with the rows of the lines before it
  pub wrong : read_file (bytes "service 1\r\n\nservice 2 3\nrows\n") lent
      ≡ ending (Err (wrong_line 3 11 (only (AValue TheEnd)))) (pages_at (replicate 21 7) (replicate 4 7) (replicate 5 7) (0x3ff0000000000000 ∷ 7 ∷ 7 ∷ []) (replicate 14 7))
  -- a byte above 127, and a NUL
  pub other-bytes : read_file (200 ∷ 0 ∷ []) lent ≡ ending (Err (wrong_line 1 1 (only AnItem))) lent
  pub nul-in-a-number : read_file (bytes "coupled " ++ 49 ∷ 0 ∷ []) lent ≡ ending (Err (wrong_line 1 9 (only (AValue AnId)))) lent
  -- there is no whole row for a coupling
  pub no_room : read_file (bytes "\n  input 1:1 to 2:1") lent ≡ ending (Err (wrong_line 2 3 (only NoMore))) lent
  -- a mark at the start is passed over, and its bytes are no columns; two of its bytes are none, and one behind the start is none
  pub marked : read_file (0xEF ∷ 0xBB ∷ 0xBF ∷ bytes "x") lent ≡ ending (Err (wrong_line 1 1 (only AnItem))) lent
  pub mark-alone : read_file (0xEF ∷ 0xBB ∷ 0xBF ∷ []) lent ≡ read_file [] lent
  pub half-a-mark : read_file (0xEF ∷ 0xBB ∷ []) lent ≡ ending (Err (wrong_line 1 1 (only AnItem))) lent
  pub mark-behind : read_file (32 ∷ 0xEF ∷ 0xBB ∷ 0xBF ∷ []) lent ≡ ending (Err (wrong_line 1 2 (only AnItem))) lent
  -- the lines of a page's rows
  pub first-service : line_of Services 0 (bytes "\nservice 1\nrows\nservice 2") ≡ 2
  pub second-service : line_of Services 1 (bytes "\nservice 1\nrows\nservice 2") ≡ 4
  pub no_third : line_of Services 2 (bytes "\nservice 1\nrows\nservice 2") ≡ 0
  pub no-model : line_of Models 0 (bytes "\nservice 1\nrows\nservice 2") ≡ 0
  -- one row of each page, and the lines that are none
  pub each-page : (line_of Models 0 on_each ≡ 2) × (line_of Connectors 0 on_each ≡ 3) × (line_of Couplings 0 on_each ≡ 4) × (line_of Services 0 on_each ≡ 6) × (line_of Actions 0 on_each ≡ 8)

pub cases : Table
unfolding read_file line_of lines_from read_line words_from word_at same digit_of numeral number_of has_bits time_of of_int to_bits
cases = record { bench = refl; empty = refl; wrong = refl; other-bytes = refl; nul-in-a-number = refl; no_room = refl; marked = refl; mark-alone = refl; half-a-mark = refl; mark-behind = refl; first-service = refl; second-service = refl; no_third = refl; no-model = refl; each-page = (refl, refl, refl, refl, refl) }
