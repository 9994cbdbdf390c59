-- How a line is read: its words against the form of its item, and where it is wrong. Definitions only. Assumes nothing.
use Rattle.std.specs.Prelude.{ℕ, suc, Bool, true, false, List, [], ◌∷◌, get_or, set, drop, replicate, eqb, Option, Some, None, Result, Ok, Err, if◌then◌else◌}
use Rattle.std.specs.Int.Bits.{bit_or}
use Rattle.bench_words.specs.Splitting.{words_of, word_at}
use Rattle.bench_words.specs.Numbers.{number_of, time_of}
use Rattle.bench_words.specs.Texts.{bytes, padded, same, text_in}
use Rattle.bench_lines.specs.declared.Item.{Item}
use Rattle.bench_lines.specs.declared.Word.{Word}
use Rattle.bench_lines.specs.declared.Word.TheVariants.{Nothing, Parent, In, Out, QueueCapacity, MaxBatchSize, MaxBatchTime, Start, Stop, Ask, Metric, Colon, To, Time, Content, Allowance}
use Rattle.bench_lines.specs.declared.Value.{Value}
use Rattle.bench_lines.specs.declared.Value.TheVariants.{TheEnd, AnId, ASmall, AWhole, ATime, AMetric}
use Rattle.bench_lines.specs.declared.Wanted.{Wanted}
use Rattle.bench_lines.specs.declared.Wanted.TheVariants.{AnItem, TheWord, AValue}
use Rattle.bench_lines.specs.declared.Expected.{Expected}
use Rattle.bench_lines.specs.declared.Field.{Field}
use Rattle.bench_lines.specs.declared.Progress.{Progress}
use Rattle.bench_lines.specs.declared.Mistake.{Mistake}
use Rattle.bench_lines.specs.declared.Line.{Line}
use Rattle.bench_lines.specs.Names.{word_text}
use Rattle.bench_lines.specs.Forms.{start_of, form_of, fields_in, item_named, items}

-- ---- values
abbrev pub metric_of : List ℕ → Option ℕ
metric_of word = if same word (text_in (padded (bytes "minimum"))) then Some 0 else if same word (text_in (padded (bytes "maximum"))) then Some 1 else None

-- what a word stands for where this value is expected
abbrev pub value_of : Value → List ℕ → Option ℕ
value_of TheEnd word = None
value_of AnId word = number_of 0xFFFF word
value_of ASmall word = number_of 0xFFFF_FFFF word
value_of AWhole word = number_of 0xFFFF_FFFF_FFFF_FFFF word
value_of ATime word = time_of word
value_of AMetric word = metric_of word

abbrev pub is_end : Value → Bool
is_end TheEnd = true
is_end AnId = false
is_end ASmall = false
is_end AWhole = false
is_end ATime = false
is_end AMetric = false

abbrev pub has_word : Word → Bool
has_word Nothing = false
has_word Parent = true
has_word In = true
has_word Out = true
has_word QueueCapacity = true
has_word MaxBatchSize = true
has_word MaxBatchTime = true
has_word Start = true
has_word Stop = true
has_word Ask = true
has_word Metric = true
has_word Colon = true
has_word To = true
has_word Time = true
has_word Content = true
has_word Allowance = true

-- ---- what was expected
-- this, or the optional word that may stand before it
abbrev pub wants : Word → Wanted → Expected
wants word what = record { or = word; what = what }

-- just this
abbrev pub only : Wanted → Expected
only = wants Nothing

-- the column of the next word from a place on, or of the line's end: the bytes count from 1
abbrev pub column_at : List ℕ → ℕ → ℕ
column_at line at = suc (word_at line at).start

-- ---- fields
-- the cells, how far the line is read, and the optional word that was left out just there; or what was expected, and where
pub data Course : Type 0 where
  on : List ℕ → ℕ → Word → Course
  failed : Expected → ℕ → Course

-- the row with a field's value in its cell, and the field's flag in word 2
abbrev pub kept : Field → ℕ → List ℕ → List ℕ
kept f value cells = set (set cells 2 (bit_or (get_or cells 2 0) f.flag)) f.cell value

-- `or` is the optional word that was left out before the field, `at` how far the line is read
module _ (line : List ℕ) (f : Field) (or : Word) (at : ℕ) (cells : List ℕ) where
  abbrev pub taken : Option ℕ → Course
  taken (Some n) = on (kept f n cells) (word_at line at).end Nothing
  taken None = failed (wants or (AValue f.value)) at

  abbrev pub value_in : List (List ℕ) → Course
  value_in [] = if is_end f.value then on cells at Nothing else failed (wants or (AValue f.value)) at
  value_in (word ∷ rest) = taken (value_of f.value word)

  abbrev pub read_value : Course
  read_value = value_in (words_of (drop at line))

-- a field whose word is not there: only one with a flag may be left out
abbrev pub left_out : Field → Word → ℕ → List ℕ → Course
left_out f or at cells = if eqb f.flag 0 then failed (wants or (TheWord f.word)) at else on cells at f.word

-- a field with a word: behind the word, what was left out before it may no longer come
abbrev pub after_in : List ℕ → Field → Word → ℕ → List ℕ → List (List ℕ) → Course
after_in line f or at cells [] = left_out f or at cells
after_in line f or at cells (word ∷ rest) =
    if same word (text_in (word_text f.word)) then read_value line f Nothing (word_at line at).end cells else left_out f or at cells

abbrev pub read_field : List ℕ → Field → Word → ℕ → List ℕ → Course
read_field line f or at cells = if has_word f.word then after_in line f or at cells (words_of (drop at line)) else read_value line f or at cells

abbrev pub go_on : Course → (Word → ℕ → List ℕ → Course) → Course
go_on (on cells at or) next = next or at cells
go_on (failed e at) next = failed e at

-- the fields of a form in order
abbrev pub read_fields : List ℕ → List Field → Word → ℕ → List ℕ → Course
read_fields line [] or at cells = on cells at or
read_fields line (f ∷ fs) or at cells = go_on (read_field line f or at cells) (read_fields line fs)

-- ---- a line
abbrev zeros : List ℕ
zeros = replicate 10 0

-- what is wrong from a place on
abbrev pub wrong_at : List ℕ → Expected → ℕ → Line
wrong_at line e at = record { said = Err e; column = column_at line at; cells = zeros }

abbrev pub line_of : List ℕ → Item → Course → Line
line_of line item (on cells at or) = record { said = Ok (Some item); column = column_at line 0; cells = cells }
line_of line item (failed e at) = wrong_at line e at

abbrev pub read_item : List ℕ → Option Item → Line
read_item line (Some item) = line_of line item (read_fields line (fields_in (form_of item)) Nothing (word_at line 0).end (start_of item))
read_item line None = wrong_at line (only AnItem) 0

abbrev pub read_words : List ℕ → List (List ℕ) → Line
read_words line [] = record { said = Ok None; column = column_at line 0; cells = zeros }
read_words line (name ∷ words) = read_item line (item_named name items)

-- what a line says: nothing, or the item that its first word names, with its fields
unfoldable pub read_line : List ℕ → Line
read_line line = read_words line (words_of line)

-- ---- how far the code is
abbrev pub course_of : Result Progress Mistake → Course
course_of (Ok p) = on p.cells p.at p.or
course_of (Err w) = failed w.expected w.at

-- the place up to which it is read, or from which on it is wrong
abbrev pub place_of : Result Progress Mistake → ℕ
place_of (Ok p) = p.at
place_of (Err w) = w.at

abbrev pub stops_at : ℕ → Expected → Mistake
stops_at at e = record { at = at; expected = e }
