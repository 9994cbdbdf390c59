-- Whatever a line says, its row has ten cells, and its column is one of its bytes or the place behind the last. Assumes nothing.
use Rattle.std.specs.Prelude.{ℕ, ◌+◌, ◌≤◌, ◌≡◌, refl, Bool, true, false, List, [], ◌∷◌, eqb, length, get_or, set, drop, Option, Some, None, if◌then◌else◌}
use Rattle.std.proofs.Common.{◌∙◌, arith, length-set}
use Rattle.std.specs.Int.Bits.{bit_or}
use Rattle.bench_words.specs.Splitting.{words_of, word_at}
use Rattle.bench_words.specs.SplittingLaws.{word-inside}
use Rattle.bench_words.specs.Texts.{same, text_in}
use Rattle.bench_lines.specs.declared.Item.{Item}
use Rattle.bench_lines.specs.declared.Item.TheVariants.{Processor, Batcher, Stopwatch, Coupled, Connector, Input, Output, Internal, Service, InjectInput, StepN, StepUntil, StepUntilIdle, Rows}
use Rattle.bench_lines.specs.declared.Word.{Word}
use Rattle.bench_lines.specs.declared.Word.TheVariants.{Nothing}
use Rattle.bench_lines.specs.declared.Expected.{Expected}
use Rattle.bench_lines.specs.declared.Field.{Field}
use Rattle.bench_lines.specs.declared.Line.{Line}
use Rattle.bench_lines.specs.Names.{word_text}
use Rattle.bench_lines.specs.Forms.{start_of, form_of, fields_in, item_named, items}
use Rattle.bench_lines.specs.Reading.{Course, on, failed, is_end, has_word, value_of, kept, taken, value_in, left_out, after_in, read_field, go_on, read_fields, column_at, line_of, read_item, read_words, read_line}

-- a row of ten cells, and a place of the line
data Within (line : List ℕ) : Course → Type 0 where
  goes : {cells : List ℕ} {at : ℕ} {or : Word} → length cells ≡ 10 → at ≤ length line → Within line (on cells at or)
  stops : {e : Expected} {at : ℕ} → at ≤ length line → Within line (failed e at)

kept-length : (f : Field) (n : ℕ) (cells : List ℕ) → length (kept f n cells) ≡ length cells
kept-length f n cells = length-set (set cells 2 (bit_or (get_or cells 2 0) f.flag)) f.cell n ∙ length-set cells 2 (bit_or (get_or cells 2 0) f.flag)

start-ten : (item : Item) → length (start_of item) ≡ 10
start-ten Processor = refl
start-ten Batcher = refl
start-ten Stopwatch = refl
start-ten Coupled = refl
start-ten Connector = refl
start-ten Input = refl
start-ten Output = refl
start-ten Internal = refl
start-ten Service = refl
start-ten InjectInput = refl
start-ten StepN = refl
start-ten StepUntil = refl
start-ten StepUntilIdle = refl
start-ten Rows = refl

module _ (line : List ℕ) where
  either : (t : Bool) (a b : Course) → Within line a → Within line b → Within line (if t then a else b)
  either true a b p q = p
  either false a b p q = q

  next-within : (at : ℕ) → at ≤ length line → (word_at line at).end ≤ length line
  next-within at h = (word-inside line at (word_at line at) refl h).1

  module _ (f : Field) (or : Word) (at : ℕ) (cells : List ℕ) (ten : length cells ≡ 10) (h : at ≤ length line) where
    taken-within : (v : Option ℕ) → Within line (taken line f or at cells v)
    taken-within (Some n) = goes (kept-length f n cells ∙ ten) (next-within at h)
    taken-within None = stops h

    value-within : (words : List (List ℕ)) → Within line (value_in line f or at cells words)
    value-within [] = either (is_end f.value) _ _ (goes ten h) (stops h)
    value-within (word ∷ rest) = taken-within (value_of f.value word)

    left-within : Within line (left_out f or at cells)
    left-within = either (eqb f.flag 0) _ _ (stops h) (goes ten h)

  after-within : (f : Field) (or : Word) (at : ℕ) (cells : List ℕ) → length cells ≡ 10 → at ≤ length line → (words : List (List ℕ)) → Within line (after_in line f or at cells words)
  after-within f or at cells ten h [] = left-within f or at cells ten h
  after-within f or at cells ten h (word ∷ rest) =
      either (same word (text_in (word_text f.word))) _ _ (value-within f Nothing (word_at line at).end cells ten (next-within at h) (words_of (drop (word_at line at).end line))) (left-within f or at cells ten h)

  field-within : (f : Field) (or : Word) (at : ℕ) (cells : List ℕ) → length cells ≡ 10 → at ≤ length line → Within line (read_field line f or at cells)
  field-within f or at cells ten h = either (has_word f.word) _ _ (after-within f or at cells ten h (words_of (drop at line))) (value-within f or at cells ten h (words_of (drop at line)))

  on-within : (o : Course) (next : Word → ℕ → List ℕ → Course) → ((or : Word) (at : ℕ) (cells : List ℕ) → length cells ≡ 10 → at ≤ length line → Within line (next or at cells)) → Within line o → Within line (go_on o next)
  on-within (on cells at or) next go (goes ten h) = go or at cells ten h
  on-within (failed e at) next go (stops h) = stops h

  fields_within : (fs : List Field) (or : Word) (at : ℕ) (cells : List ℕ) → length cells ≡ 10 → at ≤ length line → Within line (read_fields line fs or at cells)
  fields_within [] or at cells ten h = goes ten h
  fields_within (f ∷ fs) or at cells ten h = on-within (read_field line f or at cells) (read_fields line fs) (fields_within fs) (field-within f or at cells ten h)

  column-in : (at : ℕ) → at ≤ length line → column_at line at ≤ length line + 1
  column-in at h = omega (arith, word-inside line at (word_at line at) refl h)

  -- what is said of a line
  abbrev Good : Line → Type 0
  Good l = (length l.cells ≡ 10) × (l.column ≤ length line + 1)

  line-good : (item : Item) (o : Course) → Within line o → Good (line_of line item o)
  line-good item (on cells at or) (goes ten h) = (ten, column-in 0 (omega arith))
  line-good item (failed e at) (stops h) = (refl, column-in at h)

  item-good : (named : Option Item) → Good (read_item line named)
  item-good (Some item) = line-good item _ (fields_within (fields_in (form_of item)) Nothing (word_at line 0).end (start_of item) (start-ten item) (next-within 0 (omega arith)))
  item-good None = (refl, column-in 0 (omega arith))

  words-good : (words : List (List ℕ)) → Good (read_words line words)
  words-good [] = (refl, column-in 0 (omega arith))
  words-good (name ∷ words) = item-good (item_named name items)

  line-is-good : Good (read_line line)
  unfolding read_line
  line-is-good = words-good (words_of line)

  pub cells-ten : length (read_line line).cells ≡ 10
  cells-ten = line-is-good.0

  pub column-inside : (read_line line).column ≤ length line + 1
  column-inside = line-is-good.1
