-- Lines computed: each form, with and without what may be left out, and each way to be wrong. Assumes nothing.
use Rattle.std.specs.Prelude.{ℕ, ◌≡◌, refl, List, [], ◌∷◌, replicate, Some, None, Ok, Err}
use Prim.Native.String.{String}
use Rattle.std.specs.Float.Ieee.{of_int, to_bits}
use Rattle.bench_words.specs.Splitting.{words_from, word_at}
use Rattle.bench_words.specs.Numbers.{digit_of, numeral, number_of, has_bits, time_of}
use Rattle.bench_words.specs.Texts.{bytes, same}
use Rattle.bench_lines.specs.declared.Item.{Item}
use Rattle.bench_lines.specs.declared.Item.TheVariants.{Processor, Batcher, Stopwatch, Coupled, Connector, Input, Output, Internal, Service, InjectInput, StepN, StepUntil, StepUntilIdle, Rows}
use Rattle.bench_lines.specs.declared.Word.{Word}
use Rattle.bench_lines.specs.declared.Word.TheVariants.{Parent, In, Out, QueueCapacity, Colon, To}
use Rattle.bench_lines.specs.declared.Word.TheVariants as Words
use Rattle.bench_lines.specs.declared.Value.TheVariants.{TheEnd, AnId, ASmall, AWhole, ATime, AMetric}
use Rattle.bench_lines.specs.declared.Wanted.{Wanted}
use Rattle.bench_lines.specs.declared.Wanted.TheVariants.{AnItem, TheWord, AValue}
use Rattle.bench_lines.specs.Reading.{wants, read_line}

abbrev Is : String → Item → List ℕ → Type 0
Is text item cells = read_line (bytes text) ≡ record { said = Ok (Some item); column = 1; cells = cells }

-- what was expected, at which column, and the optional word that may stand there too
abbrev WantsOr : String → ℕ → Word → Wanted → Type 0
WantsOr text column or what = read_line (bytes text) ≡ record { said = Err (wants or what); column = column; cells = replicate 10 0 }

abbrev Wants : String → ℕ → Wanted → Type 0
Wants text column what = WantsOr text column Words.Nothing what

abbrev Empty : String → ℕ → Type 0
Empty text column = read_line (bytes text) ≡ record { said = Ok None; column = column; cells = replicate 10 0 }

pub record Table : Type 0 where
  pub processor : Is "processor 2 in 1 out 2" Processor (2 ∷ 1 ∷ 0 ∷ 0 ∷ 1 ∷ 0 ∷ 0 ∷ 2 ∷ 0 ∷ 0 ∷ [])
  pub processor-all : Is "processor 65535 parent 9 in 1 out 2 queue_capacity 8" Processor (65535 ∷ 1 ∷ 3 ∷ 9 ∷ 1 ∷ 0 ∷ 0 ∷ 2 ∷ 8 ∷ 0 ∷ [])
  pub batcher : Is "batcher 1 in 1 out 2 max_batch_size 2 max_batch_time 10" Batcher (1 ∷ 2 ∷ 0 ∷ 0 ∷ 1 ∷ 0 ∷ 0 ∷ 2 ∷ 2 ∷ 0x4024000000000000 ∷ [])
  pub stopwatch : Is "stopwatch 3 start 1 stop 2 ask 3 out 4 metric maximum" Stopwatch (3 ∷ 3 ∷ 4 ∷ 0 ∷ 1 ∷ 2 ∷ 3 ∷ 4 ∷ 1 ∷ 0 ∷ [])
  pub coupled : Is "coupled 5 parent 4" Coupled (5 ∷ 4 ∷ 1 ∷ 4 ∷ 0 ∷ 0 ∷ 0 ∷ 0 ∷ 0 ∷ 0 ∷ [])
  pub connector : Is "connector 1:2 to 3:4" Connector (1 ∷ 2 ∷ 3 ∷ 4 ∷ 0 ∷ 0 ∷ 0 ∷ 0 ∷ 0 ∷ 0 ∷ [])
  pub input : Is "input 5:1 to 6:2" Input (5 ∷ 1 ∷ 0 ∷ 1 ∷ 6 ∷ 2 ∷ 0 ∷ 0 ∷ 0 ∷ 0 ∷ [])
  pub output : Is "output 6:2 to 5:1" Output (5 ∷ 2 ∷ 6 ∷ 2 ∷ 0 ∷ 1 ∷ 0 ∷ 0 ∷ 0 ∷ 0 ∷ [])
  pub internal : Is "internal 5 6:2 to 7:1" Internal (5 ∷ 3 ∷ 6 ∷ 2 ∷ 7 ∷ 1 ∷ 0 ∷ 0 ∷ 0 ∷ 0 ∷ [])
  pub service : Is "service 0x3fE0000000000000" Service (0x3fe0000000000000 ∷ 0 ∷ 0 ∷ 0 ∷ 0 ∷ 0 ∷ 0 ∷ 0 ∷ 0 ∷ 0 ∷ [])
  pub inject-input : Is "inject_input 0:1 to 1:1 time 0 content 4294967295" InjectInput (1 ∷ 0 ∷ 1 ∷ 1 ∷ 1 ∷ 0 ∷ 4294967295 ∷ 0 ∷ 0 ∷ 0 ∷ [])
  pub step-n : Is "step_n 18446744073709551615" StepN (2 ∷ 18446744073709551615 ∷ 0 ∷ 0 ∷ 0 ∷ 0 ∷ 0 ∷ 0 ∷ 0 ∷ 0 ∷ [])
  pub step_until : Is "step_until 9007199254740992 allowance 7" StepUntil (3 ∷ 0x4340000000000000 ∷ 7 ∷ 0 ∷ 0 ∷ 0 ∷ 0 ∷ 0 ∷ 0 ∷ 0 ∷ [])
  pub step-until-idle : Is "step_until_idle allowance 100" StepUntilIdle (4 ∷ 100 ∷ 0 ∷ 0 ∷ 0 ∷ 0 ∷ 0 ∷ 0 ∷ 0 ∷ 0 ∷ [])
  pub rows : Is "rows" Rows (0 ∷ 0 ∷ 0 ∷ 0 ∷ 0 ∷ 0 ∷ 0 ∷ 0 ∷ 0 ∷ 0 ∷ [])
  pub tabs-and-comments : read_line (bytes "\tservice\t 2# two\r") ≡ record { said = Ok (Some Service); column = 2; cells = 0x4000000000000000 ∷ 0 ∷ 0 ∷ 0 ∷ 0 ∷ 0 ∷ 0 ∷ 0 ∷ 0 ∷ 0 ∷ [] }
  pub blank : Empty " \t " 4
  pub comment : Empty "# processor 1" 1
  pub no_item : Wants "  processors 1" 3 AnItem
  pub no-id : Wants "processor x in 1 out 2" 11 (AValue AnId)
  pub id-too-large : Wants "processor 65536 in 1 out 2" 11 (AValue AnId)
  pub no-in : WantsOr "processor 1 out 2" 13 Parent (TheWord In)
  -- what was left out before a word may not come behind it
  pub no-in-port : Wants "processor 1 in x out 2" 16 (AValue AnId)
  pub no-out : Wants "processor 1 in 1 ou 2" 18 (TheWord Out)
  pub misspelt : WantsOr "processor 1 in 1 out 2 queue_capcity 8" 24 QueueCapacity (AValue TheEnd)
  pub twice : Wants "processor 1 in 1 out 2 queue_capacity 8 queue_capacity 8" 41 (AValue TheEnd)
  pub no-colon : Wants "connector 1 2 to 3:4" 13 (TheWord Colon)
  pub no-port : Wants "connector 1: to 3:4" 14 (AValue AnId)
  -- a line that ends too soon: its end, or where its comment starts
  pub too_short : Wants "connector 1:2" 14 (TheWord To)
  pub too-short-before-a-comment : Wants "service   # 4" 11 (AValue ATime)
  pub content-of-33-bits : Wants "inject_input 0:1 to 1:1 time 0 content 4294967296" 40 (AValue ASmall)
  pub step-n-of-65-bits : Wants "step_n 18446744073709551616" 8 (AValue AWhole)
  pub time-past-2-to-53 : Wants "service 9007199254740993" 9 (AValue ATime)
  pub hex-of-15-digits : Wants "service 0x3fe000000000000" 9 (AValue ATime)
  pub hex-digit-g : Wants "service 0x3fe000000000000g" 9 (AValue ATime)
  pub no-metric : Wants "stopwatch 3 start 1 stop 2 ask 3 out 4 metric mean" 47 (AValue AMetric)
  pub more-on-the-line : Wants "rows 1" 6 (AValue TheEnd)

pub cases : Table
unfolding read_line words_from word_at same digit_of numeral number_of has_bits time_of of_int to_bits
cases = record {
  processor = refl;
  processor-all = refl;
  batcher = refl;
  stopwatch = refl;
  coupled = refl;
  connector = refl;
  input = refl;
  output = refl;
  internal = refl;
  service = refl;
  inject-input = refl;
  step-n = refl;
  step_until = refl;
  step-until-idle = refl;
  rows = refl;
  tabs-and-comments = refl;
  blank = refl;
  comment = refl;
  no_item = refl;
  no-id = refl;
  id-too-large = refl;
  no-in = refl;
  no-in-port = refl;
  no-out = refl;
  misspelt = refl;
  twice = refl;
  no-colon = refl;
  no-port = refl;
  too_short = refl;
  too-short-before-a-comment = refl;
  content-of-33-bits = refl;
  step-n-of-65-bits = refl;
  time-past-2-to-53 = refl;
  hex-of-15-digits = refl;
  hex-digit-g = refl;
  no-metric = refl;
  more-on-the-line = refl;
}
