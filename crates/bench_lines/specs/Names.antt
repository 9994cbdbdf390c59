-- The names of items and words, and the texts for what was expected. Definitions only. Assumes nothing.
use Rattle.std.specs.Prelude.{ℕ, List, [], ◌∷◌}
use Rattle.bench_words.specs.Texts.{bytes, padded}
use Rattle.bench_lines.specs.declared.Item.{Item}
use Rattle.bench_lines.specs.declared.Item.TheVariants.{Processor, Batcher, Stopwatch, Coupled, Connector, Input, Output, Internal, Service, InjectInput, StepN, StepUntil, StepUntilIdle, Rows}
use Rattle.bench_lines.specs.declared.Word.{Word}
use Rattle.bench_lines.specs.declared.Word.TheVariants.{Nothing, Parent, In, Out, QueueCapacity, MaxBatchSize, MaxBatchTime, Start, Stop, Ask, Metric, Colon, To, Time, Content, Allowance}
use Rattle.bench_lines.specs.declared.Value.{Value}
use Rattle.bench_lines.specs.declared.Value.TheVariants.{TheEnd, AnId, ASmall, AWhole, ATime, AMetric}
use Rattle.bench_lines.specs.declared.Wanted.{Wanted}
use Rattle.bench_lines.specs.declared.Wanted.TheVariants.{AnItem, TheWord, AValue, NoMore}

abbrev pub item_text : Item → List ℕ
item_text Processor = padded (bytes "processor")
item_text Batcher = padded (bytes "batcher")
item_text Stopwatch = padded (bytes "stopwatch")
item_text Coupled = padded (bytes "coupled")
item_text Connector = padded (bytes "connector")
item_text Input = padded (bytes "input")
item_text Output = padded (bytes "output")
item_text Internal = padded (bytes "internal")
item_text Service = padded (bytes "service")
item_text InjectInput = padded (bytes "inject_input")
item_text StepN = padded (bytes "step_n")
item_text StepUntil = padded (bytes "step_until")
item_text StepUntilIdle = padded (bytes "step_until_idle")
item_text Rows = padded (bytes "rows")

abbrev pub word_text : Word → List ℕ
word_text Nothing = padded (bytes "nothing")
word_text Parent = padded (bytes "parent")
word_text In = padded (bytes "in")
word_text Out = padded (bytes "out")
word_text QueueCapacity = padded (bytes "queue_capacity")
word_text MaxBatchSize = padded (bytes "max_batch_size")
word_text MaxBatchTime = padded (bytes "max_batch_time")
word_text Start = padded (bytes "start")
word_text Stop = padded (bytes "stop")
word_text Ask = padded (bytes "ask")
word_text Metric = padded (bytes "metric")
word_text Colon = padded (58 ∷ [])
word_text To = padded (bytes "to")
word_text Time = padded (bytes "time")
word_text Content = padded (bytes "content")
word_text Allowance = padded (bytes "allowance")

abbrev pub value_text : Value → List ℕ
value_text TheEnd = padded (bytes "the end of the line")
value_text AnId = padded (bytes "a number below 65536")
value_text ASmall = padded (bytes "a number below 2^32")
value_text AWhole = padded (bytes "a number below 2^64")
value_text ATime = padded (bytes "a time")
value_text AMetric = padded (bytes "minimum or maximum")

abbrev pub wanted_text : Wanted → List ℕ
wanted_text AnItem = padded (bytes "a kind of item")
wanted_text (TheWord w) = word_text w
wanted_text (AValue v) = value_text v
wanted_text NoMore = padded (bytes "no more lines of this kind")
