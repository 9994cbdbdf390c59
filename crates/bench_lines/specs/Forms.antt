-- The items and their forms: what stands on a line, in order, and in which cell of the row it goes. Definitions only. Assumes nothing.
use Rattle.std.specs.Prelude.{ℕ, ◌+◌, ◌*◌, ◌-◌, List, [], ◌∷◌, ◌++◌, length, get_or, set, replicate, ltb, Option, Some, None, if◌then◌else◌}
use Rattle.bench_words.specs.Numbers.{digit_of}
use Rattle.bench_words.specs.Texts.{same, text_in}
use Rattle.bench_lines.specs.declared.Item.{Item}
use Rattle.bench_lines.specs.declared.Item.TheVariants.{Processor, Batcher, Stopwatch, Coupled, Connector, Input, Output, Internal, Service, InjectInput, StepN, StepUntil, StepUntilIdle, Rows}
use Rattle.bench_lines.specs.declared.Word.{Word}
use Rattle.bench_lines.specs.declared.Word.TheVariants.{Nothing, Parent, In, Out, QueueCapacity, MaxBatchSize, MaxBatchTime, Start, Stop, Ask, Metric, Colon, To, Time, Content, Allowance}
use Rattle.bench_lines.specs.declared.Value.{Value}
use Rattle.bench_lines.specs.declared.Value.TheVariants.{TheEnd, AnId, ASmall, AWhole, ATime, AMetric}
use Rattle.bench_lines.specs.declared.Field.{Field}
use Rattle.bench_lines.specs.Names.{item_text}

-- ---- fields
-- a value with no word before it
abbrev pub here : Value → ℕ → Field
here v cell = record { word = Nothing; flag = 0; value = v; cell = cell }

-- a word, and then its value
abbrev pub after : Word → Value → ℕ → Field
after w v cell = record { word = w; flag = 0; value = v; cell = cell }

-- the same, or nothing; where it is given, its flag stands in word 2
abbrev pub optional : Word → ℕ → Value → ℕ → Field
optional w flag v cell = record { word = w; flag = flag; value = v; cell = cell }

-- nothing more stands on the line
abbrev pub end : Field
end = here TheEnd 0

-- ---- fields as hex digits, in which the code keeps them
abbrev pub word_code : Word → ℕ
word_code Nothing = 0
word_code Parent = 1
word_code In = 2
word_code Out = 3
word_code QueueCapacity = 4
word_code MaxBatchSize = 5
word_code MaxBatchTime = 6
word_code Start = 7
word_code Stop = 8
word_code Ask = 9
word_code Metric = 10
word_code Colon = 11
word_code To = 12
word_code Time = 13
word_code Content = 14
word_code Allowance = 15

abbrev pub value_code : Value → ℕ
value_code TheEnd = 0
value_code AnId = 1
value_code ASmall = 2
value_code AWhole = 3
value_code ATime = 4
value_code AMetric = 5

abbrev pub hex : ℕ → ℕ
hex n = if ltb n 10 then 48 + n else 87 + n

abbrev pub codes : List Field → List ℕ
codes [] = []
codes (f ∷ fs) = hex (word_code f.word) ∷ hex f.flag ∷ hex (value_code f.value) ∷ hex f.cell ∷ codes fs

-- 32 digits, zeros after the fields
abbrev pub coded : List Field → List ℕ
coded fields = codes fields ++ replicate (32 - length (codes fields)) (hex 0)

abbrev pub words : List Word
words = Nothing ∷ Parent ∷ In ∷ Out ∷ QueueCapacity ∷ MaxBatchSize ∷ MaxBatchTime ∷ Start ∷ Stop ∷ Ask ∷ Metric ∷ Colon ∷ To ∷ Time ∷ Content ∷ Allowance ∷ []

abbrev pub word_coded : ℕ → Word
word_coded k = get_or words k Nothing

abbrev pub values : List Value
values = TheEnd ∷ AnId ∷ ASmall ∷ AWhole ∷ ATime ∷ AMetric ∷ []

abbrev pub value_coded : ℕ → Value
value_coded k = get_or values k TheEnd

-- the field that four digits say
abbrev pub field_of : ℕ → ℕ → ℕ → ℕ → Field
field_of w f v c = record { word = word_coded (digit_of w); flag = digit_of f; value = value_coded (digit_of v); cell = digit_of c }

-- the fields that digits say: those that were coded, and ends after them (FormLaws.decoded)
abbrev pub fields_in : List ℕ → List Field
fields_in [] = []
fields_in (w ∷ []) = []
fields_in (w ∷ f ∷ []) = []
fields_in (w ∷ f ∷ v ∷ []) = []
fields_in (w ∷ f ∷ v ∷ c ∷ rest) = field_of w f v c ∷ fields_in rest

-- the k-th of them
abbrev pub field_coded : List ℕ → ℕ → Field
field_coded form k = field_of (get_or form (k * 4) 0) (get_or form (k * 4 + 1) 0) (get_or form (k * 4 + 2) 0) (get_or form (k * 4 + 3) 0)

-- ---- the form of each item
abbrev pub form_of : Item → List ℕ
-- processor ID [parent ID] in PORT out PORT [queue_capacity N]
form_of Processor = coded (here AnId 0 ∷ optional Parent 1 AnId 3 ∷ after In AnId 4 ∷ after Out AnId 7 ∷ optional QueueCapacity 2 AWhole 8 ∷ [])
-- batcher ID [parent ID] in PORT out PORT max_batch_size N max_batch_time TIME
form_of Batcher = coded (here AnId 0 ∷ optional Parent 1 AnId 3 ∷ after In AnId 4 ∷ after Out AnId 7 ∷ after MaxBatchSize AWhole 8 ∷ after MaxBatchTime ATime 9 ∷ [])
-- stopwatch ID [parent ID] start PORT stop PORT ask PORT out PORT [metric minimum|maximum]
form_of Stopwatch = coded (here AnId 0 ∷ optional Parent 1 AnId 3 ∷ after Start AnId 4 ∷ after Stop AnId 5 ∷ after Ask AnId 6 ∷ after Out AnId 7 ∷ optional Metric 4 AMetric 8 ∷ [])
-- coupled ID [parent ID]
form_of Coupled = coded (here AnId 0 ∷ optional Parent 1 AnId 3 ∷ [])
-- connector ID:PORT to ID:PORT
form_of Connector = coded (here AnId 0 ∷ after Colon AnId 1 ∷ after To AnId 2 ∷ after Colon AnId 3 ∷ [])
-- input ID:PORT to ID:PORT: the Coupled's, then the component's
form_of Input = coded (here AnId 0 ∷ after Colon AnId 3 ∷ after To AnId 4 ∷ after Colon AnId 5 ∷ [])
-- output ID:PORT to ID:PORT: the component's, then the Coupled's
form_of Output = coded (here AnId 2 ∷ after Colon AnId 3 ∷ after To AnId 0 ∷ after Colon AnId 5 ∷ [])
-- internal ID ID:PORT to ID:PORT: the Coupled, then component to component
form_of Internal = coded (here AnId 0 ∷ here AnId 2 ∷ after Colon AnId 3 ∷ after To AnId 4 ∷ after Colon AnId 5 ∷ [])
-- service TIME
form_of Service = coded (here ATime 0 ∷ [])
-- inject_input ID:PORT to ID:PORT time TIME content N
form_of InjectInput = coded (here AnId 1 ∷ after Colon AnId 2 ∷ after To AnId 3 ∷ after Colon AnId 4 ∷ after Time ATime 5 ∷ after Content ASmall 6 ∷ [])
-- step_n N
form_of StepN = coded (here AWhole 1 ∷ [])
-- step_until TIME allowance N
form_of StepUntil = coded (here ATime 1 ∷ after Allowance ASmall 2 ∷ [])
-- step_until_idle allowance N
form_of StepUntilIdle = coded (after Allowance AWhole 1 ∷ [])
-- rows
form_of Rows = coded ([])

abbrev zeros : List ℕ
zeros = replicate 10 0

-- the row before its fields are read: the kind of a model and of a coupling in cell 1, of an action in cell 0
abbrev pub start_of : Item → List ℕ
start_of Processor = set zeros 1 1
start_of Batcher = set zeros 1 2
start_of Stopwatch = set zeros 1 3
start_of Coupled = set zeros 1 4
start_of Connector = zeros
start_of Input = set zeros 1 1
start_of Output = set zeros 1 2
start_of Internal = set zeros 1 3
start_of Service = zeros
start_of InjectInput = set zeros 0 1
start_of StepN = set zeros 0 2
start_of StepUntil = set zeros 0 3
start_of StepUntilIdle = set zeros 0 4
start_of Rows = zeros

-- ---- items by their names
abbrev pub items : List Item
items = Processor ∷ Batcher ∷ Stopwatch ∷ Coupled ∷ Connector ∷ Input ∷ Output ∷ Internal ∷ Service ∷ InjectInput ∷ StepN ∷ StepUntil ∷ StepUntilIdle ∷ Rows ∷ []

abbrev pub item_named : List ℕ → List Item → Option Item
item_named name [] = None
item_named name (i ∷ is) = let rest = item_named name is in if same name (text_in (item_text i)) then Some i else rest
