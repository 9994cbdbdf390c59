-- "Sizes and numbers", refusals 1 to 3 and docs/LAYOUT.md, pinned: each case is computed, and an edit of its sentence breaks it. Assumes nothing.
use Rattle.std.specs.Prelude.{ℕ, zero, suc, ◌+◌, ◌-◌, ◌^◌, ◌≡◌, refl, Bool, true, false, List, [], ◌∷◌, ◌++◌, map, replicate, None, Some}
use Rattle.std.specs.Float.Ieee.{le, fits, of_bits, to_bits}
use Rattle.times.specs.Time.{never, is_time}
use Rattle.rules.specs.declared.Metric.TheVariants.{Minimum, Maximum}
use Rattle.rules.specs.Base.{from}
use Rattle.rules.specs.Table.{Kind, processor, batcher, stopwatch, coupled, Row, Connector, Coupling, external_input, external_output, internal_coupling}
use Rattle.rules.specs.Intake.{Posted, Verdict, too_large, bad_row, bad_connector, bad_coupling, passed, intake, taken_in}
use Rattle.rules.specs.Layout.{model_row, omits_capacity, omitted_in, connector_row, coupling_row, lent, written, room_in, laid_down}
use Rattle.rules.specs.Examples.{ten, minus_zero, posted, row, within, a_batcher, a_processor, a_stopwatch, link, message, given, at}

-- ---- what is seen of an intake: 0 where the table passes, else the refusal's number and the row
abbrev pub place_of : Verdict → ℕ
place_of too_large = 0
place_of (bad_row i) = i
place_of (bad_connector i) = i
place_of (bad_coupling i) = i
place_of (passed t) = 0

unfoldable pub seen_of : Posted → ℕ × ℕ
seen_of p = (given (taken_in (intake p)), place_of (intake p))

abbrev pub ok : ℕ × ℕ
ok = (0, 0)

-- rows alone; one row; links over a Coupled 1 with a component 2, and a processor 3
abbrev pub of_rows : List Row → ℕ × ℕ
of_rows rows = seen_of (posted rows [] [])

abbrev pub of_kind : Kind → ℕ × ℕ
of_kind kind = of_rows (row 1 kind ∷ [])

abbrev pub family : List Row
family = row 1 coupled ∷ within 1 2 (a_processor 1) ∷ row 3 (a_processor 1) ∷ []

abbrev pub of_link : Connector → ℕ × ℕ
of_link c = seen_of (posted family (c ∷ []) [])

abbrev pub of_coupling : Coupling → ℕ × ℕ
of_coupling c = seen_of (posted family [] (c ∷ []))

abbrev wide : ℕ
wide = 2 ^ 16

abbrev last : ℕ
last = 2 ^ 16 - 1

abbrev watch_at : ℕ → ℕ → ℕ → ℕ → Kind
watch_at a b c d = stopwatch (record { start = a; stop = b; ask = c; output = d; metric = Minimum })

abbrev server_at : ℕ → ℕ → ℕ → Kind
server_at a b capacity = processor (record { input = a; output = b; queue_capacity = capacity })

abbrev batcher_at : ℕ → ℕ → Kind
batcher_at a b = batcher (record { input = a; output = b; max_batch_size = 2; max_batch_time = ten })

-- k nested Coupleds with the ids 1 to k, the innermost first in the list of the rows after it
abbrev nested : ℕ → List Row
nested k = row 1 coupled ∷ map (λ i. within i (i + 1) coupled) (from 1 (k - 1))

pub record Sizes : Type 0 where
  -- "At most 64 model rows (components count), 256 connectors, 256 couplings"; 1: "a table has too many rows, one cut short counted"
  pub rows-64 : of_rows (map (λ k. row k coupled) (from 1 64)) ≡ ok
  pub rows-65 : of_rows (map (λ k. row k coupled) (from 1 65)) ≡ (1, 0)
  pub components-count : of_rows (row 1 coupled ∷ map (λ k. within 1 k (a_processor 1)) (from 2 64)) ≡ (1, 0)
  pub connectors-256 : seen_of (posted [] (replicate 256 (link 1 1 1 1)) []) ≡ ok
  pub connectors-257 : seen_of (posted [] (replicate 257 (link 1 1 1 1)) []) ≡ (1, 0)
  pub couplings-256 : seen_of (posted family [] (replicate 256 (internal_coupling 1 2 1 2 1))) ≡ ok
  pub couplings-257 : seen_of (posted family [] (replicate 257 (internal_coupling 1 2 1 2 1))) ≡ (1, 0)
  pub short-row-counts : seen_of (record { rows = map (λ k. Some (row k coupled)) (from 1 64) ++ None ∷ []; connectors = []; couplings = [] }) ≡ (1, 0)
  -- the empty table passes
  pub empty : of_rows [] ≡ ok

pub sizes : Sizes
unfolding seen_of intake is_time fits le of_bits
sizes = record {
  rows-64 = refl;
  rows-65 = refl;
  components-count = refl;
  connectors-256 = refl;
  connectors-257 = refl;
  couplings-256 = refl;
  couplings-257 = refl;
  short-row-counts = refl;
  empty = refl;
}

pub record Rows : Type 0 where
  -- "Ids and ports are 16-bit numbers": each field at and over its width
  pub id-last : of_rows (row last coupled ∷ []) ≡ ok
  pub id-wide : of_rows (row wide coupled ∷ []) ≡ (2, 0)
  pub processor-last : of_kind (server_at last last 1) ≡ ok
  pub processor-in : of_kind (server_at wide 2 1) ≡ (2, 0)
  pub processor-out : of_kind (server_at 1 wide 1) ≡ (2, 0)
  pub batcher-last : of_kind (batcher_at last last) ≡ ok
  pub batcher-in : of_kind (batcher_at wide 2) ≡ (2, 0)
  pub batcher-out : of_kind (batcher_at 1 wide) ≡ (2, 0)
  pub stopwatch-last : of_kind (watch_at last 2 3 last) ≡ ok
  pub stopwatch-start : of_kind (watch_at wide 2 3 4) ≡ (2, 0)
  pub stopwatch-stop : of_kind (watch_at 1 wide 3 4) ≡ (2, 0)
  pub stopwatch-metric : of_kind (watch_at 1 2 wide 4) ≡ (2, 0)
  pub stopwatch-out : of_kind (watch_at 1 2 3 wide) ≡ (2, 0)
  -- "`max_batch_size` is 1 to 2^62. `queue_capacity` is any u64"
  pub size-0 : of_kind (a_batcher 0 ten) ≡ (2, 0)
  pub size-1 : of_kind (a_batcher 1 ten) ≡ ok
  pub size-largest : of_kind (a_batcher (2 ^ 62) ten) ≡ ok
  pub size-over : of_kind (a_batcher (2 ^ 62 + 1) ten) ≡ (2, 0)
  pub capacity-0 : of_kind (a_processor 0) ≡ ok
  pub capacity-largest : of_kind (a_processor (2 ^ 64 - 1)) ≡ ok
  pub capacity-over : of_kind (a_processor (2 ^ 64)) ≡ (2, 0)
  -- 2: "or its batch time is no time"; "an f64 with its sign bit clear and a value of at most 2^60"
  pub time-latest : of_kind (a_batcher 2 (at 0x43B0_0000_0000_0000)) ≡ ok
  pub time-above : of_kind (a_batcher 2 (at 0x43B0_0000_0000_0001)) ≡ (2, 0)
  pub time-minus-zero : of_kind (a_batcher 2 minus_zero) ≡ (2, 0)
  pub time-infinite : of_kind (a_batcher 2 never) ≡ (2, 0)
  -- "A stopwatch's three input ports differ."; its output may be one of them
  pub ports-start-stop : of_kind (watch_at 1 1 3 4) ≡ (2, 0)
  pub ports-start-metric : of_kind (watch_at 1 2 1 4) ≡ (2, 0)
  pub ports-stop-metric : of_kind (watch_at 1 2 2 4) ≡ (2, 0)
  pub ports-out : of_kind (watch_at 1 2 3 1) ≡ ok
  -- "Ids are unique over the whole table."
  pub ids-twice : of_rows (row 1 coupled ∷ row 2 coupled ∷ row 1 coupled ∷ []) ≡ (2, 2)
  pub ids-twice-inside : of_rows (row 1 coupled ∷ row 2 coupled ∷ within 1 2 (a_processor 1) ∷ []) ≡ (2, 2)
  -- "A component's row names its parent, which is an earlier row and a Coupled."
  pub parent-earlier : of_rows (row 1 coupled ∷ within 1 2 coupled ∷ []) ≡ ok
  pub parent-later : of_rows (within 2 1 coupled ∷ row 2 coupled ∷ []) ≡ (2, 0)
  pub parent-itself : of_rows (within 1 1 coupled ∷ []) ≡ (2, 0)
  pub parent-missing : of_rows (row 1 coupled ∷ within 7 2 coupled ∷ []) ≡ (2, 1)
  pub parent-processor : of_rows (row 1 (a_processor 1) ∷ within 1 2 coupled ∷ []) ≡ (2, 1)
  pub parent-batcher : of_rows (row 1 (a_batcher 2 ten) ∷ within 1 2 coupled ∷ []) ≡ (2, 1)
  pub parent-stopwatch : of_rows (row 1 (a_stopwatch Minimum) ∷ within 1 2 coupled ∷ []) ≡ (2, 1)
  -- "A Coupled may hold another Coupled, to depth 4 (a row without parent has depth 1)."
  pub depth-4 : of_rows (nested 4) ≡ ok
  pub depth-5 : of_rows (nested 5) ≡ (2, 4)
  pub depth-4-later : of_rows (row 9 coupled ∷ nested 4) ≡ ok
  pub depth-5-later : of_rows (row 9 coupled ∷ nested 5) ≡ (2, 5)
  pub atom-in-4 : of_rows (nested 4 ++ within 4 5 (a_processor 1) ∷ []) ≡ ok
  pub depth-beside : of_rows (nested 4 ++ within 3 5 coupled ∷ within 1 6 coupled ∷ []) ≡ ok
  pub depth-far : of_rows (nested 4 ++ row 6 coupled ∷ within 4 5 coupled ∷ []) ≡ (2, 5)

pub rows : Rows
unfolding seen_of intake is_time fits le of_bits
rows = record {
  id-last = refl;
  id-wide = refl;
  processor-last = refl;
  processor-in = refl;
  processor-out = refl;
  batcher-last = refl;
  batcher-in = refl;
  batcher-out = refl;
  stopwatch-last = refl;
  stopwatch-start = refl;
  stopwatch-stop = refl;
  stopwatch-metric = refl;
  stopwatch-out = refl;
  size-0 = refl;
  size-1 = refl;
  size-largest = refl;
  size-over = refl;
  capacity-0 = refl;
  capacity-largest = refl;
  capacity-over = refl;
  time-latest = refl;
  time-above = refl;
  time-minus-zero = refl;
  time-infinite = refl;
  ports-start-stop = refl;
  ports-start-metric = refl;
  ports-stop-metric = refl;
  ports-out = refl;
  ids-twice = refl;
  ids-twice-inside = refl;
  parent-earlier = refl;
  parent-later = refl;
  parent-itself = refl;
  parent-missing = refl;
  parent-processor = refl;
  parent-batcher = refl;
  parent-stopwatch = refl;
  depth-4 = refl;
  depth-5 = refl;
  depth-4-later = refl;
  depth-5-later = refl;
  atom-in-4 = refl;
  depth-beside = refl;
  depth-far = refl;
}

pub record Links : Type 0 where
  -- 3: "a connector or coupling .. has a field beyond its width": each field at and over it
  pub link-last : of_link (link last last last last) ≡ ok
  pub link-source : of_link (link wide 1 1 1) ≡ (3, 0)
  pub link-source-port : of_link (link 1 wide 1 1) ≡ (3, 0)
  pub link-target : of_link (link 1 1 wide 1) ≡ (3, 0)
  pub link-target-port : of_link (link 1 1 1 wide) ≡ (3, 0)
  pub input_last : of_coupling (external_input 1 last 2 last) ≡ ok
  pub input-source-port : of_coupling (external_input 1 wide 2 1) ≡ (3, 0)
  pub input-target-port : of_coupling (external_input 1 1 2 wide) ≡ (3, 0)
  pub output-last : of_coupling (external_output 1 last last last) ≡ ok
  pub output-source : of_coupling (external_output 1 wide 1 1) ≡ (3, 0)
  pub output-source-port : of_coupling (external_output 1 2 wide 1) ≡ (3, 0)
  pub output-target-port : of_coupling (external_output 1 2 1 wide) ≡ (3, 0)
  pub internal-last : of_coupling (internal_coupling 1 last last last last) ≡ ok
  pub internal-source : of_coupling (internal_coupling 1 wide 1 2 1) ≡ (3, 0)
  pub internal-source-port : of_coupling (internal_coupling 1 2 wide 2 1) ≡ (3, 0)
  pub internal-target : of_coupling (internal_coupling 1 2 1 wide 1) ≡ (3, 0)
  pub internal-target-port : of_coupling (internal_coupling 1 2 1 2 wide) ≡ (3, 0)
  -- 3: "a coupling's owner is no Coupled": missing, or an atom
  pub owner-missing-in : of_coupling (external_input 9 1 2 1) ≡ (3, 0)
  pub owner-missing-out : of_coupling (external_output 9 2 1 1) ≡ (3, 0)
  pub owner-missing-inside : of_coupling (internal_coupling 9 2 1 2 1) ≡ (3, 0)
  pub owner-atom-out : of_coupling (external_output 3 2 1 1) ≡ (3, 0)
  pub owner-atom-inside : of_coupling (internal_coupling 3 2 1 2 1) ≡ (3, 0)
  -- 3: "an external input coupling's target is not its component": missing, parentless, or another's
  pub target-missing : of_coupling (external_input 1 1 9 1) ≡ (3, 0)
  pub target-parentless : of_coupling (external_input 1 1 3 1) ≡ (3, 0)
  pub target-anothers : seen_of (posted (row 1 coupled ∷ row 2 coupled ∷ within 2 3 (a_processor 1) ∷ []) [] (external_input 1 1 3 1 ∷ [])) ≡ (3, 0)
  -- "Connectors and other couplings may name ids that don't exist"
  pub connectors-free : of_link (link 8 1 9 1) ≡ ok
  pub outputs-free : of_coupling (external_output 1 9 1 1) ≡ ok
  pub internals-free : of_coupling (internal_coupling 1 8 1 9 1) ≡ ok

pub links : Links
unfolding seen_of intake is_time fits le of_bits
links = record {
  link-last = refl;
  link-source = refl;
  link-source-port = refl;
  link-target = refl;
  link-target-port = refl;
  input_last = refl;
  input-source-port = refl;
  input-target-port = refl;
  output-last = refl;
  output-source = refl;
  output-source-port = refl;
  output-target-port = refl;
  internal-last = refl;
  internal-source = refl;
  internal-source-port = refl;
  internal-target = refl;
  internal-target-port = refl;
  owner-missing-in = refl;
  owner-missing-out = refl;
  owner-missing-inside = refl;
  owner-atom-out = refl;
  owner-atom-inside = refl;
  target-missing = refl;
  target-parentless = refl;
  target-anothers = refl;
  connectors-free = refl;
  outputs-free = refl;
  internals-free = refl;
}

pub record Order : Type 0 where
  -- "Table intake checks 1, then 2 in row order, then 3": connectors before couplings, each in row order
  pub one-first : seen_of (posted (map (λ k. row 1 coupled) (from 1 65)) (link wide 1 1 1 ∷ []) []) ≡ (1, 0)
  pub two-first : seen_of (posted (row 1 coupled ∷ row 1 coupled ∷ []) (link wide 1 1 1 ∷ []) (external_output 9 1 1 1 ∷ [])) ≡ (2, 1)
  pub first-of-two : seen_of (record { rows = Some (row 1 coupled) ∷ Some (row 1 coupled) ∷ None ∷ []; connectors = []; couplings = [] }) ≡ (2, 1)
  pub broken-row-first : seen_of (record { rows = Some (row 1 coupled) ∷ None ∷ Some (row 1 coupled) ∷ []; connectors = []; couplings = [] }) ≡ (2, 1)
  pub connectors-first : intake (posted family (link 1 1 1 1 ∷ link wide 1 1 1 ∷ []) (external_output 9 1 1 1 ∷ [])) ≡ bad_connector 1
  pub broken-connector : seen_of (record { rows = []; connectors = Some (link 1 1 1 1) ∷ None ∷ []; couplings = [] }) ≡ (3, 1)
  pub couplings-last : intake (posted family (link 1 1 1 1 ∷ []) (external_output 1 1 1 1 ∷ external_output 9 1 1 1 ∷ external_output 8 1 1 1 ∷ [])) ≡ bad_coupling 1
  pub broken-coupling : seen_of (record { rows = map Some family; connectors = []; couplings = Some (external_output 1 1 1 1) ∷ None ∷ [] }) ≡ (3, 1)
  -- a table that passes is the one that was handed in
  pub whole-table : intake (posted family (link 3 2 1 1 ∷ []) (external_input 1 1 2 1 ∷ [])) ≡ passed (record { rows = family; connectors = link 3 2 1 1 ∷ []; couplings = external_input 1 1 2 1 ∷ [] })

pub order : Order
unfolding seen_of intake is_time fits le of_bits
order = record {
  one-first = refl;
  two-first = refl;
  first-of-two = refl;
  broken-row-first = refl;
  connectors-first = refl;
  broken-connector = refl;
  couplings-last = refl;
  broken-coupling = refl;
  whole-table = refl;
}

-- ---- the layout: words of a model row after its id, kind and given fields
abbrev words : ℕ → ℕ → List ℕ → List ℕ
words kind fields rest = 7 ∷ kind ∷ fields ∷ rest

abbrev batch_time : ℕ
batch_time = 0x4024_0000_0000_0000

pub record Words : Type 0 where
  -- each kind reads its own cells
  pub processor-row : model_row (words 1 2 (0 ∷ 1 ∷ 0 ∷ 0 ∷ 2 ∷ 8 ∷ 0 ∷ [])) ≡ Some (row 7 (a_processor 8))
  pub batcher-row : model_row (words 2 0 (0 ∷ 1 ∷ 0 ∷ 0 ∷ 2 ∷ 3 ∷ batch_time ∷ [])) ≡ Some (row 7 (a_batcher 3 ten))
  pub stopwatch-row : model_row (words 3 4 (0 ∷ 1 ∷ 2 ∷ 3 ∷ 4 ∷ 1 ∷ 0 ∷ [])) ≡ Some (row 7 (a_stopwatch Maximum))
  pub stopwatch-minimum : model_row (words 3 4 (0 ∷ 1 ∷ 2 ∷ 3 ∷ 4 ∷ 0 ∷ 0 ∷ [])) ≡ Some (row 7 (a_stopwatch Minimum))
  pub coupled-row : model_row (words 4 0 (0 ∷ 0 ∷ 0 ∷ 0 ∷ 0 ∷ 0 ∷ 0 ∷ [])) ≡ Some (row 7 coupled)
  -- "its kind is none of the four, its metric neither of the two"
  pub kind_0 : model_row (words 0 0 (0 ∷ 0 ∷ 0 ∷ 0 ∷ 0 ∷ 0 ∷ 0 ∷ [])) ≡ None
  pub kind-5 : model_row (words 5 0 (0 ∷ 0 ∷ 0 ∷ 0 ∷ 0 ∷ 0 ∷ 0 ∷ [])) ≡ None
  pub metric-2 : model_row (words 3 4 (0 ∷ 1 ∷ 2 ∷ 3 ∷ 4 ∷ 2 ∷ 0 ∷ [])) ≡ None
  -- omitted and given: "Rows that omit `queue_capacity` now get 32", "Metric defaults to Minimum", a parent only where it is given; an omitted field is not looked at
  pub capacity-omitted : model_row (words 1 0 (0 ∷ 1 ∷ 0 ∷ 0 ∷ 2 ∷ 8 ∷ 0 ∷ [])) ≡ Some (row 7 (a_processor 32))
  pub metric-omitted : model_row (words 3 0 (0 ∷ 1 ∷ 2 ∷ 3 ∷ 4 ∷ 2 ∷ 0 ∷ [])) ≡ Some (row 7 (a_stopwatch Minimum))
  pub parent-given : model_row (words 4 1 (5 ∷ 0 ∷ 0 ∷ 0 ∷ 0 ∷ 0 ∷ 0 ∷ [])) ≡ Some (within 5 7 coupled)
  pub parent-omitted : model_row (words 4 6 (2 ^ 16 ∷ 0 ∷ 0 ∷ 0 ∷ 0 ∷ 2 ^ 63 ∷ 2 ^ 63 ∷ [])) ≡ Some (row 7 coupled)
  pub all-given : model_row (words 1 7 (5 ∷ 1 ∷ 0 ∷ 0 ∷ 2 ∷ 8 ∷ 0 ∷ [])) ≡ Some (within 5 7 (a_processor 8))
  pub metric-among-all : model_row (words 3 7 (5 ∷ 1 ∷ 2 ∷ 3 ∷ 4 ∷ 1 ∷ 0 ∷ [])) ≡ Some (within 5 7 (a_stopwatch Maximum))
  pub metric-with-capacity : model_row (words 3 6 (5 ∷ 1 ∷ 2 ∷ 3 ∷ 4 ∷ 1 ∷ 0 ∷ [])) ≡ Some (row 7 (a_stopwatch Maximum))
  pub all-but-metric : model_row (words 3 3 (5 ∷ 1 ∷ 2 ∷ 3 ∷ 4 ∷ 1 ∷ 0 ∷ [])) ≡ Some (within 5 7 (a_stopwatch Minimum))
  pub all-but-capacity : model_row (words 1 5 (5 ∷ 1 ∷ 0 ∷ 0 ∷ 2 ∷ 8 ∷ 0 ∷ [])) ≡ Some (within 5 7 (a_processor 32))
  pub given-8 : model_row (words 4 8 (0 ∷ 0 ∷ 0 ∷ 0 ∷ 0 ∷ 0 ∷ 0 ∷ [])) ≡ None
  -- every port cell keeps its width, used by the kind or not
  pub unused-processor-2 : model_row (words 1 2 (0 ∷ 1 ∷ wide ∷ 0 ∷ 2 ∷ 8 ∷ 0 ∷ [])) ≡ None
  pub unused-processor-3 : model_row (words 1 2 (0 ∷ 1 ∷ 0 ∷ wide ∷ 2 ∷ 8 ∷ 0 ∷ [])) ≡ None
  pub unused-batcher-2 : model_row (words 2 0 (0 ∷ 1 ∷ wide ∷ 0 ∷ 2 ∷ 3 ∷ batch_time ∷ [])) ≡ None
  pub unused-batcher-3 : model_row (words 2 0 (0 ∷ 1 ∷ 0 ∷ wide ∷ 2 ∷ 3 ∷ batch_time ∷ [])) ≡ None
  pub unused-coupled-1 : model_row (words 4 0 (0 ∷ wide ∷ 0 ∷ 0 ∷ 0 ∷ 0 ∷ 0 ∷ [])) ≡ None
  pub unused-coupled-2 : model_row (words 4 0 (0 ∷ 0 ∷ wide ∷ 0 ∷ 0 ∷ 0 ∷ 0 ∷ [])) ≡ None
  pub unused-coupled-3 : model_row (words 4 0 (0 ∷ 0 ∷ 0 ∷ wide ∷ 0 ∷ 0 ∷ 0 ∷ [])) ≡ None
  pub unused-coupled-out : model_row (words 4 0 (0 ∷ 0 ∷ 0 ∷ 0 ∷ wide ∷ 0 ∷ 0 ∷ [])) ≡ None
  pub unused-last : model_row (words 4 0 (0 ∷ last ∷ last ∷ last ∷ last ∷ 0 ∷ 0 ∷ [])) ≡ Some (row 7 coupled)
  -- "a row cut short"
  pub model-short : model_row (words 4 0 (0 ∷ 0 ∷ 0 ∷ 0 ∷ 0 ∷ 0 ∷ [])) ≡ None
  pub connector-whole : connector_row (1 ∷ 2 ∷ 3 ∷ 4 ∷ []) ≡ Some (link 1 2 3 4)
  pub connector-short : connector_row (1 ∷ 2 ∷ 3 ∷ []) ≡ None
  pub input-row : coupling_row (7 ∷ 1 ∷ 0 ∷ 3 ∷ 4 ∷ 5 ∷ []) ≡ Some (external_input 7 3 4 5)
  pub output_row : coupling_row (7 ∷ 2 ∷ 6 ∷ 3 ∷ 0 ∷ 5 ∷ []) ≡ Some (external_output 7 6 3 5)
  pub internal-row : coupling_row (7 ∷ 3 ∷ 6 ∷ 8 ∷ 4 ∷ 5 ∷ []) ≡ Some (internal_coupling 7 6 8 4 5)
  pub coupling-kind-0 : coupling_row (1 ∷ 0 ∷ 6 ∷ 3 ∷ 4 ∷ 5 ∷ []) ≡ None
  pub coupling-kind-4 : coupling_row (1 ∷ 4 ∷ 6 ∷ 3 ∷ 4 ∷ 5 ∷ []) ≡ None
  pub coupling-short : coupling_row (1 ∷ 3 ∷ 6 ∷ 3 ∷ 4 ∷ []) ≡ None
  pub input-unused : coupling_row (1 ∷ 1 ∷ wide ∷ 3 ∷ 4 ∷ 5 ∷ []) ≡ None
  pub output-unused : coupling_row (1 ∷ 2 ∷ 6 ∷ 3 ∷ wide ∷ 5 ∷ []) ≡ None
  -- rows are cut one after the other, and one that is cut short counts and breaks
  pub two-rows : lent [] (1 ∷ 2 ∷ 3 ∷ 4 ∷ 5 ∷ 6 ∷ 7 ∷ 8 ∷ []) [] ≡ posted [] (link 1 2 3 4 ∷ link 5 6 7 8 ∷ []) []
  pub one_word : lent (7 ∷ []) (1 ∷ 2 ∷ 3 ∷ 4 ∷ 5 ∷ []) (1 ∷ []) ≡ record { rows = None ∷ []; connectors = Some (link 1 2 3 4) ∷ None ∷ []; couplings = None ∷ [] }
  pub short-is-2 : seen_of (lent (words 4 0 (replicate 7 0) ++ 1 ∷ []) [] []) ≡ (2, 1)
  pub short-is-3 : seen_of (lent [] (replicate 5 1) []) ≡ (3, 1)
  pub short-coupling-is-3 : seen_of (lent (words 4 0 (replicate 7 0)) [] (7 ∷ 3 ∷ 1 ∷ 1 ∷ 1 ∷ [])) ≡ (3, 0)
  pub no_words : seen_of (lent [] [] []) ≡ ok
  -- "Written out, it is one row of six u64 in that order, the time as its bits. Words past a lent buffer's last whole row are neither read nor written."
  pub message-row : written (message 1 2 3 4 ten 5) ≡ 1 ∷ 2 ∷ 3 ∷ 4 ∷ batch_time ∷ 5 ∷ []
  pub room_0 : room_in (replicate 5 0) ≡ 0
  pub room-1 : room_in (replicate 11 0) ≡ 1
  pub room-2 : room_in (replicate 12 0) ≡ 2
  -- "each step's rows go straight after the rows already laid down; all beyond stays as it was"
  pub laid-down : laid_down (message 1 2 3 4 ten 5 ∷ message 6 7 8 9 ten 10 ∷ []) (replicate 14 99)
      ≡ 1 ∷ 2 ∷ 3 ∷ 4 ∷ batch_time ∷ 5 ∷ 6 ∷ 7 ∷ 8 ∷ 9 ∷ batch_time ∷ 10 ∷ 99 ∷ 99 ∷ []

pub words-read : Words
unfolding seen_of intake is_time fits le of_bits to_bits lent written
words-read = record {
  processor-row = refl;
  batcher-row = refl;
  stopwatch-row = refl;
  stopwatch-minimum = refl;
  coupled-row = refl;
  kind_0 = refl;
  kind-5 = refl;
  metric-2 = refl;
  capacity-omitted = refl;
  metric-omitted = refl;
  parent-given = refl;
  parent-omitted = refl;
  all-given = refl;
  metric-among-all = refl;
  metric-with-capacity = refl;
  all-but-metric = refl;
  all-but-capacity = refl;
  given-8 = refl;
  unused-processor-2 = refl;
  unused-processor-3 = refl;
  unused-batcher-2 = refl;
  unused-batcher-3 = refl;
  unused-coupled-1 = refl;
  unused-coupled-2 = refl;
  unused-coupled-3 = refl;
  unused-coupled-out = refl;
  unused-last = refl;
  model-short = refl;
  connector-whole = refl;
  connector-short = refl;
  input-row = refl;
  output_row = refl;
  internal-row = refl;
  coupling-kind-0 = refl;
  coupling-kind-4 = refl;
  coupling-short = refl;
  input-unused = refl;
  output-unused = refl;
  two-rows = refl;
  one_word = refl;
  short-is-2 = refl;
  short-is-3 = refl;
  short-coupling-is-3 = refl;
  no_words = refl;
  message-row = refl;
  room_0 = refl;
  room-1 = refl;
  room-2 = refl;
  laid-down = refl;
}

-- ---- A7 of 02: "the intake reports how many rows omitted the field"
-- a row with port in 1 and port out 2, and a setting that is not looked at where it is omitted
abbrev saying : ℕ → ℕ → List ℕ
saying kind fields = words kind fields (5 ∷ 1 ∷ 0 ∷ 3 ∷ 2 ∷ 8 ∷ 0 ∷ [])

abbrev rows_alike : ℕ → List ℕ
rows_alike zero = []
rows_alike (suc k) = saying 1 0 ++ rows_alike k

-- whether it omits it, for every word 2 from 0 to 9
abbrev omitting_by : ℕ → List Bool
omitting_by kind = map (λ fields. omits_capacity (saying kind fields)) (from 0 10)

pub record Omitting : Type 0 where
  -- 2 says that it is given; 1 and 4 say nothing of it, and above 7 it is no row to read
  pub processors : omitting_by 1 ≡ true ∷ true ∷ false ∷ false ∷ true ∷ true ∷ false ∷ false ∷ false ∷ false ∷ []
  -- other kinds have no such field
  pub no_kind : omitting_by 0 ≡ replicate 10 false
  pub batchers : omitting_by 2 ≡ replicate 10 false
  pub stopwatches : omitting_by 3 ≡ replicate 10 false
  pub coupleds : omitting_by 4 ≡ replicate 10 false
  pub kind-over : omitting_by 5 ≡ replicate 10 false
  -- nor is one that is cut short, or longer, a row to read
  pub cut_short : omits_capacity (7 ∷ 1 ∷ 0 ∷ 0 ∷ 1 ∷ 0 ∷ 0 ∷ 2 ∷ 8 ∷ []) ≡ false
  pub too_long : omits_capacity (saying 1 0 ++ 0 ∷ []) ≡ false
  pub no_row : omits_capacity [] ≡ false
  -- how many
  pub none_lent : omitted_in [] ≡ 0
  pub two-omit : omitted_in (saying 1 0 ++ saying 2 0 ++ saying 1 2 ++ saying 1 5 ++ saying 3 0) ≡ 2
  pub one-is-short : omitted_in (saying 1 0 ++ saying 4 0 ++ 7 ∷ 1 ∷ 0 ∷ 0 ∷ []) ≡ 1
  pub all-64 : omitted_in (rows_alike 64) ≡ 64

pub omitting : Omitting
omitting = record {
  processors = refl;
  no_kind = refl;
  batchers = refl;
  stopwatches = refl;
  coupleds = refl;
  kind-over = refl;
  cut_short = refl;
  too_long = refl;
  no_row = refl;
  none_lent = refl;
  two-omit = refl;
  one-is-short = refl;
  all-64 = refl;
}
