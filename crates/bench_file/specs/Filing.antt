-- How the lines of a file become rows of lent words, and what the answer is. Definitions only. Assumes nothing.
use Rattle.std.specs.Prelude.{ℕ, ◌+◌, ◌*◌, ◌-◌, ◌/◌, Bool, true, false, ◌&&◌, List, [], ◌∷◌, length, get_or, drop, leb, ltb, eqb, Option, Some, None, Result, Ok, Err, if◌then◌else◌}
use Rattle.std.proofs.Math.Seq.{paste}
use Rattle.rules.specs.Base.{hold}
use Rattle.bench_words.specs.Splitting.{lines_of}
use Rattle.bench_lines.specs.declared.Item.{Item}
use Rattle.bench_lines.specs.declared.Item.TheVariants.{Processor, Batcher, Stopwatch, Coupled, Connector, Input, Output, Internal, Service, InjectInput, StepN, StepUntil, StepUntilIdle, Rows}
use Rattle.bench_lines.specs.declared.Wanted.TheVariants.{NoMore}
use Rattle.bench_lines.specs.declared.Expected.{Expected}
use Rattle.bench_lines.specs.Reading.{only, read_line}
use Rattle.bench_file.specs.declared.Counts.{Counts}
use Rattle.bench_file.specs.declared.Misread.{Misread}
use Rattle.bench_file.specs.declared.Page.{Page}
use Rattle.bench_file.specs.declared.Page.TheVariants.{Models, Connectors, Couplings, Services, Actions, Flag}

-- ---- pages
-- the words of the five lent slices
pub record Pages : Type 0 where
  pub models : List ℕ
  pub connectors : List ℕ
  pub couplings : List ℕ
  pub services : List ℕ
  pub actions : List ℕ

abbrev pub pages_at : List ℕ → List ℕ → List ℕ → List ℕ → List ℕ → Pages
pages_at models connectors couplings services actions =
    record { models = models; connectors = connectors; couplings = couplings; services = services; actions = actions }

-- where the row of an item goes
abbrev pub page_of : Item → Page
page_of Processor = Models
page_of Batcher = Models
page_of Stopwatch = Models
page_of Coupled = Models
page_of Connector = Connectors
page_of Input = Couplings
page_of Output = Couplings
page_of Internal = Couplings
page_of Service = Services
page_of InjectInput = Actions
page_of StepN = Actions
page_of StepUntil = Actions
page_of StepUntilIdle = Actions
page_of Rows = Flag

-- ---- rows
-- one row more has room after so many
abbrev pub has_room : ℕ → ℕ → List ℕ → Bool
has_room width row words = ltb row (length words / width)

-- the first `width` cells stand after `row` rows; where there is no room, nothing changes
abbrev pub put_row : ℕ → ℕ → List ℕ → List ℕ → List ℕ
put_row width row cells words = if has_room width row words then paste words (row * width) cells width else words

pub record Filing : Type 0 where
  pub counts : Counts
  pub fault : Option Expected
  pub pages : Pages

-- the counts after a row, and what was expected in its place; where there is no room for it, they are those before it
abbrev pub counts_of : Counts → Result Counts Expected → Counts
counts_of n (Ok m) = m
counts_of n (Err e) = n

abbrev pub fault_of : Result Counts Expected → Option Expected
fault_of (Ok m) = None
fault_of (Err e) = Some e

abbrev pub filing : Counts → Result Counts Expected → Pages → Filing
filing n r pages = record { counts = counts_of n r; fault = fault_of r; pages = pages }

abbrev pub one_more : Page → Counts → Counts
one_more Models n = record { models = n.models + 1; connectors = n.connectors; couplings = n.couplings; services = n.services; actions = n.actions; rows = n.rows }
one_more Connectors n = record { models = n.models; connectors = n.connectors + 1; couplings = n.couplings; services = n.services; actions = n.actions; rows = n.rows }
one_more Couplings n = record { models = n.models; connectors = n.connectors; couplings = n.couplings + 1; services = n.services; actions = n.actions; rows = n.rows }
one_more Services n = record { models = n.models; connectors = n.connectors; couplings = n.couplings; services = n.services + 1; actions = n.actions; rows = n.rows }
one_more Actions n = record { models = n.models; connectors = n.connectors; couplings = n.couplings; services = n.services; actions = n.actions + 1; rows = n.rows }
one_more Flag n = record { models = n.models; connectors = n.connectors; couplings = n.couplings; services = n.services; actions = n.actions; rows = true }

abbrev pub count_of : Page → Counts → ℕ
count_of Models n = n.models
count_of Connectors n = n.connectors
count_of Couplings n = n.couplings
count_of Services n = n.services
count_of Actions n = n.actions
count_of Flag n = 0

-- a row that has room is counted; one that has none was not expected
abbrev pub placed : Bool → Page → Counts → Result Counts Expected
placed true page n = Ok (one_more page n)
placed false page n = Err (only NoMore)

-- the row goes after the others of its page
abbrev pub file_in : Page → List ℕ → Counts → Pages → Filing
file_in Models cells n p =
    filing n (placed (has_room 10 n.models p.models) Models n) (pages_at (put_row 10 n.models cells p.models) p.connectors p.couplings p.services p.actions)
file_in Connectors cells n p =
    filing n (placed (has_room 4 n.connectors p.connectors) Connectors n) (pages_at p.models (put_row 4 n.connectors cells p.connectors) p.couplings p.services p.actions)
file_in Couplings cells n p =
    filing n (placed (has_room 6 n.couplings p.couplings) Couplings n) (pages_at p.models p.connectors (put_row 6 n.couplings cells p.couplings) p.services p.actions)
file_in Services cells n p =
    filing n (placed (has_room 1 n.services p.services) Services n) (pages_at p.models p.connectors p.couplings (put_row 1 n.services cells p.services) p.actions)
file_in Actions cells n p =
    filing n (placed (has_room 7 n.actions p.actions) Actions n) (pages_at p.models p.connectors p.couplings p.services (put_row 7 n.actions cells p.actions))
file_in Flag cells n p = filing n (placed true Flag n) p

-- what a line says, filed
abbrev pub file_said : Result (Option Item) Expected → List ℕ → Counts → Pages → Filing
file_said (Ok None) cells n p = record { counts = n; fault = None; pages = p }
file_said (Ok (Some item)) cells n p = file_in (page_of item) cells n p
file_said (Err e) cells n p = record { counts = n; fault = Some e; pages = p }

-- ---- the file
pub record Ending : Type 0 where
  pub reading : Result Counts Misread
  pub pages : Pages

abbrev pub ending : Result Counts Misread → Pages → Ending
ending r pages = record { reading = r; pages = pages }

abbrev pub wrong_line : ℕ → ℕ → Expected → Misread
wrong_line line column e = record { line = line; column = column; expected = e }

-- after a line, the first is 1: the next, or the answer that it is wrong, and at which column
abbrev pub after : ℕ → ℕ → Option Expected → Counts → Pages → (Counts → Pages → Ending) → Ending
after line column None n p next = next n p
after line column (Some e) n p next = ending (Err (wrong_line line column e)) p

-- the lines after the first k
abbrev pub read_from : List (List ℕ) → ℕ → Counts → Pages → Ending
read_from [] k n p = ending (Ok n) p
read_from (line ∷ rest) k n p =
    let filed = file_said (read_line line).said (read_line line).cells n p in
    after (k + 1) (read_line line).column filed.fault filed.counts filed.pages (read_from rest (k + 1))

abbrev pub no_rows : Counts
no_rows = record { models = 0; connectors = 0; couplings = 0; services = 0; actions = 0; rows = false }

-- "A byte order mark at the file's start is passed over": EF BB BF. The first line's columns count from behind it
abbrev pub mark_span : List ℕ → ℕ
mark_span text = if hold (leb 3 (length text) ∷ eqb (get_or text 0 0) 0xEF ∷ eqb (get_or text 1 0) 0xBB ∷ eqb (get_or text 2 0) 0xBF ∷ []) then 3 else 0

abbrev pub body_of : List ℕ → List ℕ
body_of text = drop (mark_span text) text

-- each line's row in order, up to the first wrong line: what is written before it stays
unfoldable pub read_file : List ℕ → Pages → Ending
read_file text p = read_from (lines_of (body_of text)) 0 no_rows p

-- ---- the line that a row was read from
abbrev pub page_number : Page → ℕ
page_number Models = 0
page_number Connectors = 1
page_number Couplings = 2
page_number Services = 3
page_number Actions = 4
page_number Flag = 5

abbrev pub same_page : Page → Page → Bool
same_page a b = eqb (page_number a) (page_number b)

abbrev pub is_on : Page → Result (Option Item) Expected → Bool
is_on page (Ok None) = false
is_on page (Ok (Some item)) = same_page page (page_of item)
is_on page (Err e) = false

-- how many rows of the page come before the one that is looked for, after a line that is on it or not
abbrev pub left_after : Bool → ℕ → ℕ
left_after true left = left - 1
left_after false left = left

-- among the lines after the first k, the one with the page's row that has so many before it from here on; 0 is no line
abbrev pub line_in : Page → List (List ℕ) → ℕ → ℕ → ℕ
line_in page [] k left = 0
line_in page (line ∷ rest) k left =
    let on = is_on page (read_line line).said in
    if on && eqb left 0 then k + 1 else line_in page rest (k + 1) (left_after on left)

unfoldable pub line_of : Page → ℕ → List ℕ → ℕ
line_of page row text = line_in page (lines_of (body_of text)) 0 row

-- where the line after one that ends at `end` starts, in so many bytes
abbrev pub next_line : ℕ → ℕ → ℕ
next_line n end = if ltb end n then end + 1 else end
