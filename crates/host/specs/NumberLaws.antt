-- The numbers and words of an answer are those of the rules' outcome that it tells. Assumes nothing.
use Rattle.std.specs.Prelude.{ℕ, ◌≡◌, refl, List, Float, Err, Ok, Result, None, Some, ⊤}
use Rattle.rules.specs.declared.Refusal.{Refusal}
use Rattle.std.proofs.Common.{sym, ap, ◌∙◌}
use Rattle.std.specs.Float.{binary64}
use Rattle.std.specs.Float.Ieee.{to_bits}
use Rattle.rules.specs.declared.Message.{Message}
use Rattle.rules.specs.Names.{number}
use Rattle.rules.specs.Base.{Outcome, refused, done}
use Rattle.rules.specs.Intake as Intake
use Rattle.rules.specs.Intake.{taken_in}
use Rattle.rules.specs.Calls as Calls
use Rattle.rules.specs.Calls.{Ran}
use Rattle.table.specs.declared.BadTable.{BadTable}
use Rattle.table.specs.declared.BadTable.TheVariants as bad
use Rattle.table.specs.Verdicts.{verdict_of}
use Rattle.memory.specs.View.{working_number, batching_number}
use Rattle.engine.specs.declared.Report.{Report}
use Rattle.engine.specs.Telling.{end_is}
use Rattle.storing.specs.Lent.{answered}
use Rattle.lent_runs.specs.Reported.{Reported}
use Rattle.asking.specs.declared.Status.{Status}
use Rattle.asking.specs.declared.Status.TheVariants as status
use Rattle.asking.specs.Told.{status_answered}
use Rattle.simulation.specs.Answers.{count_told, time_told}
use Rattle.trace_blocks.specs.Blocks.{six}
use Rattle.trace_files.specs.declared.ReadError.TheVariants as read
use Rattle.trace_files.specs.Files as Files
use Rattle.trace_files.specs.Files.{reading_number}
use Rattle.trace_files.specs.Answers.{Written, Read, written_is, read_is}
use Rattle.host.specs.Numbers.{answer_number, number_of, end_number, end_word, reported, report_after, said, status_after, count_after, time_after, intake_said, written_after, read_said}

pub answer-is : {A : Type 0} (o : Outcome A) → answer_number (answered o) ≡ number_of o
answer-is (refused r) = refl
answer-is (done a) = refl

-- ---- intake: what was answered, and what it is known to be
abbrev verdict_number : Result ⊤ BadTable → ℕ
verdict_number (Err bad.TooLarge) = 1
verdict_number (Err (bad.Row row)) = 2
verdict_number (Err (bad.Connector row)) = 3
verdict_number (Err (bad.Coupling row)) = 3
verdict_number (Ok tt) = 0

abbrev verdict_words : ℕ → List ℕ → Result ⊤ BadTable → List ℕ
verdict_words omitted report (Err bad.TooLarge) = reported 0 0 0 report
verdict_words omitted report (Err (bad.Row row)) = reported 1 row 0 report
verdict_words omitted report (Err (bad.Connector row)) = reported 2 row 0 report
verdict_words omitted report (Err (bad.Coupling row)) = reported 3 row 0 report
verdict_words omitted report (Ok tt) = reported 0 0 omitted report

verdict-number : (v : Intake.Verdict) → verdict_number (verdict_of v) ≡ number_of (taken_in v)
verdict-number Intake.too_large = refl
verdict-number (Intake.bad_row row) = refl
verdict-number (Intake.bad_connector row) = refl
verdict-number (Intake.bad_coupling row) = refl
verdict-number (Intake.passed t) = refl

verdict-words : (omitted : ℕ) (report : List ℕ) (v : Intake.Verdict) → verdict_words omitted report (verdict_of v) ≡ intake_said omitted v report
verdict-words omitted report Intake.too_large = refl
verdict-words omitted report (Intake.bad_row row) = refl
verdict-words omitted report (Intake.bad_connector row) = refl
verdict-words omitted report (Intake.bad_coupling row) = refl
verdict-words omitted report (Intake.passed t) = refl

pub verdict-told : (omitted : ℕ) (report : List ℕ) (v : Intake.Verdict) (told known : Result ⊤ BadTable) → told ≡ verdict_of v → told ≡ known
    → (verdict_number known ≡ number_of (taken_in v)) × (verdict_words omitted report known ≡ intake_said omitted v report)
verdict-told omitted report v told known e f =
    (ap verdict_number (sym f ∙ e) ∙ verdict-number v, ap (verdict_words omitted report) (sym f ∙ e) ∙ verdict-words omitted report v)

-- ---- a run
module _ (r : Report) (ran : Ran) (before laid : List ℕ) (h : Reported r ran before laid) where
  pub run-number : end_number (end_is r.end) ≡ end_number ran.end
  run-number = ap end_number h.end

  pub run-words : (report : List ℕ) → reported r.steps r.written (end_word (end_is r.end)) report ≡ report_after report ran
  run-words report = λ i. reported (h.steps i) (h.written i) (end_word (h.end i)) report

-- ---- a status: its number, and the words after it
abbrev status_number : Result Status Refusal → ℕ
status_number (Ok s) = 0
status_number (Err r) = number r

abbrev words_said : List ℕ → Result Status Refusal → List ℕ
words_said report (Ok (status.Processor phase)) = said 0 (working_number phase) report
words_said report (Ok (status.Batcher phase)) = said 1 (batching_number phase) report
words_said report (Ok (status.Mean (Some mean))) = said 2 (to_bits binary64 mean) report
words_said report (Ok (status.Mean None)) = said 3 0 report
words_said report (Ok (status.Parked count)) = said 4 count report
words_said report (Err r) = report

status-number : (o : Outcome Calls.Status) → status_number (status_answered o) ≡ number_of o
status-number (refused r) = refl
status-number (done s) = refl

status-words : (report : List ℕ) (o : Outcome Calls.Status) → words_said report (status_answered o) ≡ status_after report o
status-words report (refused r) = refl
status-words report (done (Calls.OfProcessor phase)) = refl
status-words report (done (Calls.OfBatcher phase)) = refl
status-words report (done (Calls.Mean None)) = refl
status-words report (done (Calls.Mean (Some mean))) = refl
status-words report (done (Calls.ParkedCount count)) = refl

-- what was answered, and what it is known to be
pub status-told : (report : List ℕ) (o : Outcome Calls.Status) (told known : Result Status Refusal) → told ≡ status_answered o → told ≡ known → (status_number known ≡ number_of o) × (words_said report known ≡ status_after report o)
status-told report o told known e f =
    (ap status_number (sym f ∙ e) ∙ status-number o, ap (words_said report) (sym f ∙ e) ∙ status-words report o)

-- ---- how many messages
abbrev listing_number : Result ℕ Refusal → ℕ
listing_number (Ok n) = 0
listing_number (Err r) = number r

abbrev count_said : ℕ → Result ℕ Refusal → ℕ
count_said count (Ok n) = n
count_said count (Err r) = count

listing-number : (o : Outcome (List Message)) → listing_number (count_told o) ≡ number_of o
listing-number (refused r) = refl
listing-number (done messages) = refl

listing-count : (count : ℕ) (o : Outcome (List Message)) → count_said count (count_told o) ≡ count_after count o
listing-count count (refused r) = refl
listing-count count (done messages) = refl

pub listing-told : (count : ℕ) (o : Outcome (List Message)) (told known : Result ℕ Refusal) → told ≡ count_told o → told ≡ known → (listing_number known ≡ number_of o) × (count_said count known ≡ count_after count o)
listing-told count o told known e f = (ap listing_number (sym f ∙ e) ∙ listing-number o, ap (count_said count) (sym f ∙ e) ∙ listing-count count o)

-- ---- the clock
abbrev clock_number : Result Float Refusal → ℕ
clock_number (Ok x) = 0
clock_number (Err r) = number r

abbrev time_said : Float → Result Float Refusal → Float
time_said time (Ok x) = x
time_said time (Err r) = time

clock-number : (o : Outcome Float) → clock_number (time_told o) ≡ number_of o
clock-number (refused r) = refl
clock-number (done x) = refl

clock-time : (time : Float) (o : Outcome Float) → time_said time (time_told o) ≡ time_after time o
clock-time time (refused r) = refl
clock-time time (done x) = refl

pub clock-told : (time : Float) (o : Outcome Float) (told known : Result Float Refusal) → told ≡ time_told o → told ≡ known → (clock_number known ≡ number_of o) × (time_said time known ≡ time_after time o)
clock-told time o told known e f = (ap clock_number (sym f ∙ e) ∙ clock-number o, ap (time_said time) (sym f ∙ e) ∙ clock-time time o)

-- ---- a trace written: the number, and how many bytes
abbrev written_number : Written → ℕ
written_number (Ok bytes) = 0
written_number (Err r) = number r

abbrev bytes_told : ℕ → Written → ℕ
bytes_told before (Ok bytes) = bytes
bytes_told before (Err r) = before

written-number : (o : Outcome (List ℕ)) → written_number (written_is o) ≡ number_of o
written-number (refused r) = refl
written-number (done bytes) = refl

written-bytes : (before : ℕ) (o : Outcome (List ℕ)) → bytes_told before (written_is o) ≡ written_after before o
written-bytes before (refused r) = refl
written-bytes before (done bytes) = refl

pub written-told : (before : ℕ) (o : Outcome (List ℕ)) (told known : Written) → told ≡ written_is o → told ≡ known
    → (written_number known ≡ number_of o) × (bytes_told before known ≡ written_after before o)
written-told before o told known e f = (ap written_number (sym f ∙ e) ∙ written-number o, ap (bytes_told before) (sym f ∙ e) ∙ written-bytes before o)

-- ---- a trace read: the number, and the report
abbrev number_of_read : Read → ℕ
number_of_read (Ok count) = 0
number_of_read (Err (read.BadBlock block)) = 14
number_of_read (Err read.NoRoom) = 13

abbrev read_words : List ℕ → Read → List ℕ
read_words report (Ok count) = reported count 0 0 report
read_words report (Err (read.BadBlock block)) = reported 0 block 0 report
read_words report (Err read.NoRoom) = reported 0 0 0 report

read_number : (r : Files.Reading) → number_of_read (read_is six r) ≡ reading_number r
read_number (Files.read numbers) = refl
read_number (Files.bad_block block) = refl
read_number Files.no_room = refl

read-words : (report : List ℕ) (r : Files.Reading) → read_words report (read_is six r) ≡ read_said r report
read-words report (Files.read numbers) = refl
read-words report (Files.bad_block block) = refl
read-words report Files.no_room = refl

pub read_told : (report : List ℕ) (r : Files.Reading) (told known : Read) → told ≡ read_is six r → told ≡ known
    → (number_of_read known ≡ reading_number r) × (read_words report known ≡ read_said r report)
read_told report r told known e f = (ap number_of_read (sym f ∙ e) ∙ read_number r, ap (read_words report) (sym f ∙ e) ∙ read-words report r)
