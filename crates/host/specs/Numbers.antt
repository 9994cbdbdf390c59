-- What the C calls return and write: 01's numbers for each answer. Definitions only. Assumes nothing.
use Rattle.std.specs.Prelude.{ℕ, ◌/◌, List, length, set, Float, Err, Ok, Result, ⊤, None, Some}
use Rattle.rules.specs.declared.Refusal.{Refusal}
use Rattle.std.specs.Float.{binary64}
use Rattle.std.specs.Float.Ieee.{to_bits}
use Rattle.rules.specs.declared.Message.{Message}
use Rattle.rules.specs.Names.{number}
use Rattle.rules.specs.Base.{Outcome, refused, done}
use Rattle.rules.specs.Intake.{Verdict, too_large, bad_row, bad_connector, bad_coupling, passed}
use Rattle.rules.specs.Calls.{End, Done, Reached, Spent, Refused, Ran, Status, OfProcessor, OfBatcher, Mean, ParkedCount}
use Rattle.memory.specs.View.{working_number, batching_number}
use Rattle.trace_files.specs.Files.{Reading, read, bad_block, no_room}

-- "Each returns 0 or the number of the refusal."
abbrev pub number_of : {A : Type 0} → Outcome A → ℕ
number_of (refused r) = number r
number_of (done a) = 0

abbrev pub answer_number : Result ⊤ Refusal → ℕ
answer_number (Ok tt) = 0
answer_number (Err r) = number r

abbrev pub end_number : End → ℕ
end_number Done = 0
end_number Reached = 0
end_number Spent = 0
end_number (Refused r) = number r

-- "how it ended (0 Done, 1 Reached, 2 Spent, 3 refused)"
abbrev pub end_word : End → ℕ
end_word Done = 0
end_word Reached = 1
end_word Spent = 2
end_word (Refused r) = 3

-- "steps completed, rows written, how it ended"
abbrev pub reported : (steps rows end : ℕ) → List ℕ → List ℕ
reported steps rows end report = set (set (set report 0 steps) 1 rows) 2 end

abbrev pub report_after : List ℕ → Ran → List ℕ
report_after report ran = reported ran.steps (length ran.rows) (end_word ran.end) report

-- A7 of 02: "the intake reports how many rows omitted the field". "report[0] is where the first bad row stands (0 nowhere, 1 models, 2 connectors, 3 couplings; 0 with refusal 1), report[1] that row, counted from 0, report[2] how many Processor rows omitted the field where the table passes, else 0"
abbrev pub intake_said : (omitted : ℕ) → Verdict → List ℕ → List ℕ
intake_said omitted too_large report = reported 0 0 0 report
intake_said omitted (bad_row row) report = reported 1 row 0 report
intake_said omitted (bad_connector row) report = reported 2 row 0 report
intake_said omitted (bad_coupling row) report = reported 3 row 0 report
intake_said omitted (passed t) report = reported 0 0 omitted report

-- "what it is (0 processor's phase ..; 1 batcher's phase ..; 2 stopwatch's mean as bits; 3 stopwatch with none complete; 4 parked count) and the value"
abbrev pub said : (what value : ℕ) → List ℕ → List ℕ
said what value report = set (set report 0 what) 1 value

abbrev pub status_said : Status → List ℕ → List ℕ
status_said (OfProcessor phase) report = said 0 (working_number phase) report
status_said (OfBatcher phase) report = said 1 (batching_number phase) report
status_said (Mean (Some mean)) report = said 2 (to_bits binary64 mean) report
status_said (Mean None) report = said 3 0 report
status_said (ParkedCount count) report = said 4 count report

-- "written only where nothing is refused, and so are `count` and `time`"
abbrev pub status_after : List ℕ → Outcome Status → List ℕ
status_after report (refused r) = report
status_after report (done s) = status_said s report

abbrev pub count_after : ℕ → Outcome (List Message) → ℕ
count_after count (refused r) = count
count_after count (done messages) = length messages

abbrev pub time_after : Float → Outcome Float → Float
time_after time (refused r) = time
time_after time (done clock) = clock

-- a trace on disk (include/jambthrush.h): "*written is how many bytes that is"; refused, "nothing is written, *written included"
abbrev pub written_after : ℕ → Outcome (List ℕ) → ℕ
written_after written (refused r) = written
written_after written (done bytes) = length bytes

-- "report[0]: rows read, 0 where refused; report[1]: with JT_BAD_BLOCK the bad block's number ..; report[2]: enum jt_trace_kind"
abbrev pub read_said : Reading → List ℕ → List ℕ
read_said (read numbers) report = reported (length numbers / 6) 0 0 report
read_said (bad_block i) report = reported 0 i 0 report
read_said no_room report = reported 0 0 0 report
