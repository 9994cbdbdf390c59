-- Calls of jt_step_n one after the other on one state buffer and one output, taken as one. Definitions only. Assumes nothing.
-- The words of A11 that they state: "a steps and then b steps, with the same service list and the second part's rows going after the first's in the same buffer, shall give the end state, rows, total steps and answer of one call with a + b".
use Rattle.std.specs.Prelude.{ℕ, ◌+◌, ◌*◌, ◌≡◌, List, [], ◌∷◌, ◌++◌, get_or, take, drop, ltb, eqb, Float, if◌then◌else◌}
use Rattle.rules.specs.Layout.{message_width, room_in, laid_down}
use Rattle.rules.specs.Calls as Calls
use Rattle.memory.specs.Words.{word_at}
use Rattle.lookup.specs.Inside.{tail_at, table_in}
use Rattle.views.specs.World.{end_of}
use Rattle.rerunning.specs.Running.{tail_in, sim_of}
use Rattle.storing.specs.State.{is_stored}
use Rattle.storing.specs.Lent.{run_in, left_by_run}
use Rattle.host.specs.Numbers.{end_number, reported, report_after}

-- ---- a call that was made: what it returned, and the lent memory after it
pub record Made : Type 0 where
  pub number : ℕ
  pub report : List ℕ
  pub state : List ℕ
  pub rows : List ℕ

-- jt_step_n: each field is the right-hand side of its contract in crates/host/src/lib.rt
abbrev pub jt_step_n : List Float → ℕ → (state rows report : List ℕ) → Made
jt_step_n services count state rows report =
    let ran = run_in (Calls.step_n services (room_in rows) count) state in
    record { number = end_number ran.end; report = report_after report ran; state = left_by_run state ran; rows = laid_down ran.rows rows }

-- ---- what its report tells: steps completed, rows written, how it ended
abbrev pub steps_told : List ℕ → ℕ
steps_told report = get_or report 0 0

abbrev pub rows_told : List ℕ → ℕ
rows_told report = get_or report 1 0

abbrev pub end_told : List ℕ → ℕ
end_told report = get_or report 2 0

-- where in the output the next row goes
abbrev pub next_row : List ℕ → ℕ
next_row report = rows_told report * message_width

-- the output that is left: all the words behind the rows, also those past its last whole row
abbrev pub rest_of : Made → List ℕ
rest_of first = drop (next_row first.report) first.rows

-- ---- two calls as one: "the answer for the whole is the first part's refusal", 0 being none; else it is the second's
abbrev pub unless_refused : (number first second : ℕ) → ℕ
unless_refused number first second = if eqb number 0 then second else first

-- with `report` as the three words that the whole is told in
abbrev pub as_one : (report : List ℕ) (first second : Made) → Made
as_one report first second = record {
  number = unless_refused first.number first.number second.number;
  report = reported (steps_told first.report + steps_told second.report) (rows_told first.report + rows_told second.report)
      (unless_refused first.number (end_told first.report) (end_told second.report)) report;
  state = second.state;
  rows = take (next_row first.report) first.rows ++ second.rows;
}

-- "a steps and then b steps": the second call is handed the state buffer that the first left, and the output that is left. `one` and `two` are the reports that they are lent, which may be the same three words
abbrev pub jt_step_n_on : List Float → (a b : ℕ) → (state rows one two report : List ℕ) → Made
jt_step_n_on services a b state rows one two report =
    let first = jt_step_n services a state rows one in
    as_one report first (jt_step_n services b first.state (rest_of first) two)

-- and as many calls as one likes: one for each number of the list, and one of no steps at last. Each is lent three words of its own, `report` are those that the whole is told in
abbrev pub blank : List ℕ
blank = 0 ∷ 0 ∷ 0 ∷ []

abbrev pub jt_in_parts : List Float → List ℕ → (state rows report : List ℕ) → Made
jt_in_parts services [] state rows report = jt_step_n services 0 state rows report
jt_in_parts services (n ∷ ns) state rows report =
    let first = jt_step_n services n state rows blank in
    as_one report first (jt_in_parts services ns first.state (rest_of first) blank)

-- ---- what is compared of two state buffers: the words of the state in each, up to its end (docs/LAYOUT.md: the rows' words, and six for each active message)
abbrev pub state_end : List ℕ → ℕ
state_end state = tail_at state + (end_of (table_in state) + word_at (tail_in state) 0 * message_width)

abbrev pub up_to_end : List ℕ → List ℕ
up_to_end state = take (state_end state) state

-- the same answer, report and output, and the same state
pub record Same (one other : Made) : Type 0 where
  pub number : one.number ≡ other.number
  pub report : one.report ≡ other.report
  pub rows : one.rows ≡ other.rows
  pub state : up_to_end one.state ≡ up_to_end other.state
  -- every later call goes by these two: whether 20 lets the buffer pass, and the simulation in it
  pub passes : is_stored one.state ≡ is_stored other.state
  pub sim : sim_of one.state ≡ sim_of other.state

-- ---- where a run of `count` steps that is to be paused after `pause` pauses
abbrev pub paused_after : (pause count : ℕ) → ℕ
paused_after pause count = if ltb count pause then count else pause
