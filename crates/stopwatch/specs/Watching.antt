-- What the stopwatch's events answer, on lent words and by the rules. Definitions only. Assumes nothing.
use Rattle.std.specs.Prelude.{ℕ, ◌≡◌, Bool, ◌&&◌, List, [], ◌∷◌, eqb, Float, if◌then◌else◌, Ok, Err, Result, Option, Some, None}
use Rattle.times.specs.Time.{instant, never, is_time}
use Rattle.rules.specs.declared.Refusal.{Refusal}
use Rattle.rules.specs.declared.Refusal.TheVariants.{InvalidMessage, NoQueueRoom, BadState}
use Rattle.rules.specs.declared.Stopwatch.{Stopwatch}
use Rattle.rules.specs.declared.StopwatchPhase.{StopwatchPhase}
use Rattle.rules.specs.declared.StopwatchPhase.TheVariants as watching
use Rattle.rules.specs.Base.{Outcome, refused, done, hold}
use Rattle.rules.specs.Table as Table
use Rattle.rules.specs.Simulation as Simulation
use Rattle.rules.specs.Valid.{model_fits, guarded_by, stopwatch_external_call, stopwatch_internal_call}
use Rattle.marks.specs.declared.Mark.{Mark}
use Rattle.marks.specs.declared.Mark.TheVariants.{Start, Stop}
use Rattle.marks.specs.declared.Unmarked.{Unmarked}
use Rattle.marks.specs.declared.Unmarked.TheVariants as marks
use Rattle.marks.specs.declared.CutShort.{CutShort}
use Rattle.marks.specs.Jobs.{jobs_in, fit_in, fetched_in}
use Rattle.marks.specs.Marking.{marked_in}
use Rattle.events.specs.declared.Taken.TheVariants as taken
use Rattle.stopwatch.specs.declared.StopwatchState.{StopwatchState}
use Rattle.events.specs.declared.Handed.{Handed}
use Rattle.events.specs.declared.Taken.{Taken}
use Rattle.events.specs.Meaning.{handed_back, fate_of}

-- a state with the jobs in its words
abbrev pub stopwatch_of : StopwatchState → List ℕ → Simulation.StopwatchState
stopwatch_of s words = record { phase = s.phase; timer = s.timer; jobs = jobs_in s.held words }

-- "infinite at first, phase Passive, nothing held"
abbrev pub fresh : StopwatchState
fresh = record { phase = watching.Passive; timer = never; held = 0 }

-- the state as it was
abbrev pub unchanged : StopwatchState → Refusal → Handed StopwatchState Taken
unchanged s refusal = record { next = s; answer = Err refusal }

-- ---- on the words
-- what 20 asks: of the state and the row, and of the words
unfoldable pub fits_in : Stopwatch → StopwatchState → List ℕ → Bool
fits_in row s words = hold (model_fits (Table.stopwatch row) (Simulation.of_stopwatch (stopwatch_of s words)) ∷ fit_in s.held words ∷ [])

abbrev pub marked_as : StopwatchState → Result ℕ Unmarked → Handed StopwatchState Taken
marked_as s (Ok held) = record { next = record { phase = s.phase; timer = s.timer; held = held }; answer = Ok taken.Marked }
marked_as s (Err marks.NoRoom) = unchanged s NoQueueRoom
marked_as s (Err marks.CutShort) = unchanged s BadState

abbrev pub marking : Mark → ℕ → Float → StopwatchState → List ℕ → Handed StopwatchState Taken × List ℕ
marking mark job clock s words =
    let (answer, after) = marked_in mark s.held job clock words in
    (marked_as s answer, after)

unfoldable pub external_in : Stopwatch → Float → ℕ → ℕ → StopwatchState → List ℕ → Handed StopwatchState Taken × List ℕ
external_in row clock port job s words =
    if eqb port row.start then marking Start job clock s words
    else if eqb port row.stop then marking Stop job clock s words
    else if eqb port row.ask then (record { next = record { phase = watching.JobFetch; timer = instant; held = s.held }; answer = Ok taken.Asked }, words)
    else (unchanged s InvalidMessage, words)

abbrev pub quiet : StopwatchState → Option ℕ → Handed StopwatchState (Option ℕ)
quiet s name = record { next = record { phase = watching.Passive; timer = never; held = s.held }; answer = Ok name }

abbrev pub fetched_as : StopwatchState → Result (Option ℕ) CutShort → Handed StopwatchState (Option ℕ)
fetched_as s (Ok name) = quiet s name
fetched_as s (Err cut) = record { next = s; answer = Err BadState }

abbrev pub fetching : Stopwatch → StopwatchState → List ℕ → Handed StopwatchState (Option ℕ)
fetching row s words = fetched_as s (fetched_in row.metric s.held words)

abbrev pub internal_from : StopwatchPhase → Stopwatch → StopwatchState → List ℕ → Handed StopwatchState (Option ℕ)
internal_from watching.Passive row s words = quiet s None
internal_from watching.JobFetch row s words = fetching row s words

unfoldable pub internal_in : Stopwatch → StopwatchState → List ℕ → Handed StopwatchState (Option ℕ)
internal_in row s words = internal_from s.phase row s words

-- ---- 20 first
unfoldable pub external_call_in : Stopwatch → Float → ℕ → ℕ → StopwatchState → List ℕ → Handed StopwatchState Taken × List ℕ
external_call_in row clock port job s words =
    if is_time clock && fits_in row s words then external_in row clock port job s words else (unchanged s BadState, words)

unfoldable pub internal_call_in : Stopwatch → StopwatchState → List ℕ → Handed StopwatchState (Option ℕ)
internal_call_in row s words = if fits_in row s words then internal_in row s words else (record { next = s; answer = Err BadState })

-- ---- by the rules. The words fit, or it is 20; then it is the rules' event
abbrev pub names_of : Result (Option ℕ) Refusal → Outcome (List ℕ)
names_of (Ok (Some name)) = done (name ∷ [])
names_of (Ok None) = done []
names_of (Err r) = refused r

pub record Took (row : Stopwatch) (clock : Float) (port job : ℕ) (s : StopwatchState) (words : List ℕ) (r : Handed StopwatchState Taken) (after : List ℕ) : Type 0 where
  pub tells : (stopwatch_of r.next after, fate_of r.answer) ≡ handed_back (stopwatch_of s words) (guarded_by (fit_in s.held words) (stopwatch_external_call row clock port job (stopwatch_of s words)))

pub record Went (row : Stopwatch) (s : StopwatchState) (words : List ℕ) (r : Handed StopwatchState (Option ℕ)) : Type 0 where
  pub tells : (stopwatch_of r.next words, names_of r.answer) ≡ handed_back (stopwatch_of s words) (guarded_by (fit_in s.held words) (stopwatch_internal_call row (stopwatch_of s words)))
