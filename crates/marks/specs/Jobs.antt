-- A stopwatch's jobs in lent words: from the words to the rules' list of jobs, and what is read from it. Assumes nothing.
use Rattle.std.specs.Prelude.{ℕ, ◌+◌, Bool, ◌&&◌, List, [], ◌∷◌, map, length, from_bits, nat_le, slice_index, Float, if◌then◌else◌, None, Some, Option, Result, Ok, Err}
use Rattle.std.specs.Float.{binary64}
use Rattle.times.specs.Time.{is_timer}
use Rattle.times.specs.Answers.{time_of_bits}
use Rattle.rules.specs.declared.Metric.{Metric}
use Rattle.rules.specs.Sizes.{most_jobs}
use Rattle.rules.specs.Base.{every, hold, from}
use Rattle.rules.specs.Simulation.{Marks}
use Rattle.rules.specs.Models.{durations, fetched, mean}
use Rattle.rules.specs.Valid.{marks_rules, differ, names}
use Rattle.marks.specs.declared.CutShort.{CutShort}

abbrev pub cut_short : CutShort
cut_short = record {}

-- the words of 64 jobs: names, starts, stops
abbrev pub starts_at : ℕ
starts_at = 64

abbrev pub stops_at : ℕ
stops_at = 128

abbrev pub width : ℕ
width = 192

-- a mark is made where its word holds a time
abbrev pub time_in : Option Float → Option Float
time_in (Some x) = Some x
time_in None = None

abbrev pub mark_in : ℕ → Option Float
mark_in word = time_in (time_of_bits word)

-- the job at the place k
abbrev pub job_at : List ℕ → ℕ → Marks
job_at words k = record { name = slice_index words k; start = mark_in (slice_index words (starts_at + k)); stop = mark_in (slice_index words (stops_at + k)) }

-- the `held` jobs, in the order in which they were made
abbrev pub jobs_in : ℕ → List ℕ → List Marks
jobs_in held words = map (job_at words) (from 0 held)

-- "is cut short", "lengths .. keep the sizes above"
abbrev pub whole_in : ℕ → List ℕ → Bool
whole_in held words = nat_le held most_jobs && nat_le width (length words)

-- a mark's word holds a time, or infinity where it is not made
abbrev pub mark_fits : ℕ → Bool
mark_fits word = is_timer (from_bits binary64 word)

abbrev pub words_fit : List ℕ → ℕ → Bool
words_fit words k = mark_fits (slice_index words (starts_at + k)) && mark_fits (slice_index words (stops_at + k))

-- what 20 asks: "stopwatch marks are times", "a stopwatch's names differ", names of 32 bits
unfoldable pub fit_in : ℕ → List ℕ → Bool
fit_in held words =
    hold (whole_in held words ∷ every (words_fit words) (from 0 held) ∷ every (λ j. hold (marks_rules j)) (jobs_in held words) ∷ differ (names (jobs_in held words)) ∷ [])

abbrev pub first_job : List ℕ → Option ℕ
first_job [] = None
first_job (name ∷ more) = Some name

unfoldable pub fetched_in : Metric → ℕ → List ℕ → Result (Option ℕ) CutShort
fetched_in metric held words = if whole_in held words then Ok (first_job (fetched metric (durations (jobs_in held words)))) else Err cut_short

unfoldable pub mean_in : ℕ → List ℕ → Result (Option Float) CutShort
mean_in held words = if whole_in held words then Ok (mean (durations (jobs_in held words))) else Err cut_short
