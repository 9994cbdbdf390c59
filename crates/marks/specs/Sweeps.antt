-- What the parts of `fetch`, `mean` and `fit` answer, from a place on. Assumes nothing.
use Rattle.std.specs.Prelude.{ℕ, zero, suc, ◌+◌, Bool, true, not, ◌&&◌, List, [], ◌∷◌, map, length, ◌==◌, slice_index, Float, if◌then◌else◌, None, Some, Option}
use Rattle.std.specs.Float.{binary64}
use Rattle.std.specs.Float.Ieee.{sub, add}
use Rattle.times.specs.Time.{instant}
use Rattle.rules.specs.declared.Metric.{Metric}
use Rattle.rules.specs.Sizes.{is_content}
use Rattle.rules.specs.Base.{hold, from}
use Rattle.rules.specs.Models.{Duration, durations, better, best_of, fetched, summed}
use Rattle.words.specs.Search.{first_from}
use Rattle.words.specs.SearchLaws.{is_found}
use Rattle.marks.specs.declared.Best.{Best}
use Rattle.marks.specs.declared.Total.{Total}
use Rattle.marks.specs.Jobs.{starts_at, stops_at, mark_in, mark_fits, job_at, first_job}

-- ---- durations
abbrev pub lasting_of : Option Float → Option Float → Option Float
lasting_of None stop = None
lasting_of (Some start) None = None
lasting_of (Some start) (Some stop) = Some (sub binary64 stop start)

unfoldable pub lasting_at : List ℕ → ℕ → Option Float
lasting_at words k = lasting_of (mark_in (slice_index words (starts_at + k))) (mark_in (slice_index words (stops_at + k)))

-- the complete durations of n jobs from the place k on
unfoldable pub durations_from : List ℕ → ℕ → ℕ → List Duration
durations_from words k n = durations (map (job_at words) (from k n))

-- ---- the best
abbrev pub duration_of : Best → Duration
duration_of b = record { name = b.name; length = b.length }

abbrev pub better_with : Metric → Best → ℕ → Option Float → Best
better_with metric best name None = best
better_with metric best name (Some d) = if better metric d best.length then record { name = name; length = d } else best

unfoldable pub better_at : Metric → List ℕ → Best → ℕ → Best
better_at metric words best k = better_with metric best (slice_index words k) (lasting_at words k)

unfoldable pub best_from : Metric → List ℕ → Best → ℕ → ℕ → ℕ
best_from metric words best k n = (best_of metric (duration_of best) (durations_from words k n)).name

unfoldable pub fetched_from : Metric → List ℕ → ℕ → ℕ → Option ℕ
fetched_from metric words k n = first_job (fetched metric (durations_from words k n))

-- ---- the sum and the number
abbrev pub added_with : Total → Option Float → Total
added_with total None = total
added_with total (Some d) = record { sum = add binary64 total.sum d; count = total.count + 1 }

unfoldable pub added_at : List ℕ → Total → ℕ → Total
added_at words total k = added_with total (lasting_at words k)

abbrev pub no_total : Total
no_total = record { sum = instant; count = 0 }

unfoldable pub total_from : List ℕ → Total → ℕ → ℕ → Total
total_from words total k n =
    record { sum = summed total.sum (durations_from words k n); count = total.count + length (durations_from words k n) }

-- ---- what 20 asks
abbrev pub is_named_at : List ℕ → ℕ → ℕ → Bool
is_named_at words name k = slice_index words k == name

-- the job at the place k fits, and none of the n after it has its name
unfoldable pub fit_at : List ℕ → ℕ → ℕ → Bool
fit_at words k n =
    hold (is_content (slice_index words k) ∷ mark_fits (slice_index words (starts_at + k)) ∷ mark_fits (slice_index words (stops_at + k)) ∷ not (is_found (first_from (is_named_at words (slice_index words k)) (k + 1) n)) ∷ [])

unfoldable pub fit_from : List ℕ → ℕ → ℕ → Bool
fit_from words k zero = true
fit_from words k (suc n) = fit_at words k n && fit_from words (suc k) n
