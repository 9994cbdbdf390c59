-- Setting the clock on a job in lent words. Assumes nothing.
use Rattle.std.specs.Prelude.{ℕ, suc, ◌+◌, List, nat_eq, nat_lt, slice_index, slice_set, to_bits, Float, if◌then◌else◌, None, Option, Some, Result, Ok, Err}
use Rattle.std.specs.Float.{binary64}
use Rattle.times.specs.Time.{never}
use Rattle.rules.specs.Sizes.{most_jobs}
use Rattle.words.specs.Search.{first_from}
use Rattle.marks.specs.declared.Mark.{Mark}
use Rattle.marks.specs.declared.Mark.TheVariants.{Start, Stop}
use Rattle.marks.specs.declared.Unmarked.{Unmarked}
use Rattle.marks.specs.declared.Unmarked.TheVariants.{NoRoom, CutShort}
use Rattle.marks.specs.Jobs.{starts_at, stops_at, whole_in}

abbrev pub column_of : Mark → ℕ
column_of Start = starts_at
column_of Stop = stops_at

-- a new job at the place `held`, with neither mark
abbrev pub with_name : ℕ → ℕ → List ℕ → List ℕ
with_name held name words = slice_set (slice_set (slice_set words held name) (starts_at + held) (to_bits binary64 never)) (stops_at + held) (to_bits binary64 never)

abbrev pub mark_at : Mark → Float → ℕ → List ℕ → List ℕ
mark_at mark clock k words = slice_set words (column_of mark + k) (to_bits binary64 clock)

abbrev pub placed : Mark → ℕ → ℕ → Float → List ℕ → Option ℕ → Result ℕ Unmarked × List ℕ
placed mark held name clock words (Some k) = (Ok held, mark_at mark clock k words)
placed mark held name clock words None =
    if nat_lt held most_jobs then (Ok (suc held), mark_at mark clock held (with_name held name words)) else (Err NoRoom, words)

-- the words after a mark, and the number of names then
unfoldable pub marked_in : Mark → ℕ → ℕ → Float → List ℕ → Result ℕ Unmarked × List ℕ
marked_in mark held name clock words =
    if whole_in held words
    then placed mark held name clock words (first_from (λ k. nat_eq (slice_index words k) name) 0 held)
    else (Err CutShort, words)
