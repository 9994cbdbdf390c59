-- What 20 asks of a lent state, part by part, as the code goes over it. Definitions only. Assumes nothing.
use Rattle.std.specs.Prelude.{ℕ, ◌+◌, Bool, List, [], ◌∷◌, map, length, leb, eqb, if◌then◌else◌, None, Option, Some}
use Rattle.std.specs.Float.{binary64}
use Rattle.std.specs.Float.Ieee.{of_bits}
use Rattle.times.specs.Time.{is_time}
use Rattle.rules.specs.Base.{every, hold, from}
use Rattle.rules.specs.Sizes.{is_content, most_jobs, most_active}
use Rattle.rules.specs.Table.{Kind, processor, batcher, stopwatch, coupled, Table, kind_at}
use Rattle.rules.specs.Intake.{intake, is_passed}
use Rattle.rules.specs.Simulation.{State, of_processor, of_batcher, of_stopwatch, of_coupled}
use Rattle.rules.specs.Valid.{state_fits, message_rules}
use Rattle.words.specs.Queue.{queue_in, unused_clear}
use Rattle.marks.specs.Jobs.{jobs_in}
use Rattle.memory.specs.Words.{word_at, phase_in, timer_in, held_in, begin_in, width_of, own_in}
use Rattle.memory.specs.View.{working_of, batching_of, watching_of, parked_of, word_rules}
use Rattle.lookup.specs.Inside.{count_in, posted_in}
use Rattle.views.specs.World.{begin_of, end_of}
use Rattle.stepping.specs.Simulating.{clock_in, active_in}
use Rattle.storing.specs.State.{state_words}

-- ---- a queue of jobs in 64 places
unfoldable pub queue_fits : ℕ → List ℕ → Bool
queue_fits held own = hold (leb held most_jobs ∷ every is_content (queue_in held own) ∷ unused_clear held own ∷ [])

-- ---- a row, by the words of its head and its own
abbrev pub state_by : Kind → (phase timer held : ℕ) → List ℕ → State
state_by (processor p) phase timer held own = of_processor (record { phase = working_of phase; timer = of_bits binary64 timer; queue = queue_in held own })
state_by (batcher m) phase timer held own = of_batcher (record { phase = batching_of phase; timer = of_bits binary64 timer; jobs = queue_in held own })
state_by (stopwatch w) phase timer held own = of_stopwatch (record { phase = watching_of phase; timer = of_bits binary64 timer; jobs = jobs_in held own })
state_by coupled phase timer held own = of_coupled (map parked_of (queue_in held own))

unfoldable pub row_fits : Kind → (phase timer held : ℕ) → List ℕ → Bool
row_fits k phase timer held own = hold (hold (word_rules k phase timer held own) ∷ state_fits k (state_by k phase timer held own) ∷ [])

-- its own words begin where they are to
unfoldable pub row_stands : Kind → ℕ → List ℕ → ℕ → Bool
row_stands k begin mem i = hold (eqb (begin_in mem i) begin ∷ row_fits k (phase_in mem i) (timer_in mem i) (held_in mem i) (own_in begin (width_of k) mem) ∷ [])

abbrev pub next_if : Bool → ℕ → Option ℕ
next_if fits end = if fits then Some end else None

unfoldable pub row_end : Kind → ℕ → List ℕ → ℕ → Option ℕ
row_end k begin mem i = next_if (row_stands k begin mem i) (begin + width_of k)

-- ---- all rows
unfoldable pub rows_from : Table → List ℕ → ℕ → ℕ → Bool
rows_from t mem i n = every (λ j. row_stands (kind_at t j) (begin_of t j) mem j) (from i n)

abbrev pub rows_stand : Table → List ℕ → Bool
rows_stand t mem = rows_from t mem 0 (length t.rows)

unfoldable pub rows_end : Table → List ℕ → Option ℕ
rows_end t mem = next_if (rows_stand t mem) (end_of t)

-- ---- the changing part
unfoldable pub tail_fits : Table → List ℕ → Bool
tail_fits t mem =
    hold (leb (word_at mem 0) most_active ∷ is_time (clock_in mem) ∷ rows_stand t mem ∷ every (λ m. hold (message_rules m)) (active_in t mem) ∷ [])

-- ---- the table
unfoldable pub table_fits : List ℕ → Bool
table_fits state =
    hold (leb (state_words (count_in 0 state) (count_in 1 state) (count_in 2 state)) (length state) ∷ is_passed (intake (posted_in state)) ∷ [])
