-- A stopwatch's state, read from the words of its row and written there; its own words, lent and handed back. Definitions only. Assumes nothing.
use Rattle.std.specs.Prelude.{ℕ, List, Float, Option}
use Rattle.std.specs.Float.{binary64}
use Rattle.std.specs.Float.Ieee.{of_bits, to_bits}
use Rattle.rules.specs.declared.Stopwatch.{Stopwatch}
use Rattle.stopwatch.specs.declared.StopwatchState.{StopwatchState}
use Rattle.events.specs.declared.Handed.{Handed}
use Rattle.events.specs.declared.Taken.{Taken}
use Rattle.stopwatch.specs.Watching.{external_in, internal_in}
use Rattle.memory.specs.Words.{phase_in, timer_in, held_in, begin_in, headed, own_in}
use Rattle.memory.specs.View.{watching_of, watching_number}

-- the state of the row i, its jobs by their number
abbrev pub loaded : List ℕ → ℕ → StopwatchState
loaded mem i = record { phase = watching_of (phase_in mem i); timer = of_bits binary64 (timer_in mem i); held = held_in mem i }

-- the words with that state at the row i
abbrev pub stored : ℕ → StopwatchState → List ℕ → List ℕ
stored i s mem = headed i (watching_number s.phase) (to_bits binary64 s.timer) s.held mem

-- the stopwatch's events on the row's state and own words
abbrev pub external_at : Stopwatch → Float → ℕ → ℕ → List ℕ → ℕ → Handed StopwatchState Taken × List ℕ
external_at model clock port content mem i = external_in model clock port content (loaded mem i) (own_in (begin_in mem i) 192 mem)

abbrev pub internal_at : Stopwatch → List ℕ → ℕ → Handed StopwatchState (Option ℕ)
internal_at model mem i = internal_in model (loaded mem i) (own_in (begin_in mem i) 192 mem)
