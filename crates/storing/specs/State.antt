-- A simulation as the words of a lent state (docs/LAYOUT.md), how long the buffer must be, and what 20 asks of it. Definitions only. Assumes nothing.
use Rattle.std.specs.Prelude.{ℕ, ◌+◌, ◌-◌, ◌*◌, ◌/◌, ◌^◌, Bool, List, [], ◌∷◌, ◌++◌, map, length, leb, eqb, Float, if◌then◌else◌, Option, None, Some}
use Rattle.std.specs.Float.{binary64}
use Rattle.std.specs.Float.Ieee.{to_bits}
use Rattle.times.specs.Time.{never}
use Rattle.rules.specs.Base.{every, hold, from}
use Rattle.rules.specs.Sizes.{most_rows, most_connectors, most_couplings, most_active, most_jobs}
use Rattle.rules.specs.Table.{Table, kind_at}
use Rattle.rules.specs.Intake.{intake, is_passed}
use Rattle.rules.specs.Layout.{model_width, connector_width, coupling_width, message_width, written_all}
use Rattle.rules.specs.Simulation.{Marks, Parked, State, of_processor, of_batcher, of_stopwatch, of_coupled, Simulation}
use Rattle.rules.specs.Valid.{is_valid}
pub use Rattle.words.specs.Laying.{zeros, over}
use Rattle.memory.specs.Words.{head_at, phase_in, timer_in, held_in, begin_in, width_of, own_in}
use Rattle.memory.specs.View.{working_number, batching_number, watching_number, word_rules}
use Rattle.lookup.specs.Inside.{count_in, models_in, connectors_in, couplings_in, posted_in, table_in}
use Rattle.views.specs.World.{begin_of}
use Rattle.rerunning.specs.Running.{tail_in, sim_of}

-- ---- a row's own words: a queue of 64 places, the unused ones 0; a stopwatch has three such, of names, starts and stops
abbrev pub filled : List ℕ → List ℕ
filled words = words ++ zeros (most_jobs - length words)

-- the bits of a mark's time, or of infinity where it was not made
abbrev pub mark_word : Option Float → ℕ
mark_word None = to_bits binary64 never
mark_word (Some x) = to_bits binary64 x

-- component's id, port and content in one word
abbrev pub parked_word : Parked → ℕ
parked_word m = m.component * 2 ^ 48 + m.port * 2 ^ 32 + m.content

abbrev pub own_words : State → List ℕ
own_words (of_processor s) = filled s.queue
own_words (of_batcher s) = filled s.jobs
own_words (of_stopwatch s) =
    filled (map (λ (j : Marks). j.name) s.jobs) ++ filled (map (λ (j : Marks). mark_word j.start) s.jobs) ++ filled (map (λ (j : Marks). mark_word j.stop) s.jobs)
own_words (of_coupled parked) = filled (map parked_word parked)

-- ---- a row's head: its phase, its timer's bits, how many it holds, where its own words begin
abbrev pub phase_word : State → ℕ
phase_word (of_processor s) = working_number s.phase
phase_word (of_batcher s) = batching_number s.phase
phase_word (of_stopwatch s) = watching_number s.phase
phase_word (of_coupled parked) = 0

abbrev pub timer_word : State → ℕ
timer_word (of_processor s) = to_bits binary64 s.timer
timer_word (of_batcher s) = to_bits binary64 s.timer
timer_word (of_stopwatch s) = to_bits binary64 s.timer
timer_word (of_coupled parked) = 0

abbrev pub held_word : State → ℕ
held_word (of_processor s) = length s.queue
held_word (of_batcher s) = length s.jobs
held_word (of_stopwatch s) = length s.jobs
held_word (of_coupled parked) = length parked

-- how many words of its own a row has
abbrev pub own_width : State → ℕ
own_width (of_processor s) = 64
own_width (of_batcher s) = 64
own_width (of_stopwatch s) = 192
own_width (of_coupled parked) = 64

-- the heads in row order, the first row's own words beginning at `begin`
abbrev pub heads : ℕ → List State → List ℕ
heads begin [] = []
heads begin (s ∷ ss) = phase_word s ∷ timer_word s ∷ held_word s ∷ begin ∷ heads (begin + own_width s) ss

abbrev pub owns : List State → List ℕ
owns [] = []
owns (s ∷ ss) = own_words s ++ owns ss

-- ---- the changing part: how many messages are active, the clock, the place, the heads, the rows' own words, the messages
unfoldable pub changing : Simulation → List ℕ
changing sim =
    length sim.active ∷ to_bits binary64 sim.clock ∷ sim.place
    ∷ (heads (head_at (length sim.states)) sim.states ++ (owns sim.states ++ written_all sim.active))

-- ---- a state: how many rows, connectors and couplings, the table's words, the changing part
abbrev pub laid_state : (models connectors couplings : List ℕ) → Simulation → List ℕ
laid_state models connectors couplings sim =
    length models / model_width ∷ length connectors / connector_width ∷ length couplings / coupling_width ∷ (models ++ (connectors ++ (couplings ++ changing sim)))

-- a buffer that holds a state, with another simulation of the same table in it; "all beyond the state's end neither read nor written"
abbrev pub kept : List ℕ → Simulation → List ℕ
kept state sim = over (laid_state (models_in state) (connectors_in state) (couplings_in state) sim) state

-- ---- "how long a state buffer must be for any state of a table": as if all rows were stopwatches and 256 messages active
abbrev pub state_words : (rows connectors couplings : ℕ) → ℕ
state_words rows connectors couplings =
    3 + rows * model_width + connectors * connector_width + couplings * coupling_width + head_at rows + rows * 192 + most_active * message_width

-- rows of so many words, "one cut short counted"
abbrev pub rows_in : ℕ → ℕ → ℕ
rows_in width len = (len + (width - 1)) / width

-- the same by the lengths of a table as it is lent; "0 where the table is too large"
unfoldable pub words_for : (models connectors couplings : ℕ) → ℕ
words_for models connectors couplings =
    if hold (leb models (most_rows * model_width) ∷ leb connectors (most_connectors * connector_width) ∷ leb couplings (most_couplings * coupling_width) ∷ [])
    then state_words (rows_in model_width models) (rows_in connector_width connectors) (rows_in coupling_width couplings)
    else 0

-- ---- 20, of a lent state: "is cut short or breaks one of these: the table .. passes intake; lengths and fields keep the sizes above; phases are named ones; ..", and "unused places zero"
abbrev pub row_rules : Table → List ℕ → ℕ → List Bool
row_rules t mem i =
    eqb (begin_in mem i) (begin_of t i) ∷ hold (word_rules (kind_at t i) (phase_in mem i) (timer_in mem i) (held_in mem i) (own_in (begin_of t i) (width_of (kind_at t i)) mem)) ∷ []

abbrev pub rows_fit : Table → List ℕ → Bool
rows_fit t mem = every (λ i. hold (row_rules t mem i)) (from 0 (length t.rows))

abbrev pub stored_rules : List ℕ → List Bool
stored_rules state =
    leb (state_words (count_in 0 state) (count_in 1 state) (count_in 2 state)) (length state)
    ∷ is_passed (intake (posted_in state)) ∷ rows_fit (table_in state) (tail_in state) ∷ is_valid (sim_of state) ∷ []

unfoldable pub is_stored : List ℕ → Bool
is_stored state = hold (stored_rules state)
