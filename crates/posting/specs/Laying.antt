-- The words of new rows, by the lent models; a state's words up to its messages. Definitions only. Assumes nothing.
use Rattle.std.specs.Prelude.{ℕ, ◌+◌, ◌*◌, ◌/◌, ◌≤◌, ◌≡◌, List, [], ◌∷◌, ◌++◌, map, length, get_or, eqb, if◌then◌else◌}
use Rattle.rules.specs.Base.{from}
use Rattle.rules.specs.Table.{Table}
use Rattle.rules.specs.Intake.{intake, passed}
use Rattle.rules.specs.Decides.{whole_table}
use Rattle.rules.specs.Layout.{model_width, connector_width, coupling_width, lent}
use Rattle.rules.specs.Simulation.{State, of_processor, of_batcher, of_stopwatch, of_coupled, fresh_processor, fresh_batcher, fresh_stopwatch, fresh_all, Simulation}
use Rattle.memory.specs.Words.{head_at}
pub use Rattle.words.specs.Laying.{laid}
use Rattle.storing.specs.State.{zeros, own_width, heads, state_words}

-- ---- a new row by the number of its kind: 1 Processor, 2 Batcher, 3 Stopwatch, 4 Coupled
abbrev pub numbered : ℕ → State
numbered n =
    if eqb n 4 then of_coupled []
    else if eqb n 3 then of_stopwatch fresh_stopwatch
    else if eqb n 2 then of_batcher fresh_batcher
    else of_processor fresh_processor

-- so many new rows from the row k on, by word 1 of each
abbrev pub new_from : List ℕ → ℕ → ℕ → List State
new_from models k rows = map (λ i. numbered (get_or models (i * 10 + 1) 0)) (from k rows)

abbrev pub new_rows : List ℕ → List State
new_rows models = new_from models 0 (length models / model_width)

-- how many words of their own rows have
abbrev pub widths : List State → ℕ
widths [] = 0
widths (s ∷ ss) = own_width s + widths ss

-- ---- the changing part of a state with new rows, up to its messages
abbrev pub fresh_words : (active clock place : ℕ) → List State → List ℕ
fresh_words active clock place states = active ∷ clock ∷ place ∷ (heads (head_at (length states)) states ++ zeros (widths states))

module _ (models connectors couplings : List ℕ) where
  -- the counts, and the table's words
  abbrev pub table_words : List ℕ
  table_words = length models / model_width ∷ length connectors / connector_width ∷ length couplings / coupling_width ∷ (models ++ (connectors ++ couplings))

  -- a state with new rows, up to its messages
  abbrev pub front_words : (active clock place : ℕ) → List ℕ
  front_words active clock place = table_words ++ fresh_words active clock place (new_rows models)

  -- the lent table, and that intake lets it pass
  abbrev pub lent_table : Table
  lent_table = whole_table (lent models connectors couplings)

  abbrev pub Passes : Type 0
  Passes = intake (lent models connectors couplings) ≡ passed lent_table

  -- the buffer has room for any state of the table
  abbrev pub Room : List ℕ → Type 0
  Room state = state_words (length models / model_width) (length connectors / connector_width) (length couplings / coupling_width) ≤ length state

  -- and so for its words with new rows, and 256 messages
  pub record Fits (state : List ℕ) : Type 0 where
    pub few : length models ≤ 640
    pub room : 3 + length models + length connectors + length couplings + head_at (length models / 10) + length models / 10 * 192 + 1536 ≤ length state

  -- "`put` brings fresh default models and keeps messages, clock and place."
  abbrev pub renewed : Simulation → Simulation
  renewed sim = record { table = lent_table; states = fresh_all lent_table; active = sim.active; clock = sim.clock; place = sim.place }
