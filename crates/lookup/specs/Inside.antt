-- The table inside a lent state (docs/LAYOUT.md): how many rows, connectors and couplings, then their words. Definitions only. Assumes nothing.
use Rattle.std.specs.Prelude.{ℕ, ◌+◌, ◌*◌, ◌≤◌, ◌≡◌, List, [], ◌∷◌, length, get_or, take, drop, None, Option, Some}
use Rattle.rules.specs.Table.{Table}
use Rattle.rules.specs.Intake.{Posted, intake, passed}
use Rattle.rules.specs.Decides.{whole_table}
use Rattle.rules.specs.Layout.{lent}

-- words 0, 1 and 2: how many rows, connectors and couplings there are
abbrev pub count_in : ℕ → List ℕ → ℕ
count_in part state = get_or state part 0

-- where the connectors' words begin, the couplings', and what comes after the table
abbrev pub connectors_at : List ℕ → ℕ
connectors_at state = count_in 0 state * 10 + 3

abbrev pub couplings_at : List ℕ → ℕ
couplings_at state = connectors_at state + count_in 1 state * 4

abbrev pub tail_at : List ℕ → ℕ
tail_at state = couplings_at state + count_in 2 state * 6

abbrev pub models_in : List ℕ → List ℕ
models_in state = take (count_in 0 state * 10) (drop 3 state)

abbrev pub connectors_in : List ℕ → List ℕ
connectors_in state = take (count_in 1 state * 4) (drop (connectors_at state) state)

abbrev pub couplings_in : List ℕ → List ℕ
couplings_in state = take (count_in 2 state * 6) (drop (couplings_at state) state)

abbrev pub posted_in : List ℕ → Posted
posted_in state = lent (models_in state) (connectors_in state) (couplings_in state)

abbrev pub table_in : List ℕ → Table
table_in state = whole_table (posted_in state)

-- the table is there, and passes intake
pub record Inside (state : List ℕ) : Type 0 where
  pub room : tail_at state ≤ length state
  pub passes : intake (posted_in state) ≡ passed (table_in state)

-- the row that was found, if one was
abbrev pub found_in : Option ℕ → List ℕ
found_in (Some j) = j ∷ []
found_in None = []
