-- The search for a row among rows of words. Assumes nothing.
use Rattle.std.specs.Prelude.{ℕ, zero, suc, ◌+◌, ◌*◌, ◌-◌, ◌/◌, Bool, ◌&&◌, List, length, get_or, min, ltb, eqb, if◌then◌else◌, None, Option, Some}
use Rattle.words.specs.declared.Cell.{Cell}
use Rattle.rules.specs.Base.{every}

-- the cell c of the row k
abbrev pub cell_of : ℕ → List ℕ → ℕ → ℕ → ℕ
cell_of width words k c = get_or words (k * width + c) 0

-- the first of the n rows from k on that passes the test
abbrev pub first_from : (ℕ → Bool) → ℕ → ℕ → Option ℕ
first_from test k zero = None
first_from test k (suc n) = let rest = first_from test (suc k) n in if test k then Some k else rest

abbrev pub holds_in : ℕ → List ℕ → ℕ → Cell → Bool
holds_in width words k cell = eqb (cell_of width words k cell.at) cell.value

-- each of the key's cells holds its word in the row k
abbrev pub matches : List Cell → ℕ → List ℕ → ℕ → Bool
matches key width words k = every (holds_in width words k) key

-- a row has a word at least, and the key's cells are cells of it
abbrev pub in_row : List Cell → ℕ → Bool
in_row key width = ltb 0 width && every (λ (cell : Cell). ltb cell.at width) key

-- of the first `rows` rows (no more than there are whole ones), the first from `from` on that matches
unfoldable pub next_row : List Cell → ℕ → ℕ → ℕ → List ℕ → Option ℕ
next_row key width from rows words =
    if in_row key width
    then first_from (matches key width words) from (min rows (length words / width) - from)
    else None
