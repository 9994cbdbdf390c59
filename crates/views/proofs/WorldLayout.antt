-- Where the words of a table's rows stand: the heads before all rows' own words, these apart, in row order, within the end; and each row's state among the states. Assumes nothing.
use Rattle.std.specs.Prelude.{ℕ, zero, suc, ◌+◌, ◌≤◌, ◌<◌, ◌≡◌, List, [], ◌∷◌, length, get_or, T}
use Rattle.std.proofs.Common.{ap, subst, ◌∙◌, zero-add, arith}
use Rattle.rules.specs.Table as table
use Rattle.rules.specs.Table.{Table, no_row, kind_at}
use Rattle.rules.specs.Simulation.{State, of_coupled, state_at}
use Rattle.rules.specs.Valid.{state_fits}
use Rattle.words.specs.Lists.{length-lines, get_d-from}
use Rattle.memory.specs.Words.{head_at, width_of}
use Rattle.memory.specs.View.{Row}
use Rattle.views.specs.World.{widths_of, begin_of, end_of, state_of, states_in, Ready}

-- ---- a row's own words end before those of a later row begin, the end after the last among them
widths-apart : (rows : List table.Row) (i j : ℕ) → i < j → j ≤ length rows → widths_of rows i + width_of (get_or rows i no_row).kind ≤ widths_of rows j
widths-apart rows i zero l m = absurd (omega arith)
widths-apart [] i (suc j) l m = absurd (omega arith)
widths-apart (r ∷ rs) zero (suc j) l m = omega arith
widths-apart (r ∷ rs) (suc i) (suc j) l m = let h = widths-apart rs i j (omega arith) (omega arith) in omega arith

module _ (t : Table) where
  pub begins-apart : (i j : ℕ) → i < j → j < length t.rows → begin_of t i + width_of (kind_at t i) ≤ begin_of t j
  begins-apart i j l m = let h = widths-apart t.rows i j l (omega arith) in omega arith

  pub begin-end : (i : ℕ) → i < length t.rows → begin_of t i + width_of (kind_at t i) ≤ end_of t
  begin-end i l = let h = widths-apart t.rows i (length t.rows) l (omega arith) in omega arith

  -- every head stands before every row's own words
  pub head-begin : (i j : ℕ) → i < length t.rows → head_at i + 4 ≤ begin_of t j
  head-begin i j l = omega arith

  -- ---- the states, by row
  pub states-long : (mem : List ℕ) → length (states_in t mem) ≡ length t.rows
  states-long mem = length-lines (state_of t mem) (length t.rows)

  pub state-is : (mem : List ℕ) (i : ℕ) → i < length t.rows → state_at (states_in t mem) i ≡ state_of t mem i
  state-is mem i l = get_d-from (state_of t mem) (of_coupled []) 0 (length t.rows) i l ∙ ap (state_of t mem) (zero-add i)

  -- ---- a row of words that are ready stands where the table says, and fits
  pub row_of : (mem : List ℕ) (i : ℕ) → i < length t.rows → Ready t mem → Row (kind_at t i) (begin_of t i) mem i
  row_of mem i l r = record {
    placed = record { begin = r.laid.begins i l; head = head-begin i i l; room = let e = begin-end i l in let m = r.laid.room in omega arith };
    words = r.laid.words i l;
    fits = subst (λ (s : State). T (state_fits (kind_at t i) s)) (state-is mem i l) (r.good.0.fit i);
  }
