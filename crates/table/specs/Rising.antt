-- Ids above all before them: the search for an equal one finds none. Assumes nothing.
use Rattle.std.specs.Prelude.{ℕ, zero, suc, ◌+◌, ◌≤◌, ◌<◌, ◌≡◌, refl, false, ◌&&◌, List, eqb}
use Rattle.std.proofs.Math.Decide.{dec_le}
use Rattle.std.proofs.Common.{arith, ne_eqb}
use Rattle.rules.specs.Base.{some_of, from}
use Rattle.rules.specs.Layout.{cell, model_width}
use Rattle.table.specs.Readers.{row_of, id_in}
use Rattle.table.specs.Judging.{has_row}

-- the first cells of the first n rows are no greater
pub record AtMost (width : ℕ) (words : List ℕ) (n greatest : ℕ) : Type 0 where
  pub most : (j : ℕ) → j < n → cell (row_of width words j) 0 ≤ greatest

module _ (width : ℕ) (words : List ℕ) where
  pub most-none : (greatest : ℕ) → AtMost width words 0 greatest
  most-none greatest = record { most = λ j h. absurd (omega arith) }

  pub most-next : (n : ℕ) {less greatest : ℕ} → AtMost width words n less → less ≤ greatest → cell (row_of width words n) 0 ≤ greatest → AtMost width words (n + 1) greatest
  most-next n {less} {greatest} before grown here = record { most = one }
    where
      one : (j : ℕ) → j < n + 1 → cell (row_of width words j) 0 ≤ greatest
      one j h = elim (dec_le (suc j) n) [
        | yes l ↦ let b = before.most j l in omega arith
        | no l ↦ let e : j ≡ n = omega arith in rw e here
      ]

pub none_above : (models : List ℕ) (n id : ℕ) {greatest : ℕ} → AtMost model_width models n greatest → greatest < id → has_row models n id 0 id ≡ false
unfolding has_row
none_above models n id {greatest} before above = go 0 n (λ j h. before.most j (omega arith))
  where
    go : (k m : ℕ) → ((j : ℕ) → j < k + m → id_in models j ≤ greatest) → some_of (λ j. eqb (id_in models j) id && eqb (id_in models j) id) (from k m) ≡ false
    go k zero f = refl
    go k (suc m) f = let b = f k (omega arith) in rw (ne_eqb (id_in models k) id (λ e. omega arith)) (go (suc k) m (λ j h. f j (omega arith)))
