-- Rows that a loop passes over: the first from `row` on that passes a test, or the row after the last. Assumes nothing.
use Rattle.std.specs.Prelude.{ℕ, zero, suc, ◌+◌, ◌-◌, ◌≤◌, ◌<◌, ◌≡◌, refl, Bool, true, false, if◌then◌else◌}
use Rattle.std.proofs.Common.{subst, arith, add-one}

-- of the n rows from `row` on the first that passes the test; the row after them if none does
abbrev pub stop_from : (ℕ → Bool) → ℕ → ℕ → ℕ
stop_from test row zero = row
stop_from test row (suc n) = let rest = stop_from test (suc row) n in if test row then row else rest

module _ (test : ℕ → Bool) (row end : ℕ) where
  pub stop-end : end ≤ row → stop_from test row (end - row) ≡ row
  stop-end h = let e : end - row ≡ 0 = omega arith in rw e

  pub stop-hit : row < end → test row ≡ true → stop_from test row (end - row) ≡ row
  stop-hit h passes = let e : end - row ≡ suc (end - (row + 1)) = omega arith in rw (e, passes)

  pub stop-skip : row < end → test row ≡ false → stop_from test row (end - row) ≡ stop_from test (row + 1) (end - (row + 1))
  stop-skip h fails = let e : end - row ≡ suc (end - (row + 1)) = omega arith in rw (e, fails, add-one)

-- what passing over one row keeps is so where the loop stops
module _ (test : ℕ → Bool) (P : ℕ → Type 0) (end : ℕ) (over : (j : ℕ) → j < end → test j ≡ false → P j → P (j + 1)) where
  passes : (n row : ℕ) → row + n ≤ end → P row → P (stop_from test row n)
  passes zero row l h = h
  passes (suc n) row l h = by (test row) refl (passes n (suc row) (omega arith))
    where
      by : (b : Bool) → test row ≡ b → (P (suc row) → P (stop_from test (suc row) n)) → P (if b then row else stop_from test (suc row) n)
      by true e later = h
      by false e later = later (subst P (add-one row) (over row (omega arith) e h))

  pub stop-over : (row : ℕ) → row ≤ end → P row → P (stop_from test row (end - row))
  stop-over row l h = passes (end - row) row (omega arith) h

-- the loop stops between its start and its end
pub stop-bounds : (test : ℕ → Bool) (row end : ℕ) → row ≤ end → (row ≤ stop_from test row (end - row)) × (stop_from test row (end - row) ≤ end)
stop-bounds test row end l = stop-over test (λ j. (row ≤ j) × (j ≤ end)) end (λ j below fails h. let u = h.0 in (omega arith, omega arith)) row l (omega arith, l)
