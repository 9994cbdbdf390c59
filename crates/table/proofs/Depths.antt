-- The steps of the count of a row's depth, backwards through the rows before it. Assumes nothing.
use Rattle.std.specs.Prelude.{Option, None, Some}
use Prim.Native.Nat.{ℕ, zero, suc, ◌+◌, ◌-◌, ◌*◌, ◌≤◌, ◌<◌}
use mathlib.Core.Path.{◌≡◌, refl, sym, ◌∙◌}
use mathlib.Core.List.{List}
use native.Mathlib.Omega.{arith}
use borrow.Author.Tests.{eq-eqb, ne_eqb}
use lib.ListN.{length, drop_of_length-le}
use Rattle.rules.specs.Intake.{depth_of}
use Rattle.rules.specs.Layout.{model_width, parent_in}
use Rattle.table.specs.Readers.{row_of, id_in, parent_of, before, depth_in}
use Rattle.table.specs.Judging.{option_of}
use Rattle.table.specs.Earlier.{none_deep}
use Rattle.table.specs.Readings.{parent-back}

-- the depth of a row with this parent, after the first `k` rows
abbrev pub depth_from : List ℕ → ℕ → Option ℕ → ℕ
depth_from models k p = depth_of (before models k) (option_of p)

module _ (models : List ℕ) where
  -- no row is left
  pub depth-end : (k : ℕ) (p : Option ℕ) → k ≤ 0 → depth_from models k p ≡ 1
  depth-end zero p h = refl
  depth-end (suc k) p h = absurd (omega arith)

  pub depth-top : (k : ℕ) {p : Option ℕ} → p ≡ None → depth_from models k p ≡ 1
  depth-top k e = rw e (none_deep models k)

  module _ {p : Option ℕ} {id : ℕ} (e : p ≡ Some id) {x : ℕ} where
    -- the row before `k` is the parent
    pub depth-hit : (k : ℕ) {q : Option ℕ} → 0 < k → x ≡ id_in models (k - 1) → x ≡ id → q ≡ parent_of (parent_in (row_of model_width models (k - 1))) → depth_from models k p ≡ depth_from models (k - 1) q + 1
    depth-hit zero h r s f = absurd (omega arith)
    depth-hit (suc k) h r s f =
        let m : suc k - 1 ≡ k = omega arith in
        let o = parent-back (parent_in (row_of model_width models (suc k - 1))) f in
        rw (e, ← o, m, eq-eqb _ _ (sym (rw m at r) ∙ s))

    -- it is not
    pub depth-skip : (k : ℕ) → 0 < k → x ≡ id_in models (k - 1) → (x ≡ id → ⊥) → depth_from models k p ≡ depth_from models (k - 1) (Some id)
    depth-skip zero h r s = absurd (omega arith)
    depth-skip (suc k) h r s =
        let m : suc k - 1 ≡ k = omega arith in
        rw (e, m, ne_eqb (id_in models k) id (λ i. s (rw m at r ∙ i)))

  -- a row past the last has no parent
  pub depth-past : (row : ℕ) → length models ≤ row → depth_in models row ≡ 1
  unfolding depth_in
  depth-past row h = let d = drop_of_length-le models {i = row * 10} (omega arith) in rw d (none_deep models row)

pub ruleset depths = (depth-hit, depth-skip, depth-past)
