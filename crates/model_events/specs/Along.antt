-- The loop over a Coupled's external input couplings, and the depth that is left inside. Assumes nothing.
use Rattle.std.specs.Prelude.{ℕ, suc, ◌-◌, ◌<◌, ◌≡◌, true, List, ◌∷◌, [], length, eqb}
use Rattle.std.proofs.Common.{subst, arith}
use Rattle.rules.specs.Base.{those}
use Rattle.rules.specs.Table.{Table, kind_at, id_at, is_coupled, components}
use Rattle.rules.specs.Ends.{All}
use Rattle.rules.specs.Depth.{Deep}
use Rattle.lookup.specs.Inside.{Inside, table_in}
use Rattle.lookup.specs.InsideLaws.{found_in, in-components}
use Rattle.model_events.specs.DueHere.{is-coupled-is}

-- a Coupled's components have a level less
pub deeper : (t : Table) (depth i : ℕ) → 0 < depth → is_coupled (kind_at t i) ≡ true → Deep t depth i → All (Deep t (depth - 1)) (components t (id_at t i))
deeper t depth i l e d = let q : depth ≡ suc (depth - 1) = omega arith in subst (λ n. Deep t n i) q d (is-coupled-is (kind_at t i) e)

-- the one that was found is among them
pub found-deep : (state : List ℕ) (inside : Inside state) (owner id j depth : ℕ) → All (Deep (table_in state) depth) (components (table_in state) owner) → (j ∷ []) ≡ those (λ i. eqb (id_at (table_in state) i) id) (components (table_in state) owner)
    → (j < length (table_in state).rows) × Deep (table_in state) depth j
found-deep state inside owner id j depth all e =
    let f = found_in state inside owner id j e in
    (f.0, in-components state inside owner j f.0 f.1 (Deep (table_in state) depth) all)
