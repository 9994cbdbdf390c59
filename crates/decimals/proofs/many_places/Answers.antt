-- `decimals::many_places` meets its contract: the units and whether there is a rest decide as the whole product does. Assumes nothing.
use mathlib.Core.Path.{refl, sym, ap, ◌∙◌}
use mathlib.Core.Logic.{inl, inr}
use Prim.Native.Nat.{ℕ, ◌-◌}
use native.Mathlib.Nat.{add-zero, pos_of_ne-zero}
use native.Mathlib.Omega.{arith}
use Rattle.decimals.specs.Decimal.{nearest, placed}
use Rattle.decimals.proofs.Parts.{unit, many}
use Rattle.decimals.proofs.many_places.Goals as goal
use Rattle.decimals.proofs.many_places.Goals.{then-low-ne0, else-low-ne0}

pub nearest_of-all-requires : goal.nearest_of-all-requires
nearest_of-all-requires c =
    let u = unit 42 c.power.result (c.args.places - 31) c.power.ensures (omega arith) in
    elim c.if-low-ne0.branch [ then-low-ne0 w ↦ omega arith | else-low-ne0 w ↦ omega arith ]

pub returns : goal.returns
returns c =
    let u = c.power.result in
    elim c.if-low-ne0.branch [
      | then-low-ne0 w ↦ ap placed (many c.args.digits c.args.places u c.nearest_of-all.result 1 c.requires.1 c.power.ensures (inr (pos_of_ne-zero w.if-low-ne0.true, refl)) (c.nearest_of-all.ensures ∙ ap (λ (z : ℕ). nearest z u) w.units-is))
      | else-low-ne0 w ↦ ap placed (many c.args.digits c.args.places u c.nearest_of-all.result 0 c.requires.1 c.power.ensures (inl (w.if-low-ne0.false, refl)) (c.nearest_of-all.ensures ∙ ap (λ (z : ℕ). nearest z u) (w.units-is ∙ sym (add-zero _))))
    ]
