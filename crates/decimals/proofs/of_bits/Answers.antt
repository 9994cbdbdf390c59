-- `decimals::of_bits` meets its contract: the exponent's field says how many binary places there are. Assumes nothing.
use mathlib.Core.Path.{sym, ap, ◌∙◌}
use Prim.Native.Nat.{ℕ, ◌-◌, ◌*◌, ◌/◌}
use native.Mathlib.Omega.{arith}
use Rattle.times.proofs.Patterns.{leading}
use Rattle.decimals.specs.Decimal.{placed}
use Rattle.decimals.specs.Laws.{placed-whole}
use Rattle.decimals.proofs.Fields.{digits, small-field, whole-field, placed-field}
use Rattle.decimals.proofs.of_bits.Goals as goal

pub returns-then-field-lt-POINT : goal.returns-then-field-lt-POINT
returns-then-field-lt-POINT c = sym (ap placed (small-field c.args.bits c.requires (omega arith)))

pub returns-then-field-ge-POINT : goal.returns-then-field-ge-POINT
returns-then-field-ge-POINT c =
    let b = c.args.bits in
    sym
    (ap placed (whole-field b (b / leading - 1075) c.requires (omega arith))
    ∙ placed-whole _
    ∙ ap (λ (z : ℕ). record { whole = digits b * z; micros = 0 }) (sym c.power.ensures))

pub returns-then-places-le-FEW : goal.returns-then-places-le-FEW
returns-then-places-le-FEW c =
    let b = c.args.bits in
    c.few_places.ensures ∙ sym (ap placed (placed-field b (1075 - b / leading) c.requires (omega arith) (omega arith)))

pub returns-else-places-le-FEW : goal.returns-else-places-le-FEW
returns-else-places-le-FEW c =
    let b = c.args.bits in
    c.many_places.ensures ∙ sym (ap placed (placed-field b (1075 - b / leading) c.requires (omega arith) (omega arith)))
