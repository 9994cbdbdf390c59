-- `posting::lay_fresh` meets its contract. Assumes nothing.
use Prim.Native.Nat.{ℕ, ◌+◌, ◌/◌}
use mathlib.Core.Path.{sym, ap, ◌∙◌}
use native.Mathlib.Omega.{arith}
use lib.ListN.{length}
use Rattle.posting.specs.NewLaws.{widths-most}
use Rattle.posting.specs.WholeLaws.{fresh-long, fresh-laid}
use Rattle.posting.proofs.lay_fresh.Goals as goal

pub overflow_add-at-4 : goal.overflow_add-at-4
overflow_add-at-4 c =
    let a = c.args in
    let most = widths-most a.models.now 0 (length a.models.now / 10) in
    omega (arith, c.lay_heads-end.ensures.ends, c.requires.1, c.well_formed)

pub clear-requires : goal.clear-requires
clear-requires c =
    let a = c.args in
    let most = widths-most a.models.now 0 (length a.models.now / 10) in
    let ends = c.lay_heads-end.ensures.ends in
    (omega arith, omega (arith, c.lay_heads-end.auto.state, c.lay_three.auto.state, c.requires.1))

pub overflow_add-result : goal.overflow_add-result
overflow_add-result c =
    let a = c.args in
    let most = widths-most a.models.now 0 (length a.models.now / 10) in
    omega (arith, c.lay_heads-end.ensures.ends, c.requires.1, c.well_formed)

pub returns : goal.returns
returns c =
    let a = c.args in
    let ends = c.lay_heads-end.ensures.ends in
    record {
      ends = ap (λ (n : ℕ). a.at + n) (ends ∙ sym (fresh-long a.models.now a.active a.clock a.place));
      lays = fresh-laid a.models.now a.at c.lay_heads-end.result a.active a.clock a.place a.state.now c.lay_three.new.state c.lay_heads-end.new.state c.clear.new.state
          (omega (arith, c.requires.1)) ends c.lay_three.ensures c.lay_heads-end.ensures.lays c.clear.ensures;
    }
