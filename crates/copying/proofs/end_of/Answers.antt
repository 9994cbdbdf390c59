-- `copying::end_of` meets its contract: the last row's own words end where all do. Assumes nothing.
use Prim.Native.Nat.{suc, ◌+◌, ◌-◌}
use mathlib.Core.Path.{◌≡◌, ◌∙◌}
use native.Mathlib.Omega.{arith}
use lib.ListN.{length}
use Rattle.lookup.specs.Inside.{table_in}
use Rattle.views.specs.World.{begin_of, end_of}
use Rattle.copying.specs.EndLaws.{end-last}
use Rattle.copying.proofs.end_of.Goals as goal
use Rattle.copying.proofs.end_of.Goals.{After-width_of-width}

ends : (c : After-width_of-width) → c.begin_at-begin.result + c.width_of-width.result ≡ end_of (table_in c.args.state.now)
ends c =
    let t = table_in c.args.state.now in
    let last = c.row_count-rows.result - 1 in
    let whole : suc last ≡ length t.rows = omega (arith, c.row_count-rows.ensures, c.if-rows-eq0.false) in
    let begin : c.begin_at-begin.result ≡ begin_of t last = c.begin_at-begin.ensures ∙ c.requires.1.begins last (omega arith) in
    (λ i. begin i + c.width_of-width.ensures i) ∙ end-last t last whole

pub overflow_add-result : goal.overflow_add-result
overflow_add-result c =
    omega (arith, ends (goal.at.overflow_add-result c).After-width_of-width, c.requires.1.room, c.well_formed)

pub returns : goal.returns
returns c = ends (goal.at.returns c).After-width_of-width
