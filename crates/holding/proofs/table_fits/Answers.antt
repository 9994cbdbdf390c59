-- `holding::table_fits` meets its contract: the counts, the length, and what intake answers. Assumes nothing.
use Rattle.std.proofs.Common.{◌∙◌}
use Rattle.std.specs.Prelude.{refl}
use Rattle.holding.specs.WholeLaws.{table-short, many-rows, many-connectors, many-couplings, table-cut, table-says}
use Rattle.holding.proofs.table_fits.Goals as goal

pub returns-then-state-lt1542 : goal.returns-then-state-lt1542
returns-then-state-lt1542 c =
    table-short c.args.state.now c.if-state-lt1542.true

pub returns-then-state-gt64 : goal.returns-then-state-gt64
returns-then-state-gt64 c =
    many-rows c.args.state.now c.if-state-gt64.true

pub returns-then-state-gt256 : goal.returns-then-state-gt256
returns-then-state-gt256 c =
    many-connectors c.args.state.now c.if-state-gt64.false c.if-state-gt256.true

pub returns-then-state-gt256-2 : goal.returns-then-state-gt256-2
returns-then-state-gt256-2 c =
    many-couplings c.args.state.now c.if-state-gt64.false c.if-state-gt256.false c.if-state-gt256-2.true

pub returns-then-state-tail : goal.returns-then-state-tail
returns-then-state-tail c =
    table-cut c.args.state.now c.if-state-tail.true

pub returns : goal.returns
returns c =
    c.is_ok.ensures.value
    ∙ table-says c.args.state.now c.if-state-tail.false c.intake.result _ c.intake.ensures refl
