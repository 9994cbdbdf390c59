-- `marks::better_of` meets its contract: by what the job's duration is, and by the test. Assumes nothing.
use Rattle.std.proofs.Common.{sym, ◌∙◌}
use Rattle.marks.specs.Sweeps.{better_at}
use Rattle.marks.proofs.better_of.Goals as goal

pub returns-in_default : goal.returns-in_default
unfolding better_at
returns-in_default c = rw (sym c.length_of.ensures ∙ c.in_default.is)

pub returns-then-is_better : goal.returns-then-is_better
unfolding better_at
returns-then-is_better c =
    rw (sym c.length_of.ensures ∙ c.in-Some.is, sym c.is_better.ensures ∙ c.if-is_better.true)

pub returns : goal.returns
unfolding better_at
returns c =
    rw (sym c.length_of.ensures ∙ c.in-Some.is, sym c.is_better.ensures ∙ c.if-is_better.false)
