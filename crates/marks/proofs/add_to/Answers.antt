-- `marks::add_to` meets its contract: by what the job's duration is. Assumes nothing.
use Rattle.std.proofs.Common.{sym, ◌∙◌}
use Rattle.marks.specs.Sweeps.{added_at}
use Rattle.marks.proofs.add_to.Goals as goal

pub returns-in_default : goal.returns-in_default
unfolding added_at
returns-in_default c = rw (sym c.length_of.ensures ∙ c.in_default.is)

pub returns : goal.returns
unfolding added_at
returns c =
    rw (sym c.length_of.ensures ∙ c.in-Some.is)
