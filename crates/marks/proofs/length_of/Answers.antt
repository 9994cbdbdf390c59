-- `marks::length_of` meets its contract: what the two words were read as picks the answer. Assumes nothing.
use Rattle.std.proofs.Common.{sym, ◌∙◌}
use Rattle.marks.specs.Sweeps.{lasting_at}
use Rattle.marks.proofs.length_of.Goals as goal

pub returns-in_err-start : goal.returns-in_err-start
unfolding lasting_at
returns-in_err-start c = c.from_residual.ensures ∙ sym (rw (sym c.time_of_bits.ensures ∙ c.in_err-start.was))

pub returns-in_err-stop : goal.returns-in_err-stop
unfolding lasting_at
returns-in_err-stop c =
    c.from_residual-in_err-stop.ensures ∙ sym (rw (sym c.time_of_bits.ensures ∙ c.in_ok-start.was, sym c.time_of_bits-2.ensures ∙ c.in_err-stop.was))

pub returns : goal.returns
unfolding lasting_at
returns c = sym (rw (sym c.time_of_bits.ensures ∙ c.in_ok-start.was, sym c.time_of_bits-2.ensures ∙ c.in_ok-stop.was))
