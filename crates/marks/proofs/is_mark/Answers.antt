-- `marks::is_mark` meets its contract: what `timer_of_bits` answers says whether the word is a timer's. Assumes nothing.
use Rattle.std.proofs.Common.{ap, ◌∙◌, is_some}
use Rattle.marks.specs.SweepLaws.{some-read}
use Rattle.marks.proofs.is_mark.Goals as goal

pub returns : goal.returns
returns c = c.is_some.ensures ∙ ap is_some c.timer_of_bits.ensures ∙ some-read c.args.word
