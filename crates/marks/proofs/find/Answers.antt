-- `marks::find` meets its contract: among rows of one word, the search is one for a name. Assumes nothing.
use Rattle.std.proofs.Common.{◌∙◌}
use Rattle.marks.specs.SweepLaws.{find-is}
use Rattle.marks.proofs.find.Goals as goal

pub returns : goal.returns
returns c = c.next_row.ensures ∙ find-is c.args.words.now c.args.from c.args.held c.args.name c.requires
