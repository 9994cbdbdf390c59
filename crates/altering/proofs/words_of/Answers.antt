-- `altering::words_of` meets its contract. Assumes nothing.
use Rattle.rules.specs.Layout.{written}
use borrow.Author.Rules.{rules}
use Rattle.altering.proofs.words_of.Goals as goal

pub returns : goal.returns
unfolding written
returns c =
    search rules
