-- `words::word_at` meets its contract. Past the end the default stands. Assumes nothing.
use mathlib.Core.Path.{sym}
use lib.ListN.{get_or-eq_default}
use Rattle.words.proofs.word_at.Goals as goal

pub returns-else-place-words : goal.returns-else-place-words
returns-else-place-words c = sym (get_or-eq_default c.args.words.now 0 c.if-place-words.false)
