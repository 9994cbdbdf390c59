-- `words::push` meets its contract. Where there is no place, `set` changes nothing. Assumes nothing.
use mathlib.Core.Path.{sym}
use lib.Seq.{set_out}
use Rattle.words.proofs.push.Goals as goal

pub returns-else-held-words : goal.returns-else-held-words
returns-else-held-words c = sym (set_out _ _ _ c.if-held-words.false)
