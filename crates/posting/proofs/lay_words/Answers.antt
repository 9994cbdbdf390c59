-- `posting::lay_words` meets its contract. Assumes nothing.
use Rattle.posting.specs.LayingLaws.{copied-laid}
use Rattle.posting.proofs.lay_words.Goals as goal

pub returns : goal.returns
returns c =
    let a = c.args in
    copied-laid a.at a.n a.words.now a.state.now c.copy.new.dst c.requires.0 c.copy.ensures
