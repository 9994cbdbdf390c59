-- `next_word`: the word is inside the line.
use Rattle.bench_words.specs.SplittingLaws.{word-inside}
use Rattle.number_lines.proofs.next_word.Goals as goal

pub returns : goal.returns
returns c = word-inside _ _ _ c.next_word.ensures c.requires
