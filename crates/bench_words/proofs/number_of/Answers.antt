-- `bench_words::number_of` meets its contract. Assumes nothing.
use Rattle.std.proofs.Common.{sym, ◌∙◌, rules}
use Rattle.bench_words.specs.NumbersLaws.{number-empty, number-some}
use Rattle.bench_words.proofs.number_of.Goals as goal

pub returns-then-is_empty : goal.returns-then-is_empty
returns-then-is_empty c = sym (number-empty c.args.most c.args.word.now (search rules))

pub returns : goal.returns
returns c =
    c.digits.ensures ∙ sym (number-some c.args.most c.args.word.now (λ e. search rules))
