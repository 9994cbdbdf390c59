-- `bench_words::without_point` meets its contract: the digits behind the point go on from those before it. Assumes nothing.
use Rattle.std.proofs.Common.{suc, take, drop, sym, ◌∙◌, ap, add-one, arith}
use Rattle.std.proofs.lemmas.List.{take_rest}
use Rattle.bench_words.specs.Numbers.{numeral, nines}
use Rattle.bench_words.specs.NumbersLaws.{numeral-most, numeral-joined, numeral-broken}
use Rattle.bench_words.proofs.without_point.Goals as goal

pub returns-in_err-before : goal.returns-in_err-before
returns-in_err-before c =
    let a = c.args in
    c.from_residual.ensures ∙ sym (numeral-broken 10 nines (drop (suc a.point) a.word.now) 0 (take a.point a.word.now) (sym c.digits.ensures ∙ c.in_err-before.was))

pub digits-requires-2 : goal.digits-requires-2
digits-requires-2 c =
    let a = c.args in
    (omega arith, numeral-most 10 nines 0 (take a.point a.word.now) _ (omega arith) (sym c.digits.ensures ∙ c.in_ok-before.was))

pub returns : goal.returns
returns c =
    let a = c.args in
    c.digits-2.ensures ∙ ap (numeral 10 nines c.in_ok-before.before) (take_rest a.word.now _) ∙ rw (add-one a.point) (sym (numeral-joined 10 nines (drop (suc a.point) a.word.now) 0 (take a.point a.word.now) _ (sym c.digits.ensures ∙ c.in_ok-before.was)))
