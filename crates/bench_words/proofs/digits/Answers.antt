-- `bench_words::digits` meets its contract. The loop's invariant: the numeral from here on is the whole numeral. Assumes nothing.
use Rattle.std.proofs.Common.{◌≡◌, ◌+◌, ◌*◌, ◌<◌, ◌≤◌, sym, ◌∙◌, arith}
use Rattle.bench_words.specs.NumbersLaws.{numeral-end, numeral-none, numeral-over, numeral-more}
use Rattle.bench_words.proofs.digits.Goals as goal

pub returns-then-base-d : goal.returns-then-base-d
returns-then-base-d c =
    let a = c.args in
    let l = c.loop-b in
    sym (numeral-none a.base a.most l.value a.word.now l.b-index c.loop-b-test.true (rw c.digit-d.ensures at c.if-base-d.true)) ∙ l.invariant.1

pub returns-in_err-checked_mul : goal.returns-in_err-checked_mul
returns-in_err-checked_mul c =
    let a = c.args in
    let l = c.loop-b in
    let over : a.most < l.value * a.base + c.digit-d.result = omega (arith, c.in_err-checked_mul.ensures) in
    c.from_residual.ensures ∙ sym (numeral-over a.base a.most l.value a.word.now l.b-index c.loop-b-test.true (rw c.digit-d.ensures at over)) ∙ l.invariant.1

pub returns-in_err-value : goal.returns-in_err-value
returns-in_err-value c =
    let a = c.args in
    let l = c.loop-b in
    let over : a.most < l.value * a.base + c.digit-d.result = omega (arith, c.in_ok-checked_mul.ensures, c.in_err-value.ensures) in
    c.from_residual-in_err-value.ensures ∙ sym (numeral-over a.base a.most l.value a.word.now l.b-index c.loop-b-test.true (rw c.digit-d.ensures at over)) ∙ l.invariant.1

pub returns-then-most-value : goal.returns-then-most-value
returns-then-most-value c =
    let a = c.args in
    let l = c.loop-b in
    let over : a.most < l.value * a.base + c.digit-d.result = omega (arith, c.in_ok-checked_mul.ensures, c.in_ok-value.ensures) in
    sym (numeral-over a.base a.most l.value a.word.now l.b-index c.loop-b-test.true (rw c.digit-d.ensures at over)) ∙ l.invariant.1

pub loop-b-preserved : goal.loop-b-preserved
loop-b-preserved c =
    let a = c.args in
    let l = c.loop-b in
    let more : c.in_ok-value.value ≡ l.value * a.base + c.digit-d.result = omega (arith, c.in_ok-checked_mul.ensures, c.in_ok-value.ensures) in
    let fits : l.value * a.base + c.digit-d.result ≤ a.most = omega arith in
    (c.if-most-value.false, rw (more, c.digit-d.ensures) (sym (numeral-more a.base a.most l.value a.word.now l.b-index c.loop-b-test.true (rw c.digit-d.ensures at c.if-base-d.false) (rw c.digit-d.ensures at fits)) ∙ l.invariant.1))

pub returns : goal.returns
returns c =
    let a = c.args in
    let l = c.loop-b in
    sym (numeral-end a.base a.most l.value a.word.now l.b-index c.loop-b-test.false) ∙ l.invariant.1
