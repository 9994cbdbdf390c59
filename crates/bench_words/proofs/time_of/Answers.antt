-- `bench_words::time_of` meets its contract. A number of at most 2^53 is a float as it is. Assumes nothing.
use Rattle.std.proofs.Common.{Some, length, sym, ap, ◌∙◌, arith}
use Rattle.std.proofs.lemmas.List.{take_rest}
use borrow.Author.Tests.{lt-ltb, le-ltb}
use Rattle.bench_words.specs.Texts.{text_span}
use Rattle.bench_words.specs.Numbers.{numeral, ticks}
use Rattle.bench_words.specs.NumbersLaws.{bits-length, time-bits, time-decimal, time-whole, number-most, whole-fits}
use Rattle.bench_words.proofs.time_of.Goals as goal

pub slice_bounds-digits-count : goal.slice_bounds-digits-count
slice_bounds-digits-count c = omega (arith, bits-length c.args.word.now (sym c.has_bits.ensures ∙ c.if-has_bits.true))

pub slice_bounds-digits-start : goal.slice_bounds-digits-start
slice_bounds-digits-start c = omega (arith, bits-length c.args.word.now (sym c.has_bits.ensures ∙ c.if-has_bits.true))

pub returns-then-has_bits : goal.returns-then-has_bits
returns-then-has_bits c =
    c.digits.ensures ∙ ap (numeral 16 0xFFFF_FFFF_FFFF_FFFF 0) (take_rest c.args.word.now _) ∙ sym (time-bits c.args.word.now (sym c.has_bits.ensures ∙ c.if-has_bits.true))

pub returns-then-point-word : goal.returns-then-point-word
returns-then-point-word c =
    let word = c.args.word.now in
    c.decimal_of.ensures ∙ sym (time-decimal word (sym c.has_bits.ensures ∙ c.if-has_bits.false) (lt-ltb (text_span word) (length word) (rw c.point_at-point.ensures at c.if-point-word.true)))

pub returns-in_err-n : goal.returns-in_err-n
returns-in_err-n c =
    let word = c.args.word.now in
    c.from_residual.ensures ∙ sym (time-whole word (sym c.has_bits.ensures ∙ c.if-has_bits.false) (le-ltb (text_span word) (length word) (rw c.point_at-point.ensures at c.if-point-word.false)) ∙ ap ticks (sym c.number_of.ensures ∙ c.in_err-n.was))

pub int_to_float-n : goal.int_to_float-n
int_to_float-n c =
    whole-fits _ (number-most _ c.args.word.now c.in_ok-n.n (sym c.number_of.ensures ∙ c.in_ok-n.was))

pub returns : goal.returns
returns c =
    let word = c.args.word.now in
    ap Some c.bits_of.ensures ∙ sym (time-whole word (sym c.has_bits.ensures ∙ c.if-has_bits.false) (le-ltb (text_span word) (length word) (rw c.point_at-point.ensures at c.if-point-word.false)) ∙ ap ticks (sym c.number_of.ensures ∙ c.in_ok-n.was))
