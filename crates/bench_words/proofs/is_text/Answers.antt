-- `bench_words::is_text` meets its contract. Assumes nothing.
use Rattle.std.proofs.Common.{◌≡◌, ◌≤◌, length, take, not, ap, ◌∙◌, arith, rules}
use Rattle.bench_words.specs.Texts.{is_dot, same}
use Rattle.bench_words.specs.SplittingLaws.{span-within}
use Rattle.bench_words.specs.TextLaws.{pointwise-same}
use Rattle.bench_words.proofs.is_text.Goals as goal

pub slice_bounds-text-end : goal.slice_bounds-text-end
slice_bounds-text-end c =
    let whole : length c.args.text ≡ 32 = search rules in
    omega (arith, c.text_length.ensures, span-within (λ b. not (is_dot b)) c.args.text)

pub slice_bounds-eq-end : goal.slice_bounds-eq-end
slice_bounds-eq-end c =
    let h : c.text_length.result ≤ length c.args.text = omega (arith, c.text_length.ensures, span-within (λ b. not (is_dot b)) c.args.text) in
    search rules

pub returns : goal.returns
returns c =
    c.eq.ensures ∙ pointwise-same _ _ ∙ ap (λ k. same c.args.word.now (take k c.args.text)) c.text_length.ensures
