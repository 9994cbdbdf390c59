-- `marks::fit_from` meets its contract. The loop's invariant: the jobs passed fit, so the rest gives the answer. Assumes nothing.
use Rattle.std.proofs.Common.{◌+◌, ◌-◌, ◌&&◌, sym, ap, ◌∙◌, rules}
use Rattle.marks.specs.SweepLaws.{begun, fit-end, fit-turn}
use Rattle.marks.specs.Sweeps.{fit_from}
use borrow.Author.Rules.{rules}
use Rattle.marks.proofs.fit_from.Goals as goal

pub loop-k-init : goal.loop-k-init
loop-k-init c = (search rules, begun (fit_from c.args.words.now 0) c.args.held)

pub returns-then-not-fits_at : goal.returns-then-not-fits_at
returns-then-not-fits_at c =
    let words = c.args.words.now in
    let k = c.loop-k.k in
    let held = c.args.held in
    sym (fit-turn words k held c.loop-k-test.true ∙ ap (λ b. b && fit_from words (k + 1) (held - (k + 1))) (sym c.fits_at.ensures ∙ c.if-not-fits_at.true)) ∙ c.loop-k.invariant.1

pub loop-k-preserved : goal.loop-k-preserved
loop-k-preserved c =
    let words = c.args.words.now in
    let k = c.loop-k.k in
    let held = c.args.held in (
      search rules,
      sym (fit-turn words k held c.loop-k-test.true ∙ ap (λ b. b && fit_from words (k + 1) (held - (k + 1))) (sym c.fits_at.ensures ∙ c.if-not-fits_at.false)) ∙ c.loop-k.invariant.1,
    )

pub returns : goal.returns
returns c = sym (fit-end _ _ _ c.loop-k-test.false) ∙ c.loop-k.invariant.1
