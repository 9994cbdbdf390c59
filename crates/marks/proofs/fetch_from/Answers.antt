-- `marks::fetch_from` meets its contract. The loop's invariant: the jobs passed are incomplete, so the rest gives the answer. Assumes nothing.
use Rattle.std.proofs.Common.{get_or, sym, ap, ◌∙◌, rules, Some}
use Rattle.marks.specs.declared.Best.{Best}
use Rattle.marks.specs.SweepLaws.{begun, fetched-open, fetched-lasted, fetched-end, turn}
use Rattle.marks.specs.Sweeps.{best_from, fetched_from}
use borrow.Author.Rules.{rules}
use Rattle.marks.proofs.fetch_from.Goals as goal

pub loop-k-init : goal.loop-k-init
loop-k-init c = (search rules, begun (fetched_from c.args.metric c.args.words.now 0) c.args.held)

pub returns-in-Some : goal.returns-in-Some
returns-in-Some c =
    let words = c.args.words.now in
    let metric = c.args.metric in
    let first : Best = record { name = get_or words c.loop-k.k 0; length = c.in-Some.length } in
    ap Some c.best_from.ensures
    ∙ sym (turn (fetched_from metric words) (λ k n. Some (best_from metric words first k n)) c.loop-k.k c.args.held
    (λ n. fetched-lasted metric words c.loop-k.k n c.in-Some.length (sym c.length_of.ensures ∙ c.in-Some.is)) c.loop-k-test.true)
    ∙ c.loop-k.invariant.1

pub loop-k-preserved : goal.loop-k-preserved
loop-k-preserved c =
    let words = c.args.words.now in
    let metric = c.args.metric in (
      search rules,
      sym (turn (fetched_from metric words) (fetched_from metric words) c.loop-k.k c.args.held
          (λ n. fetched-open metric words c.loop-k.k n (sym c.length_of.ensures ∙ c.in_default.is)) c.loop-k-test.true)
          ∙ c.loop-k.invariant.1,
    )

pub returns : goal.returns
returns c = sym (fetched-end _ _ _ _ c.loop-k-test.false) ∙ c.loop-k.invariant.1
