-- `posting::post` meets its contract. Assumes nothing.
use Rattle.std.specs.Prelude.{Err}
use mathlib.Core.Path.{sym, ap, ◌∙◌}
use Rattle.std.proofs.lemmas.Result.{err_from_is_err_and}
use Rattle.rules.specs.declared.Refusal.{Refusal}
use native.Mathlib.Omega.{arith}
use borrow.Author.Tests.{le-leb, lt-leb}
use lib.ListN.{length}
use Rattle.rules.specs.Layout.{lent}
use Rattle.storing.specs.State.{words_for}
use Rattle.storing.specs.Lent.{answered, left_anew}
use Rattle.posting.specs.WholeLaws.{fits, room_for, has-passed, post-short, post-refused, post-done, post-laid}
use Rattle.posting.proofs.post.Goals as goal

pub returns-then-state-needed : goal.returns-then-state-needed
returns-then-state-needed c =
    let a = c.args in
    let short = lt-leb (words_for (length a.models.now) (length a.connectors.now) (length a.couplings.now)) (length a.state.now) (omega (arith, c.state_words-needed.ensures, c.if-state-needed.true)) in
    let is = post-short a.models.now a.connectors.now a.couplings.now a.state.now short in
    record { answers = sym (ap answered is); leaves = sym (ap (left_anew a.models.now a.connectors.now a.couplings.now a.state.now) is) }

pub returns-in_err-judged : goal.returns-in_err-judged
returns-in_err-judged c =
    let a = c.args in
    let enough = le-leb (words_for (length a.models.now) (length a.connectors.now) (length a.couplings.now)) (length a.state.now) (omega (arith, c.state_words-needed.ensures, c.if-state-needed.false)) in
    let is = post-refused a.models.now a.connectors.now a.couplings.now a.state.now c.in_err-judged.field-0.0 enough (sym c.judged.ensures ∙ c.in_err-judged.was) in
    let h = err_from_is_err_and c.from_residual.result c.from_residual.ensures.1 in
    record { answers = h.1 ∙ ap (λ (r : Refusal). Err r) h.2 ∙ sym (ap answered is); leaves = sym (ap (left_anew a.models.now a.connectors.now a.couplings.now a.state.now) is) }

pub lay-requires : goal.lay-requires
lay-requires c =
    let a = c.args in
    let passes = has-passed (lent a.models.now a.connectors.now a.couplings.now) (sym c.judged.ensures ∙ c.in_ok-judged.was) in
    fits a.models.now a.connectors.now a.couplings.now passes a.state.now
    (room_for a.models.now a.connectors.now a.couplings.now passes a.state.now (omega (arith, c.state_words-needed.ensures, c.if-state-needed.false)))

pub returns : goal.returns
returns c =
    let a = c.args in
    let passes = has-passed (lent a.models.now a.connectors.now a.couplings.now) (sym c.judged.ensures ∙ c.in_ok-judged.was) in
    let enough = le-leb (words_for (length a.models.now) (length a.connectors.now) (length a.couplings.now)) (length a.state.now) (omega (arith, c.state_words-needed.ensures, c.if-state-needed.false)) in
    let is = post-done a.models.now a.connectors.now a.couplings.now a.state.now enough passes in
    record {
      answers = sym (ap answered is);
      leaves = c.lay.ensures.lays ∙ post-laid a.models.now a.connectors.now a.couplings.now a.state.now passes
          ∙ sym (ap (left_anew a.models.now a.connectors.now a.couplings.now a.state.now) is);
    }
