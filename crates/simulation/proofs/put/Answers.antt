-- `simulation::put` meets its contract. Assumes nothing.
use borrow.Author.Tests.{le-leb, lt-leb}
use native.Mathlib.Omega.{arith}
use mathlib.Core.Path.{sym, ap, ◌∙◌}
use lib.ListN.{length}
use Rattle.std.specs.Prelude.{Err}
use Rattle.std.proofs.lemmas.Result.{err_from_is_err_and}
use Rattle.rules.specs.declared.Refusal.{Refusal}
use Rattle.rules.specs.Base.{Outcome}
use Rattle.rules.specs.Simulation.{Simulation}
use Rattle.rules.specs.Layout.{lent}
use Rattle.storing.specs.State.{words_for}
use Rattle.storing.specs.StoredLaws.{stored_of}
use Rattle.storing.specs.Lent.{answered, left_anew}
use Rattle.posting.specs.WholeLaws.{room_for, has-passed}
use Rattle.simulation.specs.CallLaws.{stored, put-20, put-short, put_refused, put-done}
use Rattle.simulation.proofs.put.Goals as goal

pub returns-then-not-is_state : goal.returns-then-not-is_state
returns-then-not-is_state c =
    let e = put-20 c.args.models.now c.args.connectors.now c.args.couplings.now c.args.state.now (sym c.is_state.ensures ∙ c.if-not-is_state.true) in
    record { answers = ap (λ (o : Outcome Simulation). answered o) (sym e); leaves = ap (left_anew c.args.models.now c.args.connectors.now c.args.couplings.now c.args.state.now) (sym e) }

pub returns-then-state-state_words : goal.returns-then-state-state_words
returns-then-state-state_words c =
    let short = lt-leb (words_for (length c.args.models.now) (length c.args.connectors.now) (length c.args.couplings.now)) (length c.args.state.now) (omega (arith, c.state_words.ensures, c.if-state-state_words.true)) in
    let e = put-short c.args.models.now c.args.connectors.now c.args.couplings.now c.args.state.now (sym c.is_state.ensures ∙ c.if-not-is_state.false) short in
    record { answers = ap (λ (o : Outcome Simulation). answered o) (sym e); leaves = ap (left_anew c.args.models.now c.args.connectors.now c.args.couplings.now c.args.state.now) (sym e) }

pub replace-requires : goal.replace-requires
replace-requires c =
    let passes = has-passed (lent c.args.models.now c.args.connectors.now c.args.couplings.now) (sym c.judged.ensures ∙ c.in_ok-judged.was) in
    (stored_of c.args.state.now (stored c.args.state.now (sym c.is_state.ensures ∙ c.if-not-is_state.false)), passes, room_for c.args.models.now c.args.connectors.now c.args.couplings.now passes c.args.state.now (omega (arith, c.state_words.ensures, c.if-state-state_words.false)))

pub returns-in_err-judged : goal.returns-in_err-judged
returns-in_err-judged c =
    let e = put_refused c.args.models.now c.args.connectors.now c.args.couplings.now c.args.state.now (sym c.is_state.ensures ∙ c.if-not-is_state.false) c.in_err-judged.field-0.0 (le-leb (words_for (length c.args.models.now) (length c.args.connectors.now) (length c.args.couplings.now)) (length c.args.state.now) (omega (arith, c.state_words.ensures, c.if-state-state_words.false))) (sym c.judged.ensures ∙ c.in_err-judged.was) in
    let h = err_from_is_err_and c.from_residual.result c.from_residual.ensures.1 in
    record { answers = h.1 ∙ ap (λ (r : Refusal). Err r) h.2 ∙ ap (λ (o : Outcome Simulation). answered o) (sym e); leaves = ap (left_anew c.args.models.now c.args.connectors.now c.args.couplings.now c.args.state.now) (sym e) }

pub returns : goal.returns
returns c =
    let passes = has-passed (lent c.args.models.now c.args.connectors.now c.args.couplings.now) (sym c.judged.ensures ∙ c.in_ok-judged.was) in
    let e = put-done c.args.models.now c.args.connectors.now c.args.couplings.now c.args.state.now (sym c.is_state.ensures ∙ c.if-not-is_state.false) (le-leb (words_for (length c.args.models.now) (length c.args.connectors.now) (length c.args.couplings.now)) (length c.args.state.now) (omega (arith, c.state_words.ensures, c.if-state-state_words.false))) passes in
    record { answers = ap (λ (o : Outcome Simulation). answered o) (sym e); leaves = c.replace.ensures ∙ ap (left_anew c.args.models.now c.args.connectors.now c.args.couplings.now c.args.state.now) (sym e) }
