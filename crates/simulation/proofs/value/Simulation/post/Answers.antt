-- `simulation::value::Simulation::post` meets its contract. Assumes nothing.
use Rattle.std.specs.Prelude.{Ok}
use mathlib.Core.Path.{◌≡◌, sym, ap, ◌∙◌}
use Rattle.rules.specs.Base.{Outcome}
use Rattle.rules.specs.Simulation.{Simulation}
use Rattle.simulation.specs.Values.{blank}
use Rattle.simulation.specs.ValueLaws.{post-any, words-posted, words-handed}
use Rattle.storing.specs.Lent.{post_in, answered}
use Rattle.simulation.proofs.value.Simulation.post.Goals as goal

pub returns-in-Ok : goal.returns-in-Ok
returns-in-Ok c =
    let told : answered (post_in c.args.models.now c.args.connectors.now c.args.couplings.now blank) ≡ (Ok tt) = sym c.post-answer.ensures.answers ∙ c.in-Ok.is in
    record { answers = c.post-answer.ensures.answers ∙ ap (λ (o : Outcome Simulation). answered o) (post-any c.args.models.now c.args.connectors.now c.args.couplings.now); leaves = c.post-answer.ensures.leaves ∙ words-posted c.args.models.now c.args.connectors.now c.args.couplings.now told }

pub returns-in-Err : goal.returns-in-Err
returns-in-Err c =
    let told = sym c.post-answer.ensures.answers ∙ c.in-Err.is in
    record { answers = c.post-answer.ensures.answers ∙ ap (λ (o : Outcome Simulation). answered o) (post-any c.args.models.now c.args.connectors.now c.args.couplings.now); leaves = words-handed c.args.models.now c.args.connectors.now c.args.couplings.now c.in-Err.field-0 told c.post-answer.new.state c.post.new.state c.post-answer.ensures.leaves c.post.ensures.leaves }
