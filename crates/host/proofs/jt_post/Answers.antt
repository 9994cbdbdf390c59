-- `host::jt_post` meets its contract. Assumes nothing.
use mathlib.Core.Path.{ap, ◌∙◌}
use Rattle.storing.specs.Lent.{post_in}
use Rattle.host.specs.Numbers.{answer_number}
use Rattle.host.specs.NumberLaws.{answer-is}
use Rattle.host.proofs.jt_post.Goals as goal

pub returns : goal.returns
returns c = record { answers = c.answer_number.ensures ∙ ap answer_number c.post.ensures.answers ∙ answer-is (post_in c.args.models.now c.args.connectors.now c.args.couplings.now c.args.state.now); leaves = c.post.ensures.leaves }
