-- `host::jt_reset_global_time` meets its contract. Assumes nothing.
use mathlib.Core.Path.{ap, ◌∙◌}
use Rattle.rules.specs.Calls as Calls
use Rattle.storing.specs.Lent.{call_in}
use Rattle.host.specs.Numbers.{answer_number}
use Rattle.host.specs.NumberLaws.{answer-is}
use Rattle.host.proofs.jt_reset_global_time.Goals as goal

pub returns : goal.returns
returns c = record { answers = c.answer_number.ensures ∙ ap answer_number c.reset_global_time.ensures.answers ∙ answer-is (call_in Calls.reset_global_time c.args.state.now); leaves = c.reset_global_time.ensures.leaves }
