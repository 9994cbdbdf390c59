-- `host::jt_inject_input` meets its contract. Assumes nothing.
use mathlib.Core.Path.{ap, ◌∙◌}
use Rattle.rules.specs.Calls as Calls
use Rattle.storing.specs.Lent.{call_in}
use Rattle.host.specs.Numbers.{answer_number}
use Rattle.host.specs.NumberLaws.{answer-is}
use Rattle.host.proofs.jt_inject_input.Goals as goal

pub returns : goal.returns
returns c = record { answers = c.answer_number.ensures ∙ ap answer_number c.inject_input.ensures.answers ∙ answer-is (call_in (Calls.inject_input (record { source_id = c.args.source_id; source_port = c.args.source_port; target_id = c.args.target_id; target_port = c.args.target_port; time = c.args.time; content = c.args.content })) c.args.state.now); leaves = c.inject_input.ensures.leaves }
