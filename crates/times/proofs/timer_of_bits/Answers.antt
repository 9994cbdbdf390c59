-- `times::timer_of_bits` meets its contract: by what `time_of_bits` says, and at the bits of +infinity by `of-never`. Assumes nothing.
use Rattle.std.specs.Prelude.{Some}
use mathlib.Core.Path.{sym, ap, ◌∙◌}
use Rattle.times.specs.Answers.{timer_of_bits}
use Rattle.times.proofs.AnswerLaws.{of-never, of-time, of-bad}
use Rattle.times.proofs.timer_of_bits.Goals as goal

pub returns-then-bits-eq9218868437227405312 : goal.returns-then-bits-eq9218868437227405312
returns-then-bits-eq9218868437227405312 c = ap Some c.never.ensures ∙ sym (ap timer_of_bits c.if-bits-eq9218868437227405312.true ∙ of-never)

pub returns-in-Some : goal.returns-in-Some
returns-in-Some c = sym (of-time c.args.bits c.in-Some.x (sym c.time_of_bits.ensures ∙ c.in-Some.is))

pub returns-in-None : goal.returns-in-None
returns-in-None c = sym (of-bad c.args.bits (sym c.time_of_bits.ensures ∙ c.in-None.is) c.if-bits-eq9218868437227405312.false)
