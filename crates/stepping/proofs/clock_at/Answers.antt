-- `stepping::clock_at` meets its contract: the clock's bits are those of a time. Assumes nothing.
use Rattle.std.specs.Prelude.{None, Option, Some, T, ◌≡◌}
use Rattle.std.specs.Option.{unwrap_or}
use Rattle.std.proofs.Common.{ap, refl, subst, ◌∙◌}
use lib.Ieee.{Float, binary64, of_bits}
use Rattle.times.specs.Answers.{time_of_bits}
use Rattle.times.proofs.AnswerLaws.{time-says, bad-says}
use Rattle.memory.specs.Words.{word_at}
use Rattle.stepping.proofs.clock_at.Goals as goal

pub returns : goal.returns
returns c =
    c.unwrap_or.ensures ∙ ap (λ (o : Option Float). unwrap_or o (of_bits binary64 0)) c.time_of_bits.ensures ∙ read (time_of_bits (word_at c.args.mem.now 1)) refl
  where
    read : (o : Option Float) → time_of_bits (word_at c.args.mem.now 1) ≡ o → unwrap_or o (of_bits binary64 0) ≡ of_bits binary64 (word_at c.args.mem.now 1)
    read (Some x) e = (time-says (word_at c.args.mem.now 1) x e).1
    read None e = absurd (subst T (bad-says (word_at c.args.mem.now 1) e) c.requires.1)
