-- `words::move_up` meets its contract. What is moved to the front and what is cleared are together `moved_up`. Assumes nothing.
use Rattle.std.proofs.Common.{◌≡◌, ◌≤◌, ◌∙◌, length, arith}
use Rattle.std.proofs.Math.Nat.{min-le_right}
use Rattle.words.specs.Queue.{moved_up}
use Rattle.words.proofs.Laws.{moved_up-says, moved-within}
use Rattle.words.proofs.move_up.Goals as goal

pub returns : goal.returns
returns c =
    let a = c.args in
    let out = c.min-out.result in
    let end = c.min-end.result in
    let some : out ≤ end = omega (arith, c.min-out.ensures, min-le_right a.gone end) in
    let fits : end ≤ length a.words.now = omega (arith, c.min-end.ensures, min-le_right a.held (length a.words.now)) in
    let whole : moved_up out end a.words.now ≡ moved_up a.gone a.held a.words.now =
    rw (c.min-out.ensures, c.min-end.ensures) (moved-within a.gone a.held a.words.now) in
    moved_up-says out end a.words.now c.shift.new.words c.fill.new.self some fits c.shift.ensures (c.fill.ensures.after (λ y e. e)) ∙ whole
