-- `unparking::next_for` meets its contract. The loop's invariant: the search from here on gives what the whole search gives. Assumes nothing.
use borrow.Author.Tests.{ne_eqb}
use mathlib.Core.Path.{sym, ◌∙◌}
use Rattle.words.specs.SearchLaws.{search-skip}
use Rattle.unparking.proofs.next_for.Goals as goal

pub loop-place-preserved : goal.loop-place-preserved
loop-place-preserved c =
    let l = c.loop-place in
    sym (search-skip _ l.place _ c.loop-place-test.true (ne_eqb _ _ c.if-mem-begin.false)) ∙ l.invariant
