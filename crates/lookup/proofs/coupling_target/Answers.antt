-- `lookup::coupling_target` meets its contract. The couplings' words are the lent part. Assumes nothing.
use mathlib.Core.Path.{ap, ◌∙◌}
use Rattle.lookup.specs.InsideLaws.{couplings-part}
use Rattle.selection.specs.Selecting.{target_in}
use Rattle.lookup.proofs.coupling_target.Goals as goal

pub returns : goal.returns
returns c =
    let a = c.args in
    let e = c.coupling_target.ensures ∙ ap (λ words. target_in 6 4 words a.coupling) (c.couplings_in.ensures ∙ couplings-part a.state.now) in
    (λ i. (e i).id, λ i. (e i).port)
