-- `lookup::next_output` meets its contract. The couplings' words are the lent part. Assumes nothing.
use Rattle.lookup.specs.InsideLaws.{coupling-search}
use Rattle.selection.specs.Selecting.{is_output}
use Rattle.lookup.proofs.next_output.Goals as goal

pub returns : goal.returns
returns c =
    let a = c.args in
    rw (c.next_output.ensures, c.couplings_in.ensures) (coupling-search a.state.now c.requires (λ words. is_output words a.owner a.source a.port) a.from)
