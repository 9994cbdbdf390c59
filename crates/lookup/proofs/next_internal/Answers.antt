-- `lookup::next_internal` meets its contract. The couplings' words are the lent part. Assumes nothing.
use Rattle.lookup.specs.InsideLaws.{coupling-search}
use Rattle.selection.specs.Selecting.{is_internal}
use Rattle.lookup.proofs.next_internal.Goals as goal

pub returns : goal.returns
returns c =
    let a = c.args in
    rw (c.next_internal.ensures, c.couplings_in.ensures) (coupling-search a.state.now c.requires (λ words. is_internal words a.owner a.source a.port) a.from)
