-- `lookup::next_input` meets its contract. The couplings' words are the lent part. Assumes nothing.
use Rattle.lookup.specs.InsideLaws.{coupling-search}
use Rattle.selection.specs.Selecting.{is_input}
use Rattle.lookup.proofs.next_input.Goals as goal

pub returns : goal.returns
returns c =
    let a = c.args in
    rw (c.next_input.ensures, c.couplings_in.ensures) (coupling-search a.state.now c.requires (λ words. is_input words a.owner a.port) a.from)
