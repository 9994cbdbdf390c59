-- `lookup::next_connector` meets its contract. The connectors' words are the lent part. Assumes nothing.
use Rattle.selection.specs.Selecting.{connects, lead_at}
use Rattle.lookup.specs.InsideLaws.{connector-finds}
use Rattle.lookup.proofs.next_connector.Goals as goal

pub returns : goal.returns
returns c =
    let a = c.args in
    connector-finds a.state.now c.requires (λ words. connects words a.source a.port) lead_at a.looked.now _ _ (rw c.connectors_in.ensures at c.next_connector.ensures)
