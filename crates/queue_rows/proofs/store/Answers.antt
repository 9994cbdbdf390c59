-- `queue_rows::store` meets its contract. Assumes nothing.
use Rattle.queue_rows.proofs.store.Goals as goal

pub returns : goal.returns
returns c = rw (c.set_head.ensures, c.bits_of-bits.ensures)
