-- `posting::lay` meets its contract. Assumes nothing.
use native.Mathlib.Omega.{arith}
use lib.ListN.{length-append}
use Rattle.posting.specs.Laying.{fresh_words, new_rows, table_words}
use Rattle.posting.specs.LayingLaws.{laid_more}
use Rattle.posting.specs.WholeLaws.{table-long}
use Rattle.posting.proofs.lay.Goals as goal

pub lay_fresh-requires : goal.lay_fresh-requires
lay_fresh-requires c =
    let a = c.args in
    let long = table-long a.models.now a.connectors.now a.couplings.now in
    let room = c.requires.room in
    (c.requires.few, omega (arith, c.lay_table-tail.ensures.ends, c.lay_table-tail.auto.state))

pub returns : goal.returns
returns c =
    let a = c.args in
    let table = table_words a.models.now a.connectors.now a.couplings.now in
    let fresh = fresh_words a.active a.clock a.place (new_rows a.models.now) in
    record { ends = omega (arith, length-append table fresh, c.lay_table-tail.ensures.ends, c.lay_fresh.ensures.ends); lays = laid_more 0 c.lay_table-tail.result table fresh a.state.now c.lay_table-tail.new.state c.lay_fresh.new.state (omega arith) c.lay_table-tail.ensures.lays (omega (arith, c.lay_table-tail.ensures.ends)) c.lay_fresh.ensures.lays }
