-- `posting::lay_table` meets its contract. Assumes nothing.
use mathlib.Core.Path.{sym}
use Rattle.posting.specs.WholeLaws.{table-long, table-laid}
use Rattle.posting.proofs.lay_table.Goals as goal

pub returns : goal.returns
returns c =
    let a = c.args in
    record {
      ends = sym (table-long a.models.now a.connectors.now a.couplings.now);
      lays = table-laid a.models.now a.connectors.now a.couplings.now a.state.now c.lay_three.new.state c.lay_words.new.state c.lay_words-2.new.state c.lay_words-3.new.state
          c.lay_three.ensures c.lay_words.ensures c.lay_words-2.ensures c.lay_words-3.ensures;
    }
