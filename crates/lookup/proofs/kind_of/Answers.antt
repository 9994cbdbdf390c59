-- `lookup::kind_of` meets its contract. The rows' words are the lent part, and each row has a kind. Assumes nothing.
use Rattle.std.specs.Prelude.{◌≡◌, refl, Some}
use Rattle.rules.specs.Table.{kind_at}
use Rattle.table.specs.Readers.{named}
use Rattle.lookup.specs.Inside.{table_in}
use Rattle.lookup.specs.InsideLaws.{kind-in}
use Rattle.lookup.proofs.kind_of.Goals.{After-kind_at}
use Rattle.lookup.proofs.kind_of.Goals as goal

is_named : (c : After-kind_at) → c.kind_at.result ≡ Some (named (kind_at (table_in c.args.state.now) c.args.row))
is_named c = rw (c.kind_at.ensures, c.models_in.ensures) (kind-in c.args.state.now c.requires.0 c.args.row c.requires.1)

pub unwrap-requires : goal.unwrap-requires
unwrap-requires c = rw (is_named c) refl

pub returns : goal.returns
returns c = let e = is_named (goal.at.returns c).After-kind_at in cc
