-- `decimals::few_places` meets its contract: the whole ticks stand before the point, and what the rest carries is added. Assumes nothing.
use Rattle.decimals.proofs.Parts.{few}
use Rattle.decimals.proofs.few_places.Goals as goal

pub returns : goal.returns
returns c = few c.args.digits c.args.places c.power-unit.result c.nearest_of-after.result c.power-unit.ensures c.nearest_of-after.ensures
