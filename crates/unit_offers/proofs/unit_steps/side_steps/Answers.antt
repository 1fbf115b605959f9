use Rattle.std.proofs.Common.{refl}
use Rattle.unit_offers.proofs.RangeEnds.{steep-part}
use Rattle.unit_offers.proofs.unit_steps.side_steps.Goals as goal

pub returns-in-Err-Price : goal.returns-in-Err-Price
returns-in-Err-Price c =
    let steep = Prim.rw c.in-Err-Price.field-0-is at c.in-Err-Price.ensures.is in
    (refl, steep-part c.args.count c.args.cost.now c.args.unit.now c.args.side c.range_of-range.result c.requires.bounds c.range_of-range.ensures steep)
