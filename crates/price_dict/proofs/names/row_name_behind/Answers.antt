use Rattle.std.proofs.Common.{arith}
use Rattle.price_dict.proofs.NamePlaces.{sum_small}
use Rattle.price_dict.proofs.names.row_name_behind.Goals as goal

pub overflow_add-result : goal.overflow_add-result
overflow_add-result c = omega (arith, c.requires.first, c.requires.place, sum_small c.args.market.now c.lines-lines.ensures.market)

pub overflow_cast-result : goal.overflow_cast-result
overflow_cast-result c = omega (arith, c.requires.first, c.requires.place, sum_small c.args.market.now c.lines-lines.ensures.market)
