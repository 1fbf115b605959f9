use Rattle.std.proofs.Common.{◌≡◌, map, take}
use Rattle.price_system.specs.PriceSystem.{column_price}
use Rattle.price_dict.proofs.entries.sum_entries.Given as goal

abbrev pub invariant-loop-column : goal.invariant-loop-column
invariant-loop-column g l = map g.N.Exact.value l.entries ≡ map column_price (take l.column-index l.columns)
