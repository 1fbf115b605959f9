use Rattle.std.proofs.Common.{◌≡◌, map, take}
use Rattle.price_system.specs.PriceSystem.{reserve_coefficient}
use Rattle.price_dict.proofs.entries.reserve_entries.Given as goal

abbrev pub invariant-loop-column : goal.invariant-loop-column
invariant-loop-column g l = map g.N.Exact.value l.entries ≡ map (reserve_coefficient l.unit) (take l.column-index l.columns)
