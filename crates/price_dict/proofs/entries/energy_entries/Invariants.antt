use Rattle.std.proofs.Common.{◌≡◌, map, take}
use Rattle.price_system.specs.PriceSystem.{energy_coefficient}
use Rattle.price_dict.proofs.entries.energy_entries.Given as goal

abbrev pub invariant-loop-column : goal.invariant-loop-column
invariant-loop-column g l = map g.N.Exact.value l.entries ≡ map (energy_coefficient l.market l.unit) (take l.column-index l.columns)
