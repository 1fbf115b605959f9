use Rattle.std.proofs.Common.{◌≡◌, map, take}
use Rattle.price_system.specs.PriceSystem.{name}
use Rattle.price_dict.proofs.names.names_of.Given as goal

abbrev pub invariant-loop-column : goal.invariant-loop-column
invariant-loop-column l = l.names ≡ map (name l.market) (take l.column-index l.columns)
