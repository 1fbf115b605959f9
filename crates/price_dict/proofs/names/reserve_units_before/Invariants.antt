use Rattle.std.proofs.Common.{◌≡◌}
use Rattle.price_dict.proofs.NamePlaces.{before}
use Rattle.price_dict.proofs.names.reserve_units_before.Given as goal

abbrev pub invariant-loop-unit : goal.invariant-loop-unit
invariant-loop-unit l = l.count ≡ before l.market l.unit
