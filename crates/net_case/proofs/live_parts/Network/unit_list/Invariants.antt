use Rattle.std.proofs.Common.{◌≡◌, length, map, take, All}
use Rattle.market_data.specs.Participants.{IsUnit}
use Rattle.net_case.specs.NetworkReading.{unit_within}
use Rattle.net_case.proofs.live_parts.Network.unit_list.Given as goal

abbrev pub invariant-loop-unit : goal.invariant-loop-unit
invariant-loop-unit l = record {
  count : length l.units ≡ l.unit-index;
  is : l.units ≡ map unit_within (take l.unit-index l.self.units);
  units : All (IsUnit (length l.self.buses)) l.units;
}
