use Rattle.std.proofs.Common.{◌≡◌, map, take}
use Rattle.market_model.specs.LimitRows.{place_of_line}
use Rattle.market_model.proofs.outages.lost_lines.Given as goal

abbrev pub invariant-loop-outage : goal.invariant-loop-outage
invariant-loop-outage l = l.lost ≡ map (place_of_line l.parts) (take l.outage-index l.outages)
