-- The triangle is a market, with its outages or without.
use Rattle.std.proofs.Common.{Bool, true, false, arith}
use Rattle.market_model.specs.declared.participants.Parts.{Parts}
use Rattle.market_model.specs.Market.{IsMarket}
use Rattle.limit_rows.proofs.TestMarkets.{two_are_market}
use Rattle.market_tests.specs.Markets.{lines, network, outages}

abbrev pub triangle : Bool → Parts
triangle has_outages = record network { lines = lines; outages = outages has_outages }

none_is_market : IsMarket (triangle false)
none_is_market = record {
  bus_count = two_are_market.bus_count;
  unit_count = two_are_market.unit_count;
  block_count = two_are_market.block_count;
  line_count = two_are_market.line_count;
  outage_count = Prim.omega arith;
  buses = two_are_market.buses;
  bus_numbers = two_are_market.bus_numbers;
  units = two_are_market.units;
  unit_rows = two_are_market.unit_rows;
  blocks = two_are_market.blocks;
  room = two_are_market.room;
  lines = two_are_market.lines;
  line_rows = two_are_market.line_rows;
  outages = λ i d lt. absurd (Prim.omega (arith, lt));
  outages_distinct = λ i j d p q. absurd (Prim.omega (arith, q));
  shift = two_are_market.shift;
  loss = two_are_market.loss;
  unit_outages = two_are_market.unit_outages;
  reserve = two_are_market.reserve;
}

pub triangle_is_market : (has_outages : Bool) → IsMarket (triangle has_outages)
triangle_is_market true = two_are_market
triangle_is_market false = none_is_market
