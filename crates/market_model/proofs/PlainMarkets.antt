-- Markets without branches keep what every market keeps.
use Rattle.std.specs.Prelude.{◌≢◌, ℕ, ◌<◌, ◌≤◌, List, [], length, map, All, AllPairs, slice_index_or, refl}
use Rattle.std.proofs.Common.{arith}
use Rattle.std.proofs.lemmas.Int.{ints}
use Rattle.std.proofs.lemmas.List.Elements.{All-nil}
use Rattle.market_data.specs.Participants.{IsBus, IsUnit}
use Rattle.market_data.specs.Scales.{most_blocks, most_buses, most_units}
use Rattle.market_data.specs.declared.participants.Bus.{Bus}
use Rattle.market_data.specs.declared.participants.Unit as unit
use Rattle.market_model.specs.declared.participants.Block.{Block}
use Rattle.market_model.specs.Market.{bare_parts, AreUnitOutages, IsMarket, IsBlock, IsReserve, HasRoom}
use Rattle.market_model.specs.Reserves.{no_reserve}

-- numbers that rise are distinct
pub distinct_by_rise : (xs : List ℕ) → AllPairs (λ a b. a < b) xs → AllPairs (λ a b. a ≢ b) xs
distinct_by_rise xs h i j d p q e = let less = h i j d p q in Prim.omega (arith, less, e)

-- no unit is lost
pub no_unit_outages : (units : ℕ) → AreUnitOutages units [] []
no_unit_outages units = record {
  count = Prim.omega arith;
  each = λ i d lt. absurd (Prim.omega (arith, lt));
  distinct = λ i j d p q. absurd (Prim.omega (arith, q));
  record_count = Prim.omega arith;
  pickups = λ i d lt. absurd (Prim.omega (arith, lt));
}

-- no reserve is cleared
pub is_no_reserve : (units : ℕ) → IsReserve units no_reserve
is_no_reserve units = record {
  count = Prim.omega arith;
  each = λ i d lt. absurd (Prim.omega (arith, lt));
  distinct = λ i j d p q. absurd (Prim.omega (arith, q));
  need = Prim.omega (arith, ints);
  unlisted = λ e. refl;
}

pub record IsPlain (bs : List Bus) (us : List unit.Unit) (ks : List Block) : Type 0 where
  pub bus_count : length bs ≤ most_buses
  pub unit_count : length us ≤ most_units
  pub block_count : length ks ≤ most_blocks
  pub buses : All IsBus bs
  pub bus_numbers : AllPairs (λ a b. a ≢ b) (map (λ bus. bus.number) bs)
  pub units : All (IsUnit (length bs)) us
  pub unit_rows : AllPairs (λ a b. a < b) (map (λ unit. unit.row) us)
  pub blocks : All (IsBlock (length us)) ks
  pub room : (place : ℕ) (d : unit.Unit) → place < length us → HasRoom ks place (slice_index_or us place d)

pub plain_market : (buses : List Bus) (units : List unit.Unit) (blocks : List Block) → IsPlain buses units blocks → IsMarket (bare_parts buses units blocks)
plain_market buses units blocks h = record {
  bus_count = h.bus_count;
  unit_count = h.unit_count;
  block_count = h.block_count;
  line_count = Prim.omega arith;
  outage_count = Prim.omega arith;
  buses = h.buses;
  bus_numbers = h.bus_numbers;
  units = h.units;
  unit_rows = h.unit_rows;
  blocks = h.blocks;
  room = h.room;
  lines = λ i d lt. absurd (Prim.omega (arith, lt));
  line_rows = λ i j d p q. absurd (Prim.omega (arith, q));
  outages = λ i d lt. absurd (Prim.omega (arith, lt));
  outages_distinct = λ i j d p q. absurd (Prim.omega (arith, q));
  shift = record { each = λ i d lt. absurd (Prim.omega (arith, lt)); distinct = λ i j d p q. absurd (Prim.omega (arith, q)) };
  loss = record { each = λ i d lt. absurd (Prim.omega (arith, lt)); distinct = λ i j d p q. absurd (Prim.omega (arith, q)) };
  unit_outages = no_unit_outages (length units);
  reserve = is_no_reserve (length units);
}

-- a market of nothing
pub nothing : IsMarket (bare_parts [] [] [])
nothing = plain_market [] [] [] (record {
  bus_count = Prim.omega arith;
  unit_count = Prim.omega arith;
  block_count = Prim.omega arith;
  buses = All-nil IsBus;
  bus_numbers = λ i j d p q. absurd (Prim.omega (arith, q));
  units = All-nil (IsUnit 0);
  unit_rows = λ i j d p q. absurd (Prim.omega (arith, q));
  blocks = All-nil (IsBlock 0);
  room = λ place d h. absurd (Prim.omega (arith, h));
})
