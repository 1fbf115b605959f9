-- The market with reserve of `clear_tests` and `market_tests` is one.
use Rattle.std.specs.Prelude.{◌<◌, ℕ, ℤ, pos, ◌≤ℤ◌, true, List, [], ◌∷◌, AllPairs, slice_index_or}
use Rattle.std.proofs.Common.{arith, zero, suc}
use Rattle.std.proofs.lemmas.Int.{ints}
use Rattle.std.proofs.lemmas.List.Elements.{All-cons, All-nil}
use Rattle.std.proofs.lemmas.List.Kept.{AllPairs-cons}
use Rattle.market_data.specs.Participants.{IsBus, IsUnit}
use Rattle.market_data.specs.declared.participants.Bus.{Bus}
use Rattle.market_data.specs.declared.participants.Unit as unit
use Rattle.market_model.specs.declared.participants.Block.{Block}
use Rattle.market_model.specs.declared.participants.Parts.{Parts}
use Rattle.market_model.specs.declared.participants.ReserveOffer.{ReserveOffer}
use Rattle.market_model.specs.declared.participants.Side.TheVariants.{Sell, Buy}
use Rattle.market_model.specs.Market.{bare_parts, HasRoom, IsBlock, IsMarket, IsReserve, IsReserveOffer}
use Rattle.market_model.specs.Stairs.{stair_in}
use Rattle.market_model.proofs.PlainMarkets.{distinct_by_rise, plain_market}

abbrev bus : Bus
bus = record { number = 1; pd = pos 60; gs = pos 0 }

abbrev unit_of : ℕ → unit.Unit
unit_of row = record { row = row; bus = 0; fixed = pos 0; up = pos 100; down = pos 0 }

abbrev block_of : ℕ → ℕ → Block
block_of place at = record { unit = place; side = Sell; quantity = pos 100; price = pos at }

abbrev offer_of : ℕ → ℕ → ReserveOffer
offer_of place at = record { unit = place; quantity = pos 50; price = pos at }

abbrev units : List unit.Unit
units = unit_of 1 ∷ unit_of 2 ∷ []

abbrev blocks : List Block
blocks = block_of 0 10 ∷ block_of 1 30 ∷ []

abbrev offers : List ReserveOffer
offers = offer_of 0 2 ∷ offer_of 1 5 ∷ []

abbrev pub needing : ℤ → Parts
needing need = record (bare_parts (bus ∷ []) units blocks) { reserve = record { listed = true; offers = offers; need = need } }

two_rise : (x y : ℕ) → x < y → AllPairs (λ (a b : ℕ). a < b) (x ∷ y ∷ [])
two_rise x y h =
    AllPairs-cons (λ (a b : ℕ). a < b) x (y ∷ []) (All-cons (λ b. x < b) y [] h (All-nil (λ b. x < b))) (λ i j d p q. absurd (Prim.omega (arith, p, q)))

first_room : HasRoom blocks 0 (unit_of 1)
unfolding stair_in
first_room Sell = Prim.omega (arith, ints)
first_room Buy = Prim.omega (arith, ints)

second_room : HasRoom blocks 1 (unit_of 2)
unfolding stair_in
second_room Sell = Prim.omega (arith, ints)
second_room Buy = Prim.omega (arith, ints)

at_place : (place : ℕ) (d : unit.Unit) → place < 2 → HasRoom blocks place (slice_index_or units place d)
at_place zero d h = first_room
at_place (suc zero) d h = second_room
at_place (suc (suc n)) d h = absurd (Prim.omega (arith, h))

is_unit : (row : ℕ) → 0 < row → IsUnit 1 (unit_of row)
is_unit row h = record { row = Prim.omega (arith, h); bus = Prim.omega arith; fixed = Prim.omega arith; up = Prim.omega (arith, ints); down = Prim.omega (arith, ints) }

energy_is_market : IsMarket (bare_parts (bus ∷ []) units blocks)
energy_is_market = plain_market (bus ∷ []) units blocks (record {
  bus_count = Prim.omega arith;
  unit_count = Prim.omega arith;
  block_count = Prim.omega arith;
  buses = All-cons IsBus bus [] (record { load = Prim.omega arith; shunt = Prim.omega arith }) (All-nil IsBus);
  bus_numbers = λ i j d p q. absurd (Prim.omega (arith, p, q));
  units = All-cons (IsUnit 1) (unit_of 1) (unit_of 2 ∷ []) (is_unit 1 (Prim.omega arith)) (All-cons (IsUnit 1) (unit_of 2) [] (is_unit 2 (Prim.omega arith)) (All-nil (IsUnit 1)));
  unit_rows = two_rise 1 2 (Prim.omega arith);
  blocks = All-cons (IsBlock 2) (block_of 0 10) (block_of 1 30 ∷ []) (record { unit = Prim.omega arith; quantity = Prim.omega (arith, ints); price = Prim.omega arith })
      (All-cons (IsBlock 2) (block_of 1 30) [] (record { unit = Prim.omega arith; quantity = Prim.omega (arith, ints); price = Prim.omega arith }) (All-nil (IsBlock 2)));
  room = at_place;
})

is_reserve : (need : ℤ) → pos 0 ≤ℤ need → IsReserve 2 (record { listed = true; offers = offers; need = need })
is_reserve need least = record {
  count = Prim.omega arith;
  each = All-cons (IsReserveOffer 2) (offer_of 0 2) (offer_of 1 5 ∷ []) (record { unit = Prim.omega arith; quantity = Prim.omega (arith, ints); price = Prim.omega arith })
      (All-cons (IsReserveOffer 2) (offer_of 1 5) [] (record { unit = Prim.omega arith; quantity = Prim.omega (arith, ints); price = Prim.omega arith }) (All-nil (IsReserveOffer 2)));
  distinct = distinct_by_rise (0 ∷ 1 ∷ []) (two_rise 0 1 (Prim.omega arith));
  need = least;
  unlisted = λ e. absurd Prim.cc;
}

pub needing_is_market : (need : ℤ) → pos 0 ≤ℤ need → IsMarket (needing need)
needing_is_market need least =
    let energy = energy_is_market in record {
      bus_count = energy.bus_count;
      unit_count = energy.unit_count;
      block_count = energy.block_count;
      line_count = energy.line_count;
      outage_count = energy.outage_count;
      buses = energy.buses;
      bus_numbers = energy.bus_numbers;
      units = energy.units;
      unit_rows = energy.unit_rows;
      blocks = energy.blocks;
      room = energy.room;
      lines = energy.lines;
      line_rows = energy.line_rows;
      outages = energy.outages;
      outages_distinct = energy.outages_distinct;
      shift = energy.shift;
      loss = energy.loss;
      unit_outages = energy.unit_outages;
      reserve = is_reserve need least;
    }
