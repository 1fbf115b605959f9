-- The market of the tests is one.
use Rattle.std.specs.Prelude.{ℕ, ◌<◌, ◌≤◌, ℤ, pos, [], ◌∷◌, Some, None, slice_index_or}
use Rattle.std.proofs.Common.{zero, suc, arith}
use Rattle.std.proofs.lemmas.Int.{ints}
use Rattle.std.proofs.lemmas.List.Elements.{All-cons, All-nil}
use Rattle.market_data.specs.Participants.{IsBus, IsUnit}
use Rattle.market_data.specs.declared.participants.Unit as unit
use Rattle.market_model.proofs.PlainMarkets.{is_no_reserve, no_unit_outages}
use Rattle.market_model.specs.declared.participants.Line.{Line}
use Rattle.market_model.specs.declared.participants.Parts.{Parts}
use Rattle.market_model.specs.declared.participants.Side.TheVariants.{Sell, Buy}
use Rattle.market_model.specs.Lines.{hard_line, IsPenalty}
use Rattle.market_model.specs.Market.{IsMarket, IsBlock, IsLine, HasRoom}
use Rattle.market_model.specs.Stairs.{stair_in}
use Rattle.market_model.proofs.LinePenalties.{hard_is_line, no_cost}
use Rattle.limit_rows.proofs.TestMarkets.{losses, one_is_market, shifts}
use Rattle.clear_tests.specs.Worked.{block_of, blocks, bus_of, participants, unit_of}

abbrev line_free : ℕ → Line
line_free row = hard_line row None None (pos 0)

abbrev line_limited : ℤ → ℤ → Line
line_limited price excess = record (hard_line 2 (Some (pos 40000000000)) (Some (pos 1000000000000)) (pos 0)) { base_price = price; base_excess = excess }

abbrev pub worked : ℤ → ℤ → Parts
worked price excess = record participants {
  lines = line_free 1 ∷ line_limited price excess ∷ line_free 3 ∷ [];
  outages = 1 ∷ [];
  shift = shifts;
  loss = losses;
}

room_first : HasRoom blocks 0 (unit_of 1 0)
unfolding stair_in
room_first Sell = Prim.omega (arith, ints)
room_first Buy = Prim.omega (arith, ints)

room_second : HasRoom blocks 1 (unit_of 2 1)
unfolding stair_in
room_second Sell = Prim.omega (arith, ints)
room_second Buy = Prim.omega (arith, ints)

room_at : (place : ℕ) (d : unit.Unit) → place < 2 → HasRoom blocks place (slice_index_or (unit_of 1 0 ∷ unit_of 2 1 ∷ []) place d)
room_at zero d h = room_first
room_at (suc zero) d h = room_second
room_at (suc (suc n)) d h = absurd (Prim.omega (arith, h))

pub worked_is_market : (price excess : ℤ) → IsPenalty price excess → IsMarket (worked price excess)
worked_is_market price excess penalty = record {
  bus_count = Prim.omega arith;
  unit_count = Prim.omega arith;
  block_count = Prim.omega arith;
  line_count = Prim.omega arith;
  outage_count = Prim.omega arith;
  buses = All-cons IsBus (bus_of 1 0 0) (bus_of 2 0 0 ∷ bus_of 3 50000000000 10000000000 ∷ []) (record { load = Prim.omega (arith, ints); shunt = Prim.omega (arith, ints) })
      (All-cons IsBus (bus_of 2 0 0) (bus_of 3 50000000000 10000000000 ∷ []) (record { load = Prim.omega (arith, ints); shunt = Prim.omega (arith, ints) }) (All-cons IsBus (bus_of 3 50000000000 10000000000) [] (record { load = Prim.omega (arith, ints); shunt = Prim.omega (arith, ints) }) (All-nil IsBus)));
  bus_numbers = one_is_market.bus_numbers;
  units = All-cons (IsUnit 3) (unit_of 1 0) (unit_of 2 1 ∷ []) (unit_fits 1 0 (Prim.omega arith) (Prim.omega arith)) (All-cons (IsUnit 3) (unit_of 2 1) [] (unit_fits 2 1 (Prim.omega arith) (Prim.omega arith)) (All-nil (IsUnit 3)));
  unit_rows = rows_rise;
  blocks = All-cons (IsBlock 2) (block_of 0 10000000) (block_of 1 30000000 ∷ []) (record { unit = Prim.omega arith; quantity = Prim.omega (arith, ints); price = Prim.omega (arith, ints) })
      (All-cons (IsBlock 2) (block_of 1 30000000) [] (record { unit = Prim.omega arith; quantity = Prim.omega (arith, ints); price = Prim.omega (arith, ints) }) (All-nil (IsBlock 2)));
  room = room_at;
  lines = All-cons IsLine (line_free 1) (line_limited price excess ∷ line_free 3 ∷ []) (free 1 (Prim.omega arith))
      (All-cons IsLine (line_limited price excess) (line_free 3 ∷ []) limited
      (All-cons IsLine (line_free 3) [] (free 3 (Prim.omega arith)) (All-nil IsLine)));
  line_rows = one_is_market.line_rows;
  outages = one_is_market.outages;
  outages_distinct = one_is_market.outages_distinct;
  shift = one_is_market.shift;
  loss = one_is_market.loss;
  unit_outages = no_unit_outages 2;
  reserve = is_no_reserve 2;
}
  where
    unit_fits : (row bus : ℕ) → 1 ≤ row → bus < 3 → IsUnit 3 (unit_of row bus)
    unit_fits row bus p q = record { row = p; bus = q; fixed = Prim.omega (arith, ints); up = Prim.omega (arith, ints); down = Prim.omega (arith, ints) }

    limited : IsLine (line_limited price excess)
    limited = record { row = Prim.omega arith; base = Prim.omega (arith, ints); post = Prim.omega (arith, ints); base_penalty = penalty; post_penalty = no_cost; offset = Prim.omega (arith, ints) }

    free : (row : ℕ) → 1 ≤ row → IsLine (line_free row)
    free row p = hard_is_line row None None (pos 0) p tt tt (Prim.omega (arith, ints))

    rows_rise : (i j d : ℕ) → i < j → j < 2 → slice_index_or (1 ∷ 2 ∷ []) i d < slice_index_or (1 ∷ 2 ∷ []) j d
    rows_rise zero zero d p q = absurd (Prim.omega (arith, p))
    rows_rise zero (suc zero) d p q = Prim.omega arith
    rows_rise zero (suc (suc j)) d p q = absurd (Prim.omega (arith, q))
    rows_rise (suc i) zero d p q = absurd (Prim.omega (arith, p))
    rows_rise (suc i) (suc zero) d p q = absurd (Prim.omega (arith, p))
    rows_rise (suc i) (suc (suc j)) d p q = absurd (Prim.omega (arith, q))
