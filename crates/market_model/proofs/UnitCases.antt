-- Small cases of units that are lost, with values worked by hand: the definitions give them.
use Rattle.std.specs.Prelude.{◌≡◌, ℕ, ◌*◌, ◌^◌, ℤ, pos, neg_ℤ, List, [], ◌∷◌, map, None, Some, refl}
use Rattle.fraction_theory.specs.Divisors.{gcd, gcd_in}
use Rattle.fraction_theory.specs.Fraction.{Fraction, whole, over, ◌+ℚ◌, ◌*ℚ◌, neg_ℚ, same_fraction}
use Rattle.fraction_theory.specs.Signs.{abs_ℚ, sign_of}
use Rattle.market_data.specs.declared.participants.Unit as unit
use Rattle.market_model.specs.declared.answered.Duals.{Duals}
use Rattle.market_model.specs.declared.limits.Cause.TheVariants.{UnitOutage}
use Rattle.market_model.specs.declared.limits.Row.{Row}
use Rattle.market_model.specs.declared.participants.Block.{Block}
use Rattle.market_model.specs.declared.participants.Parts.{Parts}
use Rattle.market_model.specs.declared.participants.Side.TheVariants.{Sell}
use Rattle.market_model.specs.Dispatch.{Dispatch, dispatch_by, injection, balance, output, demand}
use Rattle.market_model.specs.LimitRows.{rows, row_id, flow, line_flow, pickup_factor, row_factor, row_offset, taker_factor}
use Rattle.market_model.specs.Market.{bare_parts}
use Rattle.market_model.specs.Optimality.{bus_price, congestion_by, price_by, unit_price, welfare, welfare_for}
use Rattle.market_model.specs.Valued.{energy_duals}
use Rattle.market_model.specs.Settlement.{paid, rent, surplus}
use Rattle.market_model.proofs.LimitCases.{buses, line, losses, money, mw, price, shifts}

-- a unit at a bus by place sells 100 MW at a price
abbrev unit_of : ℕ → ℕ → unit.Unit
unit_of row place = record { row = row; bus = place; fixed = pos 0; up = mw 100; down = pos 0 }

abbrev sold_by : ℕ → ℕ → Block
sold_by place at = record { unit = place; side = Sell; quantity = mw 100; price = price at }

-- The three-bus network with a unit at each bus, that sell at 10, 30 and 40. The first is lost, the two others pick up half of its output
-- each, and branch 3 is to carry 21 MW at most then.
abbrev lost : Parts
lost = record (bare_parts (buses 0 60 0) (unit_of 1 0 ∷ unit_of 2 1 ∷ unit_of 3 2 ∷ []) (sold_by 0 10 ∷ sold_by 1 30 ∷ sold_by 2 40 ∷ [])) {
  lines = line 1 None None 0 ∷ line 2 None None 0 ∷ line 3 None (Some (mw 21)) 0 ∷ [];
  shift = shifts;
  loss = losses;
  unit_outages = 0 ∷ [];
  pickups = record { outage = 0; taker = 1; share = pos 500000 } ∷ record { outage = 0; taker = 2; share = pos 500000 } ∷ [];
}

abbrev third_lost : Row
third_lost = record { line = 2; cause = UnitOutage 0 }

abbrev dispatch : Dispatch
dispatch = dispatch_by (whole (mw 56) ∷ whole (pos 0) ∷ whole (mw 4) ∷ [])

abbrev duals : Duals Fraction
duals = energy_duals (whole (price 20)) (record { row = record { branch = 3; outage = 0; unit = 1 }; up = whole (price 80); down = whole (pos 0) } ∷ [])

lost-rows : map (row_id lost) (rows lost) ≡ record { branch = 3; outage = 0; unit = 1 } ∷ []
unfolding rows
lost-rows = refl

-- half of it comes from bus 2, of which branch 3 has half, and half from bus 3, of which it has a quarter the other way
lost-pickup : pickup_factor lost 2 0 ≡ over (pos 1) 8
unfolding taker_factor pickup_factor ◌+ℚ◌ ◌*ℚ◌ neg_ℚ over whole gcd gcd_in
lost-pickup = same_fraction (pickup_factor lost 2 0) (over (pos 1) 8) refl refl

-- 14 in the base, and 7 that are picked up
lost-flow : flow lost dispatch third_lost ≡ whole (mw 21)
unfolding rows line_flow taker_factor pickup_factor injection output ◌+ℚ◌ ◌*ℚ◌ neg_ℚ over whole gcd gcd_in
lost-flow = same_fraction (flow lost dispatch third_lost) (whole (mw 21)) refl refl

lost-welfare : welfare lost dispatch ≡ whole (neg_ℤ (money 720))
unfolding rows welfare_for ◌+ℚ◌ ◌*ℚ◌ neg_ℚ over whole gcd gcd_in
lost-welfare = same_fraction (welfare lost dispatch) (whole (neg_ℤ (money 720))) refl refl

lost-price_1 : bus_price lost duals 0 ≡ whole (price 20)
unfolding rows row_factor congestion_by price_by ◌+ℚ◌ ◌*ℚ◌ neg_ℚ over whole gcd gcd_in
lost-price_1 = same_fraction (bus_price lost duals 0) (whole (price 20)) refl refl

lost-price_2 : bus_price lost duals 1 ≡ whole (neg_ℤ (price 20))
unfolding rows row_factor congestion_by price_by ◌+ℚ◌ ◌*ℚ◌ neg_ℚ over whole gcd gcd_in
lost-price_2 = same_fraction (bus_price lost duals 1) (whole (neg_ℤ (price 20))) refl refl

lost-price_3 : bus_price lost duals 2 ≡ whole (price 40)
unfolding rows row_factor congestion_by price_by ◌+ℚ◌ ◌*ℚ◌ neg_ℚ over whole gcd gcd_in
lost-price_3 = same_fraction (bus_price lost duals 2) (whole (price 40)) refl refl

-- 20 less 80 of which an eighth counts
lost-own : unit_price lost duals 0 ≡ whole (price 10)
unfolding rows row_factor taker_factor pickup_factor congestion_by price_by unit_price ◌+ℚ◌ ◌*ℚ◌ neg_ℚ over whole gcd gcd_in
lost-own = same_fraction (unit_price lost duals 0) (whole (price 10)) refl refl

-- that of a unit that is not lost is the price of its bus
lost-other : unit_price lost duals 2 ≡ whole (price 40)
unfolding rows row_factor taker_factor pickup_factor congestion_by price_by unit_price ◌+ℚ◌ ◌*ℚ◌ neg_ℚ over whole gcd gcd_in
lost-other = same_fraction (unit_price lost duals 2) (whole (price 40)) refl refl

lost-paid : paid lost dispatch duals 0 ≡ whole (money 560)
unfolding rows row_factor taker_factor pickup_factor congestion_by price_by output paid ◌+ℚ◌ ◌*ℚ◌ neg_ℚ over whole gcd gcd_in
lost-paid = same_fraction (paid lost dispatch duals 0) (whole (money 560)) refl refl

lost-rent : rent lost dispatch duals third_lost ≡ whole (money 1680)
unfolding rows line_flow row_offset taker_factor pickup_factor injection output rent abs_ℚ sign_of ◌+ℚ◌ ◌*ℚ◌ neg_ℚ over whole gcd gcd_in
lost-rent = same_fraction (rent lost dispatch duals third_lost) (whole (money 1680)) refl refl

lost-surplus : surplus lost dispatch duals ≡ whole (money 1680)
unfolding rows row_factor taker_factor pickup_factor congestion_by price_by output demand surplus ◌+ℚ◌ ◌*ℚ◌ neg_ℚ over whole gcd gcd_in
lost-surplus = same_fraction (surplus lost dispatch duals) (whole (money 1680)) refl refl
