-- The worked cases with limits and with reserve as whole answers, with their numbers written out: each is right for its market, and the duals
-- of a limit or a need that no dispatch meets show it.
use Rattle.std.specs.Prelude.{ℕ, ◌*◌, ◌^◌, pos, neg_ℤ, true, List, [], ◌∷◌, Some, None, refl}
use Rattle.fraction_theory.specs.Divisors.{gcd, gcd_in}
use Rattle.fraction_theory.specs.Fraction.{Fraction, whole, over, ◌+ℚ◌, ◌*ℚ◌, neg_ℚ}
use Rattle.fraction_theory.specs.Signs.{sign_of, abs_ℚ}
use Rattle.market_model.specs.declared.answered.Answer.{Answer}
use Rattle.market_model.specs.declared.answered.Farkas.{Farkas}
use Rattle.market_model.specs.declared.answered.Load.{Load}
use Rattle.market_model.specs.declared.answered.Price.{Price}
use Rattle.market_model.specs.declared.answered.Rent.{Rent}
use Rattle.market_model.specs.declared.answered.ReservePay.{ReservePay}
use Rattle.market_model.specs.declared.answered.UnitPay.{UnitPay}
use Rattle.market_model.specs.declared.participants.Block.{Block}
use Rattle.market_model.specs.declared.participants.Parts.{Parts}
use Rattle.market_model.specs.declared.participants.ReserveOffer.{ReserveOffer}
use Rattle.market_model.specs.declared.participants.Side.TheVariants.{Sell}
use Rattle.market_model.specs.Dispatch.{injection, balance, output, demand}
use Rattle.market_model.specs.Infeasibility.{IsFarkas, farkas_bound}
use Rattle.market_model.specs.LimitRows.{rows, line_flow, row_offset, row_factor, taker_factor, pickup_factor}
use Rattle.market_model.specs.Optimality.{congestion, welfare_for, congestion_by, price_by, unit_price}
use Rattle.market_model.specs.Reserves.{reserve, room_used}
use Rattle.market_model.specs.RightAnswers.{IsRight}
use Rattle.market_model.specs.Settlement.{paid, pays, rent, surplus}
use Rattle.market_model.specs.Valued.{energy_duals}
use Rattle.market_model.proofs.LimitCases.{mw, price, money, blocks, buses, line, shifts, losses, up_alone, down_alone, shunted, turned, after_outage, bought, shifted, narrow, narrow_duals}
use Rattle.market_model.specs.Market.{bare_parts}
use Rattle.market_system.proofs.AnswerTests.{right_by, infeasible_by}

-- whole MW, prices and money, and parts of these
abbrev mws : ℕ → Fraction
mws n = whole (mw n)

abbrev prices : ℕ → Fraction
prices n = whole (price n)

-- hundredths of a price
abbrev price_parts : ℕ → Fraction
price_parts n = whole (pos (n * 10 ^ 4))

abbrev sums : ℕ → Fraction
sums n = whole (money n)

abbrev at_bus : Fraction → Fraction → Fraction → Price Fraction
at_bus energy congestion total = record { energy = energy; congestion = congestion; total = total }

abbrev unit : Fraction → Fraction → UnitPay Fraction
unit mw paid = record { mw = mw; paid = paid }

abbrev load : Fraction → Fraction → Load Fraction
load mw pays = record { mw = mw; pays = pays }

-- the one rent, of branch 2 in the base or after an outage, with by how much the flow exceeds the limit
abbrev rent_over : ℕ → Fraction → ℕ → Fraction → List (Rent Fraction)
rent_over outage flow over rent = record { row = record { branch = 2; outage = outage; unit = 0 }; flow = flow; over = mws over; rent = rent } ∷ []

abbrev rent_of_second : ℕ → Fraction → Fraction → List (Rent Fraction)
rent_of_second outage flow rent = rent_over outage flow 0 rent

-- ---- limit 40
abbrev limit_40 : Answer Fraction
limit_40 = record {
  dispatch = mws 50 ∷ mws 10 ∷ [];
  reserve = [];
  duals = up_alone 10 0 40;
  prices = at_bus (prices 10) (prices 0) (prices 10) ∷ at_bus (prices 10) (prices 20) (prices 30) ∷ at_bus (prices 10) (prices 30) (prices 40) ∷ [];
  welfare = whole (neg_ℤ (money 800));
  money = record {
    units = unit (mws 50) (sums 500) ∷ unit (mws 10) (sums 300) ∷ [];
    own = [];
    loads = load (mws 0) (sums 0) ∷ load (mws 0) (sums 0) ∷ load (mws 60) (sums 2400) ∷ [];
    rents = rent_of_second 0 (mws 40) (sums 1600);
    surplus = sums 1600;
    reserve = [];
  };
}

limit_40-right : IsRight shunted limit_40
unfolding rows line_flow row_offset row_factor injection balance output demand welfare_for congestion_by price_by unit_price reserve room_used rent surplus paid pays abs_ℚ sign_of ◌+ℚ◌ ◌*ℚ◌ neg_ℚ over whole gcd gcd_in
limit_40-right = right_by shunted limit_40 refl refl refl refl

-- ---- limits on branch 2 that give way at 25
abbrev giving_way : Parts → ℕ → ℕ → Parts
giving_way m limit excess = record m { lines = line 1 None None 0 ∷ record (line 2 (Some (mw limit)) None 0) { base_price = price 25; base_excess = mw excess } ∷ line 3 None None 0 ∷ [] }

-- limit 40, by up to 10 MW: 5 of these are taken, and the price is paid for the flow

abbrev limit_exceeded : Answer Fraction
limit_exceeded = record {
  dispatch = mws 60 ∷ mws 0 ∷ [];
  reserve = [];
  duals = up_alone 10 0 25;
  prices = at_bus (prices 10) (prices 0) (prices 10) ∷ at_bus (prices 10) (price_parts 1250) (price_parts 2250) ∷ at_bus (prices 10) (price_parts 1875) (price_parts 2875) ∷ [];
  welfare = whole (neg_ℤ (money 725));
  money = record {
    units = unit (mws 60) (sums 600) ∷ unit (mws 0) (sums 0) ∷ [];
    own = [];
    loads = load (mws 0) (sums 0) ∷ load (mws 0) (sums 0) ∷ load (mws 60) (sums 1725) ∷ [];
    rents = rent_over 0 (mws 45) 5 (sums 1125);
    surplus = sums 1125;
    reserve = [];
  };
}

limit_exceeded-right : IsRight (giving_way shunted 40 10) limit_exceeded
unfolding rows line_flow row_offset row_factor injection balance output demand welfare_for congestion_by price_by unit_price reserve room_used rent surplus paid pays abs_ℚ sign_of ◌+ℚ◌ ◌*ℚ◌ neg_ℚ over whole gcd gcd_in
limit_exceeded-right = right_by (giving_way shunted 40 10) limit_exceeded refl refl refl refl

-- by up to 3 MW: these are used up, at a price above the penalty
abbrev excess_used_up : Answer Fraction
excess_used_up = record {
  dispatch = mws 56 ∷ mws 4 ∷ [];
  reserve = [];
  duals = up_alone 10 0 40;
  prices = at_bus (prices 10) (prices 0) (prices 10) ∷ at_bus (prices 10) (prices 20) (prices 30) ∷ at_bus (prices 10) (prices 30) (prices 40) ∷ [];
  welfare = whole (neg_ℤ (money 755));
  money = record {
    units = unit (mws 56) (sums 560) ∷ unit (mws 4) (sums 120) ∷ [];
    own = [];
    loads = load (mws 0) (sums 0) ∷ load (mws 0) (sums 0) ∷ load (mws 60) (sums 2400) ∷ [];
    rents = rent_over 0 (mws 43) 3 (sums 1720);
    surplus = sums 1720;
    reserve = [];
  };
}

excess_used_up-right : IsRight (giving_way shunted 40 3) excess_used_up
unfolding rows line_flow row_offset row_factor injection balance output demand welfare_for congestion_by price_by unit_price reserve room_used rent surplus paid pays abs_ℚ sign_of ◌+ℚ◌ ◌*ℚ◌ neg_ℚ over whole gcd gcd_in
excess_used_up-right = right_by (giving_way shunted 40 3) excess_used_up refl refl refl refl

-- ---- a lower side
abbrev lower_side : Answer Fraction
lower_side = record {
  dispatch = mws 40 ∷ mws 20 ∷ [];
  reserve = [];
  duals = down_alone 70 80;
  prices = at_bus (prices 70) (prices 0) (prices 70) ∷ at_bus (prices 70) (whole (neg_ℤ (price 40))) (prices 30) ∷ at_bus (prices 70) (whole (neg_ℤ (price 60))) (prices 10) ∷ [];
  welfare = whole (neg_ℤ (money 1000));
  money = record {
    units = unit (mws 40) (sums 400) ∷ unit (mws 20) (sums 600) ∷ [];
    own = [];
    loads = load (mws 60) (sums 4200) ∷ load (mws 0) (sums 0) ∷ load (mws 0) (sums 0) ∷ [];
    rents = rent_of_second 0 (whole (neg_ℤ (mw 40))) (sums 3200);
    surplus = sums 3200;
    reserve = [];
  };
}

lower_side-right : IsRight turned lower_side
unfolding rows line_flow row_offset row_factor injection balance output demand welfare_for congestion_by price_by unit_price reserve room_used rent surplus paid pays abs_ℚ sign_of ◌+ℚ◌ ◌*ℚ◌ neg_ℚ over whole gcd gcd_in
lower_side-right = right_by turned lower_side refl refl refl refl

-- ---- after an outage
abbrev after_loss : Answer Fraction
after_loss = record {
  dispatch = mws 45 ∷ mws 15 ∷ [];
  reserve = [];
  duals = up_alone 10 1 20;
  prices = at_bus (prices 10) (prices 0) (prices 10) ∷ at_bus (prices 10) (prices 20) (prices 30) ∷ at_bus (prices 10) (prices 20) (prices 30) ∷ [];
  welfare = whole (neg_ℤ (money 900));
  money = record {
    units = unit (mws 45) (sums 450) ∷ unit (mws 15) (sums 450) ∷ [];
    own = [];
    loads = load (mws 0) (sums 0) ∷ load (mws 0) (sums 0) ∷ load (mws 60) (sums 1800) ∷ [];
    rents = rent_of_second 1 (mws 45) (sums 900);
    surplus = sums 900;
    reserve = [];
  };
}

after_loss-right : IsRight after_outage after_loss
unfolding rows line_flow row_offset row_factor injection balance output demand welfare_for congestion_by price_by unit_price reserve room_used rent surplus paid pays abs_ℚ sign_of ◌+ℚ◌ ◌*ℚ◌ neg_ℚ over whole gcd gcd_in
after_loss-right = right_by after_outage after_loss refl refl refl refl

-- ---- a buy behind a limit
abbrev part_bought : Answer Fraction
part_bought = record {
  dispatch = mws 60 ∷ mws 0 ∷ mws 10 ∷ [];
  reserve = [];
  duals = up_alone 10 0 40;
  prices = at_bus (prices 10) (prices 0) (prices 10) ∷ at_bus (prices 10) (prices 20) (prices 30) ∷ at_bus (prices 10) (prices 30) (prices 40) ∷ [];
  welfare = whole (neg_ℤ (money 200));
  money = record {
    units = unit (mws 60) (sums 600) ∷ unit (mws 0) (sums 0) ∷ unit (whole (neg_ℤ (mw 10))) (whole (neg_ℤ (money 400))) ∷ [];
    own = [];
    loads = load (mws 0) (sums 0) ∷ load (mws 0) (sums 0) ∷ load (mws 50) (sums 2000) ∷ [];
    rents = rent_of_second 0 (mws 45) (sums 1800);
    surplus = sums 1800;
    reserve = [];
  };
}

part_bought-right : IsRight bought part_bought
unfolding rows line_flow row_offset row_factor injection balance output demand welfare_for congestion_by price_by unit_price reserve room_used rent surplus paid pays abs_ℚ sign_of ◌+ℚ◌ ◌*ℚ◌ neg_ℚ over whole gcd gcd_in
part_bought-right = right_by bought part_bought refl refl refl refl

-- ---- an offset beyond the limit
abbrev beyond_limit : Answer Fraction
beyond_limit = record {
  dispatch = mws 30 ∷ mws 10 ∷ [];
  reserve = [];
  duals = up_alone 10 0 40;
  prices = at_bus (prices 10) (prices 0) (prices 10) ∷ at_bus (prices 10) (prices 20) (prices 30) ∷ at_bus (prices 10) (prices 30) (prices 40) ∷ [];
  welfare = whole (neg_ℤ (money 600));
  money = record {
    units = unit (mws 30) (sums 300) ∷ unit (mws 10) (sums 300) ∷ [];
    own = [];
    loads = load (mws 40) (sums 400) ∷ load (mws 0) (sums 0) ∷ load (mws 0) (sums 0) ∷ [];
    rents = rent_of_second 0 (mws 5) (whole (neg_ℤ (money 200)));
    surplus = whole (neg_ℤ (money 200));
    reserve = [];
  };
}

beyond_limit-right : IsRight shifted beyond_limit
unfolding rows line_flow row_offset row_factor injection balance output demand welfare_for congestion_by price_by unit_price reserve room_used rent surplus paid pays abs_ℚ sign_of ◌+ℚ◌ ◌*ℚ◌ neg_ℚ over whole gcd gcd_in
beyond_limit-right = right_by shifted beyond_limit refl refl refl refl

-- ---- thirds: a limit of 40 MW on branch 2, with both units where they are but the second, which is at bus 3, as the load of 60 MW is
abbrev beside_load : Parts
beside_load = record (bare_parts
    (buses 0 60 0)
    (record { row = 1; bus = 0; fixed = pos 0; up = mw 100; down = pos 0 } ∷ record { row = 2; bus = 2; fixed = pos 0; up = mw 100; down = pos 0 } ∷ [])
    blocks) {
      lines = line 1 None None 0 ∷ line 2 (Some (mw 40)) None 0 ∷ line 3 None None 0 ∷ [];
      shift = shifts;
      loss = losses;
    }

-- so many thirds of a MW, of a price and of money
abbrev mw_thirds : ℕ → Fraction
mw_thirds n = over (mw n) 3

abbrev price_thirds : ℕ → Fraction
price_thirds n = over (price n) 3

abbrev money_thirds : ℕ → Fraction
money_thirds n = over (money n) 3

abbrev thirds : Answer Fraction
thirds = record {
  dispatch = mw_thirds 160 ∷ mw_thirds 20 ∷ [];
  reserve = [];
  duals = energy_duals (prices 10) (record { row = record { branch = 2; outage = 0; unit = 0 }; up = price_thirds 80; down = prices 0 } ∷ []);
  prices = at_bus (prices 10) (prices 0) (prices 10) ∷ at_bus (prices 10) (price_thirds 40) (price_thirds 70) ∷ at_bus (prices 10) (prices 20) (prices 30) ∷ [];
  welfare = over (neg_ℤ (money 2200)) 3;
  money = record {
    units = unit (mw_thirds 160) (money_thirds 1600) ∷ unit (mw_thirds 20) (sums 200) ∷ [];
    own = [];
    loads = load (mws 0) (sums 0) ∷ load (mws 0) (sums 0) ∷ load (mws 60) (sums 1800) ∷ [];
    rents = rent_of_second 0 (mws 40) (money_thirds 3200);
    surplus = money_thirds 3200;
    reserve = [];
  };
}

thirds-right : IsRight beside_load thirds
unfolding rows line_flow row_offset row_factor injection balance output demand welfare_for congestion_by price_by unit_price reserve room_used rent surplus paid pays abs_ℚ sign_of ◌+ℚ◌ ◌*ℚ◌ neg_ℚ over whole gcd gcd_in
thirds-right = right_by beside_load thirds refl refl refl refl

-- ---- the loss of a unit: the first, whose output the second picks up, with a limit of 30 MW on branch 3 then; a third at the load of 60 MW
-- sells at 40. A MW of the third in place of one of the first takes 0.75 MW off that flow.
abbrev sells : ℕ → ℕ → Block
sells place at = record { unit = place; side = Sell; quantity = mw 100; price = price at }

abbrev one_lost : Parts
one_lost = record (bare_parts
    (buses 0 60 0)
    (record { row = 1; bus = 0; fixed = pos 0; up = mw 100; down = pos 0 } ∷ record { row = 2; bus = 1; fixed = pos 0; up = mw 100; down = pos 0 } ∷ record { row = 3; bus = 2; fixed = pos 0; up = mw 100; down = pos 0 } ∷ [])
    (sells 0 10 ∷ sells 1 30 ∷ sells 2 40 ∷ [])) {
      lines = line 1 None None 0 ∷ line 2 None None 0 ∷ line 3 None (Some (mw 30)) 0 ∷ [];
      shift = shifts;
      loss = losses;
      unit_outages = 0 ∷ [];
      pickups = record { outage = 0; taker = 1; share = pos (10 ^ 6) } ∷ [];
    }

-- the first is paid 10, where its bus has a price of 30
abbrev after_unit : Answer Fraction
after_unit = record {
  dispatch = mws 40 ∷ mws 0 ∷ mws 20 ∷ [];
  reserve = [];
  duals = energy_duals (prices 30) (record { row = record { branch = 3; outage = 0; unit = 1 }; up = prices 40; down = prices 0 } ∷ []);
  prices = at_bus (prices 30) (prices 0) (prices 30) ∷ at_bus (prices 30) (whole (neg_ℤ (price 20))) (prices 10) ∷ at_bus (prices 30) (prices 10) (prices 40) ∷ [];
  welfare = whole (neg_ℤ (money 1200));
  money = record {
    units = unit (mws 40) (sums 400) ∷ unit (mws 0) (sums 0) ∷ unit (mws 20) (sums 800) ∷ [];
    own = prices 10 ∷ [];
    loads = load (mws 0) (sums 0) ∷ load (mws 0) (sums 0) ∷ load (mws 60) (sums 2400) ∷ [];
    rents = record { row = record { branch = 3; outage = 0; unit = 1 }; flow = mws 30; over = mws 0; rent = sums 1200 } ∷ [];
    surplus = sums 1200;
    reserve = [];
  };
}

after_unit-right : IsRight one_lost after_unit
unfolding rows line_flow row_offset row_factor taker_factor pickup_factor injection balance output demand welfare_for congestion_by price_by unit_price reserve room_used rent surplus paid pays abs_ℚ sign_of ◌+ℚ◌ ◌*ℚ◌ neg_ℚ over whole gcd gcd_in
after_unit-right = right_by one_lost after_unit refl refl refl refl

-- ---- limit 10: a bound of -10 MW
abbrev limit_10 : Farkas Fraction
limit_10 = record { duals = narrow_duals; bound = whole (neg_ℤ (mw 10)) }

limit_10-infeasible : IsFarkas narrow limit_10
unfolding rows line_flow row_offset row_factor injection balance output demand welfare_for congestion_by price_by unit_price reserve room_used rent surplus farkas_bound abs_ℚ sign_of ◌+ℚ◌ ◌*ℚ◌ neg_ℚ over whole gcd gcd_in
limit_10-infeasible = infeasible_by narrow limit_10 refl refl

-- giving way by up to 4 MW: the bound is 8 MW higher
abbrev limit_14 : Farkas Fraction
limit_14 = record { duals = narrow_duals; bound = whole (neg_ℤ (mw 2)) }

limit_14-infeasible : IsFarkas (giving_way narrow 10 4) limit_14
unfolding rows line_flow row_offset row_factor injection balance output demand welfare_for congestion_by price_by unit_price reserve room_used rent surplus farkas_bound abs_ℚ sign_of ◌+ℚ◌ ◌*ℚ◌ neg_ℚ over whole gcd gcd_in
limit_14-infeasible = infeasible_by (giving_way narrow 10 4) limit_14 refl refl

-- ---- spinning reserve: a load of 60 MW with no limits. Two units sell up to 100 MW each, at 10 and at 30, and offer 50 MW of reserve each, at 2
-- and at 5, of which so much is needed.
abbrev reserve_offer : ℕ → ℕ → ReserveOffer
reserve_offer place at = record { unit = place; quantity = mw 50; price = price at }

abbrev needing : ℕ → Parts
needing need = record (bare_parts
    (buses 0 60 0)
    (record { row = 1; bus = 0; fixed = pos 0; up = mw 100; down = pos 0 } ∷ record { row = 2; bus = 1; fixed = pos 0; up = mw 100; down = pos 0 } ∷ [])
    blocks) {
      reserve = record { listed = true; offers = reserve_offer 0 2 ∷ reserve_offer 1 5 ∷ []; need = mw need };
    }

abbrev reserve_pay : Fraction → Fraction → ReservePay Fraction
reserve_pay mw paid = record { mw = mw; paid = paid }

-- 60 MW are needed: the first unit has room for 40 of them, at a price of its room of 3, and the second gives the rest
abbrev reserve_60 : Answer Fraction
reserve_60 = record {
  dispatch = mws 60 ∷ mws 0 ∷ [];
  reserve = mws 40 ∷ mws 20 ∷ [];
  duals = record { energy = prices 13; limits = []; reserve = prices 5; rooms = record { unit = 1; price = prices 3 } ∷ [] };
  prices = at_bus (prices 13) (prices 0) (prices 13) ∷ at_bus (prices 13) (prices 0) (prices 13) ∷ at_bus (prices 13) (prices 0) (prices 13) ∷ [];
  welfare = whole (neg_ℤ (money 780));
  money = record {
    units = unit (mws 60) (sums 780) ∷ unit (mws 0) (sums 0) ∷ [];
    own = [];
    loads = load (mws 0) (sums 0) ∷ load (mws 0) (sums 0) ∷ load (mws 60) (sums 780) ∷ [];
    rents = [];
    surplus = sums 0;
    reserve = reserve_pay (mws 40) (sums 200) ∷ reserve_pay (mws 20) (sums 100) ∷ [];
  };
}

reserve_60-right : IsRight (needing 60) reserve_60
unfolding rows line_flow row_offset row_factor injection balance output demand welfare_for congestion_by price_by unit_price reserve room_used rent surplus paid pays abs_ℚ sign_of ◌+ℚ◌ ◌*ℚ◌ neg_ℚ over whole gcd gcd_in
reserve_60-right = right_by (needing 60) reserve_60 refl refl refl refl

-- 110 MW are needed, of which 100 are offered: a bound of -10 MW
abbrev reserve_110 : Farkas Fraction
reserve_110 = record { duals = record { energy = prices 0; limits = []; reserve = whole (pos 1); rooms = [] }; bound = whole (neg_ℤ (mw 10)) }

reserve_110-infeasible : IsFarkas (needing 110) reserve_110
unfolding rows line_flow row_offset row_factor injection balance output demand welfare_for congestion_by price_by unit_price rent surplus farkas_bound abs_ℚ sign_of ◌+ℚ◌ ◌*ℚ◌ neg_ℚ over whole gcd gcd_in
reserve_110-infeasible = infeasible_by (needing 110) reserve_110 refl refl
