-- Small cases of limits, with values worked by hand: the definitions give them.
use Rattle.std.specs.Prelude.{◌≡◌, ℕ, ◌*◌, ◌^◌, ℤ, pos, neg_ℤ, List, [], ◌∷◌, map, Option, Some, None, refl}
use Rattle.fraction_theory.specs.Divisors.{gcd, gcd_in}
use Rattle.fraction_theory.specs.Fraction.{Fraction, whole, over, ◌+ℚ◌, ◌*ℚ◌, neg_ℚ, same_fraction}
use Rattle.fraction_theory.specs.Signs.{sign_of, abs_ℚ}
use Rattle.market_data.specs.declared.participants.Bus.{Bus}
use Rattle.market_data.specs.declared.participants.Unit as unit
use Rattle.market_model.specs.declared.answered.Duals.{Duals}
use Rattle.market_model.specs.declared.participants.Block.{Block}
use Rattle.market_model.specs.declared.participants.Factor.{Factor}
use Rattle.market_model.specs.declared.participants.Line.{Line}
use Rattle.market_model.specs.declared.participants.Parts.{Parts}
use Rattle.market_model.specs.declared.participants.Side.TheVariants.{Sell, Buy}
use Rattle.market_model.specs.Dispatch.{Dispatch, injection, balance, output, demand, dispatch_by}
use Rattle.market_model.specs.declared.limits.Row.{Row}
use Rattle.market_model.specs.declared.limits.Cause.TheVariants.{Base, Branch}
use Rattle.market_model.specs.LimitRows.{rows, row_id, line_flow, row_offset, row_factor, flow}
use Rattle.market_model.specs.Optimality.{bus_price, welfare, congestion_by, price_by, welfare_for, unit_price}
use Rattle.market_model.specs.Valued.{energy_duals}
use Rattle.market_model.specs.Infeasibility.{farkas_bound}
use Rattle.market_model.specs.Settlement.{rent, surplus}
use Rattle.market_model.specs.Market.{bare_parts}
use Rattle.market_model.specs.Lines.{hard_line}

-- MW, prices and money
abbrev pub mw : ℕ → ℤ
mw n = pos (n * 10 ^ 9)

abbrev pub price : ℕ → ℤ
price n = pos (n * 10 ^ 6)

abbrev pub money : ℕ → ℤ
money n = pos (n * 10 ^ 15)

-- ---- the three-bus network: branches 1: 1-2, 2: 1-3, 3: 2-3, of which the first has twice the reactance of the others
abbrev pub shifts : List Factor
shifts = record { line = 0; of = 1; value = neg_ℤ (pos 500000000) } ∷ record { line = 1; of = 1; value = neg_ℤ (pos 500000000) } ∷ record { line = 2; of = 1; value = pos 500000000 }
    ∷ record { line = 0; of = 2; value = neg_ℤ (pos 250000000) } ∷ record { line = 1; of = 2; value = neg_ℤ (pos 750000000) } ∷ record { line = 2; of = 2; value = neg_ℤ (pos 250000000) } ∷ []

abbrev pub losses : List Factor
losses = record { line = 1; of = 0; value = pos 1000000000 } ∷ record { line = 2; of = 0; value = neg_ℤ (pos 1000000000) } ∷ record { line = 0; of = 1; value = pos 1000000000 }
    ∷ record { line = 2; of = 1; value = pos 1000000000 } ∷ record { line = 0; of = 2; value = neg_ℤ (pos 1000000000) } ∷ record { line = 1; of = 2; value = pos 1000000000 } ∷ []

-- loads of the first and the third bus, and the shunt of the third
abbrev pub buses : ℕ → ℕ → ℕ → List Bus
buses first third shunt = record { number = 1; pd = mw first; gs = pos 0 } ∷ record { number = 2; pd = pos 0; gs = pos 0 } ∷ record { number = 3; pd = mw third; gs = mw shunt } ∷ []

-- a unit at a bus by place sells 100 MW at 10, and one at bus 2 at 30
abbrev units : ℕ → List unit.Unit
units place = record { row = 1; bus = place; fixed = pos 0; up = mw 100; down = pos 0 } ∷ record { row = 2; bus = 1; fixed = pos 0; up = mw 100; down = pos 0 } ∷ []

abbrev pub blocks : List Block
blocks = record { unit = 0; side = Sell; quantity = mw 100; price = price 10 } ∷ record { unit = 1; side = Sell; quantity = mw 100; price = price 30 } ∷ []

abbrev pub line : ℕ → Option ℤ → Option ℤ → ℕ → Line
line row base post offset = hard_line row base post (mw offset)

-- two numbers of MW, of the two sell blocks
abbrev pub sold : ℕ → ℕ → Dispatch
sold x y = dispatch_by (whole (mw x) ∷ whole (mw y) ∷ [])

-- the second branch in the base, and after the loss of the first
abbrev pub second : Row
second = record { line = 1; cause = Base }

abbrev pub second_after : Row
second_after = record { line = 1; cause = Branch 0 }

abbrev pub up_alone : ℕ → ℕ → ℕ → Duals Fraction
up_alone e outage u = energy_duals (whole (price e)) (record { row = record { branch = 2; outage = outage; unit = 0 }; up = whole (price u); down = whole (pos 0) } ∷ [])

abbrev pub down_alone : ℕ → ℕ → Duals Fraction
down_alone e d = energy_duals (whole (price e)) (record { row = record { branch = 2; outage = 0; unit = 0 }; up = whole (pos 0); down = whole (price d) } ∷ [])

-- ---- a limit of 40 MW on branch 2, with a load of 50 MW and a shunt of 10 MW at bus 3
abbrev pub shunted : Parts
shunted = record (bare_parts (buses 0 50 10) (units 0) blocks) {
  lines = line 1 None None 0 ∷ line 2 (Some (mw 40)) None 0 ∷ line 3 None None 0 ∷ [];
  shift = shifts;
  loss = losses;
}

shunted-flow : flow shunted (sold 50 10) second ≡ whole (mw 40)
unfolding rows line_flow row_offset row_factor injection balance output demand welfare_for congestion_by price_by rent surplus farkas_bound unit_price sign_of abs_ℚ ◌+ℚ◌ ◌*ℚ◌ neg_ℚ over whole gcd gcd_in
shunted-flow = same_fraction (flow shunted (sold 50 10) second) (whole (mw 40)) refl refl

shunted-price_1 : bus_price shunted (up_alone 10 0 40) 0 ≡ whole (price 10)
unfolding rows line_flow row_offset row_factor injection balance output demand welfare_for congestion_by price_by rent surplus farkas_bound unit_price sign_of abs_ℚ ◌+ℚ◌ ◌*ℚ◌ neg_ℚ over whole gcd gcd_in
shunted-price_1 = same_fraction (bus_price shunted (up_alone 10 0 40) 0) (whole (price 10)) refl refl

shunted-price_2 : bus_price shunted (up_alone 10 0 40) 1 ≡ whole (price 30)
unfolding rows line_flow row_offset row_factor injection balance output demand welfare_for congestion_by price_by rent surplus farkas_bound unit_price sign_of abs_ℚ ◌+ℚ◌ ◌*ℚ◌ neg_ℚ over whole gcd gcd_in
shunted-price_2 = same_fraction (bus_price shunted (up_alone 10 0 40) 1) (whole (price 30)) refl refl

shunted-price_3 : bus_price shunted (up_alone 10 0 40) 2 ≡ whole (price 40)
unfolding rows line_flow row_offset row_factor injection balance output demand welfare_for congestion_by price_by rent surplus farkas_bound unit_price sign_of abs_ℚ ◌+ℚ◌ ◌*ℚ◌ neg_ℚ over whole gcd gcd_in
shunted-price_3 = same_fraction (bus_price shunted (up_alone 10 0 40) 2) (whole (price 40)) refl refl

shunted-rent : rent shunted (sold 50 10) (up_alone 10 0 40) second ≡ whole (money 1600)
unfolding rows line_flow row_offset row_factor injection balance output demand welfare_for congestion_by price_by rent surplus farkas_bound unit_price sign_of abs_ℚ ◌+ℚ◌ ◌*ℚ◌ neg_ℚ over whole gcd gcd_in
shunted-rent = same_fraction (rent shunted (sold 50 10) (up_alone 10 0 40) second) (whole (money 1600)) refl refl

shunted-surplus : surplus shunted (sold 50 10) (up_alone 10 0 40) ≡ whole (money 1600)
unfolding rows line_flow row_offset row_factor injection balance output demand welfare_for congestion_by price_by rent surplus farkas_bound unit_price sign_of abs_ℚ ◌+ℚ◌ ◌*ℚ◌ neg_ℚ over whole gcd gcd_in
shunted-surplus = same_fraction (surplus shunted (sold 50 10) (up_alone 10 0 40)) (whole (money 1600)) refl refl

-- ---- the load at bus 1 and the cheap unit at bus 3: the flow stands at the lower side of the limit
abbrev pub turned : Parts
turned = record (bare_parts (buses 60 0 0) (units 2) blocks) {
  lines = line 1 None None 0 ∷ line 2 (Some (mw 40)) None 0 ∷ line 3 None None 0 ∷ [];
  shift = shifts;
  loss = losses;
}

turned-flow : flow turned (sold 40 20) second ≡ whole (neg_ℤ (mw 40))
unfolding rows line_flow row_offset row_factor injection balance output demand welfare_for congestion_by price_by rent surplus farkas_bound unit_price sign_of abs_ℚ ◌+ℚ◌ ◌*ℚ◌ neg_ℚ over whole gcd gcd_in
turned-flow = same_fraction (flow turned (sold 40 20) second) (whole (neg_ℤ (mw 40))) refl refl

turned-price_1 : bus_price turned (down_alone 70 80) 0 ≡ whole (price 70)
unfolding rows line_flow row_offset row_factor injection balance output demand welfare_for congestion_by price_by rent surplus farkas_bound unit_price sign_of abs_ℚ ◌+ℚ◌ ◌*ℚ◌ neg_ℚ over whole gcd gcd_in
turned-price_1 = same_fraction (bus_price turned (down_alone 70 80) 0) (whole (price 70)) refl refl

turned-price_2 : bus_price turned (down_alone 70 80) 1 ≡ whole (price 30)
unfolding rows line_flow row_offset row_factor injection balance output demand welfare_for congestion_by price_by rent surplus farkas_bound unit_price sign_of abs_ℚ ◌+ℚ◌ ◌*ℚ◌ neg_ℚ over whole gcd gcd_in
turned-price_2 = same_fraction (bus_price turned (down_alone 70 80) 1) (whole (price 30)) refl refl

turned-price_3 : bus_price turned (down_alone 70 80) 2 ≡ whole (price 10)
unfolding rows line_flow row_offset row_factor injection balance output demand welfare_for congestion_by price_by rent surplus farkas_bound unit_price sign_of abs_ℚ ◌+ℚ◌ ◌*ℚ◌ neg_ℚ over whole gcd gcd_in
turned-price_3 = same_fraction (bus_price turned (down_alone 70 80) 2) (whole (price 10)) refl refl

turned-rent : rent turned (sold 40 20) (down_alone 70 80) second ≡ whole (money 3200)
unfolding rows line_flow row_offset row_factor injection balance output demand welfare_for congestion_by price_by rent surplus farkas_bound unit_price sign_of abs_ℚ ◌+ℚ◌ ◌*ℚ◌ neg_ℚ over whole gcd gcd_in
turned-rent = same_fraction (rent turned (sold 40 20) (down_alone 70 80) second) (whole (money 3200)) refl refl

turned-surplus : surplus turned (sold 40 20) (down_alone 70 80) ≡ whole (money 3200)
unfolding rows line_flow row_offset row_factor injection balance output demand welfare_for congestion_by price_by rent surplus farkas_bound unit_price sign_of abs_ℚ ◌+ℚ◌ ◌*ℚ◌ neg_ℚ over whole gcd gcd_in
turned-surplus = same_fraction (surplus turned (sold 40 20) (down_alone 70 80)) (whole (money 3200)) refl refl

-- ---- outages of branches 3 and 1, in this order; branch 1 has no base limit, and an offset of 4 MW
abbrev listed : Parts
listed = record (bare_parts (buses 0 60 0) (units 0) blocks) {
  lines = line 1 None (Some (mw 50)) 4 ∷ line 2 (Some (mw 40)) (Some (mw 45)) 0 ∷ line 3 None None 0 ∷ [];
  outages = 3 ∷ 1 ∷ [];
  shift = shifts;
  loss = losses;
}

-- no row of branch 1 in the base, nor after its own outage
listed-rows : map (row_id listed) (rows listed) ≡ record { branch = 2; outage = 0; unit = 0 } ∷ record { branch = 1; outage = 3; unit = 0 } ∷ record { branch = 2; outage = 3; unit = 0 } ∷ record { branch = 2; outage = 1; unit = 0 } ∷ []
unfolding rows
listed-rows = refl

listed-offset : row_offset listed second_after ≡ whole (mw 4)
unfolding rows line_flow row_offset row_factor injection balance output demand welfare_for congestion_by price_by rent surplus farkas_bound unit_price sign_of abs_ℚ ◌+ℚ◌ ◌*ℚ◌ neg_ℚ over whole gcd gcd_in
listed-offset = same_fraction (row_offset listed second_after) (whole (mw 4)) refl refl

listed-factor_1 : row_factor listed second_after 0 ≡ whole (pos 0)
unfolding rows line_flow row_offset row_factor injection balance output demand welfare_for congestion_by price_by rent surplus farkas_bound unit_price sign_of abs_ℚ ◌+ℚ◌ ◌*ℚ◌ neg_ℚ over whole gcd gcd_in
listed-factor_1 = same_fraction (row_factor listed second_after 0) (whole (pos 0)) refl refl

listed-factor_2 : row_factor listed second_after 1 ≡ whole (neg_ℤ (pos 1))
unfolding rows line_flow row_offset row_factor injection balance output demand welfare_for congestion_by price_by rent surplus farkas_bound unit_price sign_of abs_ℚ ◌+ℚ◌ ◌*ℚ◌ neg_ℚ over whole gcd gcd_in
listed-factor_2 = same_fraction (row_factor listed second_after 1) (whole (neg_ℤ (pos 1))) refl refl

listed-factor_3 : row_factor listed second_after 2 ≡ whole (neg_ℤ (pos 1))
unfolding rows line_flow row_offset row_factor injection balance output demand welfare_for congestion_by price_by rent surplus farkas_bound unit_price sign_of abs_ℚ ◌+ℚ◌ ◌*ℚ◌ neg_ℚ over whole gcd gcd_in
listed-factor_3 = same_fraction (row_factor listed second_after 2) (whole (neg_ℤ (pos 1))) refl refl

listed-base : flow listed (sold 50 10) second ≡ whole (mw 40)
unfolding rows line_flow row_offset row_factor injection balance output demand welfare_for congestion_by price_by rent surplus farkas_bound unit_price sign_of abs_ℚ ◌+ℚ◌ ◌*ℚ◌ neg_ℚ over whole gcd gcd_in
listed-base = same_fraction (flow listed (sold 50 10) second) (whole (mw 40)) refl refl

listed-after : flow listed (sold 50 10) second_after ≡ whole (mw 54)
unfolding rows line_flow row_offset row_factor injection balance output demand welfare_for congestion_by price_by rent surplus farkas_bound unit_price sign_of abs_ℚ ◌+ℚ◌ ◌*ℚ◌ neg_ℚ over whole gcd gcd_in
listed-after = same_fraction (flow listed (sold 50 10) second_after) (whole (mw 54)) refl refl

-- ---- a limit of 45 MW on branch 2 after the loss of branch 1
abbrev pub after_outage : Parts
after_outage = record (bare_parts (buses 0 60 0) (units 0) blocks) {
  lines = line 1 None None 0 ∷ line 2 (Some (mw 40)) (Some (mw 45)) 0 ∷ line 3 None None 0 ∷ [];
  outages = 1 ∷ [];
  shift = shifts;
  loss = losses;
}

after_outage-flow : flow after_outage (sold 45 15) second_after ≡ whole (mw 45)
unfolding rows line_flow row_offset row_factor injection balance output demand welfare_for congestion_by price_by rent surplus farkas_bound unit_price sign_of abs_ℚ ◌+ℚ◌ ◌*ℚ◌ neg_ℚ over whole gcd gcd_in
after_outage-flow = same_fraction (flow after_outage (sold 45 15) second_after) (whole (mw 45)) refl refl

after_outage-price_1 : bus_price after_outage (up_alone 10 1 20) 0 ≡ whole (price 10)
unfolding rows line_flow row_offset row_factor injection balance output demand welfare_for congestion_by price_by rent surplus farkas_bound unit_price sign_of abs_ℚ ◌+ℚ◌ ◌*ℚ◌ neg_ℚ over whole gcd gcd_in
after_outage-price_1 = same_fraction (bus_price after_outage (up_alone 10 1 20) 0) (whole (price 10)) refl refl

after_outage-price_2 : bus_price after_outage (up_alone 10 1 20) 1 ≡ whole (price 30)
unfolding rows line_flow row_offset row_factor injection balance output demand welfare_for congestion_by price_by rent surplus farkas_bound unit_price sign_of abs_ℚ ◌+ℚ◌ ◌*ℚ◌ neg_ℚ over whole gcd gcd_in
after_outage-price_2 = same_fraction (bus_price after_outage (up_alone 10 1 20) 1) (whole (price 30)) refl refl

after_outage-price_3 : bus_price after_outage (up_alone 10 1 20) 2 ≡ whole (price 30)
unfolding rows line_flow row_offset row_factor injection balance output demand welfare_for congestion_by price_by rent surplus farkas_bound unit_price sign_of abs_ℚ ◌+ℚ◌ ◌*ℚ◌ neg_ℚ over whole gcd gcd_in
after_outage-price_3 = same_fraction (bus_price after_outage (up_alone 10 1 20) 2) (whole (price 30)) refl refl

after_outage-rent : rent after_outage (sold 45 15) (up_alone 10 1 20) second_after ≡ whole (money 900)
unfolding rows line_flow row_offset row_factor injection balance output demand welfare_for congestion_by price_by rent surplus farkas_bound unit_price sign_of abs_ℚ ◌+ℚ◌ ◌*ℚ◌ neg_ℚ over whole gcd gcd_in
after_outage-rent = same_fraction (rent after_outage (sold 45 15) (up_alone 10 1 20) second_after) (whole (money 900)) refl refl

after_outage-surplus : surplus after_outage (sold 45 15) (up_alone 10 1 20) ≡ whole (money 900)
unfolding rows line_flow row_offset row_factor injection balance output demand welfare_for congestion_by price_by rent surplus farkas_bound unit_price sign_of abs_ℚ ◌+ℚ◌ ◌*ℚ◌ neg_ℚ over whole gcd gcd_in
after_outage-surplus = same_fraction (surplus after_outage (sold 45 15) (up_alone 10 1 20)) (whole (money 900)) refl refl

-- ---- a unit at bus 3 buys up to 20 MW at 40, behind a limit of 45 MW
abbrev pub bought : Parts
bought = record (bare_parts
    (buses 0 50 0)
    (record { row = 1; bus = 0; fixed = pos 0; up = mw 100; down = pos 0 } ∷ record { row = 2; bus = 1; fixed = pos 0; up = mw 100; down = pos 0 } ∷ record { row = 3; bus = 2; fixed = pos 0; up = pos 0; down = mw 20 } ∷ [])
    (record { unit = 0; side = Sell; quantity = mw 100; price = price 10 } ∷ record { unit = 1; side = Sell; quantity = mw 100; price = price 30 } ∷ record { unit = 2; side = Buy; quantity = mw 20; price = price 40 } ∷ [])) {
      lines = line 1 None None 0 ∷ line 2 (Some (mw 45)) None 0 ∷ line 3 None None 0 ∷ [];
      shift = shifts;
      loss = losses;
    }

abbrev half_bought : Dispatch
half_bought = dispatch_by (whole (mw 60) ∷ whole (mw 0) ∷ whole (mw 10) ∷ [])

bought-flow : flow bought half_bought second ≡ whole (mw 45)
unfolding rows line_flow row_offset row_factor injection balance output demand welfare_for congestion_by price_by rent surplus farkas_bound unit_price sign_of abs_ℚ ◌+ℚ◌ ◌*ℚ◌ neg_ℚ over whole gcd gcd_in
bought-flow = same_fraction (flow bought half_bought second) (whole (mw 45)) refl refl

bought-welfare : welfare bought half_bought ≡ whole (neg_ℤ (money 200))
unfolding rows line_flow row_offset row_factor injection balance output demand welfare_for congestion_by price_by rent surplus farkas_bound unit_price sign_of abs_ℚ ◌+ℚ◌ ◌*ℚ◌ neg_ℚ over whole gcd gcd_in
bought-welfare = same_fraction (welfare bought half_bought) (whole (neg_ℤ (money 200))) refl refl

bought-price : bus_price bought (up_alone 10 0 40) 2 ≡ whole (price 40)
unfolding rows line_flow row_offset row_factor injection balance output demand welfare_for congestion_by price_by rent surplus farkas_bound unit_price sign_of abs_ℚ ◌+ℚ◌ ◌*ℚ◌ neg_ℚ over whole gcd gcd_in
bought-price = same_fraction (bus_price bought (up_alone 10 0 40) 2) (whole (price 40)) refl refl

bought-surplus : surplus bought half_bought (up_alone 10 0 40) ≡ whole (money 1800)
unfolding rows line_flow row_offset row_factor injection balance output demand welfare_for congestion_by price_by rent surplus farkas_bound unit_price sign_of abs_ℚ ◌+ℚ◌ ◌*ℚ◌ neg_ℚ over whole gcd gcd_in
bought-surplus = same_fraction (surplus bought half_bought (up_alone 10 0 40)) (whole (money 1800)) refl refl

-- ---- an offset of 10 MW on branch 2, which has a limit of 5 MW: the surplus is below 0
abbrev pub shifted : Parts
shifted = record (bare_parts (buses 40 0 0) (units 0) blocks) {
  lines = line 1 None None 0 ∷ line 2 (Some (mw 5)) None 10 ∷ line 3 None None 0 ∷ [];
  shift = shifts;
  loss = losses;
}

shifted-flow : flow shifted (sold 30 10) second ≡ whole (mw 5)
unfolding rows line_flow row_offset row_factor injection balance output demand welfare_for congestion_by price_by rent surplus farkas_bound unit_price sign_of abs_ℚ ◌+ℚ◌ ◌*ℚ◌ neg_ℚ over whole gcd gcd_in
shifted-flow = same_fraction (flow shifted (sold 30 10) second) (whole (mw 5)) refl refl

shifted-rent : rent shifted (sold 30 10) (up_alone 10 0 40) second ≡ whole (neg_ℤ (money 200))
unfolding rows line_flow row_offset row_factor injection balance output demand welfare_for congestion_by price_by rent surplus farkas_bound unit_price sign_of abs_ℚ ◌+ℚ◌ ◌*ℚ◌ neg_ℚ over whole gcd gcd_in
shifted-rent = same_fraction (rent shifted (sold 30 10) (up_alone 10 0 40) second) (whole (neg_ℤ (money 200))) refl refl

shifted-surplus : surplus shifted (sold 30 10) (up_alone 10 0 40) ≡ whole (neg_ℤ (money 200))
unfolding rows line_flow row_offset row_factor injection balance output demand welfare_for congestion_by price_by rent surplus farkas_bound unit_price sign_of abs_ℚ ◌+ℚ◌ ◌*ℚ◌ neg_ℚ over whole gcd gcd_in
shifted-surplus = same_fraction (surplus shifted (sold 30 10) (up_alone 10 0 40)) (whole (neg_ℤ (money 200))) refl refl

-- ---- a limit of 10 MW on branch 2: even 60 MW at bus 2 leave 15
abbrev pub narrow : Parts
narrow = record (bare_parts (buses 0 60 0) (units 0) blocks) {
  lines = line 1 None None 0 ∷ line 2 (Some (mw 10)) None 0 ∷ line 3 None None 0 ∷ [];
  shift = shifts;
  loss = losses;
}

abbrev pub narrow_duals : Duals Fraction
narrow_duals = energy_duals (whole (neg_ℤ (pos 1))) (record { row = record { branch = 2; outage = 0; unit = 0 }; up = whole (pos 2); down = whole (pos 0) } ∷ [])

narrow-bound : farkas_bound narrow narrow_duals ≡ whole (neg_ℤ (mw 10))
unfolding rows line_flow row_offset row_factor injection balance output demand welfare_for congestion_by price_by rent surplus farkas_bound unit_price sign_of abs_ℚ ◌+ℚ◌ ◌*ℚ◌ neg_ℚ over whole gcd gcd_in
narrow-bound = same_fraction (farkas_bound narrow narrow_duals) (whole (neg_ℤ (mw 10))) refl refl
