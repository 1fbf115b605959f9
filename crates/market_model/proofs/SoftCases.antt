-- Small cases of limits that give way, with values worked by hand: the definitions give them.
use Rattle.std.specs.Prelude.{◌≡◌, ℕ, ◌*◌, ◌^◌, ℤ, pos, neg_ℤ, ◌≤ℤ◌, ◌<ℤ◌, [], ◌∷◌, Some, None, refl}
use Rattle.std.proofs.Common.{arith, sym, ap, ◌∙◌, subst, subst₂}
use Rattle.std.proofs.lemmas.Int.{ints}
use Rattle.fraction_theory.specs.Divisors.{gcd, gcd_in}
use Rattle.fraction_theory.specs.Fraction.{Fraction, whole, over, ◌+ℚ◌, ◌*ℚ◌, neg_ℚ, same_fraction}
use Rattle.fraction_theory.specs.Order.{◌≤ℚ◌, ◌<ℚ◌}
use Rattle.fraction_theory.specs.Signs.{sign_of, abs_ℚ}
use Rattle.fraction_theory.proofs.FieldLaws.{whole-neg, whole-+ℚ}
use Rattle.fraction_theory.proofs.OrderLaws.{whole-≤ℚ}
use Rattle.market_model.specs.declared.answered.Duals.{Duals}
use Rattle.market_model.specs.declared.limits.Row.{Row}
use Rattle.market_model.specs.declared.participants.Line.{Line}
use Rattle.market_model.specs.declared.participants.Parts.{Parts}
use Rattle.market_model.specs.Dispatch.{Dispatch, injection, balance, output, demand}
use Rattle.market_model.specs.Infeasibility.{farkas_bound}
use Rattle.market_model.specs.LimitRows.{rows, line_flow, row_offset, row_factor, flow, limit, most_flow, penalty}
use Rattle.market_model.specs.Optimality.{SideSupported, RowSupported, up_of, down_of, bus_price, welfare, welfare_for, congestion_by, price_by, unit_price}
use Rattle.market_model.specs.Valued.{energy_duals}
use Rattle.market_model.specs.Settlement.{rent, surplus}
use Rattle.market_model.proofs.LimitCases.{mw, price, money, line, narrow, narrow_duals, turned, after_outage, sold, second, second_after, up_alone, down_alone}

-- ---- an upper price that a flow beyond the limit supports, in whole numbers
below_whole : (a b : ℤ) → whole a <ℚ whole b → a <ℤ b
unfolding whole
below_whole a b h = Prim.omega (arith, ints, h.cross)

module _ (m : Parts) (r : Row) (bound most cost : ℤ) (limit_is : limit m r ≡ whole bound) (most_is : most_flow m r ≡ whole most) (cost_is : penalty m r ≡ whole cost) where
  side : (p f : ℤ) → pos 0 ≤ℤ p → (pos 0 <ℤ p → bound ≤ℤ f) → (bound <ℤ f → cost ≤ℤ p) → (cost <ℤ p → f ≡ most) → SideSupported m r (whole p) (whole f)
  side p f sign reached exceeded used_up = record {
    sign = whole-≤ℚ (pos 0) p sign;
    reached = λ a. subst (λ t. t ≤ℚ whole f) (sym limit_is) (whole-≤ℚ bound f (reached (below_whole (pos 0) p a)));
    exceeded = λ a. subst (λ t. t ≤ℚ whole p) (sym cost_is) (whole-≤ℚ cost p (exceeded (below_whole bound f (subst (λ t. t <ℚ whole f) limit_is a))));
    used_up = λ a. ap whole (used_up (below_whole cost p (subst (λ t. t <ℚ whole p) cost_is a))) ∙ sym most_is;
  }

  upper : (x : Dispatch) (d : Duals Fraction) (p f : ℤ) → flow m x r ≡ whole f → up_of m d r ≡ whole p → down_of m d r ≡ whole (pos 0)
      → pos 0 ≤ℤ bound → bound <ℤ f → pos 0 ≤ℤ cost → cost ≤ℤ p → (cost <ℤ p → f ≡ most) → RowSupported m x d r
  upper x d p f flow_is up_is down_is least beyond costs paid used_up = record {
    up = subst₂ (SideSupported m r) (sym up_is) (sym flow_is) (side p f (Prim.omega (arith, ints)) (λ a. Prim.omega (arith, ints)) (λ a. paid) used_up);
    down = subst₂ (SideSupported m r) (sym down_is) (whole-neg f ∙ ap neg_ℚ (sym flow_is))
        (side (pos 0) (neg_ℤ f) (Prim.omega (arith, ints)) (λ a. absurd (Prim.omega (arith, ints))) (λ a. absurd (Prim.omega (arith, ints))) (λ a. absurd (Prim.omega (arith, ints))));
  }

-- ---- the three-bus network with another branch 2
abbrev with_second : Parts → Line → Parts
with_second m second_line = record m { lines = line 1 None None 0 ∷ second_line ∷ line 3 None None 0 ∷ [] }

-- a limit of so many MW in the base that gives way
abbrev base_line : ℕ → ℕ → ℕ → Line
base_line limit penalty excess = record (line 2 (Some (mw limit)) None 0) { base_price = price penalty; base_excess = mw excess }

-- with a load of 60 MW at bus 3
abbrev pub soft : ℕ → ℕ → ℕ → Parts
soft limit penalty excess = with_second narrow (base_line limit penalty excess)

-- ---- at 25, where it costs 40 to keep the limit of 40 MW: the first unit sells all, and of the 10 MW of excess 5 are taken
priced-flow : flow (soft 40 25 10) (sold 60 0) second ≡ whole (mw 45)
unfolding rows line_flow row_offset row_factor injection balance output demand welfare_for congestion_by price_by rent surplus farkas_bound unit_price sign_of abs_ℚ ◌+ℚ◌ ◌*ℚ◌ neg_ℚ over whole gcd gcd_in
priced-flow = same_fraction (flow (soft 40 25 10) (sold 60 0) second) (whole (mw 45)) refl refl

-- the blocks cost 600, and the excess 125
priced-welfare : welfare (soft 40 25 10) (sold 60 0) ≡ whole (neg_ℤ (money 725))
unfolding rows line_flow row_offset row_factor injection balance output demand welfare_for congestion_by price_by rent surplus farkas_bound unit_price sign_of abs_ℚ ◌+ℚ◌ ◌*ℚ◌ neg_ℚ over whole gcd gcd_in
priced-welfare = same_fraction (welfare (soft 40 25 10) (sold 60 0)) (whole (neg_ℤ (money 725))) refl refl

priced-price_1 : bus_price (soft 40 25 10) (up_alone 10 0 25) 0 ≡ whole (price 10)
unfolding rows line_flow row_offset row_factor injection balance output demand welfare_for congestion_by price_by rent surplus farkas_bound unit_price sign_of abs_ℚ ◌+ℚ◌ ◌*ℚ◌ neg_ℚ over whole gcd gcd_in
priced-price_1 = same_fraction (bus_price (soft 40 25 10) (up_alone 10 0 25) 0) (whole (price 10)) refl refl

priced-price_2 : bus_price (soft 40 25 10) (up_alone 10 0 25) 1 ≡ whole (pos (2250 * 10 ^ 4))
unfolding rows line_flow row_offset row_factor injection balance output demand welfare_for congestion_by price_by rent surplus farkas_bound unit_price sign_of abs_ℚ ◌+ℚ◌ ◌*ℚ◌ neg_ℚ over whole gcd gcd_in
priced-price_2 = same_fraction (bus_price (soft 40 25 10) (up_alone 10 0 25) 1) (whole (pos (2250 * 10 ^ 4))) refl refl

priced-price_3 : bus_price (soft 40 25 10) (up_alone 10 0 25) 2 ≡ whole (pos (2875 * 10 ^ 4))
unfolding rows line_flow row_offset row_factor injection balance output demand welfare_for congestion_by price_by rent surplus farkas_bound unit_price sign_of abs_ℚ ◌+ℚ◌ ◌*ℚ◌ neg_ℚ over whole gcd gcd_in
priced-price_3 = same_fraction (bus_price (soft 40 25 10) (up_alone 10 0 25) 2) (whole (pos (2875 * 10 ^ 4))) refl refl

-- 25 for each of 45 MW: the load pays 1725, and the unit is paid 600
priced-rent : rent (soft 40 25 10) (sold 60 0) (up_alone 10 0 25) second ≡ whole (money 1125)
unfolding rows line_flow row_offset row_factor injection balance output demand welfare_for congestion_by price_by rent surplus farkas_bound unit_price sign_of abs_ℚ ◌+ℚ◌ ◌*ℚ◌ neg_ℚ over whole gcd gcd_in
priced-rent = same_fraction (rent (soft 40 25 10) (sold 60 0) (up_alone 10 0 25) second) (whole (money 1125)) refl refl

priced-surplus : surplus (soft 40 25 10) (sold 60 0) (up_alone 10 0 25) ≡ whole (money 1125)
unfolding rows line_flow row_offset row_factor injection balance output demand welfare_for congestion_by price_by rent surplus farkas_bound unit_price sign_of abs_ℚ ◌+ℚ◌ ◌*ℚ◌ neg_ℚ over whole gcd gcd_in
priced-surplus = same_fraction (surplus (soft 40 25 10) (sold 60 0) (up_alone 10 0 25)) (whole (money 1125)) refl refl

priced-supported : RowSupported (soft 40 25 10) (sold 60 0) (up_alone 10 0 25) second
priced-supported =
    upper (soft 40 25 10) second (mw 40) (mw 50) (price 25) refl (sym (whole-+ℚ (mw 40) (mw 10))) refl (sold 60 0) (up_alone 10 0 25) (price 25) (mw 45) priced-flow refl refl
    (Prim.omega (arith, ints)) (Prim.omega (arith, ints)) (Prim.omega (arith, ints)) (Prim.omega (arith, ints)) (λ a. absurd (Prim.omega (arith, ints)))

-- ---- at 25 for 3 MW at most: these are used up, and the price is above the penalty
used_up-flow : flow (soft 40 25 3) (sold 56 4) second ≡ whole (mw 43)
unfolding rows line_flow row_offset row_factor injection balance output demand welfare_for congestion_by price_by rent surplus farkas_bound unit_price sign_of abs_ℚ ◌+ℚ◌ ◌*ℚ◌ neg_ℚ over whole gcd gcd_in
used_up-flow = same_fraction (flow (soft 40 25 3) (sold 56 4) second) (whole (mw 43)) refl refl

-- the blocks cost 560 and 120, and the excess 75
used_up-welfare : welfare (soft 40 25 3) (sold 56 4) ≡ whole (neg_ℤ (money 755))
unfolding rows line_flow row_offset row_factor injection balance output demand welfare_for congestion_by price_by rent surplus farkas_bound unit_price sign_of abs_ℚ ◌+ℚ◌ ◌*ℚ◌ neg_ℚ over whole gcd gcd_in
used_up-welfare = same_fraction (welfare (soft 40 25 3) (sold 56 4)) (whole (neg_ℤ (money 755))) refl refl

used_up-price_1 : bus_price (soft 40 25 3) (up_alone 10 0 40) 0 ≡ whole (price 10)
unfolding rows line_flow row_offset row_factor injection balance output demand welfare_for congestion_by price_by rent surplus farkas_bound unit_price sign_of abs_ℚ ◌+ℚ◌ ◌*ℚ◌ neg_ℚ over whole gcd gcd_in
used_up-price_1 = same_fraction (bus_price (soft 40 25 3) (up_alone 10 0 40) 0) (whole (price 10)) refl refl

used_up-price_2 : bus_price (soft 40 25 3) (up_alone 10 0 40) 1 ≡ whole (price 30)
unfolding rows line_flow row_offset row_factor injection balance output demand welfare_for congestion_by price_by rent surplus farkas_bound unit_price sign_of abs_ℚ ◌+ℚ◌ ◌*ℚ◌ neg_ℚ over whole gcd gcd_in
used_up-price_2 = same_fraction (bus_price (soft 40 25 3) (up_alone 10 0 40) 1) (whole (price 30)) refl refl

used_up-price_3 : bus_price (soft 40 25 3) (up_alone 10 0 40) 2 ≡ whole (price 40)
unfolding rows line_flow row_offset row_factor injection balance output demand welfare_for congestion_by price_by rent surplus farkas_bound unit_price sign_of abs_ℚ ◌+ℚ◌ ◌*ℚ◌ neg_ℚ over whole gcd gcd_in
used_up-price_3 = same_fraction (bus_price (soft 40 25 3) (up_alone 10 0 40) 2) (whole (price 40)) refl refl

-- 40 for each of 43 MW: the load pays 2400, and the units are paid 560 and 120
used_up-rent : rent (soft 40 25 3) (sold 56 4) (up_alone 10 0 40) second ≡ whole (money 1720)
unfolding rows line_flow row_offset row_factor injection balance output demand welfare_for congestion_by price_by rent surplus farkas_bound unit_price sign_of abs_ℚ ◌+ℚ◌ ◌*ℚ◌ neg_ℚ over whole gcd gcd_in
used_up-rent = same_fraction (rent (soft 40 25 3) (sold 56 4) (up_alone 10 0 40) second) (whole (money 1720)) refl refl

used_up-surplus : surplus (soft 40 25 3) (sold 56 4) (up_alone 10 0 40) ≡ whole (money 1720)
unfolding rows line_flow row_offset row_factor injection balance output demand welfare_for congestion_by price_by rent surplus farkas_bound unit_price sign_of abs_ℚ ◌+ℚ◌ ◌*ℚ◌ neg_ℚ over whole gcd gcd_in
used_up-surplus = same_fraction (surplus (soft 40 25 3) (sold 56 4) (up_alone 10 0 40)) (whole (money 1720)) refl refl

used_up-supported : RowSupported (soft 40 25 3) (sold 56 4) (up_alone 10 0 40) second
used_up-supported =
    upper (soft 40 25 3) second (mw 40) (mw 43) (price 25) refl (sym (whole-+ℚ (mw 40) (mw 3))) refl (sold 56 4) (up_alone 10 0 40) (price 40) (mw 43) used_up-flow refl refl
    (Prim.omega (arith, ints)) (Prim.omega (arith, ints)) (Prim.omega (arith, ints)) (Prim.omega (arith, ints)) (λ a. refl)

-- ---- a limit of 10 MW and an excess of 4: even 60 MW at bus 2 leave a flow of 15. Where nothing is accepted the balance is -60, which makes
-- 60 at -1, and the flow is 45, which leaves 14 - 45 MW, or -62 at 2. Both units' prices are at most 0, so no block adds to the -2.
short-bound : farkas_bound (soft 10 25 4) narrow_duals ≡ whole (neg_ℤ (mw 2))
unfolding rows line_flow row_offset row_factor injection balance output demand welfare_for congestion_by price_by rent surplus farkas_bound unit_price sign_of abs_ℚ ◌+ℚ◌ ◌*ℚ◌ neg_ℚ over whole gcd gcd_in
short-bound = same_fraction (farkas_bound (soft 10 25 4) narrow_duals) (whole (neg_ℤ (mw 2))) refl refl

-- ---- the lower side: the load at bus 1 and the cheap unit at bus 3, at 60 where it costs 80 to keep the limit
abbrev soft_turned : Parts
soft_turned = with_second turned (base_line 40 60 10)

turned-flow : flow soft_turned (sold 60 0) second ≡ whole (neg_ℤ (mw 45))
unfolding rows line_flow row_offset row_factor injection balance output demand welfare_for congestion_by price_by rent surplus farkas_bound unit_price sign_of abs_ℚ ◌+ℚ◌ ◌*ℚ◌ neg_ℚ over whole gcd gcd_in
turned-flow = same_fraction (flow soft_turned (sold 60 0) second) (whole (neg_ℤ (mw 45))) refl refl

-- the blocks cost 600, and 5 MW of excess 300
turned-welfare : welfare soft_turned (sold 60 0) ≡ whole (neg_ℤ (money 900))
unfolding rows line_flow row_offset row_factor injection balance output demand welfare_for congestion_by price_by rent surplus farkas_bound unit_price sign_of abs_ℚ ◌+ℚ◌ ◌*ℚ◌ neg_ℚ over whole gcd gcd_in
turned-welfare = same_fraction (welfare soft_turned (sold 60 0)) (whole (neg_ℤ (money 900))) refl refl

-- the load pays 55 for each of 60 MW, and the unit is paid 600
turned-rent : rent soft_turned (sold 60 0) (down_alone 55 60) second ≡ whole (money 2700)
unfolding rows line_flow row_offset row_factor injection balance output demand welfare_for congestion_by price_by rent surplus farkas_bound unit_price sign_of abs_ℚ ◌+ℚ◌ ◌*ℚ◌ neg_ℚ over whole gcd gcd_in
turned-rent = same_fraction (rent soft_turned (sold 60 0) (down_alone 55 60) second) (whole (money 2700)) refl refl

turned-surplus : surplus soft_turned (sold 60 0) (down_alone 55 60) ≡ whole (money 2700)
unfolding rows line_flow row_offset row_factor injection balance output demand welfare_for congestion_by price_by rent surplus farkas_bound unit_price sign_of abs_ℚ ◌+ℚ◌ ◌*ℚ◌ neg_ℚ over whole gcd gcd_in
turned-surplus = same_fraction (surplus soft_turned (sold 60 0) (down_alone 55 60)) (whole (money 2700)) refl refl

-- ---- after an outage: the limit of 45 MW gives way at 5, and that of 40 MW in the base does not
abbrev soft_after : Parts
soft_after = with_second after_outage (record (line 2 (Some (mw 40)) (Some (mw 45)) 0) { post_price = price 5; post_excess = mw 20 })

abbrev both_prices : Duals Fraction
both_prices = energy_duals (whole (price 10)) (record { row = record { branch = 2; outage = 0; unit = 0 }; up = whole (price 30); down = whole (pos 0) } ∷ record { row = record { branch = 2; outage = 1; unit = 0 }; up = whole (price 5); down = whole (pos 0) } ∷ [])

after-flow : flow soft_after (sold 50 10) second_after ≡ whole (mw 50)
unfolding rows line_flow row_offset row_factor injection balance output demand welfare_for congestion_by price_by rent surplus farkas_bound unit_price sign_of abs_ℚ ◌+ℚ◌ ◌*ℚ◌ neg_ℚ over whole gcd gcd_in
after-flow = same_fraction (flow soft_after (sold 50 10) second_after) (whole (mw 50)) refl refl

-- the blocks cost 500 and 300, and 5 MW of excess 25
after-welfare : welfare soft_after (sold 50 10) ≡ whole (neg_ℤ (money 825))
unfolding rows line_flow row_offset row_factor injection balance output demand welfare_for congestion_by price_by rent surplus farkas_bound unit_price sign_of abs_ℚ ◌+ℚ◌ ◌*ℚ◌ neg_ℚ over whole gcd gcd_in
after-welfare = same_fraction (welfare soft_after (sold 50 10)) (whole (neg_ℤ (money 825))) refl refl

after-rent : rent soft_after (sold 50 10) both_prices second_after ≡ whole (money 250)
unfolding rows line_flow row_offset row_factor injection balance output demand welfare_for congestion_by price_by rent surplus farkas_bound unit_price sign_of abs_ℚ ◌+ℚ◌ ◌*ℚ◌ neg_ℚ over whole gcd gcd_in
after-rent = same_fraction (rent soft_after (sold 50 10) both_prices second_after) (whole (money 250)) refl refl

-- that and 30 for each of 40 MW: the load pays 37.5 for each of 60 MW, and the units are paid 800
after-surplus : surplus soft_after (sold 50 10) both_prices ≡ whole (money 1450)
unfolding rows line_flow row_offset row_factor injection balance output demand welfare_for congestion_by price_by rent surplus farkas_bound unit_price sign_of abs_ℚ ◌+ℚ◌ ◌*ℚ◌ neg_ℚ over whole gcd gcd_in
after-surplus = same_fraction (surplus soft_after (sold 50 10) both_prices) (whole (money 1450)) refl refl
