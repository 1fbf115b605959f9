-- Small cases of reserve, with values worked by hand: the definitions give them.
use Rattle.std.specs.Prelude.{◌≡◌, ℕ, pos, neg_ℤ, true, [], ◌∷◌, refl}
use Rattle.fraction_theory.specs.Divisors.{gcd, gcd_in}
use Rattle.fraction_theory.specs.Fraction.{Fraction, whole, over, ◌+ℚ◌, ◌*ℚ◌, neg_ℚ, same_fraction}
use Rattle.fraction_theory.specs.Signs.{sign_of}
use Rattle.market_data.specs.declared.participants.Unit as unit
use Rattle.market_model.specs.declared.answered.Duals.{Duals}
use Rattle.market_model.specs.declared.participants.Parts.{Parts}
use Rattle.market_model.specs.declared.participants.ReserveOffer.{ReserveOffer}
use Rattle.market_model.specs.Dispatch.{Dispatch, dispatch_with, injection, balance, output, demand}
use Rattle.market_model.specs.Infeasibility.{farkas_bound}
use Rattle.market_model.specs.LimitRows.{rows, row_factor}
use Rattle.market_model.specs.Market.{bare_parts}
use Rattle.market_model.specs.Optimality.{congestion_by, price_by, unit_price, energy_worth, reserve_worth, welfare, welfare_for}
use Rattle.market_model.specs.Reserves.{reserve, room_used}
use Rattle.market_model.specs.Settlement.{paid, pay_of_reserve, surplus}
use Rattle.market_model.proofs.LimitCases.{blocks, buses, money, mw, price}

-- a unit at a bus by place that has room for 100 MW
abbrev unit_of : ℕ → ℕ → unit.Unit
unit_of row place = record { row = row; bus = place; fixed = pos 0; up = mw 100; down = pos 0 }

-- it offers 50 MW of reserve at a price
abbrev offer : ℕ → ℕ → ReserveOffer
offer place at = record { unit = place; quantity = mw 50; price = price at }

-- A load of 60 MW with no limits. Two units sell up to 100 MW each, at 10 and at 30, and offer reserve at 2 and at 5, of which so much is needed.
abbrev needing : ℕ → Parts
needing need = record (bare_parts (buses 0 60 0) (unit_of 1 0 ∷ unit_of 2 1 ∷ []) blocks) { reserve = record { listed = true; offers = offer 0 2 ∷ offer 1 5 ∷ []; need = mw need } }

-- ---- 60 MW are needed: the first unit sells all that is taken, and has room for 40 MW of reserve beside
abbrev dispatch : Dispatch
dispatch = dispatch_with (whole (mw 60) ∷ whole (pos 0) ∷ []) (whole (mw 40) ∷ whole (mw 20) ∷ [])

abbrev duals : Duals Fraction
duals = record { energy = whole (price 13); limits = []; reserve = whole (price 5); rooms = record { unit = 1; price = whole (price 3) } ∷ [] }

needed-balance : balance (needing 60) dispatch ≡ whole (pos 0)
unfolding injection balance ◌+ℚ◌ ◌*ℚ◌ neg_ℚ over whole gcd gcd_in
needed-balance = same_fraction (balance (needing 60) dispatch) (whole (pos 0)) refl refl

needed-reserve : reserve (needing 60) dispatch ≡ whole (mw 60)
unfolding reserve ◌+ℚ◌ ◌*ℚ◌ neg_ℚ over whole gcd gcd_in
needed-reserve = same_fraction (reserve (needing 60) dispatch) (whole (mw 60)) refl refl

-- 60 of energy and 40 of reserve: all of its room
needed-room_used : room_used (needing 60) dispatch 0 ≡ whole (mw 100)
unfolding room_used ◌+ℚ◌ ◌*ℚ◌ neg_ℚ over whole gcd gcd_in
needed-room_used = same_fraction (room_used (needing 60) dispatch 0) (whole (mw 100)) refl refl

-- 600 for energy, and 80 and 100 for reserve
needed-welfare : welfare (needing 60) dispatch ≡ whole (neg_ℤ (money 780))
unfolding rows welfare_for ◌+ℚ◌ ◌*ℚ◌ neg_ℚ over whole gcd gcd_in
needed-welfare = same_fraction (welfare (needing 60) dispatch) (whole (neg_ℤ (money 780))) refl refl

-- the room that binds takes 3 from the worth of both, which leaves its own two prices
needed-energy_worth : energy_worth (needing 60) duals 0 ≡ whole (price 10)
unfolding rows row_factor congestion_by price_by unit_price ◌+ℚ◌ ◌*ℚ◌ neg_ℚ over whole gcd gcd_in
needed-energy_worth = same_fraction (energy_worth (needing 60) duals 0) (whole (price 10)) refl refl

needed-reserve_worth : reserve_worth (needing 60) duals 0 ≡ whole (price 2)
unfolding ◌+ℚ◌ ◌*ℚ◌ neg_ℚ over whole gcd gcd_in
needed-reserve_worth = same_fraction (reserve_worth (needing 60) duals 0) (whole (price 2)) refl refl

-- the other unit has room left
needed-other_energy : energy_worth (needing 60) duals 1 ≡ whole (price 13)
unfolding rows row_factor congestion_by price_by unit_price ◌+ℚ◌ ◌*ℚ◌ neg_ℚ over whole gcd gcd_in
needed-other_energy = same_fraction (energy_worth (needing 60) duals 1) (whole (price 13)) refl refl

needed-other_reserve : reserve_worth (needing 60) duals 1 ≡ whole (price 5)
unfolding ◌+ℚ◌ ◌*ℚ◌ neg_ℚ over whole gcd gcd_in
needed-other_reserve = same_fraction (reserve_worth (needing 60) duals 1) (whole (price 5)) refl refl

-- 60 MW at 13
needed-paid : paid (needing 60) dispatch duals 0 ≡ whole (money 780)
unfolding rows row_factor congestion_by price_by output paid ◌+ℚ◌ ◌*ℚ◌ neg_ℚ over whole gcd gcd_in
needed-paid = same_fraction (paid (needing 60) dispatch duals 0) (whole (money 780)) refl refl

-- 40 and 20 MW at 5
needed-reserve_paid : (pay_of_reserve dispatch duals 0).paid ≡ whole (money 200)
unfolding ◌+ℚ◌ ◌*ℚ◌ neg_ℚ over whole gcd gcd_in
needed-reserve_paid = same_fraction (pay_of_reserve dispatch duals 0).paid (whole (money 200)) refl refl

needed-other_paid : (pay_of_reserve dispatch duals 1).paid ≡ whole (money 100)
unfolding ◌+ℚ◌ ◌*ℚ◌ neg_ℚ over whole gcd gcd_in
needed-other_paid = same_fraction (pay_of_reserve dispatch duals 1).paid (whole (money 100)) refl refl

needed-surplus : surplus (needing 60) dispatch duals ≡ whole (pos 0)
unfolding rows row_factor congestion_by price_by output demand surplus ◌+ℚ◌ ◌*ℚ◌ neg_ℚ over whole gcd gcd_in
needed-surplus = same_fraction (surplus (needing 60) dispatch duals) (whole (pos 0)) refl refl

-- ---- 110 MW are needed, of which no more than 100 are offered
abbrev short_duals : Duals Fraction
short_duals = record { energy = whole (pos 0); limits = []; reserve = whole (pos 1); rooms = [] }

short-bound : farkas_bound (needing 110) short_duals ≡ whole (neg_ℤ (mw 10))
unfolding rows row_factor injection balance congestion_by price_by unit_price farkas_bound sign_of ◌+ℚ◌ ◌*ℚ◌ neg_ℚ over whole gcd gcd_in
short-bound = same_fraction (farkas_bound (needing 110) short_duals) (whole (neg_ℤ (mw 10))) refl refl
