-- What an answer says, and when it is right for its market.
use Rattle.std.specs.Prelude.{◌≡◌, ℕ, List, length, map, slice_index_or}
use Rattle.fraction_theory.specs.Fraction.{Fraction, ◌+ℚ◌}
use Rattle.fraction_theory.specs.Sums.{total}
use Rattle.exact_fraction.specs.declared.Passed.{Passed}
use Rattle.market_model.specs.declared.participants.Parts.{Parts}
use Rattle.market_model.specs.declared.answered.Answer.{Answer}
use Rattle.market_model.specs.declared.answered.Dual.{Dual}
use Rattle.market_model.specs.declared.answered.Duals.{Duals}
use Rattle.market_model.specs.declared.answered.Load.{Load}
use Rattle.market_model.specs.declared.answered.Money.{Money}
use Rattle.market_model.specs.declared.answered.Outcome.{Outcome}
use Rattle.market_model.specs.declared.answered.Outcome.TheVariants as outcome
use Rattle.market_model.specs.declared.answered.Price.{Price}
use Rattle.market_model.specs.declared.answered.Rent.{Rent}
use Rattle.market_model.specs.declared.answered.UnitPay.{UnitPay}
use Rattle.market_model.specs.Dispatch.{Dispatch, zero, places, dispatch_with}
use Rattle.market_model.specs.Infeasibility.{IsFarkas}
use Rattle.market_model.specs.declared.limits.Row.{Row}
use Rattle.market_model.specs.LimitRows.{Carried, carried, row_id, flow_by, lost_unit}
use Rattle.market_model.specs.Optimality.{Feasible, Supports, ProperDuals, named_rows, own_price, up_of, down_of, welfare, congestion, bus_price}
use Rattle.market_model.specs.Reserves.{offer_places}
use Rattle.market_model.specs.Settlement.{pay_of_unit, pay_of_load, pay_of_reserve, surplus_terms_by, rent_terms_by}
use Rattle.market_model.specs.Overrun.{excess_by}

-- an answer's entries by place; one past the end stands for zeros
abbrev pub mw_of : Answer Fraction → ℕ → Fraction
mw_of a j = slice_index_or a.dispatch j zero

abbrev pub price_of : Answer Fraction → ℕ → Price Fraction
price_of a i = slice_index_or a.prices i (record { energy = zero; congestion = zero; total = zero })

abbrev pub pay_of : Answer Fraction → ℕ → UnitPay Fraction
pay_of a u = slice_index_or a.money.units u (record { mw = zero; paid = zero })

abbrev pub load_of : Answer Fraction → ℕ → Load Fraction
load_of a i = slice_index_or a.money.loads i (record { mw = zero; pays = zero })

-- the accepted MW of an answer, and its reserve
abbrev pub dispatch_in : Answer Fraction → Dispatch
dispatch_in a = dispatch_with a.dispatch a.reserve

-- the flow of a row where this is carried, by how much it exceeds its limit, and what that earns at the prices of a dual
abbrev pub rent_by : Parts → Carried → Dual Fraction → Row → Rent Fraction
rent_by m c e r = record { row = e.row; flow = flow_by m c r; over = excess_by m r (flow_by m c r); rent = total (rent_terms_by m c r e.up e.down) }

-- the same of a row at a dispatch and the prices that duals give it
abbrev pub rent_of : Parts → Dispatch → Duals Fraction → Row → Rent Fraction
rent_of m x d r = rent_by m (carried m x) (record { row = row_id m r; up = up_of m d r; down = down_of m d r }) r

-- the settlement of a dispatch at prices by bus: units and buses in their order, the own prices of lost units, the rows that duals name in
-- theirs, what loads pay less what units are paid for energy, and what offers of reserve are paid
abbrev pub settlement_at : Parts → Dispatch → (ℕ → Fraction) → Duals Fraction → Money Fraction
settlement_at m x price d = record {
  units = map (pay_of_unit m x price d) (places (length m.units));
  own = map (λ k. own_price m d price (lost_unit m k)) (places (length m.unit_outages));
  loads = map (pay_of_load m price) (places (length m.buses));
  rents = map (rent_of m x d) (named_rows m d);
  surplus = total (surplus_terms_by m x price d);
  reserve = map (pay_of_reserve x d) (offer_places m);
}

-- a price of its two parts
abbrev pub price_of_parts : Fraction → Fraction → Price Fraction
price_of_parts energy congestion = record { energy = energy; congestion = congestion; total = energy +ℚ congestion }

-- the price at a bus, of its two parts
abbrev pub price_made : Parts → Duals Fraction → ℕ → Price Fraction
price_made m d i = price_of_parts d.energy (congestion m d i)

-- those at all buses
abbrev pub prices_made : Parts → Duals Fraction → List (Price Fraction)
prices_made m d = map (price_made m d) (places (length m.buses))

-- a dispatch and duals, with the prices, the welfare and the settlement that they make
abbrev pub answer_of : Parts → Dispatch → Duals Fraction → Answer Fraction
answer_of m x d = record {
  dispatch = x.blocks;
  reserve = x.reserve;
  duals = d;
  prices = prices_made m d;
  welfare = welfare m x;
  money = settlement_at m x (bus_price m d) d;
}

-- the dispatch is feasible, and the duals are proper and support it; prices, welfare and settlement are those that they make
pub record IsRight (m : Parts) (a : Answer Fraction) : Type 0 where
  pub feasible : Feasible m (dispatch_in a)
  pub supported : Supports m (dispatch_in a) a.duals
  pub proper : ProperDuals m a.duals
  pub made : a ≡ answer_of m (dispatch_in a) a.duals

-- a cleared market has a right answer, and an infeasible one duals that show it, with their bound; where numbers became too large, P holds of
-- the two
abbrev pub IsRightBy : (Passed Fraction → Type 0) → Parts → Outcome Fraction → Type 0
IsRightBy P m (outcome.Cleared a) = IsRight m a
IsRightBy P m (outcome.Infeasible f) = IsFarkas m f
IsRightBy P m (outcome.Range p) = P p
