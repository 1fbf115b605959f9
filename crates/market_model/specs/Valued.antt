-- An answer with each number as the fraction that it stands for.
use Rattle.std.specs.Prelude.{ℕ, List, [], map, slice_index_or}
use Rattle.fraction_theory.specs.Fraction.{Fraction}
use Rattle.market_model.specs.declared.answered.Dual.{Dual}
use Rattle.market_model.specs.declared.answered.Duals.{Duals}
use Rattle.market_model.specs.declared.answered.Price.{Price}
use Rattle.market_model.specs.declared.answered.UnitPay.{UnitPay}
use Rattle.market_model.specs.declared.answered.ReservePay.{ReservePay}
use Rattle.market_model.specs.declared.answered.RoomDual.{RoomDual}
use Rattle.market_model.specs.declared.answered.Load.{Load}
use Rattle.market_model.specs.declared.answered.Rent.{Rent}
use Rattle.market_model.specs.declared.answered.Money.{Money}
use Rattle.market_model.specs.declared.answered.Answer.{Answer}
use Rattle.market_model.specs.declared.answered.Farkas.{Farkas}
use Rattle.market_model.specs.declared.answered.Outcome.{Outcome}
use Rattle.market_model.specs.declared.answered.Outcome.TheVariants as outcome
use Rattle.exact_fraction.specs.declared.Passed.{Passed}
use Rattle.market_model.specs.Dispatch.{zero}

abbrev pub dual_at : {N : Type 0} → (N → Fraction) → Dual N → Dual Fraction
dual_at value d = record { row = d.row; up = value d.up; down = value d.down }

abbrev pub room_dual_at : {N : Type 0} → (N → Fraction) → RoomDual N → RoomDual Fraction
room_dual_at value d = record { unit = d.unit; price = value d.price }

-- duals of their parts
abbrev pub duals_with : {N : Type 0} → N → List (Dual N) → N → List (RoomDual N) → Duals N
duals_with energy limits reserve rooms = record { energy = energy; limits = limits; reserve = reserve; rooms = rooms }

-- duals of energy alone
abbrev pub energy_duals : Fraction → List (Dual Fraction) → Duals Fraction
energy_duals energy limits = duals_with energy limits zero []

abbrev pub duals_at : {N : Type 0} → (N → Fraction) → Duals N → Duals Fraction
duals_at value d = duals_with (value d.energy) (map (dual_at value) d.limits) (value d.reserve) (map (room_dual_at value) d.rooms)

abbrev pub price_at : {N : Type 0} → (N → Fraction) → Price N → Price Fraction
price_at value p = record { energy = value p.energy; congestion = value p.congestion; total = value p.total }

-- the whole price at a bus; 0 past the end
abbrev pub total_at : {N : Type 0} → (N → Fraction) → List (Price N) → ℕ → Fraction
total_at value prices bus = slice_index_or (map (λ p. value p.total) prices) bus zero

abbrev pub unit_pay_at : {N : Type 0} → (N → Fraction) → UnitPay N → UnitPay Fraction
unit_pay_at value p = record { mw = value p.mw; paid = value p.paid }

abbrev pub reserve_pay_at : {N : Type 0} → (N → Fraction) → ReservePay N → ReservePay Fraction
reserve_pay_at value p = record { mw = value p.mw; paid = value p.paid }

abbrev pub load_at : {N : Type 0} → (N → Fraction) → Load N → Load Fraction
load_at value l = record { mw = value l.mw; pays = value l.pays }

abbrev pub rent_at : {N : Type 0} → (N → Fraction) → Rent N → Rent Fraction
rent_at value r = record { row = r.row; flow = value r.flow; over = value r.over; rent = value r.rent }

abbrev pub money_at : {N : Type 0} → (N → Fraction) → Money N → Money Fraction
money_at value m = record {
  units = map (unit_pay_at value) m.units;
  own = map value m.own;
  loads = map (load_at value) m.loads;
  rents = map (rent_at value) m.rents;
  surplus = value m.surplus;
  reserve = map (reserve_pay_at value) m.reserve;
}

abbrev pub answer_at : {N : Type 0} → (N → Fraction) → Answer N → Answer Fraction
answer_at value a = record {
  dispatch = map value a.dispatch;
  reserve = map value a.reserve;
  duals = duals_at value a.duals;
  prices = map (price_at value) a.prices;
  welfare = value a.welfare;
  money = money_at value a.money;
}

abbrev pub farkas_at : {N : Type 0} → (N → Fraction) → Farkas N → Farkas Fraction
farkas_at value f = record { duals = duals_at value f.duals; bound = value f.bound }

abbrev pub passed_at : {N : Type 0} → (N → Fraction) → Passed N → Passed Fraction
passed_at value p = record { op = p.op; left = value p.left; right = value p.right }

abbrev pub outcome_at : {N : Type 0} → (N → Fraction) → Outcome N → Outcome Fraction
outcome_at value (outcome.Cleared a) = outcome.Cleared (answer_at value a)
outcome_at value (outcome.Infeasible f) = outcome.Infeasible (farkas_at value f)
outcome_at value (outcome.Range p) = outcome.Range (passed_at value p)
