-- Answers whose numbers are all within a bound, in their units (10^-9 MW, 10^-6 per MWh, 10^-15): those that are told, of money and of
-- prices too, and the two sides of an operation whose outcome passes it.
use Rattle.std.specs.Prelude.{ℕ, All}
use Rattle.fraction_theory.specs.Fraction.{Fraction}
use Rattle.exact_fraction.specs.declared.Passed.{Passed}
use Rattle.market_model.specs.declared.answered.Answer.{Answer}
use Rattle.market_model.specs.declared.answered.Dual.{Dual}
use Rattle.market_model.specs.declared.answered.Duals.{Duals}
use Rattle.market_model.specs.declared.answered.Farkas.{Farkas}
use Rattle.market_model.specs.declared.answered.Load.{Load}
use Rattle.market_model.specs.declared.answered.Money.{Money}
use Rattle.market_model.specs.declared.answered.Outcome.{Outcome}
use Rattle.market_model.specs.declared.answered.Outcome.TheVariants as outcome
use Rattle.market_model.specs.declared.answered.Price.{Price}
use Rattle.market_model.specs.declared.answered.Rent.{Rent}
use Rattle.market_model.specs.declared.answered.ReservePay.{ReservePay}
use Rattle.market_model.specs.declared.answered.RoomDual.{RoomDual}
use Rattle.market_model.specs.declared.answered.UnitPay.{UnitPay}
use Rattle.rights_test.specs.declared.right_parts.Fit.{Fit}
use Rattle.rights_test.specs.declared.right_parts.Fit.TheVariants as fit
use Rattle.rights_test.specs.declared.right_parts.Payments.{Payments}
use Rattle.cert_format.specs.Certificates.{Fits}

-- the two sides of an operation
abbrev pub ArePassedWithin : ℕ → Passed Fraction → Type 0
ArePassedWithin bound p = Fits bound p.left × Fits bound p.right

-- the prices of a limit, and that of a room
abbrev pub IsDualWithin : ℕ → Dual Fraction → Type 0
IsDualWithin bound d = Fits bound d.up × Fits bound d.down

abbrev pub IsRoomDualWithin : ℕ → RoomDual Fraction → Type 0
IsRoomDualWithin bound d = Fits bound d.price

pub record AreDualsWithin (bound : ℕ) (d : Duals Fraction) : Type 0 where
  pub energy : Fits bound d.energy
  pub limits : All (IsDualWithin bound) d.limits
  pub reserve : Fits bound d.reserve
  pub rooms : All (IsRoomDualWithin bound) d.rooms

-- the price of a bus and its parts
abbrev pub IsPriceWithin : ℕ → Price Fraction → Type 0
IsPriceWithin bound p = Fits bound p.energy × Fits bound p.congestion × Fits bound p.total

-- the lines of the settlement
abbrev pub IsUnitPayWithin : ℕ → UnitPay Fraction → Type 0
IsUnitPayWithin bound p = Fits bound p.mw × Fits bound p.paid

abbrev pub IsReservePayWithin : ℕ → ReservePay Fraction → Type 0
IsReservePayWithin bound p = Fits bound p.mw × Fits bound p.paid

abbrev pub IsLoadWithin : ℕ → Load Fraction → Type 0
IsLoadWithin bound l = Fits bound l.mw × Fits bound l.pays

abbrev pub IsRentWithin : ℕ → Rent Fraction → Type 0
IsRentWithin bound r = Fits bound r.flow × Fits bound r.over × Fits bound r.rent

pub record IsMoneyWithin (bound : ℕ) (m : Money Fraction) : Type 0 where
  pub units : All (IsUnitPayWithin bound) m.units
  pub own : All (Fits bound) m.own
  pub loads : All (IsLoadWithin bound) m.loads
  pub rents : All (IsRentWithin bound) m.rents
  pub surplus : Fits bound m.surplus
  pub reserve : All (IsReservePayWithin bound) m.reserve

pub record IsAnswerWithin (bound : ℕ) (a : Answer Fraction) : Type 0 where
  pub dispatch : All (Fits bound) a.dispatch
  pub reserve : All (Fits bound) a.reserve
  pub duals : AreDualsWithin bound a.duals
  pub prices : All (IsPriceWithin bound) a.prices
  pub welfare : Fits bound a.welfare
  pub money : IsMoneyWithin bound a.money

pub record IsFarkasWithin (bound : ℕ) (f : Farkas Fraction) : Type 0 where
  pub duals : AreDualsWithin bound f.duals
  pub most : Fits bound f.bound

-- what a clear came to
abbrev pub IsOutcomeWithin : ℕ → Outcome Fraction → Type 0
IsOutcomeWithin bound (outcome.Cleared a) = IsAnswerWithin bound a
IsOutcomeWithin bound (outcome.Infeasible f) = IsFarkasWithin bound f
IsOutcomeWithin bound (outcome.Range p) = ArePassedWithin bound p

-- the flow of a limit that rights break, and what rights are paid
abbrev pub IsFitWithin : ℕ → Fit Fraction → Type 0
IsFitWithin bound fit.Fits = Unit {0}
IsFitWithin bound (fit.Breaks row flow) = Fits bound flow

pub record ArePaymentsWithin (bound : ℕ) (p : Payments Fraction) : Type 0 where
  pub each : All (Fits bound) p.each
  pub total : Fits bound p.total
