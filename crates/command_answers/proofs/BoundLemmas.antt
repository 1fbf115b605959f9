-- All numbers of a type are within its bound, and so is what is made of them; what is within a bound is within a greater one.
use Rattle.std.proofs.Common.{ℕ, ◌≤◌, arith, List, map, All}
use Rattle.std.specs.Prelude.{unsigned_abs}
use Rattle.std.proofs.lemmas.List.Elements.{All-map, All-weaker}
use Rattle.fraction_theory.specs.Fraction.{Fraction}
use Rattle.exact_fraction.specs.declared.Passed.{Passed}
use Rattle.market_model.specs.declared.answered.Answer.{Answer}
use Rattle.market_model.specs.declared.answered.Duals.{Duals}
use Rattle.market_model.specs.declared.answered.Farkas.{Farkas}
use Rattle.market_model.specs.declared.answered.Money.{Money}
use Rattle.market_model.specs.declared.answered.Outcome.{Outcome}
use Rattle.market_model.specs.declared.answered.Outcome.TheVariants as outcome
use Rattle.market_model.specs.Valued.{answer_at, dual_at, duals_at, farkas_at, load_at, money_at, outcome_at, passed_at, price_at, rent_at, reserve_pay_at, room_dual_at, unit_pay_at}
use Rattle.rights_test.specs.declared.right_parts.Fit.{Fit}
use Rattle.rights_test.specs.declared.right_parts.Fit.TheVariants as fit
use Rattle.rights_test.specs.declared.right_parts.Payments.{Payments}
use Rattle.rights_test.specs.Fits.{fit_at}
use Rattle.rights_test.specs.Paid.{payments_at}
use Rattle.cert_format.specs.Certificates.{Fits}
use Rattle.command_answers.specs.Bounds.{AreDualsWithin, ArePassedWithin, ArePaymentsWithin, IsAnswerWithin, IsDualWithin, IsFarkasWithin, IsFitWithin, IsLoadWithin, IsMoneyWithin, IsOutcomeWithin, IsPriceWithin, IsRentWithin, IsReservePayWithin, IsRoomDualWithin, IsUnitPayWithin}

-- ---- numbers of a type
module _ {N : Type 0} (value : N → Fraction) (bound : ℕ) (fits : (x : N) → (unsigned_abs (value x).num ≤ bound) × ((value x).den ≤ bound)) where
  number_within : (x : N) → Fits bound (value x)
  number_within x = let h = fits x in record { num = h.0; den = h.1 }

  each_within : {X Y : Type 0} (P : X → Type 0) (f : Y → X) (ys : List Y) → ((y : Y) → P (f y)) → All P (map f ys)
  each_within P f ys h = All-map P f ys (λ k y is. h _)

  pub passed_within : (p : Passed N) → ArePassedWithin bound (passed_at value p)
  passed_within p = (number_within p.left, number_within p.right)

  duals_within : (d : Duals N) → AreDualsWithin bound (duals_at value d)
  duals_within d = record {
    energy = number_within d.energy;
    limits = each_within (IsDualWithin bound) (dual_at value) d.limits (λ x. (number_within x.up, number_within x.down));
    reserve = number_within d.reserve;
    rooms = each_within (IsRoomDualWithin bound) (room_dual_at value) d.rooms (λ x. number_within x.price);
  }

  money_within : (m : Money N) → IsMoneyWithin bound (money_at value m)
  money_within m = record {
    units = each_within (IsUnitPayWithin bound) (unit_pay_at value) m.units (λ x. (number_within x.mw, number_within x.paid));
    own = each_within (Fits bound) value m.own number_within;
    loads = each_within (IsLoadWithin bound) (load_at value) m.loads (λ x. (number_within x.mw, number_within x.pays));
    rents = each_within (IsRentWithin bound) (rent_at value) m.rents (λ x. (number_within x.flow, number_within x.over, number_within x.rent));
    surplus = number_within m.surplus;
    reserve = each_within (IsReservePayWithin bound) (reserve_pay_at value) m.reserve (λ x. (number_within x.mw, number_within x.paid));
  }

  pub answer_within : (a : Answer N) → IsAnswerWithin bound (answer_at value a)
  answer_within a = record {
    dispatch = each_within (Fits bound) value a.dispatch number_within;
    reserve = each_within (Fits bound) value a.reserve number_within;
    duals = duals_within a.duals;
    prices = each_within (IsPriceWithin bound) (price_at value) a.prices (λ x. (number_within x.energy, number_within x.congestion, number_within x.total));
    welfare = number_within a.welfare;
    money = money_within a.money;
  }

  pub outcome_within : (o : Outcome N) → IsOutcomeWithin bound (outcome_at value o)
  outcome_within (outcome.Cleared a) = answer_within a
  outcome_within (outcome.Infeasible f) = record { duals = duals_within f.duals; most = number_within f.bound }
  outcome_within (outcome.Range p) = passed_within p

  pub fit_within : (f : Fit N) → IsFitWithin bound (fit_at value f)
  fit_within fit.Fits = tt
  fit_within (fit.Breaks row flow) = number_within flow

  pub payments_within : (p : Payments N) → ArePaymentsWithin bound (payments_at value p)
  payments_within p = record { each = each_within (Fits bound) value p.each number_within; total = number_within p.total }

-- ---- a greater bound
module _ (less bound : ℕ) (wide : less ≤ bound) where
  number-wider : (x : Fraction) → Fits less x → Fits bound x
  number-wider x h =
      let num = h.num in
      let den = h.den in
      record { num = omega arith; den = omega arith }

  numbers-wider : (xs : List Fraction) → All (Fits less) xs → All (Fits bound) xs
  numbers-wider xs h = All-weaker (Fits less) (Fits bound) number-wider xs h

  two-wider : (x y : Fraction) → Fits less x × Fits less y → Fits bound x × Fits bound y
  two-wider x y h = (number-wider x h.0, number-wider y h.1)

  three-wider : (x y z : Fraction) → Fits less x × Fits less y × Fits less z → Fits bound x × Fits bound y × Fits bound z
  three-wider x y z h = (number-wider x h.0, number-wider y h.1, number-wider z h.2)

  duals-wider : (d : Duals Fraction) → AreDualsWithin less d → AreDualsWithin bound d
  duals-wider d h = record {
    energy = number-wider d.energy h.energy;
    limits = All-weaker (IsDualWithin less) (IsDualWithin bound) (λ x. two-wider x.up x.down) d.limits h.limits;
    reserve = number-wider d.reserve h.reserve;
    rooms = All-weaker (IsRoomDualWithin less) (IsRoomDualWithin bound) (λ x. number-wider x.price) d.rooms h.rooms;
  }

  money-wider : (m : Money Fraction) → IsMoneyWithin less m → IsMoneyWithin bound m
  money-wider m h = record {
    units = All-weaker (IsUnitPayWithin less) (IsUnitPayWithin bound) (λ x. two-wider x.mw x.paid) m.units h.units;
    own = numbers-wider m.own h.own;
    loads = All-weaker (IsLoadWithin less) (IsLoadWithin bound) (λ x. two-wider x.mw x.pays) m.loads h.loads;
    rents = All-weaker (IsRentWithin less) (IsRentWithin bound) (λ x. three-wider x.flow x.over x.rent) m.rents h.rents;
    surplus = number-wider m.surplus h.surplus;
    reserve = All-weaker (IsReservePayWithin less) (IsReservePayWithin bound) (λ x. two-wider x.mw x.paid) m.reserve h.reserve;
  }

  pub answer-wider : (a : Answer Fraction) → IsAnswerWithin less a → IsAnswerWithin bound a
  answer-wider a h = record {
    dispatch = numbers-wider a.dispatch h.dispatch;
    reserve = numbers-wider a.reserve h.reserve;
    duals = duals-wider a.duals h.duals;
    prices = All-weaker (IsPriceWithin less) (IsPriceWithin bound) (λ x. three-wider x.energy x.congestion x.total) a.prices h.prices;
    welfare = number-wider a.welfare h.welfare;
    money = money-wider a.money h.money;
  }

  farkas-wider : (f : Farkas Fraction) → IsFarkasWithin less f → IsFarkasWithin bound f
  farkas-wider f h = record { duals = duals-wider f.duals h.duals; most = number-wider f.bound h.most }

  pub outcome-wider : (o : Outcome Fraction) → IsOutcomeWithin less o → IsOutcomeWithin bound o
  outcome-wider (outcome.Cleared a) h = answer-wider a h
  outcome-wider (outcome.Infeasible f) h = farkas-wider f h
  outcome-wider (outcome.Range p) h = two-wider p.left p.right h

  pub fit-within-wider : (f : Fit Fraction) → IsFitWithin less f → IsFitWithin bound f
  fit-within-wider fit.Fits h = tt
  fit-within-wider (fit.Breaks row flow) h = number-wider flow h

  pub payments-wider : (p : Payments Fraction) → ArePaymentsWithin less p → ArePaymentsWithin bound p
  payments-wider p h = record { each = numbers-wider p.each h.each; total = number-wider p.total h.total }
