-- Outputs, demands and prices, and what is paid and refused of them.
use Rattle.std.specs.Prelude.{◌≡◌, ◌⊎◌, ℕ, ◌<◌, [], length, refl}
use Rattle.std.proofs.Common.{ap, ap₂, sym, ◌∙◌, inl, inr}
use Rattle.fraction_theory.specs.Fraction.{Fraction, whole, ◌+ℚ◌, ◌*ℚ◌}
use Rattle.fraction_theory.specs.Sums.{Product}
use Rattle.fraction_theory.proofs.FieldLaws.{+ℚ_nil}
use Rattle.exact_fraction.specs.declared.Op.TheVariants.{Plus, Times}
use Rattle.exact_fraction.specs.declared.Passed.{Passed}
use Rattle.market_data.specs.declared.participants.Bus.{Bus}
use Rattle.market_model.specs.declared.answered.Duals.{Duals}
use Rattle.market_model.specs.declared.answered.Load.{Load}
use Rattle.market_model.specs.declared.answered.UnitPay.{UnitPay}
use Rattle.market_model.specs.declared.participants.Parts.{Parts}
use Rattle.market_model.specs.Dispatch.{Dispatch, bus_at, output, output_terms, demand, demand_terms}
use Rattle.market_model.specs.NamedSums.{IsRefusedIn, IsRefusal}
use Rattle.market_model.specs.Optimality.{named_rows, own_price}
use Rattle.market_model.specs.Valued.{load_at, unit_pay_at}
use Rattle.market_model.proofs.SumSteps.{product_at, two_refused}
use Rattle.market_model.specs.Settlement.{pay_of_unit, pay_of_load, load_terms, unit_terms}
use Rattle.market_model.specs.SumTables.{IsPickupRefusal, IsRefusedAmong, OwnPriceSum, factor_of_pickup, demand_of_bus, output_of_unit, paid_by_load, paid_output, paid_price, paid_to_unit, payment}
use Rattle.settlement.specs.Refusals.{IsMoneyRefusal}

pub demand_is : (m : Parts) (i : ℕ) (bus : Bus) → bus ≡ bus_at m i → whole bus.pd +ℚ whole bus.gs ≡ demand m i
unfolding demand
demand_is m i bus at = ap (λ (b : Bus). whole b.pd +ℚ whole b.gs) at ∙ ap (λ t. whole (bus_at m i).pd +ℚ t) (sym (+ℚ_nil (whole (bus_at m i).gs)))

-- ---- entries that are what they should be
same_load : (mw pays mw' pays' : Fraction) → mw ≡ mw' → pays ≡ pays' → ◌≡◌ {A = Load Fraction} (record { mw = mw; pays = pays }) (record { mw = mw'; pays = pays' })
same_load mw pays mw' pays' a b = Prim.rw a (Prim.rw b refl)

same_pay : (mw paid mw' paid' : Fraction) → mw ≡ mw' → paid ≡ paid' → ◌≡◌ {A = UnitPay Fraction} (record { mw = mw; paid = paid }) (record { mw = mw'; paid = paid' })
same_pay mw paid mw' paid' a b = Prim.rw a (Prim.rw b refl)

pub load_is : {N : Type 0} (value : N → Fraction) (m : Parts) (price : ℕ → Fraction) (i : ℕ) (bus : Bus) (t : Fraction) (load : Load N) → bus ≡ bus_at m i → t ≡ price i
    → value load.mw ≡ whole bus.pd +ℚ whole bus.gs → value load.pays ≡ t *ℚ value load.mw → load_at value load ≡ pay_of_load m price i
load_is value m price i bus t load at is mw pays =
    let d : value load.mw ≡ demand m i = mw ∙ demand_is m i bus at in
    same_load (value load.mw) (value load.pays) (demand m i) (price i *ℚ demand m i) d (pays ∙ ap₂ ◌*ℚ◌ is d)

pub pay_is : {N : Type 0} (value : N → Fraction) (m : Parts) (x : Dispatch) (price : ℕ → Fraction) (d : Duals Fraction) (u : ℕ) (t : Fraction) (pay : UnitPay N) → t ≡ own_price m d price u
    → value pay.mw ≡ output m x u → value pay.paid ≡ t *ℚ value pay.mw → unit_pay_at value pay ≡ pay_of_unit m x price d u
pay_is value m x price d u t pay is mw paid = same_pay (value pay.mw) (value pay.paid) (output m x u) (own_price m d price u *ℚ output m x u) mw (paid ∙ ap₂ ◌*ℚ◌ is mw)

-- ---- refusals of loads and units
module _ (m : Parts) (x : Dispatch) (price : ℕ → Fraction) (d : Duals Fraction) (bound : ℕ) (p : Passed Fraction) where
  pub load_refusal : (i : ℕ) (bus : Bus) (t : Fraction) → i < length m.buses → bus ≡ bus_at m i → t ≡ price i
      → IsRefusal Plus (whole bus.pd) (whole bus.gs) bound p ⊎ IsRefusal Times t (whole bus.pd +ℚ whole bus.gs) bound p → IsMoneyRefusal m x price d bound p
  load_refusal i bus t below at is (inl h) = inl (
    demand_terms m i,
    demand_of_bus i below,
    two_refused (whole (bus_at m i).pd) (whole (bus_at m i).gs) (whole bus.pd) (whole bus.gs) bound p (ap (λ (b : Bus). whole b.pd) at) (ap (λ (b : Bus). whole b.gs) at) h,
  )
  load_refusal i bus t below at is (inr h) = inl (
    load_terms m price i,
    payment _ (paid_by_load i below),
    product_at (load_terms m price i) [] [] (Product (price i) (demand m i)) refl bound p t (whole bus.pd +ℚ whole bus.gs) (ap₂ Product (sym is) (sym (demand_is m i bus at))) refl h,
  )

  pub unit_refusal : (u : ℕ) (t : Fraction) → u < length m.units → t ≡ own_price m d price u → IsRefusedIn (output_terms m x u) bound p ⊎ IsRefusal Times t (output m x u) bound p
      → IsMoneyRefusal m x price d bound p
  unit_refusal u t below is (inl h) = inl (output_terms m x u, paid_output _ (output_of_unit u below), h)
  unit_refusal u t below is (inr h) = inl (
    unit_terms m x price d u,
    payment _ (paid_to_unit u below),
    product_at (unit_terms m x price d u) [] [] (Product (own_price m d price u) (output m x u)) refl bound p t (output m x u) (ap (λ (v : Fraction). Product v (output m x u)) (sym is)) refl h,
  )

  -- own prices of units
  pub own_refusal : IsRefusedAmong (OwnPriceSum m d price) bound p ⊎ IsPickupRefusal m (named_rows m d) bound p → IsMoneyRefusal m x price d bound p
  own_refusal (inl (terms, sum, a)) = inl (terms, paid_price terms sum, a)
  own_refusal (inr (r, named, (terms, sum, a))) = inr (r, named, (terms, factor_of_pickup terms sum, a))
