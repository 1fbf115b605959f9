-- What offers of reserve are paid, one by one, and what is refused of that.
use Rattle.std.specs.Prelude.{◌≡◌, ℕ, ◌<◌, [], ◌∷◌, length, refl}
use Rattle.std.proofs.Common.{◌∙◌, ap₂, inl, sym}
use Rattle.fraction_theory.specs.Fraction.{Fraction, ◌*ℚ◌}
use Rattle.fraction_theory.specs.Sums.{Product}
use Rattle.exact_fraction.specs.declared.Op.TheVariants.{Times}
use Rattle.exact_fraction.specs.declared.Passed.{Passed}
use Rattle.market_model.specs.declared.answered.Duals.{Duals}
use Rattle.market_model.specs.declared.answered.ReservePay.{ReservePay}
use Rattle.market_model.specs.declared.participants.Parts.{Parts}
use Rattle.market_model.specs.Dispatch.{Dispatch, reserved}
use Rattle.market_model.specs.NamedSums.{IsRefusal}
use Rattle.market_model.specs.Settlement.{pay_of_reserve, reserve_term}
use Rattle.market_model.specs.SumTables.{paid_for_reserve, payment}
use Rattle.market_model.specs.Valued.{reserve_pay_at}
use Rattle.market_model.proofs.SumSteps.{product_at}
use Rattle.settlement.specs.Refusals.{IsMoneyRefusal}

same_pay : (mw paid mw' paid' : Fraction) → mw ≡ mw' → paid ≡ paid' → ◌≡◌ {A = ReservePay Fraction} (record { mw = mw; paid = paid }) (record { mw = mw'; paid = paid' })
same_pay mw paid mw' paid' a b = Prim.rw a (Prim.rw b refl)

-- what is paid for so many MW at the price of reserve
pub offer_pay_is : {N : Type 0} (value : N → Fraction) (x : Dispatch) (d : Duals Fraction) (n : ℕ) (t : Fraction) (pay : ReservePay N) → t ≡ d.reserve → value pay.mw ≡ reserved x n
    → value pay.paid ≡ t *ℚ value pay.mw → reserve_pay_at value pay ≡ pay_of_reserve x d n
offer_pay_is value x d n t pay is mw paid = same_pay (value pay.mw) (value pay.paid) (reserved x n) (d.reserve *ℚ reserved x n) mw (paid ∙ ap₂ ◌*ℚ◌ is mw)

pub offer_refusal : (m : Parts) (x : Dispatch) (price : ℕ → Fraction) (d : Duals Fraction) (bound : ℕ) (p : Passed Fraction) (n : ℕ) (t mw : Fraction) → n < length m.reserve.offers → t ≡ d.reserve
    → mw ≡ reserved x n → IsRefusal Times t mw bound p → IsMoneyRefusal m x price d bound p
offer_refusal m x price d bound p n t mw below is at h = inl (
  reserve_term x d n ∷ [],
  payment _ (paid_for_reserve n below),
  product_at (reserve_term x d n ∷ []) [] [] (reserve_term x d n) refl bound p t mw (ap₂ Product (sym is) (sym at)) refl h,
)
