-- Which price of a limit is 0, where one of the two is.
use Rattle.std.specs.Prelude.{◌≡◌, ◌⊎◌, pos}
use Rattle.std.proofs.Common.{inl, inr, subst, sym, ◌∙◌}
use Rattle.fraction_theory.specs.Fraction.{whole}
use Rattle.fraction_theory.specs.Order.{◌<ℚ◌}
use Rattle.fraction_theory.specs.Signs.{sign_of}
use Rattle.fraction_theory.specs.declared.Sign.{Sign}
use Rattle.fraction_theory.specs.declared.Sign.TheVariants.{Below, Above}
use Rattle.fraction_theory.proofs.OrderLaws.{<ℚ_irrefl}
use Rattle.fraction_theory.proofs.SignLaws.{sign_of_is}
use Rattle.fraction_theory.specs.Fraction.{Fraction}
use Rattle.market_model.specs.declared.answered.Dual.{Dual}
use Rattle.market_model.specs.Optimality.{IsOneSided}

-- a lower price that is not 0 is the only one
pub not_zero_side : (e : Dual Fraction) (s : Sign) → IsOneSided e → s ≡ sign_of e.down → (s ≡ Below) ⊎ (s ≡ Above) → e.up ≡ whole (pos 0)
not_zero_side e s h is some = by h.one some
  where
    by : ((whole (pos 0) <ℚ e.up) × (e.down ≡ whole (pos 0))) ⊎ ((e.up ≡ whole (pos 0)) × (whole (pos 0) <ℚ e.down)) → (s ≡ Below) ⊎ (s ≡ Above) → e.up ≡ whole (pos 0)
    by (inr b) some = b.0
    by (inl b) (inl t) = absurd (<ℚ_irrefl e.down (subst (λ x. e.down <ℚ x) (sym b.1) (sign_of_is e.down Below (sym t ∙ is))))
    by (inl b) (inr t) = absurd (<ℚ_irrefl e.down (subst (λ x. x <ℚ e.down) (sym b.1) (sign_of_is e.down Above (sym t ∙ is))))
