-- What is offered of reserve in all, offer by offer, and the bounds of the need.
use Rattle.std.specs.Prelude.{◌≡◌, ℕ, ◌+◌, ◌<◌, [], ◌∷◌, length, map, refl}
use Rattle.std.proofs.Common.{ap, ap₂, sym, ◌∙◌}
use Rattle.fraction_theory.specs.Fraction.{Fraction, ◌+ℚ◌, ◌-ℚ◌}
use Rattle.fraction_theory.specs.Order.{◌≤ℚ◌}
use Rattle.fraction_theory.specs.Sums.{Term, Plain, total}
use Rattle.fraction_theory.proofs.FieldLaws.{ring_ℚ}
use Rattle.fraction_theory.proofs.OrderLaws.{by_le1, NonNeg-one}
use Rattle.fraction_theory.proofs.Ring.{by_ring, at, pnil, pone, pneg, ◌⊕◌}
use Rattle.fraction_theory.proofs.SignLaws.{part_at_least, part_at_most}
use Rattle.exact_fraction.specs.declared.Op.TheVariants.{Plus}
use Rattle.exact_fraction.specs.declared.Passed.{Passed}
use Rattle.market_model.specs.declared.participants.Parts.{Parts}
use Rattle.market_model.specs.Dispatch.{places, reserve_quantity}
use Rattle.market_model.specs.NamedSums.{IsRefusal, IsRefusedIn}
use Rattle.market_model.specs.Reserves.{reserve_need}
use Rattle.market_model.proofs.MorePlaces.{total-places_more}
use Rattle.market_model.proofs.SumSteps.{plus_at, terms_at}
use Rattle.market_system.specs.MarketSystem.{most_reserve, reserve_offered, offered_terms}

module _ (m : Parts) where
  abbrev pub offered_term : ℕ → Term
  offered_term n = Plain (reserve_quantity m n)

  -- with one offer more
  pub offered_step : (k : ℕ) (old new x : Fraction) → old ≡ total (map offered_term (places k)) → x ≡ reserve_quantity m k → new ≡ old +ℚ x → new ≡ total (map offered_term (places (k + 1)))
  offered_step k old new x before here more = more ∙ ap₂ ◌+ℚ◌ before here ∙ sym (total-places_more offered_term k)

  pub offered_refused : (k : ℕ) → k < length m.reserve.offers → (sum x : Fraction) (bound : ℕ) (p : Passed Fraction) → sum ≡ total (map offered_term (places k)) → x ≡ reserve_quantity m k
      → IsRefusal Plus sum x bound p → IsRefusedIn (offered_terms m) bound p
  offered_refused k lt sum x bound p before here h =
      let t = terms_at offered_term (length m.reserve.offers) k lt in
      plus_at (offered_terms m) (map offered_term (places k)) t.0 (offered_term k) t.1 bound p sum x before here h

  -- the most of it: the greater one of what is offered and what is needed
  pub need_most : reserve_offered m ≤ℚ reserve_need m → reserve_need m ≡ most_reserve m
  need_most h =
      let less : (reserve_offered m -ℚ reserve_need m) ≤ℚ _ = by_le1 (reserve_offered m ∷ reserve_need m ∷ []) (at 0 ⊕ pneg (at 1)) pnil pone (at 0) (at 1) NonNeg-one h refl in
      sym (ap (λ x. reserve_need m +ℚ x) (part_at_most (reserve_offered m -ℚ reserve_need m) less) ∙ by_ring ring_ℚ (reserve_need m ∷ []) (at 0 ⊕ pnil) (at 0) refl)

  pub offered_most : reserve_need m ≤ℚ reserve_offered m → reserve_offered m ≡ most_reserve m
  offered_most h =
      sym (ap (λ x. reserve_need m +ℚ x)
      (part_at_least (reserve_offered m -ℚ reserve_need m) (by_le1 (reserve_offered m ∷ reserve_need m ∷ []) pnil (at 0 ⊕ pneg (at 1)) pone (at 1) (at 0) NonNeg-one h refl))
      ∙ by_ring ring_ℚ (reserve_need m ∷ reserve_offered m ∷ []) (at 0 ⊕ (at 1 ⊕ pneg (at 0))) (at 1) refl)
