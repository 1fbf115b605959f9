-- Where each bus has the angle 0 or no injection, nothing is lost on any branch, so that all angles are equal.
use Rattle.std.specs.Prelude.{◌≡◌, ◌⊎◌, ℕ, ◌<◌, pos, [], ◌∷◌, refl}
use Rattle.std.specs.List.{Contains}
use Rattle.std.proofs.Common.{ap, sym, ◌∙◌, subst, inl, inr}
use Rattle.fraction_theory.specs.Fraction.{Fraction, whole, ◌-ℚ◌, ◌*ℚ◌}
use Rattle.fraction_theory.specs.Order.{◌≤ℚ◌}
use Rattle.fraction_theory.specs.Sums.{sum_by}
use Rattle.fraction_theory.proofs.Ring.{by_ring, at, pnil, ◌⊗◌, times_nil}
use Rattle.fraction_theory.proofs.FieldLaws.{ring_ℚ}
use Rattle.fraction_theory.proofs.OrderLaws.{≤ℚ_antisym, *ℚ-nil}
use Rattle.fraction_theory.proofs.SumLaws.{sum_by-nil}
use Rattle.fraction_theory.proofs.ListSums.{sum_by-members}
use Rattle.network_theory.specs.Networks.{Branch, Network, places, IsTheoryNetwork, IsConnected, flow, injection}
use Rattle.network_theory.proofs.ByParts.{taken, injection_taken, by_parts}
use Rattle.network_theory.proofs.Outages.{ends, taken_ends, loss, losses_above}
use Rattle.network_theory.proofs.Places.{below_places}
use Rattle.network_theory.proofs.SignedSums.{term_within}
use Rattle.network_theory.proofs.Solutions.{law_of_rest}

pub nil_times : (x : Fraction) → whole (pos 0) *ℚ x ≡ whole (pos 0)
nil_times x = by_ring ring_ℚ (x ∷ []) (pnil ⊗ at 0) pnil refl

module _ (n : Network) (reference : ℕ) (angle : ℕ → Fraction) (is : IsTheoryNetwork n) (connected : IsConnected n reference)
    (rest : (i : ℕ) → i < n.buses → (angle i ≡ whole (pos 0)) ⊎ (injection n angle i ≡ whole (pos 0))) where
  no_losses : sum_by (loss angle) n.branches ≡ whole (pos 0)
  no_losses =
      sym (by_parts n is angle angle)
      ∙ sum_by-members (λ i. angle i *ℚ injection n angle i) (λ _. whole (pos 0)) (places n)
      (λ i c. elim (rest i (below_places n i c)) [
        | inl e ↦ ap (λ t. t *ℚ injection n angle i) e ∙ nil_times (injection n angle i)
        | inr e ↦ ap (λ t. angle i *ℚ t) e ∙ times_nil ring_ℚ (angle i)
      ])
      ∙ sum_by-nil (places n)

  no_loss : (b : Branch) → Contains n.branches b → loss angle b ≡ whole (pos 0)
  no_loss b c = ≤ℚ_antisym (loss angle b) (whole (pos 0))
      (subst (λ t. loss angle b ≤ℚ t) no_losses (term_within (loss angle) n.branches (losses_above n angle is) b c))
      (losses_above n angle is b c)

  no_flow : (b : Branch) → Contains n.branches b → flow angle b ≡ whole (pos 0)
  no_flow b c = elim (*ℚ-nil (angle b.from -ℚ angle b.to) (flow angle b) (no_loss b c)) [
    | inl e ↦ ap (λ t. b.susceptance *ℚ t) e ∙ times_nil ring_ℚ b.susceptance
    | inr e ↦ e
  ]

  no_injection : (i : ℕ) → injection n angle i ≡ whole (pos 0)
  no_injection i =
      injection_taken n angle i
      ∙ sum_by-members (taken angle i) (λ _. whole (pos 0)) n.branches (λ b c. taken_ends angle i b ∙ ap (λ t. ends i b *ℚ t) (no_flow b c) ∙ times_nil ring_ℚ (ends i b))
      ∙ sum_by-nil n.branches

  pub at_rest : (i : ℕ) → i < n.buses → angle i ≡ angle reference
  at_rest = law_of_rest n reference angle is connected (λ i _ _. no_injection i)
