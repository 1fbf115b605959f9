-- The terms of the bound of duals, part by part.
use Rattle.std.specs.Prelude.{◌≡◌, ℕ, Bool, true, List, [], ◌∷◌, ◌++◌, length, map, if◌then◌else◌, refl}
use Rattle.std.proofs.Common.{ap, ap₂, sym, ◌∙◌, append_assoc}
use Rattle.fraction_theory.specs.Fraction.{Fraction, neg_ℚ, ◌+ℚ◌, ◌*ℚ◌}
use Rattle.fraction_theory.specs.Sums.{Term, Product, total}
use Rattle.fraction_theory.proofs.FieldLaws.{+ℚ_nil}
use Rattle.fraction_theory.proofs.SumLaws.{total-append}
use Rattle.exact_fraction.specs.declared.Passed.{Passed}
use Rattle.market_model.specs.declared.answered.Duals.{Duals}
use Rattle.market_model.specs.declared.participants.Parts.{Parts}
use Rattle.market_model.specs.Dispatch.{places}
use Rattle.market_model.specs.Infeasibility.{block_most, energy_left_terms, farkas_terms, need_terms, nothing_terms, offer_most, reserve_left_terms}
use Rattle.market_model.specs.NamedSums.{IsRefusedIn, IsShareRefusal}
use Rattle.market_model.specs.Optimality.{room_price}
use Rattle.market_model.specs.Reserves.{offer_places, reserve_need, reserve_units, room}
use Rattle.market_model.proofs.SumSteps.{share_at}

module _ (m : Parts) (d : Duals Fraction) where
  abbrev accepted_terms : List Term
  accepted_terms = map (block_most m d) (places (length m.blocks)) ++ map (offer_most m d) (offer_places m)

  -- ---- those of energy in front of those of reserve, and of what may be accepted
  pub farkas_terms-parts : farkas_terms m d ≡ energy_left_terms m d ++ (reserve_left_terms m d ++ accepted_terms)
  farkas_terms-parts =
      append_assoc (nothing_terms m d) (map (block_most m d) (places (length m.blocks))) (map (offer_most m d) (offer_places m)) ∙ append_assoc (energy_left_terms m d) (reserve_left_terms m d) accepted_terms

  -- ---- the need, where reserve is listed
  module _ (listed : m.reserve.listed ≡ true) where
    need_terms-listed : need_terms m d ≡ Product d.reserve (neg_ℚ (reserve_need m)) ∷ []
    need_terms-listed = ap (λ (b : Bool). if b then Product d.reserve (neg_ℚ (reserve_need m)) ∷ [] else []) listed

    pub need_made : (old new : Fraction) → old ≡ total (energy_left_terms m d) → new ≡ old +ℚ d.reserve *ℚ neg_ℚ (reserve_need m) → new ≡ total (energy_left_terms m d ++ need_terms m d)
    need_made old new before e =
        e ∙ ap₂ ◌+ℚ◌ before (sym (+ℚ_nil (d.reserve *ℚ neg_ℚ (reserve_need m))))
        ∙ sym (total-append (energy_left_terms m d) (Product d.reserve (neg_ℚ (reserve_need m)) ∷ []))
        ∙ ap (λ ts. total (energy_left_terms m d ++ ts)) (sym need_terms-listed)

    pub need_refused : (sum : Fraction) (bound : ℕ) (p : Passed Fraction) → sum ≡ total (energy_left_terms m d) → IsShareRefusal sum d.reserve (neg_ℚ (reserve_need m)) bound p → IsRefusedIn (farkas_terms m d) bound p
    need_refused sum bound p before h =
        let rooms : List Term = map (λ u. Product (room_price m d u) (room m u)) (reserve_units m) in
        share_at (farkas_terms m d) (energy_left_terms m d) (rooms ++ accepted_terms) (Product d.reserve (neg_ℚ (reserve_need m)))
        (farkas_terms-parts ∙ ap (λ ts. energy_left_terms m d ++ ((ts ++ rooms) ++ accepted_terms)) need_terms-listed)
        bound p sum d.reserve (neg_ℚ (reserve_need m)) refl before h
