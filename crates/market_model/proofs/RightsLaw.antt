-- Rights that are feasible together are paid at most the surplus.
use Rattle.std.specs.Prelude.{◌≡◌, ◌==◌, ℕ, ◌<◌, pos, List, [], ◌∷◌, length, map, filter, All, refl}
use Rattle.std.proofs.lemmas.List.Elements.{All-contains}
use Rattle.std.proofs.Common.{ap, sym, ◌∙◌, subst₂, inl, inr}
use mathlib.Core.Path.{ap₂}
use Rattle.fraction_theory.specs.Fraction.{Fraction, whole, ◌+ℚ◌, ◌-ℚ◌, ◌*ℚ◌, neg_ℚ}
use Rattle.fraction_theory.specs.Order.{◌≤ℚ◌, ◌<ℚ◌}
use Rattle.fraction_theory.specs.Sums.{Plain, sum_by}
use Rattle.fraction_theory.proofs.Ring.{by_ring, by_ring2, at, pnil, pone, pneg, ◌⊕◌, ◌⊗◌}
use Rattle.fraction_theory.proofs.FieldLaws.{ring_ℚ}
use Rattle.fraction_theory.proofs.OrderLaws.{NonNeg_from, NonNeg-one, ≤ℚ_of_same, ≤ℚ_trans, *ℚ-≤ℚ, opposite_most, by_le2}
use Rattle.fraction_theory.proofs.SumLaws.{sum_by-same, sum_by-plus, sum_by-nil, sum_by-≤, total-append, total-Plain, total-Product}
use Rattle.market_model.specs.declared.answered.Duals.{Duals}
use Rattle.market_model.specs.declared.participants.Parts.{Parts}
use Rattle.market_model.specs.Dispatch.{zero, places}
use Rattle.market_model.specs.Laws.{LawOfTheRights}
use Rattle.market_model.specs.LimitRows.{rows, limit, flow, picked_up, row_flow, row_offset}
use Rattle.market_model.specs.Optimality.{bus_price, net_shadow_price, up_of, down_of}
use Rattle.market_model.specs.declared.participants.TransmissionRight.{TransmissionRight}
use Rattle.market_model.specs.Rights.{IsTransmissionRight, rights_injection, paid_to_rights}
use Rattle.market_model.proofs.PlaceSums.{gather_times}
use Rattle.market_model.proofs.MarketSums.{sum_by-neg}
use Rattle.market_model.proofs.Excesses.{nil_or_above}
use Rattle.market_model.proofs.RowLaws.{along, picked_up-none, pickup_prices, priced_by_rows, row_prices_by}
use Rattle.market_model.proofs.Optimum.{surplus-by_pulls}

-- ---- what rights put in, at a number for each bus
at_buses : (n : ℕ) (f : ℕ → Fraction) (rights : List TransmissionRight) → All (IsTransmissionRight n) rights
    → sum_by (λ i. f i *ℚ rights_injection rights i) (places n) ≡ neg_ℚ (sum_by (λ t. whole t.mw *ℚ (f t.to -ℚ f t.from)) rights)
unfolding rights_injection
at_buses n f rights h =
    sum_by-same (λ i. f i *ℚ rights_injection rights i)
    (λ i. f i *ℚ sum_by (λ t. whole t.mw) (filter (λ t. t.from == i) rights) +ℚ f i *ℚ sum_by (λ t. neg_ℚ (whole t.mw)) (filter (λ t. t.to == i) rights)) (places n)
    (λ i. ap (λ t. f i *ℚ t)
    (total-append (map (λ t. Plain (whole t.mw)) (filter (λ t. t.from == i) rights)) (map (λ t. Plain (neg_ℚ (whole t.mw))) (filter (λ t. t.to == i) rights))
    ∙ ap₂ ◌+ℚ◌ (total-Plain (λ t. whole t.mw) (filter (λ t. t.from == i) rights)) (total-Plain (λ t. neg_ℚ (whole t.mw)) (filter (λ t. t.to == i) rights)))
    ∙ by_ring ring_ℚ (f i ∷ sum_by (λ t. whole t.mw) (filter (λ t. t.from == i) rights) ∷ sum_by (λ t. neg_ℚ (whole t.mw)) (filter (λ t. t.to == i) rights) ∷ [])
    (at 0 ⊗ (at 1 ⊕ at 2)) (at 0 ⊗ at 1 ⊕ at 0 ⊗ at 2) refl)
    ∙ sum_by-plus (λ i. f i *ℚ sum_by (λ t. whole t.mw) (filter (λ t. t.from == i) rights)) (λ i. f i *ℚ sum_by (λ t. neg_ℚ (whole t.mw)) (filter (λ t. t.to == i) rights)) (places n)
    ∙ ap₂ ◌+ℚ◌
    (gather_times f (λ t. whole t.mw) (λ t. t.from) n rights (along (λ t. t.from < n) rights (λ t c. (All-contains (IsTransmissionRight n) rights t h c).from)))
    (gather_times f (λ t. neg_ℚ (whole t.mw)) (λ t. t.to) n rights (along (λ t. t.to < n) rights (λ t c. (All-contains (IsTransmissionRight n) rights t h c).to)))
    ∙ sym (sum_by-plus (λ t. f t.from *ℚ whole t.mw) (λ t. f t.to *ℚ neg_ℚ (whole t.mw)) rights)
    ∙ sum_by-same (λ t. f t.from *ℚ whole t.mw +ℚ f t.to *ℚ neg_ℚ (whole t.mw)) (λ t. neg_ℚ (whole t.mw *ℚ (f t.to -ℚ f t.from))) rights
    (λ t. by_ring ring_ℚ (f t.from ∷ f t.to ∷ whole t.mw ∷ []) (at 0 ⊗ at 2 ⊕ at 1 ⊗ pneg (at 2)) (pneg (at 2 ⊗ (at 1 ⊕ pneg (at 0)))) refl)
    ∙ sum_by-neg (λ t. whole t.mw *ℚ (f t.to -ℚ f t.from)) rights

-- in all they put in nothing
balanced : (n : ℕ) (rights : List TransmissionRight) → All (IsTransmissionRight n) rights → sum_by (rights_injection rights) (places n) ≡ zero
balanced n rights h =
    sum_by-same (rights_injection rights) (λ i. whole (pos 1) *ℚ rights_injection rights i) (places n) (λ i. by_ring ring_ℚ (rights_injection rights i ∷ []) (at 0) (pone ⊗ at 0) refl)
    ∙ at_buses n (λ i. whole (pos 1)) rights h
    ∙ ap neg_ℚ
    (sum_by-same (λ t. whole t.mw *ℚ (whole (pos 1) -ℚ whole (pos 1))) (λ t. zero) rights (λ t. by_ring ring_ℚ (whole t.mw ∷ []) (at 0 ⊗ (pone ⊕ pneg pone)) pnil refl)
    ∙ sum_by-nil rights)
    ∙ by_ring ring_ℚ [] (pneg pnil) pnil refl

-- rights put out nothing of what a lost unit puts out
nothing_picked : (m : Parts) (d : Duals Fraction) → pickup_prices m d (λ k. zero) ≡ zero
nothing_picked m d =
    sum_by-same (λ r. net_shadow_price m d r *ℚ picked_up m (λ k. zero) r) (λ r. zero) (rows m)
    (λ r. ap (λ t. net_shadow_price m d r *ℚ t) (picked_up-none m r) ∙ by_ring ring_ℚ (net_shadow_price m d r ∷ []) (at 0 ⊗ pnil) pnil refl)
    ∙ sum_by-nil (rows m)

-- they are paid what the rows count at their net prices
paid-by_rows : (m : Parts) (d : Duals Fraction) (rights : List TransmissionRight) → All (IsTransmissionRight (length m.buses)) rights
    → paid_to_rights m d rights ≡ row_prices_by m d (rights_injection rights) (λ k. zero)
unfolding paid_to_rights
paid-by_rows m d rights h =
    let paid : Fraction = sum_by (λ t. whole t.mw *ℚ (bus_price m d t.to -ℚ bus_price m d t.from)) rights in
    let rows_count : Fraction = row_prices_by m d (rights_injection rights) (λ k. zero) in
    let all : Fraction = sum_by (rights_injection rights) (places (length m.buses)) in
    total-Product (λ (t : TransmissionRight). whole t.mw) (λ t. bus_price m d t.to -ℚ bus_price m d t.from) rights
    ∙ by_ring2 ring_ℚ (paid ∷ rows_count ∷ d.energy ∷ all ∷ []) (at 0) (at 1)
    (pneg pone) (pneg (at 0)) (at 2 ⊗ at 3 ⊕ pneg (at 1)) (pneg (at 2)) (at 3) pnil
    (sym (at_buses (length m.buses) (bus_price m d) rights h) ∙ priced_by_rows m d (rights_injection rights) (λ k. zero)
    ∙ ap (λ t. (d.energy *ℚ all -ℚ rows_count) +ℚ t) (nothing_picked m d) ∙ by_ring ring_ℚ (d.energy ∷ all ∷ rows_count ∷ []) ((at 0 ⊗ at 1 ⊕ pneg (at 2)) ⊕ pnil) (at 0 ⊗ at 1 ⊕ pneg (at 2)) refl) (balanced (length m.buses) rights h) refl

-- a price that is 0, or above 0 only at the greater of two, counts the greater for no less
counts_more : (u g f : Fraction) → zero ≤ℚ u → (zero <ℚ u → g ≤ℚ f) → (u *ℚ g) ≤ℚ (u *ℚ f)
counts_more u g f sign more = elim (nil_or_above u sign) [
  | inl e ↦ ≤ℚ_of_same (u *ℚ g) (u *ℚ f) (ap (λ t. t *ℚ g) e ∙ by_ring ring_ℚ (g ∷ f ∷ []) (pnil ⊗ at 0) (pnil ⊗ at 1) refl ∙ ap (λ t. t *ℚ f) (sym e))
  | inr a ↦ *ℚ-≤ℚ u g f (NonNeg_from u sign) (more a)
]

-- ---- one row: at prices u and d that support a flow f, no flow g within the limit counts for more
module _ (u d limit f o g : Fraction) (up_sign : zero ≤ℚ u) (down_sign : zero ≤ℚ d) (up : zero <ℚ u → limit ≤ℚ f) (down : zero <ℚ d → limit ≤ℚ neg_ℚ f) where
  no_more : neg_ℚ limit ≤ℚ g → g ≤ℚ limit → ((u -ℚ d) *ℚ (g -ℚ o)) ≤ℚ ((u -ℚ d) *ℚ (f -ℚ o))
  no_more low high =
      by_le2 (u ∷ d ∷ f ∷ g ∷ o ∷ []) ((at 0 ⊕ pneg (at 1)) ⊗ (at 3 ⊕ pneg (at 4))) ((at 0 ⊕ pneg (at 1)) ⊗ (at 2 ⊕ pneg (at 4)))
      pone (at 0 ⊗ at 3) (at 0 ⊗ at 2) pone (at 1 ⊗ pneg (at 3)) (at 1 ⊗ pneg (at 2)) NonNeg-one
      (counts_more u g f up_sign (λ a. ≤ℚ_trans g limit f high (up a))) NonNeg-one
      (counts_more d (neg_ℚ g) (neg_ℚ f) down_sign (λ a. ≤ℚ_trans (neg_ℚ g) limit (neg_ℚ f) (opposite_most limit g low) (down a))) refl

pub law_of_the_rights : LawOfTheRights
law_of_the_rights m d x rights h f s are together =
    subst₂ ◌≤ℚ◌ (sym (paid-by_rows m d rights are)) (sym (surplus-by_pulls m d x h f.balanced))
    (sum_by-≤ (λ r. net_shadow_price m d r *ℚ (row_flow m (rights_injection rights) (λ k. zero) r -ℚ row_offset m r)) (λ r. net_shadow_price m d r *ℚ (flow m x r -ℚ row_offset m r)) (rows m)
    (along (λ r. (net_shadow_price m d r *ℚ (row_flow m (rights_injection rights) (λ k. zero) r -ℚ row_offset m r)) ≤ℚ (net_shadow_price m d r *ℚ (flow m x r -ℚ row_offset m r))) (rows m)
    (λ r c. let k = s.rows r c in let w = together r c in
    no_more (up_of m d r) (down_of m d r) (limit m r) (flow m x r) (row_offset m r) (row_flow m (rights_injection rights) (λ k. zero) r) k.up.sign k.down.sign k.up.reached k.down.reached w.above w.below)))
