-- Caps that lose nothing.
use Rattle.std.specs.Prelude.{ℕ, ◌<◌, pos, [], ◌∷◌, length, refl}
use Rattle.std.proofs.Common.{sym, subst, subst₂, inl, inr}
use Rattle.fraction_theory.specs.Fraction.{Fraction, whole, neg_ℚ, ◌+ℚ◌, ◌-ℚ◌}
use Rattle.fraction_theory.specs.Order.{◌<ℚ◌, ◌≤ℚ◌, NonNeg}
use Rattle.fraction_theory.specs.Signs.{abs_ℚ}
use Rattle.fraction_theory.proofs.OrderLaws.{<ℚ-≤ℚ, NonNeg-one, NonNeg-plus, NonNeg_from, by_le1, by_le2, ≤ℚ-or-<ℚ, ≤ℚ_refl, ≤ℚ_total, ≤ℚ_trans}
use Rattle.fraction_theory.proofs.Ring.{at, pnil, pone, pneg, ◌⊕◌, ◌⊗◌}
use Rattle.fraction_theory.proofs.SignLaws.{abs_above, abs_below}
use Rattle.market_model.specs.declared.answered.Duals.{Duals}
use Rattle.market_model.specs.declared.participants.Parts.{Parts}
use Rattle.market_model.specs.Dispatch.{Dispatch, block_at, zero}
use Rattle.market_model.specs.Market.{IsMarket}
use Rattle.market_model.specs.Optimality.{BlockSupported, Supports}
use Rattle.market_model.specs.Overrun.{Within}
use Rattle.one_price.specs.FirstPrices.{sum_of_prices, with_energy}
use Rattle.one_price.proofs.EnergyLemmas.{supported_at, supported_between, worth_grows}
use Rattle.price_system.specs.PriceSystem.{Caps}
use Rattle.price_system.proofs.CapLemmas.{by_rest, most_least, rest, rest_size}
use Rattle.first_prices.specs.FirstCaps.{AreCapsBy, FitsAt, share}
use Rattle.first_prices.specs.Laws.{LawOfCaps}

-- ---- plain numbers
-- a number is between two others or beyond one of them
clamped : (low t high : Fraction) (X : Type 0) → (t <ℚ low → X) → (low ≤ℚ t → t ≤ℚ high → X) → (high <ℚ t → X) → X
clamped low t high X under inside over = elim (≤ℚ-or-<ℚ low t) [
  | inr l ↦ under l
  | inl h ↦ elim (≤ℚ-or-<ℚ t high) [ inl k ↦ inside h k | inr l ↦ over l ]
]

NonNeg-two : NonNeg (whole (pos 1) +ℚ whole (pos 1))
NonNeg-two = NonNeg-plus (whole (pos 1)) (whole (pos 1)) NonNeg-one NonNeg-one

within_size : (x : Fraction) → Within (abs_ℚ x) x
within_size x = elim (≤ℚ_total zero x) [
  | inl h ↦ subst (λ t. Within t x) (sym (abs_above x h))
      (record { above = by_le2 (x ∷ []) (pneg (at 0)) (at 0) pone pnil (at 0) pone pnil (at 0) NonNeg-one h NonNeg-one h refl; below = ≤ℚ_refl x })
  | inr h ↦ subst (λ t. Within t x) (sym (abs_below x h)) (record {
    above = by_le1 (x ∷ []) (pneg (pneg (at 0))) (at 0) pone (at 0) (at 0) NonNeg-one (≤ℚ_refl x) refl;
    below = by_le2 (x ∷ []) (at 0) (pneg (at 0)) pone (at 0) pnil pone (at 0) pnil NonNeg-one h NonNeg-one h refl;
  })
]

nil_share : (most factor : Fraction) → zero ≤ℚ most → zero ≤ℚ factor → zero ≤ℚ share most factor
nil_share most factor h k =
    by_le2 (most ∷ factor ∷ []) pnil (at 0 ⊗ (pone ⊕ at 1)) pone pnil (at 0) (at 0) pnil (at 1) NonNeg-one h (NonNeg_from most h) k refl

-- the worth at one price and a rest is at least that at another and another, where they are apart by twice what a rest may be
apart_up : (p a b size : Fraction) → Within size a → Within size b → (p +ℚ a) ≤ℚ ((p +ℚ (size +ℚ size)) +ℚ b)
apart_up p a b size h k =
    by_le2 (p ∷ a ∷ b ∷ size ∷ []) (at 0 ⊕ at 1) ((at 0 ⊕ (at 3 ⊕ at 3)) ⊕ at 2) pone (at 1) (at 3) pone (pneg (at 3)) (at 2) NonNeg-one h.below NonNeg-one k.above refl

apart_down : (p a b size : Fraction) → Within size a → Within size b → ((p -ℚ (size +ℚ size)) +ℚ b) ≤ℚ (p +ℚ a)
apart_down p a b size h k =
    by_le2 (p ∷ a ∷ b ∷ size ∷ []) ((at 0 ⊕ pneg (at 3 ⊕ at 3)) ⊕ at 2) (at 0 ⊕ at 1) pone (pneg (at 3)) (at 1) pone (at 2) (at 3) NonNeg-one h.above NonNeg-one k.below refl

-- ---- caps by duals
module _ (m : Parts) (x : Dispatch) (e f : Duals Fraction) (c : Caps) (market : IsMarket m) (holds : Supports m x e) (caps : AreCapsBy m x e c)
    (fits : Supports m x f) (less : sum_of_prices m f ≤ℚ sum_of_prices m e) where
  abbrev size : Fraction
  size = share c.most c.factor

  abbrev top : Fraction
  top = e.energy +ℚ (size +ℚ size)

  abbrev bottom : Fraction
  bottom = e.energy -ℚ (size +ℚ size)

  sums : sum_of_prices m f ≤ℚ c.most
  sums = ≤ℚ_trans (sum_of_prices m f) (sum_of_prices m e) c.most less caps.sums

  top_most : top ≤ℚ c.range
  top_most = let own = within_size e.energy in
      by_le2 (e.energy ∷ size ∷ abs_ℚ e.energy ∷ c.range ∷ []) (at 0 ⊕ (at 1 ⊕ at 1)) (at 3) pone (at 0) (at 2) pone (at 2 ⊕ (at 1 ⊕ at 1)) (at 3)
      NonNeg-one own.below NonNeg-one caps.range refl

  bottom_least : neg_ℚ c.range ≤ℚ bottom
  bottom_least = let own = within_size e.energy in
      by_le2 (e.energy ∷ size ∷ abs_ℚ e.energy ∷ c.range ∷ []) (pneg (at 3)) (at 0 ⊕ pneg (at 1 ⊕ at 1)) pone (pneg (at 2)) (at 0) pone (at 2 ⊕ (at 1 ⊕ at 1)) (at 3)
      NonNeg-one own.above NonNeg-one caps.range refl

  fits_at : (p : Fraction) → Within c.range p → ((j : ℕ) → j < length m.blocks → BlockSupported m x (with_energy f p) j) → (q : Fraction) × FitsAt m x c f q
  fits_at p within each = (p, record { supported = supported_at m x f p fits each; keeps = record { factor = caps.factors; energy = within; sum = sums } })

  abbrev unit : ℕ → ℕ
  unit j = (block_at m j).unit

  e_size : (j : ℕ) → j < length m.blocks → Within size (rest m e (unit j))
  e_size j is = rest_size m x e market holds c.most caps.sums c.factor caps.factors j is

  f_size : (j : ℕ) → j < length m.blocks → Within size (rest m f (unit j))
  f_size j is = rest_size m x f market fits c.most sums c.factor caps.factors j is

  span : bottom ≤ℚ top
  span = let least = nil_share c.most c.factor (most_least m x f market fits c.most sums) caps.factors.sign in
      by_le2 (e.energy ∷ size ∷ []) (at 0 ⊕ pneg (at 1 ⊕ at 1)) (at 0 ⊕ (at 1 ⊕ at 1)) (pone ⊕ pone) pnil (at 1) (pone ⊕ pone) pnil (at 1)
      NonNeg-two least NonNeg-two least refl

  -- above the range its top, where blocks bound the price as they do at the two sets of duals
  at_top : top <ℚ f.energy → (q : Fraction) × FitsAt m x c f q
  at_top beyond = fits_at top (record { above = ≤ℚ_trans (neg_ℚ c.range) bottom top bottom_least span; below = top_most })
      (λ j is.
      supported_between m x e (with_energy f top) f j
      (subst₂ ◌≤ℚ◌ (sym (by_rest m e (unit j))) (sym (by_rest m (with_energy f top) (unit j))) (apart_up e.energy _ _ size (e_size j is) (f_size j is)))
      (worth_grows m f top f.energy (unit j) (<ℚ-≤ℚ top f.energy beyond))
      (holds.blocks j is)
      (fits.blocks j is))

  -- and below it its bottom
  at_bottom : f.energy <ℚ bottom → (q : Fraction) × FitsAt m x c f q
  at_bottom beyond = fits_at bottom (record { above = bottom_least; below = ≤ℚ_trans bottom top c.range span top_most })
      (λ j is.
      supported_between m x f (with_energy f bottom) e j
      (worth_grows m f f.energy bottom (unit j) (<ℚ-≤ℚ f.energy bottom beyond))
      (subst₂ ◌≤ℚ◌ (sym (by_rest m (with_energy f bottom) (unit j))) (sym (by_rest m e (unit j))) (apart_down e.energy _ _ size (e_size j is) (f_size j is)))
      (fits.blocks j is)
      (holds.blocks j is))

  inside : bottom ≤ℚ f.energy → f.energy ≤ℚ top → (q : Fraction) × FitsAt m x c f q
  inside low high = fits_at f.energy
      (record { above = ≤ℚ_trans (neg_ℚ c.range) bottom f.energy bottom_least low; below = ≤ℚ_trans f.energy top c.range high top_most })
      fits.blocks

pub law_of_caps : LawOfCaps
law_of_caps m x e c market holds caps f fits less =
    clamped (bottom m x e f c market holds caps fits less) f.energy (top m x e f c market holds caps fits less) ((p : Fraction) × FitsAt m x c f p)
    (at_bottom m x e f c market holds caps fits less) (inside m x e f c market holds caps fits less) (at_top m x e f c market holds caps fits less)
