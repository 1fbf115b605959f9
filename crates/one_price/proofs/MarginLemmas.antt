-- The price of energy by blocks is the one that energy is to have.
use Rattle.std.specs.Prelude.{◌≡◌, ◌≢◌, ◌⊎◌, ℕ, ◌<◌, pos, [], ◌∷◌, length, refl}
use Rattle.std.proofs.Common.{arith, inl, inr, subst, sym}
use Rattle.std.proofs.lemmas.Int.{ints}
use Rattle.fraction_theory.specs.Fraction.{Fraction, whole, ◌+ℚ◌, ◌-ℚ◌}
use Rattle.fraction_theory.specs.Order.{◌<ℚ◌, ◌≤ℚ◌}
use Rattle.fraction_theory.proofs.FieldLaws.{ring_ℚ}
use Rattle.fraction_theory.proofs.OrderLaws.{<ℚ-not-≤ℚ, <ℚ_irrefl, NonNeg-one, by_le1, by_rest, not-≤ℚ, three_ways, ≤ℚ-or-<ℚ, ≤ℚ_trans}
use Rattle.fraction_theory.proofs.Ring.{at, by_ring, pnil, pone, pneg, ◌⊕◌}
use Rattle.market_model.specs.declared.answered.Duals.{Duals}
use Rattle.market_model.specs.declared.participants.Parts.{Parts}
use Rattle.market_model.specs.declared.participants.Side.{Side}
use Rattle.market_model.specs.declared.participants.Side.TheVariants.{Sell, Buy}
use Rattle.market_model.specs.Dispatch.{Dispatch, accepted, block_at, quantity, zero}
use Rattle.market_model.specs.Optimality.{BlockSupported, Gains, Loses, Supports, energy_worth, price}
use Rattle.one_price.specs.FirstPrices.{EnergyMayCost, HasNoGreatest, HasNoLeast, IsEnergyPrice, IsGreatest, IsLeast, greatest, least, neither, with_energy}
use Rattle.one_price.specs.Laws.{LawOfMargins}
use Rattle.one_price.specs.Margins.{HasNoCeiling, HasNoFloor, HoldsDown, HoldsUp, IsCeiling, IsEnergyByMargins, IsFloor, IsGreatestMargin, IsLeastMargin, by_ceiling, by_floor, by_none, margin}
use Rattle.one_price.proofs.EnergyLemmas.{supported_at, worth_beyond}

-- ---- plain numbers
same_or_not : (a b : Fraction) → (a ≡ b) ⊎ (a ≢ b)
same_or_not a b = elim (three_ways a b) [
  | inl l ↦ inr (λ e. <ℚ_irrefl b (subst (λ t. t <ℚ b) e l))
  | inr w ↦ elim w [ inl e ↦ inl e | inr l ↦ inr (λ e. <ℚ_irrefl b (subst (λ t. b <ℚ t) e l)) ]
]

not_below : (a b : Fraction) → ¬ (a <ℚ b) → b ≤ℚ a
not_below a b n = elim (≤ℚ-or-<ℚ b a) [ inl h ↦ h | inr l ↦ absurd (n l) ]

-- a worth w, where energy costs e, is beside a price c once energy costs q
module _ (w c e q : Fraction) where
  floor_in : (e -ℚ q) ≤ℚ (w -ℚ c) → c ≤ℚ (w +ℚ (q -ℚ e))
  floor_in h = by_le1 (w ∷ c ∷ e ∷ q ∷ []) (at 1) (at 0 ⊕ (at 3 ⊕ pneg (at 2))) pone (at 2 ⊕ pneg (at 3)) (at 0 ⊕ pneg (at 1)) NonNeg-one h refl

  floor_out : c ≤ℚ (w +ℚ (q -ℚ e)) → (e -ℚ q) ≤ℚ (w -ℚ c)
  floor_out h = by_le1 (w ∷ c ∷ e ∷ q ∷ []) (at 2 ⊕ pneg (at 3)) (at 0 ⊕ pneg (at 1)) pone (at 1) (at 0 ⊕ (at 3 ⊕ pneg (at 2))) NonNeg-one h refl

  ceiling_in : (w -ℚ c) ≤ℚ (e -ℚ q) → (w +ℚ (q -ℚ e)) ≤ℚ c
  ceiling_in h = by_le1 (w ∷ c ∷ e ∷ q ∷ []) (at 0 ⊕ (at 3 ⊕ pneg (at 2))) (at 1) pone (at 0 ⊕ pneg (at 1)) (at 2 ⊕ pneg (at 3)) NonNeg-one h refl

  ceiling_out : (w +ℚ (q -ℚ e)) ≤ℚ c → (w -ℚ c) ≤ℚ (e -ℚ q)
  ceiling_out h = by_le1 (w ∷ c ∷ e ∷ q ∷ []) (at 0 ⊕ pneg (at 1)) (at 2 ⊕ pneg (at 3)) pone (at 0 ⊕ (at 3 ⊕ pneg (at 2))) (at 1) NonNeg-one h refl

module _ (c w : Fraction) where
  nil_less : c ≤ℚ w → zero ≤ℚ (w -ℚ c)
  nil_less h = by_le1 (c ∷ w ∷ []) pnil (at 1 ⊕ pneg (at 0)) pone (at 0) (at 1) NonNeg-one h refl

  less_nil : w ≤ℚ c → (w -ℚ c) ≤ℚ zero
  less_nil h = by_le1 (c ∷ w ∷ []) (at 1 ⊕ pneg (at 0)) pnil pone (at 1) (at 0) NonNeg-one h refl

-- the price that a margin leaves
back : (e f : Fraction) → e -ℚ (e -ℚ f) ≡ f
back e f = by_ring ring_ℚ (e ∷ f ∷ []) (at 0 ⊕ pneg (at 0 ⊕ pneg (at 1))) (at 1) refl

left_most : (e f q : Fraction) → (e -ℚ q) ≤ℚ f → (e -ℚ f) ≤ℚ q
left_most e f q h = by_le1 (e ∷ f ∷ q ∷ []) (at 0 ⊕ pneg (at 1)) (at 2) pone (at 0 ⊕ pneg (at 2)) (at 1) NonNeg-one h refl

left_least : (e f q : Fraction) → f ≤ℚ (e -ℚ q) → q ≤ℚ (e -ℚ f)
left_least e f q h = by_le1 (e ∷ f ∷ q ∷ []) (at 2) (at 0 ⊕ pneg (at 1)) pone (at 1) (at 0 ⊕ pneg (at 2)) NonNeg-one h refl

-- one less and one more
abbrev one : Fraction
one = whole (pos 1)

nil_one : zero <ℚ one
unfolding whole
nil_one = record { cross = Prim.omega (arith, ints) }

module _ (p : Fraction) where
  below_it : (p -ℚ one) <ℚ p
  below_it = not-≤ℚ p (p -ℚ one) (λ h. <ℚ-not-≤ℚ zero one nil_one (by_le1 (p ∷ []) pone pnil pone (at 0) (at 0 ⊕ pneg pone) NonNeg-one h refl))

  above_it : p <ℚ (p +ℚ one)
  above_it = not-≤ℚ (p +ℚ one) p (λ h. <ℚ-not-≤ℚ zero one nil_one (by_le1 (p ∷ []) pone pnil pone (at 0 ⊕ pone) (at 0) NonNeg-one h refl))

  less_left : (e : Fraction) → (e -ℚ p) ≤ℚ (e -ℚ (p -ℚ one))
  less_left e = by_rest (e ∷ p ∷ []) (at 0 ⊕ pneg (at 1)) (at 0 ⊕ pneg (at 1 ⊕ pneg pone)) pone NonNeg-one refl

  more_left : (e : Fraction) → (e -ℚ (p +ℚ one)) ≤ℚ (e -ℚ p)
  more_left e = by_rest (e ∷ p ∷ []) (at 0 ⊕ pneg (at 1 ⊕ pone)) (at 0 ⊕ pneg (at 1)) pone NonNeg-one refl

-- ---- a block by what holds its worth up and down
module _ (c w a all : Fraction) where
  up_of_bid : (s : Side) → (Gains s c w → a ≡ all) → (Loses s c w → a ≡ zero) → HoldsUp s a all → c ≤ℚ w
  up_of_bid Sell full empty holds = not_below w c (λ l. holds (empty l))
  up_of_bid Buy full empty holds = not_below w c (λ l. holds (full l))

  down_of_bid : (s : Side) → (Gains s c w → a ≡ all) → (Loses s c w → a ≡ zero) → HoldsDown s a all → w ≤ℚ c
  down_of_bid Sell full empty holds = not_below c w (λ l. holds (full l))
  down_of_bid Buy full empty holds = not_below c w (λ l. holds (empty l))

  -- the same unless it is held, where it is not to be
  same_unless : (b : Fraction) (X : Type 0) → X → (a ≢ b → ¬ X) → a ≡ b
  same_unless b X l held = elim (same_or_not a b) [ inl e ↦ e | inr n ↦ absurd (held n l) ]

  full_by : (s : Side) → (HoldsUp s a all → c ≤ℚ w) → (HoldsDown s a all → w ≤ℚ c) → Gains s c w → a ≡ all
  full_by Sell up down l = same_unless all (c <ℚ w) l (λ n k. <ℚ-not-≤ℚ c w k (down n))
  full_by Buy up down l = same_unless all (w <ℚ c) l (λ n k. <ℚ-not-≤ℚ w c k (up n))

  empty_by : (s : Side) → (HoldsUp s a all → c ≤ℚ w) → (HoldsDown s a all → w ≤ℚ c) → Loses s c w → a ≡ zero
  empty_by Sell up down l = same_unless zero (w <ℚ c) l (λ n k. <ℚ-not-≤ℚ w c k (up n))
  empty_by Buy up down l = same_unless zero (c <ℚ w) l (λ n k. <ℚ-not-≤ℚ c w k (down n))

-- ---- the prices that energy may have
module _ (m : Parts) (x : Dispatch) (d : Duals Fraction) (holds : Supports m x d) where
  abbrev May : Fraction → Type 0
  May = EnergyMayCost m x d

  abbrev e : Fraction
  e = d.energy

  abbrev worth : ℕ → Fraction
  worth j = energy_worth m d (block_at m j).unit

  -- at the duals' own
  up_least : (j : ℕ) → j < length m.blocks → IsFloor m x j → zero ≤ℚ margin m d j
  up_least j h floor = let b = holds.blocks j h in
      nil_less (price m j) (worth j) (up_of_bid (price m j) (worth j) (accepted x j) (quantity m j) (block_at m j).side b.full b.empty floor)

  down_most : (j : ℕ) → j < length m.blocks → IsCeiling m x j → margin m d j ≤ℚ zero
  down_most j h ceiling = let b = holds.blocks j h in
      less_nil (price m j) (worth j) (down_of_bid (price m j) (worth j) (accepted x j) (quantity m j) (block_at m j).side b.full b.empty ceiling)

  module _ (q : Fraction) where
    abbrev new : ℕ → Fraction
    new j = energy_worth m (with_energy d q) (block_at m j).unit

    -- it may fall and rise as far as margins go
    floor_least : May q → (j : ℕ) → j < length m.blocks → IsFloor m x j → (e -ℚ q) ≤ℚ margin m d j
    floor_least may j h floor = let b = may.blocks j h in
        floor_out (worth j) (price m j) e q
        (subst (λ t. price m j ≤ℚ t) (worth_beyond m d q (block_at m j).unit)
        (up_of_bid (price m j) (new j) (accepted x j) (quantity m j) (block_at m j).side b.full b.empty floor))

    ceiling_most : May q → (j : ℕ) → j < length m.blocks → IsCeiling m x j → margin m d j ≤ℚ (e -ℚ q)
    ceiling_most may j h ceiling = let b = may.blocks j h in
        ceiling_out (worth j) (price m j) e q
        (subst (λ t. t ≤ℚ price m j) (worth_beyond m d q (block_at m j).unit)
        (down_of_bid (price m j) (new j) (accepted x j) (quantity m j) (block_at m j).side b.full b.empty ceiling))

    may_by : ((j : ℕ) → j < length m.blocks → IsFloor m x j → (e -ℚ q) ≤ℚ margin m d j) → ((j : ℕ) → j < length m.blocks → IsCeiling m x j → margin m d j ≤ℚ (e -ℚ q)) → May q
    may_by up down = supported_at m x d q holds each
      where
        each : (j : ℕ) → j < length m.blocks → BlockSupported m x (with_energy d q) j
        each j h =
            let is = sym (worth_beyond m d q (block_at m j).unit) in
            let floor : IsFloor m x j → price m j ≤ℚ new j = λ k. subst (λ t. price m j ≤ℚ t) is (floor_in (worth j) (price m j) e q (up j h k)) in
            let ceiling : IsCeiling m x j → new j ≤ℚ price m j = λ k. subst (λ t. t ≤ℚ price m j) is (ceiling_in (worth j) (price m j) e q (down j h k)) in
            record {
              full = full_by (price m j) (new j) (accepted x j) (quantity m j) (block_at m j).side floor ceiling;
              empty = empty_by (price m j) (new j) (accepted x j) (quantity m j) (block_at m j).side floor ceiling;
            }

  -- ---- as low as blocks leave it
  module _ (f : Fraction) (by : IsLeastMargin m x d f) where
    lowest_may : May (e -ℚ f)
    lowest_may = may_by (e -ℚ f) (λ j h k. subst (λ t. t ≤ℚ margin m d j) (sym (back e f)) (by.least j h k))
        (λ j h k.
        subst (λ t. margin m d j ≤ℚ t) (sym (back e f))
        (≤ℚ_trans (margin m d j) zero f (down_most j h k) (subst (λ t. zero ≤ℚ t) by.is (up_least by.block by.within by.floor))))

    lowest : IsLeast May (e -ℚ f)
    lowest = record {
      may = lowest_may;
      least = λ q may. left_most e f q (subst (λ t. (e -ℚ q) ≤ℚ t) by.is (floor_least q may by.block by.within by.floor));
    }

  -- ---- without a floor
  module _ (bare : HasNoFloor m x) where
    no_least : HasNoLeast May
    no_least p may = (
      p -ℚ one,
      may_by (p -ℚ one) (λ j h k. absurd (bare j h k)) (λ j h k. ≤ℚ_trans (margin m d j) (e -ℚ p) (e -ℚ (p -ℚ one)) (ceiling_most p may j h k) (less_left p e)),
      below_it p,
    )

    module _ (f : Fraction) (by : IsGreatestMargin m x d f) where
      highest_may : May (e -ℚ f)
      highest_may = may_by (e -ℚ f) (λ j h k. absurd (bare j h k)) (λ j h k. subst (λ t. margin m d j ≤ℚ t) (sym (back e f)) (by.greatest j h k))

      highest : IsGreatest May (e -ℚ f)
      highest = record {
        may = highest_may;
        greatest = λ q may. left_least e f q (subst (λ t. t ≤ℚ (e -ℚ q)) by.is (ceiling_most q may by.block by.within by.ceiling));
      }

    -- ---- nor a ceiling
    module _ (top : HasNoCeiling m x) where
      each_may : (q : Fraction) → May q
      each_may q = may_by q (λ j h k. absurd (bare j h k)) (λ j h k. absurd (top j h k))

      no_greatest : HasNoGreatest May
      no_greatest p may = (p +ℚ one, each_may (p +ℚ one), above_it p)

-- the price by blocks is one that energy may have
pub margins_may : (m : Parts) (x : Dispatch) (d : Duals Fraction) (p : Fraction) → Supports m x d → IsEnergyByMargins m x d p → EnergyMayCost m x d p
margins_may m x d p holds (by_floor f by is) = subst (EnergyMayCost m x d) (sym is) (lowest_may m x d holds f by)
margins_may m x d p holds (by_ceiling bare f by is) = subst (EnergyMayCost m x d) (sym is) (highest_may m x d holds bare f by)
margins_may m x d p holds (by_none bare top is) = each_may m x d holds bare top p

pub law_of_margins : LawOfMargins
law_of_margins m x d p holds (by_floor f by is) = subst (IsEnergyPrice (EnergyMayCost m x d)) (sym is) (least (lowest m x d holds f by))
law_of_margins m x d p holds (by_ceiling bare f by is) = subst (IsEnergyPrice (EnergyMayCost m x d)) (sym is) (greatest (no_least m x d holds bare) (highest m x d holds bare f by))
law_of_margins m x d p holds (by_none bare top is) = neither (no_least m x d holds bare) (no_greatest m x d holds bare top) is
