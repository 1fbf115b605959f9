-- One row: how far its flow goes, and its parts above the limit on either side.
use Rattle.std.specs.Prelude.{◌≡◌, ℤ, pos, Bool, true, false, [], ◌∷◌, refl}
use Rattle.std.specs.Int.{is_positive}
use Rattle.std.proofs.Common.{arith, ap, ap₂, sym, ◌∙◌, subst, inl, inr}
use Rattle.std.proofs.lemmas.Int.{ints}
use Rattle.fraction_theory.specs.Fraction.{Fraction, whole, neg_ℚ, ◌+ℚ◌, ◌-ℚ◌}
use Rattle.fraction_theory.specs.Order.{◌≤ℚ◌, ◌<ℚ◌}
use Rattle.fraction_theory.specs.Signs.{part_above}
use Rattle.fraction_theory.proofs.Ring.{by_ring, at, pnil, pone, pneg, ◌⊕◌}
use Rattle.fraction_theory.proofs.FieldLaws.{ring_ℚ, +ℚ_nil}
use Rattle.fraction_theory.proofs.ListSums.{kept}
use Rattle.fraction_theory.proofs.OrderLaws.{by_le1, by_le2, NonNeg-one, NonNeg-plus, <ℚ-≤ℚ, <ℚ-not-≤ℚ, <ℚ_irrefl, not-≤ℚ, <ℚ-≤ℚ_trans, ≤ℚ-<ℚ_trans, ≤ℚ_refl, ≤ℚ_trans, ≤ℚ_of_same, ≤ℚ-or-<ℚ, whole-≤ℚ}
use Rattle.fraction_theory.proofs.SignLaws.{part_at_least, part_at_most, part_least, part_of_abs}
use Rattle.market_model.specs.declared.limits.Row.{Row}
use Rattle.market_model.specs.declared.participants.Parts.{Parts}
use Rattle.market_model.specs.Dispatch.{zero}
use Rattle.market_model.specs.LimitRows.{is_soft, limit, penalty, most_excess, most_flow}
use Rattle.market_model.specs.Lines.{IsPenalty}
use Rattle.market_model.specs.Market.{IsMarket}
use Rattle.market_model.specs.Optimality.{SideSupported}
use Rattle.market_model.specs.Overrun.{excess_by, Within}
use Rattle.market_model.proofs.Excesses.{limit_least}
use Rattle.market_model.proofs.LinePenalties.{penalties}

-- ---- plain numbers
-- a part above 0 is no more than what the number and 0 are
pub part_most : (x most : Fraction) → zero ≤ℚ most → x ≤ℚ most → part_above x ≤ℚ most
part_most x most least h = elim (≤ℚ-or-<ℚ x zero) [
  | inl below ↦ subst (λ t. t ≤ℚ most) (sym (part_at_most x below)) least
  | inr above ↦ subst (λ t. t ≤ℚ most) (sym (part_at_least x (<ℚ-≤ℚ zero x above))) h
]

-- a flow less what is above its limit, and with what is below the opposite
abbrev pub brought_back : Fraction → Fraction → Fraction
brought_back limit f = f +ℚ (part_above (neg_ℚ f -ℚ limit) -ℚ part_above (f -ℚ limit))

-- is within the limit
back_below : (limit f : Fraction) → zero ≤ℚ limit → brought_back limit f ≤ℚ limit
back_below limit f least = elim (≤ℚ-or-<ℚ (neg_ℚ f -ℚ limit) zero) [
  | inl within ↦ subst (λ t. (f +ℚ (t -ℚ over)) ≤ℚ limit) (sym (part_at_most (neg_ℚ f -ℚ limit) within))
      (by_le1 (f ∷ limit ∷ over ∷ []) (at 0 ⊕ (pnil ⊕ pneg (at 2))) (at 1) pone (at 0 ⊕ pneg (at 1)) (at 2) NonNeg-one (part_least (f -ℚ limit)).1 refl)
  | inr beyond ↦ subst (λ t. (f +ℚ (t -ℚ over)) ≤ℚ limit) (sym (part_at_least (neg_ℚ f -ℚ limit) (<ℚ-≤ℚ zero (neg_ℚ f -ℚ limit) beyond)))
      (by_le2 (f ∷ limit ∷ over ∷ []) (at 0 ⊕ ((pneg (at 0) ⊕ pneg (at 1)) ⊕ pneg (at 2))) (at 1) (pone ⊕ pone) pnil (at 1) pone pnil (at 2)
      (NonNeg-plus (whole (pos 1)) (whole (pos 1)) NonNeg-one NonNeg-one) least NonNeg-one (part_least (f -ℚ limit)).0 refl)
]
  where
    over : Fraction
    over = part_above (f -ℚ limit)

pub back_within : (limit f : Fraction) → zero ≤ℚ limit → Within limit (brought_back limit f)
back_within limit f least = record {
  above = by_le1 (limit ∷ f ∷ part_above (neg_ℚ f -ℚ limit) ∷ part_above (f -ℚ limit) ∷ []) (pneg (at 0)) (at 1 ⊕ (at 2 ⊕ pneg (at 3))) pone (pneg (at 1) ⊕ (at 3 ⊕ pneg (at 2))) (at 0) NonNeg-one
      (subst (λ t. (neg_ℚ f +ℚ (part_above (t -ℚ limit) -ℚ part_above (neg_ℚ f -ℚ limit))) ≤ℚ limit) (by_ring ring_ℚ (f ∷ []) (pneg (pneg (at 0))) (at 0) refl) (back_below limit (neg_ℚ f) least)) refl;
  below = back_below limit f least;
}

-- A number z within the limit, with what is over it less what is under: no further from 0 than the limit with the most of these, and its
-- parts beyond the limit are no more than these.
module _ (limit most z over under : Fraction) (within : Within limit z) (over_least : zero ≤ℚ over) (under_least : zero ≤ℚ under) where
  pub spread_within : over ≤ℚ most → under ≤ℚ most → Within (limit +ℚ most) (z +ℚ (over -ℚ under))
  spread_within over_most under_most = record {
    above = by_le2 (limit ∷ most ∷ z ∷ over ∷ under ∷ []) (pneg (at 0 ⊕ at 1)) (at 2 ⊕ (at 3 ⊕ pneg (at 4))) pone (pneg (at 0) ⊕ at 4) (at 2 ⊕ at 1) pone pnil (at 3) NonNeg-one
        (by_le2 (limit ∷ most ∷ z ∷ over ∷ under ∷ []) (pneg (at 0) ⊕ at 4) (at 2 ⊕ at 1) pone (pneg (at 0)) (at 2) pone (at 4) (at 1) NonNeg-one within.above NonNeg-one under_most refl) NonNeg-one over_least refl;
    below = by_le2 (limit ∷ most ∷ z ∷ over ∷ under ∷ []) (at 2 ⊕ (at 3 ⊕ pneg (at 4))) (at 0 ⊕ at 1) pone (at 2 ⊕ at 3) (at 0 ⊕ at 1) pone pnil (at 4) NonNeg-one
        (by_le2 (limit ∷ most ∷ z ∷ over ∷ under ∷ []) (at 2 ⊕ at 3) (at 0 ⊕ at 1) pone (at 2) (at 0) pone (at 3) (at 1) NonNeg-one within.below NonNeg-one over_most refl) NonNeg-one under_least refl;
  }

  pub spread_over : part_above ((z +ℚ (over -ℚ under)) -ℚ limit) ≤ℚ over
  spread_over = part_most ((z +ℚ (over -ℚ under)) -ℚ limit) over over_least
      (by_le2 (limit ∷ z ∷ over ∷ under ∷ []) ((at 1 ⊕ (at 2 ⊕ pneg (at 3))) ⊕ pneg (at 0)) (at 2) pone (at 1) (at 0) pone pnil (at 3) NonNeg-one within.below NonNeg-one under_least refl)

  pub spread_under : part_above (neg_ℚ (z +ℚ (over -ℚ under)) -ℚ limit) ≤ℚ under
  spread_under = part_most (neg_ℚ (z +ℚ (over -ℚ under)) -ℚ limit) under under_least
      (by_le2 (limit ∷ z ∷ over ∷ under ∷ []) (pneg (at 1 ⊕ (at 2 ⊕ pneg (at 3))) ⊕ pneg (at 0)) (at 3) pone (pneg (at 0)) (at 1) pone pnil (at 2) NonNeg-one within.above NonNeg-one over_least refl)

-- what is kept where a test holds is the same, or between 0 and the most, where it is so then
pub kept_where : (b : Bool) {x y : Fraction} → (b ≡ true → x ≡ y) → kept b x ≡ kept b y
kept_where true h = h refl
kept_where false h = refl

pub kept_nil : (b : Bool) {x : Fraction} → (b ≡ true → x ≡ zero) → kept b x ≡ zero
kept_nil true h = h refl
kept_nil false h = refl

pub kept_between : (b : Bool) (x most : Fraction) → zero ≤ℚ most → (b ≡ true → zero ≤ℚ x) → (b ≡ true → x ≤ℚ most) → (zero ≤ℚ kept b x) × (kept b x ≤ℚ most)
kept_between true x most least low high = (low refl, high refl)
kept_between false x most least low high = (≤ℚ_refl zero, least)

-- ---- the numbers of a row
module _ (m : Parts) (market : IsMarket m) (r : Row) where
  pub most_excess_least : zero ≤ℚ most_excess m r
  most_excess_least = whole-≤ℚ (pos 0) _ (penalties m market r).exceeds

  -- a limit that does not give way is not exceeded
  pub hard_stands : is_soft m r ≡ false → most_excess m r ≡ zero
  hard_stands e = ap whole (none _ _ (penalties m market r) e)
    where
      none : (price excess : ℤ) → IsPenalty price excess → is_positive price ≡ false → excess ≡ pos 0
      none price excess h e = let low = h.exceeds in let priced = h.priced in Prim.grind (arith, ints, low, priced, e)

  -- so what is kept of a soft one is the most of its excess where it is so
  pub kept_most : {x : Fraction} → (is_soft m r ≡ true → x ≡ most_excess m r) → kept (is_soft m r) x ≡ most_excess m r
  kept_most {x} h = by (is_soft m r) refl
    where
      by : (b : Bool) → is_soft m r ≡ b → kept b x ≡ most_excess m r
      by true e = h e
      by false e = sym (hard_stands e)

  -- its excess is what is beyond the limit on either side
  pub excess-parts : (f : Fraction) → excess_by m r f ≡ part_above (f -ℚ limit m r) +ℚ part_above (neg_ℚ f -ℚ limit m r)
  excess-parts f = part_of_abs f (limit m r) (limit_least m market r)

  -- what a soft row brings back is within the limit, and a hard one goes no further
  pub kept_within : (f : Fraction) → Within (most_flow m r) f → Within (limit m r) (f +ℚ (kept (is_soft m r) (part_above (neg_ℚ f -ℚ limit m r)) -ℚ kept (is_soft m r) (part_above (f -ℚ limit m r))))
  kept_within f within = by (is_soft m r) refl
    where
      by : (b : Bool) → is_soft m r ≡ b → Within (limit m r) (f +ℚ (kept b (part_above (neg_ℚ f -ℚ limit m r)) -ℚ kept b (part_above (f -ℚ limit m r))))
      by true e = back_within (limit m r) f (limit_least m market r)
      by false e = subst (Within (limit m r)) (by_ring ring_ℚ (f ∷ []) (at 0) (at 0 ⊕ (pnil ⊕ pneg pnil)) refl)
          (subst (λ t. Within t f) (ap (λ t. limit m r +ℚ t) (hard_stands e) ∙ +ℚ_nil (limit m r)) within)

-- ---- a side of a row: its price is what a MW of flow towards it costs where that is above 0, and the flow z within the limit, what is over
-- it and what is under stand where that and the penalty ask for
module _ (m : Parts) (r : Row) (price cost f z over under : Fraction) (costs : zero ≤ℚ penalty m r) (flows : f ≡ z +ℚ (over -ℚ under)) (below : z ≤ℚ limit m r)
    (over_least : zero ≤ℚ over) (under_least : zero ≤ℚ under) (sign : zero ≤ℚ price) (most : cost ≤ℚ price) (is : zero <ℚ price → price ≡ cost) (at_limit : zero <ℚ cost → z ≡ limit m r)
    (no_over : cost <ℚ penalty m r → over ≡ zero) (all_over : penalty m r <ℚ cost → over ≡ most_excess m r) (no_under : neg_ℚ cost <ℚ penalty m r → under ≡ zero) where
  -- where it is priced the flow is the limit and what is over it
  reached_by : zero <ℚ price → f ≡ limit m r +ℚ over
  reached_by l =
      let above : zero <ℚ cost = subst (λ t. zero <ℚ t) (is l) l in
      let opposite : neg_ℚ cost <ℚ zero = not-≤ℚ zero (neg_ℚ cost) (λ n. <ℚ-not-≤ℚ zero cost above (by_le1 (cost ∷ []) (at 0) pnil pone pnil (pneg (at 0)) NonNeg-one n refl)) in
      flows ∙ ap₂ (λ (a b : Fraction). a +ℚ (over -ℚ b)) (at_limit above) (no_under (<ℚ-≤ℚ_trans (neg_ℚ cost) zero (penalty m r) opposite costs))
      ∙ by_ring ring_ℚ (limit m r ∷ over ∷ []) (at 0 ⊕ (at 1 ⊕ pneg pnil)) (at 0 ⊕ at 1) refl

  pub side_stands : SideSupported m r price f
  side_stands = record {
    sign = sign;
    reached = λ l. subst (λ t. limit m r ≤ℚ t) (sym (reached_by l)) (by_le1 (limit m r ∷ over ∷ []) (at 0) (at 0 ⊕ at 1) pone pnil (at 1) NonNeg-one over_least refl);
    exceeded = λ beyond. elim (≤ℚ-or-<ℚ (penalty m r) cost) [
      | inl pays ↦ ≤ℚ_trans (penalty m r) cost price pays most
      | inr less ↦ absurd (<ℚ-not-≤ℚ (limit m r) f beyond
          (subst (λ t. t ≤ℚ limit m r) (sym (flows ∙ ap (λ t. z +ℚ (t -ℚ under)) (no_over less)))
          (by_le2 (z ∷ under ∷ limit m r ∷ []) (at 0 ⊕ (pnil ⊕ pneg (at 1))) (at 2) pone (at 0) (at 2) pone pnil (at 1) NonNeg-one below NonNeg-one under_least refl)))
    ];
    used_up = λ l. let above : zero <ℚ price = ≤ℚ-<ℚ_trans zero (penalty m r) price costs l in
        reached_by above ∙ ap (λ t. limit m r +ℚ t) (all_over (subst (λ t. penalty m r <ℚ t) (is above) l));
  }

-- a limit that is kept needs no price
pub side_unpriced : (m : Parts) (r : Row) (price f : Fraction) → zero ≤ℚ penalty m r → f ≤ℚ limit m r → price ≡ zero → SideSupported m r price f
side_unpriced m r price f costs below e = record {
  sign = ≤ℚ_of_same zero price (sym e);
  reached = λ l. absurd (<ℚ_irrefl zero (subst (λ t. zero <ℚ t) e l));
  exceeded = λ beyond. absurd (<ℚ-not-≤ℚ (limit m r) f beyond below);
  used_up = λ l. absurd (<ℚ-not-≤ℚ (penalty m r) price l (subst (λ t. t ≤ℚ penalty m r) (sym e) costs));
}
