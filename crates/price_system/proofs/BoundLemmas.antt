-- What the bounds of the system of prices say: just what it takes that prices support the dispatch, within the caps.
use Rattle.std.specs.Prelude.{◌≡◌, Bool, if◌then◌else◌, not, true, false}
use Rattle.std.proofs.Common.{sym, subst, subst₂, inl, inr, ap, ◌∙◌}
use Rattle.fraction_theory.specs.Fraction.{Fraction, neg_ℚ}
use Rattle.fraction_theory.specs.Order.{◌<ℚ◌, ◌≤ℚ◌}
use Rattle.fraction_theory.proofs.OrderLaws.{<ℚ-not-≤ℚ, ≤ℚ-or-<ℚ, ≤ℚ_trans, ≤ℚ-<ℚ_trans}
use Rattle.market_model.specs.declared.limits.Row.{Row}
use Rattle.market_model.specs.declared.participants.Parts.{Parts}
use Rattle.market_model.specs.declared.participants.Side.{Side}
use Rattle.market_model.specs.declared.participants.Side.TheVariants.{Sell, Buy}
use Rattle.market_model.specs.Dispatch.{zero}
use Rattle.market_model.specs.LimitRows.{limit, most_flow, penalty}
use Rattle.market_model.specs.Market.{IsMarket}
use Rattle.market_model.specs.Optimality.{Gains, Loses, SideSupported}
use Rattle.market_model.proofs.Excesses.{penalty_least}
use Rattle.limit_screen.specs.Reaching.{are_same, reaches}
use Rattle.limit_screen.proofs.ReachLemmas.{below_tells, same_tells}
use Rattle.price_system.specs.PriceSystem.{Caps, greatest_worth, least_by, least_price, least_worth, most_by, most_price}
use Rattle.fraction_theory.specs.Signs.{abs_ℚ}
use Rattle.price_system.proofs.SizeLemmas.{at_most_size, opposite_at_most}

-- ---- a flow that does not reach its limit
below_limit : (f l : Fraction) → reaches f l ≡ false → abs_ℚ f <ℚ l
below_limit f l e = elim (below_tells (abs_ℚ f) l) [
  | inl t ↦ t.1
  | inr t ↦ let wrong : true ≡ false = sym (ap not t.0) ∙ e in absurd cc
]

pub flow_below : (f l : Fraction) → reaches f l ≡ false → f <ℚ l
flow_below f l e = ≤ℚ-<ℚ_trans f (abs_ℚ f) l (at_most_size f) (below_limit f l e)

pub opposite_below : (f l : Fraction) → reaches f l ≡ false → neg_ℚ f <ℚ l
opposite_below f l e = ≤ℚ-<ℚ_trans (neg_ℚ f) (abs_ℚ f) l (opposite_at_most f) (below_limit f l e)

-- ---- a side of a limit
module _ (m : Parts) (c : Caps) (r : Row) (p f : Fraction) where
  module _ (market : IsMarket m) (low : least_price m r f ≤ℚ p) (high : p ≤ℚ most_price m c r f) where
    side_sign : zero ≤ℚ p
    side_sign = elim (below_tells (limit m r) f) [
      | inl t ↦ ≤ℚ_trans zero (penalty m r) p (penalty_least m market r) (subst (λ (b : Bool). (if b then penalty m r else zero) ≤ℚ p) t.0 low)
      | inr t ↦ subst (λ (b : Bool). (if b then penalty m r else zero) ≤ℚ p) t.0 low
    ]

    side_reached : zero <ℚ p → limit m r ≤ℚ f
    side_reached above = elim (below_tells f (limit m r)) [
      | inl t ↦ absurd (<ℚ-not-≤ℚ zero p above (subst (λ (b : Bool). p ≤ℚ (if b then zero else if are_same f (most_flow m r) then c.most else penalty m r)) t.0 high))
      | inr t ↦ t.1
    ]

    side_exceeded : limit m r <ℚ f → penalty m r ≤ℚ p
    side_exceeded beyond = elim (below_tells (limit m r) f) [
      | inl t ↦ subst (λ (b : Bool). (if b then penalty m r else zero) ≤ℚ p) t.0 low
      | inr t ↦ absurd (<ℚ-not-≤ℚ (limit m r) f beyond t.1)
    ]

    side_used : penalty m r <ℚ p → f ≡ most_flow m r
    side_used above = elim (below_tells f (limit m r)) [
      | inl t ↦ absurd (<ℚ-not-≤ℚ (penalty m r) p above
          (≤ℚ_trans p zero (penalty m r)
          (subst (λ (b : Bool). p ≤ℚ (if b then zero else if are_same f (most_flow m r) then c.most else penalty m r)) t.0 high)
          (penalty_least m market r)))
      | inr t ↦ elim (same_tells f (most_flow m r)) [
        | inl k ↦ k.1
        | inr k ↦ absurd (<ℚ-not-≤ℚ (penalty m r) p above (subst₂ (λ (a b : Bool). p ≤ℚ (if a then zero else if b then c.most else penalty m r)) t.0 k.0 high))
      ]
    ]

    pub side_in : SideSupported m r p f
    side_in = record { sign = side_sign; reached = side_reached; exceeded = side_exceeded; used_up = side_used }

  module _ (supported : SideSupported m r p f) (capped : p ≤ℚ c.most) where
    pub side_least : least_price m r f ≤ℚ p
    side_least = elim (below_tells (limit m r) f) [
      | inl t ↦ subst (λ (b : Bool). (if b then penalty m r else zero) ≤ℚ p) (sym t.0) (supported.exceeded t.1)
      | inr t ↦ subst (λ (b : Bool). (if b then penalty m r else zero) ≤ℚ p) (sym t.0) supported.sign
    ]

    not_above : (x : Fraction) → ¬ (x <ℚ p) → p ≤ℚ x
    not_above x n = elim (≤ℚ-or-<ℚ p x) [ inl l ↦ l | inr l ↦ absurd (n l) ]

    pub side_most : p ≤ℚ most_price m c r f
    side_most = elim (below_tells f (limit m r)) [
      | inl t ↦ subst (λ (b : Bool). p ≤ℚ (if b then zero else if are_same f (most_flow m r) then c.most else penalty m r)) (sym t.0)
          (not_above zero (λ above. <ℚ-not-≤ℚ f (limit m r) t.1 (supported.reached above)))
      | inr t ↦ elim (same_tells f (most_flow m r)) [
        | inl k ↦ subst₂ (λ (a b : Bool). p ≤ℚ (if a then zero else if b then c.most else penalty m r)) (sym t.0) (sym k.0) capped
        | inr k ↦ subst₂ (λ (a b : Bool). p ≤ℚ (if a then zero else if b then c.most else penalty m r)) (sym t.0) (sym k.0) (not_above (penalty m r) (λ above. k.1 (supported.used_up above)))
      ]
    ]

-- ---- a price that is 0 where two numbers are not the same, as that of a room and that of reserve
module _ (cap p a b : Fraction) where
  pub used_in : p ≤ℚ (if are_same a b then cap else zero) → zero <ℚ p → a ≡ b
  used_in high above = elim (same_tells a b) [
    | inl t ↦ t.1
    | inr t ↦ absurd (<ℚ-not-≤ℚ zero p above (subst (λ (k : Bool). p ≤ℚ (if k then cap else zero)) t.0 high))
  ]

  pub used_most : (zero <ℚ p → a ≡ b) → p ≤ℚ cap → p ≤ℚ (if are_same a b then cap else zero)
  used_most same capped = elim (same_tells a b) [
    | inl t ↦ subst (λ (k : Bool). p ≤ℚ (if k then cap else zero)) (sym t.0) capped
    | inr t ↦ subst (λ (k : Bool). p ≤ℚ (if k then cap else zero)) (sym t.0) (elim (≤ℚ-or-<ℚ p zero) [ inl l ↦ l | inr l ↦ absurd (t.1 (same l)) ])
  ]

-- ---- what a MW of a block or an offer is worth
module _ (w price cap a b : Fraction) where
  -- it is above the price where the two are the same alone, and so below it
  above_in : w ≤ℚ most_by (are_same a b) price cap → price <ℚ w → a ≡ b
  above_in high above = elim (same_tells a b) [
    | inl t ↦ t.1
    | inr t ↦ absurd (<ℚ-not-≤ℚ price w above (subst (λ (k : Bool). w ≤ℚ most_by k price cap) t.0 high))
  ]

  below_in : least_by (are_same a b) price cap ≤ℚ w → w <ℚ price → a ≡ b
  below_in low below = elim (same_tells a b) [
    | inl t ↦ t.1
    | inr t ↦ absurd (<ℚ-not-≤ℚ w price below (subst (λ (k : Bool). least_by k price cap ≤ℚ w) t.0 low))
  ]

  above_out : (price <ℚ w → a ≡ b) → w ≤ℚ cap → w ≤ℚ most_by (are_same a b) price cap
  above_out same capped = elim (same_tells a b) [
    | inl t ↦ subst (λ (k : Bool). w ≤ℚ most_by k price cap) (sym t.0) capped
    | inr t ↦ subst (λ (k : Bool). w ≤ℚ most_by k price cap) (sym t.0) (elim (≤ℚ-or-<ℚ w price) [ inl l ↦ l | inr l ↦ absurd (t.1 (same l)) ])
  ]

  below_out : (w <ℚ price → a ≡ b) → neg_ℚ cap ≤ℚ w → least_by (are_same a b) price cap ≤ℚ w
  below_out same capped = elim (same_tells a b) [
    | inl t ↦ subst (λ (k : Bool). least_by k price cap ≤ℚ w) (sym t.0) capped
    | inr t ↦ subst (λ (k : Bool). least_by k price cap ≤ℚ w) (sym t.0) (elim (≤ℚ-or-<ℚ price w) [ inl l ↦ l | inr l ↦ absurd (t.1 (same l)) ])
  ]

module _ (price cap w a none all : Fraction) where
  abbrev least : Side → Fraction
  least side = least_worth side (are_same a none) (are_same a all) price cap

  abbrev greatest : Side → Fraction
  greatest side = greatest_worth side (are_same a none) (are_same a all) price cap

  pub gains_in : (side : Side) → least side ≤ℚ w → w ≤ℚ greatest side → Gains side price w → a ≡ all
  gains_in Sell low high gains = above_in w price cap a all high gains
  gains_in Buy low high gains = below_in w price cap a all low gains

  pub loses_in : (side : Side) → least side ≤ℚ w → w ≤ℚ greatest side → Loses side price w → a ≡ none
  loses_in Sell low high loses = below_in w price cap a none low loses
  loses_in Buy low high loses = above_in w price cap a none high loses

  pub worth_least : (side : Side) → (Gains side price w → a ≡ all) → (Loses side price w → a ≡ none) → neg_ℚ cap ≤ℚ w → least side ≤ℚ w
  worth_least Sell gains loses capped = below_out w price cap a none loses capped
  worth_least Buy gains loses capped = below_out w price cap a all gains capped

  pub worth_greatest : (side : Side) → (Gains side price w → a ≡ all) → (Loses side price w → a ≡ none) → w ≤ℚ cap → w ≤ℚ greatest side
  worth_greatest Sell gains loses capped = above_out w price cap a all gains capped
  worth_greatest Buy gains loses capped = above_out w price cap a none loses capped
