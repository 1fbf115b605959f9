-- By how much flows exceed limits, and what prices and penalties make of that.
use Rattle.std.specs.Prelude.{◌≡◌, ◌⊎◌, ℤ, pos, ◌≤ℤ◌, Bool, true, false, [], ◌∷◌, Option, Some, None, IfSome, refl}
use Rattle.std.specs.Int.{is_positive}
use Rattle.std.proofs.Common.{arith, ap, sym, ◌∙◌, subst, subst₂, inl, inr}
use Rattle.std.proofs.lemmas.Int.{ints}
use Rattle.fraction_theory.specs.Fraction.{Fraction, whole, neg_ℚ, ◌+ℚ◌, ◌-ℚ◌, ◌*ℚ◌}
use Rattle.fraction_theory.specs.Order.{◌≤ℚ◌, ◌<ℚ◌}
use Rattle.fraction_theory.specs.Signs.{abs_ℚ, part_above}
use Rattle.fraction_theory.proofs.Ring.{by_ring, by_ring1, at, pnil, pone, pneg, ◌⊕◌, ◌⊗◌}
use Rattle.fraction_theory.proofs.FieldLaws.{ring_ℚ, +ℚ_nil}
use Rattle.fraction_theory.proofs.OrderLaws.{by_le1, by_le2, NonNeg-one, NonNeg_from, le_to, <ℚ-≤ℚ, ≤ℚ_refl, ≤ℚ_trans, ≤ℚ_antisym, ≤ℚ-or-<ℚ, ≤ℚ-<ℚ_trans, whole-≤ℚ}
use Rattle.fraction_theory.proofs.SignLaws.{abs_above, abs_opposite, abs_within, part_at_least, part_at_most, part_least, part_of_abs}
use Rattle.market_model.specs.declared.limits.Row.{Row}
use Rattle.market_model.specs.declared.participants.Parts.{Parts}
use Rattle.market_model.specs.Dispatch.{zero, line_at}
use Rattle.market_model.specs.LimitRows.{is_outage, is_soft, limit, limit_of, most_excess, most_flow, mw_or_zero, penalty}
use Rattle.market_model.specs.Market.{IsMarket}
use Rattle.market_model.specs.Optimality.{SideSupported}
use Rattle.market_model.specs.Overrun.{excess_by, overrun, Within}
use Rattle.market_model.specs.Settlement.{priced_flow}
use Rattle.market_model.proofs.LinePenalties.{of_line, penalties}

-- ---- plain numbers
pub nil_or_above : (u : Fraction) → zero ≤ℚ u → (u ≡ zero) ⊎ (zero <ℚ u)
nil_or_above u h = elim (≤ℚ-or-<ℚ u zero) [ inl below ↦ inl (≤ℚ_antisym u zero below h) | inr above ↦ inr above ]

-- products with a price are the same where the numbers are, if it is above 0
pub times_same : (price f g : Fraction) → zero ≤ℚ price → (zero <ℚ price → f ≡ g) → price *ℚ f ≡ price *ℚ g
times_same price f g sign same = elim (nil_or_above price sign) [
  | inl e ↦ by_ring1 ring_ℚ (price ∷ f ∷ g ∷ []) (at 0 ⊗ at 1) (at 0 ⊗ at 2) (at 1 ⊕ pneg (at 2)) (at 0) pnil e refl
  | inr a ↦ ap (λ t. price *ℚ t) (same a)
]

part_within : (f limit : Fraction) → f ≤ℚ limit → part_above (f -ℚ limit) ≡ zero
part_within f limit h = part_at_most (f -ℚ limit) (by_le1 (f ∷ limit ∷ []) (at 0 ⊕ pneg (at 1)) pnil pone (at 0) (at 1) NonNeg-one h refl)

part_beyond : (f limit : Fraction) → limit ≤ℚ f → part_above (f -ℚ limit) ≡ f -ℚ limit
part_beyond f limit h = part_at_least (f -ℚ limit) (by_le1 (f ∷ limit ∷ []) pnil (at 0 ⊕ pneg (at 1)) pone (at 1) (at 0) NonNeg-one h refl)

-- ---- the numbers of a row
-- neither a limit nor a penalty is below 0
module _ (m : Parts) (market : IsMarket m) (r : Row) where
  pub limit_least : zero ≤ℚ limit m r
  limit_least = by (is_outage r.cause)
    where
      stated_least : (mw : Option ℤ) → IfSome mw (λ n. pos 0 ≤ℤ n) → zero ≤ℚ mw_or_zero mw
      stated_least None h = ≤ℚ_refl zero
      stated_least (Some n) h = whole-≤ℚ (pos 0) n h

      by : (post : Bool) → zero ≤ℚ mw_or_zero (limit_of post (line_at m r.line))
      by true = of_line m (λ l. zero ≤ℚ mw_or_zero l.post) (λ l d lt. stated_least _ (market.lines l d lt).post) (≤ℚ_refl zero) r.line
      by false = of_line m (λ l. zero ≤ℚ mw_or_zero l.base) (λ l d lt. stated_least _ (market.lines l d lt).base) (≤ℚ_refl zero) r.line

  pub penalty_least : zero ≤ℚ penalty m r
  penalty_least = whole-≤ℚ (pos 0) _ (penalties m market r).costs

  -- a flow may have at least the limit
  limit_most : limit m r ≤ℚ most_flow m r
  limit_most =
      by_le1 (limit m r ∷ most_excess m r ∷ []) (at 0) (at 0 ⊕ at 1) pone pnil (at 1) NonNeg-one (whole-≤ℚ (pos 0) _ (penalties m market r).exceeds) refl

  -- what is within the limit is within the most that it may be
  pub within_most : (f : Fraction) → Within (limit m r) f → Within (most_flow m r) f
  within_most f w = record {
    above = ≤ℚ_trans (neg_ℚ (most_flow m r)) (neg_ℚ (limit m r)) f
        (by_le1 (limit m r ∷ most_flow m r ∷ []) (pneg (at 1)) (pneg (at 0)) pone (at 0) (at 1) NonNeg-one limit_most refl) w.above;
    below = ≤ℚ_trans f (limit m r) (most_flow m r) w.below limit_most;
  }

  -- a limit that does not give way costs nothing
  pub hard_costs_nothing : is_soft m r ≡ false → penalty m r ≡ zero
  hard_costs_nothing e = ap whole (none_above _ (penalties m market r).costs e)
    where
      none_above : (n : ℤ) → pos 0 ≤ℤ n → is_positive n ≡ false → n ≡ pos 0
      none_above n least e = Prim.grind (arith, ints, least, e)

-- ---- one side of a limit: its price, the flow f towards it that supports the price, and the greatest flow
module _ (price f limit most penalty : Fraction) (costs : zero ≤ℚ penalty) (sign : zero ≤ℚ price) (reached : zero <ℚ price → limit ≤ℚ f) (exceeded : limit <ℚ f → penalty ≤ℚ price) (used_up : penalty <ℚ price → f ≡ most) where
  -- a price of no more than the penalty makes of the flow, less its penalty, what it makes of the limit
  at_limit : price ≤ℚ penalty → price *ℚ f -ℚ penalty *ℚ part_above (f -ℚ limit) ≡ price *ℚ limit
  at_limit low = elim (≤ℚ-or-<ℚ f limit) [
    | inr more ↦ ap (λ t. price *ℚ f -ℚ penalty *ℚ t) (part_beyond f limit (<ℚ-≤ℚ limit f more))
        ∙ by_ring1 ring_ℚ (price ∷ f ∷ limit ∷ penalty ∷ []) (at 0 ⊗ at 1 ⊕ pneg (at 3 ⊗ (at 1 ⊕ pneg (at 2)))) (at 0 ⊗ at 2) (at 1 ⊕ pneg (at 2)) (at 0) (at 3) (≤ℚ_antisym price penalty low (exceeded more)) refl
    | inl within ↦ ap (λ t. price *ℚ f -ℚ penalty *ℚ t) (part_within f limit within)
        ∙ by_ring ring_ℚ (price ∷ f ∷ penalty ∷ []) (at 0 ⊗ at 1 ⊕ pneg (at 2 ⊗ pnil)) (at 0 ⊗ at 1) refl
        ∙ times_same price f limit sign (λ a. ≤ℚ_antisym f limit within (reached a))
  ]

  -- no flow up to the greatest counts for more at the price, less its penalty
  pub side_most : (g : Fraction) → g ≤ℚ most → (price *ℚ g -ℚ penalty *ℚ part_above (g -ℚ limit)) ≤ℚ (price *ℚ f -ℚ penalty *ℚ part_above (f -ℚ limit))
  side_most g within = elim (≤ℚ-or-<ℚ price penalty) [
    | inl low ↦ subst (λ t. (price *ℚ g -ℚ penalty *ℚ part_above (g -ℚ limit)) ≤ℚ t) (sym (at_limit low))
        (by_le2 (price ∷ penalty ∷ g ∷ part_above (g -ℚ limit) ∷ limit ∷ []) (at 0 ⊗ at 2 ⊕ pneg (at 1 ⊗ at 3)) (at 0 ⊗ at 4)
        (at 0) (at 2 ⊕ pneg (at 4)) (at 3) (at 1 ⊕ pneg (at 0)) pnil (at 3)
        (NonNeg_from price sign) (part_least (g -ℚ limit)).1 (le_to price penalty low) (part_least (g -ℚ limit)).0 refl)
    | inr high ↦ subst (λ t. (price *ℚ g -ℚ penalty *ℚ part_above (g -ℚ limit)) ≤ℚ (price *ℚ f -ℚ penalty *ℚ t)) (sym (part_beyond f limit (reached (≤ℚ-<ℚ_trans zero penalty price costs high))))
        (by_le2 (price ∷ penalty ∷ g ∷ part_above (g -ℚ limit) ∷ limit ∷ f ∷ []) (at 0 ⊗ at 2 ⊕ pneg (at 1 ⊗ at 3)) (at 0 ⊗ at 5 ⊕ pneg (at 1 ⊗ (at 5 ⊕ pneg (at 4))))
        (at 1) (at 2 ⊕ pneg (at 4)) (at 3) (at 0 ⊕ pneg (at 1)) (at 2) (at 5)
        (NonNeg_from penalty costs) (part_least (g -ℚ limit)).1 (le_to penalty price (<ℚ-≤ℚ penalty price high)) (subst (λ t. g ≤ℚ t) (sym (used_up high)) within) refl)
  ]

-- ---- a row: the flows f and g and the offset o, at the prices of both sides and less their penalties
pub sides_most : (up down penalty limit f g o : Fraction) → zero ≤ℚ limit
    → (up *ℚ g -ℚ penalty *ℚ part_above (g -ℚ limit)) ≤ℚ (up *ℚ f -ℚ penalty *ℚ part_above (f -ℚ limit))
    → (down *ℚ neg_ℚ g -ℚ penalty *ℚ part_above (neg_ℚ g -ℚ limit)) ≤ℚ (down *ℚ neg_ℚ f -ℚ penalty *ℚ part_above (neg_ℚ f -ℚ limit))
    → ((up -ℚ down) *ℚ (g -ℚ o) -ℚ penalty *ℚ part_above (abs_ℚ g -ℚ limit)) ≤ℚ ((up -ℚ down) *ℚ (f -ℚ o) -ℚ penalty *ℚ part_above (abs_ℚ f -ℚ limit))
sides_most up down penalty limit f g o least upper lower =
    subst₂ (λ s t. ((up -ℚ down) *ℚ (g -ℚ o) -ℚ penalty *ℚ s) ≤ℚ ((up -ℚ down) *ℚ (f -ℚ o) -ℚ penalty *ℚ t)) (sym (part_of_abs g limit least)) (sym (part_of_abs f limit least))
    (by_le2 (up ∷ down ∷ penalty ∷ f ∷ g ∷ o ∷ part_above (g -ℚ limit) ∷ part_above (neg_ℚ g -ℚ limit) ∷ part_above (f -ℚ limit) ∷ part_above (neg_ℚ f -ℚ limit) ∷ [])
    ((at 0 ⊕ pneg (at 1)) ⊗ (at 4 ⊕ pneg (at 5)) ⊕ pneg (at 2 ⊗ (at 6 ⊕ at 7))) ((at 0 ⊕ pneg (at 1)) ⊗ (at 3 ⊕ pneg (at 5)) ⊕ pneg (at 2 ⊗ (at 8 ⊕ at 9)))
    pone (at 0 ⊗ at 4 ⊕ pneg (at 2 ⊗ at 6)) (at 0 ⊗ at 3 ⊕ pneg (at 2 ⊗ at 8)) pone (at 1 ⊗ pneg (at 4) ⊕ pneg (at 2 ⊗ at 7)) (at 1 ⊗ pneg (at 3) ⊕ pneg (at 2 ⊗ at 9))
    NonNeg-one upper NonNeg-one lower refl)

-- ---- what prices are paid for: the limit, or where the flow is beyond it the size of the flow
pub priced_flow-most : (m : Parts) (r : Row) (f : Fraction) → abs_ℚ f ≤ℚ limit m r → priced_flow m r f ≡ limit m r
priced_flow-most m r f h = ap (λ t. limit m r +ℚ t) (part_within (abs_ℚ f) (limit m r) h) ∙ +ℚ_nil (limit m r)

pub priced_flow-within : (m : Parts) (r : Row) (f : Fraction) → Within (limit m r) f → priced_flow m r f ≡ limit m r
priced_flow-within m r f h = priced_flow-most m r f (abs_within f (limit m r) h.above h.below)

reached_flow : (m : Parts) (r : Row) (f : Fraction) → limit m r ≤ℚ abs_ℚ f → priced_flow m r f ≡ abs_ℚ f
reached_flow m r f h = ap (λ t. limit m r +ℚ t) (part_beyond (abs_ℚ f) (limit m r) h) ∙ by_ring ring_ℚ (abs_ℚ f ∷ limit m r ∷ []) (at 1 ⊕ (at 0 ⊕ pneg (at 1))) (at 0) refl

pub priced_flow-beyond : (m : Parts) (r : Row) (f : Fraction) → limit m r <ℚ abs_ℚ f → priced_flow m r f ≡ abs_ℚ f
priced_flow-beyond m r f h = reached_flow m r f (<ℚ-≤ℚ (limit m r) (abs_ℚ f) h)

-- it is no less than the limit
pub priced_flow-least : (m : Parts) (r : Row) (f : Fraction) → limit m r ≤ℚ priced_flow m r f
priced_flow-least m r f = by_le1 (limit m r ∷ excess_by m r f ∷ []) (at 0) (at 0 ⊕ at 1) pone pnil (at 1) NonNeg-one (part_least (overrun m r f)).0 refl

-- a price above 0 is paid for the flow towards its side
pub paid_up : (m : Parts) (r : Row) (price f : Fraction) → zero ≤ℚ limit m r → SideSupported m r price f → price *ℚ priced_flow m r f ≡ price *ℚ f
paid_up m r price f least s = times_same price (priced_flow m r f) f s.sign
    (λ a. let size = abs_above f (≤ℚ_trans zero (limit m r) f least (s.reached a)) in
    reached_flow m r f (subst (λ t. limit m r ≤ℚ t) (sym size) (s.reached a)) ∙ size)

pub paid_down : (m : Parts) (r : Row) (price f : Fraction) → zero ≤ℚ limit m r → SideSupported m r price (neg_ℚ f) → price *ℚ priced_flow m r f ≡ price *ℚ neg_ℚ f
paid_down m r price f least s =
    ap (λ t. price *ℚ (limit m r +ℚ part_above (t -ℚ limit m r))) (sym (abs_opposite f)) ∙ paid_up m r price (neg_ℚ f) least s
