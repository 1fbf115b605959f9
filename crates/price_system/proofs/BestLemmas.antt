-- The best points have the least sum of prices, and their duals are proper: of a limit with prices on both of its sides both could be less.
use Rattle.std.specs.Prelude.{◌≡◌, ◌⊎◌, ℕ, ◌&&◌, pos, Bool, true, false, List, [], ◌∷◌, if◌then◌else◌, Contains, refl}
use Rattle.std.proofs.Common.{arith, ap, ap₂, sym, ◌∙◌, subst, subst₂, inl, inr}
use Rattle.fraction_theory.specs.Fraction.{Fraction, whole, neg_ℚ, ◌+ℚ◌, ◌-ℚ◌, ◌*ℚ◌}
use Rattle.fraction_theory.specs.Order.{◌<ℚ◌, ◌≤ℚ◌}
use Rattle.fraction_theory.specs.Signs.{part_above}
use Rattle.fraction_theory.specs.Sums.{sum_by}
use Rattle.fraction_theory.proofs.FieldLaws.{ring_ℚ}
use Rattle.fraction_theory.proofs.ListSums.{Contains-cases, Contains-cons, Contains-head, sum_by-members}
use Rattle.fraction_theory.proofs.OrderLaws.{<ℚ-not-≤ℚ, <ℚ_irrefl, NonNeg-one, NonNeg-plus, by_le1, by_le2, ≤ℚ_antisym, ≤ℚ_total, ≤ℚ_trans}
use Rattle.fraction_theory.proofs.Ring.{by_ring, at, pnil, pone, pneg, ◌⊕◌}
use Rattle.fraction_theory.proofs.SignLaws.{part_at_least, part_at_most, part_least}
use Rattle.fraction_theory.proofs.SumLaws.{sum_by-≤}
use Rattle.linear_system.specs.Systems.{InBounds, MeetsRows, System, activity}
use Rattle.simplex_theory.specs.States.{IsBest}
use Rattle.market_model.specs.declared.answered.Duals.{Duals}
use Rattle.market_model.specs.declared.limits.Row.{Row}
use Rattle.market_model.specs.declared.participants.Parts.{Parts}
use Rattle.market_model.specs.Dispatch.{Dispatch, block_at, offer_at, unit_at, zero}
use Rattle.market_model.specs.LimitRows.{flow, limit, penalty, row_id, rows, unit_factor}
use Rattle.market_model.specs.Market.{IsMarket}
use Rattle.market_model.specs.Optimality.{IsOneSided, ProperDuals, SideSupported, Supports, down_of, energy_worth, net_shadow_price, room_price, room_price_in, up_of}
use Rattle.market_model.specs.Reserves.{offers_reserve, reserve, reserve_need, reserve_units}
use Rattle.market_model.proofs.Excesses.{limit_least, nil_or_above}
use Rattle.market_model.proofs.RoomLemmas.{offers-listed}
use Rattle.market_model.proofs.RowLaws.{along}
use Rattle.market_system.proofs.DualLists.{reserve_unit-below}
use Rattle.one_price.specs.FirstPrices.{sum_of_prices}
use Rattle.price_system.specs.Laws.{LawOfBestPoints}
use Rattle.limit_screen.specs.Reaching.{are_same}
use Rattle.price_system.specs.PriceSystem.{Caps, duals_of, high, least_price, low, most_reserve_price, name, point_of, price_system, room_name, variable_of}
use Rattle.price_system.specs.declared.variables.Variable.{Variable}
use Rattle.price_system.specs.declared.variables.Variable.TheVariants.{Energy, Reserve, Up, Down, Room, Sum, Block, Offer}
use Rattle.price_system.proofs.BackLemmas.{law_of_duals, law_of_points}
use Rattle.limit_screen.proofs.ReachLemmas.{below_tells}
use Rattle.price_system.proofs.CapLemmas.{by_parts}
use Rattle.price_system.proofs.DualLemmas.{agrees-made, down-made, proper-made, room-made, up-made}
use Rattle.price_system.proofs.NameLemmas.{IsVariable, variable_at}
use Rattle.price_system.proofs.PointLaws.{block_worth, by_row, by_variable, greatest, least, offer_worth, price_most, sum_worth}
use Rattle.price_system.proofs.SizeLemmas.{nil_plus, opposite, opposite_back, opposite_nil, sum_least}
use Rattle.price_system.proofs.SumLemmas.{law_of_the_sum}
use Rattle.price_system.proofs.WorthLemmas.{Agrees, activity-block, activity-offer, activity-sum, apart, high-at, low-at}

-- ---- sums
-- where no number of the one is more than that of the other, and their sum is no less, each is no less
each_no_less : {X : Type 0} (f g : X → Fraction) (xs : List X) → ((x : X) → Contains xs x → g x ≤ℚ f x) → sum_by f xs ≤ℚ sum_by g xs → (x : X) → Contains xs x → f x ≤ℚ g x
each_no_less f g [] less sums x c = absurd (Prim.omega (arith, c.1))
each_no_less {X} f g (y ∷ ys) less sums x c = elim (Contains-cases y ys x c) [
  | inl e ↦ subst (λ (z : X). f z ≤ℚ g z) e first
  | inr k ↦ each_no_less f g ys (λ z l. less z (Contains-cons y ys z l)) rest x k
]
  where
    tails : sum_by g ys ≤ℚ sum_by f ys
    tails = sum_by-≤ g f ys (along (λ z. g z ≤ℚ f z) ys (λ z l. less z (Contains-cons y ys z l)))

    first : f y ≤ℚ g y
    first = by_le2 (f y ∷ g y ∷ sum_by f ys ∷ sum_by g ys ∷ []) (at 0) (at 1) pone (at 0 ⊕ at 2) (at 1 ⊕ at 3) pone (at 3) (at 2) NonNeg-one sums NonNeg-one tails refl

    rest : sum_by f ys ≤ℚ sum_by g ys
    rest = by_le2 (f y ∷ g y ∷ sum_by f ys ∷ sum_by g ys ∷ []) (at 2) (at 3) pone (at 0 ⊕ at 2) (at 1 ⊕ at 3) pone (at 1) (at 0) NonNeg-one sums NonNeg-one (less y (Contains-head y ys)) refl

-- ---- two prices and what is left of each without the other
abbrev left_of : Fraction → Fraction → Fraction
left_of p q = part_above (p -ℚ q)

module _ (p q : Fraction) where
  less_nil : p ≤ℚ q → (p -ℚ q) ≤ℚ zero
  less_nil h = by_le1 (p ∷ q ∷ []) (at 0 ⊕ pneg (at 1)) pnil pone (at 0) (at 1) NonNeg-one h refl

  nil_less : q ≤ℚ p → zero ≤ℚ (p -ℚ q)
  nil_less h = by_le1 (p ∷ q ∷ []) pnil (at 0 ⊕ pneg (at 1)) pone (at 1) (at 0) NonNeg-one h refl

  left_none : p ≤ℚ q → left_of p q ≡ zero
  left_none h = part_at_most (p -ℚ q) (less_nil h)

  left_some : q ≤ℚ p → left_of p q ≡ p -ℚ q
  left_some h = part_at_least (p -ℚ q) (nil_less h)

  left_most : zero ≤ℚ p → zero ≤ℚ q → left_of p q ≤ℚ p
  left_most above other = elim (≤ℚ_total p q) [
    | inl h ↦ subst (λ t. t ≤ℚ p) (sym (left_none h)) above
    | inr h ↦ subst (λ t. t ≤ℚ p) (sym (left_some h)) (by_le1 (p ∷ q ∷ []) (at 0 ⊕ pneg (at 1)) (at 0) pone pnil (at 1) NonNeg-one other refl)
  ]

module _ (p q : Fraction) where
  -- what is left of both is one price, and their difference is the same
  left_net : left_of p q -ℚ left_of q p ≡ p -ℚ q
  left_net = elim (≤ℚ_total p q) [
    | inl h ↦ ap₂ ◌-ℚ◌ (left_none p q h) (left_some q p h) ∙ by_ring ring_ℚ (p ∷ q ∷ []) (pnil ⊕ pneg (at 1 ⊕ pneg (at 0))) (at 0 ⊕ pneg (at 1)) refl
    | inr h ↦ ap₂ ◌-ℚ◌ (left_some p q h) (left_none q p h) ∙ by_ring ring_ℚ (p ∷ q ∷ []) ((at 0 ⊕ pneg (at 1)) ⊕ pneg pnil) (at 0 ⊕ pneg (at 1)) refl
  ]

  left_both : zero ≤ℚ p → zero ≤ℚ q → (left_of p q +ℚ left_of q p) ≤ℚ (p +ℚ q)
  left_both above other =
      by_le2 (p ∷ q ∷ left_of p q ∷ left_of q p ∷ []) (at 2 ⊕ at 3) (at 0 ⊕ at 1) pone (at 2) (at 0) pone (at 3) (at 1)
      NonNeg-one (left_most p q above other) NonNeg-one (left_most q p other above) refl

  doubled : (a : Fraction) → zero ≤ℚ a → (a +ℚ a) ≤ℚ zero → a ≡ zero
  doubled a above h = ≤ℚ_antisym a zero (by_le2 (a ∷ []) (at 0) pnil pone (at 0 ⊕ at 0) pnil pone pnil (at 0) NonNeg-one h NonNeg-one above refl) above

  -- where they are no more than what is left, one of them is 0
  one_nil : zero ≤ℚ p → zero ≤ℚ q → (p +ℚ q) ≤ℚ (left_of p q +ℚ left_of q p) → (p ≡ zero) ⊎ (q ≡ zero)
  one_nil above other h = elim (≤ℚ_total p q) [
    | inl l ↦ inl (doubled p above
        (let k : (p +ℚ q) ≤ℚ (zero +ℚ (q -ℚ p)) = subst (λ t. (p +ℚ q) ≤ℚ t) (ap₂ ◌+ℚ◌ (left_none p q l) (left_some q p l)) h in
        by_le1 (p ∷ q ∷ []) (at 0 ⊕ at 0) pnil pone (at 0 ⊕ at 1) (pnil ⊕ (at 1 ⊕ pneg (at 0))) NonNeg-one k refl))
    | inr l ↦ inr (doubled q other
        (let k : (p +ℚ q) ≤ℚ ((p -ℚ q) +ℚ zero) = subst (λ t. (p +ℚ q) ≤ℚ t) (ap₂ ◌+ℚ◌ (left_some p q l) (left_none q p l)) h in
        by_le1 (p ∷ q ∷ []) (at 1 ⊕ at 1) pnil pone (at 0 ⊕ at 1) ((at 0 ⊕ pneg (at 1)) ⊕ pnil) NonNeg-one k refl))
  ]

-- what is left of a price is no less than the bound of its side
left_least : (m : Parts) (market : IsMarket m) (r : Row) (p q f : Fraction) → SideSupported m r p f → zero ≤ℚ q → (zero <ℚ q → limit m r ≤ℚ neg_ℚ f) → least_price m r f ≤ℚ left_of p q
left_least m market r p q f supported sign other = elim (below_tells (limit m r) f) [
  | inl t ↦ subst (λ (b : Bool). (if b then penalty m r else zero) ≤ℚ left_of p q) (sym t.0)
      (≤ℚ_trans (penalty m r) p (left_of p q) (supported.exceeded t.1)
      (subst (λ a. a ≤ℚ left_of p q) (ap (λ a. p -ℚ a) (none t.1) ∙ by_ring ring_ℚ (p ∷ []) (at 0 ⊕ pneg pnil) (at 0) refl) (part_least (p -ℚ q)).1))
  | inr t ↦ subst (λ (b : Bool). (if b then penalty m r else zero) ≤ℚ left_of p q) (sym t.0) (part_least (p -ℚ q)).0
]
  where
    -- a flow beyond the limit does not reach it on the other side
    none : limit m r <ℚ f → q ≡ zero
    none beyond = elim (nil_or_above q sign) [
      | inl e ↦ e
      | inr above ↦ absurd (<ℚ-not-≤ℚ (limit m r) f beyond
          (by_le2 (limit m r ∷ f ∷ []) (at 1) (at 0) (pone ⊕ pone) pnil (at 0) pone (at 0) (pneg (at 1))
          (NonNeg-plus (whole (pos 1)) (whole (pos 1)) NonNeg-one NonNeg-one) (limit_least m market r) NonNeg-one (other above) refl))
    ]

-- ---- a best point
module _ (m : Parts) (x : Dispatch) (c : Caps) (v : ℕ → Fraction) (market : IsMarket m) (best : IsBest (price_system m x c) v) where
  abbrev s : System
  s = price_system m x c

  abbrev d : Duals Fraction
  d = duals_of m v

  abbrev p : Row → Fraction
  p r = up_of m d r

  abbrev q : Row → Fraction
  q r = down_of m d r

  agrees : Agrees m v d
  agrees = agrees-made m market v

  holds : Supports m x d
  holds = law_of_points m x c v market best.meets best.within

  -- what the sum comes to where each limit has what is left of its prices
  abbrev left_both_of : Row → Fraction
  left_both_of r = left_of (p r) (q r) +ℚ left_of (q r) (p r)

  abbrev rooms_sum : Fraction
  rooms_sum = sum_by (room_price m d) (reserve_units m)

  abbrev net_sum : Fraction
  net_sum = (sum_by left_both_of (rows m) +ℚ rooms_sum) +ℚ d.reserve

  -- the point of what is left of the prices of each limit
  abbrev net : Variable → Fraction
  net Energy = v 0
  net Reserve = v 1
  net (Up r) = neg_ℚ (left_of (p r) (q r))
  net (Down r) = neg_ℚ (left_of (q r) (p r))
  net (Room u) = v (room_name m u)
  net Sum = neg_ℚ net_sum
  net (Block j) = v (name m (Block j))
  net (Offer n) = v (name m (Offer n))

  abbrev point : ℕ → Fraction
  point w = net (variable_of m w)

  abbrev e : Duals Fraction
  e = duals_of m point

  point_at : (w : Variable) → IsVariable m w → point (name m w) ≡ net w
  point_at w is = ap net (variable_at m (apart m x c market) w is)

  twice : (a : Fraction) → neg_ℚ (neg_ℚ a) ≡ a
  twice a = by_ring ring_ℚ (a ∷ []) (pneg (pneg (at 0))) (at 0) refl

  -- its prices
  up_left : (r : Row) → Contains (rows m) r → up_of m e r ≡ left_of (p r) (q r)
  up_left r k = up-made m market point r k ∙ ap neg_ℚ (point_at (Up r) k) ∙ twice (left_of (p r) (q r))

  down_left : (r : Row) → Contains (rows m) r → down_of m e r ≡ left_of (q r) (p r)
  down_left r k = down-made m market point r k ∙ ap neg_ℚ (point_at (Down r) k) ∙ twice (left_of (q r) (p r))

  net_same : (r : Row) → Contains (rows m) r → net_shadow_price m e r ≡ net_shadow_price m d r
  net_same r k = ap₂ ◌-ℚ◌ (up_left r k) (down_left r k) ∙ left_net (p r) (q r)

  listed_same : (u : ℕ) → Contains (reserve_units m) u → room_price m e u ≡ room_price m d u
  listed_same u k = room-made m market point u k ∙ ap neg_ℚ (point_at (Room u) k) ∙ sym (room-made m market v u k)

  room_same : (u : ℕ) → room_price m e u ≡ room_price m d u
  room_same u = by (offers_reserve m u) refl
    where
      by : (b : Bool) → offers_reserve m u ≡ b → room_price m e u ≡ room_price m d u
      by true h = listed_same u (offers-listed m u (reserve_unit-below m market u h) h)
      by false h = none e h ∙ sym (none d h)
        where
          none : (f : Duals Fraction) → offers_reserve m u ≡ false → room_price m f u ≡ zero
          none f k = ap (λ (b : Bool). if b then room_price_in f.rooms (unit_at m u).row else zero) k

  -- so MW are worth the same
  worth_same : (u : ℕ) → energy_worth m e u ≡ energy_worth m d u
  worth_same u =
      by_parts m e u
      ∙ ap₂ (λ (a b : Fraction). (d.energy +ℚ a) -ℚ b)
      (sum_by-members (λ r. neg_ℚ (net_shadow_price m e r) *ℚ unit_factor m r u) (λ r. neg_ℚ (net_shadow_price m d r) *ℚ unit_factor m r u) (rows m)
      (λ r k. ap (λ a. neg_ℚ a *ℚ unit_factor m r u) (net_same r k)))
      (room_same u)
      ∙ sym (by_parts m d u)

  -- and its prices come to this
  rooms_same : sum_by (room_price m e) (reserve_units m) ≡ rooms_sum
  rooms_same = sum_by-members (room_price m e) (room_price m d) (reserve_units m) listed_same

  limits_same : sum_by (λ r. up_of m e r +ℚ down_of m e r) (rows m) ≡ sum_by left_both_of (rows m)
  limits_same = sum_by-members (λ r. up_of m e r +ℚ down_of m e r) left_both_of (rows m) (λ r k. ap₂ ◌+ℚ◌ (up_left r k) (down_left r k))

  sum_same : sum_of_prices m e ≡ net_sum
  sum_same = ap₂ (λ (a b : Fraction). (a +ℚ b) +ℚ d.reserve) limits_same rooms_same

  point_meets : MeetsRows s point
  point_meets = record {
    row = by_row m x c market (λ w. point w ≡ activity s point w)
        (point_at Sum tt ∙ ap neg_ℚ (sym sum_same) ∙ sym (activity-sum m x c market point e (agrees-made m market point)))
        (λ j h.
        point_at (Block j) h ∙ block_worth m x c market v d agrees best.meets best.within j h
        ∙ sym (activity-block m x c market point e (agrees-made m market point) j h ∙ worth_same (block_at m j).unit))
        (λ n h.
        point_at (Offer n) h ∙ offer_worth m x c market v d agrees best.meets best.within n h
        ∙ sym (activity-offer m x c market point e (agrees-made m market point) n h ∙ ap (λ a. d.reserve -ℚ a) (room_same (offer_at m n).unit)));
  }

  under : (w : Variable) → IsVariable m w → low m x c w ≤ℚ v (name m w)
  under w is = least m x c market v d agrees best.meets best.within w is

  over : (w : Variable) → IsVariable m w → v (name m w) ≤ℚ high m x c w
  over w is = greatest m x c market v d agrees best.meets best.within w is

  -- no more than the sum of all
  both_less : (r : Row) → Contains (rows m) r → left_both_of r ≤ℚ (p r +ℚ q r)
  both_less r k = let row = holds.rows r k in left_both (p r) (q r) row.up.sign row.down.sign

  net_less : net_sum ≤ℚ sum_of_prices m d
  net_less =
      let before : Fraction = sum_by (λ r. p r +ℚ q r) (rows m) in
      let behind : Fraction = sum_by left_both_of (rows m) in
      by_le1 (before ∷ behind ∷ rooms_sum ∷ d.reserve ∷ []) ((at 1 ⊕ at 2) ⊕ at 3) ((at 0 ⊕ at 2) ⊕ at 3) pone (at 1) (at 0) NonNeg-one
      (sum_by-≤ left_both_of (λ r. p r +ℚ q r) (rows m) (along (λ r. left_both_of r ≤ℚ (p r +ℚ q r)) (rows m) both_less))
      refl

  net_least : zero ≤ℚ net_sum
  net_least = nil_plus (sum_by left_both_of (rows m) +ℚ rooms_sum) d.reserve
      (nil_plus (sum_by left_both_of (rows m)) rooms_sum
      (sum_least left_both_of (rows m) (λ r k. nil_plus (left_of (p r) (q r)) (left_of (q r) (p r)) (part_least (p r -ℚ q r)).0 (part_least (q r -ℚ p r)).0))
      (sum_least (room_price m d) (reserve_units m) (λ u k. let room = holds.rooms u k in room.sign)))
      holds.need.sign

  net_low : (w : Variable) → IsVariable m w → low m x c w ≤ℚ net w
  net_low Energy is = under Energy is
  net_low Reserve is = under Reserve is
  net_low (Up r) is = let row = holds.rows r is in
      ≤ℚ_trans (low m x c (Up r)) (neg_ℚ (p r)) (neg_ℚ (left_of (p r) (q r))) (subst (λ a. low m x c (Up r) ≤ℚ a) (agrees.up r is) (under (Up r) is))
      (opposite (left_of (p r) (q r)) (p r) (left_most (p r) (q r) row.up.sign row.down.sign))
  net_low (Down r) is = let row = holds.rows r is in
      ≤ℚ_trans (low m x c (Down r)) (neg_ℚ (q r)) (neg_ℚ (left_of (q r) (p r))) (subst (λ a. low m x c (Down r) ≤ℚ a) (agrees.down r is) (under (Down r) is))
      (opposite (left_of (q r) (p r)) (q r) (left_most (q r) (p r) row.down.sign row.up.sign))
  net_low (Room u) is = under (Room u) is
  net_low Sum is = ≤ℚ_trans (neg_ℚ c.most) (neg_ℚ (sum_of_prices m d)) (neg_ℚ net_sum)
      (subst (λ a. neg_ℚ c.most ≤ℚ a) (sum_worth m x c market v d agrees best.meets best.within) (under Sum is))
      (opposite net_sum (sum_of_prices m d) net_less)
  net_low (Block j) is = under (Block j) is
  net_low (Offer n) is = under (Offer n) is

  net_high : (w : Variable) → IsVariable m w → net w ≤ℚ high m x c w
  net_high Energy is = over Energy is
  net_high Reserve is = over Reserve is
  net_high (Up r) is = let row = holds.rows r is in
      opposite (least_price m r (flow m x r)) (left_of (p r) (q r)) (left_least m market r (p r) (q r) (flow m x r) row.up row.down.sign row.down.reached)
  net_high (Down r) is = let row = holds.rows r is in
      opposite (least_price m r (neg_ℚ (flow m x r))) (left_of (q r) (p r))
      (left_least m market r (q r) (p r) (neg_ℚ (flow m x r)) row.down row.up.sign (λ above. subst (λ a. limit m r ≤ℚ a) (sym (twice (flow m x r))) (row.up.reached above)))
  net_high (Room u) is = over (Room u) is
  net_high Sum is = subst (λ a. neg_ℚ net_sum ≤ℚ a) opposite_nil (opposite zero net_sum net_least)
  net_high (Block j) is = over (Block j) is
  net_high (Offer n) is = over (Offer n) is

  point_bounds : InBounds s point
  point_bounds = record {
    low = by_variable m x c market (λ w. s.low w ≤ℚ point w) (λ w is. subst₂ ◌≤ℚ◌ (sym (low-at m x c market w is)) (sym (point_at w is)) (net_low w is));
    high = by_variable m x c market (λ w. point w ≤ℚ s.high w) (λ w is. subst₂ ◌≤ℚ◌ (sym (point_at w is)) (sym (high-at m x c market w is)) (net_high w is));
  }

  -- ---- sums of prices
  pub least_of : (u : ℕ → Fraction) → MeetsRows s u → InBounds s u → sum_of_prices m d ≤ℚ sum_of_prices m (duals_of m u)
  least_of u meets within = opposite_back (sum_of_prices m d) (sum_of_prices m (duals_of m u))
      (subst₂ ◌≤ℚ◌ (law_of_the_sum m x c u market) (law_of_the_sum m x c v market) (best.best u meets within))

  limits_least : sum_by (λ r. p r +ℚ q r) (rows m) ≤ℚ sum_by left_both_of (rows m)
  limits_least =
      let before : Fraction = sum_by (λ r. p r +ℚ q r) (rows m) in
      let behind : Fraction = sum_by left_both_of (rows m) in
      let sums : sum_of_prices m d ≤ℚ net_sum = subst (λ a. sum_of_prices m d ≤ℚ a) sum_same (least_of point point_meets point_bounds) in
      by_le1 (before ∷ behind ∷ rooms_sum ∷ d.reserve ∷ []) (at 0) (at 1) pone ((at 0 ⊕ at 2) ⊕ at 3) ((at 1 ⊕ at 2) ⊕ at 3) NonNeg-one sums refl

  one_side : (r : Row) → Contains (rows m) r → (p r ≡ zero) ⊎ (q r ≡ zero)
  one_side r k =
      let row = holds.rows r k in
      one_nil (p r) (q r) row.up.sign row.down.sign
      (each_no_less (λ t. p t +ℚ q t) left_both_of (rows m) both_less limits_least r k)

  sided : (r : Row) → Contains (rows m) r → ((p r ≡ zero) × (q r ≡ zero)) ⊎ IsOneSided (record { row = row_id m r; up = p r; down = q r })
  sided r k =
      let row = holds.rows r k in
      elim (nil_or_above (p r) row.up.sign) [
        | inl none ↦ elim (nil_or_above (q r) row.down.sign) [
          | inl nothing ↦ inl (none, nothing)
          | inr above ↦ inr (record { up = row.up.sign; down = row.down.sign; one = inr (none, above) })
        ]
        | inr above ↦ inr (record {
          up = row.up.sign;
          down = row.down.sign;
          one = inl (above, elim (one_side r k) [ inl none ↦ absurd (<ℚ_irrefl zero (subst (λ a. zero <ℚ a) none above)) | inr none ↦ none ]);
        })
      ]

  alone : m.reserve.listed ≡ false → d.reserve ≡ zero
  alone none = ≤ℚ_antisym d.reserve zero
      (subst (λ (b : Bool). d.reserve ≤ℚ (if b && are_same (reserve m x) (reserve_need m) then c.most else zero)) none
      (price_most m x c market v d agrees best.meets best.within Reserve tt d.reserve (most_reserve_price m x c) agrees.reserve refl))
      holds.need.sign

  pub proper : ProperDuals m d
  proper = proper-made m market v
      (λ r k.
      subst₂ (λ (a b : Fraction). ((a ≡ zero) × (b ≡ zero)) ⊎ IsOneSided (record { row = row_id m r; up = a; down = b })) (up-made m market v r k) (down-made m market v r k) (sided r k))
      (λ u k. let room = holds.rooms u k in subst (λ (a : Fraction). (a ≡ zero) ⊎ (zero <ℚ a)) (room-made m market v u k) (nil_or_above (room_price m d u) room.sign))
      alone

pub law_of_best_points : LawOfBestPoints
law_of_best_points m x c v market best = record {
  proper = proper m x c v market best;
  least = λ f is holds keeps.
      let of_f = law_of_duals m x c f market is holds keeps in
      subst (λ (g : Duals Fraction). sum_of_prices m (duals_of m v) ≤ℚ sum_of_prices m g) of_f.back (least_of m x c v market best (point_of m f) of_f.rows of_f.bounds);
}
