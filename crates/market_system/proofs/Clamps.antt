-- Prices that would fall below 0 and are taken as 0: what that leaves of the signs of reduced prices, and what it takes from a bound.
use Rattle.std.specs.Prelude.{◌≡◌, ℕ, ◌<◌, ◌==◌, ◌&&◌, pos, Bool, true, false, List, [], ◌∷◌, length, if◌then◌else◌, Contains, refl}
use Rattle.std.proofs.Common.{arith, ap, ap₂, sym, ◌∙◌, subst, inl, inr}
use Rattle.fraction_theory.specs.Fraction.{Fraction, whole, neg_ℚ, ◌+ℚ◌, ◌-ℚ◌, ◌*ℚ◌}
use Rattle.fraction_theory.specs.Order.{◌≤ℚ◌, ◌<ℚ◌}
use Rattle.fraction_theory.specs.Signs.{part_above}
use Rattle.fraction_theory.specs.Sums.{sum_by}
use Rattle.fraction_theory.proofs.Ring.{by_ring, by_ring1, at, pnil, pone, pneg, ◌⊕◌, ◌⊗◌}
use Rattle.fraction_theory.proofs.FieldLaws.{ring_ℚ, whole-+ℚ}
use Rattle.fraction_theory.proofs.OrderLaws.{by_le1, by_le2, NonNeg-one, NonNeg_from, ≤ℚ_refl, ≤ℚ_trans, ≤ℚ_antisym, ≤ℚ_of_same, ≤ℚ-or-<ℚ, <ℚ-≤ℚ, <ℚ-≤ℚ_trans, ≤ℚ-<ℚ_trans, whole-≤ℚ}
use Rattle.fraction_theory.proofs.SignLaws.{part_at_least, part_at_most, part_least}
use Rattle.fraction_theory.proofs.SumLaws.{sum_by-nil, sum_by-plus, sum_by-≤}
use Rattle.fraction_theory.proofs.ListSums.{kept, sum_by-filter, Contains-head, Contains-cons, Contains-cases}
use Rattle.market_model.specs.declared.participants.Block.{Block}
use Rattle.market_model.specs.declared.participants.Parts.{Parts}
use Rattle.market_model.specs.declared.participants.Side.{Side}
use Rattle.market_model.specs.declared.participants.Side.TheVariants.{Sell, Buy}
use Rattle.market_model.specs.Dispatch.{zero as nil, block_at, blocks_of, places, quantity, signed_by_side, unit_at}
use Rattle.market_model.specs.Market.{IsMarket}
use Rattle.market_model.specs.Optimality.{Gains, Loses}
use Rattle.market_model.specs.Stairs.{offered, same_side, stair_in}
use Rattle.market_model.proofs.ChangeLemmas.{offered-more}
use Rattle.market_model.proofs.PlaceSums.{sum_by-places}
use Rattle.market_model.proofs.RowLaws.{along}

-- ---- by how much a number is below 0
abbrev pub lack : Fraction → Fraction
lack x = part_above (neg_ℚ x)

pub lack-nil : (x : Fraction) → nil ≤ℚ x → lack x ≡ nil
lack-nil x h = part_at_most (neg_ℚ x) (by_le1 (x ∷ []) (pneg (at 0)) pnil pone pnil (at 0) NonNeg-one h refl)

pub lack-below : (x : Fraction) → x ≤ℚ nil → lack x ≡ neg_ℚ x
lack-below x h = part_at_least (neg_ℚ x) (by_le1 (x ∷ []) pnil (pneg (at 0)) pone (at 0) pnil NonNeg-one h refl)

-- a number taken as 0 where it is below is the number with what it lacks
pub part-lack : (x : Fraction) → part_above x ≡ x +ℚ lack x
part-lack x = elim (≤ℚ-or-<ℚ x nil) [
  | inl low ↦ part_at_most x low ∙ by_ring ring_ℚ (x ∷ []) pnil (at 0 ⊕ pneg (at 0)) refl ∙ ap (λ t. x +ℚ t) (sym (lack-below x low))
  | inr above ↦ part_at_least x (<ℚ-≤ℚ nil x above) ∙ by_ring ring_ℚ (x ∷ []) (at 0) (at 0 ⊕ pnil) refl ∙ ap (λ t. x +ℚ t) (sym (lack-nil x (<ℚ-≤ℚ nil x above)))
]

-- a part above 0 of a sum is at most that of one and another that is at least 0
pub part_most_plus : (x y z : Fraction) → nil ≤ℚ z → x ≤ℚ (y +ℚ z) → part_above x ≤ℚ (part_above y +ℚ z)
part_most_plus x y z least h = elim (≤ℚ-or-<ℚ x nil) [
  | inl low ↦ subst (λ t. t ≤ℚ (part_above y +ℚ z)) (sym (part_at_most x low))
      (by_le2 (part_above y ∷ z ∷ []) pnil (at 0 ⊕ at 1) pone pnil (at 0) pone pnil (at 1) NonNeg-one (part_least y).0 NonNeg-one least refl)
  | inr above ↦ subst (λ t. t ≤ℚ (part_above y +ℚ z)) (sym (part_at_least x (<ℚ-≤ℚ nil x above)))
      (by_le2 (x ∷ y ∷ z ∷ part_above y ∷ []) (at 0) (at 3 ⊕ at 2) pone (at 0) (at 1 ⊕ at 2) pone (at 1) (at 3) NonNeg-one h NonNeg-one (part_least y).1 refl)
]

-- ---- sums of terms that are at most others, and in all no less
pub all_reach : (f g : ℕ → Fraction) (xs : List ℕ) → ((x : ℕ) → Contains xs x → f x ≤ℚ g x) → sum_by g xs ≤ℚ sum_by f xs → (x : ℕ) → Contains xs x → f x ≡ g x
all_reach f g [] each all x c = absurd (Prim.omega (arith, c.1))
all_reach f g (y ∷ ys) each all x c = elim (Contains-cases y ys x c) [
  | inl e ↦ subst (λ (z : ℕ). f z ≡ g z) e
      (≤ℚ_antisym (f y) (g y) first
      (by_le2 (f y ∷ g y ∷ sum_by f ys ∷ sum_by g ys ∷ []) (at 1) (at 0) pone (at 1 ⊕ at 3) (at 0 ⊕ at 2) pone (at 2) (at 3) NonNeg-one all NonNeg-one rest refl))
  | inr k ↦ all_reach f g ys (λ z d. each z (Contains-cons y ys z d))
      (by_le2 (f y ∷ g y ∷ sum_by f ys ∷ sum_by g ys ∷ []) (at 3) (at 2) pone (at 1 ⊕ at 3) (at 0 ⊕ at 2) pone (at 0) (at 1) NonNeg-one all NonNeg-one first refl) x k
]
  where
    first : f y ≤ℚ g y
    first = each y (Contains-head y ys)

    rest : sum_by f ys ≤ℚ sum_by g ys
    rest = sum_by-≤ f g ys (along (λ z. f z ≤ℚ g z) ys (λ z d. each z (Contains-cons y ys z d)))

-- ---- a unit whose room stands at its low bound: all is bought that may be, and nothing is sold or reserved
module _ (blocks offers : List ℕ) (raised bought reserved : ℕ → Fraction) (down : Fraction) (each_raised : (j : ℕ) → Contains blocks j → neg_ℚ (bought j) ≤ℚ raised j)
    (each_reserved : (n : ℕ) → Contains offers n → nil ≤ℚ reserved n) (few : sum_by bought blocks ≤ℚ down) (low : sum_by raised blocks +ℚ sum_by reserved offers ≡ neg_ℚ down) where
  bought_sum : (js : List ℕ) → sum_by (λ j. neg_ℚ (bought j)) js ≡ neg_ℚ (sum_by bought js)
  bought_sum [] = by_ring ring_ℚ [] pnil (pneg pnil) refl
  bought_sum (j ∷ js) = ap (λ t. neg_ℚ (bought j) +ℚ t) (bought_sum js) ∙ by_ring ring_ℚ (bought j ∷ sum_by bought js ∷ []) (pneg (at 0) ⊕ pneg (at 1)) (pneg (at 0 ⊕ at 1)) refl

  reserved_least : nil ≤ℚ sum_by reserved offers
  reserved_least = subst (λ t. t ≤ℚ sum_by reserved offers) (sum_by-nil offers)
      (sum_by-≤ (λ n. nil) reserved offers (along (λ n. nil ≤ℚ reserved n) offers each_reserved))

  raised_least : neg_ℚ (sum_by bought blocks) ≤ℚ sum_by raised blocks
  raised_least = subst (λ t. t ≤ℚ sum_by raised blocks) (bought_sum blocks)
      (sum_by-≤ (λ j. neg_ℚ (bought j)) raised blocks (along (λ j. neg_ℚ (bought j) ≤ℚ raised j) blocks each_raised))

  in_all : (sum_by raised blocks +ℚ sum_by reserved offers) ≤ℚ neg_ℚ down
  in_all = ≤ℚ_of_same _ _ low

  pub room_low-blocks : (j : ℕ) → Contains blocks j → neg_ℚ (bought j) ≡ raised j
  room_low-blocks = all_reach (λ j. neg_ℚ (bought j)) raised blocks each_raised
      (subst (λ t. sum_by raised blocks ≤ℚ t) (sym (bought_sum blocks))
      (≤ℚ_trans (sum_by raised blocks) (neg_ℚ down) (neg_ℚ (sum_by bought blocks))
      (by_le2 (sum_by raised blocks ∷ sum_by reserved offers ∷ down ∷ []) (at 0) (pneg (at 2)) pone (at 0 ⊕ at 1) (pneg (at 2)) pone pnil (at 1) NonNeg-one in_all NonNeg-one reserved_least refl)
      (by_le1 (sum_by bought blocks ∷ down ∷ []) (pneg (at 1)) (pneg (at 0)) pone (at 0) (at 1) NonNeg-one few refl)))

  pub room_low-offers : (n : ℕ) → Contains offers n → nil ≡ reserved n
  room_low-offers = all_reach (λ n. nil) reserved offers each_reserved
      (subst (λ t. sum_by reserved offers ≤ℚ t) (sym (sum_by-nil offers))
      (≤ℚ_trans (sum_by reserved offers) (neg_ℚ (sum_by raised blocks) -ℚ down) nil
      (by_le1 (sum_by raised blocks ∷ sum_by reserved offers ∷ down ∷ []) (at 1) (pneg (at 0) ⊕ pneg (at 2)) pone (at 0 ⊕ at 1) (pneg (at 2)) NonNeg-one in_all refl)
      (by_le2 (sum_by raised blocks ∷ sum_by bought blocks ∷ down ∷ []) (pneg (at 0) ⊕ pneg (at 2)) pnil pone (pneg (at 1)) (at 0) pone (at 1) (at 2) NonNeg-one raised_least NonNeg-one few refl)))

-- ---- what blocks and offers ask for at prices of 0 in place of ones below
-- what a block has where its unit's room stands at its low bound, and what it may buy
abbrev pub where_low : Side → Fraction → Fraction
where_low Sell q = nil
where_low Buy q = q

-- raised at the low bound of the room
pub raised-low : (side : Side) (q a : Fraction) → neg_ℚ (where_low side q) ≡ signed_by_side side a → a ≡ where_low side q
raised-low Sell q a e = sym e ∙ by_ring ring_ℚ [] (pneg pnil) pnil refl
raised-low Buy q a e = by_ring1 ring_ℚ (q ∷ a ∷ []) (at 1) (at 0) pone (pneg (at 0)) (pneg (at 1)) e refl

pub raised-least : (side : Side) (q a : Fraction) → nil ≤ℚ a → a ≤ℚ q → neg_ℚ (where_low side q) ≤ℚ signed_by_side side a
raised-least Sell q a low high = by_le1 (a ∷ []) (pneg pnil) (at 0) pone pnil (at 0) NonNeg-one low refl
raised-least Buy q a low high = by_le1 (a ∷ q ∷ []) (pneg (at 1)) (pneg (at 0)) pone (at 0) (at 1) NonNeg-one high refl

-- A block of accepted a: it is whole where it gains and empty where it loses, at the worth of the energy less a price of room, and at a price below 0
-- it is as it is where the room is at its low bound. So it is at that price taken as 0 where it is below.
module _ (side : Side) (p worth room q a : Fraction) (full : Gains side p (worth -ℚ room) → a ≡ q) (empty : Loses side p (worth -ℚ room) → a ≡ nil) (low : room <ℚ nil → a ≡ where_low side q) where
  less_worth : (worth -ℚ part_above room) ≤ℚ (worth -ℚ room)
  less_worth = by_le1 (worth ∷ room ∷ part_above room ∷ []) (at 0 ⊕ pneg (at 2)) (at 0 ⊕ pneg (at 1)) pone (at 1) (at 2) NonNeg-one (part_least room).1 refl

  same_worth : nil ≤ℚ room → worth -ℚ part_above room ≡ worth -ℚ room
  same_worth h = ap (λ t. worth -ℚ t) (part_at_least room h)

  pub block_clamped-full : Gains side p (worth -ℚ part_above room) → a ≡ q
  block_clamped-full = elim (≤ℚ-or-<ℚ nil room) [
    | inl h ↦ λ g. full (subst (λ t. Gains side p t) (same_worth h) g)
    | inr below ↦ by side full (low below)
  ]
    where
      by : (s : Side) → (Gains s p (worth -ℚ room) → a ≡ q) → a ≡ where_low s q → Gains s p (worth -ℚ part_above room) → a ≡ q
      by Sell f l g = f (<ℚ-≤ℚ_trans p (worth -ℚ part_above room) (worth -ℚ room) g less_worth)
      by Buy f l g = l

  pub block_clamped-empty : Loses side p (worth -ℚ part_above room) → a ≡ nil
  block_clamped-empty = elim (≤ℚ-or-<ℚ nil room) [
    | inl h ↦ λ g. empty (subst (λ t. Loses side p t) (same_worth h) g)
    | inr below ↦ by side empty (low below)
  ]
    where
      by : (s : Side) → (Loses s p (worth -ℚ room) → a ≡ nil) → a ≡ where_low s q → Loses s p (worth -ℚ part_above room) → a ≡ nil
      by Sell f l g = l
      by Buy f l g = f (<ℚ-≤ℚ_trans p (worth -ℚ part_above room) (worth -ℚ room) g less_worth)

-- an offer likewise, with the price of reserve
module _ (p need room q r : Fraction) (full : p <ℚ (need -ℚ room) → r ≡ q) (empty : (need -ℚ room) <ℚ p → r ≡ nil) (all : need <ℚ nil → r ≡ q) (low : room <ℚ nil → r ≡ nil) where
  pub offer_clamped-full : p <ℚ (part_above need -ℚ part_above room) → r ≡ q
  offer_clamped-full = elim (≤ℚ-or-<ℚ nil need) [
    | inl h ↦ λ g. full (<ℚ-≤ℚ_trans p (part_above need -ℚ part_above room) (need -ℚ room) g
        (subst (λ t. (t -ℚ part_above room) ≤ℚ (need -ℚ room)) (sym (part_at_least need h))
        (by_le1 (need ∷ room ∷ part_above room ∷ []) (at 0 ⊕ pneg (at 2)) (at 0 ⊕ pneg (at 1)) pone (at 1) (at 2) NonNeg-one (part_least room).1 refl)))
    | inr below ↦ λ g. all below
  ]

  pub offer_clamped-empty : (part_above need -ℚ part_above room) <ℚ p → r ≡ nil
  offer_clamped-empty = elim (≤ℚ-or-<ℚ nil room) [
    | inl h ↦ λ g. empty (≤ℚ-<ℚ_trans (need -ℚ room) (part_above need -ℚ part_above room) p
        (subst (λ t. (need -ℚ room) ≤ℚ (part_above need -ℚ t)) (sym (part_at_least room h))
        (by_le1 (need ∷ room ∷ part_above need ∷ []) (at 0 ⊕ pneg (at 1)) (at 2 ⊕ pneg (at 1)) pone (at 0) (at 2) NonNeg-one (part_least need).1 refl)) g)
    | inr below ↦ λ g. low below
  ]

-- ---- what blocks and offers add to a bound at prices of 0 in place of ones below
pub block_more : (side : Side) (worth room q : Fraction) → nil ≤ℚ q
    → (part_above (signed_by_side side (worth -ℚ part_above room)) *ℚ q) ≤ℚ (part_above (signed_by_side side (worth -ℚ room)) *ℚ q +ℚ lack room *ℚ where_low side q)
block_more Sell worth room q least =
    by_le1 (part_above (worth -ℚ part_above room) ∷ part_above (worth -ℚ room) ∷ q ∷ lack room ∷ []) (at 0 ⊗ at 2) (at 1 ⊗ at 2 ⊕ at 3 ⊗ pnil) (at 2) (at 0) (at 1 ⊕ pnil) (NonNeg_from q least)
    (part_most_plus (worth -ℚ part_above room) (worth -ℚ room) nil (≤ℚ_refl nil)
    (by_le1 (worth ∷ room ∷ part_above room ∷ []) (at 0 ⊕ pneg (at 2)) ((at 0 ⊕ pneg (at 1)) ⊕ pnil) pone (at 1) (at 2) NonNeg-one (part_least room).1 refl)) refl
block_more Buy worth room q least =
    by_le1 (part_above (neg_ℚ (worth -ℚ part_above room)) ∷ part_above (neg_ℚ (worth -ℚ room)) ∷ q ∷ lack room ∷ []) (at 0 ⊗ at 2) (at 1 ⊗ at 2 ⊕ at 3 ⊗ at 2) (at 2) (at 0) (at 1 ⊕ at 3) (NonNeg_from q least)
    (part_most_plus (neg_ℚ (worth -ℚ part_above room)) (neg_ℚ (worth -ℚ room)) (lack room) (part_least (neg_ℚ room)).0
    (≤ℚ_of_same _ _ (ap (λ t. neg_ℚ (worth -ℚ t)) (part-lack room) ∙ by_ring ring_ℚ (worth ∷ room ∷ lack room ∷ []) (pneg (at 0 ⊕ pneg (at 1 ⊕ at 2))) (pneg (at 0 ⊕ pneg (at 1)) ⊕ at 2) refl))) refl

pub offer_more : (need room q : Fraction) → nil ≤ℚ q → (part_above (part_above need -ℚ part_above room) *ℚ q) ≤ℚ (part_above (need -ℚ room) *ℚ q +ℚ lack need *ℚ q)
offer_more need room q least =
    by_le1 (part_above (part_above need -ℚ part_above room) ∷ part_above (need -ℚ room) ∷ q ∷ lack need ∷ []) (at 0 ⊗ at 2) (at 1 ⊗ at 2 ⊕ at 3 ⊗ at 2) (at 2) (at 0) (at 1 ⊕ at 3) (NonNeg_from q least)
    (part_most_plus (part_above need -ℚ part_above room) (need -ℚ room) (lack need) (part_least (neg_ℚ need)).0
    (subst (λ t. (t -ℚ part_above room) ≤ℚ ((need -ℚ room) +ℚ lack need)) (sym (part-lack need))
    (by_le1 (need ∷ room ∷ part_above room ∷ lack need ∷ []) ((at 0 ⊕ at 3) ⊕ pneg (at 2)) ((at 0 ⊕ pneg (at 1)) ⊕ at 3) pone (at 1) (at 2) NonNeg-one (part_least room).1 refl))) refl

-- sums of terms that are at most two others
pub sum_more : (f g k : ℕ → Fraction) (xs : List ℕ) → ((x : ℕ) → Contains xs x → f x ≤ℚ (g x +ℚ k x)) → sum_by f xs ≤ℚ (sum_by g xs +ℚ sum_by k xs)
sum_more f g k xs each = subst (λ t. sum_by f xs ≤ℚ t) (sum_by-plus g k xs) (sum_by-≤ f (λ x. g x +ℚ k x) xs (along (λ x. f x ≤ℚ (g x +ℚ k x)) xs each))

-- ---- what a unit may buy in all is at most what it may be lowered by
abbrev may_buy : ℕ → Block → Fraction
may_buy u b = kept (b.unit == u) (where_low b.side (whole b.quantity))

bought_by_stair : (u : ℕ) (bs : List Block) → sum_by (may_buy u) bs ≡ whole (offered (stair_in u Buy bs))
unfolding stair_in
bought_by_stair u [] = refl
bought_by_stair u (b ∷ bs) =
    ap₂ ◌+ℚ◌ (by (b.unit == u) b.side) (bought_by_stair u bs)
    ∙ sym (whole-+ℚ (if (b.unit == u) && same_side b.side Buy then b.quantity else pos 0) (offered (stair_in u Buy bs)))
    ∙ ap whole (sym (offered-more u Buy b bs))
  where
    by : (t : Bool) (side : Side) → kept t (where_low side (whole b.quantity)) ≡ whole (if t && same_side side Buy then b.quantity else pos 0)
    by true Sell = refl
    by true Buy = refl
    by false side = refl

pub buys_fit : (m : Parts) → IsMarket m → (u : ℕ) → u < length m.units → sum_by (λ j. where_low (block_at m j).side (quantity m j)) (blocks_of m u) ≤ℚ whole (unit_at m u).down
buys_fit m market u lt = subst (λ t. t ≤ℚ whole (unit_at m u).down)
    (sym
    (sum_by-filter (λ j. where_low (block_at m j).side (quantity m j)) (λ j. (block_at m j).unit == u) (places (length m.blocks))
    ∙ sum_by-places (may_buy u) (record { unit = 0; side = Sell; quantity = pos 0; price = pos 0 }) m.blocks
    ∙ bought_by_stair u m.blocks))
    (whole-≤ℚ (offered (stair_in u Buy m.blocks)) (unit_at m u).down (market.room u (record { row = 0; bus = 0; fixed = pos 0; up = pos 0; down = pos 0 }) lt Buy))
