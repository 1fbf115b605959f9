-- A certificate has no reason against it exactly where it is true of the market.
use Rattle.std.specs.Prelude.{◌≡◌, ◌≢◌, ◌⊎◌, ◌==◌, ◌&&◌, ◌||◌, ◌<◌, ◌+◌, ℕ, Bool, true, false, not, List, [], ◌∷◌, length, AllPairs, Contains, None, if◌then◌else◌, refl}
use Rattle.std.specs.List.{list_any}
use Rattle.std.proofs.Common.{suc, arith, inl, inr, ap, sym, subst, subst₂, ◌∙◌}
use Rattle.std.proofs.lemmas.Bool.{and_from, and_parts, or_parts, eq-eqb, eqb-true}
use Rattle.std.proofs.lemmas.List.Elements.{All-contains}
use Rattle.fraction_theory.specs.Fraction.{Fraction, neg_ℚ}
use Rattle.fraction_theory.specs.Order.{◌≤ℚ◌, ◌<ℚ◌}
use Rattle.fraction_theory.proofs.ListSums.{Contains-head, Contains-cons, Contains-cases}
use Rattle.fraction_theory.proofs.OrderLaws.{≤ℚ_refl}
use Rattle.market_model.specs.declared.answered.Dual.{Dual}
use Rattle.market_model.specs.declared.answered.Duals.{Duals}
use Rattle.market_model.specs.declared.answered.RowId.{RowId}
use Rattle.market_model.specs.declared.participants.Parts.{Parts}
use Rattle.market_model.specs.declared.participants.Side.{Side}
use Rattle.market_model.specs.declared.participants.Side.TheVariants.{Sell, Buy}
use Rattle.market_model.specs.Dispatch.{Dispatch, zero, places, block_at, offer_at, unit_at, accepted, quantity, reserved, reserve_quantity, balance}
use Rattle.market_model.specs.Infeasibility.{farkas_bound}
use Rattle.market_model.specs.declared.limits.Row.{Row}
use Rattle.market_model.specs.LimitRows.{rows, row_id, limit, flow, most_flow, penalty}
use Rattle.market_model.specs.Optimality.{BlockSupported, Feasible, Gains, Loses, OfferSupported, RowSupported, SideSupported, Supports, same_id, names_row, up_in, down_in, up_of, down_of, price, energy_worth, reserve_worth}
use Rattle.market_model.specs.Reserves.{offer_places, offer_price, reserve, reserve_need, reserve_units, room, room_used, KeepRooms}
use Rattle.limit_rows.proofs.DualLemmas.{up_unnamed, down_unnamed}
use Rattle.limit_rows.proofs.PlaceLemmas.{same_name}
use Rattle.cert_verify.specs.declared.verdicts.Reason.TheVariants as reason
use Rattle.cert_verify.specs.Certificates.{ProvesInfeasible, IsOptimum, NamesRows}
use Rattle.limit_rows.specs.Naming.{has_name}
use Rattle.cert_verify.specs.Reasons.{NoneOf, bound_reason, block_reason, breaks_row, breaks_side, breaks_support, count_reason, balance_reason, differ, farkas_reasons, first_of, is_gaining, has_negative, has_no_row, has_slack, is_below, is_beyond, is_offer_beyond, is_offer_unsupported, is_overfull, is_overloaded, is_slack, is_unpriced, is_unsupported, limit_reason, limit_reasons, is_losing, need_reason, need_sign_reason, need_slack_reason, optimal_reasons, reserve_reason, reserve_support_reason, room_reason, room_sign_reason, room_slack_reason, row_reason, sign_reason, slack_reason, slack_reasons, sum_reasons, support_reason, unit_reason, unpriced_reason}
use Rattle.cert_verify.proofs.TestLemmas.{below_true, below_of, not_below, below_not, same_by, same_not, neither, not_both, then_not, not_false, not_true, any_true, any_of, any_false, any_none, all_by, none_of, of_none, not_so, so_none, all_none, none_first}
use Rattle.cert_verify.proofs.RoomLemmas.{room_sign, room_signs_from, room_slack_from, rooms_from, rooms_to, used_up_to}
use Rattle.market_model.specs.Overrun.{Within}
use Rattle.market_model.proofs.RowMembers.{Contains-places, Contains-from_places}

-- ---- names and their prices
pub own_id : (a : RowId) → same_id a a ≡ true
own_id a = Prim.rw (eq-eqb a.branch a.branch refl, eq-eqb a.outage a.outage refl, eq-eqb a.unit a.unit refl) refl

pub named : (a b : RowId) → a ≡ b → same_id a b ≡ true
named a b e = subst (λ (c : RowId). same_id a c ≡ true) e (own_id a)

pub other_id : (a b : RowId) → a ≢ b → same_id a b ≡ false
other_id a b h = by (same_id a b) refl
  where
    by : (t : Bool) → same_id a b ≡ t → t ≡ false
    by true e = absurd (h (same_name a b e))
    by false e = refl

-- the dual that has the prices of a name
record IsPriced (ds : List (Dual Fraction)) (id : RowId) (e : Dual Fraction) : Type 0 where
  pub listed : Contains ds e
  pub name : e.row ≡ id
  pub up : up_in ds id ≡ e.up
  pub down : down_in ds id ≡ e.down

abbrev IsFree : List (Dual Fraction) → RowId → Type 0
IsFree ds id = names_row ds id ≡ false

priced : (ds : List (Dual Fraction)) (id : RowId) → IsFree ds id ⊎ ((e : Dual Fraction) × IsPriced ds id e)
priced [] id = inl refl
priced (d ∷ ds) id = by (same_id d.row id) refl (priced ds id)
  where
    up_by : (b : Bool) → same_id d.row id ≡ b → up_in (d ∷ ds) id ≡ (if b then d.up else up_in ds id)
    up_by b t = ap (λ (c : Bool). if c then d.up else up_in ds id) t

    down_by : (b : Bool) → same_id d.row id ≡ b → down_in (d ∷ ds) id ≡ (if b then d.down else down_in ds id)
    down_by b t = ap (λ (c : Bool). if c then d.down else down_in ds id) t

    by : (b : Bool) → same_id d.row id ≡ b → IsFree ds id ⊎ ((e : Dual Fraction) × IsPriced ds id e) → IsFree (d ∷ ds) id ⊎ ((e : Dual Fraction) × IsPriced (d ∷ ds) id e)
    by true t h = inr (d, record { listed = Contains-head d ds; name = same_name d.row id t; up = up_by true t; down = down_by true t })
    by false t (inl h) = inl (ap (λ (c : Bool). c || names_row ds id) t ∙ h)
    by false t (inr (e, p)) = inr (e, record { listed = Contains-cons d ds e p.listed; name = p.name; up = up_by false t ∙ p.up; down = down_by false t ∙ p.down })

abbrev pub Apart : List (Dual Fraction) → Type 0
Apart ds = AllPairs (λ a b. a.row ≢ b.row) ds

-- where no row is named twice, each dual has the prices of its name
own_prices : (ds : List (Dual Fraction)) → Apart ds → (e : Dual Fraction) → Contains ds e → (up_in ds e.row ≡ e.up) × (down_in ds e.row ≡ e.down)
own_prices [] apart e (k, lt, at) = absurd (Prim.omega (arith, lt))
own_prices (d ∷ ds) apart e c = by (λ r h. own_prices ds r e h) (Contains-cases d ds e c)
  where
    rest : Apart ds
    rest = λ i j f p q. apart (suc i) (suc j) f (Prim.omega (arith, p)) (Prim.omega (arith, q))

    other : Contains ds e → same_id d.row e.row ≡ false
    other (k, lt, at) = other_id d.row e.row (λ same. apart 0 (suc k) e (Prim.omega arith) (Prim.omega (arith, lt)) (same ∙ sym (ap (λ (f : Dual Fraction). f.row) at)))

    by : (Apart ds → Contains ds e → (up_in ds e.row ≡ e.up) × (down_in ds e.row ≡ e.down)) → (d ≡ e) ⊎ Contains ds e → (up_in (d ∷ ds) e.row ≡ e.up) × (down_in (d ∷ ds) e.row ≡ e.down)
    by more (inl f) = let own = named d.row e.row (ap (λ (g : Dual Fraction). g.row) f) in (
      ap (λ (b : Bool). if b then d.up else up_in ds e.row) own ∙ ap (λ (g : Dual Fraction). g.up) f,
      ap (λ (b : Bool). if b then d.down else down_in ds e.row) own ∙ ap (λ (g : Dual Fraction). g.down) f,
    )
    by more (inr h) = let r = more rest h in (
      ap (λ (b : Bool). if b then d.up else up_in ds e.row) (other h) ∙ r.0,
      ap (λ (b : Bool). if b then d.down else down_in ds e.row) (other h) ∙ r.1,
    )

-- ---- blocks
gains_of : (s : Side) (p w : Fraction) → Gains s p w → is_gaining s p w ≡ true
gains_of Sell p w h = below_of p w h
gains_of Buy p w h = below_of w p h

gains_true : (s : Side) (p w : Fraction) → is_gaining s p w ≡ true → Gains s p w
gains_true Sell p w e = below_true p w e
gains_true Buy p w e = below_true w p e

loses_of : (s : Side) (p w : Fraction) → Loses s p w → is_losing s p w ≡ true
loses_of Sell p w h = below_of w p h
loses_of Buy p w h = below_of p w h

loses_true : (s : Side) (p w : Fraction) → is_losing s p w ≡ true → Loses s p w
loses_true Sell p w e = below_true w p e
loses_true Buy p w e = below_true p w e

-- what gains is accepted whole, and what loses is not
record IsSupported (s : Side) (p w q y : Fraction) : Type 0 where
  pub full : Gains s p w → y ≡ q
  pub empty : Loses s p w → y ≡ zero

support_to : (s : Side) (p w q y : Fraction) → breaks_support s p w q y ≡ false → IsSupported s p w q y
support_to s p w q y e =
    let parts = or_parts (is_gaining s p w && differ y q) (is_losing s p w && differ y zero) e in record {
      full = λ h. same_by y q (then_not (is_gaining s p w) (differ y q) parts.0 (gains_of s p w h));
      empty = λ h. same_by y zero (then_not (is_losing s p w) (differ y zero) parts.1 (loses_of s p w h));
    }

support_from : (s : Side) (p w q y : Fraction) → IsSupported s p w q y → breaks_support s p w q y ≡ false
support_from s p w q y h =
    neither (is_gaining s p w && differ y q) (is_losing s p w && differ y zero)
    (not_both (is_gaining s p w) (differ y q) (λ t. same_not y q (h.full (gains_true s p w t))))
    (not_both (is_losing s p w) (differ y zero) (λ t. same_not y zero (h.empty (loses_true s p w t))))

module _ (m : Parts) (x : Dispatch) (d : Duals Fraction) where
  abbrev worth_of : ℕ → Fraction
  worth_of j = energy_worth m d (block_at m j).unit

  abbrev offer_worth : ℕ → Fraction
  offer_worth n = reserve_worth m d (offer_at m n).unit

  blocks_to : support_reason m x d ≡ None → (j : ℕ) → j < length m.blocks → BlockSupported m x d j
  blocks_to e j lt =
      let none = none_of (λ (j : ℕ). reason.Support (j + 1)) (is_unsupported m x d) (places (length m.blocks)) e j (Contains-places (length m.blocks) j lt) in
      let s = support_to (block_at m j).side (price m j) (worth_of j) (quantity m j) (accepted x j) none in record { full = s.full; empty = s.empty }

  blocks_from : ((j : ℕ) → j < length m.blocks → BlockSupported m x d j) → support_reason m x d ≡ None
  blocks_from h =
      of_none (λ (j : ℕ). reason.Support (j + 1)) (is_unsupported m x d) (places (length m.blocks))
      (λ j c. let s = h j (Contains-from_places (length m.blocks) j c) in
      support_from (block_at m j).side (price m j) (worth_of j) (quantity m j) (accepted x j) (record { full = s.full; empty = s.empty }))

  offers_to : reserve_support_reason m x d ≡ None → (n : ℕ) → n < length m.reserve.offers → OfferSupported m x d n
  offers_to e n lt =
      let none = none_of (λ (n : ℕ). reason.ReserveSupport (n + 1)) (is_offer_unsupported m x d) (offer_places m) e n (Contains-places (length m.reserve.offers) n lt) in
      let s = support_to Sell (offer_price m n) (offer_worth n) (reserve_quantity m n) (reserved x n) none in record { full = s.full; empty = s.empty }

  offers_from : ((n : ℕ) → n < length m.reserve.offers → OfferSupported m x d n) → reserve_support_reason m x d ≡ None
  offers_from h =
      of_none (λ (n : ℕ). reason.ReserveSupport (n + 1)) (is_offer_unsupported m x d) (offer_places m)
      (λ n c. let s = h n (Contains-from_places (length m.reserve.offers) n c) in
      support_from Sell (offer_price m n) (offer_worth n) (reserve_quantity m n) (reserved x n) (record { full = s.full; empty = s.empty }))

-- ---- duals
-- the signs of a dual's prices
record HasSigns (e : Dual Fraction) : Type 0 where
  pub up : zero ≤ℚ e.up
  pub down : zero ≤ℚ e.down

names_to : (m : Parts) (ds : List (Dual Fraction)) → row_reason m ds ≡ None → NamesRows m ds
names_to m ds h = all_by (λ e. (r : Row) × Contains (rows m) r × (row_id m r ≡ e.row)) ds (λ e c. by e (any_true (has_name m e.row) (rows m) (not_false (list_any (has_name m e.row) (rows m)) (none_of (λ e. reason.NoRow e.row) (has_no_row m) ds h e c))))
  where
    by : (e : Dual Fraction) → (r : Row) × Contains (rows m) r × (has_name m e.row r ≡ true) → (r : Row) × Contains (rows m) r × (row_id m r ≡ e.row)
    by e (r, c, t) = (r, c, same_name (row_id m r) e.row t)

names_from : (m : Parts) (ds : List (Dual Fraction)) → NamesRows m ds → row_reason m ds ≡ None
names_from m ds h = of_none (λ e. reason.NoRow e.row) (has_no_row m) ds (λ e c. by e (All-contains (λ e. (r : Row) × Contains (rows m) r × (row_id m r ≡ e.row)) ds e h c))
  where
    by : (e : Dual Fraction) → (r : Row) × Contains (rows m) r × (row_id m r ≡ e.row) → has_no_row m e ≡ false
    by e (r, c, t) = not_true (list_any (has_name m e.row) (rows m)) (any_of (has_name m e.row) (rows m) r c (named (row_id m r) e.row t))

signs_to : (ds : List (Dual Fraction)) → sign_reason ds ≡ None → (e : Dual Fraction) → Contains ds e → HasSigns e
signs_to ds h e c =
    let parts = or_parts (is_below e.up zero) (is_below e.down zero) (none_of (λ e. reason.Sign e.row) has_negative ds h e c) in record { up = not_below e.up zero parts.0; down = not_below e.down zero parts.1 }

signs_from : (ds : List (Dual Fraction)) → ((e : Dual Fraction) → Contains ds e → HasSigns e) → sign_reason ds ≡ None
signs_from ds h = of_none (λ e. reason.Sign e.row) has_negative ds (λ e c. let s = h e c in neither (is_below e.up zero) (is_below e.down zero) (below_not e.up zero s.up) (below_not e.down zero s.down))

-- the prices of each name have the signs of those of the duals
up_sign : (ds : List (Dual Fraction)) (id : RowId) → ((e : Dual Fraction) → Contains ds e → HasSigns e) → zero ≤ℚ up_in ds id
up_sign ds id h = by (priced ds id)
  where
    by : IsFree ds id ⊎ ((e : Dual Fraction) × IsPriced ds id e) → zero ≤ℚ up_in ds id
    by (inl f) = subst (λ y. zero ≤ℚ y) (sym (up_unnamed ds id f)) (≤ℚ_refl zero)
    by (inr (e, p)) = subst (λ y. zero ≤ℚ y) (sym p.up) (h e p.listed).up

down_sign : (ds : List (Dual Fraction)) (id : RowId) → ((e : Dual Fraction) → Contains ds e → HasSigns e) → zero ≤ℚ down_in ds id
down_sign ds id h = by (priced ds id)
  where
    by : IsFree ds id ⊎ ((e : Dual Fraction) × IsPriced ds id e) → zero ≤ℚ down_in ds id
    by (inl f) = subst (λ y. zero ≤ℚ y) (sym (down_unnamed ds id f)) (≤ℚ_refl zero)
    by (inr (e, p)) = subst (λ y. zero ≤ℚ y) (sym p.down) (h e p.listed).down

-- ---- rows
-- one side of a row
module _ (m : Parts) (r : Row) (price f : Fraction) where
  abbrev unreached : Bool
  unreached = is_below zero price && is_below f (limit m r)

  abbrev underpriced : Bool
  underpriced = is_below (limit m r) f && is_below price (penalty m r)

  abbrev overpriced : Bool
  overpriced = is_below (penalty m r) price && differ f (most_flow m r)

  side_to : zero ≤ℚ price → breaks_side m r price f ≡ false → SideSupported m r price f
  side_to sign e =
      let parts = or_parts (unreached || underpriced) overpriced e in
      let reach = or_parts unreached underpriced parts.0 in record {
        sign = sign;
        reached = λ h. not_below f (limit m r) (then_not (is_below zero price) (is_below f (limit m r)) reach.0 (below_of zero price h));
        exceeded = λ h. not_below price (penalty m r) (then_not (is_below (limit m r) f) (is_below price (penalty m r)) reach.1 (below_of (limit m r) f h));
        used_up = λ h. same_by f (most_flow m r) (then_not (is_below (penalty m r) price) (differ f (most_flow m r)) parts.1 (below_of (penalty m r) price h));
      }

  side_from : SideSupported m r price f → breaks_side m r price f ≡ false
  side_from s =
      neither (unreached || underpriced) overpriced
      (neither unreached underpriced
      (not_both (is_below zero price) (is_below f (limit m r)) (λ t. below_not f (limit m r) (s.reached (below_true zero price t))))
      (not_both (is_below (limit m r) f) (is_below price (penalty m r)) (λ t. below_not price (penalty m r) (s.exceeded (below_true (limit m r) f t)))))
      (not_both (is_below (penalty m r) price) (differ f (most_flow m r)) (λ t. same_not f (most_flow m r) (s.used_up (below_true (penalty m r) price t))))

module _ (m : Parts) (x : Dispatch) where
  -- these prices of a row support its flow as far as is tested
  abbrev Unbroken : Row → Fraction → Fraction → Type 0
  Unbroken r up down = breaks_row m r up down (flow m x r) ≡ false

  -- so do those of each dual of a row of the market
  slacks_to : (ds : List (Dual Fraction)) → slack_reason m x ds ≡ None → (e : Dual Fraction) → Contains ds e → (r : Row) → Contains (rows m) r → row_id m r ≡ e.row → Unbroken r e.up e.down
  slacks_to ds h e c r k same =
      let none = any_false (λ r. has_name m e.row r && breaks_row m r e.up e.down (flow m x r)) (rows m) (none_of (λ e. reason.Slack e.row) (has_slack m x) ds h e c) r k in
      then_not (has_name m e.row r) (breaks_row m r e.up e.down (flow m x r)) none (named (row_id m r) e.row same)

  slacks_from : (ds : List (Dual Fraction)) → ((e : Dual Fraction) → Contains ds e → (r : Row) → Contains (rows m) r → row_id m r ≡ e.row → Unbroken r e.up e.down) → slack_reason m x ds ≡ None
  slacks_from ds h =
      of_none (λ e. reason.Slack e.row) (has_slack m x) ds
      (λ e c. any_none (λ r. has_name m e.row r && breaks_row m r e.up e.down (flow m x r)) (rows m)
      (λ r k. not_both (has_name m e.row r) (breaks_row m r e.up e.down (flow m x r)) (λ t. h e c r k (same_name (row_id m r) e.row t))))

  -- and no price, of a row that none names
  unpriced_to : (ds : List (Dual Fraction)) → unpriced_reason m x ds ≡ None → (r : Row) → Contains (rows m) r → names_row ds (row_id m r) ≡ false → Unbroken r zero zero
  unpriced_to ds h r c free =
      then_not (not (names_row ds (row_id m r))) (breaks_row m r zero zero (flow m x r)) (none_of (λ r. reason.Slack (row_id m r)) (is_unpriced m x ds) (rows m) h r c) (ap not free)

  unpriced_from : (ds : List (Dual Fraction)) → ((r : Row) → Contains (rows m) r → names_row ds (row_id m r) ≡ false → Unbroken r zero zero) → unpriced_reason m x ds ≡ None
  unpriced_from ds h =
      of_none (λ r. reason.Slack (row_id m r)) (is_unpriced m x ds) (rows m)
      (λ r c. not_both (not (names_row ds (row_id m r))) (breaks_row m r zero zero (flow m x r)) (λ t. h r c (not_so_named (names_row ds (row_id m r)) t)))
    where
      not_so_named : (b : Bool) → not b ≡ true → b ≡ false
      not_so_named false e = refl
      not_so_named true e = sym e

  limits_to : limit_reason m x ≡ None → (r : Row) → Contains (rows m) r → Within (most_flow m r) (flow m x r)
  limits_to h r c =
      let parts = or_parts (is_below (flow m x r) (neg_ℚ (most_flow m r))) (is_below (most_flow m r) (flow m x r)) (none_of (λ r. reason.Limit (row_id m r)) (is_overloaded m x) (rows m) h r c) in
      record { above = not_below (flow m x r) (neg_ℚ (most_flow m r)) parts.0; below = not_below (most_flow m r) (flow m x r) parts.1 }

  limits_from : ((r : Row) → Contains (rows m) r → Within (most_flow m r) (flow m x r)) → limit_reason m x ≡ None
  limits_from h =
      of_none (λ r. reason.Limit (row_id m r)) (is_overloaded m x) (rows m)
      (λ r c. let w = h r c in neither (is_below (flow m x r) (neg_ℚ (most_flow m r))) (is_below (most_flow m r) (flow m x r)) (below_not (flow m x r) (neg_ℚ (most_flow m r)) w.above) (below_not (most_flow m r) (flow m x r) w.below))

  inside_to : block_reason m x ≡ None → (j : ℕ) → j < length m.blocks → (zero ≤ℚ accepted x j) × (accepted x j ≤ℚ quantity m j)
  inside_to h j lt =
      let parts = or_parts (is_below (accepted x j) zero) (is_below (quantity m j) (accepted x j)) (none_of (λ j. reason.Block (j + 1)) (is_beyond m x) (places (length m.blocks)) h j (Contains-places (length m.blocks) j lt)) in
      (not_below (accepted x j) zero parts.0, not_below (quantity m j) (accepted x j) parts.1)

  inside_from : ((j : ℕ) → j < length m.blocks → (zero ≤ℚ accepted x j) × (accepted x j ≤ℚ quantity m j)) → block_reason m x ≡ None
  inside_from h =
      of_none (λ j. reason.Block (j + 1)) (is_beyond m x) (places (length m.blocks))
      (λ j c. let w = h j (Contains-from_places (length m.blocks) j c) in neither (is_below (accepted x j) zero) (is_below (quantity m j) (accepted x j)) (below_not (accepted x j) zero w.0) (below_not (quantity m j) (accepted x j) w.1))

  offered_to : reserve_reason m x ≡ None → (n : ℕ) → n < length m.reserve.offers → (zero ≤ℚ reserved x n) × (reserved x n ≤ℚ reserve_quantity m n)
  offered_to h n lt =
      let parts = or_parts (is_below (reserved x n) zero) (is_below (reserve_quantity m n) (reserved x n)) (none_of (λ (n : ℕ). reason.Reserve (n + 1)) (is_offer_beyond m x) (offer_places m) h n (Contains-places (length m.reserve.offers) n lt)) in
      (not_below (reserved x n) zero parts.0, not_below (reserve_quantity m n) (reserved x n) parts.1)

  offered_from : ((n : ℕ) → n < length m.reserve.offers → (zero ≤ℚ reserved x n) × (reserved x n ≤ℚ reserve_quantity m n)) → reserve_reason m x ≡ None
  offered_from h =
      of_none (λ (n : ℕ). reason.Reserve (n + 1)) (is_offer_beyond m x) (offer_places m)
      (λ n c. let w = h n (Contains-from_places (length m.reserve.offers) n c) in neither (is_below (reserved x n) zero) (is_below (reserve_quantity m n) (reserved x n)) (below_not (reserved x n) zero w.0) (below_not (reserve_quantity m n) (reserved x n) w.1))

  filled_to : room_reason m x ≡ None → KeepRooms m (reserve_units m) x
  filled_to h u c = not_below (room m u) (room_used m x u) (none_of (λ (u : ℕ). reason.Room (unit_at m u).row) (is_overfull m x) (reserve_units m) h u c)

  filled_from : KeepRooms m (reserve_units m) x → room_reason m x ≡ None
  filled_from h = of_none (λ (u : ℕ). reason.Room (unit_at m u).row) (is_overfull m x) (reserve_units m) (λ u c. below_not (room m u) (room_used m x u) (h u c))

  met_to : need_reason m x ≡ None → reserve_need m ≤ℚ reserve m x
  met_to h = not_below (reserve m x) (reserve_need m) (not_so (is_below (reserve m x) (reserve_need m)) reason.Need h)

  met_from : reserve_need m ≤ℚ reserve m x → need_reason m x ≡ None
  met_from h = so_none (is_below (reserve m x) (reserve_need m)) reason.Need (below_not (reserve m x) (reserve_need m) h)

  counts_from : length x.blocks ≡ length m.blocks → length x.reserve ≡ length m.reserve.offers → count_reason m x ≡ None
  counts_from e f =
      so_none (not ((length x.blocks == length m.blocks) && (length x.reserve == length m.reserve.offers))) reason.Count
      (not_true ((length x.blocks == length m.blocks) && (length x.reserve == length m.reserve.offers))
      (and_from (length x.blocks == length m.blocks) (length x.reserve == length m.reserve.offers) (eq-eqb (length x.blocks) (length m.blocks) e) (eq-eqb (length x.reserve) (length m.reserve.offers) f)))

  pub counts_to : count_reason m x ≡ None → (length x.blocks ≡ length m.blocks) × (length x.reserve ≡ length m.reserve.offers)
  counts_to none =
      let p = and_parts (length x.blocks == length m.blocks) (length x.reserve == length m.reserve.offers)
      (not_false ((length x.blocks == length m.blocks) && (length x.reserve == length m.reserve.offers)) (not_so (not ((length x.blocks == length m.blocks) && (length x.reserve == length m.reserve.offers))) reason.Count none)) in
      (eqb-true (length x.blocks) (length m.blocks) p.0, eqb-true (length x.reserve) (length m.reserve.offers) p.1)

-- ---- the price of reserve
need_sign_to : (price : Fraction) → need_sign_reason price ≡ None → zero ≤ℚ price
need_sign_to price h = not_below price zero (not_so (is_below price zero) reason.NeedSign h)

need_sign_from : (price : Fraction) → zero ≤ℚ price → need_sign_reason price ≡ None
need_sign_from price h = so_none (is_below price zero) reason.NeedSign (below_not price zero h)

module _ (m : Parts) (x : Dispatch) (price : Fraction) where
  need_slack_to : need_slack_reason m x price ≡ None → zero <ℚ price → reserve m x ≡ reserve_need m
  need_slack_to h above =
      same_by (reserve m x) (reserve_need m) (then_not (is_below zero price) (differ (reserve m x) (reserve_need m)) (not_so (is_slack price (reserve m x) (reserve_need m)) reason.NeedSlack h) (below_of zero price above))

  need_slack_from : (zero <ℚ price → reserve m x ≡ reserve_need m) → need_slack_reason m x price ≡ None
  need_slack_from h =
      so_none (is_slack price (reserve m x) (reserve_need m)) reason.NeedSlack
      (not_both (is_below zero price) (differ (reserve m x) (reserve_need m)) (λ t. same_not (reserve m x) (reserve_need m) (h (below_true zero price t))))

-- ---- the duals of rows of the market
module _ (m : Parts) (d : Duals Fraction) where
  -- the prices of a dual of a row of the market
  prices_of : Apart d.limits → NamesRows m d.limits → (e : Dual Fraction) → Contains d.limits e → (r : Row) × Contains (rows m) r × (up_of m d r ≡ e.up) × (down_of m d r ≡ e.down)
  prices_of apart names e c = by (All-contains (λ e. (r : Row) × Contains (rows m) r × (row_id m r ≡ e.row)) d.limits e names c)
    where
      own : (up_in d.limits e.row ≡ e.up) × (down_in d.limits e.row ≡ e.down)
      own = own_prices d.limits apart e c

      by : (r : Row) × Contains (rows m) r × (row_id m r ≡ e.row) → (r : Row) × Contains (rows m) r × (up_of m d r ≡ e.up) × (down_of m d r ≡ e.down)
      by (r, k, same) = (r, k, ap (up_in d.limits) same ∙ own.0, ap (down_in d.limits) same ∙ own.1)

  signs_of : Apart d.limits → NamesRows m d.limits → ((r : Row) → Contains (rows m) r → zero ≤ℚ up_of m d r) → ((r : Row) → Contains (rows m) r → zero ≤ℚ down_of m d r) → sign_reason d.limits ≡ None
  signs_of apart names ups downs = signs_from d.limits (λ e c. by e (prices_of apart names e c))
    where
      by : (e : Dual Fraction) → (r : Row) × Contains (rows m) r × (up_of m d r ≡ e.up) × (down_of m d r ≡ e.down) → HasSigns e
      by e (r, k, up, down) = record { up = subst (λ y. zero ≤ℚ y) up (ups r k); down = subst (λ y. zero ≤ℚ y) down (downs r k) }

-- ---- a dispatch and duals that support it
module _ (m : Parts) (x : Dispatch) (d : Duals Fraction) where
  -- the prices of each row support its flow as far as is tested
  unbroken : slack_reason m x d.limits ≡ None → unpriced_reason m x d.limits ≡ None → (r : Row) → Contains (rows m) r → Unbroken m x r (up_of m d r) (down_of m d r)
  unbroken slack unpriced r c = by (priced d.limits (row_id m r))
    where
      by : IsFree d.limits (row_id m r) ⊎ ((e : Dual Fraction) × IsPriced d.limits (row_id m r) e) → Unbroken m x r (up_of m d r) (down_of m d r)
      by (inl free) = subst₂ (Unbroken m x r) (sym (up_unnamed d.limits (row_id m r) free)) (sym (down_unnamed d.limits (row_id m r) free)) (unpriced_to m x d.limits unpriced r c free)
      by (inr (e, is)) = subst₂ (Unbroken m x r) (sym is.up) (sym is.down) (slacks_to m x d.limits slack e is.listed r c (sym is.name))

  row_to : sign_reason d.limits ≡ None → slack_reason m x d.limits ≡ None → unpriced_reason m x d.limits ≡ None → (r : Row) → Contains (rows m) r → RowSupported m x d r
  row_to signs slack unpriced r c =
      let parts = or_parts (breaks_side m r (up_of m d r) (flow m x r)) (breaks_side m r (down_of m d r) (neg_ℚ (flow m x r))) (unbroken slack unpriced r c) in record {
        up = side_to m r (up_of m d r) (flow m x r) (up_sign d.limits (row_id m r) (signs_to d.limits signs)) parts.0;
        down = side_to m r (down_of m d r) (neg_ℚ (flow m x r)) (down_sign d.limits (row_id m r) (signs_to d.limits signs)) parts.1;
      }

  row_from : (r : Row) → RowSupported m x d r → Unbroken m x r (up_of m d r) (down_of m d r)
  row_from r s =
      neither (breaks_side m r (up_of m d r) (flow m x r)) (breaks_side m r (down_of m d r) (neg_ℚ (flow m x r)))
      (side_from m r (up_of m d r) (flow m x r) s.up) (side_from m r (down_of m d r) (neg_ℚ (flow m x r)) s.down)

  slacks_of : Apart d.limits → Supports m x d → slack_reason m x d.limits ≡ None
  slacks_of apart s = slacks_from m x d.limits by
    where
      by : (e : Dual Fraction) → Contains d.limits e → (r : Row) → Contains (rows m) r → row_id m r ≡ e.row → Unbroken m x r e.up e.down
      by e c r k same =
          let own = own_prices d.limits apart e c in
          subst₂ (Unbroken m x r) (ap (up_in d.limits) same ∙ own.0) (ap (down_in d.limits) same ∙ own.1) (row_from r (s.rows r k))

  unpriced_of : Supports m x d → unpriced_reason m x d.limits ≡ None
  unpriced_of s =
      unpriced_from m x d.limits
      (λ r c free. subst₂ (Unbroken m x r) (up_unnamed d.limits (row_id m r) free) (down_unnamed d.limits (row_id m r) free) (row_from r (s.rows r c)))

  -- a dispatch with no reason against its parts, its sums and its limits is feasible
  feasible_to : count_reason m x ≡ None → block_reason m x ≡ None → reserve_reason m x ≡ None → NoneOf (sum_reasons m x) → NoneOf (limit_reasons m x) → Feasible m x
  feasible_to count blocks offers sums limits =
      let n = counts_to m x count in
      let accepts = inside_to m x blocks in
      let reserves = offered_to m x offers in
      let all = all_none (sum_reasons m x) sums in
      let flows = all_none (limit_reasons m x) limits in record {
        blocks = record {
          count = n.0;
          above = λ j lt. (accepts j lt).0;
          within = λ j lt. (accepts j lt).1;
          reserve_count = n.1;
          reserve_above = λ k lt. (reserves k lt).0;
          reserve_within = λ k lt. (reserves k lt).1;
        };
        balanced = same_by (balance m x) zero (not_so (differ (balance m x) zero) reason.Balance all.0);
        limits = limits_to m x flows.0;
        need = met_to m x all.1.0;
        rooms = filled_to m x flows.1.0;
      }

  -- duals with no reason against their signs, their slack and what they support support it
  supports_to : NoneOf (sign_reason d.limits ∷ need_sign_reason d.reserve ∷ room_sign_reason d.rooms ∷ []) → NoneOf (slack_reasons m x d) → support_reason m x d ≡ None → reserve_support_reason m x d ≡ None → Supports m x d
  supports_to signs slacks blocks offers =
      let sign = all_none (sign_reason d.limits ∷ need_sign_reason d.reserve ∷ room_sign_reason d.rooms ∷ []) signs in
      let slack = all_none (slack_reasons m x d) slacks in record {
        blocks = blocks_to m x d blocks;
        rows = row_to sign.0 slack.0 slack.1.0;
        offers = offers_to m x d offers;
        need = record { sign = need_sign_to d.reserve sign.1.0; met = need_slack_to m x d.reserve slack.1.1.0 };
        rooms = λ u c. record { sign = room_sign m d sign.1.1.0 u c; used_up = used_up_to m x d slack.1.1.1.0 u c };
      }

  pub optimal_to : first_of (optimal_reasons m x d) ≡ None → IsOptimum m x d
  optimal_to none =
      let all = all_none (optimal_reasons m x d) none in
      let names = all.1 in
      let signs = names.1.1 in
      let inside = signs.1.1.1 in
      let sums = inside.1.1 in
      let limits = sums.1.1 in
      let slacks = limits.1.1 in
      let supports = slacks.1.1.1.1 in record {
        rows = names_to m d.limits names.0;
        rooms = rooms_to m d.rooms names.1.0;
        feasible = feasible_to all.0 inside.0 inside.1.0 (none_first (sum_reasons m x) (sums.0, (sums.1.0, tt))) (none_first (limit_reasons m x) (limits.0, (limits.1.0, tt)));
        supported = supports_to (none_first (sign_reason d.limits ∷ need_sign_reason d.reserve ∷ room_sign_reason d.rooms ∷ []) (signs.0, (signs.1.0, (signs.1.1.0, tt))))
            (none_first (slack_reasons m x d) (slacks.0, (slacks.1.0, (slacks.1.1.0, (slacks.1.1.1.0, tt))))) supports.0 supports.1.0;
      }

  pub optimal_from : Apart d.limits → IsOptimum m x d → first_of (optimal_reasons m x d) ≡ None
  optimal_from apart h =
      let f = h.feasible in
      let s = h.supported in
      let count : count_reason m x ≡ None = counts_from m x f.blocks.count f.blocks.reserve_count in
      let names : row_reason m d.limits ≡ None = names_from m d.limits h.rows in
      let units : unit_reason m d.rooms ≡ None = rooms_from m d.rooms h.rooms in
      let signs : sign_reason d.limits ≡ None = signs_of m d apart h.rows (λ r c. (s.rows r c).up.sign) (λ r c. (s.rows r c).down.sign) in
      let need_sign : need_sign_reason d.reserve ≡ None = need_sign_from d.reserve s.need.sign in
      let room_signs : room_sign_reason d.rooms ≡ None = room_signs_from m d h.rooms (λ u c. (s.rooms u c).sign) in
      let inside : block_reason m x ≡ None = inside_from m x (λ j lt. (f.blocks.above j lt, f.blocks.within j lt)) in
      let offered : reserve_reason m x ≡ None = offered_from m x (λ n lt. (f.blocks.reserve_above n lt, f.blocks.reserve_within n lt)) in
      let balanced : balance_reason m x ≡ None = so_none (differ (balance m x) zero) reason.Balance (same_not (balance m x) zero f.balanced) in
      let met : need_reason m x ≡ None = met_from m x f.need in
      let limits : limit_reason m x ≡ None = limits_from m x f.limits in
      let filled : room_reason m x ≡ None = filled_from m x f.rooms in
      let slack : slack_reason m x d.limits ≡ None = slacks_of apart s in
      let unpriced : unpriced_reason m x d.limits ≡ None = unpriced_of s in
      let need_slack : need_slack_reason m x d.reserve ≡ None = need_slack_from m x d.reserve s.need.met in
      let room_slack : room_slack_reason m x d.rooms ≡ None = room_slack_from m x d h.rooms s.rooms in
      let support : support_reason m x d ≡ None = blocks_from m x d s.blocks in
      let offers : reserve_support_reason m x d ≡ None = offers_from m x d s.offers in
      none_first (optimal_reasons m x d)
      (count, (names, (units, (signs, (need_sign, (room_signs, (inside, (offered, (balanced, (met, (limits, (filled, (slack, (unpriced, (need_slack, (room_slack, (support, (offers, tt))))))))))))))))))

-- ---- duals that show that nothing is feasible
module _ (m : Parts) (d : Duals Fraction) where
  pub farkas_to : first_of (farkas_reasons m d) ≡ None → ProvesInfeasible m d
  farkas_to none =
      let all = all_none (farkas_reasons m d) none in
      let signs = all.1.1 in record {
        rows = names_to m d.limits all.0;
        rooms = rooms_to m d.rooms all.1.0;
        shows = record {
          up_signs = λ r c. up_sign d.limits (row_id m r) (signs_to d.limits signs.0);
          down_signs = λ r c. down_sign d.limits (row_id m r) (signs_to d.limits signs.0);
          need_sign = need_sign_to d.reserve signs.1.0;
          room_signs = room_sign m d signs.1.1.0;
          below = below_true (farkas_bound m d) zero (not_false (is_below (farkas_bound m d) zero) (not_so (not (is_below (farkas_bound m d) zero)) reason.Bound signs.1.1.1.0));
        };
      }

  pub farkas_from : Apart d.limits → ProvesInfeasible m d → first_of (farkas_reasons m d) ≡ None
  farkas_from apart h =
      let names : row_reason m d.limits ≡ None = names_from m d.limits h.rows in
      let units : unit_reason m d.rooms ≡ None = rooms_from m d.rooms h.rooms in
      let signs : sign_reason d.limits ≡ None = signs_of m d apart h.rows h.shows.up_signs h.shows.down_signs in
      let need_sign : need_sign_reason d.reserve ≡ None = need_sign_from d.reserve h.shows.need_sign in
      let room_signs : room_sign_reason d.rooms ≡ None = room_signs_from m d h.rooms h.shows.room_signs in
      let bound : bound_reason m d ≡ None = so_none (not (is_below (farkas_bound m d) zero)) reason.Bound (not_true (is_below (farkas_bound m d) zero) (below_of (farkas_bound m d) zero h.shows.below)) in
      none_first (farkas_reasons m d) (names, (units, (signs, (need_sign, (room_signs, (bound, tt))))))
