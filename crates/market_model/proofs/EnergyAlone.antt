-- Markets of energy alone: what is asked of reserve holds by itself, and nothing of it counts.
use Rattle.std.specs.Prelude.{◌≡◌, ℕ, ◌<◌, pos, Bool, true, false, All, Contains, List, [], ◌∷◌, ◌++◌, length, map, filter, if◌then◌else◌, refl}
use Rattle.std.specs.List.{flat_map}
use Rattle.std.proofs.Common.{arith, ap, sym, ◌∙◌, subst}
use Rattle.std.proofs.lemmas.List.{append-nil}
use mathlib.Core.Path.{ap₂}
use Rattle.fraction_theory.specs.Fraction.{Fraction, whole, ◌+ℚ◌, ◌-ℚ◌, ◌*ℚ◌, neg_ℚ}
use Rattle.fraction_theory.specs.Order.{◌≤ℚ◌, ◌<ℚ◌}
use Rattle.fraction_theory.specs.Sums.{Term, Product, total}
use Rattle.fraction_theory.proofs.Ring.{by_ring1, at, pnil, pone, pneg, ◌⊕◌}
use Rattle.fraction_theory.proofs.FieldLaws.{ring_ℚ}
use Rattle.fraction_theory.proofs.OrderLaws.{≤ℚ_refl, <ℚ_irrefl}
use Rattle.market_model.specs.declared.participants.Parts.{Parts}
use Rattle.market_model.specs.declared.participants.Reserve.{Reserve}
use Rattle.market_model.specs.declared.participants.ReserveOffer.{ReserveOffer}
use Rattle.market_model.specs.declared.answered.Dual.{Dual}
use Rattle.market_model.specs.declared.answered.Duals.{Duals}
use Rattle.market_model.specs.declared.answered.RoomDual.{RoomDual}
use Rattle.market_model.specs.declared.limits.Row.{Row}
use Rattle.market_model.specs.Dispatch.{Dispatch, IsDispatch, zero, places, unit_at, block_at, accepted, quantity, reserved, balance, dispatch_by, dispatch_with, empty}
use Rattle.market_model.specs.Frame.{SameFrame}
use Rattle.market_model.specs.Market.{IsMarket}
use Rattle.market_model.specs.Infeasibility.{block_most, farkas_terms, limit_terms, nothing_terms, offer_most, reserve_left_terms}
use Rattle.market_model.specs.LimitRows.{rows, flow, most_flow, row_id}
use Rattle.market_model.specs.Optimality.{AreWithin, FeasibleFor, Taken, BlockSupported, Gains, IsOneSided, Loses, NeedSupported, ProperDuals, RowSupported, Supports, energy_worth, named_rooms, named_rows, names_room, penalty_terms, price, room_price, room_price_in, unit_price, block_value_terms, welfare_terms_for}
use Rattle.market_model.specs.Reserves.{no_reserve, offer_places, offers_among, reserve, reserve_cost_terms, reserve_need, offer_price, reserve_units, reserved_term, room}
use Rattle.market_model.specs.Settlement.{pay_of_reserve}
use Rattle.market_model.specs.Valued.{energy_duals}

-- no unit offers reserve
none_offer : (us : List ℕ) → filter (λ u. offers_among [] u) us ≡ []
none_offer [] = refl
none_offer (u ∷ us) = none_offer us

module _ (m : Parts) (alone : m.reserve ≡ no_reserve) where
  pub no_offers : m.reserve.offers ≡ []
  no_offers = ap (λ (r : Reserve). r.offers) alone

  pub no_places : offer_places m ≡ []
  no_places = ap (λ (os : List ReserveOffer). places (length os)) no_offers

  pub not_listed : m.reserve.listed ≡ false
  not_listed = ap (λ (r : Reserve). r.listed) alone

  pub no_units : reserve_units m ≡ []
  no_units = ap (λ (os : List ReserveOffer). filter (λ u. offers_among os u) (places (length m.units))) no_offers ∙ none_offer (places (length m.units))

  pub no_unit : (u : ℕ) → ¬ (Contains (reserve_units m) u)
  no_unit u c = let k : Contains [] u = subst (λ (us : List ℕ). Contains us u) no_units c in Prim.omega (arith, k.1)

  pub no_need : reserve_need m ≡ zero
  no_need = ap (λ (r : Reserve). whole_need r) alone
    where
      whole_need : Reserve → Fraction
      whole_need r = whole r.need

  pub no_room_price : (d : Duals Fraction) (u : ℕ) → room_price m d u ≡ zero
  no_room_price d u = ap (λ (os : List ReserveOffer). if offers_among os u then room_price_in d.rooms (unit_at m u).row else zero) no_offers

  pub worth_is_price : (d : Duals Fraction) (u : ℕ) → energy_worth m d u ≡ unit_price m d u
  worth_is_price d u = by_ring1 ring_ℚ (unit_price m d u ∷ room_price m d u ∷ []) (at 0 ⊕ pneg (at 1)) (at 0) (pneg pone) (at 1) pnil (no_room_price d u) refl

  pub nothing_reserved : (x : Dispatch) → reserve m x ≡ zero
  unfolding reserve
  nothing_reserved x = ap (λ (ns : List ℕ). total (map (reserved_term x) ns)) no_places

  -- ---- dispatches
  pub is_energy_dispatch : (x : Dispatch) → x.reserve ≡ [] → length x.blocks ≡ length m.blocks
      → ((j : ℕ) → j < length m.blocks → zero ≤ℚ accepted x j) → ((j : ℕ) → j < length m.blocks → accepted x j ≤ℚ quantity m j) → IsDispatch m x
  is_energy_dispatch x none count above within = record {
    count = count;
    above = above;
    within = within;
    reserve_count = ap length none ∙ sym (ap length no_offers);
    reserve_above = λ n h. let few = ap length no_offers in absurd (Prim.omega (arith, h, few));
    reserve_within = λ n h. let few = ap length no_offers in absurd (Prim.omega (arith, h, few));
  }

  pub feasible_alone : (g : Taken) (x : Dispatch) → ((u : ℕ) → Contains g.rooms u → Contains (reserve_units m) u) → IsDispatch m x → balance m x ≡ zero → AreWithin g.limits (most_flow m) (flow m x) → FeasibleFor m g x
  feasible_alone g x units is balanced within = record {
    blocks = is;
    balanced = balanced;
    limits = within;
    need = subst (λ (a : Fraction). a ≤ℚ reserve m x) (sym no_need) (subst (λ (a : Fraction). zero ≤ℚ a) (sym (nothing_reserved x)) (≤ℚ_refl zero));
    rooms = λ u c. absurd (no_unit u (units u c));
  }

  -- ---- duals
  pub block_alone : (x : Dispatch) (d : Duals Fraction) (j : ℕ)
      → (Gains (block_at m j).side (price m j) (unit_price m d (block_at m j).unit) → accepted x j ≡ quantity m j)
      → (Loses (block_at m j).side (price m j) (unit_price m d (block_at m j).unit) → accepted x j ≡ zero) → BlockSupported m x d j
  block_alone x d j full none = record {
    full = λ g. full (subst (Gains (block_at m j).side (price m j)) (worth_is_price d (block_at m j).unit) g);
    empty = λ g. none (subst (Loses (block_at m j).side (price m j)) (worth_is_price d (block_at m j).unit) g);
  }

  pub full_alone : (x : Dispatch) (d : Duals Fraction) (j : ℕ) → BlockSupported m x d j → Gains (block_at m j).side (price m j) (unit_price m d (block_at m j).unit) → accepted x j ≡ quantity m j
  full_alone x d j s g = s.full (subst (Gains (block_at m j).side (price m j)) (sym (worth_is_price d (block_at m j).unit)) g)

  pub none_alone : (x : Dispatch) (d : Duals Fraction) (j : ℕ) → BlockSupported m x d j → Loses (block_at m j).side (price m j) (unit_price m d (block_at m j).unit) → accepted x j ≡ zero
  none_alone x d j s g = s.empty (subst (Loses (block_at m j).side (price m j)) (sym (worth_is_price d (block_at m j).unit)) g)

  pub need_alone : (x : Dispatch) (d : Duals Fraction) → d.reserve ≡ zero → NeedSupported m x d
  need_alone x d free = record {
    sign = subst (λ (a : Fraction). zero ≤ℚ a) (sym free) (≤ℚ_refl zero);
    met = λ above. absurd (<ℚ_irrefl zero (subst (λ (a : Fraction). zero <ℚ a) free above));
  }

  pub supports_alone : (x : Dispatch) (d : Duals Fraction) → d.reserve ≡ zero → ((j : ℕ) → j < length m.blocks → BlockSupported m x d j)
      → ((r : Row) → Contains (rows m) r → RowSupported m x d r) → Supports m x d
  supports_alone x d free blocks rows_ = record {
    blocks = blocks;
    rows = rows_;
    offers = λ n h. let few = ap length no_offers in absurd (Prim.omega (arith, h, few));
    need = need_alone x d free;
    rooms = λ u c. absurd (no_unit u c);
  }

  pub no_named_rooms : (d : Duals Fraction) → named_rooms m d ≡ []
  no_named_rooms d = ap (λ (us : List ℕ). filter (λ u. names_room d.rooms (unit_at m u).row) us) no_units

  pub proper_alone : (d : Duals Fraction) → d.reserve ≡ zero → d.rooms ≡ [] → map (λ e. e.row) d.limits ≡ map (row_id m) (named_rows m d) → All IsOneSided d.limits → ProperDuals m d
  proper_alone d free none named one_sided = record {
    named = named;
    one_sided = one_sided;
    rooms_named = ap (λ (ds : List (RoomDual Fraction)). map (λ e. e.unit) ds) none ∙ sym (ap (λ (us : List ℕ). map (λ u. (unit_at m u).row) us) (no_named_rooms d));
    rooms_priced = subst (All (λ (e : RoomDual Fraction). zero <ℚ e.price)) (sym none) (λ i e lt. absurd (Prim.omega (arith, lt)));
    energy_alone = λ e. free;
  }

  -- ---- sums
  pub no_cost : (x : Dispatch) → reserve_cost_terms m x ≡ []
  no_cost x = ap (λ (ns : List ℕ). map (λ n. Product (neg_ℚ (offer_price m n)) (reserved x n)) ns) no_places

  pub welfare_alone : (g : List Row) (x : Dispatch) → welfare_terms_for m g x ≡ block_value_terms m x ++ penalty_terms m g x
  welfare_alone g x = ap (λ (ts : List Term). block_value_terms m x ++ penalty_terms m g x ++ ts) (no_cost x) ∙ append-nil (block_value_terms m x ++ penalty_terms m g x)

  pub nothing_left : (d : Duals Fraction) → reserve_left_terms m d ≡ []
  nothing_left d =
      ap₂ (λ (b : Bool) (us : List ℕ). (if b then Product d.reserve (neg_ℚ (reserve_need m)) ∷ [] else []) ++ map (λ u. Product (room_price m d u) (room m u)) us) not_listed no_units

  pub nothing_terms_alone : (d : Duals Fraction) → nothing_terms m d ≡ Product d.energy (balance m (empty m)) ∷ flat_map (limit_terms m d) (rows m)
  nothing_terms_alone d =
      ap (λ (ts : List Term). Product d.energy (balance m (empty m)) ∷ (flat_map (limit_terms m d) (rows m) ++ ts)) (nothing_left d)
      ∙ ap (λ (ts : List Term). Product d.energy (balance m (empty m)) ∷ ts) (append-nil (flat_map (limit_terms m d) (rows m)))

  pub farkas_terms_alone : (d : Duals Fraction) → farkas_terms m d ≡ nothing_terms m d ++ map (block_most m d) (places (length m.blocks))
  farkas_terms_alone d =
      ap (λ (ns : List ℕ). nothing_terms m d ++ map (block_most m d) (places (length m.blocks)) ++ map (offer_most m d) ns) no_places
      ∙ append-nil (nothing_terms m d ++ map (block_most m d) (places (length m.blocks)))

  pub no_pays : (x : Dispatch) (d : Duals Fraction) → map (pay_of_reserve x d) (offer_places m) ≡ []
  no_pays x d = ap (λ (ns : List ℕ). map (pay_of_reserve x d) ns) no_places

  -- ---- what a dispatch and duals are then
  nothing_listed : (xs : List Fraction) → length xs ≡ 0 → xs ≡ []
  nothing_listed [] e = refl
  nothing_listed (x ∷ xs) e = absurd (Prim.omega (arith, e))

  none_named : (ds : List (RoomDual Fraction)) → map (λ e. e.unit) ds ≡ [] → ds ≡ []
  none_named [] e = refl
  none_named (x ∷ xs) e = absurd Prim.cc

  pub dispatch_alone : (x : Dispatch) → IsDispatch m x → x ≡ dispatch_by x.blocks
  dispatch_alone x is = ap (dispatch_with x.blocks) (nothing_listed x.reserve (is.reserve_count ∙ ap length no_offers))

  pub duals_alone : (d : Duals Fraction) → ProperDuals m d → d ≡ energy_duals d.energy d.limits
  duals_alone d proper =
      let none : d.rooms ≡ [] = none_named d.rooms (proper.rooms_named ∙ ap (λ (us : List ℕ). map (λ u. (unit_at m u).row) us) (no_named_rooms d)) in
      λ i. record { energy = d.energy; limits = d.limits; reserve = proper.energy_alone not_listed i; rooms = none i }

-- edits leave a market of energy alone one
pub alone_in_frame : (m n : Parts) → SameFrame m n → m.reserve ≡ no_reserve → IsMarket n → n.reserve ≡ no_reserve
alone_in_frame m n same alone market = market.reserve.unlisted (sym (ap (λ (p : Parts). p.reserve.listed) same) ∙ ap (λ (r : Reserve). r.listed) alone)
