-- What blocks are worth and soft limits cost, one by one, and what is refused of that.
use Rattle.std.specs.Prelude.{◌≡◌, ◌⊎◌, ◌||◌, ℕ, ◌+◌, ◌<◌, pos, Bool, true, false, cond, List, [], ◌∷◌, ◌++◌, map, filter, length, Contains, None, refl}
use Rattle.std.specs.Int.{is_positive}
use Rattle.std.specs.List.{list_any}
use Rattle.std.proofs.Common.{ap, ap₂, sym, ◌∙◌, inl, inr, get_or, append_assoc}
use Rattle.std.proofs.lemmas.List.{append-nil, map-append}
use Rattle.std.proofs.lemmas.List.Elements.{filter-append}
use Rattle.std.proofs.lemmas.List.Folds.{list_any_at}
use Rattle.fraction_theory.specs.Fraction.{Fraction, whole, neg_ℚ, ◌+ℚ◌, ◌*ℚ◌}
use Rattle.fraction_theory.specs.Sums.{Term, Product, term_value, total}
use Rattle.fraction_theory.proofs.FieldLaws.{+ℚ_assoc, +ℚ_nil}
use Rattle.fraction_theory.proofs.ListSums.{Contains-cons, Contains-head}
use Rattle.fraction_theory.proofs.SumLaws.{total-append}
use Rattle.exact_fraction.specs.declared.Passed.{Passed}
use Rattle.market_model.specs.declared.limits.Row.{Row}
use Rattle.market_model.specs.declared.participants.Block.{Block}
use Rattle.market_model.specs.declared.participants.Line.{Line}
use Rattle.market_model.specs.declared.participants.Parts.{Parts}
use Rattle.market_model.specs.declared.participants.ReserveOffer.{ReserveOffer}
use Rattle.market_model.specs.Dispatch.{Dispatch, places, dispatch_with, signed_by_side, block_at, accepted, line_at, offer_at, reserved}
use Rattle.market_model.specs.LimitRows.{carried, flow_by, is_outage, is_soft, penalty, penalty_of, rows}
use Rattle.market_model.specs.Lines.{hard_line}
use Rattle.market_model.specs.Market.{IsMarket}
use Rattle.market_model.specs.NamedSums.{IsShareRefusal}
use Rattle.market_model.specs.Optimality.{block_value, penalty_terms, block_value_terms, welfare, welfare_for, welfare_terms}
use Rattle.market_model.specs.Overrun.{excess, excess_by}
use Rattle.market_model.specs.PutIn.{dispatch_of}
use Rattle.market_model.specs.Reserves.{offer_price, reserve_cost_terms}
use Rattle.market_model.specs.SumTables.{IsFlowRefusal, IsRefusedAmong, WelfareSum, welfare_of_all}
use Rattle.market_model.proofs.MorePlaces.{total-places_more}
use Rattle.market_model.proofs.PutInSteps.{accepted_is}
use Rattle.market_model.proofs.RowMembers.{row_parts}
use Rattle.market_model.proofs.SumSteps.{behind, in_front, share_at, terms_at}
use Rattle.limit_screen.proofs.ScreenLemmas.{flow_refusal_same, law_of_row_flows, row_terms}
use Rattle.limit_screen.specs.Flows.{carried_at, flows_at}
use Rattle.settlement.specs.SoftLines.{has_soft_limit}
use Rattle.settlement.specs.Refusals.{IsWelfareRefusal}

-- ---- blocks
module _ {N : Type 0} (value : N → Fraction) (m : Parts) (ds : List N) where
  abbrev pub values_to : ℕ → Fraction
  values_to k = total (map (λ j. Product (block_value m j) (accepted (dispatch_of value ds) j)) (places k))

  -- the value of the block k
  value_is : (k : ℕ) (block : Block) (worth : Fraction) → block ≡ block_at m k → worth ≡ neg_ℚ (signed_by_side block.side (whole block.price)) → worth ≡ block_value m k
  value_is k block worth at is = is ∙ ap (λ (b : Block). neg_ℚ (signed_by_side b.side (whole b.price))) at

  -- the values with one block more
  pub values_step : (k : ℕ) (block : Block) (d : N) (worth old new : Fraction) → k < length ds → d ≡ get_or ds k d → block ≡ block_at m k → old ≡ values_to k
      → worth ≡ neg_ℚ (signed_by_side block.side (whole block.price)) → new ≡ old +ℚ worth *ℚ value d → new ≡ values_to (k + 1)
  values_step k block d worth old new h is at before w e =
      e
      ∙ ap₂ (λ u v. old +ℚ u *ℚ v) (value_is k block worth at w) (sym (accepted_is value ds k d h is))
      ∙ ap (λ t. t +ℚ (block_value m k *ℚ accepted (dispatch_of value ds) k)) before
      ∙ sym (total-places_more (λ j. Product (block_value m j) (accepted (dispatch_of value ds) j)) k)

  -- what a block is worth is added
  pub value_refused : (reserve : List Fraction) (k : ℕ) (block : Block) (d : N) (worth sum : Fraction) (bound : ℕ) (p : Passed Fraction) → k < length m.blocks → k < length ds → d ≡ get_or ds k d → block ≡ block_at m k
      → sum ≡ values_to k → worth ≡ neg_ℚ (signed_by_side block.side (whole block.price)) → IsShareRefusal sum worth (value d) bound p → IsRefusedAmong (WelfareSum m (dispatch_with (map value ds) reserve)) bound p
  value_refused reserve k block d worth sum bound p below lt at same is w h =
      let x = dispatch_with (map value ds) reserve in
      let f : ℕ → Term = λ j. Product (block_value m j) (accepted x j) in
      let r = terms_at f (length m.blocks) k below in (
        welfare_terms m x,
        welfare_of_all,
        share_at (welfare_terms m x) (map f (places k)) ((r.0 ++ penalty_terms m (rows m) x) ++ reserve_cost_terms m x) (f k)
            (in_front (block_value_terms m x ++ penalty_terms m (rows m) x) (map f (places k)) (r.0 ++ penalty_terms m (rows m) x) (reserve_cost_terms m x) (f k)
            (in_front (block_value_terms m x) (map f (places k)) r.0 (penalty_terms m (rows m) x) (f k) r.1))
            bound p sum worth (value d) (ap₂ Product (sym (value_is k block worth same w)) (accepted_is value ds k d lt at)) is h,
      )

-- ---- limits that give way
module _ (m : Parts) (x : Dispatch) where
  -- the terms of the welfare in front of what reserve costs, where these rows count
  abbrev pub energy_terms : List Row → List Term
  energy_terms g = block_value_terms m x ++ penalty_terms m g x

  abbrev cost_term : Row → Term
  cost_term r = Product (neg_ℚ (penalty m r)) (excess m x r)

  pub worth_of_values : total (block_value_terms m x) ≡ total (energy_terms [])
  worth_of_values = ap total (sym (append-nil (block_value_terms m x)))

  module _ (g : List Row) (r : Row) where
    -- the terms with one row more
    terms_more : (b : Bool) → is_soft m r ≡ b → energy_terms (g ++ r ∷ []) ≡ energy_terms g ++ map cost_term (cond b (r ∷ []) [])
    terms_more b e =
        ap (λ rs. block_value_terms m x ++ map cost_term rs) (filter-append (is_soft m) g (r ∷ []) ∙ ap (λ (t : Bool). filter (is_soft m) g ++ cond t (r ∷ []) []) e)
        ∙ ap (λ ts. block_value_terms m x ++ ts) (map-append cost_term (filter (is_soft m) g) (cond b (r ∷ []) []))
        ∙ sym (append_assoc (block_value_terms m x) (penalty_terms m g x) (map cost_term (cond b (r ∷ []) [])))

    -- a row whose limit does not costs nothing
    pub worth_same : is_soft m r ≡ false → (sum : Fraction) → sum ≡ total (energy_terms g) → sum ≡ total (energy_terms (g ++ r ∷ []))
    worth_same e sum is = is ∙ sym (ap total (terms_more false e ∙ append-nil (energy_terms g)))

    module _ (soft : is_soft m r ≡ true) (fs : List Fraction) (are : fs ≡ flows_at m x) (market : IsMarket m) (c : Contains (rows m) r) where
      excess_is : excess_by m r (flow_by m (carried_at m fs) r) ≡ excess m x r
      excess_is = ap (excess_by m r) (law_of_row_flows m x fs r market are c)

      pub worth_less : (old new : Fraction) → old ≡ total (energy_terms g) → new ≡ old +ℚ neg_ℚ (penalty m r) *ℚ excess_by m r (flow_by m (carried_at m fs) r) → new ≡ total (energy_terms (g ++ r ∷ []))
      worth_less old new is e =
          e ∙ ap₂ (λ s t. s +ℚ neg_ℚ (penalty m r) *ℚ t) is excess_is
          ∙ ap (λ t. total (energy_terms g) +ℚ t) (sym (+ℚ_nil (neg_ℚ (penalty m r) *ℚ excess m x r)))
          ∙ sym (ap total (terms_more true soft) ∙ total-append (energy_terms g) (cost_term r ∷ []))

      -- its flow is refused, or what it costs
      pub cost_refused : (left : List Row) (sum : Fraction) (bound : ℕ) (p : Passed Fraction) → rows m ≡ g ++ r ∷ left → sum ≡ total (energy_terms g)
          → IsFlowRefusal m (carried_at m fs) r bound p ⊎ IsShareRefusal sum (neg_ℚ (penalty m r)) (excess_by m r (flow_by m (carried_at m fs) r)) bound p
          → IsWelfareRefusal m x bound p
      cost_refused left sum bound p all is (inl a) =
          inr (r, c, soft, flow_refusal_same m (carried_at m fs) (carried m x) r bound p (row_terms m x fs are r market c) a)
      cost_refused left sum bound p all is (inr a) =
          inl (
            welfare_terms m x,
            welfare_of_all,
            share_at (welfare_terms m x) (energy_terms g) (penalty_terms m left x ++ reserve_cost_terms m x) (cost_term r) split bound p sum (neg_ℚ (penalty m r)) (excess_by m r (flow_by m (carried_at m fs) r))
                (ap (Product (neg_ℚ (penalty m r))) (sym excess_is)) is a,
          )
        where
          kept : filter (is_soft m) (rows m) ≡ filter (is_soft m) g ++ r ∷ filter (is_soft m) left
          kept =
              ap (filter (is_soft m)) all ∙ filter-append (is_soft m) g (r ∷ left)
              ∙ ap (λ (b : Bool). filter (is_soft m) g ++ cond b (r ∷ filter (is_soft m) left) (filter (is_soft m) left)) soft

          costs : penalty_terms m (rows m) x ≡ penalty_terms m g x ++ cost_term r ∷ penalty_terms m left x
          costs = ap (map cost_term) kept ∙ map-append cost_term (filter (is_soft m) g) (r ∷ filter (is_soft m) left)

          split : welfare_terms m x ≡ energy_terms g ++ cost_term r ∷ (penalty_terms m left x ++ reserve_cost_terms m x)
          split =
              in_front (energy_terms (rows m)) (energy_terms g) (penalty_terms m left x) (reserve_cost_terms m x) (cost_term r)
              (behind (block_value_terms m x) (penalty_terms m (rows m) x) (penalty_terms m g x) (penalty_terms m left x) (cost_term r) costs)

-- ---- markets in which no limit gives way
none_kept : {T : Type 0} (p : T → Bool) (xs : List T) → ((x : T) → Contains xs x → p x ≡ false) → filter p xs ≡ []
none_kept p [] h = refl
none_kept p (x ∷ xs) h = ap (λ (b : Bool). cond b (x ∷ filter p xs) (filter p xs)) (h x (Contains-head x xs)) ∙ none_kept p xs (λ y c. h y (Contains-cons x xs y c))

-- of a line both limits do not
neither_soft : (line : Line) (post : Bool) → has_soft_limit line ≡ false → is_positive (penalty_of post line) ≡ false
neither_soft line post h = by (is_positive line.base_price) (is_positive line.post_price) post refl refl h
  where
    by : (x y post : Bool) → is_positive line.base_price ≡ x → is_positive line.post_price ≡ y → (x || y) ≡ false → is_positive (penalty_of post line) ≡ false
    by true y post e f h = absurd Prim.cc
    by false true post e f h = absurd Prim.cc
    by false false true e f h = f
    by false false false e f h = e

module _ (m : Parts) (none : list_any has_soft_limit m.lines ≡ false) where
  line_hard : (l : ℕ) → l < length m.lines → (b : Bool) → has_soft_limit (line_at m l) ≡ b → b ≡ false
  line_hard l inside true e = sym (list_any_at has_soft_limit m.lines l (hard_line 0 None None (pos 0)) inside e) ∙ none
  line_hard l inside false e = refl

  row_hard : (r : Row) → Contains (rows m) r → is_soft m r ≡ false
  row_hard r c =
      neither_soft (line_at m r.line) (is_outage r.cause) (line_hard r.line (row_parts m r c).line (has_soft_limit (line_at m r.line)) refl)

  -- all that counts is what blocks are worth
  pub worth_of_blocks : (x : Dispatch) (values : Fraction) → values ≡ total (block_value_terms m x) → values ≡ total (energy_terms m x (rows m))
  worth_of_blocks x values is = is ∙ worth_of_values m x ∙ ap (λ (rs : List Row). total (block_value_terms m x ++ map (cost_term m x) rs)) (sym (none_kept (is_soft m) (rows m) row_hard))

-- ---- reserve
module _ {N : Type 0} (value : N → Fraction) (m : Parts) (rs : List N) where
  -- what so many offers cost
  abbrev pub costs_to : ℕ → List Term
  costs_to k = map (λ n. Product (neg_ℚ (offer_price m n)) (reserved (dispatch_with [] (map value rs)) n)) (places k)

  -- the opposite of the price of an offer, and what is accepted of it
  offer_term_is : (k : ℕ) (offer : ReserveOffer) (r : N) (worth : Fraction) → k < length rs → r ≡ get_or rs k r → offer ≡ offer_at m k → worth ≡ neg_ℚ (whole offer.price)
      → Product (neg_ℚ (offer_price m k)) (reserved (dispatch_with [] (map value rs)) k) ≡ Product worth (value r)
  offer_term_is k offer r worth h is at w = ap₂ Product (sym (w ∙ ap (λ (o : ReserveOffer). neg_ℚ (whole o.price)) at)) (accepted_is value rs k r h is)

  -- one offer more
  pub cost_step : (front : Fraction) (k : ℕ) (offer : ReserveOffer) (r : N) (worth old new : Fraction) → k < length rs → r ≡ get_or rs k r → offer ≡ offer_at m k → worth ≡ neg_ℚ (whole offer.price)
      → old ≡ front +ℚ total (costs_to k) → new ≡ old +ℚ worth *ℚ value r → new ≡ front +ℚ total (costs_to (k + 1))
  cost_step front k offer r worth old new h is at w before e =
      e ∙ ap₂ (λ s t. s +ℚ t) before (ap term_value (sym (offer_term_is k offer r worth h is at w)))
      ∙ +ℚ_assoc front (total (costs_to k)) (neg_ℚ (offer_price m k) *ℚ reserved (dispatch_with [] (map value rs)) k)
      ∙ ap (λ t. front +ℚ t) (sym (total-places_more (λ n. Product (neg_ℚ (offer_price m n)) (reserved (dispatch_with [] (map value rs)) n)) k))

  module _ (blocks : List Fraction) where
    abbrev whole_dispatch : Dispatch
    whole_dispatch = dispatch_with blocks (map value rs)

    -- all offers
    pub costs_all : (front sum : Fraction) → front ≡ total (energy_terms m whole_dispatch (rows m)) → sum ≡ front +ℚ total (costs_to (length m.reserve.offers)) → sum ≡ welfare m whole_dispatch
    unfolding welfare_for
    costs_all front sum of_energy e =
        e ∙ ap (λ t. t +ℚ total (costs_to (length m.reserve.offers))) of_energy
        ∙ sym (total-append (energy_terms m whole_dispatch (rows m)) (reserve_cost_terms m whole_dispatch))

    -- what an offer costs is added
    pub offer_refused : (front : Fraction) (k : ℕ) (offer : ReserveOffer) (r : N) (worth sum : Fraction) (bound : ℕ) (p : Passed Fraction) → front ≡ total (energy_terms m whole_dispatch (rows m))
        → k < length m.reserve.offers → k < length rs → r ≡ get_or rs k r → offer ≡ offer_at m k → worth ≡ neg_ℚ (whole offer.price) → sum ≡ front +ℚ total (costs_to k)
        → IsShareRefusal sum worth (value r) bound p → IsRefusedAmong (WelfareSum m whole_dispatch) bound p
    offer_refused front k offer r worth sum bound p of_energy below h is at w before why =
        let f : ℕ → Term = λ n. Product (neg_ℚ (offer_price m n)) (reserved whole_dispatch n) in
        let t = terms_at f (length m.reserve.offers) k below in (
          welfare_terms m whole_dispatch,
          welfare_of_all,
          share_at (welfare_terms m whole_dispatch) (energy_terms m whole_dispatch (rows m) ++ costs_to k) t.0 (f k)
              (behind (energy_terms m whole_dispatch (rows m)) (reserve_cost_terms m whole_dispatch) (costs_to k) t.0 (f k) t.1)
              bound p sum worth (value r) (offer_term_is k offer r worth h is at w)
              (before ∙ ap (λ s. s +ℚ total (costs_to k)) of_energy ∙ sym (total-append (energy_terms m whole_dispatch (rows m)) (costs_to k))) why,
        )
