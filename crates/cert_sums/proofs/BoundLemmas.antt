-- Steps of the Farkas bound: row by row, and block by block.
use Rattle.std.specs.Prelude.{◌≡◌, ℕ, ◌+◌, ◌<◌, ◌≤◌, pos, List, [], ◌∷◌, ◌++◌, map, length, take, replicate, refl}
use Rattle.std.specs.List.{flat_map}
use Rattle.std.proofs.Common.{inl, inr, ap, ap₂, sym, subst, subst₂, ◌∙◌, append_assoc}
use Rattle.std.proofs.lemmas.List.{take_all}
use Rattle.std.proofs.lemmas.Grind.{flat_map-append}
use Rattle.fraction_theory.specs.Fraction.{Fraction, whole, ◌+ℚ◌, ◌-ℚ◌, ◌*ℚ◌}
use Rattle.fraction_theory.specs.Signs.{part_above}
use Rattle.fraction_theory.specs.Sums.{sum_by, Term, Product, total}
use Rattle.fraction_theory.proofs.FieldLaws.{+ℚ_nil, +ℚ_assoc}
use Rattle.fraction_theory.proofs.Ring.{at}
use Rattle.fraction_theory.proofs.SumLaws.{total-append}
use Rattle.exact_fraction.specs.declared.Op.TheVariants.{Times}
use Rattle.exact_fraction.specs.declared.Passed.{Passed}
use Rattle.market_model.specs.declared.answered.Duals.{Duals}
use Rattle.market_model.specs.declared.participants.Parts.{Parts}
use Rattle.market_model.specs.Dispatch.{Dispatch, places, balance, balance_terms, dispatch_by, dispatch_with, empty, quantity}
use Rattle.market_model.specs.Infeasibility.{block_most, block_weight, energy_left_terms, limit_terms, nothing_terms, farkas_terms, offer_most, reserve_left_terms}
use Rattle.market_model.specs.declared.limits.Row.{Row}
use Rattle.market_model.specs.LimitRows.{rows, row_id, most_flow, flow}
use Rattle.market_model.specs.NamedSums.{IsRefusal, IsRefusedIn, IsShareRefusal, IsMarginRefusal}
use Rattle.market_model.specs.Optimality.{up_of, down_of, names_row, named_rows}
use Rattle.market_model.specs.Reserves.{offer_places}
use Rattle.market_model.proofs.FarkasLaw.{total-flat_map}
use Rattle.market_model.proofs.FarkasParts.{farkas_terms-parts}
use Rattle.market_model.proofs.MorePlaces.{sum_by_more, total-places_more}
use Rattle.market_model.proofs.SumSteps.{product_at, share_at, terms_at, behind, in_front}
use Rattle.limit_rows.proofs.DualLemmas.{sum_named, filter_at}
use Rattle.limit_rows.proofs.NamedLimits.{energy_left-by_named, limit_unnamed}
use Rattle.cert_sums.specs.Named.{PricedRow, priced_by}
use Rattle.cert_sums.specs.Pairs.{IsFarkasPair, in_flow as flow_pair, in_bound as bound_pair, in_worth, of_most_less, of_most_more, of_most}
use Rattle.market_model.specs.SumTables.{IsRefusedAmong, InjectionSum, balance_from_bus, balance_of_all, limited_row, flow_in_balance, flow_in_limits, farkas_bound_of_all, limited_by_carried, factor_of_pickup}
use Rattle.market_model.specs.PutIn.{AreCarried, AreInjections}
use Rattle.cert_sums.specs.Refusals.{IsBelowRefusal, IsCarriedRefusal, IsRowShareRefusal, in_most, in_flow, in_above, in_below}
use Rattle.cert_sums.proofs.BlockFlows.{carried_of_blocks, carried_refusal, injection_refusal, injections_by_blocks, injections_of_blocks}
use Rattle.cert_sums.proofs.NamedLemmas.{IsNamedAt, is_named_row, is_row}

-- ---- what prices make
-- the two prices of a row, one added behind the other
pub left_sum : (m : Parts) (d : Duals Fraction) (e : PricedRow) (sum above more l f : Fraction) → e ≡ priced_by m d e.row → l ≡ most_flow m e.row → f ≡ flow m (empty m) e.row → above ≡ sum +ℚ e.up *ℚ (l -ℚ f)
    → more ≡ above +ℚ e.down *ℚ (l +ℚ f) → more ≡ sum +ℚ total (limit_terms m d e.row)
left_sum m d e sum above more l f priced is flows first second =
    second ∙ ap (λ t. t +ℚ e.down *ℚ (l +ℚ f)) first ∙ +ℚ_assoc sum (e.up *ℚ (l -ℚ f)) (e.down *ℚ (l +ℚ f))
    ∙ ap₂ (λ a b. sum +ℚ (e.up *ℚ (a -ℚ b) +ℚ e.down *ℚ (a +ℚ b))) is flows
    ∙ ap₂ (λ u v. sum +ℚ (u *ℚ (most_flow m e.row -ℚ flow m (empty m) e.row) +ℚ v *ℚ (most_flow m e.row +ℚ flow m (empty m) e.row))) (ap (λ (t : PricedRow). t.up) priced) (ap (λ (t : PricedRow). t.down) priced)
    ∙ ap (λ t. sum +ℚ (up_of m d e.row *ℚ (most_flow m e.row -ℚ flow m (empty m) e.row) +ℚ t)) (sym (+ℚ_nil (down_of m d e.row *ℚ (most_flow m e.row +ℚ flow m (empty m) e.row))))

-- a refusal on either side of a row, by the most that its flow may be and the flow that were read
module _ (m : Parts) (x : Dispatch) (e : PricedRow) (sum l f : Fraction) (bound : ℕ) (p : Passed Fraction) (is : l ≡ most_flow m e.row) (flows : f ≡ flow m x e.row) where
  pub above_side : IsMarginRefusal sum e.up l f bound p → IsRowShareRefusal m x e sum bound p
  above_side h = in_above (subst₂ (λ a b. IsMarginRefusal sum e.up a b bound p) is flows h)

  pub below_side : (above : Fraction) → above ≡ sum +ℚ e.up *ℚ (l -ℚ f) → IsBelowRefusal above e.down l f bound p → IsRowShareRefusal m x e sum bound p
  below_side above first h =
      in_below (subst₂ (λ a b. IsBelowRefusal (sum +ℚ e.up *ℚ (a -ℚ b)) e.down a b bound p) is flows (subst (λ t. IsBelowRefusal t e.down l f bound p) first h))

-- ---- the rows of the bound
module _ (m : Parts) (d : Duals Fraction) where
  abbrev energy_term : Term
  energy_term = Product d.energy (balance m (empty m))

  abbrev left : Row → Fraction
  left r = total (limit_terms m d r)

  abbrev block_terms : List Term
  block_terms = map (block_most m d) (places (length m.blocks))

  abbrev offer_terms : List Term
  offer_terms = map (offer_most m d) (offer_places m)

  -- the terms behind those of limits
  abbrev pub reserve_terms : List Term
  reserve_terms = reserve_left_terms m d ++ (block_terms ++ offer_terms)

  -- what the price of energy makes, with the first rows that duals name
  abbrev pub limits_to : ℕ → Fraction
  limits_to k = d.energy *ℚ balance m (empty m) +ℚ sum_by left (take k (named_rows m d))

  pub limits_none : (s : Fraction) → s ≡ d.energy *ℚ balance m (empty m) → s ≡ limits_to 0
  limits_none s e = e ∙ sym (+ℚ_nil (d.energy *ℚ balance m (empty m)))

  pub limits_all : (k : ℕ) → length (named_rows m d) ≤ k → limits_to k ≡ total (energy_left_terms m d)
  limits_all k h = ap (λ (rs : List Row). d.energy *ℚ balance m (empty m) +ℚ sum_by left rs) (take_all k (named_rows m d) h) ∙ sym (energy_left-by_named m d)

  -- the terms of the bound round those of a named row
  record IsSplit (k : ℕ) (r : Row) : Type 0 where
    front : List Term
    rest : List Term
    split : farkas_terms m d ≡ front ++ (limit_terms m d r ++ rest)
    sum : total front ≡ limits_to k

  split_at : (k : ℕ) (e : PricedRow) → IsNamedAt m d k e → IsSplit k e.row
  split_at k e h =
      let r : Row = e.row in
      let s = filter_at (λ t. names_row d.limits (row_id m t)) (rows m) k e.row h.inside in
      let f : Row → List Term = limit_terms m d in
      let rows_are : rows m ≡ s.0 ++ e.row ∷ s.1 = s.2 ∙ ap (λ (t : Row). s.0 ++ t ∷ s.1) (sym h.at) in
      record {
        front = energy_term ∷ flat_map (limit_terms m d) s.0;
        rest = flat_map (limit_terms m d) s.1 ++ reserve_terms;
        split =
            (farkas_terms-parts m d)
            ∙ ap (λ (rs : List Row). energy_term ∷ (flat_map (limit_terms m d) rs ++ reserve_terms)) rows_are
            ∙ ap (λ ts. energy_term ∷ (ts ++ reserve_terms)) (flat_map-append (limit_terms m d) s.0 (e.row ∷ s.1))
            ∙ ap (λ ts. energy_term ∷ ts) (append_assoc (flat_map (limit_terms m d) s.0) (limit_terms m d e.row ++ flat_map (limit_terms m d) s.1) reserve_terms);
        sum =
            ap (λ t. d.energy *ℚ balance m (empty m) +ℚ t)
            (total-flat_map (limit_terms m d) s.0 ∙ sum_named m d left s.0 (limit_unnamed m d) ∙ ap (sum_by left) s.3);
      }

  module _ (k : ℕ) (e : PricedRow) (h : IsNamedAt m d k e) where
    pub limits_step : (old new : Fraction) → old ≡ limits_to k → new ≡ old +ℚ left e.row → new ≡ limits_to (k + 1)
    limits_step old new before eq =
        eq ∙ ap (λ t. t +ℚ left e.row) before
        ∙ +ℚ_assoc (d.energy *ℚ balance m (empty m)) (sum_by left (take k (named_rows m d))) (left e.row)
        ∙ ap (λ t. d.energy *ℚ balance m (empty m) +ℚ t)
        (ap (λ (r : Row). sum_by left (take k (named_rows m d)) +ℚ left r) h.at ∙ sym (sum_by_more left (named_rows m d) k e.row h.inside))

    module _ (sum : Fraction) (bound : ℕ) (p : Passed Fraction) (before : sum ≡ limits_to k) where
      abbrev room_above : Fraction
      room_above = most_flow m e.row -ℚ flow m (empty m) e.row

      abbrev room_below : Fraction
      room_below = most_flow m e.row +ℚ flow m (empty m) e.row

      abbrev above : Term
      above = Product (up_of m d e.row) room_above

      abbrev below : Term
      below = Product (down_of m d e.row) room_below

      s : IsSplit k e.row
      s = split_at k e h

      in_bound : IsRefusedIn (farkas_terms m d) bound p → IsFarkasPair m d bound p
      in_bound why = bound_pair (_, farkas_bound_of_all, why)

      above_refused : IsMarginRefusal sum e.up (most_flow m e.row) (flow m (empty m) e.row) bound p → IsFarkasPair m d bound p
      above_refused (inl c) = of_most_less e.row (is_named_row m d k e h) c
      above_refused (inr c) = in_bound
          (share_at (farkas_terms m d) s.front (below ∷ s.rest) above s.split bound p sum e.up room_above (ap (λ u. Product u room_above) (sym h.up)) (before ∙ sym s.sum) c)

      second : farkas_terms m d ≡ (s.front ++ above ∷ []) ++ below ∷ s.rest
      second = s.split ∙ sym (append_assoc s.front (above ∷ []) (below ∷ s.rest))

      with_above : sum +ℚ e.up *ℚ room_above ≡ total (s.front ++ above ∷ [])
      with_above =
          ap₂ ◌+ℚ◌ (before ∙ sym s.sum) (ap (λ u. u *ℚ room_above) h.up ∙ sym (+ℚ_nil (up_of m d e.row *ℚ room_above)))
          ∙ sym (total-append s.front (above ∷ []))

      below_refused : IsBelowRefusal (sum +ℚ e.up *ℚ room_above) e.down (most_flow m e.row) (flow m (empty m) e.row) bound p → IsFarkasPair m d bound p
      below_refused (inl c) = of_most_more e.row (is_named_row m d k e h) c
      below_refused (inr c) = in_bound
          (share_at (farkas_terms m d) (s.front ++ above ∷ []) s.rest below second bound p (sum +ℚ e.up *ℚ room_above) e.down room_below (ap (λ u. Product u room_below) (sym h.down)) with_above c)

      pub limit_refused : IsRowShareRefusal m (empty m) e sum bound p → IsFarkasPair m d bound p
      limit_refused (in_flow (inl (terms, part, c))) = flow_pair (terms, flow_in_limits terms (limited_row e.row terms (is_row m d k e h) part), c)
      limit_refused (in_flow (inr (terms, part, c))) = in_worth (inl (inr (inr (e.row, is_named_row m d k e h, (terms, factor_of_pickup terms part, c)))))
      limit_refused (in_most c) = of_most e.row (is_named_row m d k e h) c
      limit_refused (in_above c) = above_refused c
      limit_refused (in_below c) = below_refused c

  -- ---- the blocks of the bound
  abbrev pub blocks_to : ℕ → Fraction
  blocks_to k = total (nothing_terms m d) +ℚ total (map (block_most m d) (places k))

  pub blocks_none : (s : Fraction) → s ≡ total (nothing_terms m d) → s ≡ blocks_to 0
  blocks_none s e = e ∙ sym (+ℚ_nil (total (nothing_terms m d)))

  pub blocks_all : blocks_to (length m.blocks) ≡ total (nothing_terms m d ++ block_terms)
  blocks_all = sym (total-append (nothing_terms m d) block_terms)

  pub block_step : (k : ℕ) (weight mw old new : Fraction) → weight ≡ block_weight m d k → mw ≡ quantity m k → old ≡ blocks_to k → new ≡ old +ℚ part_above weight *ℚ mw → new ≡ blocks_to (k + 1)
  block_step k weight mw old new weighs is before eq =
      eq ∙ ap₂ (λ w q. old +ℚ part_above w *ℚ q) weighs is
      ∙ ap (λ t. t +ℚ part_above (block_weight m d k) *ℚ quantity m k) before
      ∙ +ℚ_assoc (total (nothing_terms m d)) (total (map (block_most m d) (places k))) (part_above (block_weight m d k) *ℚ quantity m k)
      ∙ ap (λ t. total (nothing_terms m d) +ℚ t) (sym (total-places_more (block_most m d) k))

  pub block_refused : (k : ℕ) (weight mw sum : Fraction) (bound : ℕ) (p : Passed Fraction) → k < length m.blocks → weight ≡ block_weight m d k → mw ≡ quantity m k → sum ≡ blocks_to k
      → IsShareRefusal sum (part_above weight) mw bound p → IsFarkasPair m d bound p
  block_refused k weight mw sum bound p inside weighs is before why =
      let r = terms_at (block_most m d) (length m.blocks) k inside in
      let front : List Term = nothing_terms m d ++ map (block_most m d) (places k) in
      let split : farkas_terms m d ≡ front ++ block_most m d k ∷ (r.0 ++ offer_terms) =
      in_front (nothing_terms m d ++ block_terms) front r.0 offer_terms (block_most m d k)
      (behind (nothing_terms m d) block_terms (map (block_most m d) (places k)) r.0 (block_most m d k) r.1) in
      let made = total-append (nothing_terms m d) (map (block_most m d) (places k)) in
      bound_pair
      (_, farkas_bound_of_all, share_at (farkas_terms m d) front (r.0 ++ offer_terms) (block_most m d k) split bound p sum (part_above weight) mw (ap₂ (λ w q. Product (part_above w) q) (sym weighs) (sym is)) (before ∙ sym made) why)

  -- the price of energy by the balance
  pub energy_refused : (b : Fraction) (bound : ℕ) (p : Passed Fraction) → b ≡ balance m (empty m) → IsRefusal Times d.energy b bound p → IsFarkasPair m d bound p
  energy_refused b bound p is h =
      bound_pair
      (_, farkas_bound_of_all, product_at (farkas_terms m d) [] (flat_map (limit_terms m d) (rows m) ++ reserve_terms) energy_term (farkas_terms-parts m d) bound p d.energy b (ap (Product d.energy) (sym is)) refl h)

-- ---- where nothing is accepted, of blocks and of reserve
pub nothing_is : {N : Type 0} (value : N → Fraction) (m : Parts) (xs ys : List N) (n : ℕ) → xs ≡ ys → map value ys ≡ replicate n (whole (pos 0)) → n ≡ length m.blocks
    → dispatch_with (map value xs) (replicate (length m.reserve.offers) (whole (pos 0))) ≡ empty m
nothing_is value m xs ys n same zeros count =
    ap (λ (mws : List Fraction). dispatch_with mws (replicate (length m.reserve.offers) (whole (pos 0)))) (ap (map value) same ∙ zeros ∙ ap (λ (k : ℕ). replicate k (whole (pos 0))) count)

module _ (m : Parts) (blocks : List Fraction) (is : dispatch_with blocks (replicate (length m.reserve.offers) (whole (pos 0))) ≡ empty m) where
  abbrev none : List Fraction
  none = replicate (length m.reserve.offers) (whole (pos 0))

  -- what buses put in there, and what is carried, as blocks alone decide it
  pub nothing_put : (mws : List Fraction) → AreInjections m (dispatch_by blocks) mws → AreInjections m (empty m) mws
  nothing_put mws puts = subst (λ x. AreInjections m x mws) is (injections_of_blocks m blocks none mws puts)

  pub nothing_put_by : (mws : List Fraction) → AreInjections m (empty m) mws → AreInjections m (dispatch_by blocks) mws
  nothing_put_by mws puts = injections_by_blocks m blocks none mws (subst (λ x. AreInjections m x mws) (sym is) puts)

  pub nothing_carried : (mws : List Fraction) → AreCarried m (dispatch_by blocks) mws → AreCarried m (empty m) mws
  nothing_carried mws carries = subst (λ x. AreCarried m x mws) is (carried_of_blocks m blocks none mws carries)

  module _ (d : Duals Fraction) (bound : ℕ) (p : Passed Fraction) where
    pub injection_pair : IsRefusedAmong (InjectionSum m (dispatch_by blocks)) bound p → IsFarkasPair m d bound p
    injection_pair h =
        let sum = subst (λ y. IsRefusedAmong (InjectionSum m y) bound p) is (injection_refusal m blocks none bound p h) in flow_pair (sum.0, flow_in_balance sum.0 (balance_from_bus sum.0 sum.1), sum.2)

    carried_pair : IsCarriedRefusal m (empty m) bound p → IsFarkasPair m d bound p
    carried_pair (terms, sum, h) = flow_pair (terms, flow_in_limits terms (limited_by_carried terms sum), h)

    pub carried_pair_of : IsCarriedRefusal m (dispatch_by blocks) bound p → IsFarkasPair m d bound p
    carried_pair_of h = carried_pair (subst (λ y. IsCarriedRefusal m y bound p) is (carried_refusal m blocks none bound p h))

module _ (m : Parts) (d : Duals Fraction) (bound : ℕ) (p : Passed Fraction) where
  pub balance_pair : IsRefusedIn (balance_terms m (empty m)) bound p → IsFarkasPair m d bound p
  balance_pair h = flow_pair (_, flow_in_balance _ balance_of_all, h)

  pub bound_pair_of : IsRefusedIn (farkas_terms m d) bound p → IsFarkasPair m d bound p
  bound_pair_of h = bound_pair (_, farkas_bound_of_all, h)
