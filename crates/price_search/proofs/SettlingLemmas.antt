-- What a dispatch reaches by its flows, caps that some duals keep, and that the dictionary of the first best point shows what MW are worth.
use Rattle.std.specs.Prelude.{◌≡◌, ℕ, ◌+◌, ◌<◌, Bool, if◌then◌else◌, List, [], ◌∷◌, ◌++◌, length, map, slice_index, IfErr, Result, Ok, Err, refl}
use Rattle.std.proofs.Common.{arith, ap, sym, ◌∙◌, subst, get_or}
use Rattle.std.proofs.lemmas.List.{get_or-map, length-map}
use Rattle.std.proofs.lemmas.List.Elements.{Contains-append_right}
use Rattle.fraction_theory.specs.Fraction.{Fraction, neg_ℚ, ◌+ℚ◌}
use Rattle.fraction_theory.specs.Order.{◌≤ℚ◌}
use Rattle.fraction_theory.specs.Signs.{abs_ℚ}
use Rattle.fraction_theory.proofs.ListSums.{filter-members}
use Rattle.fraction_theory.proofs.OrderLaws.{NonNeg-one, NonNeg_from, by_le1, by_le2, ≤ℚ_trans}
use Rattle.fraction_theory.proofs.Ring.{at, pnil, pone, pneg, ◌⊕◌, ◌⊗◌}
use Rattle.exact_fraction.specs.declared.Passed.{Passed}
use Rattle.linear_dict.specs.Causes.{IsPairOf}
use Rattle.linear_dict.specs.Dictionaries.{Dictionary, note_of}
use Rattle.limit_rows.proofs.ApartLemmas.{names_apart}
use Rattle.limit_screen.specs.declared.reaching.Reach.{Reach}
use Rattle.limit_screen.specs.Flows.{carried_at, flows_at}
use Rattle.limit_screen.specs.Reaching.{IsReach, reaches, used_up_units}
use Rattle.limit_screen.proofs.ScreenLemmas.{law_of_row_flows}
use Rattle.market_model.specs.declared.answered.Duals.{Duals}
use Rattle.market_model.specs.declared.participants.Parts.{Parts}
use Rattle.market_model.specs.Dispatch.{Dispatch, block_at, dispatch_with, zero}
use Rattle.market_model.specs.LimitRows.{flow_by, limit, rows}
use Rattle.market_model.specs.Market.{IsMarket}
use Rattle.market_model.specs.Optimality.{Supports, energy_worth}
use Rattle.market_model.specs.declared.stops.Stop.{Stop}
use Rattle.market_model.specs.declared.stops.Stop.TheVariants.{Passed as StoppedBy, Memory as NoMemory}
use Rattle.market_model.specs.Stops.{OnPassed, StopsBy}
use Rattle.market_model.specs.Valued.{passed_at}
use Rattle.market_model.proofs.StopLemmas.{on_passed_weaker}
use Rattle.market_system.proofs.DualLists.{rows_apart}
use Rattle.market_system.proofs.RowOrder.{RowsApart}
use Rattle.one_price.specs.FirstPrices.{AreFirstDuals, with_energy}
use Rattle.one_price.specs.Margins.{IsEnergyByMargins}
use Rattle.first_prices.specs.FirstCaps.{AreCapsBy, share}
use Rattle.first_prices.proofs.DualLemmas.{law_of_first_duals}
use Rattle.fewer_columns.specs.Fewer.{with_nil}
use Rattle.simplex_core.specs.declared.bounds.Bounds.{Bounds}
use Rattle.simplex_core.specs.States.{state_of}
use Rattle.price_system.specs.declared.variables.Variable.TheVariants.{Block, Energy}
use Rattle.price_system.specs.PriceSystem.{Caps, KeepsCaps, duals_of, name, sum_name, variable_of, worths}
use Rattle.price_system.proofs.CapLemmas.{most_least}
use Rattle.price_system.proofs.DualLemmas.{agrees-made}
use Rattle.price_system.proofs.NameLemmas.{block_at_place, block_listed, length-worths, worth_place}
use Rattle.price_system.proofs.PointLaws.{block_worth}
use Rattle.price_system.proofs.SizeLemmas.{at_most_size, first_most, nil_plus, opposite_at_most}
use Rattle.price_dict.specs.Holding.{HoldsPrices}
use Rattle.price_dict.specs.declared.reached.Reached.{Reached}
use Rattle.price_dict.specs.Reached.{AreReached, columns_put, is_kept, is_reached, reached_system}
use Rattle.price_search.specs.declared.point.PricePoint.{PricePoint}
use Rattle.price_search.specs.declared.posing.PriceBounds.{PriceBounds}
use Rattle.price_search.specs.Energy.{ShowsWorths}
use Rattle.price_search.specs.Points.{IsPointOf}
use Rattle.price_search.specs.PriceBounds.{AreBounds, ArePriceBounds}
use Rattle.price_search.specs.Searching.{AsksFirst, HoldsFirstPrices}
use Rattle.price_search.specs.Settling.{HasCaps, IsPointRefusal, IsSupportedWithin, of_pair}
use Rattle.price_search.proofs.KeptLemmas.{put_is_kept}

-- ---- what is held of a dispatch, with the rooms that are used up, is what it reaches
pub reach_is : {N : Type 0} (value : N → Fraction) (m : Parts) (x : Dispatch) (reach : Reach N) (reached : Reached) → IsMarket m → IsReach value m x reach
    → reached.rows.now ≡ reach.rows.items → reached.units.now ≡ used_up_units m x → AreReached m x reached
reach_is value m x reach reached market is rows_same units_same = record {
  rows = rows_same ∙ is.rows ∙ filter-members (λ r. reaches (flow_by m (carried_at m (flows_at m x)) r) (limit m r)) (is_reached m x) (rows m)
      (λ r k. ap (λ (f : Fraction). reaches f (limit m r)) (law_of_row_flows m x (flows_at m x) r market refl k));
  units = units_same;
}

-- ---- caps
nil_share : (most factor : Fraction) → zero ≤ℚ most → zero ≤ℚ factor → zero ≤ℚ share most factor
nil_share most factor h k =
    by_le2 (most ∷ factor ∷ []) pnil (at 0 ⊗ (pone ⊕ at 1)) pone pnil (at 0) (at 0) pnil (at 1) NonNeg-one h (NonNeg_from most h) k refl

-- the duals that they are by keep them
pub by_keep : (m : Parts) (x : Dispatch) (e : Duals Fraction) (c : Caps) → IsMarket m → Supports m x e → AreCapsBy m x e c → KeepsCaps m x c e
by_keep m x e c market supported caps =
    let part : Fraction = share c.most c.factor in
    let sign = nil_share c.most c.factor (most_least m x e market supported c.most caps.sums) caps.factors.sign in
    let less = ≤ℚ_trans (abs_ℚ e.energy) (abs_ℚ e.energy +ℚ (part +ℚ part)) c.range (first_most (abs_ℚ e.energy) (part +ℚ part) (nil_plus part part sign sign)) caps.range in
    record {
      factor = caps.factors;
      energy = record {
        above = by_le1 (e.energy ∷ c.range ∷ []) (pneg (at 1)) (at 0) pone (pneg (at 0)) (at 1) NonNeg-one (≤ℚ_trans (neg_ℚ e.energy) (abs_ℚ e.energy) c.range (opposite_at_most e.energy) less) refl;
        below = ≤ℚ_trans e.energy (abs_ℚ e.energy) c.range (at_most_size e.energy) less;
      };
      sum = caps.sums;
    }

pub supported_within : (m : Parts) (x : Dispatch) (c : Caps) → IsMarket m → HasCaps m x c → IsSupportedWithin m x c
supported_within m x c market has = record {
  duals = has.duals;
  proper = has.proper;
  supported = has.supported;
  within = by_keep m x has.duals c market has.supported has.caps;
}

-- ---- the first best point
module _ (m : Parts) (x : Dispatch) (c : Caps) (d : Dictionary) (market : IsMarket m) (shows : HoldsFirstPrices m x c d) where
  abbrev pub point : ℕ → Fraction
  point = with_nil (is_kept m x) (state_of d).value

  distinct : RowsApart m
  distinct = rows_apart m (names_apart m market)

  row_within : (j : ℕ) → j < length m.blocks → 1 + j < length (worths m)
  row_within j lt = Prim.omega (arith, lt, length-worths m distinct)

  row_count : length d.rows ≡ length (worths m)
  row_count = ap length shows.holds.holds.rows ∙ length-map (worths m) (name m)

  -- the row of a block
  row_is : (j : ℕ) → j < length m.blocks → slice_index d.rows (1 + j) ≡ name m (Block j)
  row_is j lt =
      let place : sum_name m + 1 + j ≡ sum_name m + (1 + j) = Prim.omega arith in
      let here : get_or (worths m) (1 + j) Energy ≡ Block j = sym (worth_place m distinct (1 + j)) ∙ ap (variable_of m) (sym place) ∙ block_at_place m distinct j lt in
      ap (λ (ws : List ℕ). slice_index ws (1 + j)) shows.holds.holds.rows ∙ get_or-map (name m) (worths m) (1 + j) Energy 0 (row_within j lt) ∙ ap (name m) here

  -- what it has there is what a MW is worth
  worth : (j : ℕ) → j < length m.blocks → point (name m (Block j)) ≡ energy_worth m (duals_of m point) (block_at m j).unit
  worth j lt = block_worth m x c market point (duals_of m point) (agrees-made m market point) shows.first.best.meets shows.first.best.within j lt

  noted : (j : ℕ) → j < length m.blocks → (note_of d (name m (Block j))).value ≡ point (name m (Block j))
  unfolding state_of
  noted j lt =
      let kept = put_is_kept m x market (Block j) (Contains-append_right (columns_put m x) (worths m) (Block j) (block_listed m j lt)) in
      sym (ap (λ (b : Bool). if b then (note_of d (name m (Block j))).value else zero) kept)

  pub shows_worths : ShowsWorths m (duals_of m point) d
  shows_worths = record {
    live = shows.holds.holds.live;
    sound = shows.holds.holds.sound;
    row = λ j lt. Prim.omega (arith, row_within j lt, row_count);
    worth = λ j lt. ap (λ (w : ℕ). (note_of d w).value) (row_is j lt) ∙ noted j lt ∙ worth j lt;
  }

  -- the duals that it shows, with the price of energy that blocks tell
  pub first_are : HasCaps m x c → (shown : Duals Fraction) (p : Fraction) → shown ≡ duals_of m point → IsEnergyByMargins m x (duals_of m point) p → AreFirstDuals m x (with_energy shown p)
  first_are has shown p are margins =
      subst (λ (f : Duals Fraction). AreFirstDuals m x (with_energy f p)) (sym are)
      (law_of_first_duals m x has.duals c point p market has.proper has.supported has.caps shows.first margins)

-- ---- a point as it is handed in
pub point_is : {N : Type 0} (value : N → Fraction) (m : Parts) (point : PricePoint N) (reach : Reach N) → length point.accepted.now ≡ length m.blocks → length point.reserved.now ≡ length m.reserve.offers
    → IsReach value m (dispatch_with (map value point.accepted.now) (map value point.reserved.now)) reach → point.flows.now ≡ reach.flows.items
    → AreReached m (dispatch_with (map value point.accepted.now) (map value point.reserved.now)) point.reached
    → IsPointOf value m (dispatch_with (map value point.accepted.now) (map value point.reserved.now)) point
point_is value m point reach blocks offers is same reached = record {
  blocks = blocks;
  offers = offers;
  dispatch = refl;
  flows = ap (map value) same ∙ is.flows;
  reached = reached;
}

module _ {N : Type 0} (value : N → Fraction) (m : Parts) (c : Caps) (point : PricePoint N) where
  pub same_dispatch : (x y : Dispatch) → IsPointOf value m x point → IsPointOf value m y point → IsSupportedWithin m x c → IsSupportedWithin m y c
  same_dispatch x y is also supported = subst (λ (z : Dispatch). IsSupportedWithin m z c) (is.dispatch ∙ sym also.dispatch) supported

pub asks_first : {N : Type 0} (value : N → Fraction) (m : Parts) (x : Dispatch) (c : Caps) (d : Dictionary) (posing : PriceBounds N) (ps : List N) (bs : List (Bounds N)) → IsMarket m
    → HoldsPrices m x d → ArePriceBounds value m x c posing → ps ≡ posing.prices → bs ≡ posing.bounds → IsSupportedWithin m x c → AsksFirst value m x c d ps bs
asks_first {N} value m x c d posing ps bs market holds are same_prices same_bounds supported = record {
  market = market;
  holds = holds;
  prices = ap (map value) same_prices ∙ are.prices;
  lows = ap (map (λ (b : Bounds N). value b.low)) same_bounds ∙ are.lows;
  highs = ap (map (λ (b : Bounds N). value b.high)) same_bounds ∙ are.highs;
  duals = supported.duals;
  proper = supported.proper;
  supported = supported.supported;
  within = supported.within;
}

-- ---- refusals
module _ {N : Type 0} (value : N → Fraction) where
  pub stops_weaker : (P Q : Passed Fraction → Type 0) (stop : Stop N) → ((p : Passed Fraction) → P p → Q p) → StopsBy value P stop → StopsBy value Q stop
  stops_weaker P Q stop more = on_passed_weaker stop (λ pair. P (passed_at value pair)) (λ pair. Q (passed_at value pair)) (λ pair. more (passed_at value pair))

  -- of a result
  pub refused_weaker : {T : Type 0} (P Q : Passed Fraction → Type 0) → ((p : Passed Fraction) → P p → Q p) → (r : Result T (Stop N)) → IfErr r (StopsBy value P) → IfErr r (StopsBy value Q)
  refused_weaker P Q more (Ok t) given = tt
  refused_weaker P Q more (Err stop) given = stops_weaker P Q stop more given

  pub pair_refused : (bound : ℕ) (m : Parts) (x : Dispatch) (c : Caps) (stop : Stop N) → OnPassed stop (IsPairOf value bound (reached_system m x c)) → StopsBy value (IsPointRefusal m x c bound) stop
  pair_refused bound m x c (StoppedBy p) pair = of_pair pair
  pair_refused bound m x c NoMemory pair = tt

-- the bounds that are posed
pub bounds_posed : {N : Type 0} (value : N → Fraction) (m : Parts) (x : Dispatch) (c : Caps) (posing : PriceBounds N) (bs : List (Bounds N)) → ArePriceBounds value m x c posing → bs ≡ posing.bounds
    → AreBounds value m x c (columns_put m x ++ worths m) bs
bounds_posed {N} value m x c posing bs are same = record {
  lows = ap (map (λ (b : Bounds N). value b.low)) same ∙ are.lows;
  highs = ap (map (λ (b : Bounds N). value b.high)) same ∙ are.highs;
}
