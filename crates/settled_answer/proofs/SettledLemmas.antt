-- An answer at first prices is right, and two such of one dispatch are the same; and what stops the work on it.
use Rattle.std.specs.Prelude.{◌≡◌, ℕ, List, length, map, refl}
use Rattle.std.proofs.Common.{ap, ap₂, subst, sym, ◌∙◌}
use Rattle.std.proofs.lemmas.List.{length-map}
use Rattle.std.proofs.lemmas.List.FromFn.{length-map-range_with_len}
use Rattle.fraction_theory.specs.Fraction.{Fraction}
use Rattle.limit_screen.specs.Flows.{flows_at}
use Rattle.market_model.specs.declared.answered.Answer.{Answer}
use Rattle.market_model.specs.declared.answered.Duals.{Duals}
use Rattle.market_model.specs.declared.answered.Price.{Price}
use Rattle.market_model.specs.declared.participants.Parts.{Parts}
use Rattle.market_model.specs.declared.stops.Stop.{Stop}
use Rattle.market_model.specs.declared.stops.Stop.TheVariants as stop
use Rattle.market_model.specs.Dispatch.{dispatch_by, dispatch_with, injection, output, places, zero}
use Rattle.market_model.specs.Market.{IsMarket}
use Rattle.market_model.specs.Optimality.{ArePricesOf, bus_price, price_by}
use Rattle.market_model.specs.PutIn.{dispatch_of}
use Rattle.market_model.specs.RightAnswers.{IsRight, answer_of, dispatch_in, price_made, prices_made, settlement_at}
use Rattle.market_model.specs.Stops.{StopsBy}
use Rattle.market_model.specs.SumTables.{IsRefusedInBusPrices}
use Rattle.market_model.specs.Valued.{answer_at, duals_at, money_at, price_at, total_at}
use Rattle.market_model.proofs.ListSteps.{map-map}
use Rattle.market_model.proofs.PlaceLists.{filled_at}
use Rattle.one_price.specs.FirstPrices.{AreFirstDuals}
use Rattle.one_price.proofs.OneFirst.{law_of_one_price}
use Rattle.price_search.specs.Settling.{IsPriceRefusal}
use Rattle.settlement.specs.Refusals.{IsMoneyStop}
use Rattle.settlement.proofs.MoneyLemmas.{law_of_right_money}
use Rattle.settled_answer.specs.Laws.{LawOfOneSet}
use Rattle.settled_answer.specs.Repriced.{with_prices}
use Rattle.settled_answer.specs.Settled.{IsSettlingRefusal, of_money, of_prices, of_search}
use Rattle.settled_answer.specs.declared.repricing.Repricing.{Repricing}

-- flows are the same whatever reserve is accepted beside
flows_of_blocks : (m : Parts) (blocks reserve : List Fraction) → flows_at m (dispatch_with blocks reserve) ≡ flows_at m (dispatch_by blocks)
unfolding injection output
flows_of_blocks m blocks reserve = refl

-- those of an answer are the flows of what its blocks are accepted, as these are read
pub flows_read : {N : Type 0} (value : N → Fraction) (m : Parts) (a : Answer N) (flows dispatch : List N) → map value flows ≡ flows_at m (dispatch_in (answer_at value a)) → dispatch ≡ a.dispatch
    → map value flows ≡ flows_at m (dispatch_of value dispatch)
flows_read value m a flows dispatch are same =
    are ∙ flows_of_blocks m (map value a.dispatch) (map value a.reserve) ∙ ap (λ ds. flows_at m (dispatch_of value ds)) (sym same)

module _ {N : Type 0} (value : N → Fraction) (m : Parts) (d : Duals Fraction) (ps : List (Price N)) (made : map (price_at value) ps ≡ prices_made m d) where
  pub price_count : length ps ≡ length m.buses
  price_count = sym (length-map ps (price_at value)) ∙ ap length made ∙ length-map-range_with_len (price_made m d) 0 (length m.buses)

  -- the whole prices are those of the duals
  pub prices_of : ArePricesOf m d (total_at value ps)
  unfolding price_by
  prices_of =
      filled_at (bus_price m d) (map (λ (p : Price N). value p.total) ps) (length m.buses) zero
      (sym (map-map (price_at value) (λ (p : Price Fraction). p.total) ps) ∙ ap (map (λ (p : Price Fraction). p.total)) made ∙ map-map (price_made m d) (λ (p : Price Fraction). p.total) (places (length m.buses)))

-- with first duals, and with the bus prices and the settlement that they make, a right answer is right
pub repriced_right : {N : Type 0} (value : N → Fraction) (m : Parts) (a : Answer N) (r : Repricing N) → IsMarket m → IsRight m (answer_at value a) → AreFirstDuals m (dispatch_in (answer_at value a)) (duals_at value r.duals)
    → map (price_at value) r.prices ≡ prices_made m (duals_at value r.duals)
    → money_at value r.money ≡ settlement_at m (dispatch_in (answer_at value a)) (total_at value r.prices) (duals_at value r.duals)
    → IsRight m (answer_at value (with_prices a r))
repriced_right value m a r market right first made settled =
    let d = duals_at value r.duals in
    let x = dispatch_in (answer_at value a) in
    let money = settled ∙ law_of_right_money m x (total_at value r.prices) d market (prices_of value m d r.prices made) in
    record {
      feasible = right.feasible;
      supported = first.supported;
      proper = first.proper;
      made = λ i. record { dispatch = x.blocks; reserve = x.reserve; duals = d; prices = made i; welfare = (right.made i).welfare; money = money i };
    }

-- ---- what stops the work on an answer
module _ {N : Type 0} (value : N → Fraction) (bound : ℕ) (m : Parts) (a : Answer Fraction) where
  -- where its first duals are looked for
  pub search_stop : (s : Stop N) → StopsBy value (IsPriceRefusal m (dispatch_in a) a.duals bound) s → StopsBy value (IsSettlingRefusal bound m a) s
  search_stop (stop.Passed p) why = of_search why
  search_stop stop.Memory why = tt

  module _ (d : Duals Fraction) (first : AreFirstDuals m (dispatch_in a) d) where
    -- where buses are priced
    pub price_stop : (s : Stop N) → StopsBy value (IsRefusedInBusPrices m d bound) s → StopsBy value (IsSettlingRefusal bound m a) s
    price_stop (stop.Passed p) why = of_prices d first why
    price_stop stop.Memory why = tt

    -- where it is settled at their prices
    pub money_stop : (price : ℕ → Fraction) → ArePricesOf m d price → (s : Stop N) → IsMoneyStop value bound m (dispatch_in a) price d s → StopsBy value (IsSettlingRefusal bound m a) s
    money_stop price priced (stop.Passed p) why = of_money d first price priced why
    money_stop price priced stop.Memory why = tt

-- ---- one set of prices
pub law_of_one_set : LawOfOneSet
law_of_one_set m a b market right_a right_b same first_a first_b =
    let one = law_of_one_price m (dispatch_in b) a.duals b.duals market (subst (λ x. AreFirstDuals m x a.duals) same first_a) first_b in
    right_a.made ∙ ap₂ (answer_of m) same one ∙ sym right_b.made
