-- The answer of a dispatch and duals is right.
use Rattle.std.specs.Prelude.{◌≡◌, pos, List, length, map}
use Rattle.std.proofs.Common.{ap, sym, ◌∙◌}
use Rattle.std.proofs.lemmas.List.{length-map}
use Rattle.std.proofs.lemmas.List.FromFn.{length-map-range_with_len}
use Rattle.fraction_theory.specs.Fraction.{Fraction, whole}
use Rattle.market_model.specs.declared.answered.Duals.{Duals}
use Rattle.market_model.specs.declared.answered.Money.{Money}
use Rattle.market_model.specs.declared.answered.Price.{Price}
use Rattle.market_model.specs.declared.participants.Parts.{Parts}
use Rattle.market_model.specs.Dispatch.{dispatch_with, places}
use Rattle.market_model.specs.Market.{IsMarket}
use Rattle.market_model.specs.Optimality.{Feasible, Supports, ProperDuals, bus_price, price_by, welfare, ArePricesOf}
use Rattle.market_model.specs.RightAnswers.{IsRight, settlement_at, price_made}
use Rattle.market_model.specs.Valued.{answer_at, duals_at, money_at, price_at, total_at}
use Rattle.settlement.specs.Laws.{LawOfRightMoney}
use Rattle.market_model.proofs.ListSteps.{map-map}
use Rattle.market_model.proofs.PlaceLists.{filled_at}

module _ {N : Type 0} (value : N → Fraction) (m : Parts) (d : Duals Fraction) (ps : List (Price N)) (made : map (price_at value) ps ≡ map (price_made m d) (places (length m.buses))) where
  pub price_count : length ps ≡ length m.buses
  price_count = sym (length-map ps (price_at value)) ∙ ap length made ∙ length-map-range_with_len (price_made m d) 0 (length m.buses)

  -- the whole prices are those of the duals
  pub prices_of : ArePricesOf m d (total_at value ps)
  unfolding price_by
  prices_of =
      filled_at (bus_price m d) (map (λ (p : Price N). value p.total) ps) (length m.buses) (whole (pos 0))
      (sym (map-map (price_at value) (λ (p : Price Fraction). p.total) ps) ∙ ap (map (λ (p : Price Fraction). p.total)) made ∙ map-map (price_made m d) (λ (p : Price Fraction). p.total) (places (length m.buses)))

pub right_answer : {N : Type 0} (value : N → Fraction) (m : Parts) (ds rs : List N) (d : Duals N) (ps : List (Price N)) (w : N) (money : Money N)
    → LawOfRightMoney → IsMarket m → Feasible m (dispatch_with (map value ds) (map value rs)) → Supports m (dispatch_with (map value ds) (map value rs)) (duals_at value d) → ProperDuals m (duals_at value d)
    → map (price_at value) ps ≡ map (price_made m (duals_at value d)) (places (length m.buses)) → value w ≡ welfare m (dispatch_with (map value ds) (map value rs))
    → money_at value money ≡ settlement_at m (dispatch_with (map value ds) (map value rs)) (total_at value ps) (duals_at value d)
    → IsRight m (answer_at value (record { dispatch = ds; reserve = rs; duals = d; prices = ps; welfare = w; money = money }))
right_answer {N} value m ds rs d ps w money law market feasible supported proper made worth settled =
    let right = settled ∙ law m (dispatch_with (map value ds) (map value rs)) (total_at value ps) (duals_at value d) market (prices_of value m (duals_at value d) ps made) in
    record {
      feasible = feasible;
      supported = supported;
      proper = proper;
      made = λ i. record { dispatch = map value ds; reserve = map value rs; duals = duals_at value d; prices = made i; welfare = worth i; money = right i };
    }
