-- PricesAndBounds fit the dictionary that they are posed at.
use Rattle.std.specs.Prelude.{◌≡◌, ◌+◌, List, ◌++◌, length, map}
use Rattle.std.proofs.Common.{ap, ap₂, sym, ◌∙◌}
use Rattle.std.proofs.lemmas.List.{length-append, length-map, map-append}
use Rattle.fraction_theory.specs.Fraction.{Fraction}
use Rattle.linear_dict.specs.Dictionaries.{Dictionary}
use Rattle.simplex_core.specs.declared.bounds.Bounds.{Bounds}
use Rattle.market_model.specs.declared.participants.Parts.{Parts}
use Rattle.market_system.specs.MarketSystem.{name, objective_price, low, high}
use Rattle.market_dict.specs.Holding.{HoldsMarket, lows, highs}
use Rattle.market_dict.specs.PricesAndBounds.{ArePricesAndBounds}
use Rattle.market_dict.specs.Takings.{columns_put, rows_put}
use Rattle.market_dict.specs.declared.posing.PricesAndBounds.{PricesAndBounds}
use Rattle.market_dict.specs.declared.taking.Taking.{Taking}

module _ {N : Type 0} (value : N → Fraction) (m : Parts) (ts : List Taking) (d : Dictionary) (t : PricesAndBounds N) (holds : HoldsMarket m ts d) (are : ArePricesAndBounds value m ts t) where
  pub price_count : length t.prices ≡ length d.columns
  price_count =
      sym (length-map t.prices value) ∙ ap length are.prices ∙ length-map (columns_put m ts) (objective_price m) ∙ sym (ap length holds.columns ∙ length-map (columns_put m ts) (name m))

  -- those of columns and then of rows
  module _ (bounds : List (Bounds N)) (joined : bounds ≡ t.column_bounds ++ t.row_bounds) where
    pub lows_joined : map (λ (b : Bounds N). value b.low) bounds ≡ lows m ts
    lows_joined =
        let low_of : Bounds N → Fraction = λ b. value b.low in
        ap (map low_of) joined ∙ map-append low_of t.column_bounds t.row_bounds ∙ ap₂ (λ (xs ys : List Fraction). xs ++ ys) are.columns.lows are.rows.lows ∙ sym (map-append (low m) (columns_put m ts) (rows_put m ts))

    pub highs_joined : map (λ (b : Bounds N). value b.high) bounds ≡ highs m ts
    highs_joined =
        let high_of : Bounds N → Fraction = λ b. value b.high in
        ap (map high_of) joined ∙ map-append high_of t.column_bounds t.row_bounds ∙ ap₂ (λ (xs ys : List Fraction). xs ++ ys) are.columns.highs are.rows.highs ∙ sym (map-append (high m) (columns_put m ts) (rows_put m ts))

    pub bound_count : length bounds ≡ length d.columns + length d.rows
    bound_count =
        sym (length-map bounds (λ (b : Bounds N). value b.low)) ∙ ap length lows_joined ∙ length-map (columns_put m ts ++ rows_put m ts) (low m) ∙ length-append (columns_put m ts) (rows_put m ts)
        ∙ ap₂ ◌+◌ (sym (ap length holds.columns ∙ length-map (columns_put m ts) (name m))) (sym (ap length holds.rows ∙ length-map (rows_put m ts) (name m)))
