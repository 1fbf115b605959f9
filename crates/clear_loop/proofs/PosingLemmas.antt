-- A start is posed at the prices and bounds of the market.
use Rattle.std.specs.Prelude.{◌≡◌, ℕ, ◌+◌, List, ◌++◌, length, map, All, Option, IfSome}
use Rattle.std.proofs.Common.{ap, sym, subst, ◌∙◌}
use Rattle.fraction_theory.specs.Fraction.{Fraction}
use Rattle.fraction_theory.specs.Order.{◌≤ℚ◌}
use Rattle.exact_fraction.specs.declared.Passed.{Passed}
use Rattle.linear_dict.specs.Dictionaries.{Dictionary}
use Rattle.simplex_core.specs.Posings.{IsPairPosed, IsPosing}
use Rattle.simplex_core.specs.declared.bounds.Bounds.{Bounds}
use Rattle.market_model.specs.declared.participants.Parts.{Parts}
use Rattle.market_model.specs.Market.{IsMarket}
use Rattle.market_model.specs.Valued.{passed_at}
use Rattle.market_system.specs.WorkingPairs.{IsRangeOf}
use Rattle.market_system.proofs.GrowthLaws.{growth_none}
use Rattle.market_dict.specs.Holding.{HoldsMarket, HoldsSystem, column_prices, lows, highs}
use Rattle.market_dict.specs.PricesAndBounds.{ArePricesAndBounds}
use Rattle.market_dict.specs.Takings.{limits_of}
use Rattle.market_dict.specs.declared.posing.PricesAndBounds.{PricesAndBounds}
use Rattle.market_dict.specs.declared.taking.Taking.{Taking}
use Rattle.market_dict.proofs.HoldingLaws.{bounds_ordered, holds_posed, pair_posed}
use Rattle.market_dict.proofs.PosingLemmas.{price_count, bound_count, lows_joined, highs_joined}
use Rattle.market_dict.proofs.RefusalLaws.{pair_range}
use Rattle.clear_loop.specs.Rounds.{HoldsStart}

module _ {N : Type 0} (value : N → Fraction) (m : Parts) (ts : List Taking) (posing : PricesAndBounds N) (are : ArePricesAndBounds value m ts posing) (prices : List N) (bounds : List (Bounds N))
    (priced : prices ≡ posing.prices) (bounded : bounds ≡ posing.column_bounds ++ posing.row_bounds) where
  module _ (d : Dictionary) (holds : HoldsMarket m ts d) where
    prices_for : length prices ≡ length d.columns
    prices_for = ap length priced ∙ price_count value m ts d posing holds are

    bounds_for : length bounds ≡ length d.columns + length d.rows
    bounds_for = bound_count value m ts d posing holds are bounds bounded

    price_values : map value prices ≡ column_prices m ts
    price_values = ap (map value) priced ∙ are.prices

    low_values : map (λ (b : Bounds N). value b.low) bounds ≡ lows m ts
    low_values = lows_joined value m ts d posing holds are bounds bounded

    high_values : map (λ (b : Bounds N). value b.high) bounds ≡ highs m ts
    high_values = highs_joined value m ts d posing holds are bounds bounded

  module _ (warm : Option Dictionary) (start : HoldsStart m ts warm) where
    at_start : (P : Dictionary → Type 0) → ((d : Dictionary) → HoldsMarket m ts d → P d) → IfSome warm P
    at_start P all = subst (λ (o : Option Dictionary). IfSome o P) (sym start.1) (all start.0 start.2)

    from_start : (P : Dictionary → Type 0) → IfSome warm P → P start.0
    from_start P given = subst (λ (o : Option Dictionary). IfSome o P) start.1 given

    pub prices_fit : IfSome warm (λ d. length prices ≡ length d.columns)
    prices_fit = at_start (λ d. length prices ≡ length d.columns) prices_for

    pub bounds_fit : IfSome warm (λ d. length bounds ≡ length d.columns + length d.rows)
    bounds_fit = at_start (λ d. length bounds ≡ length d.columns + length d.rows) bounds_for

    module _ (market : IsMarket m) where
      pub in_order : All (λ (b : Bounds N). value b.low ≤ℚ value b.high) bounds
      in_order = bounds_ordered value m ts bounds market start.2.takings (low_values start.0 start.2) (high_values start.0 start.2)

      pub posed_system : (e : Dictionary) → IfSome warm (λ d. IsPosing value d prices bounds e) → HoldsSystem m ts e
      posed_system e posing =
          holds_posed value m ts start.0 prices bounds e market start.2 (price_values start.0 start.2) (low_values start.0 start.2) (high_values start.0 start.2) (from_start (λ d. IsPosing value d prices bounds e) posing)

      pub posed_range : (bound : ℕ) (p : Passed N) → IfSome warm (λ d. IsPairPosed value bound d prices bounds p) → IsRangeOf m (limits_of ts) bound (passed_at value p)
      posed_range bound p pair =
          pair_range value bound m (limits_of ts) ts p (growth_none m (limits_of ts))
          (pair_posed value bound m ts start.0 prices bounds p market start.2 (price_values start.0 start.2) (low_values start.0 start.2) (high_values start.0 start.2) (from_start (λ d. IsPairPosed value bound d prices bounds p) pair))
