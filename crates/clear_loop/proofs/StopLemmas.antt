-- What stops a clear is a working pair over rows that are reached.
use Rattle.std.specs.Prelude.{Contains, ◌⊎◌, ℕ, List, [], ◌∷◌, ◌++◌, Some}
use Rattle.std.proofs.Common.{inl, inr, subst, sym}
use Rattle.std.proofs.lemmas.List.Elements.{Contains-append_right}
use Rattle.fraction_theory.specs.Fraction.{Fraction}
use Rattle.linear_system.specs.Choices.{Choice, IsChoice}
use Rattle.linear_system.specs.Numbers.{Factor}
use Rattle.linear_dict.specs.Causes.{IsPairOf}
use Rattle.market_model.specs.declared.answered.Duals.{Duals}
use Rattle.market_model.specs.declared.participants.Parts.{Parts}
use Rattle.market_model.specs.Dispatch.{Dispatch}
use Rattle.market_model.specs.declared.limits.Row.{Row}
use Rattle.market_model.specs.LimitRows.{rows}
use Rattle.market_model.specs.Market.{IsMarket}
use Rattle.market_model.specs.Stops.{OnPassed, StopsBy}
use Rattle.market_model.specs.SumTables.{FactorSum, IsRefusedAmong, IsRefusedInPrices}
use Rattle.market_model.specs.Valued.{passed_at}
use Rattle.market_system.specs.Growth.{Growth}
use Rattle.market_system.specs.MarketSystem.{system_of}
use Rattle.market_system.proofs.GrowthLaws.{growth_again, growth_none}
use Rattle.market_system.proofs.PairCases.{law_of_the_pairs}
use Rattle.market_system.specs.MarketNumbers.{factor_of}
use Rattle.settlement.specs.Refusals.{IsMoneyStop}
use Rattle.market_dict.specs.Findings.{IsPairOver, IsSolvedBy, IsStuckBy}
use Rattle.market_dict.specs.Refusals.{IsBoundsRefusal}
use Rattle.market_dict.specs.Takings.{limits_of, taken_of}
use Rattle.market_dict.specs.declared.taking.Taking.{Taking}
use Rattle.market_dict.specs.declared.taking.Taking.TheVariants.{Limit}
use Rattle.market_model.specs.declared.stops.Stop.{Stop}
use Rattle.market_model.specs.declared.stops.Stop.TheVariants as stop
use Rattle.market_model.specs.Optimality.{ArePricesOf}
use Rattle.market_dict.proofs.RefusalLaws.{pair_range, posing_range}
use Rattle.market_dict.proofs.TakingLists.{limits-append}
use Rattle.clear_loop.specs.Bounding.{IsFarkasRefusal}
use Rattle.clear_loop.specs.Rounds.{IsLookRefusal, KeepsAll, StopsInRange}
use Rattle.clear_loop.proofs.BoundLemmas.{bound_range}
use Rattle.clear_loop.proofs.SolvedLemmas.{look_range, money_range, price_range}

module _ {N : Type 0} (value : N → Fraction) (bound : ℕ) (m : Parts) where
  -- a pair of the dictionary over limits that are reached, and some rooms
  pub pair_stop : (t : List Row) (ts : List Taking) (s : Stop N) → Growth m t (limits_of ts) → IsPairOver value bound m ts s → StopsInRange value bound m t s
  pair_stop t ts (stop.Passed p) grown pair = pair_range value bound m t ts p grown pair
  pair_stop t ts stop.Memory grown pair = tt

  -- a pair of the dictionary with one limit more, or in the factor of its row
  pub taken_stop : (ts : List Taking) (r : Row) (h : Choice) (s : Stop N) → IsMarket m → Growth m (limits_of ts) (limits_of (ts ++ Limit r ∷ [])) → IsChoice (system_of m (taken_of ts)) h → Contains (rows m) r
      → OnPassed s (λ p. IsPairOf value bound (system_of m (taken_of (ts ++ Limit r ∷ []))) p ⊎ IsRefusedAmong (FactorSum m r) bound (passed_at value p)) → StopsInRange value bound m (limits_of ts) s
  taken_stop ts r h (stop.Passed p) market grown choice row (inl pair) = pair_range value bound m (limits_of ts) (ts ++ Limit r ∷ []) p grown pair
  taken_stop ts r h (stop.Passed p) market grown choice row (inr (terms, sum, a)) =
      (law_of_the_pairs m (limits_of ts) (taken_of ts) h bound (passed_at value p) market (growth_none m (limits_of ts)) choice).sum (Some Factor) terms (factor_of r terms row sum) a
  taken_stop ts r h stop.Memory market grown choice row why = tt

  -- where prices and bounds are made
  pub terms_stop : (t : List Row) (ts : List Taking) (over : List Row) (h : Choice) (s : Stop N) → IsMarket m → Growth m t (limits_of ts) → IsChoice (system_of m (taken_of ts)) h
      → ((r : Row) → Contains over r → Contains (limits_of ts) r) → StopsBy value (IsBoundsRefusal m over bound) s → StopsInRange value bound m t s
  terms_stop t ts over h (stop.Passed p) market grown choice inside refused = posing_range m t ts h bound (passed_at value p) market grown choice over inside refused
  terms_stop t ts over h stop.Memory market grown choice inside refused = tt

  -- those of what is taken last
  pub last_stop : (ts : List Taking) (k : Taking) (h : Choice) (s : Stop N) → IsMarket m → Growth m (limits_of ts) (limits_of (ts ++ k ∷ [])) → IsChoice (system_of m (taken_of (ts ++ k ∷ []))) h
      → StopsBy value (IsBoundsRefusal m (limits_of (k ∷ [])) bound) s → StopsInRange value bound m (limits_of ts) s
  last_stop ts k h s market grown choice refused =
      terms_stop (limits_of ts) (ts ++ k ∷ []) (limits_of (k ∷ [])) h s market grown choice
      (λ r c. subst (λ (rs : List Row). Contains rs r) (sym (limits-append ts (k ∷ []))) (Contains-append_right (limits_of ts) (limits_of (k ∷ [])) r c)) refused

  -- rows reached from those in hand are reached from those before
  pub earlier_stop : (t g : List Row) (s : Stop N) → Growth m t g → StopsInRange value bound m g s → StopsInRange value bound m t s
  earlier_stop t g (stop.Passed p) grown range = record { over = range.over; reached = growth_again m t g range.over.limits grown range.reached; pair = range.pair }
  earlier_stop t g stop.Memory grown range = tt

  -- where the bound of duals is made that show that nothing is feasible
  pub bound_stop : (ts : List Taking) (d : Duals Fraction) (margin : Fraction) (s : Stop N) → IsMarket m → IsStuckBy m ts d margin → StopsBy value (IsFarkasRefusal m d bound) s → StopsInRange value bound m (limits_of ts) s
  bound_stop ts d margin (stop.Passed p) market stuck a = bound_range m ts d margin stuck market bound (passed_at value p) a
  bound_stop ts d margin stop.Memory market stuck a = tt

  module _ (ts : List Taking) (x : Dispatch) (d : Duals Fraction) (market : IsMarket m) (solved : IsSolvedBy m ts x d) where
    -- where a dispatch is looked at
    pub look_stop : (s : Stop N) → StopsBy value (IsLookRefusal m x bound) s → StopsInRange value bound m (limits_of ts) s
    look_stop (stop.Passed p) a = look_range m ts x d market solved bound (passed_at value p) a
    look_stop stop.Memory a = tt

    -- where it is priced and settled
    module _ (kept : KeepsAll m (limits_of ts) x) where
      pub price_stop : (s : Stop N) → StopsBy value (IsRefusedInPrices m d bound) s → StopsInRange value bound m (limits_of ts) s
      price_stop (stop.Passed p) a = price_range m ts x d market solved bound (passed_at value p) kept a
      price_stop stop.Memory a = tt

      pub money_stop : (price : ℕ → Fraction) → ArePricesOf m d price → (s : Stop N) → IsMoneyStop value bound m x price d s → StopsInRange value bound m (limits_of ts) s
      money_stop price priced (stop.Passed p) a = money_range m ts x d market solved bound (passed_at value p) kept price priced a
      money_stop price priced stop.Memory a = tt
