-- What is refused where the bound of duals is made that show that no dispatch is feasible is a working pair of the market.
use Rattle.std.specs.Prelude.{◌≡◌, ◌⊎◌, ◌||◌, if◌then◌else◌, ℕ, Bool, true, false, List, [], ◌∷◌, All, Contains, Some}
use Rattle.std.proofs.Common.{suc, arith, inl, inr, subst}
use Rattle.fraction_theory.specs.Fraction.{Fraction}
use Rattle.fraction_theory.specs.Order.{◌<ℚ◌}
use Rattle.fraction_theory.proofs.ListSums.{Contains-from_filter}
use Rattle.fraction_theory.proofs.OrderLaws.{<ℚ_irrefl}
use Rattle.exact_fraction.specs.declared.Passed.{Passed}
use Rattle.linear_system.specs.Numbers.{Factor, Quantity}
use Rattle.market_model.specs.declared.answered.Dual.{Dual}
use Rattle.market_model.specs.declared.answered.Duals.{Duals}
use Rattle.market_model.specs.declared.answered.RowId.{RowId}
use Rattle.market_model.specs.declared.limits.Row.{Row}
use Rattle.market_model.specs.declared.participants.Parts.{Parts}
use Rattle.market_model.specs.Dispatch.{zero}
use Rattle.market_model.specs.Infeasibility.{IsFarkas, farkas_bound}
use Rattle.market_model.specs.LimitRows.{row_id, rows}
use Rattle.market_model.specs.Market.{IsMarket}
use Rattle.market_model.specs.Optimality.{IsOneSided, named_rows, names_row, same_id, up_in, down_in}
use Rattle.market_system.specs.Growth.{PricesOnly}
use Rattle.market_system.specs.MarketNumbers.{factor_of, of_farkas_price, of_farkas_worth, farkas_bound_of}
use Rattle.market_system.specs.PairLaw.{RefusalsArePairs}
use Rattle.market_system.specs.WorkingPairs.{IsRangeOf}
use Rattle.market_system.proofs.GrowthLaws.{growth_none}
use Rattle.market_system.proofs.PairCases.{law_of_the_pairs}
use Rattle.market_dict.specs.Findings.{IsStuckBy}
use Rattle.market_dict.specs.Refusals.{of_sum}
use Rattle.market_dict.specs.Takings.{limits_of, taken_of}
use Rattle.market_dict.specs.declared.taking.Taking.{Taking}
use Rattle.market_dict.proofs.RefusalLaws.{posing_range}
use Rattle.clear_loop.specs.Bounding.{IsFarkasRefusal, in_flow, in_most, in_worth, in_bound, in_prices}
use Rattle.clear_loop.proofs.BrokenLemmas.{taken_or_not}
use Rattle.clear_loop.proofs.MostPairs.{most_refusal_range}

-- ---- a row that is named has a price
one_price : (e : Dual Fraction) → IsOneSided e → e.up ≡ zero → ¬ (e.down ≡ zero)
one_price e one up down = elim one.one [
  | inl above ↦ <ℚ_irrefl zero (subst (λ (x : Fraction). zero <ℚ x) up above.0)
  | inr below ↦ <ℚ_irrefl zero (subst (λ (x : Fraction). zero <ℚ x) down below.1)
]

named_priced : (ds : List (Dual Fraction)) (id : RowId) → All IsOneSided ds → names_row ds id ≡ true → up_in ds id ≡ zero → ¬ (down_in ds id ≡ zero)
named_priced [] id all named up down = absurd Prim.cc
named_priced (e ∷ ds) id all named up down =
    by (same_id e.row id) named up down (λ n u w. named_priced ds id (λ i f lt. all (suc i) f (Prim.omega (arith, lt))) n u w)
  where
    by : (b : Bool) → (b || names_row ds id) ≡ true → (if b then e.up else up_in ds id) ≡ zero → (if b then e.down else down_in ds id) ≡ zero
        → (names_row ds id ≡ true → up_in ds id ≡ zero → ¬ (down_in ds id ≡ zero)) → ⊥
    by true n u w rest = one_price e (all 0 e (Prim.omega arith)) u w
    by false n u w rest = rest n u w

-- ---- duals of a variable that is stuck
module _ (m : Parts) (ts : List Taking) (d : Duals Fraction) (margin : Fraction) (stuck : IsStuckBy m ts d margin) where
  -- with their bound they show that nothing is feasible
  pub stuck_farkas : (bound : Fraction) → bound ≡ farkas_bound m d → IsFarkas m (record { duals = d; bound = bound })
  stuck_farkas bound is = record { shows = stuck.shows.shows; proper = stuck.proper; bound = is }

  pub stuck_prices : PricesOnly m (limits_of ts) d
  stuck_prices = stuck.shows.no_others

  named_row : (r : Row) → Contains (named_rows m d) r → Contains (rows m) r × (names_row d.limits (row_id m r) ≡ true)
  named_row r named = Contains-from_filter (λ s. names_row d.limits (row_id m s)) (rows m) r named

  named_taken : (r : Row) → Contains (named_rows m d) r → Contains (limits_of ts) r
  named_taken r named = by (taken_or_not (limits_of ts) r)
    where
      by : Contains (limits_of ts) r ⊎ (¬ (Contains (limits_of ts) r)) → Contains (limits_of ts) r
      by (inl c) = c
      by (inr new) =
          let priced = named_row r named in
          let none = stuck.shows.no_others r priced.0 new in
          absurd (named_priced d.limits (row_id m r) stuck.proper.one_sided priced.1 none.0 none.1)

  module _ (market : IsMarket m) (bound : ℕ) (p : Passed Fraction) where
    pairs : RefusalsArePairs m (limits_of ts) (taken_of ts) stuck.choice bound p
    pairs = law_of_the_pairs m (limits_of ts) (taken_of ts) stuck.choice bound p market (growth_none m (limits_of ts)) stuck.is_choice

    pub bound_range : IsFarkasRefusal m d bound p → IsRangeOf m (limits_of ts) bound p
    bound_range (in_flow a) = posing_range m (limits_of ts) ts stuck.choice bound p market (growth_none m (limits_of ts)) stuck.is_choice (limits_of ts) (λ r c. c) (of_sum a)
    bound_range (in_prices (inr (r, named, (terms, sum, a)))) = pairs.sum (Some Factor) terms (factor_of r terms (named_row r named).0 sum) a
    bound_range (in_most r named a) = most_refusal_range m (limits_of ts) (taken_of ts) stuck.choice bound p market (growth_none m (limits_of ts)) stuck.is_choice r (named_row r named).0 (named_taken r named) a
    bound_range (in_prices (inl (terms, sum, a))) = pairs.sum (Some Factor) terms (of_farkas_price d terms stuck.shows sum) a
    bound_range (in_worth (terms, sum, a)) = pairs.sum (Some Factor) terms (of_farkas_worth d terms stuck.shows sum) a
    bound_range (in_bound (terms, sum, a)) = pairs.sum (Some Quantity) terms (farkas_bound_of d terms stuck.shows sum) a
