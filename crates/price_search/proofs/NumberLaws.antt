-- Each refusal on the way to first prices is at a number that is too large.
use Rattle.std.specs.Prelude.{ℕ, ◌+◌, List, refl}
use Rattle.std.proofs.Common.{inl, inr}
use Rattle.fraction_theory.specs.Fraction.{Fraction}
use Rattle.fraction_theory.specs.Sums.{Term}
use Rattle.exact_fraction.specs.declared.Passed.{Passed}
use Rattle.linear_system.specs.Pairs.{IsSystemPair}
use Rattle.market_model.specs.declared.answered.Duals.{Duals}
use Rattle.market_model.specs.declared.participants.Parts.{Parts}
use Rattle.market_model.specs.Dispatch.{Dispatch}
use Rattle.market_model.specs.NamedSums.{IsRefusedIn}
use Rattle.market_model.specs.SumTables.{factor_of_pickup}
use Rattle.optimal_face.specs.FirstPoints.{IsFirstBest}
use Rattle.one_price.specs.Margins.{by_ceiling, by_floor}
use Rattle.price_system.specs.PriceSystem.{Caps, duals_of, price_order, price_system}
use Rattle.price_dict.specs.Reached.{reached_system}
use Rattle.price_dict.specs.Refusals.{IsEntriesRefusal}
use Rattle.price_search.specs.Caps.{ArePriceCaps, IsCapsRefusal, of_factor, of_more, of_range, of_share, of_shares, of_sum}
use Rattle.price_search.specs.Energy.{IsEnergyRefusal, of_ceiling, of_floor, of_greatest, of_least}
use Rattle.price_search.specs.Laws.{LawOfSearchNumbers}
use Rattle.price_search.specs.Numbers.{SearchNumbersFit, SearchSum, accepted_in_all, at_first, factor_of_reached, flow_of_reached, is_more, is_most_flow, is_most_worth, is_range, is_share, is_twice, margin_of_ceiling, margin_of_floor, of_cap, of_solving, of_terms, price_of_energy, prices_named, used_of_rooms}
use Rattle.price_search.specs.Refusals.{IsBoundsRefusal, IsWorthRefusal, of_energy as of_most, of_factor as of_one_more, of_flow, of_most_flow, of_prices, of_reserve, of_worth}
use Rattle.price_search.specs.Settling.{IsPointRefusal, IsPriceRefusal, IsSearchRefusal, of_bounds, of_caps, of_energy, of_entries, of_pair, of_point, of_rooms, of_search}

module _ (m : Parts) (x : Dispatch) (e : Duals Fraction) (bound : ℕ) (p : Passed Fraction) (fit : SearchNumbersFit m x e bound) where
  in_no_sum : (terms : List Term) → SearchSum m x e terms → ¬ (IsRefusedIn terms bound p)
  in_no_sum terms sum why = fit _ (of_terms terms (why.place + 1) sum) why.too_large

  in_no_entry : ¬ (IsEntriesRefusal m x bound p)
  in_no_entry (r, among, (terms, sum, why)) = in_no_sum terms (factor_of_reached r terms among sum) why

  in_no_cap : ¬ (IsCapsRefusal m x e bound p)
  in_no_cap (of_sum why) = in_no_sum _ prices_named why
  in_no_cap (of_factor why) = in_no_entry why
  in_no_cap (of_more factor is why) = fit _ (of_cap _ (is_more factor is)) why.too_large
  in_no_cap (of_share most factor is also why) = fit _ (of_cap _ (is_share most factor is also)) why.too_large
  in_no_cap (of_shares most factor is also why) = fit _ (of_cap _ (is_twice most factor is also)) why.too_large
  in_no_cap (of_range most factor energy is also sized why) = fit _ (of_cap _ (is_range most factor energy is also sized)) why.too_large

  module _ (c : Caps) (are : ArePriceCaps m x e c) where
    in_no_worth : ¬ (IsWorthRefusal c bound p)
    in_no_worth (of_one_more why) = fit _ (of_cap _ (is_more c.factor are.factor)) why.too_large
    in_no_worth (of_prices why) = fit _ (of_cap _ (is_share c.most c.factor are.most are.factor)) why.too_large
    in_no_worth (of_most why) = fit _ (is_most_worth c are) why.too_large

    in_no_bound : ¬ (IsBoundsRefusal m x c bound p)
    in_no_bound (of_flow r among (inl (terms, sum, why))) = in_no_sum terms (flow_of_reached r terms among sum) why
    in_no_bound (of_flow r among (inr (terms, sum, why))) = in_no_sum terms (factor_of_reached r terms among (factor_of_pickup terms sum)) why
    in_no_bound (of_most_flow r among why) = fit _ (is_most_flow r among) why.too_large
    in_no_bound (of_reserve why) = in_no_sum _ accepted_in_all why
    in_no_bound (of_worth why) = in_no_worth why

    in_no_pair : ¬ (IsSystemPair (reached_system m x c) bound p.op p.left p.right)
    in_no_pair pair = elim pair.large.is_number [
      | inl n ↦ fit _ (of_solving c pair.one _ are pair.is_choice n) pair.large.too_large
      | inr n ↦ fit _ (of_solving c pair.near _ are pair.near_is_choice n) pair.large.too_large
    ]

    at_no_point : ¬ (IsPointRefusal m x c bound p)
    at_no_point (of_entries why) = in_no_entry why
    at_no_point (of_bounds why) = in_no_bound why
    at_no_point (of_pair why) = in_no_pair why

    at_no_block : (v : ℕ → Fraction) → IsFirstBest (price_system m x c) (price_order m) v → ¬ (IsEnergyRefusal m x (duals_of m v) bound p)
    at_no_block v best (of_floor j lt holds why) = fit _ (at_first c v _ are best (margin_of_floor j lt holds)) why.too_large
    at_no_block v best (of_ceiling none j lt holds why) = fit _ (at_first c v _ are best (margin_of_ceiling none j lt holds)) why.too_large
    at_no_block v best (of_least f is why) = fit _ (at_first c v _ are best (price_of_energy _ (by_floor f is refl))) why.too_large
    at_no_block v best (of_greatest none f is why) = fit _ (at_first c v _ are best (price_of_energy _ (by_ceiling none f is refl))) why.too_large

    in_no_search : ¬ (IsSearchRefusal m x c bound p)
    in_no_search (of_point why) = at_no_point why
    in_no_search (of_energy v best why) = at_no_block v best why

  in_none : ¬ (IsPriceRefusal m x e bound p)
  in_none (of_rooms (terms, sum, why)) = in_no_sum terms (used_of_rooms terms sum) why
  in_none (of_caps why) = in_no_cap why
  in_none (of_search c are why) = in_no_search c are why

pub law_of_search_numbers : LawOfSearchNumbers
law_of_search_numbers m x e bound p fit = in_none m x e bound p fit
