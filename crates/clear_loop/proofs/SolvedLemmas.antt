-- What is refused at a dispatch that solves the market over what is in hand is a working pair of the market over that.
use Rattle.std.specs.Prelude.{◌≡◌, Contains, ℕ, List, [], ◌∷◌, length, Some, None, refl}
use Rattle.std.proofs.Common.{ap, inl, inr, sym, subst, subst₂}
use Rattle.fraction_theory.specs.Fraction.{Fraction}
use Rattle.fraction_theory.specs.Sums.{Term, Product}
use Rattle.exact_fraction.specs.declared.Passed.{Passed}
use Rattle.fraction_theory.proofs.ListSums.{Contains-from_filter}
use Rattle.linear_system.specs.Choices.{reduced}
use Rattle.linear_system.specs.Numbers.{Factor, Quantity, Price}
use Rattle.market_model.specs.declared.answered.Duals.{Duals}
use Rattle.market_model.specs.declared.participants.Parts.{Parts}
use Rattle.market_model.specs.Dispatch.{Dispatch, demand, demand_terms, output}
use Rattle.market_model.specs.declared.limits.Row.{Row}
use Rattle.market_model.specs.LimitRows.{carried, flow_terms, row_id, rows}
use Rattle.market_model.specs.Market.{IsMarket}
use Rattle.market_model.specs.NamedSums.{IsRefusedIn}
use Rattle.market_model.proofs.SumParts.{flow_carried}
use Rattle.market_model.specs.SumTables.{IsFlowRefusal, IsRefusedAmong, factor_of_pickup, flow_of_row, limited_row, FlowSum, flow_in_limits, PriceSum, reserve_in_room, RoomSum, IsRefusedInPrices, left_of_all, paid_by_load, paid_for_reserve, paid_to_unit, rent_of_row, SettledSum, own_price_of_unit, paid_output, paid_price, demand_of_bus, payment, paid_row, WelfareSum}
use Rattle.market_model.specs.Optimality.{all_of, names_row, Feasible, Supports, ProperDuals, bus_price, own_terms, ArePricesOf, BestFor}
use Rattle.market_model.specs.Settlement.{load_terms, rent_terms, reserve_term, surplus_terms, unit_terms}
use Rattle.market_system.specs.Growth.{PricesOnly}
use Rattle.market_system.specs.MarketNumbers.{IsRightChoice, IsInjecting, factor_of, of_flow, of_price, of_reserve, of_welfare, of_settlement}
use Rattle.market_system.specs.MarketSystem.{system_of, choice_dispatch}
use Rattle.market_system.specs.PairLaw.{RefusalsArePairs}
use Rattle.market_system.specs.SolvedLaws.{AreTaken, SupportsFor}
use Rattle.market_system.specs.Ties.{IsFirstFor}
use Rattle.market_system.specs.WorkingPairs.{IsRangeOf}
use Rattle.market_system.proofs.DualLists.{prices_only-made}
use Rattle.market_system.proofs.GrowthLaws.{growth_none}
use Rattle.market_system.proofs.PairCases.{law_of_the_pairs}
use Rattle.market_system.proofs.SolvedMarkets.{supports_by}
use Rattle.one_dispatch.proofs.AllLimits.{law_of_all_limits}
use Rattle.limit_rows.proofs.ApartLemmas.{names_apart}
use Rattle.limit_screen.proofs.ScreenLemmas.{flow_refusal_same, row_terms}
use Rattle.limit_screen.specs.Flows.{carried_at, flows_at, IsFlowsRefusal}
use Rattle.market_model.proofs.UnitPrices.{at_unit, left_at, own_at}
use Rattle.limit_rows.specs.Refusals.{IsAnyFlowRefusal}
use Rattle.settlement.specs.Refusals.{IsMoneyRefusal, IsWelfareRefusal}
use Rattle.market_dict.specs.Findings.{IsSolvedBy}
use Rattle.market_dict.specs.Takings.{limits_of, taken_of}
use Rattle.market_dict.specs.declared.taking.Taking.{Taking}
use Rattle.clear_loop.specs.Rounds.{IsLookRefusal, KeepsAll}
use Rattle.clear_loop.proofs.BrokenLemmas.{kept_feasible}

-- ---- refusals
module _ (m : Parts) (ts : List Taking) (x : Dispatch) (d : Duals Fraction) (market : IsMarket m) (solved : IsSolvedBy m ts x d) where
  pub best_for : BestFor m (taken_of ts) x
  best_for = subst (BestFor m (taken_of ts)) (sym solved.dispatch) solved.answers.best

  pub supports : KeepsAll m (limits_of ts) x → Supports m x d
  supports kept =
      supports_by m (limits_of ts) x d (subst₂ (SupportsFor m (limits_of ts)) (sym solved.dispatch) (sym solved.duals) solved.answers.supported) (λ r c new. (kept.limits r c).limit new)

  -- where it goes first of the best for what is taken, and all limits and rooms are kept, it goes first of the best for all
  pub first_of_all : AreTaken m (taken_of ts) → IsFirstFor m (taken_of ts) x → KeepsAll m (limits_of ts) x → IsFirstFor m (all_of m) x
  first_of_all are first kept = law_of_all_limits m (taken_of ts) x market are first (kept_feasible m market ts x best_for kept) (λ r c new. (kept.limits r c).limit new)

  pub proper : ProperDuals m d
  proper = subst (ProperDuals m) (sym solved.duals) solved.answers.proper

  pub prices_only : PricesOnly m (limits_of ts) d
  prices_only = subst (PricesOnly m (limits_of ts)) (sym solved.duals) (prices_only-made m (names_apart m market) (reduced (system_of m (taken_of ts)) solved.choice) (taken_of ts))

  -- it has a number for each block and for each offer of reserve
  pub block_count : length x.blocks ≡ length m.blocks
  block_count = best_for.feasible.blocks.count

  pub offer_count : length x.reserve ≡ length m.reserve.offers
  offer_count = best_for.feasible.blocks.reserve_count

  module _ (bound : ℕ) (p : Passed Fraction) where
    pairs : RefusalsArePairs m (limits_of ts) (taken_of ts) solved.choice bound p
    pairs = law_of_the_pairs m (limits_of ts) (taken_of ts) solved.choice bound p market (growth_none m (limits_of ts)) solved.is_choice

    injecting : IsInjecting m (taken_of ts) solved.choice x
    injecting = inr (solved.dispatch, best_for)

    -- injections and flows
    flow_sum : (terms : List Term) → FlowSum m x terms → IsRefusedIn terms bound p → IsRangeOf m (limits_of ts) bound p
    flow_sum terms sum a = pairs.sum (Some Quantity) terms (of_flow x terms injecting sum) a

    -- the flow of a row, or its pickup factor
    row_sum : (r : Row) → Contains (rows m) r → IsFlowRefusal m (carried m x) r bound p → IsRangeOf m (limits_of ts) bound p
    row_sum r c (inl (_, flow_of_row, a)) = flow_sum (flow_terms m (carried m x) r) (flow_in_limits _ (limited_row r _ c flow_of_row)) a
    row_sum r c (inr (terms, sum, a)) = pairs.sum (Some Factor) terms (factor_of r terms c (factor_of_pickup terms sum)) a

    -- where a dispatch is screened
    flows_range : IsFlowsRefusal m x bound p → IsRangeOf m (limits_of ts) bound p
    flows_range (terms, sum, a) = flow_sum terms (flow_carried m x terms sum) a

    screen_range : IsAnyFlowRefusal m (carried_at m (flows_at m x)) bound p → IsRangeOf m (limits_of ts) bound p
    screen_range (r, c, why) = row_sum r c (flow_refusal_same m (carried_at m (flows_at m x)) (carried m x) r bound p (row_terms m x (flows_at m x) refl r market c) why)

    rooms_range : IsRefusedAmong (RoomSum m x) bound p → IsRangeOf m (limits_of ts) bound p
    rooms_range (terms, sum, a) = pairs.sum (Some Quantity) terms (of_reserve x terms injecting (reserve_in_room terms sum)) a

    pub look_range : IsLookRefusal m x bound p → IsRangeOf m (limits_of ts) bound p
    look_range (inl a) = flows_range a
    look_range (inr (inl a)) = screen_range a
    look_range (inr (inr a)) = rooms_range a

    -- where all limits and rooms are kept, and it is answered
    module _ (kept : KeepsAll m (limits_of ts) x) where
      best : IsRightChoice m (taken_of ts) solved.choice
      best = record {
        feasible = subst (Feasible m) solved.dispatch (kept_feasible m market ts x best_for kept);
        supported = subst₂ (Supports m) solved.dispatch solved.duals (supports kept);
      }

      pub price_range : IsRefusedInPrices m d bound p → IsRangeOf m (limits_of ts) bound p
      price_range (inl (terms, sum, a)) = pairs.sum (Some Price) terms (of_price terms best (subst (λ (e : Duals Fraction). PriceSum m e terms) solved.duals sum)) a
      price_range (inr (r, named, (terms, sum, a))) =
          pairs.sum (Some Factor) terms (factor_of r terms (Contains-from_filter (λ s. names_row d.limits (row_id m s)) (rows m) r named).0 sum) a

      pub welfare_range : IsWelfareRefusal m x bound p → IsRangeOf m (limits_of ts) bound p
      welfare_range (inr (r, c, soft, why)) = row_sum r c why
      welfare_range (inl (terms, sum, a)) = pairs.sum None terms (of_welfare terms best (subst (λ (y : Dispatch). WelfareSum m y terms) solved.dispatch sum)) a

      module _ (price : ℕ → Fraction) (priced : ArePricesOf m d price) where
        -- what is settled at these prices is at those of the duals
        at_duals : (terms : List Term) → SettledSum m x price d terms → IsRefusedIn terms bound p → IsRefusedAmong (SettledSum m x (bus_price m d) d) bound p
        at_duals terms (paid_output same sum) a = (terms, paid_output terms sum, a)
        at_duals terms (paid_price same (own_price_of_unit u lt)) a =
            (own_terms m d (bus_price m d) u, paid_price _ (own_price_of_unit u lt), subst (λ (us : List Term). IsRefusedIn us bound p) (own_at m d price market priced u lt) a)
        at_duals terms (demand_of_bus i lt) a = (demand_terms m i, demand_of_bus i lt, a)
        at_duals terms (payment same (paid_by_load i lt)) a =
            (load_terms m (bus_price m d) i, payment _ (paid_by_load i lt), subst (λ (us : List Term). IsRefusedIn us bound p) (ap (λ t. Product t (demand m i) ∷ []) (priced i lt)) a)
        at_duals terms (payment same (paid_to_unit u lt)) a =
            (unit_terms m x (bus_price m d) d u, payment _ (paid_to_unit u lt), subst (λ (us : List Term). IsRefusedIn us bound p) (ap (λ t. Product t (output m x u) ∷ []) (at_unit m d price market priced u lt)) a)
        at_duals terms (payment same left_of_all) a = (surplus_terms m x d, payment _ left_of_all, subst (λ (us : List Term). IsRefusedIn us bound p) (left_at m d price market priced x) a)
        at_duals terms (payment same (rent_of_row r c)) a = (rent_terms m x d r, payment _ (rent_of_row r c), a)
        at_duals terms (payment same (paid_for_reserve n lt)) a = (reserve_term x d n ∷ [], payment _ (paid_for_reserve n lt), a)
        at_duals terms (paid_row r same c sum) a = (terms, paid_row r terms c sum, a)

        pub money_range : IsMoneyRefusal m x price d bound p → IsRangeOf m (limits_of ts) bound p
        money_range (inr (r, named, (terms, sum, a))) =
            pairs.sum (Some Factor) terms (factor_of r terms (Contains-from_filter (λ s. names_row d.limits (row_id m s)) (rows m) r named).0 sum) a
        money_range (inl (terms, sum, a)) =
            let at_choice =
            subst (λ (e : Duals Fraction). IsRefusedAmong (SettledSum m (choice_dispatch m (taken_of ts) solved.choice) (bus_price m e) e) bound p) solved.duals
            (subst (λ (y : Dispatch). IsRefusedAmong (SettledSum m y (bus_price m d) d) bound p) solved.dispatch (at_duals terms sum a)) in
            pairs.sum None at_choice.0 (of_settlement at_choice.0 best at_choice.1) at_choice.2
