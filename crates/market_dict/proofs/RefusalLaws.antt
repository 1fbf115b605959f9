-- What is refused is a working pair of the market.
use Rattle.std.specs.Prelude.{◌≡◌, ℕ, Bool, true, false, List, [], ◌∷◌, Some, Contains, refl}
use Rattle.std.proofs.Common.{inl, inr, subst}
use Rattle.fraction_theory.specs.Fraction.{Fraction, neg_ℚ, ◌-ℚ◌}
use Rattle.fraction_theory.specs.Sums.{Term}
use Rattle.fraction_theory.proofs.ListSums.{Contains-head}
use Rattle.exact_fraction.specs.declared.Passed.{Passed}
use Rattle.linear_system.specs.Choices.{Choice, IsChoice}
use Rattle.linear_dict.specs.Causes.{IsPairOf}
use Rattle.market_model.specs.declared.participants.Parts.{Parts}
use Rattle.market_model.specs.Dispatch.{empty}
use Rattle.market_model.specs.declared.limits.Row.{Row}
use Rattle.market_model.specs.LimitRows.{Carried, carried, rows, limit, flow, flow_terms}
use Rattle.market_model.specs.Market.{IsMarket}
use Rattle.market_model.specs.NamedSums.{IsRefusedIn}
use Rattle.linear_system.specs.Numbers.{Factor, Quantity, is_high, is_low}
use Rattle.market_model.specs.SumTables.{IsFlowRefusal, factor_of_pickup, flow_in_limits, flow_of_row, limited_row}
use Rattle.market_model.specs.Valued.{passed_at}
use Rattle.market_system.specs.Growth.{Growth}
use Rattle.market_system.specs.MarketSystem.{in_order, row_name, system_of, taken_in_order, offered_terms}
use Rattle.market_system.specs.MarketNumbers.{ClearingNumber, of_kind, of_system, MarketNumber, factor_of, of_flow as flows_named, is_limit, of_opposite}
use Rattle.market_system.specs.PairLaw.{RefusalsArePairs}
use Rattle.market_system.specs.WorkingPairs.{IsRangeOf}
use Rattle.limit_rows.proofs.ApartLemmas.{names_apart}
use Rattle.market_system.proofs.DualLists.{rows_apart}
use Rattle.market_system.proofs.RowOrder.{AreInOrder, in_order-in}
use Rattle.market_system.proofs.PairCases.{law_of_the_pairs, of_system_pair, row_flow_number}
use Rattle.market_system.proofs.VariableLaws as law
use Rattle.market_system.specs.declared.variables.Variable.TheVariants.{Limit}
use Rattle.market_dict.specs.declared.taking.Taking.{Taking}
use Rattle.market_dict.specs.Refusals.{IsLeftRefusal, of_high, of_low, IsBoundsRefusal, of_sum, of_pickup, of_bound, of_offered}
use Rattle.market_dict.specs.Takings.{limits_of, taken_of}
use Rattle.market_dict.proofs.OfferedPairs.{none_refused, offered_pair}

-- of the market's system
pub pair_range : {N : Type 0} (value : N → Fraction) (bound : ℕ) (m : Parts) (old : List Row) (ts : List Taking) (p : Passed N) → Growth m old (limits_of ts) → IsPairOf value bound (system_of m (taken_of ts)) p → IsRangeOf m old bound (passed_at value p)
pair_range value bound m old ts p grown pair = of_system_pair m old (taken_of ts) grown bound (passed_at value p) pair

-- where prices and bounds are made
module _ (m : Parts) (old : List Row) (ts : List Taking) (h : Choice) (bound : ℕ) (p : Passed Fraction) (market : IsMarket m) (grown : Growth m old (limits_of ts)) (choice : IsChoice (system_of m (taken_of ts)) h) where
  pairs : RefusalsArePairs m old (taken_of ts) h bound p
  pairs = law_of_the_pairs m old (taken_of ts) h bound p market grown choice

  flow_number : (r : Row) → Contains (rows m) r → MarketNumber m (taken_of ts) h Quantity (flow m (empty m) r)
  flow_number r c = row_flow_number m old (taken_of ts) grown h choice bound p market (empty m) (inl refl) r c

  -- a bound of a row in hand
  module _ (r : Row) (c : Contains (rows m) r) (taken : Contains (limits_of ts) r) where
    listed : Contains (in_order m (limits_of ts)) r
    listed = in_order-in m (limits_of ts) r c taken

    ordered : AreInOrder m (taken_in_order m (taken_of ts))
    ordered = law.taken-in_order m (rows_apart m (names_apart m market)) (taken_of ts)

    named : Contains (system_of m (taken_of ts)).variables (row_name m r)
    named = law.variable_in m (taken_in_order m (taken_of ts)) (Limit r) listed

    high_number : ClearingNumber m (taken_of ts) h (limit m r -ℚ flow m (empty m) r)
    high_number = subst (ClearingNumber m (taken_of ts) h) (law.high-at m (taken_in_order m (taken_of ts)) ordered (Limit r) listed)
        (of_kind Quantity ((system_of m (taken_of ts)).high (row_name m r)) (of_system Quantity ((system_of m (taken_of ts)).high (row_name m r)) (is_high (row_name m r) named)))

    low_number : ClearingNumber m (taken_of ts) h (neg_ℚ (limit m r) -ℚ flow m (empty m) r)
    low_number = subst (ClearingNumber m (taken_of ts) h) (law.low-at m (taken_in_order m (taken_of ts)) ordered (Limit r) listed)
        (of_kind Quantity ((system_of m (taken_of ts)).low (row_name m r)) (of_system Quantity ((system_of m (taken_of ts)).low (row_name m r)) (is_low (row_name m r) named)))

    bound_range : IsLeftRefusal m bound r p → IsRangeOf m old bound p
    bound_range (of_high a) = pairs.less Quantity (limit m r) (flow m (empty m) r) (is_limit r c) (flow_number r c) high_number a
    bound_range (of_low a) = pairs.less Quantity (neg_ℚ (limit m r)) (flow m (empty m) r) (of_opposite Quantity (limit m r) (is_limit r c)) (flow_number r c) low_number a

  -- the sum of what is offered of reserve
  offered_range : (b : Bool) → m.reserve.listed ≡ b → IsRefusedIn (offered_terms m) bound p → IsRangeOf m old bound p
  offered_range true listed a = pairs.system (offered_pair m (taken_in_order m (taken_of ts)) (law.taken-in_order m (rows_apart m (names_apart m market)) (taken_of ts)) listed bound p a)
  offered_range false unlisted a = absurd (none_refused m bound p market unlisted a)

  pub posing_range : (over : List Row) → ((r : Row) → Contains over r → Contains (limits_of ts) r) → IsBoundsRefusal m over bound p → IsRangeOf m old bound p
  posing_range over inside (of_sum (terms, sum, a)) = pairs.sum (Some Quantity) terms (flows_named (empty m) terms (inl refl) sum) a
  posing_range over inside (of_pickup r c taken (terms, sum, a)) = pairs.sum (Some Factor) terms (factor_of r terms c (factor_of_pickup terms sum)) a
  posing_range over inside (of_bound r c taken a) = bound_range r c (inside r taken) a
  posing_range over inside (of_offered a) = offered_range m.reserve.listed refl a

-- rows among others
pub bounds_among : (m : Parts) (over wider : List Row) (bound : ℕ) (p : Passed Fraction) → ((r : Row) → Contains over r → Contains wider r) → IsBoundsRefusal m over bound p → IsBoundsRefusal m wider bound p
bounds_among m over wider bound p inside (of_sum a) = of_sum a
bounds_among m over wider bound p inside (of_pickup r c k a) = of_pickup r c (inside r k) a
bounds_among m over wider bound p inside (of_bound r c k a) = of_bound r c (inside r k) a
bounds_among m over wider bound p inside (of_offered a) = of_offered a

-- where the flow of a row is refused, of what is carried where nothing is accepted
pub bounds_refused : (m : Parts) (k : Carried) (r : Row) (bound : ℕ) (p : Passed Fraction) → Contains (rows m) r → flow_terms m k r ≡ flow_terms m (carried m (empty m)) r
    → IsFlowRefusal m k r bound p → IsBoundsRefusal m (r ∷ []) bound p
bounds_refused m k r bound p c same (inl (_, flow_of_row, why)) = of_sum (_, flow_in_limits _ (limited_row r _ c flow_of_row), subst (λ (ts : List Term). IsRefusedIn ts bound p) same why)
bounds_refused m k r bound p c same (inr why) = of_pickup r c (Contains-head r []) why
