-- The limits and rooms that a dispatch doesn't keep where some are taken, and what follows where all are kept.
use Rattle.std.specs.Prelude.{◌≡◌, ◌⊎◌, Bool, true, false, List, Contains, refl}
use Rattle.std.proofs.Common.{inl, inr, ap, sym, subst, subst₂, ◌∙◌, get_or}
use Rattle.fraction_theory.specs.Fraction.{Fraction}
use Rattle.fraction_theory.specs.Order.{◌<ℚ◌, ◌≤ℚ◌}
use Rattle.fraction_theory.proofs.OrderLaws.{<ℚ-not-≤ℚ}
use Rattle.market_model.specs.declared.participants.Parts.{Parts}
use Rattle.market_model.specs.Dispatch.{Dispatch}
use Rattle.market_model.specs.Overrun.{overrun, IsBeyond, Keeps, Within}
use Rattle.market_model.specs.declared.limits.Row.{Row}
use Rattle.market_model.specs.LimitRows.{carried, rows, limit, flow, flow_by, most_flow}
use Rattle.market_model.specs.Market.{IsMarket}
use Rattle.market_model.specs.Optimality.{Feasible, BestFor}
use Rattle.market_model.specs.Reserves.{room, room_used}
use Rattle.market_model.proofs.ChangeLemmas.{same_default}
use Rattle.market_model.proofs.Excesses.{within_most}
use Rattle.market_system.specs.Growth.{Broken}
use Rattle.market_system.specs.MarketSystem.{is_in}
use Rattle.market_system.proofs.RowOrder.{is_in-from, is_in-in}
use Rattle.market_system.proofs.GrowthLaws.{beyond_is_new}
use Rattle.limit_screen.specs.Flows.{carried_at, flows_at}
use Rattle.limit_screen.specs.Screening.{AllKeep, IsWorstBy}
use Rattle.limit_screen.proofs.ScreenLemmas.{law_of_row_flows, listed_row}
use Rattle.market_dict.specs.Takings.{IsTaking, limits_of, taken_of}
use Rattle.market_dict.specs.declared.taking.Taking.{Taking}
use Rattle.market_dict.specs.declared.taking.Taking.TheVariants.{Limit, Room}
use Rattle.clear_loop.specs.Growing.{IsNew, IsPassedTaking}
use Rattle.clear_loop.specs.Rounds.{IsScreened, KeepsAll}
use Rattle.clear_loop.specs.declared.screen.Screened.TheVariants as screened

-- ---- rows that are taken
pub taken_or_not : (g : List Row) (r : Row) → Contains g r ⊎ (¬ (Contains g r))
taken_or_not g r = by (is_in g r) refl
  where
    by : (b : Bool) → is_in g r ≡ b → Contains g r ⊎ (¬ (Contains g r))
    by true e = inl (is_in-from g r e)
    by false e = inr (λ k. let wrong : false ≡ true = sym e ∙ is_in-in g r k in absurd Prim.cc)

module _ (m : Parts) (market : IsMarket m) (ts : List Taking) (x : Dispatch) where
  -- a flow beyond what it may be breaks its limit
  beyond_broken : (r : Row) → IsBeyond m (limits_of ts) r (flow m x r) → Broken m x r
  beyond_broken r beyond = λ w. beyond (record { limit = λ _. w; most = λ _. within_most m market r (flow m x r) w })

  -- where all rows keep what they may be, and units their rooms, a dispatch that is best for what is taken is feasible
  pub kept_feasible : BestFor m (taken_of ts) x → KeepsAll m (limits_of ts) x → Feasible m x
  kept_feasible best kept =
      record { blocks = best.feasible.blocks; balanced = best.feasible.balanced; limits = λ r c. within r (kept.limits r c) (taken_or_not (limits_of ts) r); need = best.feasible.need; rooms = kept.rooms }
    where
      within : (r : Row) → Keeps m (limits_of ts) r (flow m x r) → Contains (limits_of ts) r ⊎ (¬ (Contains (limits_of ts) r)) → Within (most_flow m r) (flow m x r)
      within r keeps (inl c) = keeps.most c
      within r keeps (inr new) = within_most m market r (flow m x r) (keeps.limit new)

  -- what is passed by the most is of the market, and is new
  module _ {N : Type 0} (value : N → Fraction) (best : BestFor m (taken_of ts) x) where
    pub worst_taking : (t : Taking) → IsScreened value m (limits_of ts) x (screened.Worst t) → IsTaking m t
    worst_taking (Limit r) (place, worst) = listed_row (rows m) place r worst.stands
    worst_taking (Room u) (kept, worst) = worst.offers

    pub worst_new : (t : Taking) → IsScreened value m (limits_of ts) x (screened.Worst t) → IsNew ts t
    worst_new (Limit r) (place, worst) = beyond_is_new m (taken_of ts) x r best.feasible worst.counts
    worst_new (Room u) (kept, worst) = λ c. <ℚ-not-≤ℚ (room m u) (room_used m x u) worst.passed (best.feasible.rooms u c)

    pub worst_passed : (t : Taking) → IsScreened value m (limits_of ts) x (screened.Worst t) → IsPassedTaking m x t
    worst_passed (Limit r) (place, worst) = beyond_broken r worst.counts
    worst_passed (Room u) (kept, worst) = worst.passed

-- ---- the flows of a dispatch
module _ (m : Parts) (market : IsMarket m) (g : List Row) (x : Dispatch) (fs : List Fraction) (puts : fs ≡ flows_at m x) where
  abbrev flow_at : Row → Fraction
  flow_at = flow_by m (carried_at m fs)

  row_is : (r : Row) → Contains (rows m) r → flow_at r ≡ flow m x r
  row_is r c = law_of_row_flows m x fs r market puts c

  -- where all limits are kept, and where one is the worst
  pub all_kept : AllKeep m g (carried_at m fs) → AllKeep m g (carried m x)
  all_kept keep r c = subst (Keeps m g r) (row_is r c) (keep r c)

  -- the worst row of the flows is that of the dispatch
  pub worst_at : (r : Row) → IsWorstBy m g (carried_at m fs) r → IsWorstBy m g (carried m x) r
  worst_at r (place, worst) =
      let c : Contains (rows m) r = listed_row (rows m) place r worst.stands in (
        place,
        record {
          stands = worst.stands;
          counts = subst (IsBeyond m g r) (row_is r c) worst.counts;
          most = λ k d lt beyond.
              let s : Row = get_or (rows m) k d in
              let cs : Contains (rows m) s = (k, lt, same_default (rows m) k s d lt) in
              subst₂ (λ e f. e ≤ℚ f) (same s cs) (same r c) (worst.most k d lt (back s cs beyond));
          first = λ i s lt stands beyond. let cs : Contains (rows m) s = listed_row (rows m) i s stands in subst₂ (λ e f. e <ℚ f) (same s cs) (same r c) (worst.first i s lt stands (back s cs beyond));
        },
      )
    where
      same : (s : Row) → Contains (rows m) s → overrun m s (flow_at s) ≡ overrun m s (flow m x s)
      same s c = ap (overrun m s) (row_is s c)

      back : (s : Row) → Contains (rows m) s → IsBeyond m g s (flow m x s) → IsBeyond m g s (flow_at s)
      back s c beyond = subst (IsBeyond m g s) (sym (row_is s c)) beyond
