-- The point that goes first in a dictionary that holds a market is the dispatch that goes first.
use Rattle.std.specs.Prelude.{◌≡◌, ℕ, List, [], ◌++◌, map, slice_index, Contains}
use Rattle.std.proofs.Common.{ap₂, refl, sym, ◌∙◌, subst}
use Rattle.std.proofs.lemmas.List.Elements.{Contains-append_left}
use Rattle.fraction_theory.specs.Fraction.{Fraction}
use Rattle.linear_dict.specs.Causes.{IsPairOf}
use Rattle.linear_dict.specs.Dictionaries.{Dictionary, choice_of, system_in}
use Rattle.linear_dict.proofs.SplitLemmas.{Contains-at}
use Rattle.linear_system.specs.Choices.{value}
use Rattle.linear_system.specs.SameSystems.{SameSystem}
use Rattle.linear_system.specs.Systems.{System}
use Rattle.linear_system.proofs.SameSystems.{same_pair, turned_round}
use Rattle.optimal_face.specs.FirstPoints.{IsFirstBest}
use Rattle.optimal_face.proofs.FirstLemmas.{first_by_agreement}
use Rattle.simplex_theory.proofs.SameStates.{same_best}
use Rattle.simplex_core.specs.States.{state_of}
use Rattle.first_best.specs.Outcomes.{GoesFirst}
use Rattle.market_model.specs.declared.participants.Parts.{Parts}
use Rattle.market_model.specs.declared.stops.Stop.{Stop}
use Rattle.market_model.specs.declared.stops.Stop.TheVariants.{Passed as StoppedBy, Memory as NoMemory}
use Rattle.market_model.specs.Dispatch.{Dispatch}
use Rattle.market_model.specs.Market.{IsMarket}
use Rattle.market_model.specs.Stops.{OnPassed}
use Rattle.market_system.specs.declared.variables.Variable.{Variable}
use Rattle.market_system.specs.MarketSystem.{block_columns, choice_dispatch, choice_duals, excess_columns, name, offer_columns, system_of}
use Rattle.market_system.proofs.VariableLaws.{block_names, in_mapped, mapped, offer_names}
use Rattle.market_system.specs.Ties.{IsFirstFor, dispatch_names}
use Rattle.one_dispatch.proofs.PointOrder.{law_of_the_point}
use Rattle.market_dict.specs.declared.taking.Taking.{Taking}
use Rattle.market_dict.specs.Findings.{HoldsBest, IsPairOver, IsSolvedBy}
use Rattle.market_dict.specs.Holding.{HoldsSystem}
use Rattle.market_dict.specs.Takings.{columns_put, limits_of, taken_of}
use Rattle.market_dict.proofs.ColumnLists.{columns_none, mapped_none}
use Rattle.market_dict.proofs.HoldingLaws.{holds_same, shown_choice, shown_value, solved_answers, solved_at}

-- ---- the order of the names
pub order_is : (m : Parts) → map (name m) (columns_put m []) ≡ dispatch_names m
order_is m = mapped_none m (name m) ∙ ap₂ (λ (xs ys : List ℕ). xs ++ ys) (block_names m) (offer_names m)

-- they are among the columns that the dictionary has
pub order_columns : (m : Parts) (ts : List Taking) (d : Dictionary) → HoldsSystem m ts d → (j : ℕ) → Contains (map (name m) (columns_put m [])) j → Contains d.columns j
order_columns m ts d holds j c =
    let v = mapped (name m) (columns_put m []) j c in
    let first : Contains (block_columns m ++ offer_columns m) v.0 = subst (λ (vs : List Variable). Contains vs v.0) (columns_none m) v.1 in
    let all : Contains (columns_put m ts) v.0 = Contains-append_left (block_columns m ++ offer_columns m) (excess_columns m (limits_of ts)) v.0 first in
    subst (λ (ws : List ℕ). Contains ws j) (sym holds.holds.columns) (subst (Contains (map (name m) (columns_put m ts))) v.2 (in_mapped (name m) (columns_put m ts) v.0 all))

-- ---- the point
same_first : (s t : System) (names : List ℕ) → SameSystem s t → (v : ℕ → Fraction) → IsFirstBest s names v → IsFirstBest t names v
same_first s t names same v first = record {
  best = same_best s t same v first.best;
  first = λ u best before. first.first u (same_best t s (turned_round s t same) u best) before;
}

-- a dictionary whose point goes first still holds the market
pub first_holds : (m : Parts) (ts : List Taking) (d e : Dictionary) → HoldsSystem m ts d → GoesFirst d (dispatch_names m) e → HoldsSystem m ts e
first_holds m ts d e holds goes = record {
  holds = holds_same m ts d e holds.holds goes.same.live goes.same.sound goes.same.columns goes.same.rows goes.same.coefficients goes.same.names;
  same = subst (λ (s : System). SameSystem s (system_of m (taken_of ts))) (sym goes.same.system) holds.same;
}

-- what a solved dictionary shows solves the market
pub solved_by : (m : Parts) (ts : List Taking) (e : Dictionary) → IsMarket m → HoldsBest m ts e → (x : Dispatch) → x ≡ choice_dispatch m (taken_of ts) (choice_of e)
    → IsSolvedBy m ts x (choice_duals m (taken_of ts) (choice_of e))
solved_by m ts e market best x is = record {
  choice = choice_of e;
  is_choice = shown_choice m ts e best.0 best.1;
  dispatch = is;
  duals = refl;
  answers = solved_answers m ts e market best.0 best.1 best.2;
}

module _ (m : Parts) (ts : List Taking) (d e : Dictionary) (market : IsMarket m) (before : HoldsSystem m ts d) (goes : GoesFirst d (dispatch_names m) e) where
  holds : HoldsSystem m ts e
  holds = first_holds m ts d e before goes

  point : IsFirstBest (system_of m (taken_of ts)) (dispatch_names m) (state_of e).value
  point = same_first (system_in d) (system_of m (taken_of ts)) (dispatch_names m) before.same (state_of e).value goes.first

  value_at : (w : ℕ) → Contains e.names w → (state_of e).value w ≡ value (system_of m (taken_of ts)) (choice_of e) w
  unfolding state_of
  value_at w c = shown_value m ts e holds goes.shows w c

  -- its dispatch is the one that goes first
  pub first_for : IsFirstFor m (taken_of ts) (choice_dispatch m (taken_of ts) (choice_of e))
  first_for = law_of_the_point m (taken_of ts) (value (system_of m (taken_of ts)) (choice_of e)) market before.holds.takings.taken
      (first_by_agreement (system_of m (taken_of ts)) (dispatch_names m) (state_of e).value (value (system_of m (taken_of ts)) (choice_of e)) point
      (solved_at m ts e holds goes.shows market goes.solved).best
      (λ k l.
      let c : Contains (dispatch_names m) (slice_index (dispatch_names m) k) = Contains-at (dispatch_names m) k l in
      let column = order_columns m ts e holds (slice_index (dispatch_names m) k) (subst (λ (ws : List ℕ). Contains ws (slice_index (dispatch_names m) k)) (sym (order_is m)) c) in
      value_at (slice_index (dispatch_names m) k) (holds.holds.sound.put_in.second_named (slice_index (dispatch_names m) k) column)))

-- a working pair of its system is one of the market's
pub pair_over : {N : Type 0} (value_of : N → Fraction) (bound : ℕ) (m : Parts) (ts : List Taking) (d : Dictionary) (stop : Stop N) → HoldsSystem m ts d
    → OnPassed stop (IsPairOf value_of bound (system_in d)) → IsPairOver value_of bound m ts stop
pair_over value_of bound m ts d (StoppedBy p) holds pair = same_pair (system_in d) (system_of m (taken_of ts)) holds.same bound p.op (value_of p.left) (value_of p.right) pair
pair_over value_of bound m ts d NoMemory holds pair = pair
