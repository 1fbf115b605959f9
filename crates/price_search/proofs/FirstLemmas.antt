-- The point that goes first in a dictionary that holds prices is the first of the best ones of the whole system.
use Rattle.std.specs.Prelude.{Result, Ok, Err, IfOk, IfErr, ◌≡◌, ℕ, List, reverse}
use Rattle.std.proofs.Common.{ap, sym, ◌∙◌, subst}
use Rattle.fraction_theory.specs.Fraction.{Fraction}
use Rattle.linear_dict.specs.Causes.{IsPairOf}
use Rattle.linear_dict.specs.Dictionaries.{Dictionary, system_in}
use Rattle.linear_system.specs.SameSystems.{SameSystem}
use Rattle.linear_system.specs.Systems.{System}
use Rattle.linear_system.proofs.SameSystems.{same_pair, turned_round}
use Rattle.optimal_face.specs.FirstPoints.{IsFirstBest}
use Rattle.simplex_core.specs.States.{state_of}
use Rattle.simplex_theory.proofs.SameStates.{same_best}
use Rattle.first_best.specs.Outcomes.{GoesFirst}
use Rattle.market_model.specs.declared.participants.Parts.{Parts}
use Rattle.market_model.specs.declared.stops.Stop.{Stop}
use Rattle.market_model.specs.declared.stops.Stop.TheVariants.{Passed as StoppedBy, Memory as NoMemory}
use Rattle.market_model.specs.Dispatch.{Dispatch}
use Rattle.market_model.specs.Market.{IsMarket}
use Rattle.market_model.specs.Stops.{OnPassed}
use Rattle.fewer_columns.specs.Laws.{LawOfTheFirstOfFewer}
use Rattle.price_system.specs.PriceSystem.{Caps, price_system}
use Rattle.price_system.proofs.SystemLemmas.{law_of_the_system}
use Rattle.price_dict.specs.Holding.{HoldsPriceSystem}
use Rattle.price_dict.specs.Reached.{is_kept, reached_system}
use Rattle.price_search.specs.Searching.{HoldsBestPrices, HoldsFirstPrices}
use Rattle.price_search.proofs.KeptLemmas.{columns_are, may_leave}
use Rattle.price_search.proofs.PosedLemmas.{holds_same}

same_first : (s t : System) (names : List ℕ) → SameSystem s t → (v : ℕ → Fraction) → IsFirstBest s names v → IsFirstBest t names v
same_first s t names same v first = record {
  best = same_best s t same v first.best;
  first = λ u best before. first.first u (same_best t s (turned_round s t same) u best) before;
}

module _ (m : Parts) (x : Dispatch) (c : Caps) (d e : Dictionary) (market : IsMarket m) (before : HoldsBestPrices m x c d) (goes : GoesFirst d (reverse d.columns) e) where
  order_is : reverse d.columns ≡ reverse (reached_system m x c).columns
  order_is = ap reverse (before.holds.holds.columns ∙ sym (columns_are m x market c))

  of_fewer : IsFirstBest (reached_system m x c) (reverse (reached_system m x c).columns) (state_of e).value
  of_fewer = same_first (system_in d) (reached_system m x c) (reverse (reached_system m x c).columns) before.holds.same (state_of e).value
      (subst (λ (ns : List ℕ). IsFirstBest (system_in d) ns (state_of e).value) order_is goes.first)

  pub first_holds : LawOfTheFirstOfFewer → HoldsFirstPrices m x c e
  unfolding price_system
  first_holds law = record {
    holds = record {
      holds = holds_same m x d e before.holds.holds goes.same.live goes.same.sound goes.same.columns goes.same.rows goes.same.coefficients goes.same.names;
      same = subst (λ (s : System). SameSystem s (reached_system m x c)) (sym goes.same.system) before.holds.same;
    };
    first = law (price_system m x c) (is_kept m x) (state_of e).value (law_of_the_system m x c market) (may_leave m x market c) of_fewer;
  }

-- a working pair of the dictionary's system is one of the system of prices
pub pair_over : {N : Type 0} (value : N → Fraction) (bound : ℕ) (m : Parts) (x : Dispatch) (c : Caps) (d : Dictionary) (stop : Stop N) → HoldsPriceSystem m x c d
    → OnPassed stop (IsPairOf value bound (system_in d)) → OnPassed stop (IsPairOf value bound (reached_system m x c))
pair_over value bound m x c d (StoppedBy p) holds pair = same_pair (system_in d) (reached_system m x c) holds.same bound p.op (value p.left) (value p.right) pair
pair_over value bound m x c d NoMemory holds pair = pair

-- what follows for each value, and for each error
pub if_ok : {A E : Type 0} (P Q : A → Type 0) (r : Result A E) → ((a : A) → P a → Q a) → IfOk r P → IfOk r Q
if_ok P Q (Ok a) more h = more a h
if_ok P Q (Err e) more h = h

pub if_err : {A E : Type 0} (P Q : E → Type 0) (r : Result A E) → ((e : E) → P e → Q e) → IfErr r P → IfErr r Q
if_err P Q (Ok a) more h = h
if_err P Q (Err e) more h = more e h
