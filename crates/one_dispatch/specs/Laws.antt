-- Laws of the dispatch that goes first.
use Rattle.std.specs.Prelude.{◌≡◌, ℕ}
use Rattle.std.specs.List.{Contains}
use Rattle.fraction_theory.specs.Fraction.{Fraction}
use Rattle.market_model.specs.declared.limits.Row.{Row}
use Rattle.market_model.specs.declared.participants.Parts.{Parts}
use Rattle.market_model.specs.Dispatch.{Dispatch}
use Rattle.market_model.specs.LimitRows.{flow, limit, rows}
use Rattle.market_model.specs.Market.{IsMarket}
use Rattle.market_model.specs.Optimality.{Feasible, Taken, all_of}
use Rattle.market_model.specs.Overrun.{Within}
use Rattle.market_system.specs.MarketSystem.{point_dispatch, system_of}
use Rattle.market_system.specs.SolvedLaws.{AreTaken}
use Rattle.optimal_face.specs.FirstPoints.{IsFirstBest}
use Rattle.market_system.specs.Ties.{IsFirstFor, dispatch_names}

abbrev pub LawOfOneDispatch : Type 0
LawOfOneDispatch = (m : Parts) (t : Taken) (x y : Dispatch) → IsFirstFor m t x → IsFirstFor m t y → x ≡ y

abbrev pub LawOfThePoint : Type 0
LawOfThePoint = (m : Parts) (t : Taken) (v : ℕ → Fraction) → IsMarket m → AreTaken m t → IsFirstBest (system_of m t) (dispatch_names m) v
    → IsFirstFor m t (point_dispatch m v)

-- soft limits that are not among them are not passed, so that they cost nothing
abbrev pub LawOfAllLimits : Type 0
LawOfAllLimits = (m : Parts) (t : Taken) (x : Dispatch) → IsMarket m → AreTaken m t → IsFirstFor m t x → Feasible m x
    → ((r : Row) → Contains (rows m) r → ¬ (Contains t.limits r) → Within (limit m r) (flow m x r)) → IsFirstFor m (all_of m) x
