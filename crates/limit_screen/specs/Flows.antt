-- What a network carries at a dispatch, and the flows of rows where this is carried.
-- Wood and Wollenberg, Power Generation, Operation and Control: flows by shift factors, after an outage of a branch by the flow that the
-- lost branch had, and after one of a unit by the output that others pick up.
use Rattle.std.specs.Prelude.{◌≡◌, ℕ, List, ◌++◌, length, drop, Contains}
use Rattle.fraction_theory.specs.Fraction.{Fraction}
use Rattle.exact_fraction.specs.declared.Passed.{Passed}
use Rattle.market_model.specs.declared.participants.Parts.{Parts}
use Rattle.market_model.specs.Dispatch.{Dispatch}
use Rattle.market_model.specs.declared.limits.Row.{Row}
use Rattle.market_model.specs.LimitRows.{Carried, rows, flow, flow_by, carried, carried_list}
use Rattle.market_model.specs.Market.{IsMarket}
use Rattle.market_model.specs.PutIn.{carried_in, injections_at}
use Rattle.market_model.specs.SumTables.{IsRefusedAmong, NetworkSum}

-- what each bus puts in at a dispatch, then the flow of each line, and then the output of the unit of each outage of a unit
abbrev pub flows_at : Parts → Dispatch → List Fraction
flows_at m x = injections_at m x ++ carried_list m (carried m x)

-- of numbers for each bus, then for each line and then for each outage of a unit, what is carried by the last two
abbrev pub carried_at : Parts → List Fraction → Carried
carried_at m fs = carried_in m (drop (length m.buses) fs)

-- of the flows of a dispatch, those of the market's rows are their flows at the dispatch
abbrev pub LawOfRowFlows : Type 0
LawOfRowFlows = (m : Parts) (x : Dispatch) (fs : List Fraction) (r : Row) → IsMarket m → fs ≡ flows_at m x → Contains (rows m) r → flow_by m (carried_at m fs) r ≡ flow m x r

-- an operation refused where the flows of a dispatch are added up
abbrev pub IsFlowsRefusal : Parts → Dispatch → ℕ → Passed Fraction → Type 0
IsFlowsRefusal m x bound p = IsRefusedAmong (NetworkSum m x) bound p
