-- Parts of the table of sums that stand in other parts.
use Rattle.std.specs.Prelude.{List}
use Rattle.fraction_theory.specs.Sums.{Term}
use Rattle.market_model.specs.declared.participants.Parts.{Parts}
use Rattle.market_model.specs.Dispatch.{Dispatch}
use Rattle.market_model.specs.SumTables.{balance_from_bus, FlowSum, flow_in_balance, flow_in_limits, NetworkSum, put_in_at_bus, carried_by_network, limited_by_carried}

-- what buses put in, the flows of lines and the outputs of lost units are among the flows
pub flow_carried : (m : Parts) (x : Dispatch) (terms : List Term) → NetworkSum m x terms → FlowSum m x terms
flow_carried m x terms (put_in_at_bus same part) = flow_in_balance terms (balance_from_bus terms part)
flow_carried m x terms (carried_by_network same part) = flow_in_limits terms (limited_by_carried terms part)
