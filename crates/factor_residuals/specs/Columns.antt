-- The columns of a table of factors, as they are read.
use Rattle.std.specs.Prelude.{◌≡◌, ℕ, ◌*◌, ◌^◌, ◌<◌, ◌≤◌, ℤ, pos, ◌+ℤ◌, unsigned_abs, List, length, get_or}
use Rattle.market_data.specs.Scales.{most_factor, most_scaled_reactance, place_step}
use Rattle.net_case.specs.Networks.{LiveNetwork}
use Rattle.net_case.specs.declared.live_parts.NetBranch.{NetBranch}
use Rattle.net_paths.specs.Loops.{kept}
use Rattle.factor_tables.specs.Factors.{FactorRecords, factor_at}
use Rattle.factor_residuals.specs.Kirchhoff.{Column, Flows, net_outflow, branches_at}
use Rattle.factor_residuals.specs.declared.columns.Flow.{Flow}
use Rattle.factor_residuals.specs.declared.loop_sums.LoopSum.{LoopSum}
use Rattle.factor_residuals.specs.declared.node_sums.Node.{Node}

-- the flow over a branch by its row
abbrev pub flows_of : FactorRecords → ℕ → Flows
flows_of factors name = λ row. factor_at factors.entries (row, name)

abbrev pub column_of : LiveNetwork → FactorRecords → Flow → Column
column_of network factors flow = record {
  name = flow.name;
  flow = flows_of factors flow.name;
  step = place_step factors.places;
  branches = kept flow.lost network.branches;
  source = flow.source;
  sink = flow.sink;
}

-- what leaves the bus at a place over some branches
abbrev pub node_at : Flows → List NetBranch → ℕ → Node
node_at flow branches b = record { outflow = net_outflow flow branches b; branches = pos (branches_at branches b) }

-- with a flow more that leaves it
abbrev pub left_by : Node → ℤ → Node
left_by node flow = record { outflow = node.outflow +ℤ flow; branches = node.branches +ℤ pos 1 }

-- that of each of so many buses
pub record HoldNodes (flow : Flows) (branches : List NetBranch) (buses : ℕ) (nodes : List Node) : Type 0 where
  pub count : length nodes ≡ buses
  pub each : (b : ℕ) (d : Node) → b < buses → get_or nodes b d ≡ node_at flow branches b

-- what leaves a bus over at most k branches
pub record IsWithin (k : ℕ) (node : Node) : Type 0 where
  pub outflow : unsigned_abs node.outflow ≤ most_factor * k
  pub branches : unsigned_abs node.branches ≤ k

-- ---- round a loop
-- with one branch more, by its product of reactance and flow and by its reactance
abbrev pub with_drop : LoopSum → ℤ → ℤ → LoopSum
with_drop loop_sum drop reactance = record { miss = loop_sum.miss +ℤ drop; sizes = loop_sum.sizes +ℤ pos (unsigned_abs reactance) }

-- what at most k branches come to
pub record IsLoopSum (k : ℕ) (loop_sum : LoopSum) : Type 0 where
  pub miss : unsigned_abs loop_sum.miss ≤ 10 ^ 34 * k
  pub sizes : unsigned_abs loop_sum.sizes ≤ most_scaled_reactance * k
