use Rattle.std.specs.Prelude.{◌≡◌, ◌<◌, ℕ}
use Rattle.std.proofs.Common.{get_or}
use Rattle.market_model.specs.Dispatch.{unit_at}
use Rattle.market_model.specs.Valued.{total_at}
use Rattle.bus_prices.proofs.owning.put_bus_prices.Given as goal

abbrev pub invariant-loop-unit : goal.invariant-loop-unit
invariant-loop-unit g l = (k : ℕ) (d : g.row.N.Denot) → k < l.unit → g.N.Exact.value (get_or l.out k d) ≡ total_at g.N.Exact.value l.prices (unit_at l.market k).bus
