use Rattle.std.proofs.Common.{◌≡◌, map}
use Rattle.fraction_theory.specs.Sums.{total}
use Rattle.market_model.specs.Dispatch.{Dispatch}
use Rattle.market_model.specs.Optimality.{block_value_terms}
use Rattle.limit_screen.specs.Flows.{flows_at}
use Rattle.settlement.proofs.WorthLemmas.{energy_terms}
use Rattle.settlement.proofs.worth.less_penalties.Given as goal

abbrev pub invariant-loop-row : goal.invariant-loop-row
invariant-loop-row g l =
    (x : Dispatch) → map g.N.Exact.value l.flows ≡ flows_at l.market x → g.N.Exact.value l.fn.values ≡ total (block_value_terms l.market x) → g.N.Exact.value l.sum ≡ total (energy_terms l.market x l.yielded)
