use Rattle.std.proofs.Common.{◌≡◌, map, take}
use Rattle.market_model.specs.Dispatch.{Dispatch}
use Rattle.market_model.specs.Optimality.{named_rows}
use Rattle.market_model.specs.RightAnswers.{rent_of}
use Rattle.market_model.specs.Valued.{duals_at, rent_at}
use Rattle.limit_screen.specs.Flows.{flows_at}
use Rattle.settlement.proofs.rents.rents.Given as goal

abbrev pub invariant-loop-dual : goal.invariant-loop-dual
invariant-loop-dual g l =
    (x : Dispatch) → map g.N.Exact.value l.flows ≡ flows_at l.market x
    → map (rent_at g.N.Exact.value) l.rents ≡ map (rent_of l.market x (duals_at g.N.Exact.value l.duals)) (take l.dual-index (named_rows l.market (duals_at g.N.Exact.value l.duals)))
