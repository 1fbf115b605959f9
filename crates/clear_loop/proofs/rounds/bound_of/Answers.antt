use Rattle.std.proofs.lemmas.Result.{IfErr-weaker}
use Rattle.market_model.specs.Stops.{StopsBy}
use Rattle.market_model.specs.Valued.{duals_at}
use Rattle.clear_loop.specs.Bounding.{IsFarkasRefusal}
use Rattle.clear_loop.proofs.StopLemmas.{bound_stop}
use Rattle.clear_loop.proofs.rounds.bound_of.Goals as goal

pub returns-then-reserve-clause-stops : goal.returns-then-reserve-clause-stops
returns-then-reserve-clause-stops g c = λ ts stuck.
    let value = g.N.Exact.value in
    let m = c.args.market.now in
    let d = duals_at value c.args.duals.now in
    IfErr-weaker c.farkas_bound.result (StopsBy value (IsFarkasRefusal m d g.N.Exact.bound)) _
    (λ s. bound_stop value g.N.Exact.bound m ts d (value c.args.margin) s c.lines-lines.ensures.market stuck) c.farkas_bound.ensures.stops
