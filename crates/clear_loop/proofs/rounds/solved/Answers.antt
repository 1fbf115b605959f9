use Rattle.std.proofs.Common.{Err, ◌≡◌, ◌∙◌, ap}
use Rattle.std.proofs.lemmas.Result.{IfErr-weaker, err_from_is_err_and}
use Rattle.market_model.specs.declared.stops.Stop.TheVariants as stop
use Rattle.market_system.proofs.GrowthLaws.{growth_none}
use Rattle.market_dict.specs.Findings.{IsPairOver}
use Rattle.market_dict.specs.Takings.{limits_of}
use Rattle.clear_loop.proofs.PosingLemmas.{bounds_fit, in_order, posed_range, posed_system, prices_fit}
use Rattle.clear_loop.proofs.StopLemmas.{pair_stop}
use Rattle.clear_loop.proofs.rounds.solved.Goals as goal

pub repose-requires-clause-prices : goal.repose-requires-clause-prices
repose-requires-clause-prices g c = prices_fit g.N.Exact.value c.args.market.now c.requires.0 c.args.posing.now c.requires.2 c.slice.result.now c.slice-2.result.now c.slice.ensures (c.slice-2.ensures ∙ c.in_ok-bounds.ensures) c.args.warm c.requires.1

pub repose-requires-clause-bounds : goal.repose-requires-clause-bounds
repose-requires-clause-bounds g c = bounds_fit g.N.Exact.value c.args.market.now c.requires.0 c.args.posing.now c.requires.2 c.slice.result.now c.slice-2.result.now c.slice.ensures (c.slice-2.ensures ∙ c.in_ok-bounds.ensures) c.args.warm c.requires.1

pub repose-requires-clause-ordered : goal.repose-requires-clause-ordered
repose-requires-clause-ordered g c = in_order g.N.Exact.value c.args.market.now c.requires.0 c.args.posing.now c.requires.2 c.slice.result.now c.slice-2.result.now c.slice.ensures (c.slice-2.ensures ∙ c.in_ok-bounds.ensures) c.args.warm c.requires.1 c.lines-lines.ensures.market

pub returns-in_err-posed-clause-stops : goal.returns-in_err-posed-clause-stops
returns-in_err-posed-clause-stops g c = λ ts start are.
    let p = err_from_is_err_and c.from_residual-in_err-posed.result c.from_residual-in_err-posed.ensures.1 in
    let given : c.from_residual-in_err-posed.result ≡ Err (stop.Passed c.in_err-posed.field-0.0) = p.1 ∙ ap Err p.2 in
    rw given
    (posed_range g.N.Exact.value c.args.market.now ts c.args.posing.now are c.slice.result.now c.slice-2.result.now c.slice.ensures (c.slice-2.ensures ∙ c.in_ok-bounds.ensures) c.args.warm start c.lines-lines.ensures.market
    g.N.Exact.bound c.in_err-posed.field-0.0 c.in_err-posed.ensures.pair)

pub solve-requires : goal.solve-requires
solve-requires g c = record {
  holds = (
    c.requires.0,
    posed_system g.N.Exact.value c.args.market.now c.requires.0 c.args.posing.now c.requires.2 c.slice.result.now c.slice-2.result.now c.slice.ensures (c.slice-2.ensures ∙ c.in_ok-bounds.ensures) c.args.warm c.requires.1 c.lines-lines.ensures.market
        c.in_ok-posed.posed c.in_ok-posed.ensures.posed,
  );
}

pub returns-clause-found : goal.returns-clause-found
returns-clause-found g c = λ ts start are.
    c.solve.ensures.found ts
    (posed_system g.N.Exact.value c.args.market.now ts c.args.posing.now are c.slice.result.now c.slice-2.result.now c.slice.ensures (c.slice-2.ensures ∙ c.in_ok-bounds.ensures) c.args.warm start c.lines-lines.ensures.market
    c.in_ok-posed.posed c.in_ok-posed.ensures.posed)

pub returns-clause-stops : goal.returns-clause-stops
returns-clause-stops g c = λ ts start are.
    let m = c.args.market.now in
    IfErr-weaker c.solve.result (IsPairOver g.N.Exact.value g.N.Exact.bound m ts) _
    (λ s. pair_stop g.N.Exact.value g.N.Exact.bound m (limits_of ts) ts s (growth_none m (limits_of ts)))
    (c.solve.ensures.pair ts
    (posed_system g.N.Exact.value c.args.market.now ts c.args.posing.now are c.slice.result.now c.slice-2.result.now c.slice.ensures (c.slice-2.ensures ∙ c.in_ok-bounds.ensures) c.args.warm start c.lines-lines.ensures.market
    c.in_ok-posed.posed c.in_ok-posed.ensures.posed))
