use Rattle.std.proofs.Common.{rules, Err, ◌≡◌, ◌∙◌, inl, map, sym}
use Rattle.std.proofs.lemmas.List.{length-map}
use Rattle.std.proofs.lemmas.Result.{IfErr-weaker}
use Rattle.market_model.specs.PutIn.{dispatch_of}
use Rattle.market_model.specs.Dispatch.{dispatch_with}
use Rattle.limit_screen.proofs.ScreenLemmas.{flow_count}
use Rattle.settlement.proofs.BlockFlows.{flows_of_blocks}
use Rattle.settlement.proofs.worth.welfare.Goals as goal

pub less_penalties-requires : goal.less_penalties-requires
less_penalties-requires g c =
    sym (length-map c.args.flows.now g.N.Exact.value) ∙ flow_count c.args.market.now (dispatch_of g.N.Exact.value c.args.dispatch.now) (map g.N.Exact.value c.args.flows.now) c.requires.flows

pub returns-in_err-of_blocks-clause-stops : goal.returns-in_err-of_blocks-clause-stops
returns-in_err-of_blocks-clause-stops g c =
    let given : c.from_residual.result ≡ Err c.in_err-of_blocks.field-0.0 = search rules in
    rw given (inl (c.in_err-of_blocks.ensures.stops (map g.N.Exact.value c.args.reserve.now)))

pub returns-in_err-of_energy-clause-stops : goal.returns-in_err-of_energy-clause-stops
returns-in_err-of_energy-clause-stops g c =
    let m = c.args.market.now in
    let value = g.N.Exact.value in
    let given : c.from_residual-in_err-of_energy.result ≡ Err c.in_err-of_energy.field-0.0 = search rules in
    rw given
    (c.in_err-of_energy.ensures.stops (dispatch_with (map value c.args.dispatch.now) (map value c.args.reserve.now))
    (c.requires.flows ∙ flows_of_blocks m (map value c.args.dispatch.now) (map value c.args.reserve.now)) c.in_ok-of_blocks.ensures.values)

pub returns-clause-worth : goal.returns-clause-worth
returns-clause-worth g c =
    let m = c.args.market.now in
    let value = g.N.Exact.value in
    c.less_reserve_costs.ensures.worth (map value c.args.dispatch.now)
    (c.in_ok-of_energy.ensures.worth (dispatch_with (map value c.args.dispatch.now) (map value c.args.reserve.now))
    (c.requires.flows ∙ flows_of_blocks m (map value c.args.dispatch.now) (map value c.args.reserve.now)) c.in_ok-of_blocks.ensures.values)

pub returns-clause-stops : goal.returns-clause-stops
returns-clause-stops g c =
    let m = c.args.market.now in
    let value = g.N.Exact.value in
    IfErr-weaker c.less_reserve_costs.result _ _ (λ passed refused. inl refused)
    (c.less_reserve_costs.ensures.stops (map value c.args.dispatch.now)
    (c.in_ok-of_energy.ensures.worth (dispatch_with (map value c.args.dispatch.now) (map value c.args.reserve.now))
    (c.requires.flows ∙ flows_of_blocks m (map value c.args.dispatch.now) (map value c.args.reserve.now)) c.in_ok-of_blocks.ensures.values))
