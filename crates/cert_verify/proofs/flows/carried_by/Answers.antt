use Rattle.std.proofs.Common.{map}
use Rattle.std.proofs.lemmas.Result.{IfErr-weaker, IfOk-weaker}
use Rattle.market_model.specs.Dispatch.{dispatch_with}
use Rattle.market_model.specs.Valued.{passed_at}
use Rattle.market_model.proofs.StopLemmas.{on_passed_weaker}
use Rattle.cert_sums.proofs.BlockFlows.{carried_of_blocks, carried_refusal, injections_by_blocks}
use Rattle.cert_verify.proofs.RowLemmas.{carried_pair}
use Rattle.cert_verify.proofs.flows.carried_by.Goals as goal

pub returns-clause-carried : goal.returns-clause-carried
returns-clause-carried g c = λ reserve puts.
    let value = g.N.Exact.value in
    let m = c.args.market.now in
    let xs = map value c.args.blocks.now in
    IfOk-weaker c.carried_flows.result _ _ (λ carried e. carried_of_blocks m xs reserve (map value carried.items) e)
    (c.carried_flows.ensures.carried (injections_by_blocks m xs reserve (map value c.args.by_bus.now) puts))

pub returns-clause-stops : goal.returns-clause-stops
returns-clause-stops g c = λ reserve puts.
    let value = g.N.Exact.value in
    let m = c.args.market.now in
    let xs = map value c.args.blocks.now in
    let bound = g.N.Exact.bound in
    IfErr-weaker c.carried_flows.result _ _
    (λ stop h. on_passed_weaker stop _ _ (λ p why. carried_pair m (dispatch_with xs reserve) bound (passed_at value p) (carried_refusal m xs reserve bound (passed_at value p) why)) h)
    (c.carried_flows.ensures.stops (injections_by_blocks m xs reserve (map value c.args.by_bus.now) puts))
