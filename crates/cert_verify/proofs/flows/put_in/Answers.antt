use Rattle.std.proofs.Common.{map}
use Rattle.std.proofs.lemmas.Result.{IfErr-weaker, IfOk-weaker}
use Rattle.market_model.specs.SumTables.{balance_from_bus}
use Rattle.market_model.specs.Valued.{passed_at}
use Rattle.market_model.proofs.StopLemmas.{on_passed_weaker}
use Rattle.cert_sums.proofs.BlockFlows.{injection_refusal, injections_of_blocks}
use Rattle.cert_verify.proofs.flows.put_in.Goals as goal

pub returns-clause-injections : goal.returns-clause-injections
returns-clause-injections g c = λ reserve.
    let value = g.N.Exact.value in
    IfOk-weaker c.injections.result _ _ (λ mws e. injections_of_blocks c.args.market.now (map value c.args.blocks.now) reserve (map value mws.items) e) c.injections.ensures.injections

pub returns-clause-stops : goal.returns-clause-stops
returns-clause-stops g c = λ reserve.
    let value = g.N.Exact.value in
    IfErr-weaker c.injections.result _ _
    (λ stop h. on_passed_weaker stop _ _
    (λ p why. let r = injection_refusal c.args.market.now (map value c.args.blocks.now) reserve g.N.Exact.bound (passed_at value p) why in (r.0, balance_from_bus r.0 r.1, r.2)) h)
    c.injections.ensures.stops
