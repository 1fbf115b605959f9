use Rattle.std.proofs.Common.{◌∙◌, [], List, ℕ, ap, map, length, replicate, subst}
use Rattle.std.proofs.lemmas.Result.{IfOk-weaker, IfErr-weaker}
use Rattle.fraction_theory.specs.Fraction.{Fraction}
use Rattle.market_model.specs.Dispatch.{dispatch_with, zero}
use Rattle.market_model.specs.Valued.{passed_at}
use Rattle.market_model.proofs.StopLemmas.{on_passed_weaker}
use Rattle.limit_screen.specs.Flows.{flows_at, IsFlowsRefusal}
use Rattle.market_dict.proofs.FlowLemmas.{flows_same, flows_refused_same}
use Rattle.market_dict.proofs.posing.base_flows_of.Goals as goal

pub returns-clause-flows : goal.returns-clause-flows
returns-clause-flows g c =
    let m = c.args.market.now in
    let blocks = c.len.ensures ∙ ap length c.blocks-2.ensures.list in
    let nothing = ap (map g.N.Exact.value) c.deref.ensures.value ∙ c.in_ok-nothing.ensures.zeros ∙ ap (λ (n : ℕ). replicate n zero) blocks in
    let same = ap (λ (xs : List Fraction). flows_at m (dispatch_with xs [])) nothing ∙ flows_same m (replicate (length m.blocks) zero) [] (replicate (length m.reserve.offers) zero) in
    IfOk-weaker c.flows_made.result _ _ (λ flows is. is ∙ same) c.flows_made.ensures.flows

pub returns-clause-stops : goal.returns-clause-stops
returns-clause-stops g c =
    let m = c.args.market.now in
    let blocks = c.len.ensures ∙ ap length c.blocks-2.ensures.list in
    let nothing = ap (map g.N.Exact.value) c.deref.ensures.value ∙ c.in_ok-nothing.ensures.zeros ∙ ap (λ (n : ℕ). replicate n zero) blocks in
    IfErr-weaker c.flows_made.result _ _
    (λ stop why. on_passed_weaker stop _ _
    (λ p h. flows_refused_same m (replicate (length m.blocks) zero) [] (replicate (length m.reserve.offers) zero) g.N.Exact.bound (passed_at g.N.Exact.value p)
    (subst (λ (xs : List Fraction). IsFlowsRefusal m (dispatch_with xs []) g.N.Exact.bound (passed_at g.N.Exact.value p)) nothing h)) why)
    c.flows_made.ensures.stops
