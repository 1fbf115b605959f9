use Rattle.std.proofs.Common.{rules, Err, ◌≡◌, ◌∙◌, [], ◌∷◌, ◌++◌, ap, sym}
use Rattle.std.specs.Option.{option_or}
use Rattle.std.proofs.lemmas.Result.{IfErr-weaker, IfOk-weaker}
use Rattle.market_model.proofs.StopLemmas.{on_passed_weaker}
use Rattle.cert_verify.specs.Certified.{certified_dispatch, certified_duals}
use Rattle.cert_verify.specs.Reasons.{first_of, flow_reasons, part_reasons, reserve_support_reason, support_reason}
use Rattle.cert_verify.specs.Stops.{at_support}
use Rattle.cert_verify.proofs.RowLemmas.{counts}
use Rattle.cert_verify.proofs.TestLemmas.{first_join, none_join}
use Rattle.cert_verify.proofs.against.against_optimal.Goals as goal

pub returns-in_err-reason-clause-stops : goal.returns-in_err-reason-clause-stops
returns-in_err-reason-clause-stops g c =
    let given : c.from_residual.result ≡ Err c.in_err-reason.field-0.0 = search rules in
    rw given (c.in_err-reason.ensures.stops (sym c.wrong_part.ensures ∙ c.in_default.is))

pub wrong_flow-requires-clause-counted : goal.wrong_flow-requires-clause-counted
wrong_flow-requires-clause-counted g c = counts g.N.Exact.value c.args.market.now c.args.dispatch.now (certified_duals g.N.Exact.value c.args.duals.now) (sym c.wrong_part.ensures ∙ c.in_default.is)

pub wrong_support-requires-clause-counted : goal.wrong_support-requires-clause-counted
wrong_support-requires-clause-counted g c = counts g.N.Exact.value c.args.market.now c.args.dispatch.now (certified_duals g.N.Exact.value c.args.duals.now) (sym c.wrong_part.ensures ∙ c.in_default.is)

pub returns-in-Some-clause-first : goal.returns-in-Some-clause-first
returns-in-Some-clause-first g c =
    let value = g.N.Exact.value in
    let m = c.args.market.now in
    let x = certified_dispatch value c.args.dispatch.now in
    let d = certified_duals value c.args.duals.now in
    let told = sym c.wrong_part.ensures in
    let support = support_reason m x d ∷ reserve_support_reason m x d ∷ [] in
    let rest = flow_reasons m x d ++ support in
    sym (first_join (part_reasons m x d) rest ∙ ap (λ o. option_or o (first_of rest)) (told ∙ c.in-Some.is))

pub returns-in-Some-2-clause-first : goal.returns-in-Some-2-clause-first
returns-in-Some-2-clause-first g c =
    let value = g.N.Exact.value in
    let m = c.args.market.now in
    let x = certified_dispatch value c.args.dispatch.now in
    let d = certified_duals value c.args.duals.now in
    let told = sym c.wrong_part.ensures in
    let support = support_reason m x d ∷ reserve_support_reason m x d ∷ [] in
    let rest = flow_reasons m x d ++ support in
    let flows = sym c.in_ok-reason.ensures.first in
    sym (first_join (part_reasons m x d) rest ∙ ap (λ o. option_or o (first_of rest)) (told ∙ c.in_default.is)
    ∙ first_join (flow_reasons m x d) support ∙ ap (λ o. option_or o (first_of support)) (flows ∙ c.in-Some-2.is))

pub returns-clause-first : goal.returns-clause-first
returns-clause-first g c =
    let value = g.N.Exact.value in
    let m = c.args.market.now in
    let x = certified_dispatch value c.args.dispatch.now in
    let d = certified_duals value c.args.duals.now in
    let told = sym c.wrong_part.ensures in
    let support = support_reason m x d ∷ reserve_support_reason m x d ∷ [] in
    let rest = flow_reasons m x d ++ support in
    let flows = sym c.in_ok-reason.ensures.first in
    let all = first_join (part_reasons m x d) rest ∙ ap (λ o. option_or o (first_of rest)) (told ∙ c.in_default.is)
    ∙ first_join (flow_reasons m x d) support ∙ ap (λ o. option_or o (first_of support)) (flows ∙ c.in_default-2.is) in
    IfOk-weaker c.wrong_support.result _ _ (λ o e. e ∙ sym all) c.wrong_support.ensures.first

pub returns-clause-stops : goal.returns-clause-stops
returns-clause-stops g c =
    let value = g.N.Exact.value in
    let m = c.args.market.now in
    let x = certified_dispatch value c.args.dispatch.now in
    let d = certified_duals value c.args.duals.now in
    let told = sym c.wrong_part.ensures in
    let flows = sym c.in_ok-reason.ensures.first in
    IfErr-weaker c.wrong_support.result _ _
    (λ stop h. on_passed_weaker stop _ _ (λ p pair. at_support pair (none_join (part_reasons m x d) (flow_reasons m x d) (told ∙ c.in_default.is) (flows ∙ c.in_default-2.is))) h)
    c.wrong_support.ensures.stops
