use Rattle.std.proofs.Common.{◌∙◌, [], ◌∷◌, ap, sym}
use Rattle.std.specs.Option.{option_or}
use Rattle.std.proofs.lemmas.Result.{IfErr-weaker, IfOk-weaker}
use Rattle.market_model.proofs.StopLemmas.{on_passed_weaker}
use Rattle.cert_verify.specs.Certified.{certified_duals}
use Rattle.cert_verify.specs.Reasons.{bound_reason, dual_reasons, first_of}
use Rattle.cert_verify.proofs.TestLemmas.{first_join, or_none}
use Rattle.cert_verify.proofs.against.against_farkas.Goals as goal

pub returns-in-Some-clause-first : goal.returns-in-Some-clause-first
returns-in-Some-clause-first g c =
    let value = g.N.Exact.value in
    let d = certified_duals value c.args.duals.now in
    let m = c.args.market.now in
    sym (first_join (dual_reasons m d) (bound_reason m d ∷ []) ∙ ap (λ o. option_or o (first_of (bound_reason m d ∷ []))) (sym c.wrong_dual.ensures ∙ c.in-Some.is))

pub returns-clause-first : goal.returns-clause-first
returns-clause-first g c =
    let value = g.N.Exact.value in
    let d = certified_duals value c.args.duals.now in
    let m = c.args.market.now in
    let all = first_join (dual_reasons m d) (bound_reason m d ∷ []) ∙ ap (λ o. option_or o (first_of (bound_reason m d ∷ []))) (sym c.wrong_dual.ensures ∙ c.in_default.is) ∙ or_none (bound_reason m d) in
    IfOk-weaker c.wrong_bound.result _ _ (λ o e. e ∙ sym all) c.wrong_bound.ensures.first

pub returns-clause-stops : goal.returns-clause-stops
returns-clause-stops g c =
    IfErr-weaker c.wrong_bound.result _ _
    (λ stop h. on_passed_weaker stop _ _ (λ p pair. record { refused = pair; before = sym c.wrong_dual.ensures ∙ c.in_default.is }) h)
    c.wrong_bound.ensures.stops
