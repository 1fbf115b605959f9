use Rattle.std.proofs.Common.{rules, Err, ◌≡◌, ◌∙◌, [], ◌∷◌, map, refl, sym}
use Rattle.std.proofs.lemmas.Result.{IfOk-weaker}
use Rattle.market_model.specs.declared.stops.Stop.TheVariants as why
use Rattle.market_model.specs.Valued.{dual_at}
use Rattle.cert_verify.specs.Reasons.{slack_reason, unpriced_reason}
use Rattle.cert_verify.proofs.PlacesLemmas.{first_behind}
use Rattle.cert_verify.proofs.TestLemmas.{first_at, or_none}
use Rattle.cert_verify.proofs.flows.wrong_price.Goals as goal

pub returns-in_err-reason-clause-stops : goal.returns-in_err-reason-clause-stops
returns-in_err-reason-clause-stops g c =
    let given : c.from_residual.result ≡ Err (why.Passed c.in_err-reason.field-0.0) = search rules in
    λ x carried. rw given (c.in_err-reason.ensures.stops x carried)

pub returns-in-Some-clause-first : goal.returns-in-Some-clause-first
returns-in-Some-clause-first g c = λ x carried.
    let m = c.args.market.now in
    let ds = map (dual_at g.N.Exact.value) c.args.limits.now in
    first_at [] (unpriced_reason m x ds ∷ []) (slack_reason m x ds) c.in-Some.reason refl (sym (c.in_ok-reason.ensures.first x carried) ∙ c.in-Some.is)

pub returns-clause-first : goal.returns-clause-first
returns-clause-first g c = λ x carried.
    let m = c.args.market.now in
    let ds = map (dual_at g.N.Exact.value) c.args.limits.now in
    let behind = first_behind (slack_reason m x ds) (unpriced_reason m x ds ∷ []) (sym (c.in_ok-reason.ensures.first x carried) ∙ c.in_default.is) ∙ or_none (unpriced_reason m x ds) in
    IfOk-weaker c.unpriced_row.result _ _ (λ o e. e ∙ sym behind) (c.unpriced_row.ensures.first x carried)
