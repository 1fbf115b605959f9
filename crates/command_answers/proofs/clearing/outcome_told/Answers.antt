use Rattle.std.proofs.Common.{◌≡◌, ◌∙◌, ap, ap₂, subst}
use Rattle.std.specs.Prelude.{IfSome}
use Rattle.cert_format.specs.Certificates.{NumbersFit, cert_of_outcome}
use Rattle.cert_format.specs.Written.{certificate_of}
use Rattle.market_model.specs.Valued.{outcome_at}
use Rattle.market_model.specs.declared.participants.Reserve.{Reserve}
use Rattle.command_answers.proofs.TellingLemmas.{certified-as}
use Rattle.command_answers.proofs.clearing.outcome_told.Goals as goal

pub returns-clause-tells : goal.returns-clause-tells
returns-clause-tells g c =
    let outcome = outcome_at g.N.Exact.value c.args.outcome.now in
    let listed : c.reserve.result.now.listed ≡ c.args.market.now.reserve.listed = ap (λ (r : Reserve). r.listed) c.reserve.ensures.reserve in
    record {
      status_is = c.clear_status.ensures.status;
      text_is = c.in_ok-text.ensures;
      certificate_is = certified-as (λ v. v.items) _ _ _ c.certified.ensures (c.in_ok-certificate.ensures.text ∙ ap₂ (λ p l. certificate_of p l outcome) c.factor_places-places.ensures listed);
      certificate_fits = subst (λ cert. IfSome cert (NumbersFit g.N.Exact.bound)) (ap₂ (λ p l. cert_of_outcome p l outcome) c.factor_places-places.ensures listed) c.in_ok-certificate.ensures.fits;
    }
