use Rattle.std.proofs.Common.{◌≡◌, ◌∙◌, None, ap, ap₂, arith, map, subst, w64, to_z, of_z}
use Rattle.std.specs.Prelude.{ℤ, IfSome, option_and_then}
use Rattle.std.proofs.lemmas.Int.{to_z-of_z, ints}
use Rattle.cert_format.specs.Certificates.{NumbersFit, cert_of_outcome}
use Rattle.cert_format.specs.Written.{certificate_of}
use Rattle.market_model.specs.declared.participants.Parts.{Parts}
use Rattle.market_model.specs.declared.participants.Reserve.{Reserve}
use Rattle.market_model.specs.Changes.{with_need}
use Rattle.edit_replay.specs.Replays.{step_outcome_at}
use Rattle.replay_text.specs.ReplayTexts.{replayed}
use Rattle.command_answers.specs.Replaying.{last_clear}
use Rattle.command_answers.proofs.TellingLemmas.{certified-as}
use Rattle.command_answers.proofs.replaying.outcomes_told.Goals as goal

pub returns-clause-tells : goal.returns-clause-tells
returns-clause-tells g c =
    let last = last_clear None (map (step_outcome_at g.N.Exact.value) c.args.outcomes.now) in
    let as_given : to_z w64 (of_z w64 c.args.need) ≡ c.args.need = search (arith, ints, to_z-of_z) in
    λ m same.
    let places : c.factor_places-places.result ≡ m.factor_places = c.factor_places-places.ensures ∙ ap (λ (p : Parts). p.factor_places) same in
    let listed : c.reserve.result.now.listed ≡ m.reserve.listed = ap (λ (r : Reserve). r.listed) c.reserve.ensures.reserve ∙ ap (λ (p : Parts). p.reserve.listed) same in
    record {
      status_is = c.replay_status.ensures.status;
      text_is = c.in_ok-text.ensures m same ∙ ap (λ (need : ℤ). replayed (with_need m need) c.args.steps.now (map (step_outcome_at g.N.Exact.value) c.args.outcomes.now)) as_given;
      certificate_is = certified-as (λ v. v.items) _ _ _ c.certified.ensures (c.in_ok-certificate.ensures.text ∙ ap₂ (λ p l. option_and_then (certificate_of p l) last) places listed);
      certificate_fits = subst (λ cert. IfSome cert (NumbersFit g.N.Exact.bound)) (ap₂ (λ p l. option_and_then (cert_of_outcome p l) last) places listed) c.in_ok-certificate.ensures.fits;
    }
