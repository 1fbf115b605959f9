use Rattle.std.proofs.Common.{◌≡◌, ◌<◌, ◌≤◌, ◌∙◌, IfOk, None, Some, ap, arith, get_or, length, map, subst, sym}
use Rattle.std.specs.Prelude.{IfSome, OnOk, option_and_then, option_map}
use Rattle.cert_format.specs.Certificates.{NumbersFit, cert_of_outcome}
use Rattle.cert_format.specs.Written.{certificate_of}
use Rattle.market_model.specs.Valued.{outcome_at}
use Rattle.edit_replay.specs.Replays.{step_outcome_at}
use Rattle.command_answers.specs.Replaying.{last_clear}
use Rattle.command_answers.proofs.ReplayLemmas.{last_goes_on, last_over}
use Rattle.command_answers.proofs.replaying.last_certificate.Goals as goal

pub loop-outcome-preserved : goal.loop-outcome-preserved
loop-outcome-preserved g c =
    let slice = c.slice-outcome-items.ensures in
    let k = c.loop-outcome.outcome-index in
    let within : k < length c.args.outcomes.now = omega (arith, c.loop-outcome-test.true, ap length slice) in
    let item = subst (λ os. c.outcome-item.result ≡ get_or os k c.outcome-item.result) slice c.outcome-item.is in
    last_goes_on g.N.Exact.value c.args.outcomes.now k c.outcome-item.result within item _ _ _ (c.clear_or-last.ensures g.N.Exact.value) c.loop-outcome.invariant

-- what the last outcome is
pub returns-in-Some : goal.returns-in-Some
returns-in-Some g c =
    let slice = c.slice-outcome-items.ensures in
    let over : length c.args.outcomes.now ≤ c.loop-outcome.outcome-index = omega (arith, c.loop-outcome-test.false, ap length slice) in
    let last = last_over g.N.Exact.value c.args.outcomes.now c.loop-outcome.outcome-index over _ _ c.loop-outcome.invariant in
    let told : Some (outcome_at g.N.Exact.value c.in-Some.outcome.now) ≡ last_clear None (map (step_outcome_at g.N.Exact.value) c.args.outcomes.now) =
    sym (ap (option_map (λ o. outcome_at g.N.Exact.value o.now)) c.in-Some.is) ∙ last in
    record {
      text = subst (λ o. IfOk c.outcome_json.result (λ made. option_map (λ bytes. bytes.items) made ≡ option_and_then (certificate_of c.args.places c.args.listed) o)) told c.outcome_json.ensures.text;
      fits = subst (λ o. OnOk c.outcome_json.result (IfSome (option_and_then (cert_of_outcome c.args.places c.args.listed) o) (NumbersFit g.N.Exact.bound))) told c.outcome_json.ensures.fits;
    }

pub returns-in-None : goal.returns-in-None
returns-in-None g c =
    let slice = c.slice-outcome-items.ensures in
    let over : length c.args.outcomes.now ≤ c.loop-outcome.outcome-index = omega (arith, c.loop-outcome-test.false, ap length slice) in
    let last = last_over g.N.Exact.value c.args.outcomes.now c.loop-outcome.outcome-index over _ _ c.loop-outcome.invariant in
    let told : None ≡ last_clear None (map (step_outcome_at g.N.Exact.value) c.args.outcomes.now) = sym (ap (option_map (λ o. outcome_at g.N.Exact.value o.now)) c.in-None.is) ∙ last in
    record {
      text = ap (option_and_then (certificate_of c.args.places c.args.listed)) told;
      fits = subst (λ o. IfSome (option_and_then (cert_of_outcome c.args.places c.args.listed) o) (NumbersFit g.N.Exact.bound)) told tt;
    }
