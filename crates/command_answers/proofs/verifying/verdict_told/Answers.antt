use Rattle.std.proofs.Common.{◌≡◌, rules, subst}
use Rattle.cert_verify.specs.Stops.{IsVerifyStop}
use Rattle.cert_format.specs.Certificates.{cert_at}
use Rattle.market_model.specs.Valued.{passed_at}
use Rattle.command_answers.specs.Bounds.{ArePassedWithin}
use Rattle.command_answers.specs.Tellings.{telling_of, uncertified}
use Rattle.command_answers.specs.Verifying.{passed}
use Rattle.command_answers.specs.declared.status.Status.TheVariants as status
use Rattle.report_text.specs.Reports.{range_text}
use Rattle.command_answers.proofs.verifying.verdict_told.Goals as goal
use Rattle.command_answers.proofs.BoundLemmas.{passed_within}

pub returns-in_ok-text-in-Err-Range-clause-verifies : goal.returns-in_ok-text-in-Err-Range-clause-verifies
returns-in_ok-text-in-Err-Range-clause-verifies g c =
    let p = passed_at g.N.Exact.value c.in-Err-Range.passed in
    let within : ArePassedWithin g.N.Exact.bound p = passed_within g.N.Exact.value g.N.Exact.bound g.met.N.Exact.value_fits c.in-Err-Range.passed in
    let is : telling_of c.uncertified-in-Err-Range.result ≡ uncertified status.Range (range_text p) = search rules in
    let cause = subst (IsVerifyStop g.N.Exact.value c.args.market.now g.N.Exact.bound (cert_at g.N.Exact.value c.args.certificate.now)) c.in-Err-Range.field-0-is c.in-Err-Range.ensures.stops in
    passed p cause within is
