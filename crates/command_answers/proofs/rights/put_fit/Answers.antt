use Rattle.std.proofs.Common.{◌++◌, ◌∙◌, ap, subst}
use Rattle.market_model.specs.Stops.{StopsBy}
use Rattle.market_model.specs.Valued.{passed_at, total_at}
use Rattle.rights_test.specs.Fits.{fit_at}
use Rattle.command_answers.specs.Bounds.{ArePassedWithin, ArePaymentsWithin}
use Rattle.command_answers.specs.Rights.{IsRightsRefusal, fit_status, fitted, passed}
use Rattle.command_answers.specs.RightsLines.{rights_lines}
use Rattle.command_answers.specs.Tellings.{uncertified}
use Rattle.command_answers.specs.declared.status.Status.TheVariants as status
use Rattle.command_answers.proofs.rights.put_fit.Goals as goal
use Rattle.command_answers.proofs.BoundLemmas.{fit_within, passed_within, payments_within}

pub returns-in_ok-rights_lines-in-Ok-clause-tells : goal.returns-in_ok-rights_lines-in-Ok-clause-tells
returns-in_ok-rights_lines-in-Ok-clause-tells g c =
    let f = fit_at g.N.Exact.value c.in-Ok.made.fit in
    let fits = g.met.N.Exact.value_fits in
    fitted f c.in-Ok.ensures.fit (fit_within g.N.Exact.value g.N.Exact.bound fits c.in-Ok.made.fit)
    (subst (ArePaymentsWithin g.N.Exact.bound) c.in-Ok.ensures.payments (payments_within g.N.Exact.value g.N.Exact.bound fits c.in-Ok.made.payments))
    (ap (λ s. uncertified s c.rights_lines.new.text) c.fit_status.ensures.status
    ∙ ap (uncertified (fit_status f)) (c.in_ok-rights_lines-in-Ok.ensures ∙ ap (λ p. c.args.text.now ++ rights_lines f p) c.in-Ok.ensures.payments))

pub returns-in_ok-word-in-Err-Passed-clause-tells : goal.returns-in_ok-word-in-Err-Passed-clause-tells
returns-in_ok-word-in-Err-Passed-clause-tells g c =
    let value = g.N.Exact.value in
    let p = passed_at value c.in-Err-Passed.passed in
    let within : ArePassedWithin g.N.Exact.bound p = passed_within value g.N.Exact.bound g.met.N.Exact.value_fits c.in-Err-Passed.passed in
    let refused = subst (StopsBy value (IsRightsRefusal c.args.market.now c.args.rights.now (total_at value c.args.prices.now) g.N.Exact.bound)) c.in-Err-Passed.field-0-is c.in-Err-Passed.ensures.stops in
    passed p refused within
    (ap (uncertified status.Range) (c.in_ok-word-in-Err-Passed.ensures ∙ ap (λ t. c.args.text.now ++ t) (c.as_slice.ensures.value ∙ c.in_ok-range-in-Err-Passed.ensures)))
