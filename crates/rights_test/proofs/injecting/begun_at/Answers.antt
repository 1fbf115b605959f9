use Rattle.std.proofs.Common.{rules, Err, ◌≡◌, ◌∙◌, get_or}
use Rattle.market_model.specs.declared.participants.TransmissionRight.{TransmissionRight}
use Rattle.market_model.specs.Valued.{passed_at}
use Rattle.market_model.proofs.ChangeLemmas.{same_default}
use Rattle.rights_test.proofs.BusSteps.{all_begun, begun_refused, begun_step, nothing}
use Rattle.rights_test.proofs.injecting.begun_at.Goals as goal

pub loop-right-preserved : goal.loop-right-preserved
loop-right-preserved g c =
    let rights = c.args.rights.now in
    let k = c.loop-right.right-index in
    let t : TransmissionRight = get_or rights k nothing in
    begun_step rights c.args.bus k t c.loop-right-test.true (same_default rights k nothing t c.loop-right-test.true) (g.N.Exact.value c.loop-right.mw) (g.N.Exact.value c.in_ok-mw.mw) c.loop-right.invariant (rw c.mw_of.ensures at c.in_ok-mw.ensures.sum)

pub returns-clause-sum : goal.returns-clause-sum
returns-clause-sum g c = c.loop-right.invariant ∙ all_begun c.args.rights.now c.args.bus c.loop-right.right-index c.loop-right-test.false

pub returns-in_err-mw-clause-stops : goal.returns-in_err-mw-clause-stops
returns-in_err-mw-clause-stops g c =
    let rights = c.args.rights.now in
    let k = c.loop-right.right-index in
    let t : TransmissionRight = get_or rights k nothing in
    let given : c.from_residual.result ≡ Err c.in_err-mw.field-0.0 = search rules in
    rw given
    (begun_refused rights c.args.bus k t c.loop-right-test.true (same_default rights k nothing t c.loop-right-test.true) (g.N.Exact.value c.loop-right.mw) g.N.Exact.bound (passed_at g.N.Exact.value c.in_err-mw.field-0.0)
    c.in_err-mw.ensures.counts c.loop-right.invariant (rw c.mw_of.ensures at c.in_err-mw.ensures.stops))
