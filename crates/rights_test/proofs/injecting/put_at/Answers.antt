use Rattle.std.proofs.Common.{rules, Err, ◌≡◌, ◌∙◌, get_or}
use Rattle.market_model.specs.declared.participants.TransmissionRight.{TransmissionRight}
use Rattle.market_model.specs.Valued.{passed_at}
use Rattle.market_model.proofs.ChangeLemmas.{same_default}
use Rattle.rights_test.proofs.BusSteps.{all_ended, ended_refused, ended_step, none_ended, nothing}
use Rattle.rights_test.proofs.injecting.put_at.Goals as goal

pub loop-right-init : goal.loop-right-init
loop-right-init g c = none_ended c.args.rights.now c.args.bus (g.N.Exact.value c.in_ok-mw.mw) c.in_ok-mw.ensures.sum

pub loop-right-preserved : goal.loop-right-preserved
loop-right-preserved g c =
    let rights = c.args.rights.now in
    let k = c.loop-right.right-index in
    let t : TransmissionRight = get_or rights k nothing in
    ended_step rights c.args.bus k t c.loop-right-test.true (same_default rights k nothing t c.loop-right-test.true) (g.N.Exact.value c.loop-right.mw) (g.N.Exact.value c.in_ok-mw-2.mw) c.loop-right.invariant c.in_ok-mw-2.ensures.left

pub returns-clause-sum : goal.returns-clause-sum
returns-clause-sum g c = c.loop-right.invariant ∙ all_ended c.args.rights.now c.args.bus c.loop-right.right-index c.loop-right-test.false

pub returns-in_err-mw-2-clause-stops : goal.returns-in_err-mw-2-clause-stops
returns-in_err-mw-2-clause-stops g c =
    let rights = c.args.rights.now in
    let k = c.loop-right.right-index in
    let t : TransmissionRight = get_or rights k nothing in
    let given : c.from_residual-in_err-mw-2.result ≡ Err c.in_err-mw-2.field-0.0 = search rules in
    rw given
    (ended_refused rights c.args.bus k t c.loop-right-test.true (same_default rights k nothing t c.loop-right-test.true) (g.N.Exact.value c.loop-right.mw) g.N.Exact.bound (passed_at g.N.Exact.value c.in_err-mw-2.field-0.0)
    c.in_err-mw-2.ensures.belongs c.loop-right.invariant c.in_err-mw-2.ensures.stops)
