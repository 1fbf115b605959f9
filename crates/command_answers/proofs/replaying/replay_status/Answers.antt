use Rattle.std.proofs.Common.{◌≡◌, ◌<◌, ◌≤◌, ap, arith, false, get_or, length, rules, subst, true}
use Rattle.command_answers.specs.Replaying.{is_done}
use Rattle.command_answers.proofs.ReplayLemmas.{status_ends, status_goes_on, status_over}
use Rattle.command_answers.proofs.replaying.replay_status.Goals as goal

pub returns-then-not-is_done-clause-status : goal.returns-then-not-is_done-clause-status
returns-then-not-is_done-clause-status g c =
    let slice = c.slice-outcome-items.ensures in
    let k = c.loop-outcome.outcome-index in
    let within : k < length c.args.outcomes.now = omega (arith, c.loop-outcome-test.true, ap length slice) in
    let item = subst (λ os. c.outcome-item.result ≡ get_or os k c.outcome-item.result) slice c.outcome-item.is in
    let undone : is_done c.step_status-status.result ≡ false = search rules in
    status_ends g.N.Exact.value c.args.outcomes.now k c.outcome-item.result within item c.step_status-status.result c.step_status-status.ensures.status undone c.loop-outcome.invariant

pub loop-outcome-preserved : goal.loop-outcome-preserved
loop-outcome-preserved g c =
    let slice = c.slice-outcome-items.ensures in
    let k = c.loop-outcome.outcome-index in
    let within : k < length c.args.outcomes.now = omega (arith, c.loop-outcome-test.true, ap length slice) in
    let item = subst (λ os. c.outcome-item.result ≡ get_or os k c.outcome-item.result) slice c.outcome-item.is in
    let done : is_done c.step_status-status.result ≡ true = search rules in
    status_goes_on g.N.Exact.value c.args.outcomes.now k c.outcome-item.result within item c.step_status-status.result c.step_status-status.ensures.status done c.loop-outcome.invariant

pub returns-clause-status : goal.returns-clause-status
returns-clause-status g c =
    let slice = c.slice-outcome-items.ensures in
    let over : length c.args.outcomes.now ≤ c.loop-outcome.outcome-index = omega (arith, c.loop-outcome-test.false, ap length slice) in
    status_over g.N.Exact.value c.args.outcomes.now c.loop-outcome.outcome-index over c.loop-outcome.invariant
