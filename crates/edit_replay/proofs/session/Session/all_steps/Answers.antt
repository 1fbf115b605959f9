use Rattle.std.proofs.Common.{◌<◌, ap, length, arith}
use Rattle.edit_replay.specs.Replays.{step_outcome_at}
use Rattle.edit_replay.proofs.ReplayLemmas.{at_refusal, edited_more, fits_more, keeps_more, part_more, replay_more}
use Rattle.edit_replay.proofs.session.Session.all_steps.Goals as goal

pub returns-in_err-push-clause-memory : goal.returns-in_err-push-clause-memory
returns-in_err-push-clause-memory g c =
    let steps = c.args.steps.now in
    let k = c.loop-step.step-index in
    let items = c.slice-step-items.ensures in
    let within : k < length steps = omega (arith, c.loop-step-test.true, ap length items) in
    at_refusal c.from_residual-in_err-push.result
    (part_more c.args.self.now.market steps c.slice-step-items.result.now k _ items within c.loop-step.self.market c.step.new.self.market c.loop-step.invariant.market c.in_ok-outcome.ensures.market)

pub loop-step-preserved : goal.loop-step-preserved
loop-step-preserved g c =
    let m = c.args.self.now.market in
    let steps = c.args.steps.now in
    let k = c.loop-step.step-index in
    let items = c.slice-step-items.ensures in
    let within : k < length steps = omega (arith, c.loop-step-test.true, ap length items) in
    record {
      replay = replay_more m steps c.slice-step-items.result.now k _ items within (step_outcome_at g.N.Exact.value) g.N.Exact.bound c.args.self.now.kept.taken.takings c.loop-step.self.kept.taken.takings c.step.new.self.kept.taken.takings
          c.loop-step.outcomes c.push.new.self c.in_ok-outcome.outcome c.loop-step.self.market c.loop-step.invariant.market c.loop-step.invariant.replay c.in_ok-outcome.ensures.reply c.in_ok-push.ensures;
      market = edited_more m steps c.slice-step-items.result.now k _ items within c.loop-step.self.market c.step.new.self.market c.loop-step.invariant.market c.in_ok-outcome.ensures.market;
      fits = fits_more m steps k c.loop-step.self.market c.loop-step.outcomes c.push.new.self c.in_ok-outcome.outcome c.loop-step.invariant.market c.loop-step.invariant.fits c.in_ok-outcome.ensures.fits c.in_ok-push.ensures;
      kept = keeps_more c.args.self.now.kept c.loop-step.self.kept c.step.new.self.kept c.loop-step.outcomes c.push.new.self c.in_ok-outcome.outcome c.loop-step.invariant.kept c.in_ok-outcome.ensures.kept c.in_ok-push.ensures;
    }
