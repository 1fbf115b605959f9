use Rattle.std.proofs.Common.{◌≡◌, ◌<◌, ◌≤◌, ◌||◌, ◌∙◌, ap, length, arith, map, rules, sym, take}
use Rattle.std.proofs.lemmas.List.{length-map}
use Rattle.edit_replay.specs.Replays.{step_outcome_at}
use Rattle.edit_replay.proofs.FrameLemmas.{stepped_frame}
use Rattle.edit_replay.proofs.ReplayLemmas.{at_refusal, edited_more, fits_more, keeps_more, part_more}
use Rattle.settled_replay.proofs.PrintLemmas.{count_of_all, frame_so_far, part_so_far, printed_count, printed_more}
use Rattle.settled_replay.proofs.RefusalLemmas.{tells_all, tells_more}
use Rattle.settled_replay.proofs.replaying.settled_replay.Goals as goal

-- where a step got no memory
pub returns-in_err-settled-clause-memory : goal.returns-in_err-settled-clause-memory
returns-in_err-settled-clause-memory g c =
    let within : c.loop-step.step-index < length c.args.steps.now = omega (arith, c.loop-step-test.true, ap length c.slice-step-items.ensures) in
    at_refusal c.from_residual.result
    (part_so_far c.args.session.now.market c.args.steps.now c.loop-step.step-index c.loop-step.session.market c.step_outcome.new.session.market within c.loop-step.invariant.market c.in_err-settled.ensures.memory)

pub returns-in_err-settled-clause-frame : goal.returns-in_err-settled-clause-frame
returns-in_err-settled-clause-frame g c =
    rw c.in_err-settled.ensures.memory (frame_so_far c.args.session.now.market c.args.steps.now c.loop-step.step-index c.loop-step.session.market c.loop-step.invariant.market)

-- where its outcome got no place
pub returns-in_err-push-clause-memory : goal.returns-in_err-push-clause-memory
returns-in_err-push-clause-memory g c =
    let steps = c.args.steps.now in
    let k = c.loop-step.step-index in
    let items = c.slice-step-items.ensures in
    let within : k < length steps = omega (arith, c.loop-step-test.true, ap length items) in
    at_refusal c.from_residual-in_err-push.result
    (part_more c.args.session.now.market steps c.slice-step-items.result.now k _ items within c.loop-step.session.market c.step_outcome.new.session.market c.loop-step.invariant.market c.in_ok-settled.ensures.market)

pub returns-in_err-push-clause-frame : goal.returns-in_err-push-clause-frame
returns-in_err-push-clause-frame g c =
    let n = c.loop-step.session.market in
    rw c.in_ok-settled.ensures.market
    (frame_so_far c.args.session.now.market c.args.steps.now c.loop-step.step-index n c.loop-step.invariant.market ∙ stepped_frame n _)

-- a step more
pub loop-step-preserved : goal.loop-step-preserved
loop-step-preserved g c =
    let m = c.args.session.now.market in
    let steps = c.args.steps.now in
    let k = c.loop-step.step-index in
    let n = c.loop-step.session.market in
    let items = c.slice-step-items.ensures in
    let within : k < length steps = omega (arith, c.loop-step-test.true, ap length items) in
    let told = step_outcome_at g.N.Exact.value in
    let either : c.if-is_passed.is_passed ≡ (c.loop-step.is_passed || c.in_ok-settled.settled.is_passed) = search rules in
    record {
      replay = printed_more m steps c.slice-step-items.result.now k _ items within g.N.Exact.bound c.args.session.now.kept.taken.takings c.loop-step.session.kept.taken.takings c.step_outcome.new.session.kept.taken.takings
          n c.loop-step.invariant.market told c.loop-step.printed c.push.new.self c.in_ok-settled.settled.outcome c.loop-step.invariant.replay c.in_ok-settled.ensures.reply c.in_ok-push.ensures;
      passed = rw either
          (tells_more g.N.Exact.bound m steps k within n c.loop-step.invariant.market told c.loop-step.printed c.push.new.self c.in_ok-settled.settled.outcome c.loop-step.is_passed c.in_ok-settled.settled.is_passed
          (printed_count g.N.Exact.bound m (take k steps) c.loop-step.invariant.replay.0 (map told c.loop-step.printed) c.loop-step.invariant.replay.2)
          c.loop-step.invariant.passed c.in_ok-settled.ensures.passed c.in_ok-push.ensures);
      market = edited_more m steps c.slice-step-items.result.now k _ items within n c.step_outcome.new.session.market c.loop-step.invariant.market c.in_ok-settled.ensures.market;
      fits = fits_more m steps k n c.loop-step.printed c.push.new.self c.in_ok-settled.settled.outcome c.loop-step.invariant.market c.loop-step.invariant.fits c.in_ok-settled.ensures.fits c.in_ok-push.ensures;
      kept = keeps_more c.args.session.now.kept c.loop-step.session.kept c.step_outcome.new.session.kept c.loop-step.printed c.push.new.self c.in_ok-settled.settled.outcome c.loop-step.invariant.kept c.in_ok-settled.ensures.kept c.in_ok-push.ensures;
    }

-- all of them
pub returns-clause-count : goal.returns-clause-count
returns-clause-count g c =
    let told = step_outcome_at g.N.Exact.value in
    let steps = c.args.steps.now in
    let k = c.loop-step.step-index in
    let past : length steps ≤ k = omega (arith, c.loop-step-test.false, ap length c.slice-step-items.ensures) in
    sym (length-map c.loop-step.printed told)
    ∙ count_of_all g.N.Exact.bound c.args.session.now.market c.args.session.now.kept.taken.takings c.loop-step.session.kept.taken.takings steps (map told c.loop-step.printed) k past c.loop-step.invariant.replay

pub returns-clause-passed : goal.returns-clause-passed
returns-clause-passed g c =
    let steps = c.args.steps.now in
    let k = c.loop-step.step-index in
    let past : length steps ≤ k = omega (arith, c.loop-step-test.false, ap length c.slice-step-items.ensures) in
    tells_all g.N.Exact.bound c.args.session.now.market steps (map (step_outcome_at g.N.Exact.value) c.loop-step.printed) c.loop-step.is_passed k past c.loop-step.invariant.passed

pub returns-clause-frame : goal.returns-clause-frame
returns-clause-frame g c = frame_so_far c.args.session.now.market c.args.steps.now c.loop-step.step-index c.loop-step.session.market c.loop-step.invariant.market
