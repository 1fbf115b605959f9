use Rattle.std.proofs.Common.{◌∙◌, map, sym}
use Rattle.std.proofs.lemmas.List.{length-map}
use Rattle.edit_replay.specs.Replays.{step_outcome_at}
use Rattle.edit_replay.proofs.FrameLemmas.{part_frame, steps_frame}
use Rattle.edit_replay.proofs.ReplayLemmas.{replay_count}
use Rattle.edit_replay.proofs.session.Session.replay.Goals as goal

pub returns-in-Ok-clause-count : goal.returns-in-Ok-clause-count
returns-in-Ok-clause-count g c =
    let value = g.N.Exact.value in
    sym (length-map c.in-Ok.outcomes (step_outcome_at value))
    ∙ replay_count g.N.Exact.bound c.args.self.now.market c.args.self.now.kept.taken.takings c.all_steps.new.self.kept.taken.takings c.args.steps.now (map (step_outcome_at value) c.in-Ok.outcomes) c.in-Ok.ensures.replay

pub returns-in-Ok-clause-frame : goal.returns-in-Ok-clause-frame
returns-in-Ok-clause-frame g c = rw c.in-Ok.ensures.market (steps_frame c.args.self.now.market c.args.steps.now)

pub returns-in-Err-clause-frame : goal.returns-in-Err-clause-frame
returns-in-Err-clause-frame g c =
    rw c.forget.ensures (part_frame c.args.self.now.market c.args.steps.now c.all_steps.new.self.market c.in-Err.ensures.memory)
