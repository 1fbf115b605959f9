use Rattle.std.proofs.Common.{◌≡◌, ◌++◌}
use Rattle.edit_replay.specs.Replays.{step_outcome_at}
use Rattle.replay_text.proofs.StepLines.{lines_until, need_until}
use Rattle.replay_text.proofs.replay.steps_lines.Given as goal

-- the lines of the steps so far, and the need of reserve by now
abbrev pub invariant-loop-place : goal.invariant-loop-place
invariant-loop-place g l = record {
  text : l.text ≡ l.initial.text ++ lines_until (step_outcome_at g.N.Exact.value) l.market l.initial.need l.steps l.outcomes l.place;
  need : l.need ≡ need_until (step_outcome_at g.N.Exact.value) l.market l.initial.need l.steps l.outcomes l.place;
}
