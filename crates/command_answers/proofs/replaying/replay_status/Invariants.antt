use Rattle.std.proofs.Common.{◌≡◌, drop, map}
use Rattle.edit_replay.specs.Replays.{step_outcome_at}
use Rattle.command_answers.specs.Replaying.{replay_status}
use Rattle.command_answers.proofs.replaying.replay_status.Given as goal

-- what is left has the status of all
abbrev pub invariant-loop-outcome : goal.invariant-loop-outcome
invariant-loop-outcome g l = replay_status (map (step_outcome_at g.N.Exact.value) (drop l.outcome-index l.outcomes)) ≡ replay_status (map (step_outcome_at g.N.Exact.value) l.outcomes)
