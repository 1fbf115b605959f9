use Rattle.std.proofs.Common.{All, take}
use Rattle.edit_replay.specs.Replays.{step_outcome_at}
use Rattle.command_answers.specs.Replaying.{IsNoRange}
use Rattle.command_answers.proofs.replaying.is_any_passed.Given as goal

-- no step so far
abbrev pub invariant-loop-outcome : goal.invariant-loop-outcome
invariant-loop-outcome g l = All (λ o. IsNoRange (step_outcome_at g.N.Exact.value o)) (take l.outcome-index l.outcomes)
