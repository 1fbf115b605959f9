use Rattle.std.proofs.Common.{◌≡◌, None, drop, map, option_map}
use Rattle.market_model.specs.Valued.{outcome_at}
use Rattle.edit_replay.specs.Replays.{step_outcome_at}
use Rattle.command_answers.specs.Replaying.{last_clear}
use Rattle.command_answers.proofs.replaying.last_certificate.Given as goal

-- what is left, behind the last clear so far, has the last clear of all
abbrev pub invariant-loop-outcome : goal.invariant-loop-outcome
invariant-loop-outcome g l =
    last_clear (option_map (λ o. outcome_at g.N.Exact.value o.now) l.last) (map (step_outcome_at g.N.Exact.value) (drop l.outcome-index l.outcomes))
    ≡ last_clear None (map (step_outcome_at g.N.Exact.value) l.outcomes)
