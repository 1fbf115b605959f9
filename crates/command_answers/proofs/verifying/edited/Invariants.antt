use Rattle.std.proofs.Common.{◌≡◌, drop}
use Rattle.edit_replay.specs.Replays.{edited_by}
use Rattle.command_answers.proofs.verifying.edited.Given as goal

-- what is left leads to the market that all steps lead to
abbrev pub invariant-loop-step : goal.invariant-loop-step
invariant-loop-step l = edited_by l.market (drop l.step-index l.steps) ≡ edited_by l.initial.market l.steps
