use Rattle.std.proofs.Common.{◌≡◌, take, map}
use Rattle.std.specs.List.{All}
use Rattle.market_model.specs.declared.participants.Parts.{Parts}
use Rattle.market_model.specs.Frame.{SameFrame}
use Rattle.edit_replay.specs.Replays.{FitsStep, IsReplay, KeepsSteps, edited_by, step_outcome_at}
use Rattle.edit_replay.proofs.session.Session.all_steps.Given as goal

-- what the steps so far have come to, the market that they have left, and what is kept
abbrev pub invariant-loop-step : goal.invariant-loop-step
invariant-loop-step g l = record {
  replay : IsReplay g.N.Exact.bound l.fn.self.market l.fn.self.kept.taken.takings (take l.step-index l.steps) (map (step_outcome_at g.N.Exact.value) l.outcomes) l.self.kept.taken.takings;
  market : l.self.market ≡ edited_by l.fn.self.market (take l.step-index l.steps);
  fits : (m : Parts) → SameFrame l.fn.self.market m → All (FitsStep m) l.outcomes;
  kept : KeepsSteps l.fn.self.kept l.outcomes l.self.kept;
}
