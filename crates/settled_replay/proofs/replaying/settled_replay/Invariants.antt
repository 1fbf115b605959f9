use Rattle.std.proofs.Common.{◌≡◌, take, map}
use Rattle.std.specs.List.{All}
use Rattle.market_model.specs.declared.participants.Parts.{Parts}
use Rattle.market_model.specs.Frame.{SameFrame}
use Rattle.edit_replay.specs.Replays.{FitsStep, KeepsSteps, edited_by, step_outcome_at}
use Rattle.settled_replay.specs.PrintedReplays.{IsPrintedReplay}
use Rattle.settled_replay.specs.Refusals.{TellsRefusals}
use Rattle.settled_replay.proofs.replaying.settled_replay.Given as goal

-- what is printed of the steps so far, the market that they have left, and what is kept
abbrev pub invariant-loop-step : goal.invariant-loop-step
invariant-loop-step g l = record {
  replay : IsPrintedReplay g.N.Exact.bound l.fn.session.market l.fn.session.kept.taken.takings (take l.step-index l.steps) (map (step_outcome_at g.N.Exact.value) l.printed) l.session.kept.taken.takings;
  passed : TellsRefusals g.N.Exact.bound l.fn.session.market (take l.step-index l.steps) (map (step_outcome_at g.N.Exact.value) l.printed) l.is_passed;
  market : l.session.market ≡ edited_by l.fn.session.market (take l.step-index l.steps);
  fits : (m : Parts) → SameFrame l.fn.session.market m → All (FitsStep m) l.printed;
  kept : KeepsSteps l.fn.session.kept l.printed l.session.kept;
}
