-- What replaying edits and clears of a market comes to.
use Rattle.std.specs.Prelude.{◌≡◌, ℕ, Bool, true, false, if◌then◌else◌, List, [], ◌∷◌, All, Option, Some, None, IfSome, option_and_then, slice_get, take}
use Rattle.fraction_theory.specs.Fraction.{Fraction}
use Rattle.market_model.specs.declared.participants.Parts.{Parts}
use Rattle.market_model.specs.declared.answered.Outcome.{Outcome}
use Rattle.market_model.specs.declared.answered.Outcome.TheVariants as outcome
use Rattle.market_model.specs.declared.limits.Row.{Row}
use Rattle.market_model.specs.Market.{IsMarket}
use Rattle.market_system.specs.Growth.{Growth}
use Rattle.market_system.specs.Outcomes.{IsDecided}
use Rattle.market_system.specs.WorkingPairs.{NoPairPasses}
use Rattle.market_dict.specs.declared.taking.Taking.{Taking}
use Rattle.cert_format.specs.Certificates.{NumbersFit, cert_of_outcome}
use Rattle.cert_format.specs.Written.{certificate_of}
use Rattle.offer_book.specs.Edits.{step_of}
use Rattle.edit_table.specs.declared.Step.{Step}
use Rattle.edit_table.specs.declared.Step.TheVariants as edit
use Rattle.edit_replay.specs.declared.step_outcome.StepOutcome.{StepOutcome}
use Rattle.edit_replay.specs.declared.step_outcome.StepOutcome.TheVariants as step
use Rattle.edit_replay.specs.Replays.{edited_by}
use Rattle.settled_replay.specs.PrintedReplays.{IsPrintedReplay}
use Rattle.replay_text.specs.ReplayTexts.{replayed}
use Rattle.command_answers.specs.declared.status.Status.{Status}
use Rattle.command_answers.specs.declared.status.Status.TheVariants as status
use Rattle.command_answers.specs.Bounds.{IsOutcomeWithin}
use Rattle.command_answers.specs.Clearing.{status_of}
use Rattle.command_answers.specs.Inputs.{MarketSteps}
use Rattle.command_answers.specs.Tellings.{Telling, certified}

-- the status of one step's outcome
abbrev pub step_status : StepOutcome Fraction → Status
step_status step.Accepted = status.Done
step_status (step.Refused f) = status.Refused
step_status (step.Clear o) = status_of o

abbrev pub is_done : Status → Bool
is_done status.Done = true
is_done status.Usage = false
is_done status.Refused = false
is_done status.Infeasible = false
is_done status.Range = false
is_done status.ReadFailed = false
is_done status.WriteFailed = false
is_done status.Memory = false
is_done status.Refuted = false

-- the status of the first step that was neither accepted nor cleared
unfoldable pub replay_status : List (StepOutcome Fraction) → Status
replay_status [] = status.Done
replay_status (o ∷ os) = if is_done (step_status o) then replay_status os else step_status o

-- a clear's outcome, or that of one before it
abbrev pub clear_or : Option (Outcome Fraction) → StepOutcome Fraction → Option (Outcome Fraction)
clear_or before step.Accepted = before
clear_or before (step.Refused f) = before
clear_or before (step.Clear o) = Some o

-- what the last clear came to
unfoldable pub last_clear : Option (Outcome Fraction) → List (StepOutcome Fraction) → Option (Outcome Fraction)
last_clear before [] = before
last_clear before (o ∷ os) = last_clear (clear_or before o) os

-- each number of a clear's outcome is within the bound
abbrev pub IsStepWithin : ℕ → StepOutcome Fraction → Type 0
IsStepWithin bound step.Accepted = Unit {0}
IsStepWithin bound (step.Refused f) = Unit {0}
IsStepWithin bound (step.Clear o) = IsOutcomeWithin bound o

-- a step that is no clear which ended with numbers that became too large
abbrev pub IsNoRange : StepOutcome Fraction → Type 0
IsNoRange step.Accepted = Unit {0}
IsNoRange (step.Refused f) = Unit {0}
IsNoRange (step.Clear (outcome.Cleared a)) = Unit {0}
IsNoRange (step.Clear (outcome.Infeasible f)) = Unit {0}
IsNoRange (step.Clear (outcome.Range p)) = ⊥

-- With these limits taken before, no working pair passes the bound at any clear of the steps: none of the market as it is edited by then,
-- over limits that are reached from those that the clear before can have left.
abbrev pub NoPairPassesIn : Parts → List Row → List Step → ℕ → Type 0
NoPairPassesIn m before [] bound = Unit {0}
NoPairPassesIn m before (edit.Edit e ∷ steps) bound = NoPairPassesIn (step_of m e) before steps bound
NoPairPassesIn m before (edit.Clear ∷ steps) bound = NoPairPasses m before bound × ((after : List Row) → Growth m before after → NoPairPassesIn m after steps bound)

-- each clear says whether a dispatch of the market, as the steps before it edit it, is feasible
abbrev pub AreDecided : Parts → List Step → List (StepOutcome Fraction) → Type 0
AreDecided m steps outcomes = (k : ℕ) (o : Outcome Fraction) → slice_get outcomes k ≡ Some (step.Clear o) → IsDecided (edited_by m (take k steps)) o

-- what is told is the text of these outcomes of steps with the status of a replay, and the certificate of the last clear, whose numbers are within their bounds
pub record TellsSteps (bound : ℕ) (m : Parts) (steps : List Step) (outcomes : List (StepOutcome Fraction)) (t : Telling) : Type 0 where
  pub status_is : t.status ≡ replay_status outcomes
  pub text_is : t.text ≡ replayed m steps outcomes
  pub certificate_is : t.outputs ≡ certified (option_and_then (certificate_of m.factor_places m.reserve.listed) (last_clear None outcomes))
  pub certificate_fits : IfSome (option_and_then (cert_of_outcome m.factor_places m.reserve.listed) (last_clear None outcomes)) (NumbersFit bound)

-- What is told is that of right outcomes, one for each step: those of edits as the market stands then, and those of clears of the market
-- as it is edited by then, with no limits and no rooms taken before the first; each of these is a market. What a clear comes to is told as it is
-- to be printed: an answer has the first prices of its dispatch, or a number passed the bound on the way to these. Each number of a clear's outcome is
-- within the bound, and each clear is decided, where no working pair passes the bound at any. The certificate is that of the last clear, and
-- its numbers are within their bounds.
pub record ReplaysTo (bound : ℕ) (m : Parts) (steps : List Step) (t : Telling) : Type 0 where
  pub outcomes : List (StepOutcome Fraction)
  pub taken : List Taking
  pub right : IsPrintedReplay bound m [] steps outcomes taken
  pub within : All (IsStepWithin bound) outcomes
  pub markets : (k : ℕ) → IsMarket (edited_by m (take k steps))
  pub decided : NoPairPassesIn m [] steps bound → AreDecided m steps outcomes
  pub told : TellsSteps bound m steps outcomes t

-- the same of a market, which keeps what every market keeps
abbrev pub TellsReplay : ℕ → MarketSteps → Telling → Type 0
TellsReplay bound r t = IsMarket r.market × ReplaysTo bound r.market r.steps t
