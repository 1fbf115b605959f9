-- A report tells of its market only the need of reserve and what no edit changes, and the text of a replay has one reading.
use Rattle.std.specs.Prelude.{◌≡◌, ℕ, ℤ, List, [], ◌∷◌}
use Rattle.fraction_theory.specs.Fraction.{Fraction}
use Rattle.market_model.specs.declared.answered.Outcome.{Outcome}
use Rattle.market_model.specs.declared.participants.Parts.{Parts}
use Rattle.market_model.specs.Changes.{with_need}
use Rattle.market_model.specs.Frame.{SameFrame}
use Rattle.market_dict.specs.declared.taking.Taking.{Taking}
use Rattle.edit_table.specs.declared.Step.{Step}
use Rattle.edit_replay.specs.declared.step_outcome.StepOutcome.{StepOutcome}
use Rattle.edit_replay.specs.declared.step_outcome.StepOutcome.TheVariants as reply
use Rattle.edit_replay.specs.Replays.{IsReplay, stepped}
use Rattle.report_text.specs.ReportLaws.{OutcomeFitsReport}
use Rattle.report_text.specs.Reports.{report_text}
use Rattle.replay_text.specs.ReplayTexts.{replayed}

-- markets of one frame have the same reports where they need as much reserve
abbrev pub LawOfReports : Type 0
LawOfReports = (m n : Parts) (need : ℤ) (o : Outcome Fraction) → SameFrame m n → report_text (with_need m need) o ≡ report_text (with_need n need) o

-- ---- outcomes that fit
-- what a clear of the market came to fits its report; nothing is asked of edits, nor that the step was an edit or a clear
abbrev pub StepOutcomeFits : Parts → StepOutcome Fraction → Type 0
StepOutcomeFits m reply.Accepted = Unit {0}
StepOutcomeFits m (reply.Refused f) = Unit {0}
StepOutcomeFits m (reply.Clear o) = OutcomeFitsReport m o

-- one outcome for each step, and each fits the market as the steps before it have edited it
abbrev pub OutcomesFit : Parts → List Step → List (StepOutcome Fraction) → Type 0
OutcomesFit m [] [] = Unit {0}
OutcomesFit m [] (o ∷ outcomes) = ⊥
OutcomesFit m (s ∷ steps) [] = ⊥
OutcomesFit m (s ∷ steps) (o ∷ outcomes) = StepOutcomeFits m o × OutcomesFit (stepped m s) steps outcomes

-- ---- the laws
-- outcomes that fit the same steps of one market, right or not, are the same where they have one text
abbrev pub ReplaysReadApart : Type 0
ReplaysReadApart = (m : Parts) (steps : List Step) (outcomes others : List (StepOutcome Fraction))
    → OutcomesFit m steps outcomes → OutcomesFit m steps others
    → replayed m steps outcomes ≡ replayed m steps others → outcomes ≡ others

-- two replays of the same steps of one market, whatever limits and rooms they begin and end with, came to the same where they have one text
abbrev pub ReplaysApart : Type 0
ReplaysApart = (bound : ℕ) (m : Parts) (before after former latter : List Taking) (steps : List Step) (outcomes others : List (StepOutcome Fraction))
    → IsReplay bound m before steps outcomes after → IsReplay bound m former steps others latter
    → replayed m steps outcomes ≡ replayed m steps others → outcomes ≡ others
