-- Laws of printed replays.
use Rattle.std.specs.Prelude.{◌≡◌, ℕ, List, ◌∷◌, ◌++◌, length, All}
use Rattle.fraction_theory.specs.Fraction.{Fraction}
use Rattle.market_model.specs.declared.answered.Answer.{Answer}
use Rattle.market_model.specs.declared.answered.Outcome.{Outcome}
use Rattle.market_model.specs.declared.answered.Outcome.TheVariants as outcome
use Rattle.market_model.specs.declared.limits.Row.{Row}
use Rattle.market_model.specs.declared.participants.Parts.{Parts}
use Rattle.market_model.specs.Market.{IsMarket}
use Rattle.market_model.specs.RightAnswers.{dispatch_in}
use Rattle.market_system.specs.Outcomes.{IsDecided, IsRightOutcome}
use Rattle.market_system.specs.WorkingPairs.{NoPairPasses}
use Rattle.market_dict.specs.Takings.{limits_of}
use Rattle.market_dict.specs.declared.taking.Taking.{Taking}
use Rattle.one_price.specs.FirstPrices.{AreFirstDuals}
use Rattle.edit_table.specs.EditTable.{IsStep}
use Rattle.edit_table.specs.declared.Step.{Step}
use Rattle.edit_table.specs.declared.Step.TheVariants as step
use Rattle.edit_replay.specs.declared.step_outcome.StepOutcome.{StepOutcome}
use Rattle.edit_replay.specs.declared.step_outcome.StepOutcome.TheVariants as reply
use Rattle.edit_replay.specs.ReplayLaws.{IsClearBehind}
use Rattle.edit_replay.specs.Replays.{edited_by}
use Rattle.settled_replay.specs.PrintedReplays.{AreRightReplies, ArePrinted, IsPrintedReplay, PrintsClear}

-- a clear behind steps of which these were printed: p is printed of an outcome of the market as these have edited it, from limits and rooms that
-- they reached; so it is right for that market, and where no working pair over limits reached from these passes the bound, it decides whether
-- anything is feasible
pub record IsPrintedBehind (bound : ℕ) (m : Parts) (before : List Taking) (done : List Step) (told : List (StepOutcome Fraction)) (p : Outcome Fraction) : Type 0 where
  pub inner : List (StepOutcome Fraction)
  pub printed : ArePrinted bound m done inner told
  pub cleared : Outcome Fraction
  pub behind : IsClearBehind bound m before done inner cleared
  pub prints : PrintsClear bound (edited_by m done) cleared p
  pub right : IsRightOutcome bound (edited_by m done) (limits_of behind.reached) p
  pub decided : NoPairPasses (edited_by m done) (limits_of behind.reached) bound → IsDecided (edited_by m done) p

-- each clear of a printed replay is one behind the steps before it
abbrev pub LawOfPrintedClears : Type 0
LawOfPrintedClears = (bound : ℕ) (m : Parts) (before after : List Taking) (done left : List Step) (told later : List (StepOutcome Fraction)) (p : Outcome Fraction)
    → IsMarket m → All IsStep done → length told ≡ length done
    → IsPrintedReplay bound m before (done ++ step.Clear ∷ left) (told ++ reply.Clear p ∷ later) after
    → IsPrintedBehind bound m before done told p

-- what is printed of a replay is right step by step
abbrev pub LawOfRightReplies : Type 0
LawOfRightReplies = (bound : ℕ) (m : Parts) (before after : List Taking) (steps : List Step) (printed : List (StepOutcome Fraction))
    → IsPrintedReplay bound m before steps printed after → AreRightReplies bound m steps printed

-- answers that are right for one market, each the first of the best, and that have first prices are the same, whatever was taken before them
abbrev pub LawOfOneReport : Type 0
LawOfOneReport = (m : Parts) (bound other : ℕ) (taken too : List Row) (a b : Answer Fraction)
    → IsMarket m → IsRightOutcome bound m taken (outcome.Cleared a) → IsRightOutcome other m too (outcome.Cleared b)
    → AreFirstDuals m (dispatch_in a) a.duals → AreFirstDuals m (dispatch_in b) b.duals → a ≡ b
