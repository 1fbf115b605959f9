-- Laws of replays.
use Rattle.std.specs.Prelude.{◌≡◌, ℕ, List, ◌∷◌, ◌++◌, length, map, All, Option, Some, None}
use Rattle.fraction_theory.specs.Fraction.{Fraction}
use Rattle.market_model.specs.declared.answered.Outcome.{Outcome}
use Rattle.market_model.specs.declared.participants.Parts.{Parts}
use Rattle.market_model.specs.Market.{IsMarket}
use Rattle.market_system.specs.Outcomes.{IsClear, IsDecided}
use Rattle.market_system.specs.WorkingPairs.{NoPairPasses}
use Rattle.market_dict.specs.Takings.{limits_of}
use Rattle.market_dict.specs.declared.taking.Taking.{Taking}
use Rattle.clear_loop.specs.Clearing.{TakesAfter}
use Rattle.offer_book.specs.declared.edit_parts.EditFault.{EditFault}
use Rattle.edit_table.specs.EditTable.{IsStep}
use Rattle.edit_table.specs.declared.Step.{Step}
use Rattle.edit_table.specs.declared.Step.TheVariants as step
use Rattle.edit_replay.specs.declared.step_outcome.StepOutcome.{StepOutcome}
use Rattle.edit_replay.specs.declared.step_outcome.StepOutcome.TheVariants as reply
use Rattle.edit_replay.specs.Replays.{IsReplay, edited_by}

-- a clear behind steps that came to these outcomes: it is one of the market as these have edited it, from limits and rooms that they reached,
-- and takes more of both only as its outcome says; and where no working pair over limits reached from these passes the bound, it decides
-- whether anything is feasible
pub record IsClearBehind (bound : ℕ) (m : Parts) (before : List Taking) (done : List Step) (told : List (StepOutcome Fraction)) (o : Outcome Fraction) : Type 0 where
  pub reached : List Taking
  pub replay : IsReplay bound m before done told reached
  pub taken : List Taking
  pub clear : IsClear bound (edited_by m done) (limits_of reached) o (limits_of taken)
  pub takes : TakesAfter (edited_by m done) reached o taken
  pub decided : NoPairPasses (edited_by m done) (limits_of reached) bound → IsDecided (edited_by m done) o

-- each clear of a replay is one behind the steps before it
abbrev pub LawOfClearsInReplays : Type 0
LawOfClearsInReplays = (bound : ℕ) (m : Parts) (before after : List Taking) (done left : List Step) (told later : List (StepOutcome Fraction)) (o : Outcome Fraction)
    → IsMarket m → All IsStep done → length told ≡ length done
    → IsReplay bound m before (done ++ step.Clear ∷ left) (told ++ reply.Clear o ∷ later) after
    → IsClearBehind bound m before done told o

-- what an outcome says of an edit: that it was accepted, or why it was refused; nothing, where it is of a clear
abbrev pub told_of_edit : {N : Type 0} → StepOutcome N → Option (Option EditFault)
told_of_edit reply.Accepted = Some None
told_of_edit (reply.Refused f) = Some (Some f)
told_of_edit (reply.Clear o) = None

-- the same steps of a market come to the same outcomes of edits
abbrev pub LawOfEditsInReplays : Type 0
LawOfEditsInReplays = (bound : ℕ) (m : Parts) (before after former latter : List Taking) (steps : List Step) (outcomes others : List (StepOutcome Fraction))
    → IsReplay bound m before steps outcomes after → IsReplay bound m former steps others latter
    → map told_of_edit outcomes ≡ map told_of_edit others
