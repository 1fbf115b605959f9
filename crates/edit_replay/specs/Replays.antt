-- Replays: steps done one after another, and what they come to.
-- Source: own.
use Rattle.std.specs.Prelude.{◌≡◌, ℕ, ◌≤◌, List, [], ◌∷◌, length, take, fold, Some, None, Result, Ok, Err}
use Rattle.fraction_theory.specs.Fraction.{Fraction}
use Rattle.market_model.specs.declared.participants.Parts.{Parts}
use Rattle.market_model.specs.Fitting.{FitsOutcome}
use Rattle.market_model.specs.Valued.{outcome_at}
use Rattle.market_system.specs.Outcomes.{IsClear}
use Rattle.market_dict.specs.Takings.{limits_of}
use Rattle.market_dict.specs.declared.taking.Taking.{Taking}
use Rattle.clear_loop.specs.Clearing.{KeepsAfter, TakesAfter}
use Rattle.clear_loop.specs.Keeping.{Kept}
use Rattle.offer_book.specs.Edits.{judge, step_of}
use Rattle.offer_book.specs.declared.edit_parts.EditFault.{EditFault}
use Rattle.edit_table.specs.declared.Step.{Step}
use Rattle.edit_table.specs.declared.Step.TheVariants as step
use Rattle.edit_replay.specs.declared.step_outcome.StepOutcome.{StepOutcome}
use Rattle.edit_replay.specs.declared.step_outcome.StepOutcome.TheVariants as reply

-- ---- the market
-- the market after a step: an edit that is accepted changes one number; a refused edit and a clear change nothing
abbrev pub stepped : Parts → Step → Parts
stepped m (step.Edit e) = step_of m e
stepped m step.Clear = m

-- the market after steps, one after another
abbrev pub edited_by : Parts → List Step → Parts
edited_by m steps = fold stepped m steps

-- a market after so many of the steps, the first of them
pub record IsEditedPart (m : Parts) (steps : List Step) (n : Parts) : Type 0 where
  pub count : ℕ
  pub few : count ≤ length steps
  pub market : n ≡ edited_by m (take count steps)

-- ---- what steps come to
-- an outcome with each number as the fraction that it stands for
abbrev pub step_outcome_at : {N : Type 0} → (N → Fraction) → StepOutcome N → StepOutcome Fraction
step_outcome_at value reply.Accepted = reply.Accepted
step_outcome_at value (reply.Refused f) = reply.Refused f
step_outcome_at value (reply.Clear o) = reply.Clear (outcome_at value o)

-- what an edit comes to, by its answer
abbrev pub reply_of : {N : Type 0} → Result (Unit {0}) EditFault → StepOutcome N
reply_of (Ok u) = reply.Accepted
reply_of (Err f) = reply.Refused f

-- With these limits and rooms taken before and those after, a step of the market comes to this outcome: an edit is accepted or refused as it is
-- judged, and what is taken stays; a clear of the market begins with the limits before and ends with those after, and takes limits and rooms as
-- its outcome says. No other pair of a step and an outcome is one.
abbrev pub IsReply : ℕ → Parts → List Taking → Step → StepOutcome Fraction → List Taking → Type 0
IsReply bound m before (step.Edit e) reply.Accepted after = (judge m e ≡ None) × (after ≡ before)
IsReply bound m before (step.Edit e) (reply.Refused f) after = (judge m e ≡ Some f) × (after ≡ before)
IsReply bound m before (step.Edit e) (reply.Clear o) after = ⊥
IsReply bound m before step.Clear reply.Accepted after = ⊥
IsReply bound m before step.Clear (reply.Refused f) after = ⊥
IsReply bound m before step.Clear (reply.Clear o) after = IsClear bound m (limits_of before) o (limits_of after) × TakesAfter m before o after

-- steps of the market that begins with these limits and rooms taken come to these outcomes, one for each, and end with those: each step is of
-- the market as the steps before it have edited it, and begins with what is taken where the one before it ends
abbrev pub IsReplay : ℕ → Parts → List Taking → List Step → List (StepOutcome Fraction) → List Taking → Type 0
IsReplay bound m before [] [] after = after ≡ before
IsReplay bound m before [] (o ∷ outcomes) after = ⊥
IsReplay bound m before (s ∷ steps) [] after = ⊥
IsReplay bound m before (s ∷ steps) (o ∷ outcomes) after = (between : List Taking) × IsReply bound m before s o between × IsReplay bound (stepped m s) between steps outcomes after

-- an edit leaves what is kept as it is; after a clear a dictionary is kept, or nothing where numbers became too large
abbrev pub KeepsStep : {N : Type 0} → Kept → StepOutcome N → Kept → Type 0
KeepsStep before reply.Accepted after = after ≡ before
KeepsStep before (reply.Refused f) after = after ≡ before
KeepsStep before (reply.Clear o) after = KeepsAfter o after

-- what is kept from one step to the next, where they came to these outcomes
abbrev pub KeepsSteps : {N : Type 0} → Kept → List (StepOutcome N) → Kept → Type 0
KeepsSteps before [] after = after ≡ before
KeepsSteps before (o ∷ outcomes) after = (between : Kept) × KeepsStep before o between × KeepsSteps between outcomes after

-- an answer has an entry for each part of the market
abbrev pub FitsStep : {N : Type 0} → Parts → StepOutcome N → Type 0
FitsStep m reply.Accepted = Unit {0}
FitsStep m (reply.Refused f) = Unit {0}
FitsStep m (reply.Clear o) = FitsOutcome m o
