-- Replays as they are printed: what their steps come to, with each answer settled.
-- Source: own.
use Rattle.std.specs.Prelude.{◌≡◌, ◌⊎◌, ℕ, List, [], ◌∷◌, Some, None}
use Rattle.fraction_theory.specs.Fraction.{Fraction}
use Rattle.market_model.specs.declared.answered.Outcome.{Outcome}
use Rattle.market_model.specs.declared.limits.Row.{Row}
use Rattle.market_model.specs.declared.participants.Parts.{Parts}
use Rattle.market_system.specs.Outcomes.{IsRightOutcome}
use Rattle.market_dict.specs.declared.taking.Taking.{Taking}
use Rattle.offer_book.specs.Edits.{judge}
use Rattle.edit_table.specs.declared.Step.{Step}
use Rattle.edit_table.specs.declared.Step.TheVariants as step
use Rattle.edit_replay.specs.declared.step_outcome.StepOutcome.{StepOutcome}
use Rattle.edit_replay.specs.declared.step_outcome.StepOutcome.TheVariants as reply
use Rattle.edit_replay.specs.Replays.{IsReplay, IsReply, stepped}
use Rattle.settled_answer.specs.Settled.{HasFirstPrices, IsSettledOutcome, KeepsOutcome}

-- p is what is printed of the outcome o of a clear of the market: it is as right as o, whatever was taken before; where o is an answer it is
-- one, with the same dispatch and welfare, and else the same; it is settled; and an answer without first prices is o's own
pub record PrintsClear (bound : ℕ) (m : Parts) (o p : Outcome Fraction) : Type 0 where
  pub right : (b : ℕ) (taken : List Row) → IsRightOutcome b m taken o → IsRightOutcome b m taken p
  pub dispatch : KeepsOutcome o p
  pub settled : IsSettledOutcome bound m p
  pub own : HasFirstPrices m p ⊎ (p ≡ o)

-- what is printed of a step of the market that comes to the first of two: of an edit the same, of a clear its outcome settled
abbrev pub IsPrinted : ℕ → Parts → StepOutcome Fraction → StepOutcome Fraction → Type 0
IsPrinted bound m reply.Accepted reply.Accepted = Unit {0}
IsPrinted bound m reply.Accepted (reply.Refused g) = ⊥
IsPrinted bound m reply.Accepted (reply.Clear p) = ⊥
IsPrinted bound m (reply.Refused f) reply.Accepted = ⊥
IsPrinted bound m (reply.Refused f) (reply.Refused g) = f ≡ g
IsPrinted bound m (reply.Refused f) (reply.Clear p) = ⊥
IsPrinted bound m (reply.Clear o) reply.Accepted = ⊥
IsPrinted bound m (reply.Clear o) (reply.Refused g) = ⊥
IsPrinted bound m (reply.Clear o) (reply.Clear p) = PrintsClear bound m o p

-- what is printed of steps, one for each: each is of the market as the steps before it have edited it
abbrev pub ArePrinted : ℕ → Parts → List Step → List (StepOutcome Fraction) → List (StepOutcome Fraction) → Type 0
ArePrinted bound m [] [] [] = Unit {0}
ArePrinted bound m [] [] (p ∷ printed) = ⊥
ArePrinted bound m [] (o ∷ inner) printed = ⊥
ArePrinted bound m (s ∷ steps) [] printed = ⊥
ArePrinted bound m (s ∷ steps) (o ∷ inner) [] = ⊥
ArePrinted bound m (s ∷ steps) (o ∷ inner) (p ∷ printed) = IsPrinted bound m o p × ArePrinted bound (stepped m s) steps inner printed

-- with these limits and rooms taken before and those after, a step of the market comes to what this is printed of
abbrev pub IsPrintedReply : ℕ → Parts → List Taking → Step → StepOutcome Fraction → List Taking → Type 0
IsPrintedReply bound m before s p after = (o : StepOutcome Fraction) × IsReply bound m before s o after × IsPrinted bound m o p

-- steps of the market that begins with these limits and rooms taken come to what these are printed of, and end with those
abbrev pub IsPrintedReplay : ℕ → Parts → List Taking → List Step → List (StepOutcome Fraction) → List Taking → Type 0
IsPrintedReplay bound m before steps printed after =
    (inner : List (StepOutcome Fraction)) × IsReplay bound m before steps inner after × ArePrinted bound m steps inner printed

-- ---- step by step
-- what is printed of a step of the market is right: an edit is accepted or refused as it is judged, and a clear comes to an outcome that is right,
-- whatever was taken before it, and settled
abbrev pub IsRightReply : ℕ → Parts → Step → StepOutcome Fraction → Type 0
IsRightReply bound m (step.Edit e) reply.Accepted = judge m e ≡ None
IsRightReply bound m (step.Edit e) (reply.Refused f) = judge m e ≡ Some f
IsRightReply bound m (step.Edit e) (reply.Clear p) = ⊥
IsRightReply bound m step.Clear reply.Accepted = ⊥
IsRightReply bound m step.Clear (reply.Refused f) = ⊥
IsRightReply bound m step.Clear (reply.Clear p) = ((taken : List Row) × IsRightOutcome bound m taken p) × IsSettledOutcome bound m p

-- and so it is of each step, of the market as the steps before it have edited it
abbrev pub AreRightReplies : ℕ → Parts → List Step → List (StepOutcome Fraction) → Type 0
AreRightReplies bound m [] [] = Unit {0}
AreRightReplies bound m [] (p ∷ printed) = ⊥
AreRightReplies bound m (s ∷ steps) [] = ⊥
AreRightReplies bound m (s ∷ steps) (p ∷ printed) = IsRightReply bound m s p × AreRightReplies bound (stepped m s) steps printed
