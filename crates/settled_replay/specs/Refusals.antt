-- Whether settling was refused at some clear of a printed replay.
-- Source: own.
use Rattle.std.specs.Prelude.{◌⊎◌, ℕ, Bool, true, false, List, [], ◌∷◌}
use Rattle.fraction_theory.specs.Fraction.{Fraction}
use Rattle.exact_fraction.specs.declared.Passed.{Passed}
use Rattle.market_model.specs.declared.participants.Parts.{Parts}
use Rattle.edit_table.specs.declared.Step.{Step}
use Rattle.edit_replay.specs.declared.step_outcome.StepOutcome.{StepOutcome}
use Rattle.edit_replay.specs.declared.step_outcome.StepOutcome.TheVariants as reply
use Rattle.edit_replay.specs.Replays.{stepped}
use Rattle.settled_answer.specs.Settled.{HasFirstPrices, IsOutcomeRefusal}

-- an answer that is printed of a clear of the market has the first prices of its dispatch
abbrev pub IsFirst : Parts → StepOutcome Fraction → Type 0
IsFirst m reply.Accepted = Unit {0}
IsFirst m (reply.Refused f) = Unit {0}
IsFirst m (reply.Clear p) = HasFirstPrices m p

-- an answer is printed of a clear of the market, and an operation was refused on the way from it to the settled one
abbrev pub IsRefused : ℕ → Parts → StepOutcome Fraction → Type 0
IsRefused bound m reply.Accepted = ⊥
IsRefused bound m (reply.Refused f) = ⊥
IsRefused bound m (reply.Clear p) = (passed : Passed Fraction) × IsOutcomeRefusal bound m p passed

-- each answer that is printed of steps has first prices, for the market as the steps before it have edited it
abbrev pub AllFirst : Parts → List Step → List (StepOutcome Fraction) → Type 0
AllFirst m [] [] = Unit {0}
AllFirst m [] (p ∷ printed) = ⊥
AllFirst m (s ∷ steps) [] = ⊥
AllFirst m (s ∷ steps) (p ∷ printed) = IsFirst m p × AllFirst (stepped m s) steps printed

-- settling one of them was refused
abbrev pub SomeRefused : ℕ → Parts → List Step → List (StepOutcome Fraction) → Type 0
SomeRefused bound m [] printed = ⊥
SomeRefused bound m (s ∷ steps) [] = ⊥
SomeRefused bound m (s ∷ steps) (p ∷ printed) = IsRefused bound m p ⊎ SomeRefused bound (stepped m s) steps printed

-- it is told of what is printed of a step whether settling was refused
abbrev pub TellsRefusal : ℕ → Parts → StepOutcome Fraction → Bool → Type 0
TellsRefusal bound m p false = IsFirst m p
TellsRefusal bound m p true = IsRefused bound m p

-- and of what is printed of steps, whether it was at some clear
abbrev pub TellsRefusals : ℕ → Parts → List Step → List (StepOutcome Fraction) → Bool → Type 0
TellsRefusals bound m steps printed false = AllFirst m steps printed
TellsRefusals bound m steps printed true = SomeRefused bound m steps printed
