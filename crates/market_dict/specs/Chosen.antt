-- Answers of choices: those that a clear may end with.
-- Source: basic solutions (Chvátal, Linear Programming).
use Rattle.std.specs.Prelude.{List}
use Rattle.fraction_theory.specs.Fraction.{Fraction}
use Rattle.market_model.specs.declared.answered.Answer.{Answer}
use Rattle.market_model.specs.declared.answered.Outcome.{Outcome}
use Rattle.market_model.specs.declared.answered.Outcome.TheVariants as outcome
use Rattle.market_model.specs.declared.participants.Parts.{Parts}
use Rattle.market_model.specs.RightAnswers.{dispatch_in}
use Rattle.market_dict.specs.Findings.{IsSolvedBy}
use Rattle.market_dict.specs.Takings.{AreTakings}
use Rattle.market_dict.specs.declared.taking.Taking.{Taking}

-- the dispatch and the duals of an answer are those of a choice of basic variables that solves the market over some of its limits and rooms: of such
-- answers a market has no more than it has choices
pub record IsChosen (m : Parts) (a : Answer Fraction) : Type 0 where
  pub takings : List Taking
  pub are : AreTakings m takings
  pub solved : IsSolvedBy m takings (dispatch_in a) a.duals

-- so is an answer in an outcome
abbrev pub IsChosenOutcome : Parts → Outcome Fraction → Type 0
IsChosenOutcome m (outcome.Cleared a) = IsChosen m a
IsChosenOutcome m (outcome.Infeasible f) = Unit {0}
IsChosenOutcome m (outcome.Range p) = Unit {0}
