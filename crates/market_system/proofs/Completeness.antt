-- A right outcome decides whether anything is feasible, where no numbers became too large.
use Rattle.std.specs.Prelude.{ℕ, List}
use Rattle.std.proofs.Common.{inl, inr}
use Rattle.fraction_theory.specs.Fraction.{Fraction}
use Rattle.market_model.specs.declared.answered.Outcome.{Outcome}
use Rattle.market_model.specs.declared.limits.Row.{Row}
use Rattle.market_model.specs.declared.participants.Parts.{Parts}
use Rattle.market_model.specs.declared.answered.Outcome.TheVariants as outcome
use Rattle.market_system.specs.Completeness.{LawOfCompleteness, LawOfTheNumbers}
use Rattle.market_model.specs.RightAnswers.{IsRightBy, dispatch_in}
use Rattle.market_system.specs.Outcomes.{IsRightOutcome}
use Rattle.market_system.specs.WorkingPairs.{IsRangeOf}
use Rattle.market_model.proofs.FarkasLaw.{law_of_infeasibility}

pub law_of_completeness : LawOfCompleteness
law_of_completeness m taken bound (outcome.Cleared a) h fits right = record { cleared = λ x f. tt; infeasible = λ none. absurd (none (dispatch_in a) right.0.feasible) }
law_of_completeness m taken bound (outcome.Infeasible f) h fits right = record { cleared = λ x g. absurd (law_of_infeasibility m f.duals x h right.shows g); infeasible = λ none. tt }
law_of_completeness m taken bound (outcome.Range p) h fits right = absurd (fits p right)

pub law_of_the_numbers : LawOfTheNumbers
law_of_the_numbers m taken bound fit p range =
    let pair = range.pair in
    elim pair.large.is_number [
      | inl n ↦ fit range.over pair.one pair.large.number range.reached pair.is_choice n pair.large.too_large
      | inr n ↦ fit range.over pair.near pair.large.number range.reached pair.near_is_choice n pair.large.too_large
    ]

-- what is right of an outcome, whichever of the best dispatches it tells
pub right_by : (bound : ℕ) (m : Parts) (taken : List Row) (o : Outcome Fraction) → IsRightOutcome bound m taken o → IsRightBy (IsRangeOf m taken bound) m o
right_by bound m taken (outcome.Cleared a) right = right.0
right_by bound m taken (outcome.Infeasible f) right = right
right_by bound m taken (outcome.Range p) right = right
