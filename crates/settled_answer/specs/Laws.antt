-- Laws of settled answers.
use Rattle.std.specs.Prelude.{◌≡◌, ℕ, List}
use Rattle.fraction_theory.specs.Fraction.{Fraction}
use Rattle.exact_fraction.specs.declared.Passed.{Passed}
use Rattle.market_model.specs.declared.answered.Answer.{Answer}
use Rattle.market_model.specs.declared.answered.Outcome.{Outcome}
use Rattle.market_model.specs.declared.limits.Row.{Row}
use Rattle.market_model.specs.declared.participants.Parts.{Parts}
use Rattle.market_model.specs.Market.{IsMarket}
use Rattle.market_model.specs.RightAnswers.{IsRight, dispatch_in}
use Rattle.market_system.specs.Outcomes.{IsRightOutcome}
use Rattle.one_price.specs.FirstPrices.{AreFirstDuals}
use Rattle.settled_answer.specs.PriceNumbers.{AllPriceNumbersFit, OutcomeNumbersFit, PriceNumbersFit}
use Rattle.settled_answer.specs.Settled.{HasFirstPrices, IsSettledOutcome, IsSettlingRefusal, NoPricePasses}

-- right answers with the same dispatch and its first prices are the same
abbrev pub LawOfOneSet : Type 0
LawOfOneSet = (m : Parts) (a b : Answer Fraction) → IsMarket m → IsRight m a → IsRight m b → dispatch_in a ≡ dispatch_in b
    → AreFirstDuals m (dispatch_in a) a.duals → AreFirstDuals m (dispatch_in b) b.duals → a ≡ b

-- where no operation passes on the way to first prices, whichever choice a clear ends with, a right outcome that is settled has them
abbrev pub LawOfFirstPrices : Type 0
LawOfFirstPrices = (bound : ℕ) (m : Parts) (o : Outcome Fraction) (taken : List Row) (b : ℕ) → IsRightOutcome b m taken o → IsSettledOutcome bound m o → NoPricePasses m bound → HasFirstPrices m o

-- where no number on the way from an answer to the settled one is too large, no operation is refused on it
abbrev pub LawOfPriceNumbers : Type 0
LawOfPriceNumbers = (m : Parts) (a : Answer Fraction) (bound : ℕ) (p : Passed Fraction) → PriceNumbersFit m a bound → ¬ (IsSettlingRefusal bound m a p)

-- so an outcome that is settled has the first prices where none on the way from its own answer is
abbrev pub LawOfFittingPrices : Type 0
LawOfFittingPrices = (bound : ℕ) (m : Parts) (o : Outcome Fraction) → IsSettledOutcome bound m o → OutcomeNumbersFit m o bound → HasFirstPrices m o

-- and where none is, whichever choice a clear ends with, none passes
abbrev pub LawOfAllPriceNumbers : Type 0
LawOfAllPriceNumbers = (m : Parts) (bound : ℕ) → AllPriceNumbersFit m bound → NoPricePasses m bound
