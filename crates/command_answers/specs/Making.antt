-- What making a ring and clearing it comes to.
use Rattle.std.specs.Prelude.{◌≡◌, ℕ, List, [], ◌++◌, length, codes, decimal}
use Rattle.fraction_theory.specs.Fraction.{Fraction}
use Rattle.exact_fraction.specs.declared.Passed.{Passed}
use Rattle.exact_fraction.specs.Written.{written}
use Rattle.market_data.specs.Scales.{money_places}
use Rattle.market_model.specs.declared.answered.Answer.{Answer}
use Rattle.market_model.specs.declared.participants.Parts.{Parts}
use Rattle.market_model.specs.LimitRows.{rows}
use Rattle.market_model.specs.Market.{IsMarket}
use Rattle.market_model.specs.Optimality.{all_of}
use Rattle.market_model.specs.RightAnswers.{IsRight, dispatch_in}
use Rattle.market_system.specs.Ties.{IsFirstFor}
use Rattle.market_system.specs.WorkingPairs.{IsRangeOf}
use Rattle.report_text.specs.Reports.{range_text}
use Rattle.case_maker.specs.Rings.{ring_of}
use Rattle.settled_answer.specs.Settled.{IsSettledAnswer}
use Rattle.command_answers.specs.declared.status.Status.TheVariants as status
use Rattle.command_answers.specs.Bounds.{ArePassedWithin, IsAnswerWithin}
use Rattle.command_answers.specs.Tellings.{Telling, uncertified}

-- the words that a ring is made by
unfoldable pub title : ℕ → ℕ → List ℕ
title buses seed = codes "ring " ++ decimal buses ++ codes " seed " ++ decimal seed

-- how many buses, blocks and limits a market has
unfoldable pub counts : Parts → List ℕ
counts m = codes " buses " ++ decimal (length m.buses) ++ codes " blocks " ++ decimal (length m.blocks) ++ codes " limits " ++ decimal (length (rows m)) ++ codes "\n"

abbrev pub ring_line : ℕ → ℕ → List ℕ
ring_line buses seed = title buses seed ++ counts (ring_of buses seed)

-- what an answer is worth, and what is left of what loads pay
unfoldable pub summary : Answer Fraction → List ℕ
summary a = codes "cleared\nwelfare " ++ written money_places a.welfare ++ codes "\nsurplus " ++ written money_places a.money.surplus ++ codes "\n"

-- What is told is the size of the ring, which is a market, with the worth and the surplus of a right answer of it, whose dispatch is of its best
-- dispatches the one that goes first, which has the first prices of that or a number passed the bound on the way to these, and whose numbers are
-- within the bound; or, in their place, two of its numbers, each within the bound, whose outcome passes it.
pub data MakesTo (bound : ℕ) (buses seed : ℕ) (t : Telling) : Type 0 where
  cleared : (a : Answer Fraction) → IsMarket (ring_of buses seed) → IsRight (ring_of buses seed) a
      → IsFirstFor (ring_of buses seed) (all_of (ring_of buses seed)) (dispatch_in a) → IsSettledAnswer bound (ring_of buses seed) a → IsAnswerWithin bound a
      → t ≡ uncertified status.Done (ring_line buses seed ++ summary a) → MakesTo bound buses seed t
  passed : (p : Passed Fraction) → IsRangeOf (ring_of buses seed) [] bound p → ArePassedWithin bound p
      → t ≡ uncertified status.Range (ring_line buses seed ++ range_text p) → MakesTo bound buses seed t
