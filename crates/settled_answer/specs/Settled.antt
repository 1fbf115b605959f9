-- Which answers are settled: those that have the first prices of their dispatch, or for which a number becomes too large where these are looked
-- for or settled; and whether one did.
-- Source: own.
use Rattle.std.specs.Prelude.{◌≡◌, ℕ, Option, None, Some}
use Rattle.fraction_theory.specs.Fraction.{Fraction}
use Rattle.exact_fraction.specs.declared.Passed.{Passed}
use Rattle.market_model.specs.declared.answered.Answer.{Answer}
use Rattle.market_model.specs.declared.answered.Duals.{Duals}
use Rattle.market_model.specs.declared.answered.Outcome.{Outcome}
use Rattle.market_model.specs.declared.answered.Outcome.TheVariants as outcome
use Rattle.market_model.specs.declared.participants.Parts.{Parts}
use Rattle.market_dict.specs.Chosen.{IsChosen}
use Rattle.market_model.specs.Optimality.{ArePricesOf, all_of}
use Rattle.market_model.specs.RightAnswers.{IsRight, dispatch_in}
use Rattle.market_model.specs.SumTables.{IsRefusedInBusPrices}
use Rattle.market_system.specs.Ties.{IsFirstFor}
use Rattle.market_model.specs.Valued.{answer_at, duals_at, outcome_at, passed_at}
use Rattle.one_price.specs.FirstPrices.{AreFirstDuals}
use Rattle.price_search.specs.Settling.{IsPriceRefusal}
use Rattle.settlement.specs.Refusals.{IsMoneyRefusal}
use Rattle.settled_answer.specs.declared.settling.SettledAnswer.{SettledAnswer}
use Rattle.settled_answer.specs.declared.settling.SettledOutcome.{SettledOutcome}

-- an operation refused on the way from an answer to the settled one: where the first duals of its dispatch are looked for, from its own, in
-- the bus prices that the first ones make, or in its settlement at those prices
pub data IsSettlingRefusal (bound : ℕ) (m : Parts) (a : Answer Fraction) (p : Passed Fraction) : Type 0 where
  of_search : IsPriceRefusal m (dispatch_in a) a.duals bound p → IsSettlingRefusal bound m a p
  of_prices : (d : Duals Fraction) → AreFirstDuals m (dispatch_in a) d → IsRefusedInBusPrices m d bound p → IsSettlingRefusal bound m a p
  of_money : (d : Duals Fraction) → AreFirstDuals m (dispatch_in a) d → (price : ℕ → Fraction) → ArePricesOf m d price
      → IsMoneyRefusal m (dispatch_in a) price d bound p → IsSettlingRefusal bound m a p

-- An answer has the first duals of its dispatch. Or where numbers of a type with this bound became too large on the way to them, its dispatch and duals
-- are those of a choice of basic variables, with which a clear ended.
pub data IsSettledAnswer (bound : ℕ) (m : Parts) (a : Answer Fraction) : Type 0 where
  first : AreFirstDuals m (dispatch_in a) a.duals → IsSettledAnswer bound m a
  refused : (p : Passed Fraction) → IsChosen m a → IsSettlingRefusal bound m a p → IsSettledAnswer bound m a

-- an answer in an outcome is
abbrev pub IsSettledOutcome : ℕ → Parts → Outcome Fraction → Type 0
IsSettledOutcome bound m (outcome.Cleared a) = IsSettledAnswer bound m a
IsSettledOutcome bound m (outcome.Infeasible f) = Unit {0}
IsSettledOutcome bound m (outcome.Range p) = Unit {0}

-- an answer in an outcome has the first duals of its dispatch
abbrev pub HasFirstPrices : Parts → Outcome Fraction → Type 0
HasFirstPrices m (outcome.Cleared a) = AreFirstDuals m (dispatch_in a) a.duals
HasFirstPrices m (outcome.Infeasible f) = Unit {0}
HasFirstPrices m (outcome.Range p) = Unit {0}

-- an outcome is an answer, and the operation refused on the way from it to the settled one
abbrev pub IsOutcomeRefusal : ℕ → Parts → Outcome Fraction → Passed Fraction → Type 0
IsOutcomeRefusal bound m (outcome.Cleared a) p = IsSettlingRefusal bound m a p
IsOutcomeRefusal bound m (outcome.Infeasible f) p = ⊥
IsOutcomeRefusal bound m (outcome.Range q) p = ⊥

-- no operation is refused on the way to the first prices of the market's dispatch that goes first, whichever choice a clear ends with
abbrev pub NoPricePasses : Parts → ℕ → Type 0
NoPricePasses m bound = (a : Answer Fraction) (p : Passed Fraction) → IsRight m a → IsFirstFor m (all_of m) (dispatch_in a) → IsChosen m a → ¬ (IsSettlingRefusal bound m a p)

-- ---- what settling comes to
-- an answer and the one made of it: with no operation that passed, the first duals of its dispatch, and with one the same answer, and that
-- operation is refused on the way from it
abbrev pub SettlesAnswer : {N : Type 0} → (N → Fraction) → ℕ → Parts → Answer N → Answer N → Option (Passed N) → Type 0
SettlesAnswer value bound m before after None = AreFirstDuals m (dispatch_in (answer_at value after)) (duals_at value after.duals)
SettlesAnswer value bound m before after (Some p) = (after ≡ before) × IsSettlingRefusal bound m (answer_at value before) (passed_at value p)

-- what an answer is settled to
abbrev pub IsSettled : {N : Type 0} → (N → Fraction) → ℕ → Parts → Answer N → SettledAnswer N → Type 0
IsSettled value bound m before s = SettlesAnswer value bound m before s.answer s.passed

-- the same of an outcome: with no operation that passed, an answer in it has the first duals, and with one it is the same outcome
abbrev pub SettlesTo : {N : Type 0} → (N → Fraction) → ℕ → Parts → Outcome N → Outcome N → Option (Passed N) → Type 0
SettlesTo value bound m before after None = HasFirstPrices m (outcome_at value after)
SettlesTo value bound m before after (Some p) = (after ≡ before) × IsOutcomeRefusal bound m (outcome_at value before) (passed_at value p)

abbrev pub SettlesOutcome : {N : Type 0} → (N → Fraction) → ℕ → Parts → Outcome N → SettledOutcome N → Type 0
SettlesOutcome value bound m before s = SettlesTo value bound m before s.outcome s.passed

-- ---- what settling leaves as it is
-- the second of two answers has the dispatch and the welfare of the first
pub record KeepsDispatch {N : Type 0} (before after : Answer N) : Type 0 where
  pub dispatch : after.dispatch ≡ before.dispatch
  pub reserve : after.reserve ≡ before.reserve
  pub welfare : after.welfare ≡ before.welfare

-- where the first of two outcomes is an answer, the second is one and has its dispatch and welfare; any other is the same
abbrev pub KeepsOutcome : {N : Type 0} → Outcome N → Outcome N → Type 0
KeepsOutcome (outcome.Cleared a) after = (b : Answer _) × (after ≡ outcome.Cleared b) × KeepsDispatch a b
KeepsOutcome (outcome.Infeasible f) after = after ≡ outcome.Infeasible f
KeepsOutcome (outcome.Range p) after = after ≡ outcome.Range p
