-- The numbers that the way from a right answer to the settled one may have to write down.
-- Source: own; the sums are those of the dispatch, of the prices and of the settlement.
use Rattle.std.specs.Prelude.{ℕ, ◌<◌, List, length, Contains}
use Rattle.fraction_theory.specs.Fraction.{Fraction}
use Rattle.fraction_theory.specs.Sums.{Term, prefix}
use Rattle.exact_fraction.specs.Passes.{IsTooLarge}
use Rattle.market_model.specs.declared.answered.Answer.{Answer}
use Rattle.market_model.specs.declared.answered.Duals.{Duals}
use Rattle.market_model.specs.declared.answered.Outcome.{Outcome}
use Rattle.market_model.specs.declared.answered.Outcome.TheVariants as outcome
use Rattle.market_model.specs.declared.limits.Row.{Row}
use Rattle.market_model.specs.declared.participants.Parts.{Parts}
use Rattle.market_model.specs.Dispatch.{Dispatch}
use Rattle.market_model.specs.Optimality.{ArePricesOf, all_of, named_rows}
use Rattle.market_model.specs.RightAnswers.{IsRight, dispatch_in}
use Rattle.market_model.specs.SumTables.{BusPriceSum, FactorSum, SettledSum}
use Rattle.market_system.specs.Ties.{IsFirstFor}
use Rattle.market_dict.specs.Chosen.{IsChosen}
use Rattle.one_price.specs.FirstPrices.{AreFirstDuals}
use Rattle.price_search.specs.Numbers.{SearchNumber}

-- the sums that are added up with first duals of a dispatch: the prices at buses, the factors of the rows that the duals name, and what is settled
-- at those prices
pub data PricedSum (m : Parts) (x : Dispatch) (d : Duals Fraction) : List Term → Type 0 where
  price_of_bus : (i : ℕ) (terms : List Term) → i < length m.buses → BusPriceSum m d i terms → PricedSum m x d terms
  factor_of_named : (r : Row) (terms : List Term) → Contains (named_rows m d) r → FactorSum m r terms → PricedSum m x d terms
  settled_at : (price : ℕ → Fraction) (terms : List Term) → ArePricesOf m d price → SettledSum m x price d terms → PricedSum m x d terms

-- on the way from an answer: a number on the way from its dispatch and its duals to the first ones, or the first terms of a sum with these
pub data SettlingNumber (m : Parts) (a : Answer Fraction) : Fraction → Type 0 where
  is_searched : (n : Fraction) → SearchNumber m (dispatch_in a) a.duals n → SettlingNumber m a n
  of_priced : (d : Duals Fraction) (terms : List Term) (k : ℕ) → AreFirstDuals m (dispatch_in a) d → PricedSum m (dispatch_in a) d terms → SettlingNumber m a (prefix k terms)

-- none of them is too large
abbrev pub PriceNumbersFit : Parts → Answer Fraction → ℕ → Type 0
PriceNumbersFit m a bound = (n : Fraction) → SettlingNumber m a n → ¬ (IsTooLarge bound n)

-- nor is one where an outcome is an answer
abbrev pub OutcomeNumbersFit : Parts → Outcome Fraction → ℕ → Type 0
OutcomeNumbersFit m (outcome.Cleared a) bound = PriceNumbersFit m a bound
OutcomeNumbersFit m (outcome.Infeasible f) bound = Unit {0}
OutcomeNumbersFit m (outcome.Range p) bound = Unit {0}

-- nor is one on the way from an answer with which a clear may end, whichever choice it is of
abbrev pub AllPriceNumbersFit : Parts → ℕ → Type 0
AllPriceNumbersFit m bound = (a : Answer Fraction) → IsRight m a → IsFirstFor m (all_of m) (dispatch_in a) → IsChosen m a → PriceNumbersFit m a bound
