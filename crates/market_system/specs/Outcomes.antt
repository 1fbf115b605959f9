-- What is right to print of a market.
use Rattle.std.specs.Prelude.{◌≡◌, ℕ, List, []}
use Rattle.fraction_theory.specs.Fraction.{Fraction}
use Rattle.market_model.specs.declared.participants.Parts.{Parts}
use Rattle.market_model.specs.declared.answered.Outcome.{Outcome}
use Rattle.market_model.specs.declared.answered.Outcome.TheVariants as outcome
use Rattle.market_model.specs.Dispatch.{Dispatch}
use Rattle.market_model.specs.declared.limits.Row.{Row}
use Rattle.market_model.specs.Infeasibility.{IsFarkas}
use Rattle.market_model.specs.Optimality.{Feasible, all_of}
use Rattle.market_model.specs.RightAnswers.{IsRight, dispatch_in}
use Rattle.market_system.specs.Growth.{Growth, PricesOnly}
use Rattle.market_system.specs.SolvedLaws.{AreRows}
use Rattle.market_system.specs.Ties.{IsFirstFor}
use Rattle.market_system.specs.WorkingPairs.{IsRangeOf}

-- An outcome is right for its market, and a dispatch is of all the best the one that goes first. Where numbers of a type with this bound became
-- too large, the two are a working pair of it.
abbrev pub IsRightOutcome : ℕ → Parts → List Row → Outcome Fraction → Type 0
IsRightOutcome bound m taken (outcome.Cleared a) = IsRight m a × IsFirstFor m (all_of m) (dispatch_in a)
IsRightOutcome bound m taken (outcome.Infeasible f) = IsFarkas m f
IsRightOutcome bound m taken (outcome.Range p) = IsRangeOf m taken bound p

abbrev pub IsCleared : Outcome Fraction → Type 0
IsCleared (outcome.Cleared a) = Unit {0}
IsCleared (outcome.Infeasible f) = ⊥
IsCleared (outcome.Range p) = ⊥

abbrev pub IsInfeasible : Outcome Fraction → Type 0
IsInfeasible (outcome.Cleared a) = ⊥
IsInfeasible (outcome.Infeasible f) = Unit {0}
IsInfeasible (outcome.Range p) = ⊥

-- cleared where a dispatch is feasible, and infeasible where none is
pub record IsDecided (m : Parts) (o : Outcome Fraction) : Type 0 where
  pub cleared : (x : Dispatch) → Feasible m x → IsCleared o
  pub infeasible : ((x : Dispatch) → ¬ (Feasible m x)) → IsInfeasible o

-- ---- one clear after another
-- the rows that are taken after an outcome: those taken before, grown, or none where numbers became too large
abbrev pub IsTakenAfter : Parts → List Row → Outcome Fraction → List Row → Type 0
IsTakenAfter m before (outcome.Cleared a) after = Growth m before after
IsTakenAfter m before (outcome.Infeasible f) after = Growth m before after
IsTakenAfter m before (outcome.Range p) after = after ≡ []

-- rows that were not taken have no price in the duals that an outcome has
abbrev pub IsPricedBy : Parts → List Row → Outcome Fraction → Type 0
IsPricedBy m taken (outcome.Cleared a) = PricesOnly m taken a.duals
IsPricedBy m taken (outcome.Infeasible f) = PricesOnly m taken f.duals
IsPricedBy m taken (outcome.Range p) = Unit {0}

-- a clear of the market that begins with these rows taken comes to this outcome, and ends with those; other rows have no price in it
pub record IsClear (bound : ℕ) (m : Parts) (before : List Row) (o : Outcome Fraction) (after : List Row) : Type 0 where
  pub rows : AreRows m before
  pub right : IsRightOutcome bound m before o
  pub taken : IsTakenAfter m before o after
  pub priced : IsPricedBy m after o
