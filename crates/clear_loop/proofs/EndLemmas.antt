-- How a clear ends, and what it comes to so.
use Rattle.std.specs.Prelude.{◌≡◌, ℕ, List, IsSome, Result, Ok, Err}
use Rattle.std.proofs.Common.{subst, sym}
use Rattle.fraction_theory.specs.Fraction.{Fraction}
use Rattle.market_model.specs.declared.answered.Farkas.{Farkas}
use Rattle.market_model.specs.declared.limits.Row.{Row}
use Rattle.market_model.specs.declared.participants.Parts.{Parts}
use Rattle.market_model.specs.Fitting.{FitsOutcome}
use Rattle.market_model.specs.Valued.{outcome_at, duals_at}
use Rattle.market_system.specs.Growth.{Growth, PricesOnly}
use Rattle.market_system.specs.Outcomes.{IsClear}
use Rattle.market_system.specs.SolvedLaws.{AreRows}
use Rattle.limit_screen.specs.Reaching.{IsReachOf}
use Rattle.market_dict.specs.Chosen.{IsChosenOutcome}
use Rattle.market_dict.specs.Takings.{limits_of}
use Rattle.market_dict.specs.declared.taking.Taking.{Taking}
use Rattle.clear_loop.specs.Clearing.{KeepsAfter, TakesAfter}
use Rattle.clear_loop.specs.Growing.{Grown}
use Rattle.clear_loop.specs.Keeping.{Kept}
use Rattle.clear_loop.specs.Reached.{outcome_at_end}
use Rattle.clear_loop.specs.Rounds.{IsEnd}
use Rattle.clear_loop.specs.declared.reached.ReachedAnswer.{ReachedAnswer}

-- what it comes to is a clear
pub ended_clear : {N : Type 0} (value : N → Fraction) (bound : ℕ) (m : Parts) (before after : List Row) (ts : List Taking) (end : Result (ReachedAnswer N) (Farkas N))
    → AreRows m before → Growth m before (limits_of ts) → after ≡ limits_of ts → IsEnd value m (limits_of ts) end → IsClear bound m before (outcome_at value (outcome_at_end end).outcome) after
ended_clear value bound m before after ts (Ok r) are grown same is =
    record { rows = are; right = (is.1, is.2); taken = subst (Growth m before) (sym same) grown; priced = subst (λ g. PricesOnly m g (duals_at value r.answer.duals)) (sym same) is.3 }
ended_clear value bound m before after ts (Err f) are grown same is =
    record { rows = are; right = is.0; taken = subst (Growth m before) (sym same) grown; priced = subst (λ g. PricesOnly m g (duals_at value f.duals)) (sym same) is.1 }

-- and an answer is that of a choice
pub ended_chosen : {N : Type 0} (value : N → Fraction) (m : Parts) (ts : List Taking) (end : Result (ReachedAnswer N) (Farkas N)) → IsEnd value m (limits_of ts) end
    → IsChosenOutcome m (outcome_at value (outcome_at_end end).outcome)
ended_chosen value m ts (Ok r) is = is.5
ended_chosen value m ts (Err f) is = tt

-- it fits the market
pub ended_fits : {N : Type 0} (value : N → Fraction) (m : Parts) (ts : List Taking) (end : Result (ReachedAnswer N) (Farkas N)) → IsEnd value m (limits_of ts) end
    → FitsOutcome m (outcome_at_end end).outcome
ended_fits value m ts (Ok r) is = is.0
ended_fits value m ts (Err f) is = tt

-- its dispatch carries and reaches what is told
pub ended_reach : {N : Type 0} (value : N → Fraction) (m : Parts) (ts : List Taking) (end : Result (ReachedAnswer N) (Farkas N)) → IsEnd value m (limits_of ts) end
    → IsReachOf value m (outcome_at_end end).outcome (outcome_at_end end).reach
ended_reach value m ts (Ok r) is = is.4
ended_reach value m ts (Err f) is = tt

-- after it what was taken has grown, and a dictionary is kept
pub ended_takes : {N : Type 0} (m : Parts) (before after : List Taking) (end : Result (ReachedAnswer N) (Farkas N)) → Grown m before after → TakesAfter m before (outcome_at_end end).outcome after
ended_takes m before after (Ok r) grown = grown
ended_takes m before after (Err f) grown = grown

pub ended_keeps : {N : Type 0} (k : Kept) (end : Result (ReachedAnswer N) (Farkas N)) → IsSome k.dict → KeepsAfter (outcome_at_end end).outcome k
ended_keeps k (Ok r) some = some
ended_keeps k (Err f) some = some
