-- What a clear comes to that ends with an answer, or with duals that show that nothing is feasible.
use Rattle.std.specs.Prelude.{Some, None, Result, Ok, Err}
use Rattle.market_model.specs.declared.answered.Farkas.{Farkas}
use Rattle.market_model.specs.declared.answered.Outcome.TheVariants as outcome
use Rattle.clear_loop.specs.declared.reached.ReachedAnswer.{ReachedAnswer}
use Rattle.clear_loop.specs.declared.reached.ReachedOutcome.{ReachedOutcome}

abbrev pub outcome_at_end : {N : Type 0} → Result (ReachedAnswer N) (Farkas N) → ReachedOutcome N
outcome_at_end (Ok r) = record { outcome = outcome.Cleared r.answer; reach = Some r.reach }
outcome_at_end (Err f) = record { outcome = outcome.Infeasible f; reach = None }
