-- What is kept has its limits as rows too, and what a clear takes goes by its outcome whatever its numbers are.
use Rattle.std.specs.Prelude.{◌≡◌, ℕ, List, Option, Some, None}
use Rattle.std.proofs.Common.{ap, subst, sym, ◌∙◌}
use Rattle.fraction_theory.specs.Fraction.{Fraction}
use Rattle.linear_dict.specs.Dictionaries.{Dictionary}
use Rattle.market_model.specs.declared.answered.Outcome.{Outcome}
use Rattle.market_model.specs.declared.answered.Outcome.TheVariants as outcome
use Rattle.market_model.specs.declared.limits.Row.{Row}
use Rattle.market_model.specs.declared.participants.Parts.{Parts}
use Rattle.market_model.specs.Valued.{outcome_at}
use Rattle.market_system.specs.Outcomes.{IsClear}
use Rattle.market_dict.specs.Takings.{limits_of}
use Rattle.market_dict.specs.declared.taking.Taking.{Taking}
use Rattle.clear_loop.specs.Clearing.{TakesAfter}
use Rattle.clear_loop.specs.Keeping.{FitsFrame, IsStartOf, Kept}
use Rattle.clear_loop.specs.declared.hand.TakenInOrder.{TakenInOrder}

-- the rows of a start are the limits among what is taken
rows_of_start : (m : Parts) (t : TakenInOrder) (start : Option Dictionary) → IsStartOf m t start → t.rows ≡ limits_of t.takings
rows_of_start m t None is = ap (λ (u : TakenInOrder). u.rows) is ∙ sym (ap (λ (u : TakenInOrder). limits_of u.takings) is)
rows_of_start m t (Some d) is = is.1.rows

-- so a clear from the rows of one start to those of another is one from limits to limits
pub clear_by_limits : (bound : ℕ) (m : Parts) (old new : Kept) (o : Outcome Fraction) → FitsFrame m old → FitsFrame m new → IsClear bound m old.taken.rows o new.taken.rows
    → IsClear bound m (limits_of old.taken.takings) o (limits_of new.taken.takings)
clear_by_limits bound m old new o before after clear =
    subst (λ (g : List Row). IsClear bound m (limits_of old.taken.takings) o g) (rows_of_start m new.taken new.dict after)
    (subst (λ (g : List Row). IsClear bound m g o new.taken.rows) (rows_of_start m old.taken old.dict before) clear)

-- what is taken goes by which outcome it is, and not by its numbers
pub takes_at : {N : Type 0} (value : N → Fraction) (m : Parts) (before after : List Taking) (o : Outcome N) → TakesAfter m before o after → TakesAfter m before (outcome_at value o) after
takes_at value m before after (outcome.Cleared a) takes = takes
takes_at value m before after (outcome.Infeasible f) takes = takes
takes_at value m before after (outcome.Range p) takes = takes
