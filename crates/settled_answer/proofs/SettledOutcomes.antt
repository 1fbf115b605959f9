-- What an outcome is settled to.
use Rattle.std.specs.Prelude.{ℕ, Option, None, Some}
use Rattle.std.proofs.Common.{ap, subst, sym}
use Rattle.fraction_theory.specs.Fraction.{Fraction}
use Rattle.exact_fraction.specs.declared.Passed.{Passed}
use Rattle.market_model.specs.declared.answered.Answer.{Answer}
use Rattle.market_model.specs.declared.answered.Outcome.{Outcome}
use Rattle.market_model.specs.declared.answered.Outcome.TheVariants as outcome
use Rattle.market_model.specs.declared.participants.Parts.{Parts}
use Rattle.market_model.specs.Valued.{outcome_at, passed_at}
use Rattle.market_dict.specs.Chosen.{IsChosenOutcome}
use Rattle.settled_answer.specs.Laws.{LawOfFirstPrices}
use Rattle.settled_answer.specs.Settled.{IsOutcomeRefusal, IsSettledOutcome, SettlesAnswer, SettlesTo, first, refused}

-- it is settled, whether an operation passed on the way or not
refused_at : (bound : ℕ) (m : Parts) (o : Outcome Fraction) (p : Passed Fraction) → IsChosenOutcome m o → IsOutcomeRefusal bound m o p → IsSettledOutcome bound m o
refused_at bound m (outcome.Cleared a) p chosen is = refused p chosen is
refused_at bound m (outcome.Infeasible f) p chosen none = absurd none
refused_at bound m (outcome.Range q) p chosen none = absurd none

pub settled_at : {N : Type 0} (value : N → Fraction) (bound : ℕ) (m : Parts) (o p : Outcome N) (passed : Option (Passed N)) → IsChosenOutcome m (outcome_at value o) → SettlesTo value bound m o p passed
    → IsSettledOutcome bound m (outcome_at value p)
settled_at value bound m o (outcome.Cleared a) None chosen is = first is
settled_at value bound m o (outcome.Infeasible f) None chosen is = tt
settled_at value bound m o (outcome.Range q) None chosen is = tt
settled_at value bound m o p (Some q) chosen is =
    subst (λ x. IsSettledOutcome bound m (outcome_at value x)) (sym is.0) (refused_at bound m (outcome_at value o) (passed_at value q) chosen is.1)

-- as an answer is settled, so is the outcome that is one
pub settled_in : {N : Type 0} (value : N → Fraction) (bound : ℕ) (m : Parts) (a b : Answer N) (passed : Option (Passed N)) → SettlesAnswer value bound m a b passed
    → SettlesTo value bound m (outcome.Cleared a) (outcome.Cleared b) passed
settled_in value bound m a b None is = is
settled_in value bound m a b (Some p) is = (ap outcome.Cleared is.0, is.1)

-- ---- where no operation passes
pub law_of_first_prices : LawOfFirstPrices
law_of_first_prices bound m (outcome.Cleared a) taken b right (first is) none = is
law_of_first_prices bound m (outcome.Cleared a) taken b right (refused p chosen why) none = absurd (none a p right.0 right.1 chosen why)
law_of_first_prices bound m (outcome.Infeasible f) taken b right settled none = tt
law_of_first_prices bound m (outcome.Range p) taken b right settled none = tt
