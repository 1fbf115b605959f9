-- What clearing a market comes to.
use Rattle.std.specs.Prelude.{◌≡◌, ℕ, List, [], Result, IfOk, IsSome, MatchResult}
use Rattle.fraction_theory.specs.Fraction.{Fraction}
use Rattle.market_model.specs.declared.answered.Answer.{Answer}
use Rattle.market_model.specs.declared.answered.Outcome.{Outcome}
use Rattle.market_model.specs.declared.answered.Outcome.TheVariants as outcome
use Rattle.market_model.specs.declared.participants.Parts.{Parts}
use Rattle.market_model.specs.declared.limits.Row.{Row}
use Rattle.market_model.specs.Valued.{outcome_at}
use Rattle.market_system.specs.Outcomes.{IsClear}
use Rattle.market_dict.specs.declared.taking.Taking.{Taking}
use Rattle.clear_loop.specs.declared.fault.ClearFault.{ClearFault}
use Rattle.clear_loop.specs.Faults.{outcome_of}
use Rattle.clear_loop.specs.Growing.{Grown}
use Rattle.clear_loop.specs.Keeping.{Kept, cold}

-- from these rows taken before to those after, a clear of the market comes to its outcome; nothing is said where there was no memory
abbrev pub ClearComesTo : {N : Type 0} → (N → Fraction) → ℕ → Parts → List Row → Result (Answer N) (ClearFault N) → List Row → Type 0
ClearComesTo value bound m before cleared after = IfOk (outcome_of cleared) (λ o. IsClear bound m before (outcome_at value o) after)

-- after an answer, and where nothing is feasible, a dictionary is kept; where numbers became too large, nothing is
abbrev pub KeepsAfter : {N : Type 0} → Outcome N → Kept → Type 0
KeepsAfter (outcome.Cleared a) after = IsSome after.dict
KeepsAfter (outcome.Infeasible f) after = IsSome after.dict
KeepsAfter (outcome.Range p) after = after ≡ cold

-- What is taken after a clear of the market: after an answer, and where nothing is feasible, what was taken before, grown; where numbers
-- became too large, nothing.
abbrev pub TakesAfter : {N : Type 0} → Parts → List Taking → Outcome N → List Taking → Type 0
TakesAfter m before (outcome.Cleared a) after = Grown m before after
TakesAfter m before (outcome.Infeasible f) after = Grown m before after
TakesAfter m before (outcome.Range p) after = after ≡ []

-- what a clear takes, limits and rooms alike: what its outcome has taken after it, and nothing where there was no memory
abbrev pub Takes : {N : Type 0} → Parts → List Taking → Result (Answer N) (ClearFault N) → List Taking → Type 0
Takes m before cleared after = MatchResult (outcome_of cleared) (λ o. TakesAfter m before o after) (λ _. after ≡ [])

-- what a clear keeps for the next one: that which its outcome keeps, and nothing where there was no memory
abbrev pub KeepsStart : {N : Type 0} → Result (Answer N) (ClearFault N) → Kept → Type 0
KeepsStart cleared after = MatchResult (outcome_of cleared) (λ o. KeepsAfter o after) (λ _. after ≡ cold)
