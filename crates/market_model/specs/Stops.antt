-- What is known where the work on a market ends without what it was to make.
-- Source: own.
use Rattle.fraction_theory.specs.Fraction.{Fraction}
use Rattle.exact_fraction.specs.declared.Passed.{Passed as PassedPair}
use Rattle.market_model.specs.declared.stops.Stop.{Stop}
use Rattle.market_model.specs.declared.stops.Stop.TheVariants.{Passed, Memory}
use Rattle.market_model.specs.Valued.{passed_at}

-- where numbers became too large, P holds of the two; want of memory says nothing
abbrev pub OnPassed : {N : Type 0} → Stop N → (PassedPair N → Type 0) → Type 0
OnPassed (Passed pair) P = P pair
OnPassed Memory P = Unit {0}

-- the same of the fractions that the two stand for
abbrev pub StopsBy : {N : Type 0} → (N → Fraction) → (PassedPair Fraction → Type 0) → Stop N → Type 0
StopsBy value P stop = OnPassed stop (λ p. P (passed_at value p))
