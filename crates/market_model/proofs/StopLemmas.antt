-- Why work ends: what holds of two numbers that became too large.
use Rattle.exact_fraction.specs.declared.Passed.{Passed as PassedPair}
use Rattle.market_model.specs.Stops.{OnPassed}
use Rattle.market_model.specs.declared.stops.Stop.{Stop}
use Rattle.market_model.specs.declared.stops.Stop.TheVariants.{Passed, Memory}

pub on_passed_weaker : {N : Type 0} (stop : Stop N) (P Q : PassedPair N → Type 0) → ((pair : PassedPair N) → P pair → Q pair) → OnPassed stop P → OnPassed stop Q
on_passed_weaker (Passed pair) P Q f h = f pair h
on_passed_weaker Memory P Q f h = tt
