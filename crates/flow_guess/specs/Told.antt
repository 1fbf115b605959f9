-- What is told of the flows over links.
use Rattle.std.specs.Prelude.{◌≡◌, ℕ, ◌<◌, ℤ, List, length, get_or, Option, None, Some}
use Rattle.fraction_theory.specs.Fraction.{Fraction, whole, ◌+ℚ◌, ◌-ℚ◌, ◌*ℚ◌}
use Rattle.fraction_theory.specs.Order.{◌≤ℚ◌}
use Rattle.network_theory.specs.Networks.{Branch, Network}
use Rattle.network_theory.specs.Carrying.{IsCarried}
use Rattle.exact_fraction.specs.Nearest.{IsNearest, in_units}
use Rattle.flow_guess.specs.declared.bounds.Guess.{Guess}
use Rattle.flow_guess.specs.declared.links.Link.{Link}
use Rattle.flow_guess.specs.Links.{link_branch}
use Rattle.flow_guess.specs.Guesses.{low_flow, high_flow}

-- So many units of a flow over a branch are within the error of what it is at the guess, in parts.
pub record IsWithin (guess : Guess) (b : Branch) (part : ℤ) (places : ℕ) (carried : Fraction) (error : ℤ) : Type 0 where
  pub low : (low_flow guess b -ℚ whole error) ≤ℚ (whole part *ℚ in_units places carried)
  pub high : (whole part *ℚ in_units places carried) ≤ℚ (high_flow guess b +ℚ whole error)

-- a number that is told of a link is the nearest one of what it carries at any solution
abbrev pub IsToldOf : Network → ℕ → ℕ → ℕ → ℕ → Link → Option ℤ → Type 0
IsToldOf n reference source sink places link told = (k : ℤ) (carried : Fraction) → told ≡ Some k
    → IsCarried n reference source sink (link_branch link) carried → IsNearest places carried k

-- so it is of each link
abbrev pub AreNearest : Network → ℕ → ℕ → ℕ → ℕ → List Link → List (Option ℤ) → Type 0
AreNearest n reference source sink places links told = (l : ℕ) (d : Link) → l < length links
    → IsToldOf n reference source sink places (get_or links l d) (get_or told l None)
