-- What comes of the search for the best point that goes first.
-- Source: lexicographic linear programs (Isermann 1982), by the faces of their optimal points.
use Rattle.std.specs.Prelude.{◌≡◌, ◌≢◌, ℕ, pos, Bool, false, List, Some}
use Rattle.std.specs.List.{Contains}
use Rattle.exact_fraction.specs.declared.Passed.{Passed}
use Rattle.fraction_theory.specs.Fraction.{Fraction, whole}
use Rattle.linear_dict.specs.Causes.{IsPairOf}
use Rattle.linear_dict.specs.Dictionaries.{Dictionary, IsDictionary, choice_of, system_in}
use Rattle.optimal_face.specs.Faces.{Held}
use Rattle.optimal_face.specs.FirstPoints.{HoldsFirst, IsFirstBest}
use Rattle.simplex_core.specs.Outcomes.{ShowsChoice}
use Rattle.simplex_core.specs.States.{state_of}
use Rattle.simplex_theory.specs.States.{IsSolved}
use Rattle.first_best.specs.declared.stop.FirstStop.{FirstStop}
use Rattle.first_best.specs.declared.stop.FirstStop.TheVariants.{Passed as StoppedBy, Memory as NoMemory}

-- e is not spent, and has the columns and the rows of d as they were put in, with the same prices and bounds, and the same reduced prices
pub record HasSystem (d e : Dictionary) : Type 0 where
  pub live : e.spent ≡ false
  pub sound : IsDictionary e
  pub columns : e.columns ≡ d.columns
  pub rows : e.rows ≡ d.rows
  pub coefficients : e.coefficients ≡ d.coefficients
  pub names : e.names ≡ d.names
  pub system : system_in e ≡ system_in d
  pub reduced : (w : ℕ) → (state_of e).reduced w ≡ (state_of d).reduced w

-- A solved dictionary with variables that are held: each that has a price is, where it stands, and those that are held are others. The best
-- points that go first by these names are those at which they stay.
pub record IsFace (d : Dictionary) (names : List ℕ) (held : Held) : Type 0 where
  pub live : d.spent ≡ false
  pub sound : IsDictionary d
  pub shows : ShowsChoice d
  pub solved : IsSolved (system_in d) (state_of d)
  pub priced : (w : ℕ) → Contains d.names w → (state_of d).reduced w ≢ whole (pos 0) → held w ≡ Some ((choice_of d).high w)
  pub stands : (w : ℕ) (high : Bool) → Contains d.names w → held w ≡ Some high → ((choice_of d).basic w ≡ false) × ((choice_of d).high w ≡ high)
  pub first : HoldsFirst (system_in d) names held

-- e has the system of d and is solved, and of the best points its own is one that goes first in this order
pub record GoesFirst (d : Dictionary) (order : List ℕ) (e : Dictionary) : Type 0 where
  pub same : HasSystem d e
  pub shows : ShowsChoice e
  pub solved : IsSolved (system_in e) (state_of e)
  pub first : IsFirstBest (system_in d) order (state_of e).value

-- where it stopped for a refusal, that is a working pair of the system
abbrev pub IsPairOn : {N : Type 0} → (N → Fraction) → ℕ → Dictionary → FirstStop N → Type 0
IsPairOn value bound d (StoppedBy p) = IsPairOf value bound (system_in d) p
IsPairOn value bound d NoMemory = Unit {0}
