-- Of the best points of a system those that have the most of one column, of these those that have the most of the next one, and so on.
-- Source: lexicographic linear programs (Isermann 1982).
use Rattle.std.specs.Prelude.{◌≡◌, ◌↔◌, ℕ, ◌<◌, List, length, slice_index}
use Rattle.fraction_theory.specs.Fraction.{Fraction}
use Rattle.fraction_theory.specs.Order.{◌<ℚ◌}
use Rattle.linear_system.specs.Systems.{System, InBounds, MeetsRows}
use Rattle.simplex_theory.specs.States.{IsBest}
use Rattle.optimal_face.specs.Faces.{Held, held_at}

-- at the first of these names at which the two points differ u has more
pub record GoesBefore (names : List ℕ) (u v : ℕ → Fraction) : Type 0 where
  pub place : ℕ
  pub within : place < length names
  pub same : (k : ℕ) → k < place → u (slice_index names k) ≡ v (slice_index names k)
  pub more : v (slice_index names place) <ℚ u (slice_index names place)

-- a best point that no best one goes before
pub record IsFirstBest (s : System) (names : List ℕ) (v : ℕ → Fraction) : Type 0 where
  pub best : IsBest s v
  pub first : (u : ℕ → Fraction) → IsBest s u → ¬ (GoesBefore names u v)

-- where these variables are held, the points within the bounds are just those
abbrev pub HoldsFirst : System → List ℕ → Held → Type 0
HoldsFirst s names held = (u : ℕ → Fraction) → MeetsRows s u → InBounds (held_at s held s.price) u ↔ IsFirstBest s names u
