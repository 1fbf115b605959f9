-- States of the dual simplex method over a system: a choice of basic variables, a point at it and reduced prices; and the
-- two ends that a run of it can come to.
-- Source: the dual simplex method over bounded variables (Chvátal, Linear Programming; Dantzig).
use Rattle.std.specs.Prelude.{◌≡◌, ℕ, pos, Bool, true, false}
use Rattle.std.specs.List.{Contains}
use Rattle.fraction_theory.specs.Fraction.{Fraction, whole, ◌*ℚ◌}
use Rattle.fraction_theory.specs.Order.{◌≤ℚ◌, ◌<ℚ◌}
use Rattle.fraction_theory.specs.Sums.{sum_by}
use Rattle.linear_system.specs.Systems.{System, IsSystem, MeetsRows, InBounds, objective}
use Rattle.linear_system.specs.Choices.{Choice, basics, others, IsChoice, at_bound}

-- What a state's functions are at other names than the system's variables says nothing.
pub record State : Type 0 where
  pub choice : Choice
  -- of a variable
  pub value : ℕ → Fraction
  pub reduced : ℕ → Fraction

-- The point v keeps the bounds of the variable w.
pub record IsWithin (s : System) (v : ℕ → Fraction) (w : ℕ) : Type 0 where
  pub low : s.low w ≤ℚ v w
  pub high : v w ≤ℚ s.high w

-- The point v violates a bound of the variable w: the high one where `above` says so, and else the low one.
abbrev pub Violates : System → (ℕ → Fraction) → Bool → ℕ → Type 0
Violates s v true w = s.high w <ℚ v w
Violates s v false w = v w <ℚ s.low w

-- The other variables stand at their bounds, the point meets the rows, the reduced prices are what the objective rises by
-- at any point of the rows, and each other variable stands at the bound that its reduced price asks for: one above 0 at the
-- high bound, one below 0 at the low bound. Where the bounds of a variable are equal nothing is asked of its price. Nothing
-- is asked of the values of the basic variables: these may violate their bounds.
pub record IsPosed (s : System) (S : State) : Type 0 where
  pub system : IsSystem s
  pub bounds : (w : ℕ) → Contains s.variables w → s.low w ≤ℚ s.high w
  pub choice : IsChoice s S.choice
  pub stands : (w : ℕ) → Contains (others s S.choice) w → S.value w ≡ at_bound s S.choice w
  pub meets : MeetsRows s S.value
  pub prices : (v : ℕ → Fraction) → MeetsRows s v → objective s v ≡ sum_by (λ w. S.reduced w *ℚ v w) (others s S.choice)
  pub unpriced : (b : ℕ) → Contains (basics s S.choice) b → S.reduced b ≡ whole (pos 0)
  pub low_price : (w : ℕ) → Contains (others s S.choice) w → s.low w <ℚ s.high w → S.choice.high w ≡ false → S.reduced w ≤ℚ whole (pos 0)
  pub high_price : (w : ℕ) → Contains (others s S.choice) w → s.low w <ℚ s.high w → S.choice.high w ≡ true → whole (pos 0) ≤ℚ S.reduced w

-- Of the points of the rows within the bounds none is worth more.
pub record IsBest (s : System) (v : ℕ → Fraction) : Type 0 where
  pub meets : MeetsRows s v
  pub within : InBounds s v
  pub best : (u : ℕ → Fraction) → MeetsRows s u → InBounds s u → objective s u ≤ℚ objective s v

-- The state's point is a best one, and its reduced prices show it: a variable that could rise has none above 0, and one
-- that could fall none below 0.
pub record IsSolved (s : System) (S : State) : Type 0 where
  pub best : IsBest s S.value
  pub basic : (b : ℕ) → Contains (basics s S.choice) b → S.reduced b ≡ whole (pos 0)
  pub rises : (w : ℕ) → Contains s.variables w → S.value w <ℚ s.high w → S.reduced w ≤ℚ whole (pos 0)
  pub falls : (w : ℕ) → Contains s.variables w → s.low w <ℚ S.value w → whole (pos 0) ≤ℚ S.reduced w

-- No point of the rows is within the bounds.
pub record HasNoPoint (s : System) : Type 0 where
  pub none : (v : ℕ → Fraction) → MeetsRows s v → ¬ (InBounds s v)

-- No values of the others within their bounds bring the basic variable b within its own.
pub record IsOutOfReach (s : System) (h : Choice) (b : ℕ) : Type 0 where
  pub basic : Contains (basics s h) b
  pub apart : (u : ℕ → Fraction) → ((w : ℕ) → Contains (others s h) w → IsWithin s u w) → u b ≡ sum_by (λ w. h.entry b w *ℚ u w) (others s h) → ¬ (IsWithin s u b)
