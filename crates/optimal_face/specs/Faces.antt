-- The best points of a system are those of a face: the points at which some variables stay at a bound.
-- Source: complementary slackness, and the optimal face of a linear program (Chvátal, Linear Programming; Schrijver, Theory of Linear and
-- Integer Programming).
use Rattle.std.specs.Prelude.{◌≡◌, ℕ, pos, Bool, true, false, ◌==◌, if◌then◌else◌, is_some, Option, Some, None}
use Rattle.std.specs.Option.{option_map_or}
use Rattle.std.specs.List.{Contains}
use Rattle.fraction_theory.specs.Fraction.{Fraction, whole}
use Rattle.fraction_theory.specs.Signs.{sign_of}
use Rattle.fraction_theory.specs.declared.Sign.{Sign}
use Rattle.fraction_theory.specs.declared.Sign.TheVariants.{Below, Zero, Above}
use Rattle.linear_system.specs.Choices.{IsChoice, reduced, value}
use Rattle.linear_system.specs.Systems.{System}
use Rattle.simplex_theory.specs.States.{State}

-- which variables are held: at the high bound, where that is said, or at the low one
abbrev pub Held : Type 0
Held = ℕ → Option Bool

abbrev pub nothing_held : Held
nothing_held w = None

-- the high bound of a variable, or the low one
unfoldable pub bound_at : System → ℕ → Bool → Fraction
bound_at s w high = if high then s.high w else s.low w

-- the system with these prices, where each variable that is held has the bound at which it is for both of its own
unfoldable pub held_at : System → Held → (ℕ → Fraction) → System
held_at s held price = record s {
  price = price;
  low = λ w. option_map_or (bound_at s w) (held w) (s.low w);
  high = λ w. option_map_or (bound_at s w) (held w) (s.high w);
}

-- a price of 1 for one column, and none for the rest
unfoldable pub price_of_one : ℕ → ℕ → Fraction
price_of_one j i = if i == j then whole (pos 1) else whole (pos 0)

-- a state's values and reduced prices are those of its choice
pub record Shows (s : System) (S : State) : Type 0 where
  pub choice : IsChoice s S.choice
  pub values : (w : ℕ) → Contains s.variables w → S.value w ≡ value s S.choice w
  pub prices : (w : ℕ) → Contains s.variables w → S.reduced w ≡ reduced s S.choice w

-- a price that is not 0 holds its variable
abbrev pub holds : Sign → Bool
holds Below = true
holds Zero = false
holds Above = true

-- besides those that were held, the variables whose reduced price in a state is not 0, each where it stands
unfoldable pub more_held : Held → State → Held
more_held held S w = if is_some (held w) then held w else if holds (sign_of (S.reduced w)) then Some (S.choice.high w) else None

-- a variable that can't move: it is held, or its bounds are equal
pub data IsStill (s : System) (held : Held) (w : ℕ) : Type 0 where
  by_hold : (high : Bool) → held w ≡ Some high → IsStill s held w
  by_bounds : s.low w ≡ s.high w → IsStill s held w
