-- Laws of the points that go first.
use Rattle.std.specs.Prelude.{◌≡◌, ◌≢◌, ℕ, pos, ◌<◌, false, List, [], ◌∷◌, ◌++◌, length, slice_index, Some, Bool}
use Rattle.std.specs.List.{Contains}
use Rattle.exact_fraction.specs.declared.Op.{Op}
use Rattle.fraction_theory.specs.Fraction.{Fraction, whole}
use Rattle.linear_system.specs.Choices.{Choice, IsChoice, basics, others, value}
use Rattle.linear_system.specs.Pairs.{IsSystemPair}
use Rattle.linear_system.specs.Systems.{System, InBounds, IsSystem}
use Rattle.simplex_theory.specs.States.{IsSolved, State}
use Rattle.optimal_face.specs.Faces.{Held, IsStill, Shows, held_at, more_held, nothing_held, price_of_one}
use Rattle.optimal_face.specs.FirstPoints.{HoldsFirst, IsFirstBest}

-- two points that go first have the same of each name
abbrev pub LawOfTheFirst : Type 0
LawOfTheFirst = (s : System) (names : List ℕ) (u v : ℕ → Fraction) → IsFirstBest s names u → IsFirstBest s names v
    → (k : ℕ) → k < length names → u (slice_index names k) ≡ v (slice_index names k)

-- a solved state holds the best points
abbrev pub LawOfTheFace : Type 0
LawOfTheFace = (s : System) (S : State) → IsSystem s → Shows s S → IsSolved s S → HoldsFirst s [] (more_held nothing_held S)

-- one that is solved over these, with a price of 1 for a column, holds those that go first with this column behind
abbrev pub LawOfTheNext : Type 0
LawOfTheNext = (s : System) (names : List ℕ) (held : Held) (j : ℕ) (S : State) → IsSystem s → Contains s.columns j → HoldsFirst s names held
    → Shows (held_at s held (price_of_one j)) S → IsSolved (held_at s held (price_of_one j)) S → HoldsFirst s (names ++ j ∷ []) (more_held held S)

-- a name that can't move changes nothing: it is an other variable that is still, or a basic one whose entries are 0 but at such
pub record CanNotMove (s : System) (held : Held) (h : Choice) (j : ℕ) : Type 0 where
  pub other : Contains (others s h) j → IsStill s held j
  pub basic : Contains (basics s h) j → (w : ℕ) → Contains (others s h) w → h.entry j w ≢ whole (pos 0) → IsStill s held w

abbrev pub LawOfTheStill : Type 0
LawOfTheStill = (s : System) (names : List ℕ) (held : Held) (h : Choice) (j : ℕ) → IsSystem s → IsChoice s h → Contains s.variables j → HoldsFirst s names held
    → CanNotMove s held h j → HoldsFirst s (names ++ j ∷ []) held

-- where no other variable can move, whatever names stand behind change nothing
abbrev pub LawOfTheSettled : Type 0
LawOfTheSettled = (s : System) (names more : List ℕ) (held : Held) (h : Choice) → IsSystem s → IsChoice s h → ((j : ℕ) → Contains more j → Contains s.variables j)
    → HoldsFirst s names held → ((w : ℕ) → Contains (others s h) w → IsStill s held w) → HoldsFirst s (names ++ more) held

-- A state has the reduced prices of a solved one, and each variable where these are not 0 stays an other one where it stands. Where its
-- values are those of its choice and within the bounds, these are its reduced prices too, and it is solved.
pub record ComesFrom (s : System) (S T : State) : Type 0 where
  pub choice : IsChoice s T.choice
  pub values : (w : ℕ) → Contains s.variables w → T.value w ≡ value s T.choice w
  pub prices : (w : ℕ) → Contains s.variables w → T.reduced w ≡ S.reduced w
  pub within : InBounds s T.value
  pub stays : (w : ℕ) → Contains s.variables w → S.reduced w ≢ whole (pos 0) → (T.choice.basic w ≡ false) × (T.choice.high w ≡ S.choice.high w)

abbrev pub LawOfTheReturn : Type 0
LawOfTheReturn = (s : System) (S T : State) → IsSystem s → Shows s S → IsSolved s S → ComesFrom s S T → Shows s T × IsSolved s T

-- A working pair of the system with variables held and a price of 1 for one column is one of the system itself, where its choices have the
-- variables that are held among their others: the reduced prices are entries there, and the values are those of the choice that has each
-- of these at its bound.
pub record KeepsHeld (s : System) (held : Held) (h : Choice) : Type 0 where
  pub others : (w : ℕ) (high : Bool) → Contains s.variables w → held w ≡ Some high → h.basic w ≡ false

abbrev pub LawOfThePairs : Type 0
LawOfThePairs = (s : System) (held : Held) (j bound : ℕ) (op : Op) (left right : Fraction) → IsSystem s → Contains s.columns j
    → (pair : IsSystemPair (held_at s held (price_of_one j)) bound op left right) → KeepsHeld s held pair.one → KeepsHeld s held pair.near
    → IsSystemPair s bound op left right
