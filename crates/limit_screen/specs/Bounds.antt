-- Whole numbers by which it is told that a limit is far from being passed.
-- Shewchuk, Adaptive Precision Floating-Point Arithmetic and Fast Robust Geometric Predicates, 1997: a test is answered by numbers that are
-- cheap and near, with how near they are, and by the exact ones only where these cannot tell. Here the cheap numbers are whole ones.
use Rattle.std.specs.Prelude.{◌≡◌, ℕ, ◌+◌, ◌<◌, ◌≤◌, ◌^◌, ℤ, pos, negsuc, ◌+ℤ◌, ◌≤ℤ◌, neg_ℤ, unsigned_abs, List, Option, Some, None, length, slice_index_or}
use Rattle.std.specs.List.{slice_get}
use Rattle.fraction_theory.specs.Fraction.{Fraction, whole, ◌*ℚ◌}
use Rattle.fraction_theory.specs.Order.{◌≤ℚ◌}
use Rattle.exact_fraction.specs.Floor.{IsFloor}
use Rattle.market_model.specs.declared.participants.Parts.{Parts}
use Rattle.market_model.specs.Dispatch.{zero}
use Rattle.market_model.specs.LimitRows.{Carried}
use Rattle.limit_screen.specs.declared.bounds.Near.{Near}
use Rattle.limit_screen.specs.declared.bounds.NearFlow.{NearFlow}
use Rattle.limit_screen.specs.declared.parts.WholeParts.{WholeParts}
use Rattle.limit_screen.specs.declared.screening.RowOverrun.{RowOverrun}
use Rattle.market_data.specs.Scales.{pickup_one}

-- each element that stands at a place is what is asked there
abbrev pub EachAt : {X : Type 0} → (ℕ → X → Type 0) → List X → Type 0
EachAt is xs = (place : ℕ) (x : _) → slice_get xs place ≡ Some x → is place x

-- a whole number, where it is there, is the whole part
abbrev pub IsFloorOf : Fraction → Option ℤ → Type 0
IsFloorOf x part = (n : ℤ) → part ≡ Some n → IsFloor x n

-- of numbers the whole parts; some may be missing
abbrev pub AreFloors : List Fraction → List (Option ℤ) → Type 0
AreFloors numbers parts = EachAt (λ place part. IsFloorOf (slice_index_or numbers place zero) part) parts

-- of what is carried by lines, and then of what lost units put out, the whole parts
pub record AreWholeParts (m : Parts) (c : Carried) (parts : WholeParts) : Type 0 where
  pub line : (l : ℕ) (n : ℤ) → slice_get parts.carried.items l ≡ Some (Some n) → IsFloor (c.line l) n
  pub lost : (k : ℕ) (n : ℤ) → slice_get parts.carried.items (length m.lines + k) ≡ Some (Some n) → IsFloor (c.lost k) n

-- x is no further from a whole number than that says
pub record IsNear (x : Fraction) (near : Near) : Type 0 where
  pub least : whole (near.number +ℤ neg_ℤ near.off) ≤ℚ x
  pub most : x ≤ℚ whole (near.number +ℤ near.off)

-- so many parts of a flow are near the number
abbrev pub IsNearFlow : Fraction → NearFlow → Type 0
IsNearFlow flow near = IsNear (whole (pos near.one) *ℚ flow) near.parts

-- both whole numbers are at most so large
pub record IsUpTo (most : ℕ) (near : Near) : Type 0 where
  pub number : unsigned_abs near.number ≤ most
  pub off : unsigned_abs near.off ≤ most

-- parts of a flow that 128 bits hold, with those of limits besides
pub record IsSmall (near : NearFlow) : Type 0 where
  pub parts : IsUpTo (2 ^ 126 + 2 ^ 113) near.parts
  pub above : 0 < near.one
  pub most : near.one ≤ pickup_one

-- where the worst row so far passes its limit, and by how much at the least, the same; where there is none, less than 0
abbrev pub IsToldMost : {N : Type 0} → Option (RowOverrun N) → ℤ → Type 0
IsToldMost None n = n ≤ℤ negsuc 0
IsToldMost (Some b) n = n ≡ b.least
