-- Exact numbers by branch: a part of all flows, and differences of two of these.
use Rattle.std.specs.Prelude.{◌≡◌, ℕ, ◌+◌, ◌*◌, List, length, Some, slice_get}
use Rattle.fraction_theory.specs.Fraction.{Fraction, ◌-ℚ◌}
use Rattle.exact_fraction.specs.Passes.{Passes}
use Rattle.exact_fraction.specs.declared.Op.TheVariants.{Minus}
use Rattle.exact_fraction.specs.declared.Passed.{Passed}

-- the exact flows from one bus, by branch
abbrev pub AreEntries : {N : Type 0} → List N → ℕ → ℕ → List N → Type 0
AreEntries {N} flows buses bus list = (k : ℕ) (flow : N) → slice_get list k ≡ Some flow → slice_get flows (k * buses + bus) ≡ Some flow

-- the differences of two lists, place by place
pub record AreDifferences {N : Type 0} (value : N → Fraction) (left right list : List N) : Type 0 where
  pub count : length list ≡ length left
  pub each : (k : ℕ) (a b d : N) → slice_get left k ≡ Some a → slice_get right k ≡ Some b → slice_get list k ≡ Some d → value d ≡ value a -ℚ value b

-- two numbers at one place, whose difference passes the bound
pub record IsRefusedDifference {N : Type 0} (value : N → Fraction) (bound : ℕ) (left right : List N) (e : Passed N) : Type 0 where
  pub k : ℕ
  pub op_is : e.op ≡ Minus
  pub left_is : slice_get left k ≡ Some e.left
  pub right_is : slice_get right k ≡ Some e.right
  pub passes : Passes bound e.op (value e.left) (value e.right)
