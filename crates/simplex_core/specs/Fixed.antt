-- Variables whose bounds are equal cannot move: other ones of a dictionary stay others.
use Rattle.std.specs.Prelude.{◌≡◌, ℕ, false, List}
use Rattle.std.specs.List.{Contains}
use Rattle.exact_fraction.specs.declared.Op.{Op}
use Rattle.exact_fraction.specs.declared.Passed.{Passed}
use Rattle.fraction_theory.specs.Fraction.{Fraction}
use Rattle.linear_system.specs.Choices.{Choice}
use Rattle.linear_system.specs.Pairs.{IsSystemPair}
use Rattle.linear_dict.specs.Dictionaries.{Dictionary, system_in, choice_of}
use Rattle.simplex_core.specs.Posings.{IsPosing}
use Rattle.simplex_core.specs.declared.bounds.Bounds.{Bounds}
use Rattle.simplex_core.specs.declared.solving.Run.{Run}
use Rattle.simplex_core.specs.declared.solving.Run.TheVariants.{Solved, Empty, Passed as StoppedBy}

-- The choice has each other variable of the dictionary whose bounds are equal among its others.
pub record KeepsFixed (d : Dictionary) (h : Choice) : Type 0 where
  pub others : (w : ℕ) → Contains d.others w → (system_in d).low w ≡ (system_in d).high w → h.basic w ≡ false

-- a working pair of the dictionary's system, whose choices do so
pub record IsFixedSystemPair (d : Dictionary) (bound : ℕ) (op : Op) (left right : Fraction) : Type 0 where
  pub pair : IsSystemPair (system_in d) bound op left right
  pub one : KeepsFixed d pair.one
  pub near : KeepsFixed d pair.near

abbrev pub IsFixedPair : {N : Type 0} → (N → Fraction) → ℕ → Dictionary → Passed N → Type 0
IsFixedPair value bound d e = IsFixedSystemPair d bound e.op (value e.left) (value e.right)

-- The choice that a run from d ends with does so, and those of the working pair that it names where it is refused.
abbrev pub HoldsFixed : {N : Type 0} → (N → Fraction) → ℕ → Dictionary → Run N → Type 0
HoldsFixed value bound d (Solved e) = KeepsFixed d (choice_of e)
HoldsFixed value bound d (Empty e row above) = KeepsFixed d (choice_of e)
HoldsFixed value bound d (StoppedBy p) = IsFixedPair value bound d p

-- These prices and bounds can be posed, and e is a working pair of the system with them, whose choices do so.
abbrev pub IsFixedPairPosed : {N : Type 0} → (N → Fraction) → ℕ → Dictionary → List N → List (Bounds N) → Passed N → Type 0
IsFixedPairPosed value bound d prices bounds e = (new : Dictionary) × IsPosing value d prices bounds new × IsFixedPair value bound new e
