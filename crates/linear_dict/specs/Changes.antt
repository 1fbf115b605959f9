-- Which columns a pivot changes, and what is noted of them.
use Rattle.std.specs.Prelude.{◌≡◌, ◌≢◌, ◌⊎◌, ℕ, ◌<◌, pos, List, slice_index_or}
use Rattle.std.specs.List.{AllPairs, Contains}
use Rattle.exact_fraction.specs.Passes.{IsSumWith}
use Rattle.fraction_theory.specs.Fraction.{Fraction, whole, neg_ℚ}
use Rattle.linear_dict.specs.declared.changes.Change.{Change}

abbrev pub place_of : {N : Type 0} → Change N → ℕ
place_of change = change.place

-- These places, ascending, are of columns other than c, and each other column where the row g is not 0 is among them.
pub record AreChanges (columns c : ℕ) (g : ℕ → Fraction) (places : List ℕ) : Type 0 where
  pub ascending : AllPairs (λ i j. i < j) places
  pub within : (j : ℕ) → Contains places j → j < columns
  pub other : (j : ℕ) → Contains places j → j ≢ c
  pub either : (j : ℕ) → j < columns → j ≢ c → (g j ≡ whole (pos 0)) ⊎ Contains places j

-- at the change the solved row has this entry, or the opposite
abbrev pub IsTwin : {N : Type 0} → (N → Fraction) → N → Change N → Type 0
IsTwin value entry change = (value change.made.other ≡ value entry) ⊎ (value change.made.other ≡ neg_ℚ (value entry))

-- what is noted of the first n changes are sums with this factor
abbrev pub AreSumsBelow : {N : Type 0} → (N → Fraction) → N → List (Change N) → ℕ → Type 0
AreSumsBelow {N} value factor changes n = (m : ℕ) (d : Change N) → m < n
    → IsSumWith value (slice_index_or changes m d).made.entry factor (slice_index_or changes m d).made.other (slice_index_or changes m d).made.outcome
