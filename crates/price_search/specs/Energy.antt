-- The search for the price of energy by blocks.
-- Source: own.
use Rattle.std.specs.Prelude.{◌≡◌, ℕ, ◌+◌, ◌<◌, false, List, Option, Some, None, length, map, slice_index, slice_index_or}
use Rattle.fraction_theory.specs.Fraction.{Fraction}
use Rattle.fraction_theory.specs.Order.{◌≤ℚ◌}
use Rattle.exact_fraction.specs.declared.Op.TheVariants.{Minus}
use Rattle.exact_fraction.specs.declared.Passed.{Passed}
use Rattle.linear_dict.specs.Dictionaries.{Dictionary, IsDictionary, note_of}
use Rattle.market_model.specs.declared.answered.Duals.{Duals}
use Rattle.market_model.specs.declared.participants.Parts.{Parts}
use Rattle.market_model.specs.declared.participants.Side.{Side}
use Rattle.market_model.specs.Dispatch.{Dispatch, accepted, block_at, quantity, zero}
use Rattle.market_model.specs.NamedSums.{IsRefusal}
use Rattle.market_model.specs.Optimality.{energy_worth, price}
use Rattle.one_price.specs.Margins.{HasNoFloor, HoldsDown, HoldsUp, IsCeiling, IsFloor, IsGreatestMargin, IsLeastMargin, margin}
use Rattle.price_search.specs.declared.energy.Hold.{Hold}
use Rattle.price_search.specs.declared.energy.Hold.TheVariants.{Up, Down}

-- these numbers are what the dispatch accepts of the blocks
abbrev pub AreAccepted : {N : Type 0} → (N → Fraction) → Parts → List N → Dispatch → Type 0
AreAccepted value m numbers x = (j : ℕ) → j < length m.blocks → slice_index_or (map value numbers) j zero ≡ accepted x j

-- the dictionary shows what a MW of each block's unit is worth at these duals, in the rows behind the first
pub record ShowsWorths (m : Parts) (d : Duals Fraction) (dict : Dictionary) : Type 0 where
  pub live : dict.spent ≡ false
  pub sound : IsDictionary dict
  pub row : (j : ℕ) → j < length m.blocks → 1 + j < length dict.rows
  pub worth : (j : ℕ) → j < length m.blocks → (note_of dict (slice_index dict.rows (1 + j))).value ≡ energy_worth m d (block_at m j).unit

-- ---- margins
abbrev pub Holds : Hold → Side → (accepted quantity : Fraction) → Type 0
Holds Up side a q = HoldsUp side a q
Holds Down side a q = HoldsDown side a q

abbrev pub IsHolding : Hold → Parts → Dispatch → ℕ → Type 0
IsHolding hold m x j = Holds hold (block_at m j).side (accepted x j) (quantity m j)

-- one margin is no further than another one
abbrev pub IsNoFurther : Hold → Fraction → Fraction → Type 0
IsNoFurther Up f g = f ≤ℚ g
IsNoFurther Down f g = g ≤ℚ f

-- of the blocks before a place that hold the price of energy so
pub record IsNearestBefore (hold : Hold) (m : Parts) (x : Dispatch) (d : Duals Fraction) (count : ℕ) (f : Fraction) : Type 0 where
  pub block : ℕ
  pub within : block < count
  pub holds : IsHolding hold m x block
  pub is : margin m d block ≡ f
  pub nearest : (j : ℕ) → j < count → IsHolding hold m x j → IsNoFurther hold f (margin m d j)

-- the nearest margin of these, or none where none holds it so
abbrev pub IsNearest : {N : Type 0} → (N → Fraction) → Hold → Parts → Dispatch → Duals Fraction → ℕ → Option N → Type 0
IsNearest value hold m x d count None = (j : ℕ) → j < count → ¬ (IsHolding hold m x j)
IsNearest value hold m x d count (Some f) = IsNearestBefore hold m x d count (value f)

-- ---- refusals
abbrev pub IsMarginRefusal : Parts → Duals Fraction → ℕ → ℕ → Passed Fraction → Type 0
IsMarginRefusal m d j bound p = IsRefusal Minus (energy_worth m d (block_at m j).unit) (price m j) bound p

-- for the margin of some block that holds the price of energy so
pub record IsNearestRefusal (hold : Hold) (m : Parts) (x : Dispatch) (d : Duals Fraction) (bound : ℕ) (p : Passed Fraction) : Type 0 where
  pub block : ℕ
  pub within : block < length m.blocks
  pub holds : IsHolding hold m x block
  pub refused : IsMarginRefusal m d block bound p

-- An operation refused for the margin of a block that holds the price of energy up, or for that price less the least of these margins; or, where no
-- block holds it up, for the margin of one that holds it down, or for that price less the greatest of those.
pub data IsEnergyRefusal (m : Parts) (x : Dispatch) (d : Duals Fraction) (bound : ℕ) (p : Passed Fraction) : Type 0 where
  of_floor : (j : ℕ) → j < length m.blocks → IsFloor m x j → IsMarginRefusal m d j bound p → IsEnergyRefusal m x d bound p
  of_ceiling : HasNoFloor m x → (j : ℕ) → j < length m.blocks → IsCeiling m x j → IsMarginRefusal m d j bound p → IsEnergyRefusal m x d bound p
  of_least : (f : Fraction) → IsLeastMargin m x d f → IsRefusal Minus d.energy f bound p → IsEnergyRefusal m x d bound p
  of_greatest : HasNoFloor m x → (f : Fraction) → IsGreatestMargin m x d f → IsRefusal Minus d.energy f bound p → IsEnergyRefusal m x d bound p
