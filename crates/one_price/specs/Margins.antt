-- The price of energy by blocks: all other prices as they are, it may fall by as much as some block that must be worth its price is worth more,
-- and rise by as much as some block that may not be worth more is worth less.
-- Source: Schweppe, Caramanis, Tabors and Bohn, Spot Pricing of Electricity, for what a MW is worth beside a block's price; the rest is own.
use Rattle.std.specs.Prelude.{◌≡◌, ◌≢◌, ℕ, ◌<◌, length}
use Rattle.fraction_theory.specs.Fraction.{Fraction, ◌-ℚ◌}
use Rattle.fraction_theory.specs.Order.{◌≤ℚ◌}
use Rattle.market_model.specs.declared.answered.Duals.{Duals}
use Rattle.market_model.specs.declared.participants.Parts.{Parts}
use Rattle.market_model.specs.declared.participants.Side.{Side}
use Rattle.market_model.specs.declared.participants.Side.TheVariants.{Sell, Buy}
use Rattle.market_model.specs.Dispatch.{Dispatch, accepted, block_at, quantity, zero}
use Rattle.market_model.specs.Optimality.{energy_worth, price}

-- what a MW of a block's unit is worth beyond the block's price
abbrev pub margin : Parts → Duals Fraction → ℕ → Fraction
margin m d j = energy_worth m d (block_at m j).unit -ℚ price m j

-- of a quantity so much is accepted: a MW may not be worth less than the price, where something is sold, or less than all is bought
abbrev pub HoldsUp : Side → (accepted quantity : Fraction) → Type 0
HoldsUp Sell a q = a ≢ zero
HoldsUp Buy a q = a ≢ q

-- and not more, where less than all is sold, or something is bought
abbrev pub HoldsDown : Side → (accepted quantity : Fraction) → Type 0
HoldsDown Sell a q = a ≢ q
HoldsDown Buy a q = a ≢ zero

abbrev pub IsFloor : Parts → Dispatch → ℕ → Type 0
IsFloor m x j = HoldsUp (block_at m j).side (accepted x j) (quantity m j)

abbrev pub IsCeiling : Parts → Dispatch → ℕ → Type 0
IsCeiling m x j = HoldsDown (block_at m j).side (accepted x j) (quantity m j)

-- the least margin of the blocks that hold the price of energy up, and the greatest of those that hold it down
pub record IsLeastMargin (m : Parts) (x : Dispatch) (d : Duals Fraction) (f : Fraction) : Type 0 where
  pub block : ℕ
  pub within : block < length m.blocks
  pub floor : IsFloor m x block
  pub is : margin m d block ≡ f
  pub least : (j : ℕ) → j < length m.blocks → IsFloor m x j → f ≤ℚ margin m d j

pub record IsGreatestMargin (m : Parts) (x : Dispatch) (d : Duals Fraction) (f : Fraction) : Type 0 where
  pub block : ℕ
  pub within : block < length m.blocks
  pub ceiling : IsCeiling m x block
  pub is : margin m d block ≡ f
  pub greatest : (j : ℕ) → j < length m.blocks → IsCeiling m x j → margin m d j ≤ℚ f

abbrev pub HasNoFloor : Parts → Dispatch → Type 0
HasNoFloor m x = (j : ℕ) → j < length m.blocks → ¬ (IsFloor m x j)

abbrev pub HasNoCeiling : Parts → Dispatch → Type 0
HasNoCeiling m x = (j : ℕ) → j < length m.blocks → ¬ (IsCeiling m x j)

-- as low as the blocks that hold it up leave it; where there are none, as high as those leave it that hold it down; else 0
pub data IsEnergyByMargins (m : Parts) (x : Dispatch) (d : Duals Fraction) (p : Fraction) : Type 0 where
  by_floor : (f : Fraction) → IsLeastMargin m x d f → p ≡ d.energy -ℚ f → IsEnergyByMargins m x d p
  by_ceiling : HasNoFloor m x → (f : Fraction) → IsGreatestMargin m x d f → p ≡ d.energy -ℚ f → IsEnergyByMargins m x d p
  by_none : HasNoFloor m x → HasNoCeiling m x → p ≡ zero → IsEnergyByMargins m x d p
