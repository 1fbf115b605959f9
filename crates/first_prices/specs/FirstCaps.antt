-- Caps that lose none of the first prices that support a dispatch, so that the first best point of the system of prices has them.
-- Source: own. A price at a kink of the supply curve may be as far out as a block's own price, and what other prices make of it is bounded by them.
use Rattle.std.specs.Prelude.{pos}
use Rattle.fraction_theory.specs.Fraction.{Fraction, whole, ◌+ℚ◌, ◌*ℚ◌}
use Rattle.fraction_theory.specs.Order.{◌≤ℚ◌}
use Rattle.fraction_theory.specs.Signs.{abs_ℚ}
use Rattle.market_model.specs.declared.answered.Duals.{Duals}
use Rattle.market_model.specs.declared.participants.Parts.{Parts}
use Rattle.market_model.specs.Dispatch.{Dispatch}
use Rattle.market_model.specs.Optimality.{ProperDuals, Supports}
use Rattle.one_price.specs.FirstPrices.{GoesBefore, sum_of_prices, with_energy}
use Rattle.price_system.specs.PriceSystem.{Caps, IsFactorSize, KeepsCaps}

-- ---- caps
-- so much prices that add up to at most `most` make of what a MW of a block's unit is worth
abbrev pub share : (most factor : Fraction) → Fraction
share most factor = most *ℚ (whole (pos 1) +ℚ factor)

-- Caps from duals that support the dispatch: the sum of their prices, and beyond their price of energy what two sets of prices of at most that sum
-- make of a MW.
pub record AreCapsBy (m : Parts) (x : Dispatch) (e : Duals Fraction) (c : Caps) : Type 0 where
  pub factors : IsFactorSize m x c.factor
  pub sums : sum_of_prices m e ≤ℚ c.most
  pub range : (abs_ℚ e.energy +ℚ (share c.most c.factor +ℚ share c.most c.factor)) ≤ℚ c.range

-- ---- what they lose nothing of
-- at a price of energy within the caps these duals support the dispatch
pub record FitsAt (m : Parts) (x : Dispatch) (c : Caps) (f : Duals Fraction) (p : Fraction) : Type 0 where
  pub supported : Supports m x (with_energy f p)
  pub keeps : KeepsCaps m x c (with_energy f p)

-- and so do all that support it with a sum of prices of at most that of e, each at some price
abbrev pub LoseNothing : Parts → Dispatch → Duals Fraction → Caps → Type 0
LoseNothing m x e c = (f : Duals Fraction) → Supports m x f → sum_of_prices m f ≤ℚ sum_of_prices m e → (p : Fraction) × FitsAt m x c f p

-- ---- what first best points have
-- AreFirstDuals without what it says of energy
pub record HasFirstPrices (m : Parts) (x : Dispatch) (d : Duals Fraction) : Type 0 where
  pub supported : Supports m x d
  pub proper : ProperDuals m d
  pub first : (e : Duals Fraction) → Supports m x e → ProperDuals m e → ¬ (GoesBefore m e d)
