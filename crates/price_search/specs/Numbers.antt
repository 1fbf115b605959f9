-- The numbers that the way from a dispatch, and from some duals that support it, to its first prices may have to write down. They are read off the
-- market, the dispatch and these duals alone, whatever is refused.
-- Source: own.
use Rattle.std.specs.Prelude.{ℕ, ◌<◌, List, length, pos, Contains}
use Rattle.fraction_theory.specs.Fraction.{Fraction, whole, ◌+ℚ◌}
use Rattle.fraction_theory.specs.Signs.{abs_ℚ}
use Rattle.fraction_theory.specs.Sums.{Term, prefix}
use Rattle.exact_fraction.specs.Passes.{IsTooLarge}
use Rattle.linear_system.specs.Choices.{Choice, IsChoice}
use Rattle.linear_system.specs.Numbers.{SolvingNumber}
use Rattle.market_model.specs.declared.answered.Duals.{Duals}
use Rattle.market_model.specs.declared.limits.Row.{Row}
use Rattle.market_model.specs.declared.participants.Parts.{Parts}
use Rattle.market_model.specs.Dispatch.{Dispatch}
use Rattle.market_model.specs.LimitRows.{carried, most_flow}
use Rattle.market_model.specs.Reserves.{reserve_terms}
use Rattle.market_model.specs.SumTables.{FactorSum, RoomSum, RowFlowSum}
use Rattle.optimal_face.specs.FirstPoints.{IsFirstBest}
use Rattle.one_price.specs.Margins.{HasNoFloor, IsCeiling, IsEnergyByMargins, IsFloor, margin}
use Rattle.first_prices.specs.FirstCaps.{share}
use Rattle.price_system.specs.PriceSystem.{Caps, duals_of, most_worth, price_order, price_system}
use Rattle.price_dict.specs.Reached.{reached_rows, reached_system}
use Rattle.price_search.specs.Caps.{ArePriceCaps, IsFactor, IsMost, IsRoundedUp, named_price_terms}

-- the sums that are added up on it: what units use of their rooms, the prices of the duals, the factors and the flow of a row that is reached, and
-- the reserve that is accepted
pub data SearchSum (m : Parts) (x : Dispatch) (e : Duals Fraction) : List Term → Type 0 where
  used_of_rooms : (terms : List Term) → RoomSum m x terms → SearchSum m x e terms
  prices_named : SearchSum m x e (named_price_terms e)
  factor_of_reached : (r : Row) (terms : List Term) → Contains (reached_rows m x) r → FactorSum m r terms → SearchSum m x e terms
  flow_of_reached : (r : Row) (terms : List Term) → Contains (reached_rows m x) r → RowFlowSum m (carried m x) r terms → SearchSum m x e terms
  accepted_in_all : SearchSum m x e (reserve_terms m x)

-- what the caps that the duals give are made of: one more than a factor, what prices make of a MW, twice that, and with it the price of energy
pub data CapNumber (m : Parts) (x : Dispatch) (e : Duals Fraction) : Fraction → Type 0 where
  is_more : (factor : Fraction) → IsFactor m x factor → CapNumber m x e (whole (pos 1) +ℚ factor)
  is_share : (most factor : Fraction) → IsMost e most → IsFactor m x factor → CapNumber m x e (share most factor)
  is_twice : (most factor : Fraction) → IsMost e most → IsFactor m x factor → CapNumber m x e (share most factor +ℚ share most factor)
  is_range : (most factor energy : Fraction) → IsMost e most → IsFactor m x factor → IsRoundedUp (abs_ℚ e.energy) energy
      → CapNumber m x e (energy +ℚ (share most factor +ℚ share most factor))

-- at duals: the margin of a block that holds the price of energy, and that price as blocks tell it
pub data EnergyNumber (m : Parts) (x : Dispatch) (d : Duals Fraction) : Fraction → Type 0 where
  margin_of_floor : (j : ℕ) → j < length m.blocks → IsFloor m x j → EnergyNumber m x d (margin m d j)
  margin_of_ceiling : HasNoFloor m x → (j : ℕ) → j < length m.blocks → IsCeiling m x j → EnergyNumber m x d (margin m d j)
  price_of_energy : (p : Fraction) → IsEnergyByMargins m x d p → EnergyNumber m x d p

-- The number of terms k is free: a whole sum is the prefix of all its terms.
pub data SearchNumber (m : Parts) (x : Dispatch) (e : Duals Fraction) : Fraction → Type 0 where
  -- the first terms of a sum
  of_terms : (terms : List Term) (k : ℕ) → SearchSum m x e terms → SearchNumber m x e (prefix k terms)
  of_cap : (n : Fraction) → CapNumber m x e n → SearchNumber m x e n
  -- the most that the flow of a row that is reached may be, and that a MW of a unit may be worth
  is_most_flow : (r : Row) → Contains (reached_rows m x) r → SearchNumber m x e (most_flow m r)
  is_most_worth : (c : Caps) → ArePriceCaps m x e c → SearchNumber m x e (most_worth c)
  -- what solving the system of prices without those that have to be 0 may have to write down, at any choice
  of_solving : (c : Caps) (h : Choice) (n : Fraction) → ArePriceCaps m x e c → IsChoice (reached_system m x c) h → SolvingNumber (reached_system m x c) h n → SearchNumber m x e n
  -- of the duals of its first best point
  at_first : (c : Caps) (v : ℕ → Fraction) (n : Fraction) → ArePriceCaps m x e c → IsFirstBest (price_system m x c) (price_order m) v → EnergyNumber m x (duals_of m v) n → SearchNumber m x e n

-- none of them is too large
abbrev pub SearchNumbersFit : Parts → Dispatch → Duals Fraction → ℕ → Type 0
SearchNumbersFit m x e bound = (n : Fraction) → SearchNumber m x e n → ¬ (IsTooLarge bound n)
