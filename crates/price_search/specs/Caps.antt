-- The caps of prices, by duals that support the dispatch.
-- Source: own.
use Rattle.std.specs.Prelude.{◌≡◌, ℕ, ℤ, pos, ◌+ℤ◌, List, [], ◌∷◌, ◌++◌, map, Contains, length, ◌<◌}
use Rattle.std.specs.List.{flat_map}
use Rattle.fraction_theory.specs.Fraction.{Fraction, whole, ◌+ℚ◌}
use Rattle.fraction_theory.specs.Signs.{abs_ℚ}
use Rattle.fraction_theory.specs.Sums.{Term, Plain, total}
use Rattle.exact_fraction.specs.declared.Op.TheVariants.{Plus, Times}
use Rattle.exact_fraction.specs.declared.Passed.{Passed}
use Rattle.exact_fraction.specs.Floor.{IsFloor}
use Rattle.market_model.specs.declared.answered.Dual.{Dual}
use Rattle.market_model.specs.declared.answered.Duals.{Duals}
use Rattle.market_model.specs.declared.answered.RoomDual.{RoomDual}
use Rattle.market_model.specs.NamedSums.{IsRefusal, IsRefusedIn}
use Rattle.first_prices.specs.FirstCaps.{share}
use Rattle.price_system.specs.PriceSystem.{Caps}
use Rattle.fraction_theory.specs.Order.{◌≤ℚ◌}
use Rattle.market_model.specs.declared.limits.Row.{Row}
use Rattle.market_model.specs.declared.participants.Parts.{Parts}
use Rattle.market_model.specs.Dispatch.{Dispatch, block_at, zero}
use Rattle.market_model.specs.LimitRows.{unit_factor}
use Rattle.price_dict.specs.Reached.{reached_rows}
use Rattle.price_dict.specs.Refusals.{IsEntriesRefusal}

-- ---- factors
-- the greater of two numbers
pub record IsGreater (a b greater : Fraction) : Type 0 where
  pub left : a ≤ℚ greater
  pub right : b ≤ℚ greater
  pub least : (g : Fraction) → a ≤ℚ g → b ≤ℚ g → greater ≤ℚ g

-- the size of the factor of a block's unit for a row
abbrev pub factor_size : Parts → Row → ℕ → Fraction
factor_size m r j = abs_ℚ (unit_factor m r (block_at m j).unit)

-- the greatest of a number and the sizes of the factors of the units of so many blocks, from the first, for a row
pub record IsGreatestWith (m : Parts) (r : Row) (count : ℕ) (x greatest : Fraction) : Type 0 where
  pub number : x ≤ℚ greatest
  pub each : (j : ℕ) → j < count → factor_size m r j ≤ℚ greatest
  pub least : (g : Fraction) → x ≤ℚ g → ((j : ℕ) → j < count → factor_size m r j ≤ℚ g) → greatest ≤ℚ g

-- the greatest size of a factor of a block's unit for these rows, and 0 where there is none
pub record IsGreatestFactor (m : Parts) (rs : List Row) (greatest : Fraction) : Type 0 where
  pub sign : zero ≤ℚ greatest
  pub each : (r : Row) (j : ℕ) → Contains rs r → j < length m.blocks → factor_size m r j ≤ℚ greatest
  pub least : (g : Fraction) → zero ≤ℚ g → ((r : Row) (j : ℕ) → Contains rs r → j < length m.blocks → factor_size m r j ≤ℚ g) → greatest ≤ℚ g

-- ---- prices
-- those of the limits that duals name, each up and then down, and those of rooms
abbrev pub limit_price_terms : List (Dual Fraction) → List Term
limit_price_terms ds = flat_map (λ d. Plain d.up ∷ Plain d.down ∷ []) ds

abbrev pub room_price_terms : List (RoomDual Fraction) → List Term
room_price_terms ds = map (λ d. Plain d.price) ds

-- all that duals name: of limits, then of rooms, and at last that of reserve
abbrev pub named_price_terms : Duals Fraction → List Term
named_price_terms d = (limit_price_terms d.limits ++ room_price_terms d.rooms) ++ (Plain d.reserve ∷ [])

-- ---- rounding
-- the next whole number above a number, or the number itself
pub data IsRoundedUp (x r : Fraction) : Type 0 where
  to_next : (n : ℤ) → IsFloor x n → r ≡ whole (n +ℤ pos 1) → IsRoundedUp x r
  kept : r ≡ x → IsRoundedUp x r

-- the most that all prices but energy's add up to
abbrev pub IsMost : Duals Fraction → Fraction → Type 0
IsMost d most = IsRoundedUp (total (named_price_terms d)) most

-- that of factors for rows that are reached, which is rounded up too
abbrev pub IsFactor : Parts → Dispatch → Fraction → Type 0
IsFactor m x factor = (f : Fraction) × IsGreatestFactor m (reached_rows m x) f × IsRoundedUp f factor

-- ---- caps
-- Those that are taken for duals. Their sum, the greatest size of a factor, and the size of their price of energy are rounded up to whole numbers
-- where `floor` gives one.
pub record ArePriceCaps (m : Parts) (x : Dispatch) (d : Duals Fraction) (c : Caps) : Type 0 where
  pub most : IsMost d c.most
  pub factor : IsFactor m x c.factor
  pub energy : Fraction
  pub sized : IsRoundedUp (abs_ℚ d.energy) energy
  pub range : c.range ≡ energy +ℚ (share c.most c.factor +ℚ share c.most c.factor)

-- ---- refusals
-- An operation refused in the sum of prices, where a factor of a row that is reached is added up, for one more than the greatest, for what prices make
-- of a MW, for twice that, or where this is added to the size of the price of energy.
pub data IsCapsRefusal (m : Parts) (x : Dispatch) (d : Duals Fraction) (bound : ℕ) (p : Passed Fraction) : Type 0 where
  of_sum : IsRefusedIn (named_price_terms d) bound p → IsCapsRefusal m x d bound p
  of_factor : IsEntriesRefusal m x bound p → IsCapsRefusal m x d bound p
  of_more : (factor : Fraction) → IsFactor m x factor → IsRefusal Plus (whole (pos 1)) factor bound p → IsCapsRefusal m x d bound p
  of_share : (most factor : Fraction) → IsMost d most → IsFactor m x factor → IsRefusal Times most (whole (pos 1) +ℚ factor) bound p → IsCapsRefusal m x d bound p
  of_shares : (most factor : Fraction) → IsMost d most → IsFactor m x factor → IsRefusal Plus (share most factor) (share most factor) bound p → IsCapsRefusal m x d bound p
  of_range : (most factor energy : Fraction) → IsMost d most → IsFactor m x factor → IsRoundedUp (abs_ℚ d.energy) energy
      → IsRefusal Plus energy (share most factor +ℚ share most factor) bound p → IsCapsRefusal m x d bound p
