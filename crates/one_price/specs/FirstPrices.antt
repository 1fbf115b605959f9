-- Which of the prices that support a dispatch are printed. All but energy's are as low as can be, first their sum and then one after the other;
-- energy's comes last.
-- Sources: Schweppe, Caramanis, Tabors and Bohn, Spot Pricing of Electricity, for prices by duals; lexicographic linear programs (Isermann 1982)
-- for the least one after the other. The rule itself is own.
use Rattle.std.specs.Prelude.{◌≡◌, ℕ, ◌<◌, List, [], ◌∷◌, ◌++◌, length, map, reverse, slice_index_or}
use Rattle.std.specs.List.{flat_map}
use Rattle.fraction_theory.specs.Fraction.{Fraction, ◌+ℚ◌}
use Rattle.fraction_theory.specs.Order.{◌<ℚ◌, ◌≤ℚ◌}
use Rattle.fraction_theory.specs.Sums.{sum_by}
use Rattle.market_model.specs.declared.answered.Duals.{Duals}
use Rattle.market_model.specs.declared.limits.Row.{Row}
use Rattle.market_model.specs.declared.participants.Parts.{Parts}
use Rattle.market_model.specs.Dispatch.{Dispatch, zero}
use Rattle.market_model.specs.LimitRows.{rows}
use Rattle.market_model.specs.Optimality.{ProperDuals, Supports, down_of, room_price, up_of}
use Rattle.market_model.specs.Reserves.{reserve_units}

-- ---- all prices but energy's
-- what they add up to: those of limits, up and down, of rooms, and of reserve
abbrev pub sum_of_prices : Parts → Duals Fraction → Fraction
sum_of_prices m d = (sum_by (λ r. up_of m d r +ℚ down_of m d r) (rows m) +ℚ sum_by (room_price m d) (reserve_units m)) +ℚ d.reserve

-- the prices of rooms, from that of the last unit that offers reserve to that of the first
abbrev pub room_prices : Parts → Duals Fraction → List Fraction
room_prices m d = map (room_price m d) (reverse (reserve_units m))

-- those of a limit, down before up
abbrev pub two_prices : Parts → Duals Fraction → Row → List Fraction
two_prices m d r = down_of m d r ∷ up_of m d r ∷ []

-- those of limits, from the last row to the first
abbrev pub limit_prices : Parts → Duals Fraction → List Fraction
limit_prices m d = flat_map (two_prices m d) (reverse (rows m))

-- all of them, in the order in which they are made least: of rooms, of limits, and of reserve
abbrev pub other_prices : Parts → Duals Fraction → List Fraction
other_prices m d = room_prices m d ++ limit_prices m d ++ (d.reserve ∷ [])

abbrev pub other_price : Parts → Duals Fraction → ℕ → Fraction
other_price m d k = slice_index_or (other_prices m d) k zero

-- those of d add up to less than those of e; or they add up to the same, and at the first at which they differ d has less
pub data GoesBefore (m : Parts) (d e : Duals Fraction) : Type 0 where
  by_sum : sum_of_prices m d <ℚ sum_of_prices m e → GoesBefore m d e
  by_price : (k : ℕ) → k < length (other_prices m d) → sum_of_prices m d ≡ sum_of_prices m e → ((i : ℕ) → i < k → other_price m d i ≡ other_price m e i)
      → other_price m d k <ℚ other_price m e k → GoesBefore m d e

-- ---- the price of energy
-- the same prices but for energy's
abbrev pub with_energy : Duals Fraction → Fraction → Duals Fraction
with_energy d p = record d { energy = p }

-- energy may have this price where all others are those of d: the dispatch is supported
abbrev pub EnergyMayCost : Parts → Dispatch → Duals Fraction → Fraction → Type 0
EnergyMayCost m x d p = Supports m x (with_energy d p)

-- the least price that it may have, and the greatest
pub record IsLeast (May : Fraction → Type 0) (p : Fraction) : Type 0 where
  pub may : May p
  pub least : (q : Fraction) → May q → p ≤ℚ q

pub record IsGreatest (May : Fraction → Type 0) (p : Fraction) : Type 0 where
  pub may : May p
  pub greatest : (q : Fraction) → May q → q ≤ℚ p

-- there is no least: below each there is another; and no greatest
abbrev pub HasNoLeast : (Fraction → Type 0) → Type 0
HasNoLeast May = (p : Fraction) → May p → (q : Fraction) × May q × (q <ℚ p)

abbrev pub HasNoGreatest : (Fraction → Type 0) → Type 0
HasNoGreatest May = (p : Fraction) → May p → (q : Fraction) × May q × (p <ℚ q)

-- the least, where there is none the greatest, else 0
pub data IsEnergyPrice (May : Fraction → Type 0) (p : Fraction) : Type 0 where
  least : IsLeast May p → IsEnergyPrice May p
  greatest : HasNoLeast May → IsGreatest May p → IsEnergyPrice May p
  neither : HasNoLeast May → HasNoGreatest May → p ≡ zero → IsEnergyPrice May p

-- ---- the rule
-- of the proper duals that support the dispatch those that none goes before, with the price of energy that is taken of those it may have
pub record AreFirstDuals (m : Parts) (x : Dispatch) (d : Duals Fraction) : Type 0 where
  pub supported : Supports m x d
  pub proper : ProperDuals m d
  pub first : (e : Duals Fraction) → Supports m x e → ProperDuals m e → ¬ (GoesBefore m e d)
  pub energy : IsEnergyPrice (EnergyMayCost m x d) d.energy
