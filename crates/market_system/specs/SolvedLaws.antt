-- What solving a market's system over some of its limit rows says of the market.
-- Sources: linear programs with bounded variables (Chvátal, Linear Programming); Farkas; Schweppe and others, Spot Pricing of Electricity.
use Rattle.std.specs.Prelude.{◌≡◌, ◌≢◌, ◌⊎◌, ℕ, ◌≤◌, Bool, false, not, List, [], ◌∷◌, ◌++◌, length, AllPairs, Contains}
use Rattle.fraction_theory.specs.Fraction.{Fraction, ◌+ℚ◌}
use Rattle.fraction_theory.specs.Order.{◌≤ℚ◌}
use Rattle.linear_system.specs.Systems.{System, IsSystem, MeetsRows, InBounds, objective}
use Rattle.linear_system.specs.Choices.{Choice, IsChoice, value, reduced}
use Rattle.simplex_theory.specs.States.{State, IsSolved}
use Rattle.simplex_theory.specs.Stuck.{IsStuck, margin}
use Rattle.market_model.specs.declared.answered.Duals.{Duals}
use Rattle.market_model.specs.declared.participants.Parts.{Parts}
use Rattle.market_model.specs.Dispatch.{Dispatch, accepted, reserved, places, block_at, signed_by_side as raised}
use Rattle.market_model.specs.Infeasibility.{IsFarkas, farkas_bound}
use Rattle.market_model.specs.declared.limits.Row.{Row}
use Rattle.market_model.specs.LimitRows.{rows, limit, flow}
use Rattle.market_model.specs.Market.{IsMarket}
use Rattle.market_model.specs.Optimality.{Taken, FeasibleFor, Feasible, Supports, ProperDuals, block_value, unit_price, welfare_for, SupportsOver, BestFor}
use Rattle.market_model.specs.Reserves.{offer_places, reserve_units}
use Rattle.market_model.specs.RightAnswers.{IsRight, answer_of}
use Rattle.market_system.specs.Growth.{Broken, IsBestOver, Growth}
use Rattle.market_system.specs.MarketNumbers.{IsFarkasOf, stuck_cost}
use Rattle.market_system.specs.MarketSystem.{system_of, offer_name, point_dispatch, choice_dispatch, duals_by_cost, choice_duals}
use Rattle.market_model.specs.Overrun.{Within, IsBeyond}

-- rows of the market, no two of them one
pub record AreRows (m : Parts) (g : List Row) : Type 0 where
  pub rows : (r : Row) → Contains g r → Contains (rows m) r
  pub distinct : AllPairs (λ (a b : Row). a ≢ b) g

-- such rows, and units that offer reserve
pub record AreTaken (m : Parts) (t : Taken) : Type 0 where
  pub limits : AreRows m t.limits
  pub rooms : (u : ℕ) → Contains t.rooms u → Contains (reserve_units m) u

-- ---- the system
-- a market over some of its rows and rooms is a system, in whatever order they are listed
abbrev pub LawOfTheSystem : Type 0
LawOfTheSystem = (m : Parts) (t : Taken) → IsMarket m → IsSystem (system_of m t)

-- A dispatch that is feasible for the rows and rooms gives a point within the bounds, with its MW at the blocks and offers, that is worth its
-- welfare; and the blocks and offers of a point within the bounds are a dispatch that is feasible for them, worth no less.
pub record PointsAreDispatches (m : Parts) (t : Taken) : Type 0 where
  pub point : (x : Dispatch) → FeasibleFor m t x
      → (v : ℕ → Fraction) × MeetsRows (system_of m t) v × InBounds (system_of m t) v × (objective (system_of m t) v ≡ welfare_for m t.limits x)
      × ((j : ℕ) → Contains (places (length m.blocks)) j → v j ≡ accepted x j) × ((n : ℕ) → Contains (offer_places m) n → v (offer_name m n) ≡ reserved x n)
  pub dispatch : (v : ℕ → Fraction) → MeetsRows (system_of m t) v → InBounds (system_of m t) v
      → FeasibleFor m t (point_dispatch m v) × (objective (system_of m t) v ≤ℚ welfare_for m t.limits (point_dispatch m v))

abbrev pub LawOfThePoints : Type 0
LawOfThePoints = (m : Parts) (t : Taken) → IsMarket m → AreTaken m t → PointsAreDispatches m t

-- ---- solved
-- a choice with its own values and reduced prices
abbrev pub state_at : System → Choice → State
state_at s h = record { choice = h; value = value s h; reduced = reduced s h }

-- duals that support a dispatch over the blocks and all of reserve, and over each row that is in the list or whose flow keeps its limit
abbrev pub SupportsFor : Parts → List Row → Dispatch → Duals Fraction → Type 0
SupportsFor m g x d = SupportsOver m (λ r. Contains (rows m) r × (Contains g r ⊎ Within (limit m r) (flow m x r))) x d

-- The choice's dispatch is best for the rows and rooms. Its duals are proper, and support it as far as other rows' limits are kept; the
-- reduced price of a block whose unit's room is not taken is its value, with what it raises at its unit's price.
pub record AnswersBy (m : Parts) (t : Taken) (h : Choice) : Type 0 where
  pub best : BestFor m t (choice_dispatch m t h)
  pub proper : ProperDuals m (choice_duals m t h)
  pub supported : SupportsFor m t.limits (choice_dispatch m t h) (choice_duals m t h)
  pub blocks : (j : ℕ) → Contains (places (length m.blocks)) j → ¬ (Contains t.rooms (block_at m j).unit)
      → reduced (system_of m t) h j ≡ block_value m j +ℚ raised (block_at m j).side (unit_price m (choice_duals m t h) (block_at m j).unit)

abbrev pub LawOfTheSolved : Type 0
LawOfTheSolved = (m : Parts) (t : Taken) (h : Choice) → IsMarket m → AreTaken m t
    → IsChoice (system_of m t) h → IsSolved (system_of m t) (state_at (system_of m t) h) → AnswersBy m t h

-- ---- right answers
-- where the dispatch is feasible, and the duals are proper and support it, this is right
abbrev pub LawOfTheAnswer : Type 0
LawOfTheAnswer = (m : Parts) (x : Dispatch) (d : Duals Fraction) → Feasible m x → Supports m x d → ProperDuals m d → IsRight m (answer_of m x d)

-- ---- nothing is feasible
-- the duals of a stuck variable
abbrev pub stuck_duals : Parts → Taken → Choice → ℕ → Bool → Duals Fraction
stuck_duals m t h b above = duals_by_cost m t (stuck_cost h b above)

-- the bound of duals is at most the margin, and in a market of energy alone just that
pub record HasMargin (m : Parts) (d : Duals Fraction) (margin : Fraction) : Type 0 where
  pub most : farkas_bound m d ≤ℚ margin
  pub energy_alone : m.reserve.listed ≡ false → farkas_bound m d ≡ margin

-- Where a variable is stuck they show that no dispatch of the market is feasible. Their margin is what the variable leaves of the bound that
-- it violates; and they are duals of the choice, so that their numbers are the market's.
pub record StuckShows (m : Parts) (t : Taken) (h : Choice) (b : ℕ) (above : Bool) : Type 0 where
  pub farkas : IsFarkas m (record { duals = stuck_duals m t h b above; bound = farkas_bound m (stuck_duals m t h b above) })
  pub leaves : HasMargin m (stuck_duals m t h b above) (margin (system_of m t) h b above)
  pub of_choice : IsFarkasOf m t h (stuck_duals m t h b above)

abbrev pub LawOfTheStuck : Type 0
LawOfTheStuck = (m : Parts) (t : Taken) (h : Choice) (b : ℕ) (above : Bool) → IsMarket m → ((r : Row) → Contains t.limits r → Contains (rows m) r)
    → IsChoice (system_of m t) h → IsStuck (system_of m t) h b above → StuckShows m t h b above

-- ---- growth
-- what is known of lists of rows that grow
pub record GrowthLaws (m : Parts) : Type 0 where
  -- a row whose flow at a best dispatch is beyond what it may be is not in the list; and with a broken one that is not, the list is grown
  pub beyond_is_new : (t : Taken) (x : Dispatch) (r : Row) → BestFor m t x → IsBeyond m t.limits r (flow m x r) → ¬ (Contains t.limits r)
  pub none : (g : List Row) → Growth m g g
  pub more : (t g : List Row) (x : Dispatch) (r : Row) → Growth m t g → IsBestOver m g x → Broken m x r → Contains (rows m) r → ¬ (Contains g r) → Growth m t (g ++ r ∷ [])
  pub again : (t g h : List Row) → Growth m t g → Growth m g h → Growth m t h
  -- distinct rows of the market stay so, and are no more than all of its rows
  pub distinct : (t g : List Row) → AreRows m t → Growth m t g → AreRows m g
  pub few : (g : List Row) → AreRows m g → length g ≤ length (rows m)

abbrev pub LawOfGrowth : Type 0
LawOfGrowth = (m : Parts) → GrowthLaws m
