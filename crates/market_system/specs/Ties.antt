-- Which of the best dispatches is taken: blocks of one price are served in the order of their records.
-- Source: lexicographic linear programs (Isermann 1982); the order is own, a market's rules name it.
use Rattle.std.specs.Prelude.{◌≡◌, ℕ, ◌<◌, List, ◌++◌, length, map}
use Rattle.fraction_theory.specs.Order.{◌<ℚ◌}
use Rattle.market_model.specs.declared.participants.Parts.{Parts}
use Rattle.market_model.specs.Dispatch.{Dispatch, accepted, places, reserved}
use Rattle.market_model.specs.Optimality.{BestFor, Taken}
use Rattle.market_model.specs.Reserves.{offer_places}
use Rattle.market_system.specs.MarketSystem.{offer_name}

-- x accepts more than y of the first block at which they differ, or, where they accept the same of each block, of the first offer of reserve
pub data GoesBefore (m : Parts) (x y : Dispatch) : Type 0 where
  by_block : (j : ℕ) → j < length m.blocks → ((i : ℕ) → i < j → accepted x i ≡ accepted y i) → accepted y j <ℚ accepted x j → GoesBefore m x y
  by_offer : (n : ℕ) → n < length m.reserve.offers → ((i : ℕ) → i < length m.blocks → accepted x i ≡ accepted y i)
      → ((i : ℕ) → i < n → reserved x i ≡ reserved y i) → reserved y n <ℚ reserved x n → GoesBefore m x y

-- of the best dispatches for these limits and rooms the one that none goes before
pub record IsFirstFor (m : Parts) (t : Taken) (x : Dispatch) : Type 0 where
  pub best : BestFor m t x
  pub first : (y : Dispatch) → BestFor m t y → ¬ (GoesBefore m y x)

-- the names of the blocks and then of the offers of reserve, in the market's order
abbrev pub dispatch_names : Parts → List ℕ
dispatch_names m = places (length m.blocks) ++ map (offer_name m) (offer_places m)
