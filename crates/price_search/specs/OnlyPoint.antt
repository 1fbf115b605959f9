-- Duals that are the only ones within caps to support a dispatch.
-- Source: the dual of a basic solution that is not degenerate is the only one (Chvátal, Linear Programming).
use Rattle.std.specs.Prelude.{◌≡◌, ℕ, ◌<◌, Bool, true, false, List, length, map, Contains, slice_index_or}
use Rattle.fraction_theory.specs.Fraction.{Fraction}
use Rattle.market_model.specs.declared.participants.Parts.{Parts}
use Rattle.market_model.specs.Dispatch.{Dispatch, accepted, quantity, zero}
use Rattle.fewer_columns.specs.Laws.{IsPoint}
use Rattle.limit_screen.specs.Reaching.{are_same}
use Rattle.simplex_core.specs.declared.bounds.Bounds.{Bounds}
use Rattle.price_system.specs.PriceSystem.{Caps, price_system}

-- Of a block a part is accepted, and not all. At duals that support the dispatch a MW of its unit is worth its price.
pub record IsMarginal (m : Parts) (x : Dispatch) (j : ℕ) : Type 0 where
  pub within : j < length m.blocks
  pub some : are_same (accepted x j) zero ≡ false
  pub not_all : are_same (accepted x j) (quantity m j) ≡ false

-- so of each of the first so many blocks that is marked
pub record AreMarginal (m : Parts) (x : Dispatch) (count : ℕ) (marks : List Bool) : Type 0 where
  pub count_is : length marks ≡ count
  pub marginal : (j : ℕ) → j < count → slice_index_or marks j false ≡ true → IsMarginal m x j

abbrev pub HasMarked : List Bool → Type 0
HasMarked marks = (j : ℕ) × (j < length marks) × (slice_index_or marks j false ≡ true)

-- where one of the first so many variables is marked, its two bounds are the same
pub record AreFixed {N : Type 0} (value : N → Fraction) (bounds : List (Bounds N)) (count : ℕ) (marks : List Bool) : Type 0 where
  pub count_is : length marks ≡ count
  pub fixed : (i : ℕ) → i < count → slice_index_or marks i false ≡ true
      → slice_index_or (map (λ (b : Bounds N). value b.low) bounds) i zero ≡ slice_index_or (map (λ (b : Bounds N). value b.high) bounds) i zero

-- no two points of the system of prices differ, and of some block a part is accepted and not all
pub record IsOnlyPoint (m : Parts) (x : Dispatch) (c : Caps) : Type 0 where
  pub only : (v w : ℕ → Fraction) → IsPoint (price_system m x c) v → IsPoint (price_system m x c) w → (n : ℕ) → Contains (price_system m x c).variables n → v n ≡ w n
  pub block : ℕ
  pub marginal : IsMarginal m x block
