-- A dictionary that holds the prices that support a dispatch, and as rows their sum and what a MW is worth of some blocks.
-- Source: dictionaries (Chvátal, Linear Programming); the form is own.
use Rattle.std.specs.Prelude.{◌≡◌, ℕ, ◌<◌, Bool, true, false, List, ◌∷◌, length, map, Contains, slice_index, slice_index_or}
use Rattle.fraction_theory.specs.Fraction.{Fraction}
use Rattle.linear_system.specs.Systems.{MeetsRows}
use Rattle.linear_dict.specs.Dictionaries.{Dictionary, IsDictionary, system_in}
use Rattle.market_model.specs.declared.participants.Parts.{Parts}
use Rattle.market_model.specs.Dispatch.{Dispatch}
use Rattle.price_system.specs.declared.variables.Variable.{Variable}
use Rattle.price_system.specs.declared.variables.Variable.TheVariants.{Block, Sum}
use Rattle.price_system.specs.PriceSystem.{Caps, block_name, name}
use Rattle.price_dict.specs.Holding.{HasPutIn}
use Rattle.price_dict.specs.Reached.{columns_put, reached_system}

-- a block before a place that is marked
abbrev pub IsMarked : List Bool → ℕ → ℕ → Type 0
IsMarked marks upto j = (j < upto) × (slice_index_or marks j false ≡ true)

-- these prices were put in as its columns, and as its rows their sum and what a MW is worth of some blocks before a place, each of them marked
pub record HoldsMarked (m : Parts) (columns : List Variable) (marks : List Bool) (upto : ℕ) (d : Dictionary) : Type 0 where
  pub blocks : List ℕ
  pub marked : (j : ℕ) → Contains blocks j → IsMarked marks upto j
  pub put : HasPutIn m columns (Sum ∷ map Block blocks) d
  pub basics : d.basics ≡ d.rows

-- the name of a block's row, where the block is marked
pub record IsMarkedRow (m : Parts) (marks : List Bool) (row : ℕ) : Type 0 where
  pub block : ℕ
  pub within : block < length m.blocks
  pub marked : slice_index_or marks block false ≡ true
  pub named : row ≡ block_name m block

-- Its other variables are the prices that may be other than 0. Each point of the rows of the system of prices without those that have to be 0 meets its
-- rows, of which all behind the first are those of marked blocks.
pub record HoldsMarkedRows (m : Parts) (x : Dispatch) (marks : List Bool) (d : Dictionary) : Type 0 where
  pub live : d.spent ≡ false
  pub sound : IsDictionary d
  pub others : d.others ≡ map (name m) (columns_put m x)
  pub points : (c : Caps) (v : ℕ → Fraction) → MeetsRows (reached_system m x c) v → MeetsRows (system_in d) v
  pub blocks : (i : ℕ) → 0 < i → i < length d.basics → IsMarkedRow m marks (slice_index d.basics i)
