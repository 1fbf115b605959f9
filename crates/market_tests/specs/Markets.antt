-- The parts of the markets of the tests.
use Rattle.std.specs.Prelude.{ℕ, ℤ, pos, negsuc, List, [], ◌∷◌, Some, None, Bool, if◌then◌else◌}
use Rattle.market_data.specs.declared.participants.Bus.{Bus}
use Rattle.market_data.specs.declared.participants.Unit as unit
use Rattle.market_model.specs.declared.participants.Block.{Block}
use Rattle.market_model.specs.declared.participants.Factor.{Factor}
use Rattle.market_model.specs.declared.participants.Line.{Line}
use Rattle.market_model.specs.declared.participants.Parts.{Parts}
use Rattle.market_model.specs.declared.participants.Side.TheVariants.{Sell}
use Rattle.market_model.specs.Lines.{hard_line}
use Rattle.market_model.specs.Market.{bare_parts}

abbrev pub bus_of : ℕ → ℕ → Bus
bus_of number load = record { number = number; pd = pos load; gs = pos 0 }

-- ---- the triangle
abbrev pub factor_of : ℕ → ℕ → ℤ → Factor
factor_of line of value = record { line = line; of = of; value = value }

-- what it has beside its branches and outages
abbrev pub network : Parts
network = record (bare_parts (bus_of 1 0 ∷ bus_of 2 0 ∷ bus_of 3 0 ∷ []) [] []) {
  shift = factor_of 0 1 (negsuc 499999999) ∷ factor_of 0 2 (negsuc 249999999) ∷ factor_of 1 1 (negsuc 499999999) ∷ factor_of 1 2 (negsuc 749999999) ∷ [];
  loss = factor_of 1 0 (pos 1000000000) ∷ [];
}

abbrev pub lines : List Line
lines = hard_line 1 None None (pos 0) ∷ hard_line 2 (Some (pos 40)) (Some (pos 45)) (pos 0) ∷ hard_line 3 None (Some (pos 45)) (pos 0) ∷ []

abbrev pub outages : Bool → List ℕ
outages are_listed = if are_listed then 3 ∷ 1 ∷ [] else []

-- ---- the market with reserve
abbrev pub unit_of : ℕ → unit.Unit
unit_of row = record { row = row; bus = 0; fixed = pos 0; up = pos 100; down = pos 0 }

abbrev pub block_of : ℕ → ℕ → Block
block_of place price = record { unit = place; side = Sell; quantity = pos 100; price = pos price }

-- what it has beside its offers and its need
abbrev pub energy : Parts
energy = bare_parts (bus_of 1 60 ∷ []) (unit_of 1 ∷ unit_of 2 ∷ []) (block_of 0 10 ∷ block_of 1 30 ∷ [])
