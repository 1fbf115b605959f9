-- What blocks, units and buses do at a dispatch.
-- Wood and Wollenberg, Power Generation, Operation and Control: economic dispatch over a network whose demands are fixed.
-- GS, a demand at a voltage of 1 per unit: MATPOWER User's Manual.
use Rattle.std.specs.Prelude.{◌≡◌, ℕ, ◌==◌, ◌<◌, pos, List, [], ◌∷◌, ◌++◌, length, map, filter, slice_index_or, replicate, None, ℤ, Option}
use Rattle.std.specs.List.{position, range_with_len}
use Rattle.std.specs.Ordering.{int_eq}
use Rattle.fraction_theory.specs.Fraction.{Fraction, whole, neg_ℚ}
use Rattle.fraction_theory.specs.Order.{◌≤ℚ◌}
use Rattle.fraction_theory.specs.Sums.{Term, Plain, total}
use Rattle.market_data.specs.declared.participants.Bus.{Bus}
use Rattle.market_data.specs.declared.participants.Unit as unit
use Rattle.market_model.specs.declared.participants.Block.{Block}
use Rattle.market_model.specs.declared.participants.Line.{Line}
use Rattle.market_model.specs.declared.participants.ReserveOffer.{ReserveOffer}
use Rattle.market_model.specs.Lines.{hard_line}
use Rattle.market_model.specs.declared.participants.Side.{Side}
use Rattle.market_model.specs.declared.participants.Side.TheVariants.{Sell, Buy}
use Rattle.market_model.specs.declared.participants.Parts.{Parts}
use Rattle.market_model.specs.NamedSums.{two_terms}

abbrev pub zero : Fraction
zero = whole (pos 0)

-- the places of a list of so many
abbrev pub places : ℕ → List ℕ
places n = range_with_len 0 n

-- parts by place; a place past the end stands for a part of zeros
abbrev pub bus_at : Parts → ℕ → Bus
bus_at m i = slice_index_or m.buses i (record { number = 0; pd = pos 0; gs = pos 0 })

-- the place of the bus of a number, where there is one
unfoldable pub place_of_bus : List Bus → ℤ → Option ℕ
place_of_bus buses number = position (λ bus. int_eq (pos bus.number) number) buses

abbrev pub unit_at : Parts → ℕ → unit.Unit
unit_at m u = slice_index_or m.units u (record { row = 0; bus = 0; fixed = pos 0; up = pos 0; down = pos 0 })

abbrev pub block_at : Parts → ℕ → Block
block_at m j = slice_index_or m.blocks j (record { unit = 0; side = Sell; quantity = pos 0; price = pos 0 })

abbrev pub line_at : Parts → ℕ → Line
line_at m l = slice_index_or m.lines l (hard_line 0 None None (pos 0))

abbrev pub offer_at : Parts → ℕ → ReserveOffer
offer_at m n = slice_index_or m.reserve.offers n (record { unit = 0; quantity = pos 0; price = pos 0 })

-- the bus of a block's unit
abbrev pub block_bus : Parts → ℕ → ℕ
block_bus m j = (unit_at m (block_at m j).unit).bus

-- what is sold counts up, what is bought counts down
abbrev pub signed_by_side : Side → Fraction → Fraction
signed_by_side Sell x = x
signed_by_side Buy x = neg_ℚ x

-- the accepted MW of each block, and of each offer of reserve
pub record Dispatch : Type 0 where
  pub blocks : List Fraction
  pub reserve : List Fraction

-- the dispatch that accepts so many MW of each block, and so many of each offer of reserve
abbrev pub dispatch_with : List Fraction → List Fraction → Dispatch
dispatch_with mws reserve = record { blocks = mws; reserve = reserve }

-- the same of energy alone
abbrev pub dispatch_by : List Fraction → Dispatch
dispatch_by mws = dispatch_with mws []

-- the accepted MW of a block
abbrev pub accepted : Dispatch → ℕ → Fraction
accepted x j = slice_index_or x.blocks j zero

abbrev pub quantity : Parts → ℕ → Fraction
quantity m j = whole (block_at m j).quantity

-- the accepted MW of an offer of reserve
abbrev pub reserved : Dispatch → ℕ → Fraction
reserved x n = slice_index_or x.reserve n zero

abbrev pub reserve_quantity : Parts → ℕ → Fraction
reserve_quantity m n = whole (offer_at m n).quantity

-- one number for each block and for each offer of reserve, from 0 to its quantity
pub record IsDispatch (m : Parts) (x : Dispatch) : Type 0 where
  pub count : length x.blocks ≡ length m.blocks
  pub above : (j : ℕ) → j < length m.blocks → zero ≤ℚ accepted x j
  pub within : (j : ℕ) → j < length m.blocks → accepted x j ≤ℚ quantity m j
  pub reserve_count : length x.reserve ≡ length m.reserve.offers
  pub reserve_above : (n : ℕ) → n < length m.reserve.offers → zero ≤ℚ reserved x n
  pub reserve_within : (n : ℕ) → n < length m.reserve.offers → reserved x n ≤ℚ reserve_quantity m n

-- nothing accepted
abbrev pub empty : Parts → Dispatch
empty m = dispatch_with (replicate (length m.blocks) zero) (replicate (length m.reserve.offers) zero)

-- by how much a block's acceptance raises its unit's output
abbrev pub raised_by : Parts → Dispatch → ℕ → Fraction
raised_by m x j = signed_by_side (block_at m j).side (accepted x j)

abbrev pub units_at : Parts → ℕ → List ℕ
units_at m i = filter (λ u. (unit_at m u).bus == i) (places (length m.units))

abbrev pub blocks_at : Parts → ℕ → List ℕ
blocks_at m i = filter (λ j. block_bus m j == i) (places (length m.blocks))

abbrev pub blocks_of : Parts → ℕ → List ℕ
blocks_of m u = filter (λ j. (block_at m j).unit == u) (places (length m.blocks))

abbrev pub fixed_term : Parts → ℕ → Term
fixed_term m u = Plain (whole (unit_at m u).fixed)

abbrev pub block_term : Parts → Dispatch → ℕ → Term
block_term m x j = Plain (raised_by m x j)

-- what a bus puts into the network: the fixed parts of its units, plus what their sell blocks sell, less what their buy
-- blocks buy, less its load and its shunt
abbrev pub injection_terms : Parts → Dispatch → ℕ → List Term
injection_terms m x i =
    map (fixed_term m) (units_at m i)
    ++ map (block_term m x) (blocks_at m i)
    ++ (Plain (neg_ℚ (whole (bus_at m i).pd)) ∷ Plain (neg_ℚ (whole (bus_at m i).gs)) ∷ [])

unfoldable pub injection : Parts → Dispatch → ℕ → Fraction
injection m x i = total (injection_terms m x i)

abbrev pub balance_terms : Parts → Dispatch → List Term
balance_terms m x = map (λ i. Plain (injection m x i)) (places (length m.buses))

-- what all buses put in
unfoldable pub balance : Parts → Dispatch → Fraction
balance m x = total (balance_terms m x)

-- a unit's output: its fixed part, plus what it sells, less what it buys
abbrev pub output_terms : Parts → Dispatch → ℕ → List Term
output_terms m x u = fixed_term m u ∷ map (block_term m x) (blocks_of m u)

unfoldable pub output : Parts → Dispatch → ℕ → Fraction
output m x u = total (output_terms m x u)

-- a bus's demand
abbrev pub demand_terms : Parts → ℕ → List Term
demand_terms m i = two_terms (whole (bus_at m i).pd) (whole (bus_at m i).gs)

unfoldable pub demand : Parts → ℕ → Fraction
demand m i = total (demand_terms m i)
