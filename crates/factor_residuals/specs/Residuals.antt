-- The residuals of shift factors and of line outage factors: the greatest, and the first that rounding does not explain.
use Rattle.std.specs.Prelude.{◌≡◌, ℕ, zero, suc, ◌*◌, ◌<◌, ◌≤◌, ℤ, pos, unsigned_abs, Bool, List, [], ◌∷◌, ◌++◌, length, map, All, Contains, Some, MatchOption}
use Rattle.std.specs.Int.Signed.{lt_z}
use Rattle.std.specs.List.{find, flat_map, AllZip}
use Rattle.market_data.specs.Scales.{most_scaled_reactance, place_step}
use Rattle.net_case.specs.Networks.{LiveNetwork}
use Rattle.net_case.specs.declared.live_parts.NetBranch.{NetBranch}
use Rattle.net_paths.specs.Connection.{bus_number}
use Rattle.net_paths.specs.Loops.{kept, AreLoops}
use Rattle.net_paths.specs.declared.loops_of_tree.Member.{Member}
use Rattle.factor_tables.specs.Factors.{FactorRecords, factor_at}
use Rattle.factor_residuals.specs.Kirchhoff.{Column, bus_spot, loop_spot, reactance_at}
use Rattle.factor_residuals.specs.declared.spots.Spot.{Spot}
use Rattle.factor_residuals.specs.declared.spots.Residual.{Residual}

-- ---- of some spots
-- the size exceeds the bound, which is in a tenth of the value's unit
abbrev pub exceeds : Spot → Bool
exceeds s = lt_z s.bound (pos (unsigned_abs s.value * 10))

-- the first of greatest size
pub record IsMost (spots : List Spot) (s : Spot) : Type 0 where
  pub before : List Spot
  pub after : List Spot
  pub split : spots ≡ before ++ s ∷ after
  pub above : All (λ t. unsigned_abs t.value < unsigned_abs s.value) before
  pub least : All (λ t. unsigned_abs t.value ≤ unsigned_abs s.value) after

pub record IsResidual (spots : List Spot) (residual : Residual) : Type 0 where
  pub most : MatchOption residual.most (spots ≡ []) (IsMost spots)
  pub over : residual.over ≡ find exceeds spots

-- ---- the columns
-- the numbers from 0 below n
abbrev pub places_below : ℕ → List ℕ
places_below zero = []
places_below (suc n) = places_below n ++ n ∷ []

-- one MW from the bus at a place to the reference, by a table's shift factors
abbrev pub shift_column : LiveNetwork → FactorRecords → ℕ → Column
shift_column network shift i = record {
  name = bus_number network i;
  flow = λ row. factor_at shift.entries (row, bus_number network i);
  step = place_step shift.places;
  branches = network.branches;
  source = i;
  sink = network.reference;
}

-- one MW from F_BUS to T_BUS of the branch that was lost, over the others, by a table's outage factors
abbrev pub outage_column : LiveNetwork → FactorRecords → NetBranch → Column
outage_column network loss k = record {
  name = k.row;
  flow = λ row. factor_at loss.entries (row, k.row);
  step = place_step loss.places;
  branches = kept (Some k.row) network.branches;
  source = k.from;
  sink = k.to;
}

-- ---- the residuals, column by column
abbrev pub bus_spots : LiveNetwork → Column → List Spot
bus_spots network c = map (bus_spot network c) (places_below (length network.buses))

abbrev pub loop_spots : LiveNetwork → List ℤ → List (List Member) → Column → List Spot
loop_spots network xs loops c = map (loop_spot (reactance_at network xs) c) loops

abbrev pub shift_columns : LiveNetwork → FactorRecords → List Column
shift_columns network shift = map (shift_column network shift) (places_below (length network.buses))

-- at the buses, of shift factors
abbrev pub IsBusResidual : LiveNetwork → FactorRecords → Residual → Type 0
IsBusResidual network shift residual = IsResidual (flat_map (bus_spots network) (shift_columns network shift)) residual

-- round the loops, of shift factors
pub record IsLoopResidual (network : LiveNetwork) (xs : List ℤ) (shift : FactorRecords) (residual : Residual) : Type 0 where
  pub loops : List (List Member)
  pub are : AreLoops network.branches loops
  pub is : IsResidual (flat_map (loop_spots network xs loops) (shift_columns network shift)) residual

-- these are the live branches of the listed rows, in their order
abbrev pub AreLost : LiveNetwork → List ℕ → List NetBranch → Type 0
AreLost network outages lost = AllZip (λ row branch. Contains network.branches branch × (branch.row ≡ row)) outages lost

-- at the buses, of outage factors
pub record IsOutageBusResidual (network : LiveNetwork) (loss : FactorRecords) (outages : List ℕ) (residual : Residual) : Type 0 where
  pub lost : List NetBranch
  pub are : AreLost network outages lost
  pub is : IsResidual (flat_map (λ k. bus_spots network (outage_column network loss k)) lost) residual

-- the spots round the loops that are left without each lost branch
pub data AreOutageLoopSpots (network : LiveNetwork) (xs : List ℤ) (loss : FactorRecords) : List NetBranch → List Spot → Type 0 where
  none : AreOutageLoopSpots network xs loss [] []
  more : (lost : List NetBranch) (spots : List Spot) (k : NetBranch) (loops : List (List Member)) → AreOutageLoopSpots network xs loss lost spots
      → AreLoops (kept (Some k.row) network.branches) loops
      → AreOutageLoopSpots network xs loss (lost ++ k ∷ []) (spots ++ loop_spots network xs loops (outage_column network loss k))

-- round the loops, of outage factors
pub record IsOutageLoopResidual (network : LiveNetwork) (xs : List ℤ) (loss : FactorRecords) (outages : List ℕ) (residual : Residual) : Type 0 where
  pub lost : List NetBranch
  pub are : AreLost network outages lost
  pub spots : List Spot
  pub spots_are : AreOutageLoopSpots network xs loss lost spots
  pub is : IsResidual spots residual

-- ---- what they are of
-- each live branch has a reactance times ratio, which is not too great
pub record AreReactances (network : LiveNetwork) (xs : List ℤ) : Type 0 where
  pub count : length xs ≡ length network.branches
  pub sizes : All (λ x. unsigned_abs x ≤ most_scaled_reactance) xs
