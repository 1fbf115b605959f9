-- Worked cases: one with its live network, and others that have none.
use Rattle.std.specs.Prelude.{ℕ, pos, neg_ℤ, true, false, List, [], ◌∷◌, codes, ◌==◌, Some, None}
use Rattle.std.specs.List.{slice_split}
use Rattle.record_reading.specs.Records.{Record}
use Rattle.case_text.specs.Matrices.{CaseMatrices}
use Rattle.net_case.specs.Networks.{LiveNetwork}
use Rattle.net_case.specs.declared.live_parts.Branches.TheVariants.{Read, Skip}
use Rattle.net_case.specs.declared.live_parts.PostRating.TheVariants as post
use Rattle.network_meaning.specs.LiveNetworks.{IsLiveNetwork}

-- the cells of a row, with a blank between each and the next
abbrev pub cells : List ℕ → Record
cells row = slice_split (λ byte. byte == 32) row

-- ---- A bus of type 4, units that its bus or their status take out of service, and a branch that its bus does.
abbrev pub worked : CaseMatrices
worked = record {
  bus =
      cells (codes "7 3 60 0 1.5 0 1 1 0 230 1 1.1 0.9")
      ∷ cells (codes "2 4 NaN 0 Inf 0 1 1 0 230 1 1.1 0.9")
      ∷ cells (codes "3e1 3 -.5e-8 0 0 0 1 1 0 230 1 1.1 0.9")
      ∷ [];
  generators =
      cells (codes "30 0 0 0 0 1 100 1 100 -20")
      ∷ cells (codes "2 0 0 0 0 1 100 1 Inf 0")
      ∷ cells (codes "7 0 0 0 0 1 100 -1 5 9")
      ∷ cells (codes "7 0 0 0 0 1 100 1e-99 80 20")
      ∷ [];
  branch =
      cells (codes "7 30 0 0.2 0 40 Inf 0 0 0 1")
      ∷ cells (codes "7 2 0 0.1 0 -1 -1 -1 0 0 1")
      ∷ cells (codes "30 7 0 0.1 0 +inf 35.5 -1 0 -0.5 1")
      ∷ [];
}

abbrev pub worked_network : LiveNetwork
worked_network = record {
  buses = record { number = 7; pd = pos 60000000000; gs = pos 1500000000 } ∷ record { number = 30; pd = neg_ℤ (pos 5); gs = pos 0 } ∷ [];
  units =
      record { row = 1; bus = 1; low = neg_ℤ (pos 20000000000); high = pos 100000000000 }
      ∷ record { row = 4; bus = 0; low = pos 20000000000; high = pos 80000000000 }
      ∷ [];
  branches =
      record { row = 1; from = 0; to = 1; base = Some (pos 40000000000); post = None; shifted = false }
      ∷ record { row = 3; from = 1; to = 0; base = None; post = Some (pos 35500000000); shifted = true }
      ∷ [];
  reference = 0;
  gen_rows = 4;
  branch_rows = 3;
  bus_rows = (7, Some 0) ∷ (2, None) ∷ (30, Some 1) ∷ [];
}

-- without branch rows
abbrev pub worked_pool : LiveNetwork
worked_pool = record worked_network { branches = []; branch_rows = 0 }

-- ---- Cases of a reference at bus 7, another bus row, a gen row and a branch row.
abbrev pub with_rows : Record → Record → Record → CaseMatrices
with_rows bus generator branch = record {
  bus = cells (codes "7 3 60 0 0 0 1 1 0 230 1 1.1 0.9") ∷ bus ∷ [];
  generators = generator ∷ [];
  branch = branch ∷ [];
}

abbrev pub some_bus : Record
some_bus = cells (codes "8 1 0 0 0 0 1 1 0 230 1 1.1 0.9")

abbrev pub some_unit : Record
some_unit = cells (codes "8 0 0 0 0 1 100 1 100 0")

abbrev pub some_branch : Record
some_branch = cells (codes "7 8 0 0.2 0 0 0 0 0 0 1")

-- a unit and a branch out of service at the first bus alone, so that the other row is the one at fault
abbrev pub first_unit : Record
first_unit = cells (codes "7 0 0 0 0 1 100 1 100 0")

abbrev pub first_branch : Record
first_branch = cells (codes "7 7 0 0.2 0 0 0 0 0 0 0")

abbrev pub HasNone : CaseMatrices → Type 0
HasNone case = (network : LiveNetwork) → IsLiveNetwork (Read post.C) case network → ⊥

pub record WorkedCases : Type 0 where
  pub network : IsLiveNetwork (Read post.B) worked worked_network
  pub pool : IsLiveNetwork Skip worked worked_pool
  -- the number of a bus again
  pub bus_twice : HasNone (with_rows (cells (codes "7.0 1 0 0 0 0 1 1 0 230 1 1.1 0.9")) first_unit first_branch)
  -- a number that is not whole, one that is too large, and a type that there is not
  pub part_number : HasNone (with_rows (cells (codes "8.5 1 0 0 0 0 1 1 0 230 1 1.1 0.9")) first_unit first_branch)
  pub large_number : HasNone (with_rows (cells (codes "2147483648 1 0 0 0 0 1 1 0 230 1 1.1 0.9")) first_unit first_branch)
  pub unknown_type : HasNone (with_rows (cells (codes "8 5 0 0 0 0 1 1 0 230 1 1.1 0.9")) some_unit some_branch)
  -- a load that is finer than its unit
  pub fine_load : HasNone (with_rows (cells (codes "8 1 0.0000000005 0 0 0 1 1 0 230 1 1.1 0.9")) some_unit some_branch)
  -- no row of type 3
  pub no_reference : HasNone (record { bus = some_bus ∷ []; generators = []; branch = [] })
  -- a unit and a branch out of service, of buses that have no row
  pub no_bus : HasNone (with_rows some_bus (cells (codes "9 0 0 0 0 1 100 0 100 0")) some_branch)
  pub no_end : HasNone (with_rows some_bus some_unit (cells (codes "7 9 0 0.2 0 0 0 0 0 0 0")))
  -- PMIN above PMAX
  pub least_above_most : HasNone (with_rows some_bus (cells (codes "8 0 0 0 0 1 100 1 100 100.5")) some_branch)
  -- a branch whose ends are one bus
  pub one_end : HasNone (with_rows some_bus some_unit (cells (codes "8 8 0 0.2 0 0 0 0 0 0 1")))
  -- ratings below 0, and one that is no number
  pub below_zero : HasNone (with_rows some_bus some_unit (cells (codes "7 8 0 0.2 0 -40 0 0 0 0 1")))
  pub below_all : HasNone (with_rows some_bus some_unit (cells (codes "7 8 0 0.2 0 0 0 -Inf 0 0 1")))
  pub not_a_number : HasNone (with_rows some_bus some_unit (cells (codes "7 8 0 0.2 0 NaN 0 0 0 0 1")))
