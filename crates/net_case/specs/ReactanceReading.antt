-- The reactances of live branches that a case stands for, or the first fault.
use Rattle.std.specs.Prelude.{ℕ, ◌&&◌, ℤ, pos, neg_ℤ, ◌*ℤ◌, List, [], ◌∷◌, Result, Ok, Err, if◌then◌else◌}
use Rattle.std.specs.Int.Signed.{lt_z, le_z}
use Rattle.market_data.specs.Scales.{most_ratio, most_reactance, ratio_one, reactance_places}
use Rattle.record_reading.specs.Records.{Record}
use Rattle.record_reading.specs.Steps.{and_then}
use Rattle.case_text.specs.Matrices.{CaseMatrices}
use Rattle.case_text.specs.declared.Field.TheVariants as field
use Rattle.net_case.specs.Columns.{BR_X, TAP}
use Rattle.net_case.specs.Networks.{LiveNetwork}
use Rattle.net_case.specs.NetworkReading.{number_in, row_at}
use Rattle.net_case.specs.declared.live_parts.NetBranch.{NetBranch}
use Rattle.net_case.specs.declared.live_parts.NetFault.{NetFault}
use Rattle.net_case.specs.declared.live_parts.NetFault.TheVariants as fault
use Rattle.record_reading.specs.declared.Why.TheVariants as why

-- the number in a branch row's cell, from low to high
unfoldable pub bounded_in : ℕ → Record → ℕ → ℤ → ℤ → Result ℤ NetFault
bounded_in row r col low high =
    and_then (number_in field.Branch row r col reactance_places) (λ n.
    if le_z low n && le_z n high then Ok n else Err (fault.Cell field.Branch row col why.Bounds))

-- a TAP of 0 counts as a ratio of 1
abbrev pub ratio_of : ℤ → ℤ
ratio_of tap = if lt_z (pos 0) tap then tap else pos ratio_one

-- BR_X of a size of 1000 at most, times the ratio of a TAP from 0 to 10
unfoldable pub reactance_in : ℕ → Record → Result ℤ NetFault
reactance_in row r =
    and_then (bounded_in row r BR_X (neg_ℤ (pos most_reactance)) (pos most_reactance)) (λ x.
    and_then (bounded_in row r TAP (pos 0) (pos most_ratio)) (λ tap.
    Ok (x *ℤ ratio_of tap)))

-- the reactance of each branch, in their order
unfoldable pub reactances_in : List Record → List NetBranch → Result (List ℤ) NetFault
reactances_in matrix [] = Ok []
reactances_in matrix (b ∷ branches) =
    and_then (reactance_in b.row (row_at matrix b.row)) (λ x.
    and_then (reactances_in matrix branches) (λ list. Ok (x ∷ list)))

abbrev pub reactances_of : CaseMatrices → LiveNetwork → Result (List ℤ) NetFault
reactances_of case network = reactances_in case.branch network.branches
