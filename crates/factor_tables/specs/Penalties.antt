-- What the table of penalties stands for: the list of its records, or the first fault.
use Rattle.std.specs.Prelude.{◌≢◌, ℕ, ◌==◌, ◌&&◌, ◌||◌, not, ℤ, pos, ◌<ℤ◌, ◌≤ℤ◌, Bool, List, [], ◌∷◌, All, AllPairs, codes, is_some, unsigned_abs, if◌then◌else◌, Option, Some, Result, Ok, Err}
use Rattle.std.specs.Int.Signed.{le_z, lt_z}
use Rattle.std.specs.List.{list_any}
use Rattle.std.specs.Map.{lookup}
use Rattle.std.specs.Ordering.{int_eq}
use mathlib.Core.Bool.{beq}
use Rattle.record_reading.specs.Records.{Record}
use Rattle.record_reading.specs.Steps.{and_then, checked, fine}
use Rattle.record_reading.specs.Gathering.{read_records}
use Rattle.csv_table.specs.Table.{framed}
use Rattle.market_data.specs.Participants.{IsDatum}
use Rattle.market_data.specs.Scales.{most_penalties}
use Rattle.net_case.specs.Networks.{LiveNetwork}
use Rattle.net_case.specs.declared.live_parts.NetBranch.{NetBranch}
use Rattle.factor_tables.specs.declared.cells.PenaltyRecord.{PenaltyRecord}
use Rattle.factor_tables.specs.declared.penalty_list.Softness.{Softness}
use Rattle.factor_tables.specs.declared.table_fault.TableFault.{TableFault}
use Rattle.factor_tables.specs.declared.table_fault.TableFault.TheVariants as fault
use Rattle.factor_tables.specs.Records.{penalty_in}
use Rattle.factor_tables.specs.Rules.{is_row}

-- ---- what the table holds
-- a limit: its branch's row, and whether it is the one after an outage
abbrev pub Limit : Type 0
Limit = ℕ × Bool

-- a record: a limit, and its penalty
abbrev pub PenaltyEntry : Type 0
PenaltyEntry = Limit × Softness

abbrev pub same_limit : Limit → Limit → Bool
same_limit a b = (a.0 == b.0) && beq a.1 b.1

-- the penalty of the record of a limit, where there is one
abbrev pub softness_at : List PenaltyEntry → Limit → Option Softness
softness_at entries limit = lookup (same_limit limit) entries

abbrev pub has_penalty : List PenaltyEntry → Limit → Bool
has_penalty entries limit = is_some (softness_at entries limit)

-- a price above 0, for an excess that is not below 0
pub record IsSoftness (softness : Softness) : Type 0 where
  pub costs : pos 0 <ℤ softness.price
  pub exceeds : pos 0 ≤ℤ softness.most_excess
  pub price : IsDatum softness.price
  pub excess : IsDatum softness.most_excess

-- each record has a penalty, and no limit stands twice
pub record ArePenalties (entries : List PenaltyEntry) : Type 0 where
  pub kept : All (λ entry. IsSoftness entry.1) entries
  pub once : AllPairs (λ a b. a.0 ≢ b.0) entries

-- ---- the rules of a record
abbrev pub branch_limit : Bool → NetBranch → Option ℤ
branch_limit post branch = if post then branch.post else branch.base

-- whether a live branch of this row has such a limit
abbrev pub has_branch_limit : LiveNetwork → ℤ → Bool → Bool
has_branch_limit network row post = list_any (λ branch. int_eq (pos branch.row) row && is_some (branch_limit post branch)) network.branches

unfoldable pub penalty_faults : LiveNetwork → ℕ → PenaltyRecord → List (Bool × TableFault)
penalty_faults network line r =
    (not (is_row network r.branch), fault.NoBranch line)
    ∷ (not (has_branch_limit network r.branch r.post), fault.NoLimit line)
    ∷ (le_z r.softness.price (pos 0) || lt_z r.softness.most_excess (pos 0), fault.Penalty line)
    ∷ []

-- the limit of a record whose number names a row
abbrev pub limit_named : PenaltyRecord → Limit
limit_named r = (unsigned_abs r.branch, r.post)

-- the limit and the penalty of a record behind others: its word and its numbers, then what they name, then whether the limit stood
-- before
unfoldable pub penalty_entry : LiveNetwork → List PenaltyEntry → ℕ → Record → Result PenaltyEntry TableFault
penalty_entry network done line r =
    and_then (penalty_in line r) (λ numbers.
    and_then (checked (penalty_faults network line numbers) fine) (λ _.
    if has_penalty done (limit_named numbers) then Err (fault.Twice line) else Ok (limit_named numbers, numbers.softness)))

-- ---- the table
abbrev pub penalty_header : Record
penalty_header = codes "branch" ∷ codes "limit" ∷ codes "price" ∷ codes "excess" ∷ []

unfoldable pub penalties_of : LiveNetwork → List ℕ → Result (List PenaltyEntry) TableFault
penalties_of network bytes = and_then (framed fault.Frame penalty_header (Some most_penalties) bytes) (read_records (penalty_entry network) [] 2)
