-- What the numbers of a record may name, and the faults that a record may have.
use Rattle.std.specs.Prelude.{ℕ, ◌≤◌, ◌==◌, ◌&&◌, not, ℤ, pos, ◌≤ℤ◌, Bool, List, [], ◌∷◌, unsigned_abs, is_some}
use Rattle.std.specs.Int.Signed.{le_z}
use Rattle.net_case.specs.Networks.{LiveNetwork, branch_place, bus_place, has_bus, most_bus_number}
use Rattle.market_data.specs.Scales.{most_lines}
use Rattle.factor_tables.specs.declared.by_pair.Column.{Column}
use Rattle.factor_tables.specs.declared.by_pair.Column.TheVariants as column
use Rattle.factor_tables.specs.declared.cells.FactorRecord.{FactorRecord}
use Rattle.factor_tables.specs.declared.table_fault.TableFault.{TableFault}
use Rattle.factor_tables.specs.declared.table_fault.TableFault.TheVariants as fault
use Rattle.factor_tables.specs.Factors.{Pair}

-- ---- what a number names
-- a branch row, live or not
abbrev pub is_row : LiveNetwork → ℤ → Bool
is_row network n = le_z (pos 1) n && le_z n (pos network.branch_rows)

abbrev pub is_live_branch : LiveNetwork → ℤ → Bool
is_live_branch network n = is_some (branch_place network n)

abbrev pub is_live_bus : LiveNetwork → ℤ → Bool
is_live_bus network n = is_some (bus_place network n)

-- ---- the rules of a record
-- a factor or an offset that is not 0
abbrev pub is_used : ℤ → Bool
is_used amount = not (unsigned_abs amount == 0)

unfoldable pub shift_faults : LiveNetwork → ℕ → FactorRecord → List (Bool × TableFault)
shift_faults network line r =
    (not (is_row network r.branch), fault.NoBranch line)
    ∷ (not (has_bus network r.of), fault.NoBus line)
    ∷ (is_used r.factor && not (is_live_branch network r.branch), fault.DeadBranch line)
    ∷ (is_used r.factor && not (is_live_bus network r.of), fault.DeadBus line)
    ∷ []

unfoldable pub loss_faults : LiveNetwork → ℕ → FactorRecord → List (Bool × TableFault)
loss_faults network line r =
    (not (is_row network r.branch), fault.NoBranch line)
    ∷ (not (is_row network r.of), fault.NoBranch line)
    ∷ (is_used r.factor && not (is_live_branch network r.branch), fault.DeadBranch line)
    ∷ (is_used r.factor && not (is_live_branch network r.of), fault.DeadBranch line)
    ∷ []

abbrev pub record_faults : Column → LiveNetwork → ℕ → FactorRecord → List (Bool × TableFault)
record_faults column.Bus network line r = shift_faults network line r
record_faults column.Outage network line r = loss_faults network line r

-- the pair of a record whose numbers name rows
abbrev pub pair_of : FactorRecord → Pair
pair_of r = (unsigned_abs r.branch, unsigned_abs r.of)

-- a number of the second column, of a bus or of one of so many branch rows
abbrev pub IsSecond : Column → ℕ → ℤ → Type 0
IsSecond column.Bus rows n = (pos 1 ≤ℤ n) × (n ≤ℤ pos most_bus_number)
IsSecond column.Outage rows n = (pos 1 ≤ℤ n) × (n ≤ℤ pos rows)

-- a number that names one of so many branch rows
pub record IsRowOf (rows : ℕ) (n : ℤ) : Type 0 where
  pub least : pos 1 ≤ℤ n
  pub most : n ≤ℤ pos rows
  pub few : rows ≤ most_lines

-- numbers that name rows, of which there are so many of branches
pub record IsRecordPair (kind : Column) (rows : ℕ) (r : FactorRecord) : Type 0 where
  pub least : pos 1 ≤ℤ r.branch
  pub most : r.branch ≤ℤ pos rows
  pub of : IsSecond kind rows r.of
  pub few : rows ≤ most_lines
