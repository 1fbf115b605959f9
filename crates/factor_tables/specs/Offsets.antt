-- What the table of offsets stands for: the list of its records, or the first fault.
use Rattle.std.specs.Prelude.{ℕ, ◌==◌, ◌&&◌, not, ℤ, Bool, List, [], ◌∷◌, All, codes, is_some, unsigned_abs, if◌then◌else◌, Option, None, Result, Ok, Err}
use Rattle.std.specs.List.{find}
use Rattle.std.specs.Map.{lookup}
use Rattle.std.specs.Option.{option_map_or}
use Rattle.record_reading.specs.Records.{Record}
use Rattle.record_reading.specs.Steps.{and_then, checked, fine}
use Rattle.record_reading.specs.Gathering.{read_records}
use Rattle.csv_table.specs.Table.{framed}
use Rattle.market_data.specs.Participants.{IsDatum}
use Rattle.net_case.specs.Networks.{LiveNetwork}
use Rattle.net_case.specs.declared.live_parts.NetBranch.{NetBranch}
use Rattle.factor_tables.specs.declared.cells.OffsetRecord.{OffsetRecord}
use Rattle.factor_tables.specs.declared.table_fault.TableFault.{TableFault}
use Rattle.factor_tables.specs.declared.table_fault.TableFault.TheVariants as fault
use Rattle.factor_tables.specs.Records.{offset_in}
use Rattle.factor_tables.specs.Rules.{is_live_branch, is_row, is_used}

-- a record: a branch's row, and its offset
abbrev pub OffsetEntry : Type 0
OffsetEntry = ℕ × ℤ

-- the offset of the record of a branch, where there is one
abbrev pub offset_at : List OffsetEntry → ℕ → Option ℤ
offset_at entries row = lookup (λ other. row == other) entries

abbrev pub has_offset : List OffsetEntry → ℕ → Bool
has_offset entries row = is_some (offset_at entries row)

abbrev pub AreOffsets : List OffsetEntry → Type 0
AreOffsets entries = All (λ entry. IsDatum entry.1) entries

unfoldable pub offset_faults : LiveNetwork → ℕ → OffsetRecord → List (Bool × TableFault)
offset_faults network line r =
    (not (is_row network r.branch), fault.NoBranch line)
    ∷ (is_used r.mw && not (is_live_branch network r.branch), fault.DeadBranch line)
    ∷ []

-- the row and the offset of a record behind others: its numbers, then what they name, then whether the row stood before
unfoldable pub offset_entry : LiveNetwork → List OffsetEntry → ℕ → Record → Result OffsetEntry TableFault
offset_entry network done line r =
    and_then (offset_in line r) (λ numbers.
    and_then (checked (offset_faults network line numbers) fine) (λ _.
    if has_offset done (unsigned_abs numbers.branch) then Err (fault.Twice line) else Ok (unsigned_abs numbers.branch, numbers.mw)))

-- a branch that shifts phases and has no record
abbrev pub wants_offset : List OffsetEntry → NetBranch → Bool
wants_offset entries branch = branch.shifted && not (has_offset entries branch.row)

-- the records, where no live branch wants one
abbrev pub with_all_offsets : LiveNetwork → List OffsetEntry → Result (List OffsetEntry) TableFault
with_all_offsets network entries = option_map_or (λ branch. Err (fault.NoOffset branch.row)) (find (wants_offset entries) network.branches) (Ok entries)

abbrev pub offset_header : Record
offset_header = codes "branch" ∷ codes "mw" ∷ []

unfoldable pub offsets_of : LiveNetwork → List ℕ → Result (List OffsetEntry) TableFault
offsets_of network bytes = and_then (and_then (framed fault.Frame offset_header None bytes) (read_records (offset_entry network) [] 2)) (with_all_offsets network)
