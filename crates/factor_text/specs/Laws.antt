-- Which tables of factors obey the rules of a network, that their texts are read back, and how long these are.
use Rattle.std.specs.Prelude.{◌≡◌, ◌≢◌, ℕ, ◌+◌, ◌*◌, ◌≤◌, ℤ, pos, ◌*ℤ◌, Bool, true, List, All, length, unsigned_abs, Ok}
use Rattle.market_data.specs.Scales.{most_factor, place_step}
use Rattle.market_data.specs.declared.scales.FactorPlaces.{FactorPlaces}
use Rattle.net_case.specs.Networks.{IsNetwork, LiveNetwork, has_bus}
use Rattle.factor_tables.specs.declared.by_pair.Column.{Column}
use Rattle.factor_tables.specs.declared.by_pair.Column.TheVariants as column
use Rattle.factor_tables.specs.declared.made.MadeFactor.{MadeFactor}
use Rattle.factor_tables.specs.Factors.{Entry, FactorRecords, HasNoPairTwice, Pair}
use Rattle.factor_tables.specs.Made.{AreApart, AreInBounds, made_pair, made_table}
use Rattle.factor_tables.specs.Rules.{is_live_branch, is_live_bus, is_row}
use Rattle.factor_tables.specs.Tables.{table_of}
use Rattle.factor_text.specs.Texts.{factor_table_text}

-- whether a number of the second column names a bus of the case, or a branch row
abbrev pub is_second : Column → LiveNetwork → ℤ → Bool
is_second column.Bus network n = has_bus network n
is_second column.Outage network n = is_row network n

-- whether it names one that is live
abbrev pub is_live_second : Column → LiveNetwork → ℤ → Bool
is_live_second column.Bus network n = is_live_bus network n
is_live_second column.Outage network n = is_live_branch network n

-- A record obeys the rules where
pub record ObeysRules (kind : Column) (network : LiveNetwork) (places : FactorPlaces) (entry : Entry) : Type 0 where
  -- its numbers name a branch row of the case and a bus or another branch row,
  pub branch : is_row network (pos entry.0.0) ≡ true
  pub of : is_second kind network (pos entry.0.1) ≡ true
  -- which are both live, or its factor is 0,
  pub live : entry.1 ≢ pos 0 → (is_live_branch network (pos entry.0.0) ≡ true) × (is_live_second kind network (pos entry.0.1) ≡ true)
  -- and its factor is a whole number of units of the last of so many places, and is at most 1000.
  pub whole : (units : ℤ) × (entry.1 ≡ units *ℤ pos (place_step places))
  pub size : unsigned_abs entry.1 ≤ most_factor

-- each record of the table obeys the rules, and no pair stands twice
pub record IsTableOver (kind : Column) (network : LiveNetwork) (table : FactorRecords) : Type 0 where
  pub records : All (ObeysRules kind network table.places) table.entries
  pub once : HasNoPairTwice table.entries

-- what is written of such a table is read back as the table
abbrev pub TablesAreReadBack : Type 0
TablesAreReadBack = (kind : Column) (network : LiveNetwork) (table : FactorRecords) → IsNetwork network → IsTableOver kind network table → table_of kind network (factor_table_text kind table.entries) table.places ≡ Ok table

-- ---- how long a text is
-- the most bytes of a line: a row of 4 digits, a bus's number of 10, a factor of a sign, 4 digits, a point and 9 places, two commas and a line feed
abbrev pub most_table_line : ℕ
most_table_line = 32

-- the text of such a table has at most so many for the header and for each record
abbrev pub TablesAreShort : Type 0
TablesAreShort = (kind : Column) (network : LiveNetwork) (table : FactorRecords) → IsNetwork network → IsTableOver kind network table → length (factor_table_text kind table.entries) ≤ most_table_line * (1 + length table.entries)

-- ---- tables that are made
-- a pair names a branch row of the case and a bus or another branch row, both live
pub record NamesWhatIsLive (kind : Column) (network : LiveNetwork) (pair : Pair) : Type 0 where
  pub branch : is_row network (pos pair.0) ≡ true
  pub of : is_second kind network (pos pair.1) ≡ true
  pub live_branch : is_live_branch network (pos pair.0) ≡ true
  pub live_of : is_live_second kind network (pos pair.1) ≡ true

-- a table that is made of records whose pairs name what is live obeys the rules, so it is read back
abbrev pub MadeTablesAreReadBack : Type 0
MadeTablesAreReadBack =
    (kind : Column) (network : LiveNetwork) (places : FactorPlaces) (records : List MadeFactor) → IsNetwork network → AreApart records → AreInBounds places records
    → All (λ made. NamesWhatIsLive kind network (made_pair made)) records
    → IsTableOver kind network (made_table places records) × (table_of kind network (factor_table_text kind (made_table places records).entries) places ≡ Ok (made_table places records))
