use Rattle.std.proofs.Common.{◌≡◌, ℕ, List, Some, true}
use Rattle.csv.specs.Reading.{default_config, is_flexible, source_of, strip_bom, Reached, Ready}
use Rattle.csv.specs.declared.parser.State.TheVariants as st
use Rattle.csv.specs.declared.reader.Trim.TheVariants as trim
use Rattle.csv_table.specs.Records.{IsFlat, records_in}
use Rattle.csv_table.proofs.records_of.Given as goal

-- the records so far are the records up to where the reader stands, and the reader is as it was set up: it trims nothing, takes no
-- record for a header, and lets records of any width by
abbrev pub invariant-records : goal.invariant-records
invariant-records l = (l.reader.trim ≡ trim.None) × Ready l.reader × (l.reader.config ≡ default_config)
    × (left : List ℕ) × (source_of (λ rest. Some rest.now) l.reader ≡ Some left)
    × Reached default_config st.StartRecord (strip_bom l.fn.bytes) (records_in l.records) l.reader.state left
    × (is_flexible l.reader ≡ true)
    × IsFlat l.records
