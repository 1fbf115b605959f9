-- From a table as a whole to its records.
use Rattle.std.proofs.Common.{◌≡◌, ℕ, List, Option, Result, Ok, Err, refl}
use Rattle.record_reading.specs.Records.{Record}
use Rattle.record_reading.specs.Steps.{and_then}
use Rattle.record_reading.specs.declared.FrameFault.{FrameFault}
use Rattle.csv_table.specs.Table.{frame_of, framed, table_of}

module _ {A F : Type 0} (told : FrameFault → F) (read : List Record → Result A F) (most : Option ℕ) (bytes : List ℕ) (header h : Record) where
  -- a table that fits goes on with its records
  pub framed-fits : (records : List Record) → h ≡ header → Ok records ≡ frame_of h most (table_of bytes) → and_then (framed told header most bytes) read ≡ read records
  framed-fits records same fits = rw (← same, ← fits) refl

  -- a table that does not fit is refused
  pub framed-fault : (e : FrameFault) → h ≡ header → Err e ≡ frame_of h most (table_of bytes) → and_then (framed told header most bytes) read ≡ Err (told e)
  framed-fault e same fails = rw (← same, ← fails) refl
