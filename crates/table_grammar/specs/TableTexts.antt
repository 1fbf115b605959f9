-- The text of a table, and the records that it gives.
use Rattle.std.specs.Prelude.{◌≡◌, ◌≢◌, ◌≤◌, ℕ, Bool, true, false, List, [], ◌∷◌, ◌++◌, codes, length, Option, IfSome, if◌then◌else◌}
use Rattle.std.specs.List.{AllByRecursion}
use Rattle.record_reading.specs.Records.{Record}
use Rattle.table_grammar.specs.Cells.{Cells, cells_text, record_of, LastIsClosed, IsRecord}

-- ---- Records end at a line feed, a carriage return, or both.
pub data LineEnd : Type 0 where
  feed : LineEnd
  return : LineEnd
  return_feed : LineEnd

abbrev pub line_end_text : LineEnd → List ℕ
line_end_text feed = codes "\n"
line_end_text return = codes "\r"
line_end_text return_feed = codes "\r\n"

-- ---- The lines of a text are
pub data Lines : Type 0 where
  -- none;
  no_lines : Lines
  -- an empty line, and others;
  empty_line : LineEnd → Lines → Lines
  -- a record on its line, and others;
  line : Cells → LineEnd → Lines → Lines
  -- or a record that ends with the text.
  last_line : Cells → Lines

abbrev pub lines_text : Lines → List ℕ
lines_text no_lines = []
lines_text (empty_line end lines) = line_end_text end ++ lines_text lines
lines_text (line cells end lines) = cells_text cells ++ (line_end_text end ++ lines_text lines)
lines_text (last_line cells) = cells_text cells

abbrev pub records_of : Lines → List Record
records_of no_lines = []
records_of (empty_line end lines) = records_of lines
records_of (line cells end lines) = record_of cells ∷ records_of lines
records_of (last_line cells) = record_of cells ∷ []

abbrev pub AreLines : Lines → Type 0
AreLines no_lines = Unit {0}
AreLines (empty_line end lines) = AreLines lines
AreLines (line cells end lines) = IsRecord cells × LastIsClosed cells × AreLines lines
AreLines (last_line cells) = IsRecord cells

-- ---- A byte order mark at the start is dropped: whether there is one, and the lines.
pub record TableText : Type 0 where
  pub mark : Bool
  pub lines : Lines

abbrev pub table_text : TableText → List ℕ
table_text table = if table.mark then 239 ∷ 187 ∷ 191 ∷ lines_text table.lines else lines_text table.lines

-- Bytes that begin as a mark does are one.
abbrev pub BeginsUnmarked : Bool → List ℕ → Type 0
BeginsUnmarked true bytes = Unit {0}
BeginsUnmarked false bytes = (rest : List ℕ) → bytes ≢ 239 ∷ 187 ∷ 191 ∷ rest

pub record IsText (table : TableText) : Type 0 where
  pub lines : AreLines table.lines
  pub unmarked : BeginsUnmarked table.mark (lines_text table.lines)

-- The bytes are the text of a table with these records.
abbrev pub IsTableText : List ℕ → List Record → Type 0
IsTableText bytes records = (table : TableText) × (bytes ≡ table_text table) × IsText table × (records_of table.lines ≡ records)

-- ---- The bytes are a table under a header, with these records behind it:
pub record IsTable (header : Record) (most : Option ℕ) (bytes : List ℕ) (records : List Record) : Type 0 where
  -- the header is as it has to be, byte for byte but for quotes;
  pub text : IsTableText bytes (header ∷ records)
  -- every record has as many cells as the header;
  pub wide : AllByRecursion (λ r. length r ≡ length header) records
  -- there are at most so many, where there is a limit.
  pub few : IfSome most (λ limit. length records ≤ limit)
