-- The cells of a table's records, and the records on its lines.
--
-- The grammar is one of trees. A `data` lists the forms that a tree may have, each with its parts. `x_text` is the text that a tree of
-- that kind stands for: `codes "..."` are the bytes of what is quoted, and `++` joins bytes. `IsX` says which trees are of the grammar:
-- `Unit {0}` is always so, `⊥` never, `×` is "and", `≡` is "is", `≢` is "is not". `x ∷ xs` is the list that begins with x, `[]` the one of
-- none, and `AllByRecursion P xs` says P of each in xs. A text is a table's where some tree of the grammar has this text.
use Rattle.std.specs.Prelude.{◌≢◌, ℕ, List, [], ◌∷◌, ◌++◌, codes}
use Rattle.std.specs.List.{AllByRecursion}
use Rattle.record_reading.specs.Records.{Record}

-- ---- A cell in double quotes may hold commas, line ends and, doubled, quotes. Between the quotes stands
pub data Character : Type 0 where
  -- a byte that is no quote,
  one : ℕ → Character
  -- or two quotes, which are one.
  doubled : Character

abbrev pub characters_text : List Character → List ℕ
characters_text [] = []
characters_text (one byte ∷ characters) = byte ∷ characters_text characters
characters_text (doubled ∷ characters) = codes "\"\"" ++ characters_text characters

abbrev pub characters_bytes : List Character → List ℕ
characters_bytes [] = []
characters_bytes (one byte ∷ characters) = byte ∷ characters_bytes characters
characters_bytes (doubled ∷ characters) = codes "\"" ++ characters_bytes characters

abbrev pub IsCharacter : Character → Type 0
IsCharacter (one byte) = byte ≢ 34
IsCharacter doubled = Unit {0}

-- ---- Without quotes a cell has no comma (44), no line feed (10) and no carriage return (13),
abbrev pub IsPlain : ℕ → Type 0
IsPlain byte = (byte ≢ 44) × (byte ≢ 10) × (byte ≢ 13)

-- and begins with no quote (34); further on a quote is a byte as others. Blanks around a cell belong to it.
abbrev pub BeginsUnquoted : List ℕ → Type 0
BeginsUnquoted [] = Unit {0}
BeginsUnquoted (byte ∷ bytes) = byte ≢ 34

abbrev pub IsPlainText : List ℕ → Type 0
IsPlainText bytes = AllByRecursion IsPlain bytes × BeginsUnquoted bytes

-- ---- A cell is
pub data Cell : Type 0 where
  -- bytes without quotes around them, maybe none;
  plain : List ℕ → Cell
  -- a quote, what stands between, and the closing quote; what is behind that, up to a comma or line end, belongs to the cell as it is;
  quoted : List Character → List ℕ → Cell
  -- or a quote that is never closed, which takes the rest of the text into its cell.
  unclosed : List Character → Cell

abbrev pub cell_text : Cell → List ℕ
cell_text (plain bytes) = bytes
cell_text (quoted characters behind) = codes "\"" ++ (characters_text characters ++ (codes "\"" ++ behind))
cell_text (unclosed characters) = codes "\"" ++ characters_text characters

-- its bytes, as they are read
abbrev pub cell_bytes : Cell → List ℕ
cell_bytes (plain bytes) = bytes
cell_bytes (quoted characters behind) = characters_bytes characters ++ behind
cell_bytes (unclosed characters) = characters_bytes characters

abbrev pub IsCell : Cell → Type 0
IsCell (plain bytes) = IsPlainText bytes
IsCell (quoted characters behind) = AllByRecursion IsCharacter characters × IsPlainText behind
IsCell (unclosed characters) = AllByRecursion IsCharacter characters

-- Its quote, where it has one, is closed.
abbrev pub IsClosed : Cell → Type 0
IsClosed (plain bytes) = Unit {0}
IsClosed (quoted characters behind) = Unit {0}
IsClosed (unclosed characters) = ⊥

-- ---- A record is cells with commas between:
pub data Cells : Type 0 where
  -- one cell,
  only : Cell → Cells
  -- or a cell, a comma, and others.
  comma : Cell → Cells → Cells

abbrev pub cells_text : Cells → List ℕ
cells_text (only cell) = cell_text cell
cells_text (comma cell cells) = cell_text cell ++ (codes "," ++ cells_text cells)

abbrev pub record_of : Cells → Record
record_of (only cell) = cell_bytes cell ∷ []
record_of (comma cell cells) = cell_bytes cell ∷ record_of cells

abbrev pub AreCells : Cells → Type 0
AreCells (only cell) = IsCell cell
AreCells (comma cell cells) = IsCell cell × IsClosed cell × AreCells cells

abbrev pub LastIsClosed : Cells → Type 0
LastIsClosed (only cell) = IsClosed cell
LastIsClosed (comma cell cells) = LastIsClosed cells

-- An empty line is no record: not one cell without bytes and quotes.
abbrev pub IsNoEmptyLine : Cells → Type 0
IsNoEmptyLine (only (plain [])) = ⊥
IsNoEmptyLine (only (plain (byte ∷ bytes))) = Unit {0}
IsNoEmptyLine (only (quoted characters behind)) = Unit {0}
IsNoEmptyLine (only (unclosed characters)) = Unit {0}
IsNoEmptyLine (comma cell cells) = Unit {0}

abbrev pub IsRecord : Cells → Type 0
IsRecord cells = AreCells cells × IsNoEmptyLine cells
