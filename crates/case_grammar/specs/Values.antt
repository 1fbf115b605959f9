-- Values: numbers, strings, matrices and cell lists.
use Rattle.std.specs.Prelude.{◌≡◌, ◌≢◌, ◌⊎◌, ℕ, ◌+◌, ◌<◌, List, [], ◌∷◌, ◌++◌, codes}
use Rattle.std.specs.List.{AllByRecursion}
use Rattle.scaled_decimal.specs.Decimal.{IsNumber}
use Rattle.record_reading.specs.Records.{Record}
use Rattle.case_grammar.specs.Gaps.{Gap, gap_text, IsGap, BeginsBlank, IsNotEmpty, LineEnd, line_end_text, IsLineEnd}

-- ---- A string stands between two `'` or two `"` on one line. In it stand
pub data Character : Type 0 where
  -- bytes that are no line end and not its own quote,
  one : ℕ → Character
  -- and its own quote doubled, which stands for itself.
  doubled : Character

abbrev pub characters_text : ℕ → List Character → List ℕ
characters_text quote [] = []
characters_text quote (one byte ∷ others) = byte ∷ characters_text quote others
characters_text quote (doubled ∷ others) = quote ∷ quote ∷ characters_text quote others

abbrev pub IsCharacter : ℕ → Character → Type 0
IsCharacter quote (one byte) = (byte ≢ quote) × (byte ≢ 10)
IsCharacter quote doubled = Unit {0}

-- 39 is `'`, and 34 is `"`
abbrev pub IsString : ℕ → List Character → Type 0
IsString quote characters = ((quote ≡ 39) ⊎ (quote ≡ 34)) × AllByRecursion (IsCharacter quote) characters

-- ---- A row ends at
pub data RowEnd : Type 0 where
  -- `;`,
  semicolon : RowEnd
  -- or at a line end.
  line_end : LineEnd → RowEnd

abbrev pub row_end_text : RowEnd → List ℕ
row_end_text semicolon = codes ";"
row_end_text (line_end end) = line_end_text end

abbrev pub IsRowEnd : RowEnd → Type 0
IsRowEnd semicolon = Unit {0}
IsRowEnd (line_end end) = IsLineEnd end

mutual
  -- ---- A value is
  pub data Value : Type 0 where
    -- a number,
    number : List ℕ → Value
    -- a string,
    string : ℕ → List Character → Value
    -- a matrix in `[` `]`
    matrix : Rows → Value
    -- or a cell list in `{` `}`.
    cells : Rows → Value

  -- ---- Inside brackets stand rows. A row ends
  pub data Rows : Type 0 where
    -- at the closing bracket,
    last_row : Row → Rows
    -- or before it, and further rows follow.
    row_then : Row → RowEnd → Rows → Rows

  -- ---- In a row stand
  pub data Row : Type 0 where
    -- no elements,
    no_elements : Gap → Row
    -- or elements: a first one, and what follows it.
    elements : Gap → Value → More → Row

  -- ---- After an element
  pub data More : Type 0 where
    -- none follows;
    no_more : Gap → More
    -- a comma may follow the last;
    last_comma : Gap → Gap → More
    -- elements of a row are separated by blanks
    after_blanks : Gap → Value → More → More
    -- or one comma.
    after_comma : Gap → Gap → Value → More → More

abbrev mutual
  pub value_text : Value → List ℕ
  value_text (number text) = text
  value_text (string quote characters) = quote ∷ (characters_text quote characters ++ quote ∷ [])
  value_text (matrix rows) = codes "[" ++ (rows_text rows ++ codes "]")
  value_text (cells rows) = codes "{" ++ (rows_text rows ++ codes "}")

  pub rows_text : Rows → List ℕ
  rows_text (last_row row) = row_text row
  rows_text (row_then row end rows) = row_text row ++ (row_end_text end ++ rows_text rows)

  pub row_text : Row → List ℕ
  row_text (no_elements gap) = gap_text gap
  row_text (elements gap value more) = gap_text gap ++ (value_text value ++ more_text more)

  pub more_text : More → List ℕ
  more_text (no_more gap) = gap_text gap
  more_text (last_comma before behind) = gap_text before ++ (codes "," ++ gap_text behind)
  more_text (after_blanks gap value more) = gap_text gap ++ (value_text value ++ more_text more)
  more_text (after_comma before behind value more) = gap_text before ++ (codes "," ++ (gap_text behind ++ (value_text value ++ more_text more)))

-- ---- What may stand inside brackets:
pub data Content : Type 0 where
  -- in bus, gen and branch only numbers,
  numbers : Content
  -- in other matrices numbers and strings,
  plain : Content
  -- in a cell list also matrices and cell lists.
  anything : Content

abbrev pub HoldsStrings : Content → Type 0
HoldsStrings numbers = ⊥
HoldsStrings plain = Unit {0}
HoldsStrings anything = Unit {0}

abbrev pub HoldsBrackets : Content → Type 0
HoldsBrackets numbers = ⊥
HoldsBrackets plain = ⊥
HoldsBrackets anything = Unit {0}

-- A number or a string inside brackets is followed by a blank, a line end, `,`, `;`, `]`, `}` or `%`: by the forms above one of these stands
-- behind it but where the gap behind it begins with a continuation.
abbrev pub IsBehind : Value → Gap → Type 0
IsBehind (number text) gap = BeginsBlank gap
IsBehind (string quote characters) gap = BeginsBlank gap
IsBehind (matrix rows) gap = Unit {0}
IsBehind (cells rows) gap = Unit {0}

abbrev mutual
  -- a value inside so many brackets, at most 8 deep
  pub IsElement : Content → ℕ → Value → Type 0
  IsElement content depth (number text) = IsNumber text
  IsElement content depth (string quote characters) = HoldsStrings content × IsString quote characters
  IsElement content depth (matrix rows) = HoldsBrackets content × (depth < 8) × AreRows plain (depth + 1) rows
  IsElement content depth (cells rows) = HoldsBrackets content × (depth < 8) × AreRows anything (depth + 1) rows

  pub AreRows : Content → ℕ → Rows → Type 0
  AreRows content depth (last_row row) = IsRow content depth row
  AreRows content depth (row_then row end rows) = IsRow content depth row × IsRowEnd end × AreRows content depth rows

  pub IsRow : Content → ℕ → Row → Type 0
  IsRow content depth (no_elements gap) = IsGap gap
  IsRow content depth (elements gap value more) = IsGap gap × IsElement content depth value × IsMore content depth value more

  -- what follows an element in its row
  pub IsMore : Content → ℕ → Value → More → Type 0
  IsMore content depth element (no_more gap) = IsGap gap × IsBehind element gap
  IsMore content depth element (last_comma before behind) = IsGap before × IsBehind element before × IsGap behind
  IsMore content depth element (after_blanks gap value more) =
      IsGap gap × IsBehind element gap × IsNotEmpty gap × IsElement content depth value × IsMore content depth value more
  IsMore content depth element (after_comma before behind value more) =
      IsGap before × IsBehind element before × IsGap behind × IsElement content depth value × IsMore content depth value more

-- outside brackets each value may stand
abbrev pub IsValue : Value → Type 0
IsValue value = IsElement anything 0 value

-- ---- What the rows say: the texts of their elements. Rows without elements are skipped, and not counted.
abbrev pub more_cells : More → Record
more_cells (no_more gap) = []
more_cells (last_comma before behind) = []
more_cells (after_blanks gap value more) = value_text value ∷ more_cells more
more_cells (after_comma before behind value more) = value_text value ∷ more_cells more

abbrev pub row_cells : Row → List Record
row_cells (no_elements gap) = []
row_cells (elements gap value more) = (value_text value ∷ more_cells more) ∷ []

abbrev pub cells_of : Rows → List Record
cells_of (last_row row) = row_cells row
cells_of (row_then row end rows) = row_cells row ++ cells_of rows

-- a number or a string has no rows
abbrev pub rows_of : Value → List Record
rows_of (number text) = []
rows_of (string quote characters) = []
rows_of (matrix rows) = cells_of rows
rows_of (cells rows) = cells_of rows
