-- Matrices as rows of cells.
use Rattle.std.specs.Prelude.{ℕ, ◌+◌, ◌-◌, Bool, true, false, List, [], ◌∷◌, ◌++◌, length, slice_index_or, if◌then◌else◌, ◌≡◌, ◌<◌, ◌≤◌, All}
use Rattle.record_reading.specs.Records.{Record}
use Rattle.case_tokens.specs.declared.Token.{Token}
use Rattle.case_text.specs.declared.Field.{Field}
use Rattle.case_text.specs.declared.Field.TheVariants as field
use Rattle.case_text.specs.declared.words.Word.{Word}
use Rattle.case_text.specs.declared.words.Word.TheVariants as word
use Rattle.case_text.specs.Words.{word_of, text_of, is_run}

-- the texts of the cells, row by row
abbrev pub Rows : Type 0
Rows = List Record

-- the row, where it has cells
abbrev pub some_row : Record → Rows
some_row [] = []
some_row (cell ∷ cells) = (cell ∷ cells) ∷ []

-- a line end or `;`
abbrev pub ends_row : Word → Bool
ends_row word.LineEnd = true
ends_row word.Semicolon = true
ends_row _ = false

abbrev pub closes : Word → Bool
closes (word.Closing bracket) = true
closes _ = false

-- the cell that a token is
abbrev pub cells_of : List ℕ → Token → Record
cells_of text token = if is_run (word_of text token) then text_of text token ∷ [] else []

-- the rows up to the closing bracket, where the first of them already has these cells
unfoldable pub rows_from : List ℕ → Record → List Token → Rows
rows_from text row [] = some_row row
rows_from text row (token ∷ tokens) =
    if closes (word_of text token) then some_row row
    else (if ends_row (word_of text token) then some_row row ++ rows_from text [] tokens
    else rows_from text (row ++ cells_of text token) tokens)

-- the fewest columns that a matrix with rows has
abbrev pub least_columns : Field → ℕ
least_columns field.Version = 0
least_columns field.BaseMva = 0
least_columns field.Bus = 13
least_columns field.Gen = 10
least_columns field.Branch = 11

-- how many cells the first row has
abbrev pub width_of : Rows → ℕ
width_of [] = 0
width_of (row ∷ rows) = length row

-- A case as its matrices' rows of cells.
pub record CaseMatrices : Type 0 where
  pub bus : Rows
  pub generators : Rows
  pub branch : Rows

-- the rows of a matrix, and none of a field that is none
abbrev pub matrix_of : CaseMatrices → Field → Rows
matrix_of case field.Version = []
matrix_of case field.BaseMva = []
matrix_of case field.Bus = case.bus
matrix_of case field.Gen = case.generators
matrix_of case field.Branch = case.branch

-- the cell of a row and column, both from 1, and no bytes where there is none
abbrev pub cell_at : Rows → ℕ → ℕ → List ℕ
cell_at rows row col = slice_index_or (slice_index_or rows (row - 1) []) (col - 1) []

-- the rows have as many cells each, and so many at least
pub record IsEven (least : ℕ) (rows : Rows) : Type 0 where
  pub alike : All (λ row. length row ≡ width_of rows) rows
  pub wide : 0 < length rows → least ≤ width_of rows

-- all three matrices are even, and wide enough for what they are of
abbrev pub AreEven : CaseMatrices → Type 0
AreEven case = (f : Field) → IsEven (least_columns f) (matrix_of case f)
