-- Worked texts, with the records that they give.
use Rattle.std.specs.Prelude.{ℕ, List, [], ◌∷◌, ◌++◌, codes, Some}
use Rattle.record_reading.specs.Records.{Record}
use Rattle.table_grammar.specs.TableTexts.{IsTableText, IsTable}

-- records of one cell and of two
abbrev pub one_cell : List ℕ → Record
one_cell a = a ∷ []

abbrev pub two_cells : List ℕ → List ℕ → Record
two_cells a b = a ∷ b ∷ []

pub record WorkedTexts : Type 0 where
  -- each of the three line ends, and none behind the last record
  pub line_ends : IsTableText (codes "a,b\nc,d\r\ne,f\rg,h") (two_cells (codes "a") (codes "b") ∷ two_cells (codes "c") (codes "d") ∷ two_cells (codes "e") (codes "f") ∷ two_cells (codes "g") (codes "h") ∷ [])
  -- empty lines, before, between and behind; no text at all
  pub empty_lines : IsTableText (codes "\n\r\na\n\n\rb\n\n") (one_cell (codes "a") ∷ one_cell (codes "b") ∷ [])
  pub no_text : IsTableText (codes "") []
  -- a blank is a cell, and so is nothing beside a comma, and nothing between quotes
  pub blanks : IsTableText (codes " \n") (one_cell (codes " ") ∷ [])
  pub commas : IsTableText (codes ",\n 60,") (two_cells [] [] ∷ two_cells (codes " 60") [] ∷ [])
  pub no_bytes : IsTableText (codes "\"\"\n") (one_cell [] ∷ [])
  -- commas, line ends and doubled quotes in quotes
  pub in_quotes : IsTableText (codes "\"a,b\",\"c\r\nd\"\"\"\n") (two_cells (codes "a,b") (codes "c\r\nd\"") ∷ [])
  -- what stands behind a closing quote, and quotes within a cell that does not begin with one
  pub behind_quotes : IsTableText (codes "\"a\"b\"c,d\"\"e") (two_cells (codes "ab\"c") (codes "d\"\"e") ∷ [])
  -- a quote that is never closed
  pub never_closed : IsTableText (codes "a,\"b\n\"\"c,d\n") (two_cells (codes "a") (codes "b\n\"c,d\n") ∷ [])
  -- a byte order mark at the start, which is no part of the first cell, and one that is
  pub mark : IsTableText (239 ∷ 187 ∷ 191 ∷ codes "a\n") (one_cell (codes "a") ∷ [])
  pub mark_behind : IsTableText (codes "a\n" ++ 239 ∷ 187 ∷ 191 ∷ []) (one_cell (codes "a") ∷ one_cell (239 ∷ 187 ∷ 191 ∷ []) ∷ [])
  -- a table under its header, which may stand in quotes
  pub table : IsTable (two_cells (codes "row") (codes "mw")) (Some 2) (codes "\"row\",mw\n1,60\n2,-5\n") (two_cells (codes "1") (codes "60") ∷ two_cells (codes "2") (codes "-5") ∷ [])
