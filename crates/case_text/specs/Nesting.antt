-- Brackets that are open, as the reader holds them.
use Rattle.std.specs.Prelude.{ℕ, ◌==◌, Bool, List, [], length, Option, Result, Ok, if◌then◌else◌}
use Rattle.case_tokens.specs.declared.Token.{Token}
use Rattle.case_text.specs.declared.CaseFault.{CaseFault}
use Rattle.case_text.specs.declared.nests.Nest as declared
use Rattle.case_text.specs.Nests.{Nest, behind_brackets}
use Rattle.case_text.specs.Matrices.{Rows, rows_from}

-- a nest as its list of brackets
abbrev pub nest_of : declared.Nest → Nest
nest_of nest = record { brackets = nest.brackets.items; before = nest.before }

-- what is left behind the brackets, where none may be open any more
unfoldable pub behind_nest : List ℕ → Option ℕ → Bool → Nest → List Token → Result (List Token) CaseFault
behind_nest text stop numbers nest tokens = if length nest.brackets == 0 then Ok tokens else behind_brackets text stop numbers nest tokens

-- the rows that follow, where the bracket may be closed
unfoldable pub rows_left : List ℕ → Nest → List (List ℕ) → List Token → Rows
rows_left text nest row tokens = if length nest.brackets == 0 then [] else rows_from text row tokens
