-- What a statement sets, and where it ends.
use Rattle.std.specs.Prelude.{ℕ, ◌&&◌, Bool, List, [], ◌∷◌, Option, Some, None, is_some, Result, Ok, Err, if◌then◌else◌}
use Rattle.scaled_decimal.specs.Reading.{is_number_text}
use Rattle.case_tokens.specs.declared.Token.{Token}
use Rattle.case_text.specs.declared.CaseFault.{CaseFault}
use Rattle.case_text.specs.declared.CaseFault.TheVariants as fault
use Rattle.case_text.specs.declared.Field.{Field}
use Rattle.case_text.specs.declared.words.Bracket.{Bracket}
use Rattle.case_text.specs.declared.words.Word.{Word}
use Rattle.case_text.specs.declared.words.Word.TheVariants as word
use Rattle.case_text.specs.Words.{word_of, text_of, is_separator, is_equals, is_run}
use Rattle.case_text.specs.Names.{is_target, field_of, is_version_one, takes_number, takes_text, takes_bracket}
use Rattle.record_reading.specs.Steps.{and_then}
use Rattle.case_text.specs.Nests.{first_nest, behind_brackets}
use Rattle.case_text.specs.Matrices.{Rows, rows_from}

-- what a statement sets: a field that a case has to set, or none of these, and the rows where it is a matrix
pub record Setting : Type 0 where
  pub field : Option Field
  pub rows : Rows

-- what a statement says, with the tokens behind it, or its fault
abbrev pub Read : Type 0 → Type 0
Read A = Result (A × List Token) CaseFault

-- What is left behind the end of a statement: by `;`, `,`, a line end or the end of the text.
unfoldable pub behind_end : List ℕ → ℕ → List Token → Result (List Token) CaseFault
behind_end text line [] = Ok []
behind_end text line (token ∷ tokens) = if is_separator (word_of text token) then Ok tokens else Err (fault.Code line)

-- behind its value the statement ends
abbrev pub ended : List ℕ → ℕ → Setting → List Token → Read Setting
ended text line setting tokens = and_then (behind_end text line tokens) (λ behind. Ok (setting, behind))

-- a number or a string, where the field takes it
unfoldable pub plain_value : List ℕ → ℕ → Option Field → Bool → List Token → Read Setting
plain_value text line field allowed tokens =
    if allowed then ended text line (record { field = field; rows = [] }) tokens else Err (fault.Code line)

-- the string of the old version is a fault of its own
abbrev pub not_version_one : {A : Type 0} → Option Field → List ℕ → A → Result A CaseFault
not_version_one field text value = if is_some field && is_version_one text then Err fault.VersionOne else Ok value

-- the rows of a matrix that a case has to set; those of another are not kept
abbrev pub matrix_rows : Option Field → List ℕ → List Token → Rows
matrix_rows None text tokens = []
matrix_rows (Some f) text tokens = rows_from text [] tokens

-- a matrix or a cell list
unfoldable pub bracketed : List ℕ → Option ℕ → ℕ → Option Field → Bracket → List Token → Read Setting
bracketed text stop line field opening tokens =
    if takes_bracket field opening
    then and_then (behind_brackets text stop (is_some field) (first_nest opening) tokens)
    (λ behind. ended text line (record { field = field; rows = matrix_rows field text tokens }) behind)
    else Err (fault.Code line)

-- the value, and the end of the statement
unfoldable pub value_by : Word → List ℕ → Option ℕ → ℕ → Option Field → Token → List Token → Read Setting
value_by word.Run text stop line field value tokens =
    plain_value text line field (is_number_text (text_of text value) && takes_number field) tokens
value_by word.Quoted text stop line field value tokens =
    and_then (plain_value text line field (takes_text field (text_of text value)) tokens) (not_version_one field (text_of text value))
value_by (word.Opening opening) text stop line field value tokens = bracketed text stop line field opening tokens
value_by _ text stop line field value tokens = Err (fault.Code line)

-- a statement from its head on, which sets this field: what it sets, `=`, and a value
unfoldable pub statement_of : Option Field → List ℕ → Option ℕ → Token → List Token → Read Setting
statement_of field text stop head [] = Err (fault.Code head.line)
statement_of field text stop head (equals ∷ []) = Err (fault.Code head.line)
statement_of field text stop head (equals ∷ value ∷ tokens) =
    if is_run (word_of text head) && is_target (text_of text head) && is_equals (word_of text equals)
    then value_by (word_of text value) text stop head.line field value tokens
    else Err (fault.Code head.line)

-- the same, where a case reads it
abbrev pub statement_at : List ℕ → Option ℕ → Token → List Token → Read Setting
statement_at text stop head tokens = statement_of (field_of (text_of text head)) text stop head tokens
