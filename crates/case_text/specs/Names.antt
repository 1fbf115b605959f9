-- Names, and the fields that a case has to set.
use Rattle.std.specs.Prelude.{ℕ, Bool, true, false, List, [], ◌∷◌, take, drop, codes, ◌==◌, ◌||◌, ◌&&◌, not, Option, Some, None, if◌then◌else◌}
use Rattle.std.specs.Char.{is_ascii_alphabetic, is_ascii_alphanumeric}
use Rattle.std.specs.List.{list_all, slice_split}
use Rattle.std.specs.Str.{bytes_eq}
use Rattle.case_text.specs.declared.Field.{Field}
use Rattle.case_text.specs.declared.Field.TheVariants as field
use Rattle.case_text.specs.declared.words.Bracket.{Bracket}
use Rattle.case_text.specs.Words.{is_curly}

-- a letter, a digit or `_`
abbrev pub is_name_part : ℕ → Bool
is_name_part byte = is_ascii_alphanumeric byte || byte == 95

-- a letter followed by letters, digits and `_`
unfoldable pub is_name_text : List ℕ → Bool
is_name_text [] = false
is_name_text (first ∷ rest) = is_ascii_alphabetic first && list_all is_name_part rest

-- names, with a point between each and the next
unfoldable pub is_names_text : List ℕ → Bool
is_names_text text = list_all is_name_text (slice_split (λ byte. byte == 46) text)

-- `mpc.` and names
unfoldable pub is_target : List ℕ → Bool
is_target text = bytes_eq (take 4 text) (codes "mpc.") && is_names_text (drop 4 text)

-- the field that is set, where it is one that a case has to set
unfoldable pub field_of : List ℕ → Option Field
field_of text =
    if bytes_eq text (codes "mpc.version") then Some field.Version
    else (if bytes_eq text (codes "mpc.baseMVA") then Some field.BaseMva
    else (if bytes_eq text (codes "mpc.bus") then Some field.Bus
    else (if bytes_eq text (codes "mpc.gen") then Some field.Gen
    else (if bytes_eq text (codes "mpc.branch") then Some field.Branch
    else None))))

-- the string `1`, and the string `2`, in either quotes
unfoldable pub is_version_one : List ℕ → Bool
is_version_one text = bytes_eq text (codes "'1'") || bytes_eq text (codes "\"1\"")

unfoldable pub is_version_two : List ℕ → Bool
is_version_two text = bytes_eq text (codes "'2'") || bytes_eq text (codes "\"2\"")

-- whether the field is one of the three matrices
abbrev pub is_matrix : Field → Bool
is_matrix field.Version = false
is_matrix field.BaseMva = false
is_matrix field.Bus = true
is_matrix field.Gen = true
is_matrix field.Branch = true

-- Which value each field takes. Any other takes each value.
abbrev pub takes_number : Option Field → Bool
takes_number None = true
takes_number (Some field.BaseMva) = true
takes_number (Some _) = false

abbrev pub takes_text : Option Field → List ℕ → Bool
takes_text None text = true
takes_text (Some field.Version) text = is_version_one text || is_version_two text
takes_text (Some _) text = false

-- a matrix in `[` `]`, or a cell list in `{` `}`
abbrev pub takes_bracket : Option Field → Bracket → Bool
takes_bracket None bracket = true
takes_bracket (Some f) bracket = is_matrix f && not (is_curly bracket)
