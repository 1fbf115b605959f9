-- Statements: the first, those that set a field, and what stands between them.
use Rattle.std.specs.Prelude.{◌≡◌, ℕ, Bool, List, [], ◌∷◌, ◌++◌, map, codes, IsTrue, if◌then◌else◌}
use Rattle.std.specs.List.{AllByRecursion}
use Rattle.std.specs.Char.{is_ascii_alphabetic}
use Rattle.std.specs.Str.{bytes_eq}
use Rattle.case_text.specs.declared.Field.{Field}
use Rattle.case_text.specs.declared.Field.TheVariants as field
use Rattle.case_text.specs.Names.{is_name_part}
use Rattle.case_text.specs.Matrices.{IsEven, least_columns}
use Rattle.case_grammar.specs.Gaps.{Skip, blank, continued, skip_text, IsSkip, Gap, gap_text, IsGap, BeginsBlank, IsNotEmpty, LineEnd, line_end_text, IsLineEnd, IsOnLine}
use Rattle.case_grammar.specs.Values.{one, Value, number, string, matrix, cells, value_text, IsValue, AreRows, numbers, cells_of}

-- ---- Names
-- A NAME is a letter followed by letters, digits and `_`.
abbrev pub IsName : List ℕ → Type 0
IsName [] = ⊥
IsName (first ∷ others) = IsTrue (is_ascii_alphabetic first) × AllByRecursion (λ byte. IsTrue (is_name_part byte)) others

-- What is set is `mpc.NAME`, or with further `.NAME`.
pub record Target : Type 0 where
  pub name : List ℕ
  pub further : List (List ℕ)

abbrev pub further_text : List (List ℕ) → List ℕ
further_text [] = []
further_text (name ∷ names) = codes "." ++ (name ++ further_text names)

abbrev pub target_text : Target → List ℕ
target_text target = codes "mpc." ++ (target.name ++ further_text target.further)

abbrev pub IsTarget : Target → Type 0
IsTarget target = IsName target.name × AllByRecursion IsName target.further

-- ---- The first statement is `function`, blanks, `mpc`, `=` and a NAME.
pub record First : Type 0 where
  pub behind_function : Gap
  pub behind_mpc : Gap
  pub behind_equals : Gap
  pub name : List ℕ

abbrev pub first_text : First → List ℕ
first_text first = codes "function" ++ (gap_text first.behind_function ++ (codes "mpc" ++ (gap_text first.behind_mpc ++ (codes "=" ++ (gap_text first.behind_equals ++ first.name)))))

pub record IsFirst (first : First) : Type 0 where
  pub behind_function : IsGap first.behind_function
  pub parted : IsNotEmpty first.behind_function
  pub blank_behind_function : BeginsBlank first.behind_function
  pub behind_mpc : IsGap first.behind_mpc
  pub blank_behind_mpc : BeginsBlank first.behind_mpc
  pub behind_equals : IsGap first.behind_equals
  pub name : IsName first.name

-- ---- Every other statement is a target, `=` and a value. Blanks may stand around `=`.
pub record Statement : Type 0 where
  pub target : Target
  pub behind_target : Gap
  pub behind_equals : Gap
  pub value : Value

abbrev pub statement_text : Statement → List ℕ
statement_text s = target_text s.target ++ (gap_text s.behind_target ++ (codes "=" ++ (gap_text s.behind_equals ++ value_text s.value)))

-- ---- The names of the five fields that a case has to set:
abbrev pub name_of : Field → List ℕ
name_of field.Version = codes "version"
name_of field.BaseMva = codes "baseMVA"
name_of field.Bus = codes "bus"
name_of field.Gen = codes "gen"
name_of field.Branch = codes "branch"

-- the statement sets the field
abbrev pub sets : Field → Statement → Bool
sets f s = bytes_eq (target_text s.target) (codes "mpc." ++ name_of f)

-- `bus`, `gen` and `branch` are matrices of numbers alone, which is more than is asked of other values, whose rows are equally long, and
-- where there are rows, have so many columns at least
abbrev pub IsMatrixOf : Field → Value → Type 0
IsMatrixOf f (number text) = ⊥
IsMatrixOf f (string quote characters) = ⊥
IsMatrixOf f (matrix rows) = AreRows numbers 1 rows × IsEven (least_columns f) (cells_of rows)
IsMatrixOf f (cells rows) = ⊥

-- `version` is the string `'2'` or `"2"`
abbrev pub IsTwo : Value → Type 0
IsTwo (number text) = ⊥
IsTwo (string quote characters) = characters ≡ map one (codes "2")
IsTwo (matrix rows) = ⊥
IsTwo (cells rows) = ⊥

-- `baseMVA` is a number
abbrev pub IsNumeral : Value → Type 0
IsNumeral (number text) = Unit {0}
IsNumeral (string quote characters) = ⊥
IsNumeral (matrix rows) = ⊥
IsNumeral (cells rows) = ⊥

-- what each of the five is set to
abbrev pub Takes : Field → Value → Type 0
Takes field.Version value = IsTwo value
Takes field.BaseMva value = IsNumeral value
Takes field.Bus value = IsMatrixOf field.Bus value
Takes field.Gen value = IsMatrixOf field.Gen value
Takes field.Branch value = IsMatrixOf field.Branch value

pub record IsStatement (s : Statement) : Type 0 where
  pub target : IsTarget s.target
  pub behind_target : IsGap s.behind_target
  pub blank_behind_target : BeginsBlank s.behind_target
  pub behind_equals : IsGap s.behind_equals
  pub value : IsValue s.value
  pub takes : (f : Field) → IsTrue (sets f s) → Takes f s.value

-- ---- Between statements are skipped
pub data Part : Type 0 where
  -- blanks and continuations,
  skipped : Skip → Part
  -- line ends and comments,
  line_end : LineEnd → Part
  -- `;`
  semicolon : Part
  -- and `,`.
  comma : Part

abbrev pub part_text : Part → List ℕ
part_text (skipped skip) = skip_text skip
part_text (line_end end) = line_end_text end
part_text semicolon = codes ";"
part_text comma = codes ","

abbrev pub IsPart : Part → Type 0
IsPart (skipped skip) = IsSkip skip
IsPart (line_end end) = IsLineEnd end
IsPart semicolon = Unit {0}
IsPart comma = Unit {0}

abbrev pub parts_text : List Part → List ℕ
parts_text [] = []
parts_text (part ∷ parts) = part_text part ++ parts_text parts

abbrev pub AreParts : List Part → Type 0
AreParts parts = AllByRecursion IsPart parts

-- ---- The text ends
pub data Ending : Type 0 where
  -- here,
  here : Ending
  -- in a comment,
  in_comment : List ℕ → Ending
  -- or in a continuation, on a line without its end.
  in_continuation : List ℕ → Ending

abbrev pub ending_text : Ending → List ℕ
ending_text here = []
ending_text (in_comment comment) = codes "%" ++ comment
ending_text (in_continuation rest) = codes "..." ++ rest

abbrev pub IsEnding : Ending → Type 0
IsEnding here = Unit {0}
IsEnding (in_comment comment) = IsOnLine comment
IsEnding (in_continuation rest) = IsOnLine rest

-- ---- After a statement
pub data Statements : Type 0 where
  -- stands the end of the text,
  ends : List Part → Ending → Statements
  -- or another statement.
  another : List Part → Statement → Statements → Statements

abbrev pub statements_text : Statements → List ℕ
statements_text (ends parts ending) = parts_text parts ++ ending_text ending
statements_text (another parts s more) = parts_text parts ++ (statement_text s ++ statements_text more)

-- After the value stands `;`, `,`, a comment or a line end,
abbrev pub HasEnd : List Part → Type 0
HasEnd [] = ⊥
HasEnd (skipped skip ∷ parts) = HasEnd parts
HasEnd (line_end end ∷ parts) = Unit {0}
HasEnd (semicolon ∷ parts) = Unit {0}
HasEnd (comma ∷ parts) = Unit {0}

-- or the end of the text.
abbrev pub AreEnded : Statements → Type 0
AreEnded (ends parts ending) = Unit {0}
AreEnded (another parts s more) = HasEnd parts

-- Right after a word or a number `...` belongs to that: something else begins what stands between a NAME or a number and the next statement,
abbrev pub IsApart : List Part → Type 0
IsApart [] = ⊥
IsApart (skipped (blank byte) ∷ parts) = Unit {0}
IsApart (skipped (continued rest) ∷ parts) = ⊥
IsApart (line_end end ∷ parts) = Unit {0}
IsApart (semicolon ∷ parts) = Unit {0}
IsApart (comma ∷ parts) = Unit {0}

-- and between it and the end of the text, where nothing need stand.
abbrev pub IsApartFromEnd : List Part → Ending → Type 0
IsApartFromEnd [] here = Unit {0}
IsApartFromEnd [] (in_comment comment) = Unit {0}
IsApartFromEnd [] (in_continuation rest) = ⊥
IsApartFromEnd (part ∷ parts) ending = IsApart (part ∷ parts)

-- So behind the NAME of the first statement another may follow on its line.
abbrev pub AreApart : Statements → Type 0
AreApart (ends parts ending) = IsApartFromEnd parts ending
AreApart (another parts s more) = IsApart parts

-- what stands behind the value of a statement
abbrev pub AreBehind : Value → Statements → Type 0
AreBehind (number text) more = AreEnded more × AreApart more
AreBehind (string quote characters) more = AreEnded more
AreBehind (matrix rows) more = AreEnded more
AreBehind (cells rows) more = AreEnded more

abbrev pub AreStatements : Statements → Type 0
AreStatements (ends parts ending) = AreParts parts × IsEnding ending
AreStatements (another parts s more) = AreParts parts × IsStatement s × AreBehind s.value more × AreStatements more

-- the values that a field is set to
abbrev pub values_of : Field → Statements → List Value
values_of f (ends parts ending) = []
values_of f (another parts s more) = if sets f s then s.value ∷ values_of f more else values_of f more
