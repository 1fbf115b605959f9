-- The text of a case, and the matrices that it gives.
use Rattle.std.specs.Prelude.{◌≡◌, ◌⊎◌, ℕ, Bool, List, [], ◌∷◌, ◌++◌, map, codes, IsTrue, if◌then◌else◌}
use Rattle.std.specs.List.{AllByRecursion}
use Rattle.case_tokens.specs.Bytes.{is_blank}
use Rattle.case_text.specs.declared.Field.{Field}
use Rattle.case_text.specs.Matrices.{CaseMatrices, matrix_of}
use Rattle.case_grammar.specs.Values.{rows_of}
use Rattle.case_grammar.specs.Statements.{First, first_text, IsFirst, Part, parts_text, AreParts, Statements, statements_text, AreStatements, AreApart, values_of}

-- ---- A text is a list of statements. Before the first stands what is skipped between them.
pub record CaseText : Type 0 where
  -- A byte order mark at the start is dropped: whether there is one.
  pub mark : Bool
  pub before : List Part
  pub first : First
  pub others : Statements

-- the text without the byte order mark
abbrev pub body_text : CaseText → List ℕ
body_text case = parts_text case.before ++ (first_text case.first ++ statements_text case.others)

abbrev pub case_text : CaseText → List ℕ
case_text case = if case.mark then 239 ∷ 187 ∷ 191 ∷ body_text case else body_text case

-- ---- Block comments are refused. One begins or ends with `%{` or `%}` on a line of its own:
pub record HasBlock (text : List ℕ) : Type 0 where
  -- the lines before, blanks, a brace, blanks, and what is behind
  pub before : List ℕ
  pub front : List ℕ
  pub brace : ℕ
  pub back : List ℕ
  pub behind : List ℕ
  pub is : text ≡ before ++ (front ++ (codes "%" ++ (brace ∷ (back ++ behind))))
  pub starts : (before ≡ []) ⊎ ((lines : List ℕ) × (before ≡ lines ++ codes "\n"))
  pub front_blank : AllByRecursion (λ byte. IsTrue (is_blank byte)) front
  pub brace_is : (codes "{" ≡ brace ∷ []) ⊎ (codes "}" ≡ brace ∷ [])
  pub back_blank : AllByRecursion (λ byte. IsTrue (is_blank byte)) back
  pub ends : (behind ≡ []) ⊎ ((lines : List ℕ) × (behind ≡ codes "\n" ++ lines))

abbrev pub HasNoBlocks : List ℕ → Type 0
HasNoBlocks text = ¬ HasBlock text

pub record IsText (case : CaseText) : Type 0 where
  pub before : AreParts case.before
  pub first : IsFirst case.first
  pub behind_name : AreApart case.others
  pub others : AreStatements case.others
  pub no_blocks : HasNoBlocks (body_text case)

-- Each of the five fields is set once, in any order, bus, gen and branch to these matrices.
abbrev pub Gives : CaseText → CaseMatrices → Type 0
Gives case matrices = (f : Field) → map rows_of (values_of f case.others) ≡ matrix_of matrices f ∷ []

-- The bytes are the text of a case with these matrices.
abbrev pub IsCaseText : List ℕ → CaseMatrices → Type 0
IsCaseText bytes matrices = (case : CaseText) × (bytes ≡ case_text case) × IsText case × Gives case matrices
