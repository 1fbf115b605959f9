-- The texts of trees in front of what follows them.
use Rattle.std.proofs.Common.{◌≡◌, ℕ, List, [], ◌∷◌, ◌++◌, refl, sym, ap, subst, ◌∙◌, append_assoc, codes}
use Rattle.case_grammar.specs.Gaps.{Skip, blank, continued, skip_text, Gap, gap_text, LineEnd, bare, commented, line_end_text}
use Rattle.case_grammar.specs.Values.{Character, one, doubled, characters_text, RowEnd, semicolon, line_end, row_end_text, Value, number, string, matrix, cells, Rows, last_row, row_then, Row, no_elements, elements, More, no_more, last_comma, after_blanks, after_comma, value_text, rows_text, row_text, more_text}
use Rattle.case_grammar.specs.Statements as statements
use Rattle.case_grammar.specs.Statements.{Target, further_text, target_text, First, first_text, Statement, statement_text, Part, part_text, parts_text, Ending, ending_text, Statements, statements_text}

abbrev pub skip_before : Skip → List ℕ → List ℕ
skip_before (blank byte) rest = byte ∷ rest
skip_before (continued skipped) rest = 46 ∷ 46 ∷ 46 ∷ (skipped ++ 10 ∷ rest)

abbrev pub gap_before : Gap → List ℕ → List ℕ
gap_before [] rest = rest
gap_before (skip ∷ gap) rest = skip_before skip (gap_before gap rest)

abbrev pub line_end_before : LineEnd → List ℕ → List ℕ
line_end_before bare rest = 10 ∷ rest
line_end_before (commented comment) rest = 37 ∷ (comment ++ 10 ∷ rest)

abbrev pub characters_before : ℕ → List Character → List ℕ → List ℕ
characters_before quote [] rest = rest
characters_before quote (one byte ∷ others) rest = byte ∷ characters_before quote others rest
characters_before quote (doubled ∷ others) rest = quote ∷ quote ∷ characters_before quote others rest

abbrev pub row_end_before : RowEnd → List ℕ → List ℕ
row_end_before semicolon rest = 59 ∷ rest
row_end_before (line_end end) rest = line_end_before end rest

abbrev mutual
  pub value_before : Value → List ℕ → List ℕ
  value_before (number text) rest = text ++ rest
  value_before (string quote characters) rest = quote ∷ characters_before quote characters (quote ∷ rest)
  value_before (matrix rows) rest = 91 ∷ rows_before rows (93 ∷ rest)
  value_before (cells rows) rest = 123 ∷ rows_before rows (125 ∷ rest)

  pub rows_before : Rows → List ℕ → List ℕ
  rows_before (last_row row) rest = row_before row rest
  rows_before (row_then row end rows) rest = row_before row (row_end_before end (rows_before rows rest))

  pub row_before : Row → List ℕ → List ℕ
  row_before (no_elements gap) rest = gap_before gap rest
  row_before (elements gap value more) rest = gap_before gap (value_before value (more_before more rest))

  pub more_before : More → List ℕ → List ℕ
  more_before (no_more gap) rest = gap_before gap rest
  more_before (last_comma before behind) rest = gap_before before (44 ∷ gap_before behind rest)
  more_before (after_blanks gap value more) rest = gap_before gap (value_before value (more_before more rest))
  more_before (after_comma before behind value more) rest = gap_before before (44 ∷ gap_before behind (value_before value (more_before more rest)))

abbrev pub target_before : Target → List ℕ → List ℕ
target_before target rest = target_text target ++ rest

abbrev pub first_before : First → List ℕ → List ℕ
first_before first rest =
    codes "function" ++ gap_before first.behind_function (codes "mpc" ++ gap_before first.behind_mpc (61 ∷ gap_before first.behind_equals (first.name ++ rest)))

abbrev pub statement_before : Statement → List ℕ → List ℕ
statement_before s rest = target_text s.target ++ gap_before s.behind_target (61 ∷ gap_before s.behind_equals (value_before s.value rest))

abbrev pub part_before : Part → List ℕ → List ℕ
part_before (statements.skipped skip) rest = skip_before skip rest
part_before (statements.line_end end) rest = line_end_before end rest
part_before statements.semicolon rest = 59 ∷ rest
part_before statements.comma rest = 44 ∷ rest

abbrev pub parts_before : List Part → List ℕ → List ℕ
parts_before [] rest = rest
parts_before (part ∷ parts) rest = part_before part (parts_before parts rest)

-- the rest of the text from what stands behind a statement on
abbrev pub statements_bytes : Statements → List ℕ
statements_bytes (statements.ends parts ending) = parts_before parts (ending_text ending)
statements_bytes (statements.another parts s more) = parts_before parts (statement_before s (statements_bytes more))

-- ---- these are the texts and what follows
pub skip-before : (skip : Skip) (rest : List ℕ) → skip_before skip rest ≡ skip_text skip ++ rest
skip-before (blank byte) rest = refl
skip-before (continued skipped) rest = ap (λ xs. 46 ∷ 46 ∷ 46 ∷ xs) (sym (append_assoc skipped (10 ∷ []) rest))

pub gap-before : (gap : Gap) (rest : List ℕ) → gap_before gap rest ≡ gap_text gap ++ rest
gap-before [] rest = refl
gap-before (skip ∷ gap) rest = ap (skip_before skip) (gap-before gap rest) ∙ skip-before skip (gap_text gap ++ rest) ∙ sym (append_assoc (skip_text skip) (gap_text gap) rest)

pub line_end-before : (end : LineEnd) (rest : List ℕ) → line_end_before end rest ≡ line_end_text end ++ rest
line_end-before bare rest = refl
line_end-before (commented comment) rest = ap (λ xs. 37 ∷ xs) (sym (append_assoc comment (10 ∷ []) rest))

pub characters-before : (quote : ℕ) (characters : List Character) (rest : List ℕ) → characters_before quote characters rest ≡ characters_text quote characters ++ rest
characters-before quote [] rest = refl
characters-before quote (one byte ∷ others) rest = ap (λ xs. byte ∷ xs) (characters-before quote others rest)
characters-before quote (doubled ∷ others) rest = ap (λ xs. quote ∷ quote ∷ xs) (characters-before quote others rest)

pub row_end-before : (end : RowEnd) (rest : List ℕ) → row_end_before end rest ≡ row_end_text end ++ rest
row_end-before semicolon rest = refl
row_end-before (line_end end) rest = line_end-before end rest

mutual
  pub value-before : (value : Value) (rest : List ℕ) → value_before value rest ≡ value_text value ++ rest
  value-before (number text) rest = refl
  value-before (string quote characters) rest =
      ap (λ xs. quote ∷ xs) (characters-before quote characters (quote ∷ rest) ∙ sym (append_assoc (characters_text quote characters) (quote ∷ []) rest))
  value-before (matrix rows) rest = ap (λ xs. 91 ∷ xs) (rows-before rows (93 ∷ rest) ∙ sym (append_assoc (rows_text rows) (93 ∷ []) rest))
  value-before (cells rows) rest = ap (λ xs. 123 ∷ xs) (rows-before rows (125 ∷ rest) ∙ sym (append_assoc (rows_text rows) (125 ∷ []) rest))

  pub rows-before : (rows : Rows) (rest : List ℕ) → rows_before rows rest ≡ rows_text rows ++ rest
  rows-before (last_row row) rest = row-before row rest
  rows-before (row_then row end rows) rest =
      row-before row (row_end_before end (rows_before rows rest))
      ∙ ap (λ xs. row_text row ++ xs) (row_end-before end (rows_before rows rest) ∙ ap (λ xs. row_end_text end ++ xs) (rows-before rows rest)
      ∙ sym (append_assoc (row_end_text end) (rows_text rows) rest))
      ∙ sym (append_assoc (row_text row) (row_end_text end ++ rows_text rows) rest)

  pub row-before : (row : Row) (rest : List ℕ) → row_before row rest ≡ row_text row ++ rest
  row-before (no_elements gap) rest = gap-before gap rest
  row-before (elements gap value more) rest =
      gap-before gap (value_before value (more_before more rest))
      ∙ ap (λ xs. gap_text gap ++ xs) (value-before value (more_before more rest) ∙ ap (λ xs. value_text value ++ xs) (more-before more rest)
      ∙ sym (append_assoc (value_text value) (more_text more) rest))
      ∙ sym (append_assoc (gap_text gap) (value_text value ++ more_text more) rest)

  pub more-before : (more : More) (rest : List ℕ) → more_before more rest ≡ more_text more ++ rest
  more-before (no_more gap) rest = gap-before gap rest
  more-before (last_comma before behind) rest =
      gap-before before (44 ∷ gap_before behind rest)
      ∙ ap (λ xs. gap_text before ++ 44 ∷ xs) (gap-before behind rest)
      ∙ sym (append_assoc (gap_text before) (44 ∷ gap_text behind) rest)
  more-before (after_blanks gap value more) rest =
      gap-before gap (value_before value (more_before more rest))
      ∙ ap (λ xs. gap_text gap ++ xs) (value-before value (more_before more rest) ∙ ap (λ xs. value_text value ++ xs) (more-before more rest)
      ∙ sym (append_assoc (value_text value) (more_text more) rest))
      ∙ sym (append_assoc (gap_text gap) (value_text value ++ more_text more) rest)
  more-before (after_comma before behind value more) rest =
      gap-before before (44 ∷ gap_before behind (value_before value (more_before more rest)))
      ∙ ap (λ xs. gap_text before ++ 44 ∷ xs) (gap-before behind (value_before value (more_before more rest))
      ∙ ap (λ xs. gap_text behind ++ xs) (value-before value (more_before more rest) ∙ ap (λ xs. value_text value ++ xs) (more-before more rest)
      ∙ sym (append_assoc (value_text value) (more_text more) rest))
      ∙ sym (append_assoc (gap_text behind) (value_text value ++ more_text more) rest))
      ∙ sym (append_assoc (gap_text before) (44 ∷ (gap_text behind ++ (value_text value ++ more_text more))) rest)

pub statement-before : (s : Statement) (rest : List ℕ) → statement_before s rest ≡ statement_text s ++ rest
statement-before s rest =
    ap (λ xs. target_text s.target ++ xs)
    (gap-before s.behind_target (61 ∷ gap_before s.behind_equals (value_before s.value rest))
    ∙ ap (λ xs. gap_text s.behind_target ++ 61 ∷ xs)
    (gap-before s.behind_equals (value_before s.value rest) ∙ ap (λ xs. gap_text s.behind_equals ++ xs) (value-before s.value rest)
    ∙ sym (append_assoc (gap_text s.behind_equals) (value_text s.value) rest))
    ∙ sym (append_assoc (gap_text s.behind_target) (61 ∷ (gap_text s.behind_equals ++ value_text s.value)) rest))
    ∙ sym (append_assoc (target_text s.target) (gap_text s.behind_target ++ 61 ∷ (gap_text s.behind_equals ++ value_text s.value)) rest)

pub first-before : (first : First) (rest : List ℕ) → first_before first rest ≡ first_text first ++ rest
first-before first rest =
    ap (λ xs. codes "function" ++ xs)
    (gap-before first.behind_function _
    ∙ ap (λ xs. gap_text first.behind_function ++ (codes "mpc" ++ xs))
    (gap-before first.behind_mpc (61 ∷ gap_before first.behind_equals (first.name ++ rest))
    ∙ ap (λ xs. gap_text first.behind_mpc ++ 61 ∷ xs)
    (gap-before first.behind_equals (first.name ++ rest) ∙ sym (append_assoc (gap_text first.behind_equals) first.name rest))
    ∙ sym (append_assoc (gap_text first.behind_mpc) (61 ∷ (gap_text first.behind_equals ++ first.name)) rest))
    ∙ sym (append_assoc (gap_text first.behind_function) (codes "mpc" ++ (gap_text first.behind_mpc ++ 61 ∷ (gap_text first.behind_equals ++ first.name))) rest))

pub part-before : (part : Part) (rest : List ℕ) → part_before part rest ≡ part_text part ++ rest
part-before (statements.skipped skip) rest = skip-before skip rest
part-before (statements.line_end end) rest = line_end-before end rest
part-before statements.semicolon rest = refl
part-before statements.comma rest = refl

pub parts-before : (parts : List Part) (rest : List ℕ) → parts_before parts rest ≡ parts_text parts ++ rest
parts-before [] rest = refl
parts-before (part ∷ parts) rest = ap (part_before part) (parts-before parts rest) ∙ part-before part (parts_text parts ++ rest) ∙ sym (append_assoc (part_text part) (parts_text parts) rest)

pub statements-bytes : (all : Statements) → statements_bytes all ≡ statements_text all
statements-bytes (statements.ends parts ending) = parts-before parts (ending_text ending)
statements-bytes (statements.another parts s more) =
    parts-before parts (statement_before s (statements_bytes more))
    ∙ ap (λ xs. parts_text parts ++ xs) (statement-before s (statements_bytes more) ∙ ap (λ xs. statement_text s ++ xs) (statements-bytes more))

-- ---- what follows is the rest of a text where the whole is
pub record IsRest (text rest : List ℕ) : Type 0 where
  pub before : List ℕ
  pub is : text ≡ before ++ rest

pub rest-append : (text xs rest : List ℕ) → IsRest text (xs ++ rest) → IsRest text rest
rest-append text xs rest r = record { before = r.before ++ xs; is = r.is ∙ sym (append_assoc r.before xs rest) }

rest-as : (text xs rest all : List ℕ) → all ≡ xs ++ rest → IsRest text all → IsRest text rest
rest-as text xs rest all e r = rest-append text xs rest (subst (IsRest text) e r)

pub rest-cons : (text : List ℕ) (byte : ℕ) (rest : List ℕ) → IsRest text (byte ∷ rest) → IsRest text rest
rest-cons text byte rest r = rest-append text (byte ∷ []) rest r

pub rest-skip : (text : List ℕ) (skip : Skip) (rest : List ℕ) → IsRest text (skip_before skip rest) → IsRest text rest
rest-skip text skip rest r = rest-as text (skip_text skip) rest (skip_before skip rest) (skip-before skip rest) r

pub rest-gap : (text : List ℕ) (gap : Gap) (rest : List ℕ) → IsRest text (gap_before gap rest) → IsRest text rest
rest-gap text gap rest r = rest-as text (gap_text gap) rest (gap_before gap rest) (gap-before gap rest) r

pub rest-line_end : (text : List ℕ) (end : LineEnd) (rest : List ℕ) → IsRest text (line_end_before end rest) → IsRest text rest
rest-line_end text end rest r = rest-as text (line_end_text end) rest (line_end_before end rest) (line_end-before end rest) r

pub rest-row_end : (text : List ℕ) (end : RowEnd) (rest : List ℕ) → IsRest text (row_end_before end rest) → IsRest text rest
rest-row_end text end rest r = rest-as text (row_end_text end) rest (row_end_before end rest) (row_end-before end rest) r

pub rest-value : (text : List ℕ) (value : Value) (rest : List ℕ) → IsRest text (value_before value rest) → IsRest text rest
rest-value text value rest r = rest-as text (value_text value) rest (value_before value rest) (value-before value rest) r

pub rest-rows : (text : List ℕ) (rows : Rows) (rest : List ℕ) → IsRest text (rows_before rows rest) → IsRest text rest
rest-rows text rows rest r = rest-as text (rows_text rows) rest (rows_before rows rest) (rows-before rows rest) r

pub rest-row : (text : List ℕ) (row : Row) (rest : List ℕ) → IsRest text (row_before row rest) → IsRest text rest
rest-row text row rest r = rest-as text (row_text row) rest (row_before row rest) (row-before row rest) r

pub rest-more : (text : List ℕ) (more : More) (rest : List ℕ) → IsRest text (more_before more rest) → IsRest text rest
rest-more text more rest r = rest-as text (more_text more) rest (more_before more rest) (more-before more rest) r

pub rest-part : (text : List ℕ) (part : Part) (rest : List ℕ) → IsRest text (part_before part rest) → IsRest text rest
rest-part text part rest r = rest-as text (part_text part) rest (part_before part rest) (part-before part rest) r

pub rest-parts : (text : List ℕ) (parts : List Part) (rest : List ℕ) → IsRest text (parts_before parts rest) → IsRest text rest
rest-parts text parts rest r = rest-as text (parts_text parts) rest (parts_before parts rest) (parts-before parts rest) r

pub rest-statement : (text : List ℕ) (s : Statement) (rest : List ℕ) → IsRest text (statement_before s rest) → IsRest text rest
rest-statement text s rest r = rest-as text (statement_text s) rest (statement_before s rest) (statement-before s rest) r

pub rest-first : (text : List ℕ) (first : First) (rest : List ℕ) → IsRest text (first_before first rest) → IsRest text rest
rest-first text first rest r = rest-as text (first_text first) rest (first_before first rest) (first-before first rest) r
