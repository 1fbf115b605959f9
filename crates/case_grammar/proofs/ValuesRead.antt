-- A value that is read stands there by the grammar.
use Rattle.std.proofs.Common.{◌≡◌, ℕ, ◌<◌, ◌&&◌, ◌||◌, Bool, true, false, List, [], ◌∷◌, ◌++◌, length, refl, sym, ap, subst, ◌∙◌, arith, Option, Some, None, Ok, codes, inl, inr, length-append}
use Rattle.std.specs.Prelude.{is_some}
use Rattle.std.specs.Str.{bytes_eq}
use Rattle.std.proofs.lemmas.Bool.{or_cases, and_parts, false≢true}
use Rattle.std.proofs.lemmas.Slice.Eq.{bytes_eq-Decides}
use Rattle.scaled_decimal.specs.Reading.{is_number_text}
use Rattle.scaled_decimal.proofs.ReadingLaws.{is_number_text-IsNumber}
use Rattle.record_reading.specs.Steps.{and_then}
use Rattle.record_reading.proofs.StepLemmas.{then-ok, ok-same}
use Rattle.case_tokens.specs.declared.Token.{Token}
use Rattle.case_text.specs.declared.CaseFault.{CaseFault}
use Rattle.case_text.specs.declared.CaseFault.TheVariants as fault
use Rattle.case_text.specs.declared.Field.{Field}
use Rattle.case_text.specs.declared.Field.TheVariants as field
use Rattle.case_text.specs.declared.nests.Before.TheVariants as before
use Rattle.case_text.specs.declared.words.Bracket.{Bracket}
use Rattle.case_text.specs.declared.words.Bracket.TheVariants as bracket
use Rattle.case_text.specs.declared.words.Word.{Word}
use Rattle.case_text.specs.declared.words.Word.TheVariants as word
use Rattle.case_text.specs.Words.{word_of, text_of, is_separator}
use Rattle.case_text.specs.Names.{is_version_one, is_version_two, takes_number, takes_text, takes_bracket}
use Rattle.case_text.specs.Nests.{first_nest, behind_brackets}
use Rattle.case_text.specs.Statements.{Setting, behind_end, ended, plain_value, bracketed, value_by, matrix_rows, not_version_one}
use Rattle.case_text.proofs.StatementLemmas.{allowed, refused, no-ok, same-ok}
use Rattle.case_grammar.specs.Gaps.{Gap, IsGap}
use Rattle.case_grammar.specs.Values.{Value, number, string, matrix, cells, Rows, last_row, row_then, Row, no_elements, elements, More, no_more, last_comma, after_blanks, after_comma, Content, numbers, plain, anything, IsValue, IsElement, AreRows, IsRow, IsMore, IsString, Character, one, doubled, characters_text, rows_of, rows_text}
use Rattle.case_grammar.specs.Statements.{IsTwo, IsNumeral}
use Rattle.case_grammar.proofs.Lines.{IsBlockless}
use Rattle.case_grammar.proofs.Texts.{gap_before, value_before, rows_before, rows-before, characters_before, IsRest}
use Rattle.case_grammar.proofs.Places.{tokens_at}
use Rattle.case_grammar.proofs.Pieces.{EndsRun, string_rest}
use Rattle.case_grammar.proofs.Closing.{nest_in}
use Rattle.case_grammar.proofs.Cells.{rows-rows}
use Rattle.case_grammar.proofs.Completeness.{kept}
use Rattle.case_grammar.proofs.Fine.{IsClean, passed-test, failed-test}
use Rattle.case_grammar.proofs.Blocks.{NoneFrom}
use Rattle.case_grammar.proofs.Inside.{only_of, bracket_of, closing_of, opening_of, opens-nothing, rows_with, rows-with, are-rows, RowOf, row-read}
use Rattle.case_grammar.proofs.Tokens.{Tail, TokenIs, token_parts, token_equals, token_opens, token_closes, token_string, token_run}

-- ---- where numbers may stand, other elements may too
plain-element : (value : Value) (depth : ℕ) → IsElement numbers depth value → IsElement plain depth value
plain-element (number digits) depth h = h
plain-element (string quote characters) depth h = absurd h.0
plain-element (matrix rows) depth h = absurd h.0
plain-element (cells rows) depth h = absurd h.0

plain-more : (more : More) (depth : ℕ) (element : Value) → IsMore numbers depth element more → IsMore plain depth element more
plain-more (no_more gap) depth element h = h
plain-more (last_comma front behind) depth element h = h
plain-more (after_blanks gap value more) depth element h = (h.0, h.1, h.2, plain-element value depth h.3, plain-more more depth value h.4)
plain-more (after_comma front behind value more) depth element h = (h.0, h.1, h.2, plain-element value depth h.3, plain-more more depth value h.4)

plain-row : (row : Row) (depth : ℕ) → IsRow numbers depth row → IsRow plain depth row
plain-row (no_elements gap) depth h = h
plain-row (elements gap value more) depth h = (h.0, plain-element value depth h.1, plain-more more depth value h.2)

plain-rows : (rows : Rows) (depth : ℕ) → AreRows numbers depth rows → AreRows plain depth rows
plain-rows (last_row row) depth h = plain-row row depth h
plain-rows (row_then row end rows) depth h = (plain-row row depth h.0, h.1, plain-rows rows depth h.2)

-- ---- the value is one that the field takes, but that the rows of a matrix may be uneven
abbrev pub IsOfNumbers : Value → Type 0
IsOfNumbers (number digits) = ⊥
IsOfNumbers (string quote characters) = ⊥
IsOfNumbers (matrix rows) = AreRows numbers 1 rows
IsOfNumbers (cells rows) = ⊥

abbrev pub TakesMostly : Option Field → Value → Type 0
TakesMostly None value = Unit {0}
TakesMostly (Some field.Version) value = IsTwo value
TakesMostly (Some field.BaseMva) value = IsNumeral value
TakesMostly (Some field.Bus) value = IsOfNumbers value
TakesMostly (Some field.Gen) value = IsOfNumbers value
TakesMostly (Some field.Branch) value = IsOfNumbers value

-- a number goes up to what ends it
abbrev pub Stops : Value → List ℕ → Type 0
Stops (number digits) behind = EndsRun false behind
Stops (string quote characters) behind = Unit {0}
Stops (matrix rows) behind = Unit {0}
Stops (cells rows) behind = Unit {0}

pub record ValueOf (text : List ℕ) (field : Option Field) (line : ℕ) (rest : List ℕ) (read : Setting × List Token) : Type 0 where
  pub gap : Gap
  pub value : Value
  pub behind : List ℕ
  pub gap_is : IsGap gap
  pub value_is : IsValue value
  pub takes : TakesMostly field value
  pub is : rest ≡ gap_before gap (value_before value behind)
  pub field_is : (read.0).field ≡ field
  pub rows_are : IsBlockless text → (read.0).rows ≡ kept field value
  pub ends : behind_end text line (tokens_at text 0 behind).tokens ≡ Ok read.1
  pub stops : Stops value behind
  pub clean : IsClean text (tokens_at text 0 behind)
  pub here : IsRest text behind
  pub none : NoneFrom text behind → NoneFrom text rest
  pub shorter : length behind < length rest

-- ---- the end of the statement
record EndedAs (text : List ℕ) (line : ℕ) (setting : Setting) (tokens : List Token) (read : Setting × List Token) : Type 0 where
  ends : behind_end text line tokens ≡ Ok read.1
  setting_is : read.0 ≡ setting

ended-as : (text : List ℕ) (line : ℕ) (setting : Setting) (tokens : List Token) (read : Setting × List Token) → ended text line setting tokens ≡ Ok read → EndedAs text line setting tokens read
ended-as text line setting tokens read e =
    let p = then-ok (behind_end text line tokens) (λ behind. Ok (setting, behind)) read e in
    let same : (setting, p.0) ≡ read = ok-same {F = CaseFault} (setting, p.0) read p.2 in
    record { ends = p.1 ∙ ap (λ (x : Setting × List Token). Ok x.1) same; setting_is = ap (λ (x : Setting × List Token). x.0) (sym same) }

plain-as : (text : List ℕ) (line : ℕ) (field : Option Field) (test : Bool) (tokens : List Token) (read : Setting × List Token) → plain_value text line field test tokens ≡ Ok read →
    (test ≡ true) × EndedAs text line (record { field = field; rows = [] }) tokens read
unfolding plain_value
plain-as text line field test tokens read e =
    let go = ended text line (record { field = field; rows = [] }) tokens in
    (passed-test test (fault.Code line) read go e, ended-as text line (record { field = field; rows = [] }) tokens read (allowed test (fault.Code line) read go e))

-- ---- numbers and strings
takes-number : (field : Option Field) (digits : List ℕ) → takes_number field ≡ true → TakesMostly field (number digits)
takes-number None digits h = tt
takes-number (Some field.Version) digits h = absurd (false≢true h)
takes-number (Some field.BaseMva) digits h = tt
takes-number (Some field.Bus) digits h = absurd (false≢true h)
takes-number (Some field.Gen) digits h = absurd (false≢true h)
takes-number (Some field.Branch) digits h = absurd (false≢true h)

kept-none : (field : Option Field) (value : Value) → rows_of value ≡ [] → [] ≡ kept field value
kept-none None value h = refl
kept-none (Some f) value h = sym h

number-of : (text : List ℕ) (field : Option Field) (line : ℕ) (rest : List ℕ) (token : Token) (more : List Token) (read : Setting × List Token) (gap : Gap) (b : ℕ) (bytes behind : List ℕ) → IsGap gap →
    EndsRun false behind → rest ≡ gap_before gap (b ∷ (bytes ++ behind)) → text_of text token ≡ b ∷ bytes → Tail text 0 rest behind more →
    plain_value text line field (is_number_text (text_of text token) && takes_number field) more ≡ Ok read → ValueOf text field line rest read
number-of text field line rest token more read gap b bytes behind g stops is t tail e =
    let p = plain-as text line field (is_number_text (text_of text token) && takes_number field) more read e in
    let tests = and_parts (is_number_text (text_of text token)) (takes_number field) p.0 in
    record {
      gap = gap;
      value = number (b ∷ bytes);
      behind = behind;
      gap_is = g;
      value_is = (is_number_text-IsNumber (b ∷ bytes)).0 (ap is_number_text (sym t) ∙ tests.0);
      takes = takes-number field (b ∷ bytes) tests.1;
      is = is;
      field_is = ap (λ (s : Setting). s.field) (p.1).setting_is;
      rows_are = λ blocks. ap (λ (s : Setting). s.rows) (p.1).setting_is ∙ kept-none field (number (b ∷ bytes)) refl;
      ends = ap (behind_end text line) tail.tokens ∙ (p.1).ends;
      stops = stops;
      clean = tail.clean;
      here = tail.here;
      none = tail.none;
      shorter = tail.shorter;
    }

two-characters : (quote x : ℕ) (characters : List Character) → string_rest quote characters ≡ 50 ∷ x ∷ [] → characters ≡ one 50 ∷ []
two-characters quote x [] e = absurd (Prim.omega (arith, ap (λ (xs : List ℕ). length xs) e))
two-characters quote x (one b ∷ []) e = let same : b ≡ 50 = Prim.cc in ap (λ c. one c ∷ []) same
two-characters quote x (one b ∷ one c ∷ characters) e =
    absurd (Prim.omega (arith, ap (λ (xs : List ℕ). length xs) e, length-append (characters_text quote characters) (quote ∷ [])))
two-characters quote x (one b ∷ doubled ∷ characters) e =
    absurd (Prim.omega (arith, ap (λ (xs : List ℕ). length xs) e, length-append (characters_text quote characters) (quote ∷ [])))
two-characters quote x (doubled ∷ characters) e =
    absurd (Prim.omega (arith, ap (λ (xs : List ℕ). length xs) e, length-append (characters_text quote characters) (quote ∷ [])))

behind-first : (a b : ℕ) (xs ys : List ℕ) → a ∷ xs ≡ b ∷ ys → xs ≡ ys
behind-first a b xs ys e = Prim.cc

second-true : (a b : Bool) → a ≡ false → (a || b) ≡ true → b ≡ true
second-true true b h k = absurd (false≢true (sym h))
second-true false b h k = k

two-of : (quote : ℕ) (characters : List Character) → takes_text (Some field.Version) (quote ∷ string_rest quote characters) ≡ true → (true && is_version_one (quote ∷ string_rest quote characters)) ≡ false →
    characters ≡ one 50 ∷ []
unfolding is_version_two
two-of quote characters h k =
    let bytes : List ℕ = quote ∷ string_rest quote characters in
    elim (or_cases (bytes_eq bytes (codes "'2'")) (bytes_eq bytes (codes "\"2\"")) (second-true (is_version_one bytes) _ k h)) [
      | inl e ↦ two-characters quote 39 characters (behind-first quote 39 _ _ ((bytes_eq-Decides bytes (codes "'2'")).0 e))
      | inr e ↦ two-characters quote 34 characters (behind-first quote 34 _ _ ((bytes_eq-Decides bytes (codes "\"2\"")).0 e))
    ]

takes-string : (field : Option Field) (quote : ℕ) (characters : List Character) → takes_text field (quote ∷ string_rest quote characters) ≡ true →
    (is_some field && is_version_one (quote ∷ string_rest quote characters)) ≡ false → TakesMostly field (string quote characters)
takes-string None quote characters h k = tt
takes-string (Some field.Version) quote characters h k = two-of quote characters h k
takes-string (Some field.BaseMva) quote characters h k = absurd (false≢true h)
takes-string (Some field.Bus) quote characters h k = absurd (false≢true h)
takes-string (Some field.Gen) quote characters h k = absurd (false≢true h)
takes-string (Some field.Branch) quote characters h k = absurd (false≢true h)

string-read : (text : List ℕ) (field : Option Field) (line : ℕ) (rest : List ℕ) (token : Token) (more : List Token) (read : Setting × List Token) (gap : Gap) (quote : ℕ) (characters : List Character) (behind : List ℕ) →
    IsGap gap → IsString quote characters → rest ≡ gap_before gap (quote ∷ characters_before quote characters (quote ∷ behind)) → text_of text token ≡ quote ∷ string_rest quote characters → Tail text 0 rest behind more →
    and_then (plain_value text line field (takes_text field (text_of text token)) more) (not_version_one field (text_of text token)) ≡ Ok read → ValueOf text field line rest read
string-read text field line rest token more read gap quote characters behind g s is t tail e =
    let q = then-ok (plain_value text line field (takes_text field (text_of text token)) more) (not_version_one field (text_of text token)) read e in
    let p = plain-as text line field (takes_text field (text_of text token)) more q.0 q.1 in
    let test : Bool = is_some field && is_version_one (text_of text token) in
    let old = failed-test test fault.VersionOne read (Ok q.0) q.2 in
    let same : q.0 ≡ read = same-ok q.0 read (Ok q.0) refl (refused test fault.VersionOne read (Ok q.0) q.2) in
    record {
      gap = gap;
      value = string quote characters;
      behind = behind;
      gap_is = g;
      value_is = (tt, s);
      takes = takes-string field quote characters (ap (takes_text field) (sym t) ∙ p.0) (ap (λ xs. is_some field && is_version_one xs) (sym t) ∙ old);
      is = is;
      field_is = ap (λ (x : Setting × List Token). (x.0).field) (sym same) ∙ ap (λ (s : Setting). s.field) (p.1).setting_is;
      rows_are = λ blocks. ap (λ (x : Setting × List Token). (x.0).rows) (sym same) ∙ ap (λ (s : Setting). s.rows) (p.1).setting_is ∙ kept-none field (string quote characters) refl;
      ends = ap (behind_end text line) tail.tokens ∙ (p.1).ends ∙ ap (λ (x : Setting × List Token). Ok x.1) same;
      stops = tt;
      clean = tail.clean;
      here = tail.here;
      none = tail.none;
      shorter = tail.shorter;
    }

-- ---- matrices and cell lists
abbrev value_with : Content → Rows → Value
value_with numbers rows = matrix rows
value_with plain rows = matrix rows
value_with anything rows = cells rows

value-with : (content : Content) (rows : Rows) (rest : List ℕ) → opening_of (bracket_of content) ∷ rows_before rows (closing_of (bracket_of content) ∷ rest) ≡ value_before (value_with content rows) rest
value-with numbers rows rest = refl
value-with plain rows rest = refl
value-with anything rows rest = refl

value-is : (content : Content) (rows : Rows) → AreRows content 1 rows → IsValue (value_with content rows)
value-is numbers rows h = (tt, Prim.omega arith, plain-rows rows 1 h)
value-is plain rows h = (tt, Prim.omega arith, h)
value-is anything rows h = (tt, Prim.omega arith, h)

stops-with : (content : Content) (rows : Rows) (behind : List ℕ) → Stops (value_with content rows) behind
stops-with numbers rows behind = tt
stops-with plain rows behind = tt
stops-with anything rows behind = tt

-- what may stand inside a bracket that the field takes
record Choice (text : List ℕ) (field : Option Field) (inner : Bracket) : Type 0 where
  content : Content
  only : only_of content ≡ is_some field
  inner_is : bracket_of content ≡ inner
  takes : (rows : Rows) → AreRows content 1 rows → TakesMostly field (value_with content rows)
  rows_are : IsBlockless text → (rows : Rows) (behind : List ℕ) → AreRows content 1 rows → IsRest text (rows_before rows (closing_of (bracket_of content) ∷ behind)) →
      matrix_rows field text (tokens_at text 1 (rows_before rows (closing_of (bracket_of content) ∷ behind))).tokens ≡ kept field (value_with content rows)

of-numbers : (text : List ℕ) (f : Field) → ((rows : Rows) → AreRows numbers 1 rows → TakesMostly (Some f) (matrix rows)) → Choice text (Some f) bracket.Square
of-numbers text f takes = record { content = numbers; only = refl; inner_is = refl; takes = takes; rows_are = λ blocks rows behind h r. rows-rows text blocks rows 1 behind h r }

choice-of : (text : List ℕ) (field : Option Field) (inner : Bracket) → takes_bracket field inner ≡ true → Choice text field inner
choice-of text None bracket.Square h = record { content = plain; only = refl; inner_is = refl; takes = λ rows k. tt; rows_are = λ blocks rows behind k r. refl }
choice-of text None bracket.Curly h = record { content = anything; only = refl; inner_is = refl; takes = λ rows k. tt; rows_are = λ blocks rows behind k r. refl }
choice-of text (Some field.Version) bracket.Square h = absurd (false≢true h)
choice-of text (Some field.Version) bracket.Curly h = absurd (false≢true h)
choice-of text (Some field.BaseMva) bracket.Square h = absurd (false≢true h)
choice-of text (Some field.BaseMva) bracket.Curly h = absurd (false≢true h)
choice-of text (Some field.Bus) bracket.Square h = of-numbers text field.Bus (λ rows k. k)
choice-of text (Some field.Bus) bracket.Curly h = absurd (false≢true h)
choice-of text (Some field.Gen) bracket.Square h = of-numbers text field.Gen (λ rows k. k)
choice-of text (Some field.Gen) bracket.Curly h = absurd (false≢true h)
choice-of text (Some field.Branch) bracket.Square h = of-numbers text field.Branch (λ rows k. k)
choice-of text (Some field.Branch) bracket.Curly h = absurd (false≢true h)

brackets-read : (text : List ℕ) (field : Option Field) (inner : Bracket) (choice : Choice text field inner) (behind : List ℕ) (more left : List Token) → (tokens_at text 1 behind).tokens ≡ more →
    IsRest text behind → IsClean text (tokens_at text 1 behind) → behind_brackets text None (is_some field) (first_nest inner) more ≡ Ok left → RowOf text choice.content [] behind left
brackets-read text field inner choice behind more left t r clean e =
    row-read text choice.content before.Nothing [] behind left opens-nothing r clean
    (ap (λ only. behind_brackets text None only (nest_in [] (bracket_of choice.content) before.Nothing) (tokens_at text 1 behind).tokens) choice.only
    ∙ ap (λ (b : Bracket). behind_brackets text None (is_some field) (nest_in [] b before.Nothing) (tokens_at text 1 behind).tokens) choice.inner_is
    ∙ ap (λ tokens. behind_brackets text None (is_some field) (first_nest inner) tokens) t ∙ e)

bracketed-of : (text : List ℕ) (field : Option Field) (line : ℕ) (rest : List ℕ) (more : List Token) (read : Setting × List Token) (gap : Gap) (inner : Bracket) (behind : List ℕ) → IsGap gap →
    rest ≡ gap_before gap (opening_of inner ∷ behind) → Tail text 1 rest behind more → bracketed text None line field inner more ≡ Ok read → ValueOf text field line rest read
unfolding bracketed
bracketed-of text field line rest more read gap inner behind g is tail e =
    let setting : Setting = record { field = field; rows = matrix_rows field text more } in
    let test : Bool = takes_bracket field inner in
    let choice = choice-of text field inner (passed-test test (fault.Code line) read _ e) in
    let p = then-ok (behind_brackets text None (is_some field) (first_nest inner) more) (λ xs. ended text line setting xs) read (allowed test (fault.Code line) read _ e) in
    let q = ended-as text line setting p.0 read p.2 in
    let found_row = brackets-read text field inner choice behind more p.0 tail.tokens tail.here tail.clean p.1 in
    let rows : Rows = rows_with found_row.row found_row.ends in
    let content : Content = choice.content in
    let rows_is : AreRows content 1 rows = are-rows content 1 found_row.row found_row.ends found_row.row_is found_row.ends_are in
    let further : List ℕ = found_row.behind in
    let behind_is : behind ≡ rows_before rows (closing_of (bracket_of content) ∷ further) = found_row.is ∙ sym (rows-with found_row.row found_row.ends (closing_of (bracket_of content) ∷ further)) in
    record {
      gap = gap;
      value = value_with content rows;
      behind = further;
      gap_is = g;
      value_is = value-is content rows rows_is;
      takes = choice.takes rows rows_is;
      is = is ∙ ap (λ (b : Bracket). gap_before gap (opening_of b ∷ behind)) (sym choice.inner_is) ∙ ap (λ xs. gap_before gap (opening_of (bracket_of content) ∷ xs)) behind_is
          ∙ ap (gap_before gap) (value-with content rows further);
      field_is = ap (λ (s : Setting). s.field) q.setting_is;
      rows_are = λ blocks.
          ap (λ (s : Setting). s.rows) q.setting_is ∙ ap (matrix_rows field text) (sym tail.tokens ∙ ap (λ xs. (tokens_at text 1 xs).tokens) behind_is)
          ∙ choice.rows_are blocks rows further rows_is (subst (IsRest text) behind_is tail.here);
      ends = ap (behind_end text line) (ok-same {F = CaseFault} (tokens_at text 0 further).tokens p.0 found_row.left_is) ∙ q.ends;
      stops = stops-with content rows further;
      clean = found_row.clean;
      here = found_row.here;
      none = λ x. tail.none (found_row.none x);
      shorter = Prim.omega (arith, tail.shorter, ap (λ (xs : List ℕ). length xs) (behind_is ∙ rows-before rows (closing_of (bracket_of content) ∷ further)), length-append (rows_text rows) (closing_of (bracket_of content) ∷ further));
    }

-- ---- by the first token
separator-value : (said : Word) (text : List ℕ) (line : ℕ) (field : Option Field) (token : Token) (more : List Token) (read : Setting × List Token) → is_separator said ≡ true →
    value_by said text None line field token more ≡ Ok read → ⊥
unfolding value_by
separator-value word.Semicolon text line field token more read h e = no-ok (fault.Code line) read _ refl e
separator-value word.Comma text line field token more read h e = no-ok (fault.Code line) read _ refl e
separator-value word.LineEnd text line field token more read h e = no-ok (fault.Code line) read _ refl e
separator-value _ text line field token more read h e = false≢true h

by-word : (text : List ℕ) (line : ℕ) (field : Option Field) (token : Token) (more : List Token) (w : Word) (read : Setting × List Token) → word_of text token ≡ w →
    value_by (word_of text token) text None line field token more ≡ Ok read → value_by w text None line field token more ≡ Ok read
by-word text line field token more w read e h = ap (λ (x : Word). value_by x text None line field token more) (sym e) ∙ h

pub value-of : (text : List ℕ) (field : Option Field) (line : ℕ) (rest : List ℕ) (token : Token) (more : List Token) (read : Setting × List Token) → TokenIs text rest token more →
    value_by (word_of text token) text None line field token more ≡ Ok read → ValueOf text field line rest read
unfolding value_by
value-of text field line rest token more read (token_parts gap part behind g k end is w tail) e = absurd (separator-value (word_of text token) text line field token more read w e)
value-of text field line rest token more read (token_equals gap behind g is w tail) e = absurd (no-ok (fault.Code line) read _ refl (by-word text line field token more word.Equals read w e))
value-of text field line rest token more read (token_closes inner w) e = absurd (no-ok (fault.Code line) read _ refl (by-word text line field token more (word.Closing inner) read w e))
value-of text field line rest token more read (token_opens gap inner behind g is w tail) e =
    bracketed-of text field line rest more read gap inner behind g is tail (by-word text line field token more (word.Opening inner) read w e)
value-of text field line rest token more read (token_string gap quote characters behind g s is w t tail) e =
    string-read text field line rest token more read gap quote characters behind g s is t tail (by-word text line field token more word.Quoted read w e)
value-of text field line rest token more read (token_run gap b bytes behind g stops is w t tail) e =
    number-of text field line rest token more read gap b bytes behind g stops is t tail (by-word text line field token more word.Run read w e)
