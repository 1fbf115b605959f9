-- Values, statements and whole texts by the grammar are read.
use Rattle.std.proofs.Common.{◌≡◌, ℕ, zero, suc, ◌-◌, ◌&&◌, ◌⊎◌, Bool, true, false, List, [], ◌∷◌, ◌++◌, length, drop, map, refl, sym, ap, subst, ◌∙◌, arith, Option, Some, None, Result, Ok, cond, codes, inl, inr, append_assoc, append-nil}
use Rattle.std.specs.Prelude.{is_some, nat_le}
use Rattle.std.specs.Char.{is_ascii_alphabetic}
use Rattle.std.specs.Str.{bytes_eq}
use Rattle.std.proofs.lemmas.Bool.{cond-true, cond-false, and_from, and_left, and_parts, leb-true, ne_eqb, false≢true}
use Rattle.std.proofs.lemmas.List.{length-drop}
use Rattle.scaled_decimal.specs.Decimal.{IsNumber}
use Rattle.scaled_decimal.specs.Reading.{is_number_text}
use Rattle.scaled_decimal.proofs.ReadingLaws.{is_number_text-IsNumber}
use Rattle.record_reading.specs.Records.{Record}
use Rattle.record_reading.specs.Steps.{and_then}
use Rattle.case_tokens.specs.declared.Kind.TheVariants as kind
use Rattle.case_tokens.specs.declared.Token.{Token}
use Rattle.case_tokens.specs.TokenLists.{TokenList, with_first, token_list}
use Rattle.case_text.specs.declared.CaseFault.{CaseFault}
use Rattle.case_text.specs.declared.Field.{Field}
use Rattle.case_text.specs.declared.Field.TheVariants as field
use Rattle.case_text.specs.declared.nests.Before.{Before}
use Rattle.case_text.specs.declared.nests.Before.TheVariants as before
use Rattle.case_text.specs.declared.words.Bracket.{Bracket}
use Rattle.case_text.specs.declared.words.Bracket.TheVariants as bracket
use Rattle.case_text.specs.declared.words.Word.{Word}
use Rattle.case_text.specs.declared.words.Word.TheVariants as word
use Rattle.case_text.specs.Words.{word_of, word_by, mark_of, text_of, is_separator, is_equals, is_run, opens_square}
use Rattle.case_text.specs.Names.{is_target, is_name_text, field_of, is_version_one, is_version_two, takes_number, takes_text, takes_bracket}
use Rattle.case_text.specs.Nests.{first_nest}
use Rattle.case_text.specs.Matrices.{CaseMatrices, matrix_of}
use Rattle.case_text.specs.Statements.{Setting, Read, behind_end, ended, plain_value, not_version_one, matrix_rows, bracketed, value_by, statement_of, statement_at}
use Rattle.case_text.specs.Settings.{Settings, no_settings, with_setting, with_field, all_set}
use Rattle.case_text.specs.Cases.{case_from, named_from, function_from, statements_from, without_mark, case_of}
use Rattle.case_text.proofs.StatementLemmas as statement_lemmas
use Rattle.case_grammar.specs.Gaps.{Gap, IsGap, BeginsBlank, IsNotEmpty, blank, continued}
use Rattle.case_grammar.specs.Values.{Character, one, Value, number, string, matrix, cells, Rows, IsValue, IsString, AreRows, plain, anything, numbers, rows_of, Content}
use Rattle.case_grammar.specs.Statements.{IsName, Target, target_text, IsTarget, First, first_text, IsFirst, Statement, IsStatement, Takes, Statements, ends, another, AreStatements, AreApart, AreEnded, AreBehind, values_of, ending_text, parts_text}
use Rattle.case_grammar.specs.CaseTexts.{CaseText, body_text, case_text, IsText, Gives, IsCaseText}
use Rattle.case_grammar.proofs.BlockForms.{blockless}
use Rattle.case_grammar.proofs.Lines.{IsBlockless}
use Rattle.case_grammar.proofs.Texts.{gap_before, value_before, rows_before, characters_before, first_before, first-before, statement_before, parts_before, parts-before, statements_bytes, statements-bytes, IsRest, rest-append, rest-cons, rest-gap, rest-rows, rest-parts, rest-statement, rest-first}
use Rattle.case_grammar.proofs.Places.{tokens_at, token_at, token-word, token-text, at-start}
use Rattle.case_grammar.proofs.Words.{AreInner, letter, name-inner, target-inner, number-some}
use Rattle.case_grammar.proofs.Pieces.{EndsRun, GoesOnWithout, at-equals, at-square, at-curly, at-square_end, at-curly_end, at-string, string_rest, string-bytes}
use Rattle.case_grammar.proofs.Lexemes.{at-gap_before, at-number, at-word, blank-ends}
use Rattle.case_grammar.proofs.Closing.{Closes, closes-at, closes-last, step-closing, nest_in, closes-rows, Allows, allows-plain, allows-anything, allows-numbers}
use Rattle.case_grammar.proofs.Cells.{rows-rows}
use Rattle.case_grammar.proofs.Settings.{same_field, is_that, field-is, told, told-none, FitsField, told-next, setting-next, setting-other, all-told}
use Rattle.case_grammar.proofs.Names.{name-text, target-text}
use Rattle.case_grammar.proofs.Parts.{case-other, start-other, EndsAt, same-all, ends-all, at-ending, word-ends, text-ends, unquoted-parts, unquoted-ending, HasNoMark, unmarked-parts}

-- the value is one that the field takes
abbrev pub TakesAs : Option Field → Value → Type 0
TakesAs None value = Unit {0}
TakesAs (Some f) value = Takes f value

-- the rows that are kept of it
abbrev pub kept : Option Field → Value → List Record
kept None value = []
kept (Some f) value = rows_of value

-- ---- which values the reader takes
number-taken : (field : Option Field) (digits : List ℕ) → TakesAs field (number digits) → takes_number field ≡ true
number-taken None digits h = refl
number-taken (Some field.Version) digits h = absurd h
number-taken (Some field.BaseMva) digits h = refl
number-taken (Some field.Bus) digits h = absurd h
number-taken (Some field.Gen) digits h = absurd h
number-taken (Some field.Branch) digits h = absurd h

number-kept : (field : Option Field) (digits : List ℕ) → kept field (number digits) ≡ []
number-kept None digits = refl
number-kept (Some f) digits = refl

string-kept : (field : Option Field) (quote : ℕ) (characters : List Character) → kept field (string quote characters) ≡ []
string-kept None quote characters = refl
string-kept (Some f) quote characters = refl

pub two-taken : (quote : ℕ) (characters : List Character) → (quote ≡ 39) ⊎ (quote ≡ 34) → characters ≡ one 50 ∷ [] →
    (takes_text (Some field.Version) (quote ∷ string_rest quote characters) ≡ true) × ((true && is_version_one (quote ∷ string_rest quote characters)) ≡ false)
unfolding is_version_one is_version_two
two-taken quote characters (inl q) e =
    subst (λ x. (takes_text (Some field.Version) (x ∷ string_rest x characters) ≡ true) × ((true && is_version_one (x ∷ string_rest x characters)) ≡ false)) (sym q)
    (subst (λ (cs : List Character). (takes_text (Some field.Version) (39 ∷ string_rest 39 cs) ≡ true) × ((true && is_version_one (39 ∷ string_rest 39 cs)) ≡ false)) (sym e) (refl, refl))
two-taken quote characters (inr q) e =
    subst (λ x. (takes_text (Some field.Version) (x ∷ string_rest x characters) ≡ true) × ((true && is_version_one (x ∷ string_rest x characters)) ≡ false)) (sym q)
    (subst (λ (cs : List Character). (takes_text (Some field.Version) (34 ∷ string_rest 34 cs) ≡ true) × ((true && is_version_one (34 ∷ string_rest 34 cs)) ≡ false)) (sym e) (refl, refl))

string-taken : (field : Option Field) (quote : ℕ) (characters : List Character) → (quote ≡ 39) ⊎ (quote ≡ 34) → TakesAs field (string quote characters) →
    (takes_text field (quote ∷ string_rest quote characters) ≡ true) × ((is_some field && is_version_one (quote ∷ string_rest quote characters)) ≡ false)
string-taken None quote characters q h = (refl, refl)
string-taken (Some field.Version) quote characters q h = two-taken quote characters q h
string-taken (Some field.BaseMva) quote characters q h = absurd h
string-taken (Some field.Bus) quote characters q h = absurd h
string-taken (Some field.Gen) quote characters q h = absurd h
string-taken (Some field.Branch) quote characters q h = absurd h

-- ---- the end of a statement
ended-at : (text : List ℕ) (line : ℕ) (setting : Setting) (tokens behind : List Token) → behind_end text line tokens ≡ Ok behind → ended text line setting tokens ≡ Ok (setting, behind)
ended-at text line setting tokens behind e = ap (λ read. and_then read (λ x. Ok (setting, x))) e

plain-read : (text : List ℕ) (line : ℕ) (field : Option Field) (test : Bool) (rows : List Record) (tokens behind : List Token) → test ≡ true → rows ≡ [] → behind_end text line tokens ≡ Ok behind →
    plain_value text line field test tokens ≡ Ok (record { field = field; rows = rows }, behind)
unfolding plain_value
plain-read text line field test rows tokens behind t none e =
    cond-true test _ _ t ∙ ended-at text line (record { field = field; rows = [] }) tokens behind e
    ∙ ap (λ (r : List Record). Ok (record { field = field; rows = r }, behind)) (sym none)

-- ---- a value
pub record ReadsValue (text : List ℕ) (field : Option Field) (line : ℕ) (value : Value) (rest : List ℕ) : Type 0 where
  pub token : Token
  pub left : TokenList
  pub tokens : tokens_at text 0 (value_before value rest) ≡ with_first token left
  pub fault : left.fault ≡ (tokens_at text 0 rest).fault
  pub reads : (behind : List Token) → behind_end text line (tokens_at text 0 rest).tokens ≡ Ok behind →
      value_by (word_of text token) text None line field token left.tokens ≡ Ok (record { field = field; rows = kept field value }, behind)

by-word : (text : List ℕ) (line : ℕ) (field : Option Field) (token : Token) (tokens : List Token) (w : Word) (read : Read Setting) → word_of text token ≡ w →
    value_by w text None line field token tokens ≡ read → value_by (word_of text token) text None line field token tokens ≡ read
by-word text line field token tokens w read e h = ap (λ (x : Word). value_by x text None line field token tokens) e ∙ h

reads-number : (text : List ℕ) (field : Option Field) (line : ℕ) (digits rest : List ℕ) → IsNumber digits → TakesAs field (number digits) → IsRest text (digits ++ rest) → EndsRun false rest →
    ReadsValue text field line (number digits) rest
unfolding value_by
reads-number text field line [] rest h t r stops = absurd (number-some [] h refl)
reads-number text field line (d ∷ digits) rest h t r stops = reading where
  reading : ReadsValue text field line (number (d ∷ digits)) rest
  reading = record {
    token = token_at text (d ∷ (digits ++ rest)) kind.Run (suc (length digits));
    left = tokens_at text 0 rest;
    tokens = at-number text 0 (d ∷ digits) rest r h stops (λ e. absurd (false≢true e));
    fault = refl;
    reads = λ behind e.
        by-word text line field (token_at text (d ∷ (digits ++ rest)) kind.Run (suc (length digits))) _ word.Run _ (token-word text kind.Run (suc (length digits)) d (digits ++ rest) r)
        (plain-read text line field _ (kept field (number (d ∷ digits))) _ behind
        (and_from _ _ (ap is_number_text (token-text text kind.Run (d ∷ digits) rest r) ∙ (is_number_text-IsNumber (d ∷ digits)).1 h) (number-taken field (d ∷ digits) t))
        (number-kept field (d ∷ digits)) e);
  }

reads-string : (text : List ℕ) (field : Option Field) (line quote : ℕ) (characters : List Character) (rest : List ℕ) → IsString quote characters → TakesAs field (string quote characters) →
    IsRest text (quote ∷ characters_before quote characters (quote ∷ rest)) → GoesOnWithout quote rest → ReadsValue text field line (string quote characters) rest
unfolding value_by
reads-string text field line quote characters rest h t r other = reading where
  here : IsRest text (quote ∷ (string_rest quote characters ++ rest))
  here = subst (λ xs. IsRest text (quote ∷ xs)) (string-bytes quote characters rest) r

  is_text : text_of text (token_at text (quote ∷ (string_rest quote characters ++ rest)) kind.Text (suc (length (string_rest quote characters)))) ≡ quote ∷ string_rest quote characters
  is_text = token-text text kind.Text (quote ∷ string_rest quote characters) rest here

  reading : ReadsValue text field line (string quote characters) rest
  reading = let token : Token = token_at text (quote ∷ (string_rest quote characters ++ rest)) kind.Text (suc (length (string_rest quote characters))) in record {
    token = token;
    left = tokens_at text 0 rest;
    tokens = at-string text 0 quote characters rest r h other refl;
    fault = refl;
    reads = λ behind e.
        by-word text line field token _ word.Quoted _ (token-word text kind.Text (suc (length (string_rest quote characters))) quote (string_rest quote characters ++ rest) here)
        (ap (λ read. and_then read (not_version_one field (text_of text token)))
        (plain-read text line field _ (kept field (string quote characters)) _ behind (ap (takes_text field) is_text ∙ (string-taken field quote characters h.0 t).0) (string-kept field quote characters) e)
        ∙ cond-false (is_some field && is_version_one (text_of text token)) _ _ (ap (λ xs. is_some field && is_version_one xs) is_text ∙ (string-taken field quote characters h.0 t).1));
  }

-- ---- a matrix or a cell list
closes-top : (text : List ℕ) (only : Bool) (b : Bracket) (st : Before) (closing : ℕ) (rest : List ℕ) → IsRest text (closing ∷ rest) → word_by kind.Mark closing ≡ word.Closing b →
    tokens_at text 1 (closing ∷ rest) ≡ with_first (token_at text (closing ∷ rest) kind.Mark 1) (tokens_at text 0 rest) →
    Closes text only (nest_in [] b st) (tokens_at text 1 (closing ∷ rest)) (tokens_at text 0 rest)
closes-top text only b st closing rest r w e =
    closes-at text only (nest_in [] b st) _ _ _ e
    (closes-last text only (nest_in [] b st) _ _ _ (step-closing text only (token_at text (closing ∷ rest) kind.Mark 1) [] b st (token-word text kind.Mark 1 closing rest r ∙ w)) refl)

closes-square : (text : List ℕ) → IsBlockless text → (only : Bool) (content : Content) (rows : Rows) (rest : List ℕ) → AreRows content 1 rows → Allows content only bracket.Square →
    IsRest text (rows_before rows (93 ∷ rest)) → Closes text only (nest_in [] bracket.Square before.Nothing) (tokens_at text 1 (rows_before rows (93 ∷ rest))) (tokens_at text 0 rest)
unfolding mark_of
closes-square text blocks only content rows rest h allows r =
    let s = rest-rows text rows (93 ∷ rest) r in
    closes-rows text blocks only rows content 1 [] bracket.Square (93 ∷ rest) (tokens_at text 0 rest) h allows refl r refl
    (λ st. closes-top text only bracket.Square st 93 rest s refl (at-square_end text 0 rest s))

closes-curly : (text : List ℕ) → IsBlockless text → (only : Bool) (content : Content) (rows : Rows) (rest : List ℕ) → AreRows content 1 rows → Allows content only bracket.Curly →
    IsRest text (rows_before rows (125 ∷ rest)) → Closes text only (nest_in [] bracket.Curly before.Nothing) (tokens_at text 1 (rows_before rows (125 ∷ rest))) (tokens_at text 0 rest)
unfolding mark_of
closes-curly text blocks only content rows rest h allows r =
    let s = rest-rows text rows (125 ∷ rest) r in
    closes-rows text blocks only rows content 1 [] bracket.Curly (125 ∷ rest) (tokens_at text 0 rest) h allows refl r refl
    (λ st. closes-top text only bracket.Curly st 125 rest s refl (at-curly_end text 0 rest s))

bracketed-read : (text : List ℕ) (line : ℕ) (field : Option Field) (opening : Bracket) (list left : TokenList) (rows : List Record) (behind : List Token) →
    takes_bracket field opening ≡ true → Closes text (is_some field) (first_nest opening) list left → matrix_rows field text list.tokens ≡ rows → behind_end text line left.tokens ≡ Ok behind →
    bracketed text None line field opening list.tokens ≡ Ok (record { field = field; rows = rows }, behind)
unfolding bracketed
bracketed-read text line field opening list left rows behind t c m e =
    cond-true (takes_bracket field opening) _ _ t
    ∙ ap (λ read. and_then read (λ xs. ended text line (record { field = field; rows = matrix_rows field text list.tokens }) xs)) c.behind
    ∙ ended-at text line (record { field = field; rows = matrix_rows field text list.tokens }) left.tokens behind e
    ∙ ap (λ (r : List Record). Ok (record { field = field; rows = r }, behind)) m

-- what the reader asks of a matrix
record TakesMatrix (text : List ℕ) (field : Option Field) (rows : Rows) (rest : List ℕ) : Type 0 where
  takes : takes_bracket field bracket.Square ≡ true
  closes : Closes text (is_some field) (first_nest bracket.Square) (tokens_at text 1 (rows_before rows (93 ∷ rest))) (tokens_at text 0 rest)
  rows_are : matrix_rows field text (tokens_at text 1 (rows_before rows (93 ∷ rest))).tokens ≡ kept field (matrix rows)

matrix-set : (text : List ℕ) → IsBlockless text → (f : Field) (rows : Rows) (rest : List ℕ) → takes_bracket (Some f) bracket.Square ≡ true → AreRows numbers 1 rows →
    IsRest text (rows_before rows (93 ∷ rest)) → TakesMatrix text (Some f) rows rest
matrix-set text blocks f rows rest t h r = record {
  takes = t;
  closes = closes-square text blocks true numbers rows rest h allows-numbers r;
  rows_are = rows-rows text blocks rows 1 rest h r;
}

matrix-taken : (text : List ℕ) → IsBlockless text → (field : Option Field) (rows : Rows) (rest : List ℕ) → IsValue (matrix rows) → TakesAs field (matrix rows) →
    IsRest text (rows_before rows (93 ∷ rest)) → TakesMatrix text field rows rest
matrix-taken text blocks None rows rest h t r = record { takes = refl; closes = closes-square text blocks false plain rows rest h.2 (allows-plain false refl) r; rows_are = refl }
matrix-taken text blocks (Some field.Version) rows rest h t r = absurd t
matrix-taken text blocks (Some field.BaseMva) rows rest h t r = absurd t
matrix-taken text blocks (Some field.Bus) rows rest h t r = matrix-set text blocks field.Bus rows rest refl t.0 r
matrix-taken text blocks (Some field.Gen) rows rest h t r = matrix-set text blocks field.Gen rows rest refl t.0 r
matrix-taken text blocks (Some field.Branch) rows rest h t r = matrix-set text blocks field.Branch rows rest refl t.0 r

reads-matrix : (text : List ℕ) → IsBlockless text → (field : Option Field) (line : ℕ) (rows : Rows) (rest : List ℕ) → IsValue (matrix rows) → TakesAs field (matrix rows) →
    IsRest text (91 ∷ rows_before rows (93 ∷ rest)) → ReadsValue text field line (matrix rows) rest
unfolding value_by mark_of
reads-matrix text blocks field line rows rest h t r =
    let inner : List ℕ = rows_before rows (93 ∷ rest) in
    let m = matrix-taken text blocks field rows rest h t (rest-cons text 91 (rows_before rows (93 ∷ rest)) r) in
    record {
      token = token_at text (91 ∷ rows_before rows (93 ∷ rest)) kind.Mark 1;
      left = tokens_at text 1 (rows_before rows (93 ∷ rest));
      tokens = at-square text 0 (rows_before rows (93 ∷ rest)) r;
      fault = m.closes.fault;
      reads = λ behind e.
          by-word text line field (token_at text (91 ∷ rows_before rows (93 ∷ rest)) kind.Mark 1) _ (word.Opening bracket.Square) _ (token-word text kind.Mark 1 91 (rows_before rows (93 ∷ rest)) r)
          (bracketed-read text line field bracket.Square (tokens_at text 1 (rows_before rows (93 ∷ rest))) (tokens_at text 0 rest) (kept field (matrix rows)) behind m.takes m.closes m.rows_are e);
    }

cells-untaken : (f : Field) (rows : Rows) → Takes f (cells rows) → ⊥
cells-untaken field.Version rows h = h
cells-untaken field.BaseMva rows h = h
cells-untaken field.Bus rows h = h
cells-untaken field.Gen rows h = h
cells-untaken field.Branch rows h = h

reads-cells : (text : List ℕ) → IsBlockless text → (field : Option Field) (line : ℕ) (rows : Rows) (rest : List ℕ) → IsValue (cells rows) → TakesAs field (cells rows) →
    IsRest text (123 ∷ rows_before rows (125 ∷ rest)) → ReadsValue text field line (cells rows) rest
unfolding value_by mark_of
reads-cells text blocks (Some f) line rows rest h t r = absurd (cells-untaken f rows t)
reads-cells text blocks None line rows rest h t r =
    let c = closes-curly text blocks false anything rows rest h.2 (allows-anything false refl) (rest-cons text 123 (rows_before rows (125 ∷ rest)) r) in
    record {
      token = token_at text (123 ∷ rows_before rows (125 ∷ rest)) kind.Mark 1;
      left = tokens_at text 1 (rows_before rows (125 ∷ rest));
      tokens = at-curly text 0 (rows_before rows (125 ∷ rest)) r;
      fault = c.fault;
      reads = λ behind e.
          by-word text line None (token_at text (123 ∷ rows_before rows (125 ∷ rest)) kind.Mark 1) _ (word.Opening bracket.Curly) _ (token-word text kind.Mark 1 123 (rows_before rows (125 ∷ rest)) r)
          (bracketed-read text line None bracket.Curly (tokens_at text 1 (rows_before rows (125 ∷ rest))) (tokens_at text 0 rest) [] behind refl c refl e);
    }

-- what stands behind a value lets it end
behind-word : (all : Statements) → AreStatements all → AreApart all → EndsRun false (statements_bytes all)
behind-word (ends parts ending) h k = text-ends parts ending h.0 k
behind-word (another parts s more) h k = word-ends parts (statement_before s (statements_bytes more)) h.0 k

behind-string : (quote : ℕ) (more : Statements) → (quote ≡ 39) ⊎ (quote ≡ 34) → AreStatements more → AreEnded more → GoesOnWithout quote (statements_bytes more)
behind-string quote (ends parts ending) q h k = unquoted-ending quote parts ending q h.0
behind-string quote (another parts s more) q h k = unquoted-parts quote parts (statement_before s (statements_bytes more)) q h.0 k

pub reads-value : (text : List ℕ) → IsBlockless text → (field : Option Field) (line : ℕ) (value : Value) (more : Statements) → IsValue value → TakesAs field value → AreStatements more → AreBehind value more →
    IsRest text (value_before value (statements_bytes more)) → ReadsValue text field line value (statements_bytes more)
reads-value text blocks field line (number digits) more h t s k r = reads-number text field line digits (statements_bytes more) h t r (behind-word more s k.1)
reads-value text blocks field line (string quote characters) more h t s k r =
    reads-string text field line quote characters (statements_bytes more) h.1 t r (behind-string quote more (h.1).0 s k)
reads-value text blocks field line (matrix rows) more h t s k r = reads-matrix text blocks field line rows (statements_bytes more) h t r
reads-value text blocks field line (cells rows) more h t s k r = reads-cells text blocks field line rows (statements_bytes more) h t r

-- ---- a statement
pub record ReadsStatement (text : List ℕ) (s : Statement) (field : Option Field) (rest : List ℕ) : Type 0 where
  pub token : Token
  pub left : TokenList
  pub tokens : tokens_at text 0 (statement_before s rest) ≡ with_first token left
  pub fault : left.fault ≡ (tokens_at text 0 rest).fault
  pub run : word_of text token ≡ word.Run
  pub reads : (behind : List Token) → behind_end text token.line (tokens_at text 0 rest).tokens ≡ Ok behind →
      statement_at text None token left.tokens ≡ Ok (record { field = field; rows = kept field s.value }, behind)

statement-by : (text : List ℕ) (head equals value : Token) (tokens : List Token) (target : List ℕ) (field : Option Field) (read : Read Setting) → word_of text head ≡ word.Run → text_of text head ≡ target →
    is_target target ≡ true → word_of text equals ≡ word.Equals → field_of target ≡ field → value_by (word_of text value) text None head.line field value tokens ≡ read →
    statement_at text None head (equals ∷ value ∷ tokens) ≡ read
unfolding statement_of
statement-by text head equals value tokens target field read run is t w f e =
    cond-true _ _ _ (and_from _ _ (and_from _ _ (ap is_run run) (ap is_target is ∙ t)) (ap is_equals w))
    ∙ ap (λ (o : Option Field). value_by (word_of text value) text None head.line o value tokens) (ap field_of is ∙ f) ∙ e

-- a word goes up to a gap that begins with a blank, and to `=`
gap-ends : (gap : Gap) (rest : List ℕ) → IsGap gap → BeginsBlank gap → EndsRun false rest → EndsRun false (gap_before gap rest)
gap-ends [] rest h k e = e
gap-ends (blank b ∷ gap) rest h k e = blank-ends false b h.0
gap-ends (continued c ∷ gap) rest h k e = absurd k

at-target : (text : List ℕ) (target : Target) (rest : List ℕ) → IsTarget target → IsRest text (target_text target ++ rest) → EndsRun false rest →
    tokens_at text 0 (target_text target ++ rest) ≡ with_first (token_at text (target_text target ++ rest) kind.Run (length (target_text target))) (tokens_at text 0 rest)
at-target text target rest h r stops = at-word text 109 (codes "pc." ++ (target.name ++ _)) rest r (target-inner target h) (λ e. Prim.omega arith) stops

pub reads-statement : (text : List ℕ) → IsBlockless text → (s : Statement) (field : Option Field) (more : Statements) → IsStatement s → field_of (target_text s.target) ≡ field → TakesAs field s.value →
    AreStatements more → AreBehind s.value more → IsRest text (statement_before s (statements_bytes more)) → ReadsStatement text s field (statements_bytes more)
unfolding mark_of
reads-statement text blocks s field more h f t all k r =
    let target : List ℕ = target_text s.target in
    let third : List ℕ = value_before s.value (statements_bytes more) in
    let second : List ℕ = gap_before s.behind_equals third in
    let first : List ℕ = gap_before s.behind_target (61 ∷ second) in
    let r1 = rest-append text target first r in
    let r2 = rest-gap text s.behind_target (61 ∷ second) r1 in
    let r3 = rest-cons text 61 second r2 in
    let r4 = rest-gap text s.behind_equals third r3 in
    let head : Token = token_at text (target ++ first) kind.Run (length target) in
    let v = reads-value text blocks field head.line s.value more h.value t all k r4 in
    record {
      token = head;
      left = with_first (token_at text (61 ∷ second) kind.Mark 1) (with_first v.token v.left);
      tokens =
          at-target text s.target first h.target r (gap-ends s.behind_target (61 ∷ second) h.behind_target h.blank_behind_target refl)
          ∙ ap (with_first head)
          (at-gap_before text 0 s.behind_target (61 ∷ second) h.behind_target r1
          ∙ at-equals text second r2
          ∙ ap (with_first (token_at text (61 ∷ second) kind.Mark 1)) (at-gap_before text 0 s.behind_equals third h.behind_equals r3 ∙ v.tokens));
      fault = v.fault;
      run = token-word text kind.Run (length target) 109 _ r;
      reads = λ behind e.
          statement-by text head (token_at text (61 ∷ second) kind.Mark 1) v.token v.left.tokens target field _ (token-word text kind.Run (length target) 109 _ r) (token-text text kind.Run target first r)
          (target-text s.target h.target) (token-word text kind.Mark 1 61 second r2) f (v.reads behind e);
    }

-- ---- from statement to statement
case-wait : (text : List ℕ) (settings : Settings) (n : ℕ) (tokens : List Token) → case_from text None settings n tokens ≡ case_from text None settings 0 (drop n tokens)
unfolding case_from
case-wait text settings zero tokens = refl
case-wait text settings (suc n) [] = refl
case-wait text settings (suc n) (token ∷ tokens) = case-wait text settings n tokens

pub case-rest : (text : List ℕ) (settings : Settings) (rest tokens : List Token) → statement_lemmas.IsRest rest tokens →
    case_from text None settings (length tokens - length rest) tokens ≡ case_from text None settings 0 rest
case-rest text settings rest tokens h =
    case-wait text settings (length tokens - length rest) tokens
    ∙ ap (λ n. case_from text None settings 0 (drop n tokens)) (Prim.omega (arith, h.within, length-drop h.count tokens, ap (λ (x : List Token). length x) h.is))
    ∙ ap (case_from text None settings 0) (sym h.is)

pub case-step : (text : List ℕ) (settings next : Settings) (token : Token) (tokens behind : List Token) (setting : Setting) → word_of text token ≡ word.Run →
    statement_at text None token tokens ≡ Ok (setting, behind) → with_setting settings setting.field setting.rows ≡ Ok next →
    case_from text None settings 0 (token ∷ tokens) ≡ case_from text None next 0 behind
case-step text settings next token tokens behind setting run e s =
    case-other text settings token tokens (ap is_separator run)
    ∙ ap (λ read. and_then read (λ (x : Setting × List Token). and_then (with_setting settings (x.0).field (x.0).rows) (λ next. case_from text None next (length tokens - length x.1) tokens))) e
    ∙ ap (λ read. and_then read (λ next. case_from text None next (length tokens - length behind) tokens)) s
    ∙ case-rest text next behind tokens (statement_lemmas.rest-statement (field_of (text_of text token)) text None token tokens (setting, behind) e)

-- ---- what is told of the fields
pub same-itself : (f : Field) → same_field f f ≡ true
same-itself field.Version = refl
same-itself field.BaseMva = refl
same-itself field.Bus = refl
same-itself field.Gen = refl
same-itself field.Branch = refl

pub takes-fits : (f : Field) (value : Value) → Takes f value → FitsField f (rows_of value)
takes-fits field.Version (number digits) h = absurd h
takes-fits field.Version (string quote characters) h = refl
takes-fits field.Version (matrix rows) h = absurd h
takes-fits field.Version (cells rows) h = absurd h
takes-fits field.BaseMva (number digits) h = refl
takes-fits field.BaseMva (string quote characters) h = absurd h
takes-fits field.BaseMva (matrix rows) h = absurd h
takes-fits field.BaseMva (cells rows) h = absurd h
takes-fits field.Bus (number digits) h = absurd h
takes-fits field.Bus (string quote characters) h = absurd h
takes-fits field.Bus (matrix rows) h = h.1
takes-fits field.Bus (cells rows) h = absurd h
takes-fits field.Gen (number digits) h = absurd h
takes-fits field.Gen (string quote characters) h = absurd h
takes-fits field.Gen (matrix rows) h = h.1
takes-fits field.Gen (cells rows) h = absurd h
takes-fits field.Branch (number digits) h = absurd h
takes-fits field.Branch (string quote characters) h = absurd h
takes-fits field.Branch (matrix rows) h = h.1
takes-fits field.Branch (cells rows) h = absurd h

none-before : (xs : List (List Record)) (y : List Record) (ys : List (List Record)) (m : List Record) → xs ++ y ∷ ys ≡ m ∷ [] → xs ≡ []
none-before [] y ys m e = refl
none-before (x ∷ []) y ys m e = absurd (Prim.cc)
none-before (x ∷ z ∷ xs) y ys m e = absurd (Prim.cc)

pub add-told : (before : List (List Record)) (test : Bool) (value : Value) (values : List Value) →
    (before ++ cond test (rows_of value ∷ []) []) ++ map rows_of values ≡ before ++ map rows_of (cond test (value ∷ values) values)
add-told before true value values = append_assoc before (rows_of value ∷ []) (map rows_of values)
add-told before false value values = ap (λ xs. xs ++ map rows_of values) (append-nil before)

record Next (settings : Settings) (o : Option Field) (value : Value) (values : Field → List Value) : Type 0 where
  next : Settings
  set : with_setting settings o (kept o value) ≡ Ok next
  tells : (f : Field) → told next f ++ map rows_of (values f) ≡ told settings f ++ map rows_of (cond (is_that o f) (value ∷ values f) (values f))

next-set : (settings : Settings) (case : CaseMatrices) (o : Option Field) (value : Value) (values : Field → List Value) → TakesAs o value →
    ((f : Field) → told settings f ++ map rows_of (cond (is_that o f) (value ∷ values f) (values f)) ≡ matrix_of case f ∷ []) → Next settings o value values
next-set settings case None value values t h = record { next = settings; set = setting-other settings []; tells = λ f. refl }
next-set settings case (Some g) value values t h =
    let none : told settings g ≡ [] = none-before (told settings g) (rows_of value) (map rows_of (values g)) (matrix_of case g)
    (ap (λ b. told settings g ++ map rows_of (cond b (value ∷ values g) (values g))) (sym (same-itself g)) ∙ h g) in
    record {
      next = with_field settings g (rows_of value);
      set = setting-next settings g (rows_of value) (takes-fits g value t) none;
      tells = λ f. ap (λ xs. xs ++ map rows_of (values f)) (told-next settings g (rows_of value) f (takes-fits g value t) none) ∙ add-told (told settings f) (same_field g f) value (values f);
    }

pub takes-as : (s : Statement) (o : Option Field) → field_of (target_text s.target) ≡ o → IsStatement s → TakesAs o s.value
takes-as s None e h = tt
takes-as s (Some g) e h = h.takes g (field-is (target_text s.target) (Some g) e g ∙ same-itself g)

-- ---- all statements
pub record ReadsAll (text : List ℕ) (settings : Settings) (list : TokenList) (case : CaseMatrices) : Type 0 where
  pub case_is : case_from text None settings 0 list.tokens ≡ Ok case
  pub fault : list.fault ≡ None

can-end : (value : Value) (more : Statements) → AreBehind value more → AreEnded more
can-end (number digits) more h = h.0
can-end (string quote characters) more h = h
can-end (matrix rows) more h = h
can-end (cells rows) more h = h

ends-behind : (text : List ℕ) → IsBlockless text → (line : ℕ) (more : Statements) → AreStatements more → AreEnded more → IsRest text (statements_bytes more) →
    EndsAt text line (tokens_at text 0 (statements_bytes more))
ends-behind text blocks line (ends parts ending) h k r =
    ends-all text blocks line parts (ending_text ending) h.0 r (inr (ap (λ (l : TokenList). l.tokens) (at-ending text blocks ending h.1 (rest-parts text parts (ending_text ending) r))))
ends-behind text blocks line (another parts s more) h k r = ends-all text blocks line parts (statement_before s (statements_bytes more)) h.0 r (inl k)

case-end : (text : List ℕ) (settings : Settings) (list : TokenList) (case : CaseMatrices) → list ≡ record { tokens = []; fault = None } → all_set settings ≡ Ok case →
    case_from text None settings 0 list.tokens ≡ Ok case
unfolding case_from
case-end text settings list case e h = ap (λ (l : TokenList). case_from text None settings 0 l.tokens) e ∙ h

pub reads-all : (text : List ℕ) → IsBlockless text → (all : Statements) (settings : Settings) (case : CaseMatrices) → AreStatements all → IsRest text (statements_bytes all) →
    ((f : Field) → told settings f ++ map rows_of (values_of f all) ≡ matrix_of case f ∷ []) → ReadsAll text settings (tokens_at text 0 (statements_bytes all)) case
reads-all text blocks (ends parts ending) settings case h r tells =
    let same = same-all text blocks parts (ending_text ending) h.0 r in
    let end = at-ending text blocks ending h.1 (rest-parts text parts (ending_text ending) r) in
    record {
      case_is = same.case settings ∙ case-end text settings _ case end (all-told settings case (λ f. sym (append-nil (told settings f)) ∙ tells f));
      fault = same.fault ∙ ap (λ (l : TokenList). l.fault) end;
    }
reads-all text blocks (another parts s more) settings case h r tells =
    let o : Option Field = field_of (target_text s.target) in
    let takes = takes-as s o refl h.1 in
    let r1 = rest-parts text parts (statement_before s (statements_bytes more)) r in
    let r2 = rest-statement text s (statements_bytes more) r1 in
    let same = same-all text blocks parts (statement_before s (statements_bytes more)) h.0 r in
    let st = reads-statement text blocks s o more h.1 refl takes h.3 h.2 r1 in
    let end = ends-behind text blocks st.token.line more h.3 (can-end s.value more h.2) r2 in
    let n = next-set settings case o s.value (λ f. values_of f more) takes
    (λ f. ap (λ b. told settings f ++ map rows_of (cond b (s.value ∷ values_of f more) (values_of f more))) (sym (field-is (target_text s.target) o refl f)) ∙ tells f) in
    let behind = reads-all text blocks more n.next case h.3 r2
    (λ f. n.tells f ∙ ap (λ b. told settings f ++ map rows_of (cond b (s.value ∷ values_of f more) (values_of f more))) (sym (field-is (target_text s.target) o refl f)) ∙ tells f) in
    record {
      case_is =
          same.case settings
          ∙ ap (λ (l : TokenList). case_from text None settings 0 l.tokens) st.tokens
          ∙ case-step text settings n.next st.token st.left.tokens end.tokens _ st.run (st.reads end.tokens end.behind) n.set
          ∙ sym (end.same n.next) ∙ behind.case_is;
      fault = same.fault ∙ ap (λ (l : TokenList). l.fault) st.tokens ∙ st.fault ∙ behind.fault;
    }

-- ---- the first statement, and the whole text
function-by : (text : List ℕ) (head next equals name : Token) (tokens : List Token) → word_of text head ≡ word.Run → text_of text head ≡ codes "function" → word_of text next ≡ word.Run →
    text_of text next ≡ codes "mpc" → word_of text equals ≡ word.Equals → word_of text name ≡ word.Run → is_name_text (text_of text name) ≡ true →
    function_from text None head (next ∷ equals ∷ name ∷ tokens) ≡ case_from text None no_settings 0 tokens
unfolding function_from named_from
function-by text head next equals name tokens wh th wn tn we wm tm =
    cond-true _ _ _ (and_from _ _ (ap is_run wh) (ap (λ xs. bytes_eq xs (codes "function")) th))
    ∙ cond-false _ _ _ (and_left _ _ (ap opens_square wn))
    ∙ cond-true _ _ _ (and_from _ _ (ap is_run wn) (ap (λ xs. bytes_eq xs (codes "mpc")) tn))
    ∙ cond-true _ _ _ (and_from _ _ (and_from _ _ (ap is_equals we) (ap is_run wm)) tm)

-- the bytes are small letters
letters_from : List ℕ → Bool
letters_from [] = true
letters_from (b ∷ bytes) = (nat_le 97 b && nat_le b 122) && letters_from bytes

small : (bytes : List ℕ) → letters_from bytes ≡ true → AreInner bytes
unfolding letters_from
small [] h = tt
small (b ∷ bytes) h =
    let p = and_parts (nat_le 97 b && nat_le b 122) (letters_from bytes) h in
    let q = and_parts (nat_le 97 b) (nat_le b 122) p.0 in
    (letter b (leb-true 97 b q.0, leb-true b 122 q.1), small bytes p.1)

function-inner : AreInner (codes "function")
unfolding letters_from
function-inner = small (codes "function") refl

mpc-inner : AreInner (codes "mpc")
unfolding letters_from
mpc-inner = small (codes "mpc") refl

-- a gap that parts words begins with a blank
blank-gap : (gap : Gap) (rest : List ℕ) → IsGap gap → BeginsBlank gap → IsNotEmpty gap → EndsRun false (gap_before gap rest)
blank-gap [] rest h k some = absurd some
blank-gap (blank b ∷ gap) rest h k some = blank-ends false b h.0
blank-gap (continued c ∷ gap) rest h k some = absurd k

no-mark : (bytes : List ℕ) → HasNoMark bytes → without_mark bytes ≡ bytes
unfolding without_mark
no-mark [] h = refl
no-mark (b ∷ bytes) h = cond-false _ _ _ (and_left _ _ (ne_eqb b 239 h))

with-mark : (bytes : List ℕ) → without_mark (239 ∷ 187 ∷ 191 ∷ bytes) ≡ bytes
unfolding without_mark
with-mark bytes = refl

-- the bytes of a text from its start on
abbrev pub text_bytes : CaseText → List ℕ
text_bytes case = parts_before case.before (first_before case.first (statements_bytes case.others))

pub text-bytes : (case : CaseText) → text_bytes case ≡ body_text case
text-bytes case =
    parts-before case.before (first_before case.first (statements_bytes case.others))
    ∙ ap (λ xs. parts_text case.before ++ xs) (first-before case.first (statements_bytes case.others) ∙ ap (λ xs. first_text case.first ++ xs) (statements-bytes case.others))

-- the first statement
record ReadsFirst (text : List ℕ) (first : First) (rest : List ℕ) : Type 0 where
  token : Token
  left : TokenList
  tokens : tokens_at text 0 (first_before first rest) ≡ with_first token left
  fault : left.fault ≡ (tokens_at text 0 rest).fault
  run : word_of text token ≡ word.Run
  reads : function_from text None token left.tokens ≡ case_from text None no_settings 0 (tokens_at text 0 rest).tokens

at-name : (text : List ℕ) (name rest : List ℕ) → IsName name → IsRest text (name ++ rest) → EndsRun false rest →
    (tokens_at text 0 (name ++ rest) ≡ with_first (token_at text (name ++ rest) kind.Run (length name)) (tokens_at text 0 rest)) × (word_of text (token_at text (name ++ rest) kind.Run (length name)) ≡ word.Run)
at-name text [] rest h r stops = absurd h
at-name text (b ∷ name) rest h r stops = (
  at-word text b name rest r (name-inner (b ∷ name) h) (λ e. false≢true (subst (λ x. is_ascii_alphabetic x ≡ true) e h.0)) stops,
  token-word text kind.Run (suc (length name)) b (name ++ rest) r,
)

reads-first : (text : List ℕ) (first : First) (rest : List ℕ) → IsFirst first → IsRest text (first_before first rest) → EndsRun false rest → ReadsFirst text first rest
unfolding mark_of
reads-first text first rest h r stops =
    let fifth : List ℕ = first.name ++ rest in
    let fourth : List ℕ = gap_before first.behind_equals fifth in
    let third : List ℕ = gap_before first.behind_mpc (61 ∷ fourth) in
    let second : List ℕ = gap_before first.behind_function (codes "mpc" ++ third) in
    let r1 = rest-append text (codes "function") second r in
    let r2 = rest-gap text first.behind_function (codes "mpc" ++ third) r1 in
    let r3 = rest-append text (codes "mpc") third r2 in
    let r4 = rest-gap text first.behind_mpc (61 ∷ fourth) r3 in
    let r5 = rest-cons text 61 fourth r4 in
    let r6 = rest-gap text first.behind_equals fifth r5 in
    let head : Token = token_at text (codes "function" ++ second) kind.Run 8 in
    let next : Token = token_at text (codes "mpc" ++ third) kind.Run 3 in
    let equals : Token = token_at text (61 ∷ fourth) kind.Mark 1 in
    let name : Token = token_at text fifth kind.Run (length first.name) in
    let n = at-name text first.name rest h.name r6 stops in
    record {
      token = head;
      left = with_first next (with_first equals (with_first name (tokens_at text 0 rest)));
      tokens =
          at-word text 102 (codes "unction") second r function-inner (λ e. Prim.omega arith) (blank-gap first.behind_function (codes "mpc" ++ third) h.behind_function h.blank_behind_function h.parted)
          ∙ ap (with_first head) (at-gap_before text 0 first.behind_function (codes "mpc" ++ third) h.behind_function r1
          ∙ at-word text 109 (codes "pc") third r2 mpc-inner (λ e. Prim.omega arith) (gap-ends first.behind_mpc (61 ∷ fourth) h.behind_mpc h.blank_behind_mpc refl)
          ∙ ap (with_first next) (at-gap_before text 0 first.behind_mpc (61 ∷ fourth) h.behind_mpc r3
          ∙ at-equals text fourth r4
          ∙ ap (with_first equals) (at-gap_before text 0 first.behind_equals fifth h.behind_equals r5 ∙ n.0)));
      fault = refl;
      run = token-word text kind.Run 8 102 _ r;
      reads = function-by text head next equals name (tokens_at text 0 rest).tokens (token-word text kind.Run 8 102 _ r) (token-text text kind.Run (codes "function") second r)
          (token-word text kind.Run 3 109 _ r2) (token-text text kind.Run (codes "mpc") third r2) (token-word text kind.Mark 1 61 fourth r4) n.1
          (ap is_name_text (token-text text kind.Run first.name rest r6) ∙ name-text first.name h.name);
    }

start-reads : (text : List ℕ) (first : First) (rest : List ℕ) (list : TokenList) (case : CaseMatrices) → ReadsFirst text first rest →
    list ≡ tokens_at text 0 (first_before first rest) → ReadsAll text no_settings (tokens_at text 0 rest) case → statements_from text None list.tokens ≡ Ok case
start-reads text first rest list case h e all =
    ap (λ (l : TokenList). statements_from text None l.tokens) (e ∙ h.tokens)
    ∙ start-other text h.token h.left.tokens (ap is_separator h.run) ∙ h.reads ∙ all.case_is

body-read : (case : CaseText) (matrices : CaseMatrices) → IsText case → Gives case matrices →
    statements_from (body_text case) (token_list (body_text case)).fault (token_list (body_text case)).tokens ≡ Ok matrices
body-read case matrices h gives =
    let text : List ℕ = body_text case in
    let blocks = blockless (body_text case) h.no_blocks in
    let rest : List ℕ = statements_bytes case.others in
    let r0 : IsRest text (text_bytes case) = record { before = []; is = sym (text-bytes case) } in
    let r1 = rest-parts text case.before (first_before case.first rest) r0 in
    let r2 = rest-first text case.first rest r1 in
    let start : token_list text ≡ tokens_at text 0 (text_bytes case) = at-start text ∙ ap (tokens_at text 0) (sym (text-bytes case)) in
    let same = same-all text blocks case.before (first_before case.first rest) h.before r0 in
    let first = reads-first text case.first rest h.first r1 (behind-word case.others h.others h.behind_name) in
    let all = reads-all text blocks case.others no_settings matrices h.others r2 (λ f. ap (λ xs. xs ++ map rows_of (values_of f case.others)) (told-none f) ∙ gives f) in
    let none : (token_list text).fault ≡ None =
    ap (λ (l : TokenList). l.fault) start ∙ same.fault ∙ ap (λ (l : TokenList). l.fault) first.tokens ∙ first.fault ∙ all.fault in
    ap (λ stop. statements_from text stop (token_list text).tokens) none
    ∙ ap (λ (l : TokenList). statements_from text None l.tokens) start ∙ same.start
    ∙ start-reads text case.first rest (tokens_at text 0 (first_before case.first rest)) matrices first refl all

unmarked : (case : CaseText) → IsText case → HasNoMark (body_text case)
unmarked case h = subst HasNoMark (text-bytes case) (unmarked-parts case.before (first_before case.first (statements_bytes case.others)) h.before (λ e. Prim.omega arith))

case-bytes : (case : CaseText) (bytes : List ℕ) → IsText case → bytes ≡ case_text case → without_mark bytes ≡ body_text case
case-bytes case bytes h e = ap without_mark e ∙ by_mark case.mark where
  by_mark : (mark : Bool) → without_mark (cond mark (239 ∷ 187 ∷ 191 ∷ body_text case) (body_text case)) ≡ body_text case
  by_mark true = with-mark (body_text case)
  by_mark false = no-mark (body_text case) (unmarked case h)

-- what is derived is read
pub derived-read : (bytes : List ℕ) (matrices : CaseMatrices) → IsCaseText bytes matrices → case_of bytes ≡ Ok matrices
unfolding case_of
derived-read bytes matrices h =
    ap (λ (xs : List ℕ). statements_from xs (token_list xs).fault (token_list xs).tokens) (case-bytes h.0 bytes h.2 h.1) ∙ body-read h.0 matrices h.2 h.3

same-ok : (a b : CaseMatrices) (read : Result CaseMatrices CaseFault) → read ≡ Ok a → read ≡ Ok b → a ≡ b
same-ok a b read h k = Prim.cc

pub one-reading : (bytes : List ℕ) (a b : CaseMatrices) → IsCaseText bytes a → IsCaseText bytes b → a ≡ b
one-reading bytes a b h k = same-ok a b (case_of bytes) (derived-read bytes a h) (derived-read bytes b k)
