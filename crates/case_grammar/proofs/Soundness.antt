-- Statements and whole texts that are read stand there by the grammar.
use Rattle.std.proofs.Common.{◌≡◌, ℕ, zero, suc, ◌+◌, ◌-◌, ◌<◌, ◌≤◌, ◌==◌, ◌&&◌, Bool, true, false, List, [], ◌∷◌, ◌++◌, length, take, drop, map, refl, sym, ap, subst, ◌∙◌, arith, Option, Some, None, Ok, Err, cond, codes, inl, inr, append-nil, take-append-drop}
use Rattle.std.specs.Prelude.{nat_lt}
use Rattle.std.specs.List.{AllByRecursion}
use Rattle.std.specs.Option.{option_map_or}
use Rattle.std.specs.Str.{bytes_eq}
use Rattle.std.proofs.lemmas.Bool.{cases_Bool, and_parts, false≢true, cond-true, cond-false, eqb-true, ltb-false}
use Rattle.std.proofs.lemmas.List.Elements.{All-from_recursion}
use Rattle.std.proofs.lemmas.Slice.Eq.{bytes_eq-Decides}
use Rattle.record_reading.specs.Records.{Record, first_ragged}
use Rattle.record_reading.specs.Steps.{and_then}
use Rattle.record_reading.proofs.StepLemmas.{then-ok, ok-same}
use Rattle.case_tokens.specs.declared.Kind.TheVariants as kind
use Rattle.case_tokens.specs.declared.Token.{Token}
use Rattle.case_tokens.specs.Pieces.{piece_at}
use Rattle.case_tokens.specs.TokenLists.{TokenList, token_list, with_first}
use Rattle.case_text.specs.declared.CaseFault.{CaseFault}
use Rattle.case_text.specs.declared.CaseFault.TheVariants as fault
use Rattle.case_text.specs.declared.Field.{Field}
use Rattle.case_text.specs.declared.Field.TheVariants as field
use Rattle.case_text.specs.Words.{word_of, text_of, is_separator, is_equals, is_run}
use Rattle.case_text.specs.Names.{is_target, is_name_text, field_of}
use Rattle.case_text.specs.Matrices.{CaseMatrices, matrix_of, IsEven, least_columns}
use Rattle.case_text.specs.Statements.{Setting, behind_end, value_by, statement_of, statement_at}
use Rattle.case_text.specs.Settings.{Settings, no_settings, is_set, with_field, uneven, with_setting, matrices, all_set}
use Rattle.case_text.specs.Cases.{case_from, is_run_of, function_from, statements_from, without_mark, case_of}
use Rattle.case_text.proofs.StatementLemmas.{allowed, refused, no-ok, same-ok, rest-statement}
use Rattle.case_grammar.specs.Gaps.{blank, continued, Gap, IsGap, BeginsBlank}
use Rattle.case_grammar.specs.Values.{Value, number, string, matrix, cells, rows_of, cells_of, IsValue}
use Rattle.case_grammar.specs.Statements.{target_text, IsTarget, First, IsFirst, Statement, IsMatrixOf, Takes, Part, skipped, line_end, semicolon, comma, IsPart, AreParts, HasEnd, IsApart, IsApartFromEnd, Ending, here, in_comment, in_continuation, ending_text, IsEnding, Statements, ends, another, AreStatements, AreApart, AreEnded, AreBehind, values_of}
use Rattle.case_grammar.specs.CaseTexts.{CaseText, body_text, IsCaseText}
use Rattle.case_grammar.proofs.BlockForms.{no-blocks}
use Rattle.case_grammar.proofs.Lines.{IsBlockless}
use Rattle.case_grammar.proofs.Texts.{gap_before, first_before, statement_before, part_before, parts_before, statements_bytes, IsRest}
use Rattle.case_grammar.proofs.Places.{tokens_at, at-start}
use Rattle.case_grammar.proofs.Pieces.{EndsRun}
use Rattle.case_grammar.proofs.Settings.{same_field, is_that, field-is, told, told-none, told-unset, told-next}
use Rattle.case_grammar.proofs.Names.{text-name, text-target}
use Rattle.case_grammar.proofs.Parts.{case-separator, case-other}
use Rattle.case_grammar.proofs.Completeness.{TakesAs, kept, case-rest, takes-fits, add-told, text-bytes}
use Rattle.case_grammar.proofs.Fine.{IsClean, passed-test, failed-test, first-read, case-clean}
use Rattle.case_grammar.proofs.Seen.{at-any}
use Rattle.case_grammar.proofs.Blocks.{NoneFrom, none-at_all}
use Rattle.case_grammar.proofs.Found.{Found, finds_end, finds_line, finds_mark, finds_string, finds_run, found, clean-as}
use Rattle.case_grammar.proofs.Inside.{MarkIs, is_comma, is_semicolon, is_square, is_curly_opening, is_square_end, is_curly_end, is_equals_mark, mark-is}
use Rattle.case_grammar.proofs.Tokens.{TokenIs, token-is, equals-of, run-at, PartOf, part-of, gap-blank, gap-some_word}
use Rattle.case_grammar.proofs.ValuesRead.{TakesMostly, IsOfNumbers, Stops, value-of}

-- ---- a statement
record StatementParts (text : List ℕ) (head : Token) (tokens : List Token) (read : Setting × List Token) : Type 0 where
  equals : Token
  value : Token
  more : List Token
  tokens_are : tokens ≡ equals ∷ value ∷ more
  run : is_run (word_of text head) ≡ true
  target : is_target (text_of text head) ≡ true
  equals_is : is_equals (word_of text equals) ≡ true
  reads : value_by (word_of text value) text None head.line (field_of (text_of text head)) value more ≡ Ok read

statement-parts : (text : List ℕ) (head : Token) (tokens : List Token) (read : Setting × List Token) → statement_at text None head tokens ≡ Ok read → StatementParts text head tokens read
unfolding statement_of
statement-parts text head [] read e = absurd (no-ok (fault.Code head.line) read _ refl e)
statement-parts text head (equals ∷ []) read e = absurd (no-ok (fault.Code head.line) read _ refl e)
statement-parts text head (equals ∷ value ∷ tokens) read e =
    let test : Bool = is_run (word_of text head) && is_target (text_of text head) && is_equals (word_of text equals) in
    let go = value_by (word_of text value) text None head.line (field_of (text_of text head)) value tokens in
    let p = and_parts (is_run (word_of text head) && is_target (text_of text head)) (is_equals (word_of text equals)) (passed-test test (fault.Code head.line) read go e) in
    let q = and_parts (is_run (word_of text head)) (is_target (text_of text head)) p.0 in
    record {
      equals = equals;
      value = value;
      more = tokens;
      tokens_are = refl;
      run = q.0;
      target = q.1;
      equals_is = p.1;
      reads = allowed test (fault.Code head.line) read go e;
    }

record StatementOf (text rest : List ℕ) (line : ℕ) (read : Setting × List Token) : Type 0 where
  gap : Gap
  s : Statement
  behind : List ℕ
  gap_is : IsGap gap
  is : rest ≡ gap_before gap (statement_before s behind)
  target : IsTarget s.target
  behind_target : IsGap s.behind_target
  blank_behind_target : BeginsBlank s.behind_target
  behind_equals : IsGap s.behind_equals
  value : IsValue s.value
  takes : TakesMostly (field_of (target_text s.target)) s.value
  field_is : (read.0).field ≡ field_of (target_text s.target)
  rows_are : IsBlockless text → (read.0).rows ≡ kept (field_of (target_text s.target)) s.value
  ends : behind_end text line (tokens_at text 0 behind).tokens ≡ Ok read.1
  stops : Stops s.value behind
  clean : IsClean text (tokens_at text 0 behind)
  here : IsRest text behind
  none : NoneFrom text behind → NoneFrom text rest
  shorter : length behind < length rest

token-found : (text rest : List ℕ) (token : Token) (more : List Token) → IsRest text rest → IsClean text (tokens_at text 0 rest) → (tokens_at text 0 rest).tokens ≡ token ∷ more → TokenIs text rest token more
token-found text rest token more r clean e = token-is text rest token more clean e (found text 0 rest r clean)

statement-of : (text rest : List ℕ) (head : Token) (tokens : List Token) (read : Setting × List Token) → IsRest text rest → IsClean text (tokens_at text 0 rest) → (tokens_at text 0 rest).tokens ≡ head ∷ tokens →
    statement_at text None head tokens ≡ Ok read → StatementOf text rest head.line read
statement-of text rest head tokens read r clean e h =
    let p = statement-parts text head tokens read h in
    let run = run-at text rest head tokens p.run (token-found text rest head tokens r clean e) in
    let run_tail = run.tail in
    let eq = equals-of text run.behind p.equals (p.value ∷ p.more) p.equals_is
    (token-found text run.behind p.equals (p.value ∷ p.more) run_tail.here run_tail.clean (run_tail.tokens ∙ p.tokens_are)) in
    let eq_tail = eq.tail in
    let t = text-target (text_of text head) p.target in
    let v = value-of text (field_of (target_text t.target)) head.line eq.behind p.value p.more read
    (token-found text eq.behind p.value p.more eq_tail.here eq_tail.clean eq_tail.tokens)
    (ap (λ xs. value_by (word_of text p.value) text None head.line (field_of xs) p.value p.more) (sym t.is) ∙ p.reads) in
    record {
      gap = run.gap;
      s = record { target = t.target; behind_target = eq.gap; behind_equals = v.gap; value = v.value };
      behind = v.behind;
      gap_is = run.gap_is;
      is = run.is ∙ ap (λ xs. gap_before run.gap (xs ++ run.behind)) (sym run.text_is ∙ t.is)
          ∙ ap (λ xs. gap_before run.gap (target_text t.target ++ xs)) (eq.is ∙ ap (λ xs. gap_before eq.gap (61 ∷ xs)) v.is);
      target = t.names;
      behind_target = eq.gap_is;
      blank_behind_target = gap-blank eq.gap (61 ∷ eq.behind) (subst (EndsRun false) eq.is run.stops);
      behind_equals = v.gap_is;
      value = v.value_is;
      takes = v.takes;
      field_is = v.field_is;
      rows_are = v.rows_are;
      ends = v.ends;
      stops = v.stops;
      clean = v.clean;
      here = v.here;
      none = λ x. run_tail.none (eq_tail.none (v.none x));
      shorter = Prim.omega (arith, run_tail.shorter, eq_tail.shorter, v.shorter);
    }

-- ---- what a statement sets
same-is : (g f : Field) → same_field g f ≡ true → g ≡ f
same-is field.Version field.Version h = refl
same-is field.BaseMva field.BaseMva h = refl
same-is field.Bus field.Bus h = refl
same-is field.Gen field.Gen h = refl
same-is field.Branch field.Branch h = refl
same-is _ _ h = absurd (false≢true h)

ragged-none : (width place : ℕ) (rows : List Record) → first_ragged width place rows ≡ None → AllByRecursion (λ row. length row ≡ width) rows
unfolding first_ragged
ragged-none width place [] e = tt
ragged-none width place (row ∷ rows) e = by_test (length row == width) refl e (ragged-none width (place + 1) rows) where
  by_test : (test : Bool) → (length row == width) ≡ test → cond test (first_ragged width (place + 1) rows) (Some place) ≡ None →
      (first_ragged width (place + 1) rows ≡ None → AllByRecursion (λ r. length r ≡ width) rows) → (length row ≡ width) × AllByRecursion (λ r. length r ≡ width) rows
  by_test true t e h = (eqb-true (length row) width t, h e)
  by_test false t e h = absurd (Prim.cc)

both-none : (ragged : Option ℕ) (f : Field) (narrow : Bool) → option_map_or (λ number. Some (fault.Ragged f number)) ragged (cond narrow (Some (fault.Narrow f)) None) ≡ None →
    (ragged ≡ None) × (narrow ≡ false)
both-none None f true e = absurd (Prim.cc)
both-none None f false e = (refl, refl)
both-none (Some n) f narrow e = absurd (Prim.cc)

even-rows : (f : Field) (rows : List Record) → uneven f rows ≡ None → IsEven (least_columns f) rows
unfolding uneven
even-rows f [] e = record { alike = All-from_recursion (λ row. length row ≡ 0) [] tt; wide = λ h. absurd (Prim.omega arith) }
even-rows f (row ∷ rows) e =
    let p = both-none (first_ragged (length row) 1 (row ∷ rows)) f (nat_lt (length row) (least_columns f)) e in
    record {
      alike = All-from_recursion (λ r. length r ≡ length row) (row ∷ rows) (ragged-none (length row) 1 (row ∷ rows) p.0);
      wide = λ _. ltb-false (length row) (least_columns f) p.1;
    }

matrix-taken : (f : Field) (value : Value) → IsOfNumbers value → uneven f (rows_of value) ≡ None → IsMatrixOf f value
matrix-taken f (number digits) h e = absurd h
matrix-taken f (string quote characters) h e = absurd h
matrix-taken f (matrix rows) h e = (h, even-rows f (cells_of rows) e)
matrix-taken f (cells rows) h e = absurd h

all-taken : (f : Field) (value : Value) → TakesMostly (Some f) value → uneven f (rows_of value) ≡ None → Takes f value
all-taken field.Version value h e = h
all-taken field.BaseMva value h e = h
all-taken field.Bus value h e = matrix-taken field.Bus value h e
all-taken field.Gen value h e = matrix-taken field.Gen value h e
all-taken field.Branch value h e = matrix-taken field.Branch value h e

faultless : {A : Type 0} (why : Option CaseFault) (value result : A) → option_map_or (λ e. Err e) why (Ok value) ≡ Ok result → (why ≡ None) × (value ≡ result)
faultless None value result e = (refl, same-ok value result (Ok value) refl e)
faultless (Some why) value result e = absurd (no-ok why result (Err why) refl e)

-- what was set next
set-next : (settings next : Settings) (g : Field) (rows : List Record) → with_setting settings (Some g) rows ≡ Ok next →
    (told settings g ≡ []) × (uneven g rows ≡ None) × (with_field settings g rows ≡ next)
unfolding with_setting
set-next settings next g rows e =
    let p = faultless (uneven g rows) (with_field settings g rows) next (refused (is_set settings g) (fault.Twice g) next _ e) in
    (told-unset settings g (failed-test (is_set settings g) (fault.Twice g) next _ e), p.0, p.1)

set-other : (settings next : Settings) (rows : List Record) → with_setting settings None rows ≡ Ok next → settings ≡ next
unfolding with_setting
set-other settings next rows e = same-ok settings next (Ok settings) refl e

record SetsAs (settings next : Settings) (o : Option Field) (value : Value) : Type 0 where
  takes : TakesAs o value
  tells : (f : Field) (values : List Value) → told settings f ++ map rows_of (cond (is_that o f) (value ∷ values) values) ≡ told next f ++ map rows_of values

sets-as : (settings next : Settings) (o : Option Field) (value : Value) (rows : List Record) → TakesMostly o value → rows ≡ kept o value → with_setting settings o rows ≡ Ok next → SetsAs settings next o value
sets-as settings next None value rows t k e = record { takes = tt; tells = λ f values. ap (λ (x : Settings). told x f ++ map rows_of values) (set-other settings next rows e) }
sets-as settings next (Some g) value rows t k e =
    let p = set-next settings next g (rows_of value) (ap (with_setting settings (Some g)) (sym k) ∙ e) in
    let takes = all-taken g value t p.1 in
    record {
      takes = takes;
      tells = λ f values.
          sym (add-told (told settings f) (same_field g f) value values)
          ∙ ap (λ xs. xs ++ map rows_of values) (sym (told-next settings g (rows_of value) f (takes-fits g value takes) p.0))
          ∙ ap (λ (x : Settings). told x f ++ map rows_of values) p.2;
    }

-- ---- all are set
told-all : (version base : Bool) (bus generators branch : Option (List Record)) (case : CaseMatrices) →
    all_set (record { version = version; base = base; bus = bus; generators = generators; branch = branch }) ≡ Ok case → (f : Field) →
    told (record { version = version; base = base; bus = bus; generators = generators; branch = branch }) f ≡ matrix_of case f ∷ []
unfolding all_set matrices
told-all false base bus generators branch case e f = absurd (no-ok fault.NoVersion case _ refl e)
told-all true false bus generators branch case e f = absurd (no-ok (fault.Missing field.BaseMva) case _ refl e)
told-all true true None generators branch case e f = absurd (no-ok (fault.Missing field.Bus) case _ refl e)
told-all true true (Some bus) None branch case e f = absurd (no-ok (fault.Missing field.Gen) case _ refl e)
told-all true true (Some bus) (Some generators) None case e f = absurd (no-ok (fault.Missing field.Branch) case _ refl e)
told-all true true (Some bus) (Some generators) (Some branch) case e field.Version = refl
told-all true true (Some bus) (Some generators) (Some branch) case e field.BaseMva = refl
told-all true true (Some bus) (Some generators) (Some branch) case e field.Bus = ap (λ (c : CaseMatrices). c.bus ∷ []) (same-ok (record { bus = bus; generators = generators; branch = branch }) case _ refl e)
told-all true true (Some bus) (Some generators) (Some branch) case e field.Gen = ap (λ (c : CaseMatrices). c.generators ∷ []) (same-ok (record { bus = bus; generators = generators; branch = branch }) case _ refl e)
told-all true true (Some bus) (Some generators) (Some branch) case e field.Branch = ap (λ (c : CaseMatrices). c.branch ∷ []) (same-ok (record { bus = bus; generators = generators; branch = branch }) case _ refl e)

-- ---- parts
skips_then : Gap → List Part → List Part
skips_then [] parts = parts
skips_then (skip ∷ gap) parts = skipped skip ∷ skips_then gap parts

skips-before : (gap : Gap) (parts : List Part) (rest : List ℕ) → parts_before (skips_then gap parts) rest ≡ gap_before gap (parts_before parts rest)
unfolding skips_then
skips-before [] parts rest = refl
skips-before (blank b ∷ gap) parts rest = ap (λ xs. b ∷ xs) (skips-before gap parts rest)
skips-before (continued c ∷ gap) parts rest = ap (λ xs. 46 ∷ 46 ∷ 46 ∷ (c ++ 10 ∷ xs)) (skips-before gap parts rest)

skips-are : (gap : Gap) (parts : List Part) → IsGap gap → AreParts parts → AreParts (skips_then gap parts)
unfolding skips_then
skips-are [] parts h k = k
skips-are (skip ∷ gap) parts h k = (h.0, skips-are gap parts h.1 k)

skips-end : (gap : Gap) (parts : List Part) → HasEnd parts → HasEnd (skips_then gap parts)
unfolding skips_then
skips-end [] parts h = h
skips-end (skip ∷ gap) parts h = skips-end gap parts h

first-ends : (part : Part) (parts : List Part) → HasEnd (part ∷ []) → HasEnd (part ∷ parts)
first-ends (skipped skip) parts h = absurd h
first-ends (line_end end) parts h = tt
first-ends semicolon parts h = tt
first-ends comma parts h = tt

prepend : Gap → Part → Statements → Statements
prepend gap part (ends parts ending) = ends (skips_then gap (part ∷ parts)) ending
prepend gap part (another parts s more) = another (skips_then gap (part ∷ parts)) s more

prepend-bytes : (gap : Gap) (part : Part) (all : Statements) → statements_bytes (prepend gap part all) ≡ gap_before gap (part_before part (statements_bytes all))
unfolding prepend
prepend-bytes gap part (ends parts ending) = skips-before gap (part ∷ parts) (ending_text ending)
prepend-bytes gap part (another parts s more) = skips-before gap (part ∷ parts) (statement_before s (statements_bytes more))

prepend-are : (gap : Gap) (part : Part) (all : Statements) → IsGap gap → IsPart part → AreStatements all → AreStatements (prepend gap part all)
unfolding prepend
prepend-are gap part (ends parts ending) g k h = (skips-are gap (part ∷ parts) g (k, h.0), h.1)
prepend-are gap part (another parts s more) g k h = (skips-are gap (part ∷ parts) g (k, h.0), h.1, h.2, h.3)

prepend-values : (gap : Gap) (part : Part) (all : Statements) (f : Field) → values_of f (prepend gap part all) ≡ values_of f all
unfolding prepend
prepend-values gap part (ends parts ending) f = refl
prepend-values gap part (another parts s more) f = refl

prepend-ends : (gap : Gap) (part : Part) (all : Statements) → HasEnd (part ∷ []) → AreEnded (prepend gap part all)
unfolding prepend
prepend-ends gap part (ends parts ending) h = tt
prepend-ends gap part (another parts s more) h = skips-end gap (part ∷ parts) (first-ends part parts h)

-- ---- what stands behind a word, and behind a value
word-parts : (parts : List Part) (rest : List ℕ) → HasEnd parts → EndsRun false (parts_before parts rest) → IsApart parts
word-parts [] rest h k = h
word-parts (skipped (blank b) ∷ parts) rest h k = tt
word-parts (skipped (continued c) ∷ parts) rest h k = false≢true k
word-parts (line_end end ∷ parts) rest h k = tt
word-parts (semicolon ∷ parts) rest h k = tt
word-parts (comma ∷ parts) rest h k = tt

name-parts : (parts : List Part) (s : Statement) (rest : List ℕ) → EndsRun false (parts_before parts (statement_before s rest)) → IsApart parts
name-parts [] s rest k = false≢true k
name-parts (skipped (blank b) ∷ parts) s rest k = tt
name-parts (skipped (continued c) ∷ parts) s rest k = false≢true k
name-parts (line_end end ∷ parts) s rest k = tt
name-parts (semicolon ∷ parts) s rest k = tt
name-parts (comma ∷ parts) s rest k = tt

ending-parts : (parts : List Part) (ending : Ending) → EndsRun false (parts_before parts (ending_text ending)) → IsApartFromEnd parts ending
ending-parts [] here k = tt
ending-parts [] (in_comment c) k = tt
ending-parts [] (in_continuation c) k = false≢true k
ending-parts (skipped (blank b) ∷ parts) ending k = tt
ending-parts (skipped (continued c) ∷ parts) ending k = false≢true k
ending-parts (line_end end ∷ parts) ending k = tt
ending-parts (semicolon ∷ parts) ending k = tt
ending-parts (comma ∷ parts) ending k = tt

behind-name : (all : Statements) → EndsRun false (statements_bytes all) → AreApart all
behind-name (ends parts ending) k = ending-parts parts ending k
behind-name (another parts s more) k = name-parts parts s (statements_bytes more) k

value-parts : (all : Statements) → AreEnded all → EndsRun false (statements_bytes all) → AreApart all
value-parts (ends parts ending) h k = ending-parts parts ending k
value-parts (another parts s more) h k = word-parts parts (statement_before s (statements_bytes more)) h k

behind-value : (value : Value) (all : Statements) → AreEnded all → Stops value (statements_bytes all) → AreBehind value all
behind-value (number digits) all h k = (h, value-parts all h k)
behind-value (string quote characters) all h k = h
behind-value (matrix rows) all h k = h
behind-value (cells rows) all h k = h

-- ---- the text ends, or has a first token
record EndOf (text rest : List ℕ) : Type 0 where
  gap : Gap
  ending : Ending
  gap_is : IsGap gap
  ending_is : IsEnding ending
  is : rest ≡ gap_before gap (ending_text ending)
  none : NoneFrom text rest

some-token : (text rest : List ℕ) (list behind : TokenList) (token : Token) → list ≡ with_first token behind → list.tokens ≡ [] → ⊥
some-token text rest list behind token e h =
    let same : token ∷ behind.tokens ≡ [] = ap (λ (l : TokenList). l.tokens) (sym e) ∙ h in Prim.cc

mark-some : (text : List ℕ) (b : ℕ) (rest : List ℕ) (list : TokenList) → list ≡ tokens_at text 0 (b ∷ rest) → list.tokens ≡ [] → MarkIs b → ⊥
unfolding piece_at
mark-some text b rest list e h (is_comma k) = let a = at-any text 0 kind.Mark 1 44 rest refl in some-token text rest list a.0 _ (e ∙ ap (λ x. tokens_at text 0 (x ∷ rest)) k ∙ a.1) h
mark-some text b rest list e h (is_semicolon k) = let a = at-any text 0 kind.Mark 1 59 rest refl in some-token text rest list a.0 _ (e ∙ ap (λ x. tokens_at text 0 (x ∷ rest)) k ∙ a.1) h
mark-some text b rest list e h (is_square k) = let a = at-any text 0 kind.Mark 1 91 rest refl in some-token text rest list a.0 _ (e ∙ ap (λ x. tokens_at text 0 (x ∷ rest)) k ∙ a.1) h
mark-some text b rest list e h (is_curly_opening k) = let a = at-any text 0 kind.Mark 1 123 rest refl in some-token text rest list a.0 _ (e ∙ ap (λ x. tokens_at text 0 (x ∷ rest)) k ∙ a.1) h
mark-some text b rest list e h (is_square_end k) = let a = at-any text 0 kind.Mark 1 93 rest refl in some-token text rest list a.0 _ (e ∙ ap (λ x. tokens_at text 0 (x ∷ rest)) k ∙ a.1) h
mark-some text b rest list e h (is_curly_end k) = let a = at-any text 0 kind.Mark 1 125 rest refl in some-token text rest list a.0 _ (e ∙ ap (λ x. tokens_at text 0 (x ∷ rest)) k ∙ a.1) h
mark-some text b rest list e h (is_equals_mark k) = let a = at-any text 0 kind.Mark 1 61 rest refl in some-token text rest list a.0 _ (e ∙ ap (λ x. tokens_at text 0 (x ∷ rest)) k ∙ a.1) h

end-found : (text rest : List ℕ) → (tokens_at text 0 rest).tokens ≡ [] → Found text 0 rest → EndOf text rest
end-found text rest h (finds_end gap ending g k is zero_depth e none) = record { gap = gap; ending = ending; gap_is = g; ending_is = k; is = is; none = none }
end-found text rest h (finds_line gap end behind g k is r e none) = absurd (some-token text rest _ _ _ e h)
end-found text rest h (finds_mark gap b behind g m is r e none) = absurd (mark-some text b behind _ e h (mark-is false b m))
end-found text rest h (finds_string gap quote characters behind g s ok is r e none) = absurd (some-token text rest _ _ _ e h)
end-found text rest h (finds_run gap b bytes behind g stops ok is r e none) = absurd (some-token text rest _ _ _ e h)

end-of : (text rest : List ℕ) → IsRest text rest → IsClean text (tokens_at text 0 rest) → (tokens_at text 0 rest).tokens ≡ [] → EndOf text rest
end-of text rest r clean h = end-found text rest h (found text 0 rest r clean)

-- ---- all statements
record Holds (text : List ℕ) (settings : Settings) (all : Statements) (case : CaseMatrices) : Type 0 where
  statements : AreStatements all
  tells : (f : Field) → told settings f ++ map rows_of (values_of f all) ≡ matrix_of case f ∷ []

record AllOf (text : List ℕ) (settings : Settings) (rest : List ℕ) (case : CaseMatrices) : Type 0 where
  all : Statements
  is : rest ≡ statements_bytes all
  none : NoneFrom text rest
  holds : IsBlockless text → Holds text settings all case

abbrev AllReads : List ℕ → ℕ → Type 0
AllReads text n =
    (settings : Settings) (rest : List ℕ) (case : CaseMatrices) → length rest < n → IsRest text rest → IsClean text (tokens_at text 0 rest) →
    case_from text None settings 0 (tokens_at text 0 rest).tokens ≡ Ok case → AllOf text settings rest case

all-set : (text : List ℕ) (settings : Settings) (case : CaseMatrices) → case_from text None settings 0 [] ≡ Ok case → all_set settings ≡ Ok case
unfolding case_from
all-set text settings case e = e

-- nothing is left but the end
all-end : (text : List ℕ) (settings : Settings) (rest : List ℕ) (case : CaseMatrices) → EndOf text rest → case_from text None settings 0 [] ≡ Ok case → AllOf text settings rest case
all-end text settings rest case h e = record {
  all = ends (skips_then h.gap []) h.ending;
  is = h.is ∙ sym (skips-before h.gap [] (ending_text h.ending));
  none = h.none;
  holds = λ blocks. record {
    statements = (skips-are h.gap [] h.gap_is tt, h.ending_is);
    tells = λ f. append-nil (told settings f) ∙ told-all settings.version settings.base settings.bus settings.generators settings.branch case (all-set text settings case e) f;
  };
}

-- something that parts statements, and what is behind it
all-part : (text : List ℕ) (n : ℕ) → AllReads text n → (settings : Settings) (rest : List ℕ) (case : CaseMatrices) (more : List Token) → length rest ≤ n → PartOf text rest more →
    case_from text None settings 0 more ≡ Ok case → (a : AllOf text settings rest case) × AreEnded a.all
all-part text n later settings rest case more few p e =
    let t = p.tail in
    let a = later settings p.behind case (Prim.omega (arith, t.shorter)) t.here t.clean (ap (case_from text None settings 0) t.tokens ∙ e) in (
      record {
        all = prepend p.gap p.part a.all;
        is = p.is ∙ ap (λ xs. gap_before p.gap (part_before p.part xs)) a.is ∙ sym (prepend-bytes p.gap p.part a.all);
        none = t.none a.none;
        holds = λ blocks. let h = a.holds blocks in record {
          statements = prepend-are p.gap p.part a.all p.gap_is p.part_is h.statements;
          tells = λ f. ap (λ xs. told settings f ++ map rows_of xs) (prepend-values p.gap p.part a.all f) ∙ h.tells f;
        };
      },
      prepend-ends p.gap p.part a.all p.ends,
    )

-- the end of a statement, and what is behind it
all-behind : (text : List ℕ) (n : ℕ) → AllReads text n → (settings : Settings) (line : ℕ) (rest : List ℕ) (case : CaseMatrices) (left : List Token) → length rest ≤ n → IsRest text rest →
    IsClean text (tokens_at text 0 rest) → behind_end text line (tokens_at text 0 rest).tokens ≡ Ok left → case_from text None settings 0 left ≡ Ok case → (a : AllOf text settings rest case) × AreEnded a.all
unfolding behind_end all-end
all-behind text n later settings line rest case left few r clean h e = by_tokens (tokens_at text 0 rest).tokens refl h where
  by_tokens : (tokens : List Token) → (tokens_at text 0 rest).tokens ≡ tokens → behind_end text line tokens ≡ Ok left → (a : AllOf text settings rest case) × AreEnded a.all
  by_tokens [] is h =
      (all-end text settings rest case (end-of text rest r clean is) (ap (case_from text None settings 0) (ok-same {F = CaseFault} [] left h) ∙ e), tt)
  by_tokens (token ∷ tokens) is h =
      let test = passed-test (is_separator (word_of text token)) (fault.Code line) left (Ok tokens) h in
      all-part text n later settings rest case tokens few (part-of text rest token tokens test (token-found text rest token tokens r clean is))
      (ap (case_from text None settings 0) (same-ok tokens left (Ok tokens) refl (allowed (is_separator (word_of text token)) (fault.Code line) left (Ok tokens) h)) ∙ e)

-- a statement, and what is behind it
all-statement : (text : List ℕ) (n : ℕ) → AllReads text n → (settings next : Settings) (rest : List ℕ) (case : CaseMatrices) (line : ℕ) (read : Setting × List Token) → length rest ≤ suc n → StatementOf text rest line read →
    with_setting settings (read.0).field (read.0).rows ≡ Ok next → case_from text None next 0 read.1 ≡ Ok case → AllOf text settings rest case
all-statement text n later settings next rest case line read few st set e =
    let o : Option Field = field_of (target_text st.s.target) in
    let b = all-behind text n later next line st.behind case read.1 (Prim.omega (arith, st.shorter)) st.here st.clean st.ends e in
    let a = b.0 in
    record {
      all = another (skips_then st.gap []) st.s a.all;
      is = st.is ∙ ap (λ xs. gap_before st.gap (statement_before st.s xs)) a.is ∙ sym (skips-before st.gap [] (statement_before st.s (statements_bytes a.all)));
      none = st.none a.none;
      holds = λ blocks.
          let h = a.holds blocks in
          let sa = sets-as settings next o st.s.value (read.0).rows st.takes (st.rows_are blocks) (ap (λ (x : Option Field). with_setting settings x (read.0).rows) (sym st.field_is) ∙ set) in
          record {
            statements = (
              skips-are st.gap [] st.gap_is tt,
              record {
                target = st.target;
                behind_target = st.behind_target;
                blank_behind_target = st.blank_behind_target;
                behind_equals = st.behind_equals;
                value = st.value;
                takes = λ f is_set. taken o sa.takes f (sym (field-is (target_text st.s.target) o refl f) ∙ is_set);
              },
              behind-value st.s.value a.all b.1 (subst (Stops st.s.value) a.is st.stops),
              h.statements,
            );
            tells = λ f.
                ap (λ t. told settings f ++ map rows_of (cond t (st.s.value ∷ values_of f a.all) (values_of f a.all))) (field-is (target_text st.s.target) o refl f)
                ∙ sa.tells f (values_of f a.all) ∙ h.tells f;
          };
    } where
      taken : (o : Option Field) → TakesAs o st.s.value → (f : Field) → is_that o f ≡ true → Takes f st.s.value
      taken None t f h = absurd (false≢true h)
      taken (Some g) t f h = subst (λ x. Takes x st.s.value) (same-is g f h) t

all-read : (text : List ℕ) (n : ℕ) → AllReads text n
all-read text zero settings rest case few r clean e = absurd (Prim.omega arith)
all-read text (suc n) settings rest case few r clean e = by_tokens (tokens_at text 0 rest).tokens refl e (all-read text n) where
  by_tokens : (tokens : List Token) → (tokens_at text 0 rest).tokens ≡ tokens → case_from text None settings 0 tokens ≡ Ok case → AllReads text n → AllOf text settings rest case
  by_tokens [] is e later = all-end text settings rest case (end-of text rest r clean is) e
  by_tokens (token ∷ tokens) is e later = elim (cases_Bool (is_separator (word_of text token))) [
    | inl t ↦
        (all-part text n later settings rest case tokens (Prim.omega arith) (part-of text rest token tokens t (token-found text rest token tokens r clean is))
        (sym (case-separator text settings token tokens t) ∙ e)).0
    | inr t ↦
        let p = then-ok (statement_at text None token tokens)
        (λ (read : Setting × List Token). and_then (with_setting settings (read.0).field (read.0).rows) (λ next. case_from text None next (length tokens - length read.1) tokens)) case
        (sym (case-other text settings token tokens t) ∙ e) in
        let q = then-ok (with_setting settings ((p.0).0).field ((p.0).0).rows) (λ next. case_from text None next (length tokens - length (p.0).1) tokens) case p.2 in
        all-statement text n later settings q.0 rest case token.line p.0 (Prim.omega arith) (statement-of text rest token tokens p.0 r clean is p.1) q.1
        (sym (case-rest text q.0 (p.0).1 tokens (rest-statement (field_of (text_of text token)) text None token tokens p.0 p.1)) ∙ q.2)
  ]

-- ---- the first statement
record StartOf (text rest : List ℕ) (case : CaseMatrices) : Type 0 where
  parts : List Part
  first : First
  behind : List ℕ
  parts_are : AreParts parts
  first_is : IsFirst first
  is : rest ≡ parts_before parts (first_before first behind)
  stops : EndsRun false behind
  reads : case_from text None no_settings 0 (tokens_at text 0 behind).tokens ≡ Ok case
  clean : IsClean text (tokens_at text 0 behind)
  here : IsRest text behind
  none : NoneFrom text behind → NoneFrom text rest

run-text : (text bytes : List ℕ) (token : Token) → is_run_of bytes text token ≡ true → (is_run (word_of text token) ≡ true) × (text_of text token ≡ bytes)
run-text text bytes token h =
    let p = and_parts (is_run (word_of text token)) (bytes_eq (text_of text token) bytes) h in
    (p.0, (bytes_eq-Decides (text_of text token) bytes).0 p.1)

start-first : (text rest : List ℕ) (case : CaseMatrices) (head : Token) (tokens : List Token) → IsRest text rest → IsClean text (tokens_at text 0 rest) → (tokens_at text 0 rest).tokens ≡ head ∷ tokens →
    function_from text None head tokens ≡ Ok case → StartOf text rest case
start-first text rest case head tokens r clean e h =
    let f = first-read text None head tokens case h in
    let hf = run-text text (codes "function") head f.head_is in
    let hm = run-text text (codes "mpc") f.next f.next_is in
    let a = run-at text rest head tokens hf.0 (token-found text rest head tokens r clean e) in
    let at = a.tail in
    let b = run-at text a.behind f.next (f.equals ∷ f.name ∷ f.behind) hm.0 (token-found text a.behind f.next (f.equals ∷ f.name ∷ f.behind) at.here at.clean (at.tokens ∙ f.tokens_are)) in
    let bt = b.tail in
    let c = equals-of text b.behind f.equals (f.name ∷ f.behind) f.equals_is (token-found text b.behind f.equals (f.name ∷ f.behind) bt.here bt.clean bt.tokens) in
    let ct = c.tail in
    let d = run-at text c.behind f.name f.behind f.name_run (token-found text c.behind f.name f.behind ct.here ct.clean ct.tokens) in
    let dt = d.tail in
    let name : List ℕ = d.b ∷ d.bytes in
    let a_is : a.b ∷ a.bytes ≡ codes "function" = sym a.text_is ∙ hf.1 in
    let b_is : b.b ∷ b.bytes ≡ codes "mpc" = sym b.text_is ∙ hm.1 in
    let behind_function : a.behind ≡ gap_before b.gap (codes "mpc" ++ b.behind) = b.is ∙ ap (λ xs. gap_before b.gap (xs ++ b.behind)) b_is in
    let stops : EndsRun false (gap_before b.gap (codes "mpc" ++ b.behind)) = subst (EndsRun false) behind_function a.stops in
    record {
      parts = skips_then a.gap [];
      first = record { behind_function = b.gap; behind_mpc = c.gap; behind_equals = d.gap; name = d.b ∷ d.bytes };
      behind = d.behind;
      parts_are = skips-are a.gap [] a.gap_is tt;
      first_is = record {
        behind_function = b.gap_is;
        parted = gap-some_word b.gap 109 (codes "pc" ++ b.behind) refl stops;
        blank_behind_function = gap-blank b.gap (codes "mpc" ++ b.behind) stops;
        behind_mpc = c.gap_is;
        blank_behind_mpc = gap-blank c.gap (61 ∷ c.behind) (subst (EndsRun false) c.is b.stops);
        behind_equals = d.gap_is;
        name = text-name (d.b ∷ d.bytes) (ap is_name_text (sym d.text_is) ∙ f.name_is);
      };
      is = a.is ∙ ap (λ xs. gap_before a.gap (xs ++ a.behind)) a_is
          ∙ ap (λ xs. gap_before a.gap (codes "function" ++ xs)) (behind_function
          ∙ ap (λ xs. gap_before b.gap (codes "mpc" ++ xs)) (c.is ∙ ap (λ xs. gap_before c.gap (61 ∷ xs)) d.is))
          ∙ sym (skips-before a.gap [] _);
      stops = d.stops;
      reads = ap (case_from text None no_settings 0) dt.tokens ∙ f.reads;
      clean = dt.clean;
      here = dt.here;
      none = λ x. at.none (bt.none (ct.none (dt.none x)));
    }

start-separator : (text : List ℕ) (token : Token) (tokens : List Token) → is_separator (word_of text token) ≡ true → statements_from text None (token ∷ tokens) ≡ statements_from text None tokens
unfolding statements_from
start-separator text token tokens h = cond-true (is_separator (word_of text token)) _ _ h

start-other : (text : List ℕ) (token : Token) (tokens : List Token) → is_separator (word_of text token) ≡ false → statements_from text None (token ∷ tokens) ≡ function_from text None token tokens
unfolding statements_from
start-other text token tokens h = cond-false (is_separator (word_of text token)) _ _ h

no-start : (text : List ℕ) (case : CaseMatrices) → statements_from text None [] ≡ Ok case → ⊥
unfolding statements_from
no-start text case e = no-ok fault.NoVersion case _ refl e

start-read : (text : List ℕ) (n : ℕ) (rest : List ℕ) (case : CaseMatrices) → length rest < n → IsRest text rest → IsClean text (tokens_at text 0 rest) →
    statements_from text None (tokens_at text 0 rest).tokens ≡ Ok case → StartOf text rest case
start-read text zero rest case few r clean e = absurd (Prim.omega arith)
start-read text (suc n) rest case few r clean e = by_tokens (tokens_at text 0 rest).tokens refl e (start-read text n) where
  by_tokens : (tokens : List Token) → (tokens_at text 0 rest).tokens ≡ tokens → statements_from text None tokens ≡ Ok case →
      ((behind : List ℕ) (case : CaseMatrices) → length behind < n → IsRest text behind → IsClean text (tokens_at text 0 behind) → statements_from text None (tokens_at text 0 behind).tokens ≡ Ok case → StartOf text behind case) →
      StartOf text rest case
  by_tokens [] is e later = absurd (no-start text case e)
  by_tokens (token ∷ tokens) is e later = elim (cases_Bool (is_separator (word_of text token))) [
    | inl t ↦
        let p = part-of text rest token tokens t (token-found text rest token tokens r clean is) in
        let pt = p.tail in
        let s = later p.behind case (Prim.omega (arith, pt.shorter)) pt.here pt.clean (ap (statements_from text None) pt.tokens ∙ sym (start-separator text token tokens t) ∙ e) in
        record {
          parts = skips_then p.gap (p.part ∷ s.parts);
          first = s.first;
          behind = s.behind;
          parts_are = skips-are p.gap (p.part ∷ s.parts) p.gap_is (p.part_is, s.parts_are);
          first_is = s.first_is;
          is = p.is ∙ ap (λ xs. gap_before p.gap (part_before p.part xs)) s.is ∙ sym (skips-before p.gap (p.part ∷ s.parts) (first_before s.first s.behind));
          stops = s.stops;
          reads = s.reads;
          clean = s.clean;
          here = s.here;
          none = λ x. pt.none (s.none x);
        }
    | inr t ↦ start-first text rest case token tokens r clean is (sym (start-other text token tokens t) ∙ e)
  ]

-- ---- the whole text
record BodyOf (text : List ℕ) (matrices : CaseMatrices) : Type 0 where
  before : List Part
  first : First
  others : Statements
  is : text ≡ parts_before before (first_before first (statements_bytes others))
  before_is : AreParts before
  first_is : IsFirst first
  behind_name : AreApart others
  statements : AreStatements others
  no_blocks : IsBlockless text
  gives : (f : Field) → map rows_of (values_of f others) ≡ matrix_of matrices f ∷ []

body-of : (text : List ℕ) (matrices : CaseMatrices) → IsClean text (token_list text) → statements_from text (token_list text).fault (token_list text).tokens ≡ Ok matrices → BodyOf text matrices
body-of text matrices clean e =
    let whole : IsRest text text = record { before = []; is = refl } in
    let clean_at = clean-as text (token_list text) (tokens_at text 0 text) (at-start text) clean in
    let s = start-read text (suc (length text)) text matrices (Prim.omega arith) whole clean_at
    (ap (λ (l : TokenList). statements_from text None l.tokens) (sym (at-start text)) ∙ ap (λ stop. statements_from text stop (token_list text).tokens) (sym clean.fault) ∙ e) in
    let a = all-read text (suc (length s.behind)) no_settings s.behind matrices (Prim.omega arith) s.here s.clean s.reads in
    let blocks = none-at_all text (s.none a.none) in
    let h = a.holds blocks in
    record {
      before = s.parts;
      first = s.first;
      others = a.all;
      is = s.is ∙ ap (λ xs. parts_before s.parts (first_before s.first xs)) a.is;
      before_is = s.parts_are;
      first_is = s.first_is;
      behind_name = behind-name a.all (subst (EndsRun false) a.is s.stops);
      statements = h.statements;
      no_blocks = blocks;
      gives = λ f. ap (λ xs. xs ++ map rows_of (values_of f a.all)) (sym (told-none f)) ∙ h.tells f;
    }

-- whether the text has a byte order mark
mark-of : (bytes : List ℕ) → (mark : Bool) × (bytes ≡ cond mark (239 ∷ 187 ∷ 191 ∷ without_mark bytes) (without_mark bytes))
unfolding without_mark
mark-of bytes = elim (cases_Bool (bytes_eq (take 3 bytes) (239 ∷ 187 ∷ 191 ∷ []))) [
  | inl t ↦ (
    true,
    sym (take-append-drop 3 bytes) ∙ ap (λ xs. xs ++ drop 3 bytes) ((bytes_eq-Decides (take 3 bytes) (239 ∷ 187 ∷ 191 ∷ [])).0 t)
        ∙ ap (λ xs. 239 ∷ 187 ∷ 191 ∷ xs) (sym (cond-true (bytes_eq (take 3 bytes) (239 ∷ 187 ∷ 191 ∷ [])) _ _ t)),
  )
  | inr t ↦ (false, sym (cond-false (bytes_eq (take 3 bytes) (239 ∷ 187 ∷ 191 ∷ [])) _ _ t))
]

-- what is read is derived
pub read-derived : (bytes : List ℕ) (matrices : CaseMatrices) → case_of bytes ≡ Ok matrices → IsCaseText bytes matrices
unfolding case_of
read-derived bytes matrices e =
    let text : List ℕ = without_mark bytes in
    let b = body-of text matrices (case-clean bytes matrices e) e in
    let m = mark-of bytes in
    let case : CaseText = record { mark = m.0; before = b.before; first = b.first; others = b.others } in
    let body : text ≡ body_text case = b.is ∙ text-bytes case in (
      case,
      m.1 ∙ ap (λ xs. cond m.0 (239 ∷ 187 ∷ 191 ∷ xs) xs) body,
      record { before = b.before_is; first = b.first_is; behind_name = b.behind_name; others = b.statements; no_blocks = no-blocks (body_text case) (subst IsBlockless body b.no_blocks) },
      b.gives,
    )
