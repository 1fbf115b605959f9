-- A text that is read as a case has neither block comments nor quotes that are not closed among its tokens, and no fault.
use Rattle.std.proofs.Common.{◌≡◌, ℕ, zero, suc, ◌-◌, ◌==◌, ◌&&◌, Bool, true, false, List, [], ◌∷◌, length, drop, refl, sym, ap, subst, ◌∙◌, arith, Option, Some, None, Result, Ok, Err, cond, inl, inr, codes}
use Rattle.std.specs.Prelude.{is_some, nat_lt}
use Rattle.std.specs.List.{AllByRecursion}
use Rattle.std.proofs.lemmas.Bool.{cases_Bool, and_parts, cond-false, cond-true}
use Rattle.std.proofs.lemmas.List.{length-drop}
use Rattle.scaled_decimal.specs.Reading.{is_number_text}
use Rattle.case_tokens.specs.declared.Token.{Token}
use Rattle.case_tokens.specs.TokenLists.{TokenList, token_list}
use Rattle.case_text.specs.declared.CaseFault.{CaseFault}
use Rattle.case_text.specs.declared.CaseFault.TheVariants as fault
use Rattle.case_text.specs.declared.Field.{Field}
use Rattle.case_text.specs.declared.words.Bracket.{Bracket}
use Rattle.case_text.specs.declared.words.Word.{Word}
use Rattle.case_text.specs.declared.words.Word.TheVariants as word
use Rattle.case_text.specs.Words.{word_of, text_of, is_separator, is_equals, is_run, opens_square}
use Rattle.case_text.specs.Names.{is_target, is_name_text, is_version_one, field_of, takes_number, takes_text, takes_bracket}
use Rattle.case_text.specs.Nests.{Nest, first_nest, step, step_by, behind_brackets}
use Rattle.case_text.specs.Matrices.{CaseMatrices}
use Rattle.case_text.specs.Statements.{Setting, behind_end, ended, plain_value, bracketed, value_by, statement_of, statement_at, matrix_rows, not_version_one}
use Rattle.case_text.specs.Settings.{Settings, no_settings, with_setting, all_set}
use Rattle.case_text.specs.Cases.{case_from, at_end, is_run_of, named_from, function_from, statements_from, without_mark, case_of}
use Rattle.case_text.proofs.StatementLemmas.{allowed, refused, no-ok, same-ok, rest-statement}
use Rattle.record_reading.specs.Steps.{and_then}
use Rattle.record_reading.proofs.StepLemmas.{then-ok}

abbrev pub is_fine : Word → Bool
is_fine word.Block = false
is_fine word.Unclosed = false
is_fine _ = true

abbrev pub AreFine : List ℕ → List Token → Type 0
AreFine text tokens = AllByRecursion (λ (token : Token). is_fine (word_of text token) ≡ true) tokens

separator-fine : (w : Word) → is_separator w ≡ true → is_fine w ≡ true
separator-fine word.Block h = h
separator-fine word.Unclosed h = h
separator-fine _ h = refl

run-fine : (w : Word) → is_run w ≡ true → is_fine w ≡ true
run-fine word.Block h = h
run-fine word.Unclosed h = h
run-fine _ h = refl

equals-fine : (w : Word) → is_equals w ≡ true → is_fine w ≡ true
equals-fine word.Block h = h
equals-fine word.Unclosed h = h
equals-fine _ h = refl

step-fine : (w : Word) (only : Bool) (token : Token) (nest next : Nest) → step_by w only token nest ≡ Ok next → is_fine w ≡ true
unfolding step_by
step-fine word.Block only token nest next e = absurd (no-ok (fault.Code token.line) next (step_by word.Block only token nest) refl e)
step-fine word.Unclosed only token nest next e = absurd (no-ok (fault.BadToken token.span.start) next (step_by word.Unclosed only token nest) refl e)
step-fine _ only token nest next e = refl

same-rest : (text : List ℕ) (tokens rest : List Token) → tokens ≡ rest → AreFine text rest → AreFine text tokens
same-rest text tokens rest e h = subst (AreFine text) (sym e) h

brackets-fine : (text : List ℕ) (stop : Option ℕ) (only : Bool) (nest : Nest) (tokens rest : List Token) → behind_brackets text stop only nest tokens ≡ Ok rest → AreFine text rest → AreFine text tokens
unfolding behind_brackets
brackets-fine text stop only nest [] rest e h = absurd (Prim.cc)
brackets-fine text stop only nest (token ∷ tokens) rest e h =
    let p = then-ok (step text only token nest) (λ (next : Nest). cond (length next.brackets == 0) (Ok tokens) (behind_brackets text stop only next tokens)) rest e in (
      step-fine (word_of text token) only token nest p.0 p.1,
      either (length (p.0).brackets == 0) (behind_brackets text stop only p.0 tokens) p.2 (λ d. brackets-fine text stop only p.0 tokens rest d h),
    ) where
      either : (test : Bool) (read : Result (List Token) CaseFault) → cond test (Ok tokens) read ≡ Ok rest → (read ≡ Ok rest → AreFine text tokens) → AreFine text tokens
      either true read e k = same-rest text tokens rest (same-ok tokens rest (Ok tokens) refl e) h
      either false read e k = k e

end-fine : (text : List ℕ) (line : ℕ) (tokens rest : List Token) → behind_end text line tokens ≡ Ok rest → AreFine text rest → AreFine text tokens
unfolding behind_end
end-fine text line [] rest e h = tt
end-fine text line (token ∷ tokens) rest e h = elim (cases_Bool (is_separator (word_of text token))) [
  | inl t ↦ (
    separator-fine (word_of text token) t,
    same-rest text tokens rest (same-ok tokens rest (Ok tokens) refl (allowed (is_separator (word_of text token)) (fault.Code line) rest (Ok tokens) e)) h,
  )
  | inr t ↦ absurd (no-ok (fault.Code line) rest _ (cond-false (is_separator (word_of text token)) _ _ t) e)
]

ended-fine : (text : List ℕ) (line : ℕ) (setting : Setting) (tokens : List Token) (read : Setting × List Token) → ended text line setting tokens ≡ Ok read → AreFine text read.1 → AreFine text tokens
ended-fine text line setting tokens read e h =
    let p = then-ok (behind_end text line tokens) (λ behind. Ok (setting, behind)) read e in
    end-fine text line tokens p.0 p.1 (subst (λ (x : Setting × List Token). AreFine text x.1) (sym (same-ok (setting, p.0) read _ refl p.2)) h)

plain-fine : (text : List ℕ) (line : ℕ) (field : Option Field) (test : Bool) (tokens : List Token) (read : Setting × List Token) → plain_value text line field test tokens ≡ Ok read →
    AreFine text read.1 → AreFine text tokens
unfolding plain_value
plain-fine text line field test tokens read e h =
    ended-fine text line (record { field = field; rows = [] }) tokens read (allowed test (fault.Code line) read (ended text line (record { field = field; rows = [] }) tokens) e) h

bracketed-fine : (text : List ℕ) (stop : Option ℕ) (line : ℕ) (field : Option Field) (opening : Bracket) (tokens : List Token) (read : Setting × List Token) →
    bracketed text stop line field opening tokens ≡ Ok read → AreFine text read.1 → AreFine text tokens
unfolding bracketed
bracketed-fine text stop line field opening tokens read e h =
    let setting : Setting = record { field = field; rows = matrix_rows field text tokens } in
    let p = then-ok (behind_brackets text stop (is_some field) (first_nest opening) tokens) (λ behind. ended text line setting behind) read
    (allowed (takes_bracket field opening) (fault.Code line) read _ e) in
    brackets-fine text stop (is_some field) (first_nest opening) tokens p.0 p.1 (ended-fine text line setting p.0 read p.2 h)

value-fine : (said : Word) (text : List ℕ) (stop : Option ℕ) (line : ℕ) (field : Option Field) (value : Token) (tokens : List Token) (read : Setting × List Token) →
    value_by said text stop line field value tokens ≡ Ok read → AreFine text read.1 → (is_fine said ≡ true) × AreFine text tokens
unfolding value_by
value-fine word.Run text stop line field value tokens read e h = (refl, plain-fine text line field (is_number_text (text_of text value) && takes_number field) tokens read e h)
value-fine word.Quoted text stop line field value tokens read e h =
    let p = then-ok (plain_value text line field (takes_text field (text_of text value)) tokens) (not_version_one field (text_of text value)) read e in (
      refl,
      plain-fine text line field (takes_text field (text_of text value)) tokens p.0 p.1
          (subst (λ (x : Setting × List Token). AreFine text x.1)
          (sym (same-ok p.0 read (Ok p.0) refl (refused (is_some field && is_version_one (text_of text value)) fault.VersionOne read (Ok p.0) p.2))) h),
    )
value-fine (word.Opening opening) text stop line field value tokens read e h = (refl, bracketed-fine text stop line field opening tokens read e h)
value-fine word.LineEnd text stop line field value tokens read e h = absurd (no-ok (fault.Code line) read _ refl e)
value-fine word.Block text stop line field value tokens read e h = absurd (no-ok (fault.Code line) read _ refl e)
value-fine word.Comma text stop line field value tokens read e h = absurd (no-ok (fault.Code line) read _ refl e)
value-fine word.Semicolon text stop line field value tokens read e h = absurd (no-ok (fault.Code line) read _ refl e)
value-fine word.Equals text stop line field value tokens read e h = absurd (no-ok (fault.Code line) read _ refl e)
value-fine (word.Closing closing) text stop line field value tokens read e h = absurd (no-ok (fault.Code line) read _ refl e)
value-fine word.Unclosed text stop line field value tokens read e h = absurd (no-ok (fault.Code line) read _ refl e)

-- a test that let a reading go on
pub passed-test : {A : Type 0} (test : Bool) (why : CaseFault) (value : A) (read : Result A CaseFault) → cond test read (Err why) ≡ Ok value → test ≡ true
passed-test true why value read e = refl
passed-test false why value read e = absurd (Prim.cc)

pub failed-test : {A : Type 0} (test : Bool) (why : CaseFault) (value : A) (read : Result A CaseFault) → cond test (Err why) read ≡ Ok value → test ≡ false
failed-test true why value read e = absurd (Prim.cc)
failed-test false why value read e = refl

statement-fine : (text : List ℕ) (stop : Option ℕ) (head : Token) (tokens : List Token) (read : Setting × List Token) → statement_at text stop head tokens ≡ Ok read → AreFine text read.1 →
    AreFine text (head ∷ tokens)
unfolding statement_of
statement-fine text stop head [] read e h = absurd (no-ok (fault.Code head.line) read _ refl e)
statement-fine text stop head (equals ∷ []) read e h = absurd (no-ok (fault.Code head.line) read _ refl e)
statement-fine text stop head (equals ∷ value ∷ tokens) read e h =
    let test : Bool = is_run (word_of text head) && is_target (text_of text head) && is_equals (word_of text equals) in
    let go = value_by (word_of text value) text stop head.line (field_of (text_of text head)) value tokens in
    let passed = and_parts (is_run (word_of text head) && is_target (text_of text head)) (is_equals (word_of text equals)) (passed-test test (fault.Code head.line) read go e) in
    let v = value-fine (word_of text value) text stop head.line (field_of (text_of text head)) value tokens read (allowed test (fault.Code head.line) read go e) h in
    (run-fine (word_of text head) (and_parts (is_run (word_of text head)) (is_target (text_of text head)) passed.0).0, (equals-fine (word_of text equals) passed.1, (v.0, v.1)))

case-fine : (text : List ℕ) (stop : Option ℕ) (settings : Settings) (n : ℕ) (tokens : List Token) (case : CaseMatrices) → case_from text stop settings n tokens ≡ Ok case → AreFine text (drop n tokens)
unfolding case_from
case-fine text stop settings zero [] case e = tt
case-fine text stop settings (suc n) [] case e = tt
case-fine text stop settings (suc n) (token ∷ tokens) case e = case-fine text stop settings n tokens case e
case-fine text stop settings zero (token ∷ tokens) case e = elim (cases_Bool (is_separator (word_of text token))) [
  | inl t ↦ (separator-fine (word_of text token) t, case-fine text stop settings 0 tokens case (sym (cond-true (is_separator (word_of text token)) _ _ t) ∙ e))
  | inr t ↦
      let d = sym (cond-false (is_separator (word_of text token)) _ _ t) ∙ e in
      let p = then-ok (statement_at text stop token tokens)
      (λ (read : Setting × List Token). and_then (with_setting settings (read.0).field (read.0).rows) (λ next. case_from text stop next (length tokens - length read.1) tokens)) case d in
      let q = then-ok (with_setting settings ((p.0).0).field ((p.0).0).rows) (λ next. case_from text stop next (length tokens - length (p.0).1) tokens) case p.2 in
      let r = rest-statement (field_of (text_of text token)) text stop token tokens p.0 p.1 in
      statement-fine text stop token tokens p.0 p.1
      (subst (AreFine text)
      (ap (λ m. drop m tokens) (Prim.omega (arith, r.within, length-drop r.count tokens, ap (λ (x : List Token). length x) r.is)) ∙ sym r.is)
      (case-fine text stop q.0 (length tokens - length (p.0).1) tokens case q.2))
]

-- ---- the text ended
at_end-none : (stop : Option ℕ) (read : Result CaseMatrices CaseFault) (case : CaseMatrices) → at_end stop read ≡ Ok case → stop ≡ None
at_end-none None read case e = refl
at_end-none (Some at) read case e = absurd (no-ok (fault.BadToken at) case _ refl e)

case-stop : (text : List ℕ) (stop : Option ℕ) (settings : Settings) (n : ℕ) (tokens : List Token) (case : CaseMatrices) → case_from text stop settings n tokens ≡ Ok case → stop ≡ None
unfolding case_from
case-stop text stop settings n [] case e = at_end-none stop (all_set settings) case e
case-stop text stop settings (suc n) (token ∷ tokens) case e = case-stop text stop settings n tokens case e
case-stop text stop settings zero (token ∷ tokens) case e = elim (cases_Bool (is_separator (word_of text token))) [
  | inl t ↦ case-stop text stop settings 0 tokens case (sym (cond-true (is_separator (word_of text token)) _ _ t) ∙ e)
  | inr t ↦
      let d = sym (cond-false (is_separator (word_of text token)) _ _ t) ∙ e in
      let p = then-ok (statement_at text stop token tokens)
      (λ (read : Setting × List Token). and_then (with_setting settings (read.0).field (read.0).rows) (λ next. case_from text stop next (length tokens - length read.1) tokens)) case d in
      let q = then-ok (with_setting settings ((p.0).0).field ((p.0).0).rows) (λ next. case_from text stop next (length tokens - length (p.0).1) tokens) case p.2 in
      case-stop text stop q.0 (length tokens - length (p.0).1) tokens case q.2
]

-- ---- the first statement
pub record IsFirstRead (text : List ℕ) (stop : Option ℕ) (head : Token) (tokens : List Token) (case : CaseMatrices) : Type 0 where
  pub next : Token
  pub equals : Token
  pub name : Token
  pub behind : List Token
  pub tokens_are : tokens ≡ next ∷ equals ∷ name ∷ behind
  pub head_is : is_run_of (codes "function") text head ≡ true
  pub next_is : is_run_of (codes "mpc") text next ≡ true
  pub equals_is : is_equals (word_of text equals) ≡ true
  pub name_run : is_run (word_of text name) ≡ true
  pub name_is : is_name_text (text_of text name) ≡ true
  pub reads : case_from text stop no_settings 0 behind ≡ Ok case

pub first-read : (text : List ℕ) (stop : Option ℕ) (head : Token) (tokens : List Token) (case : CaseMatrices) → function_from text stop head tokens ≡ Ok case → IsFirstRead text stop head tokens case
unfolding function_from named_from
first-read text stop head [] case e = absurd (no-ok (fault.Code head.line) case _ refl e)
first-read text stop head (next ∷ []) case e =
    let a : Bool = is_run_of (codes "function") text head in
    let b : Bool = opens_square (word_of text next) && nat_lt head.span.end next.span.start in
    let c : Bool = is_run_of (codes "mpc") text next in
    absurd (no-ok (fault.Code head.line) case _ refl (allowed c (fault.Code head.line) case _ (refused b fault.VersionOne case _ (allowed a (fault.Code head.line) case _ e))))
first-read text stop head (next ∷ equals ∷ []) case e =
    let a : Bool = is_run_of (codes "function") text head in
    let b : Bool = opens_square (word_of text next) && nat_lt head.span.end next.span.start in
    let c : Bool = is_run_of (codes "mpc") text next in
    absurd (no-ok (fault.Code head.line) case _ refl (allowed c (fault.Code head.line) case _ (refused b fault.VersionOne case _ (allowed a (fault.Code head.line) case _ e))))
first-read text stop head (next ∷ equals ∷ name ∷ tokens) case e =
    let a : Bool = is_run_of (codes "function") text head in
    let b : Bool = opens_square (word_of text next) && nat_lt head.span.end next.span.start in
    let c : Bool = is_run_of (codes "mpc") text next in
    let d : Bool = is_equals (word_of text equals) && is_run (word_of text name) && is_name_text (text_of text name) in
    let e1 = allowed a (fault.Code head.line) case _ e in
    let e2 = refused b fault.VersionOne case _ e1 in
    let e3 = allowed c (fault.Code head.line) case _ e2 in
    let e4 = allowed d (fault.Code head.line) case _ e3 in
    let f = and_parts (is_equals (word_of text equals) && is_run (word_of text name)) (is_name_text (text_of text name)) (passed-test d (fault.Code head.line) case _ e3) in
    let g = and_parts (is_equals (word_of text equals)) (is_run (word_of text name)) f.0 in
    record {
      next = next;
      equals = equals;
      name = name;
      behind = tokens;
      tokens_are = refl;
      head_is = passed-test a (fault.Code head.line) case _ e;
      next_is = passed-test c (fault.Code head.line) case _ e2;
      equals_is = g.0;
      name_run = g.1;
      name_is = f.1;
      reads = e4;
    }

function-fine : (text : List ℕ) (stop : Option ℕ) (head : Token) (tokens : List Token) (case : CaseMatrices) → function_from text stop head tokens ≡ Ok case → AreFine text (head ∷ tokens)
function-fine text stop head tokens case e =
    let f = first-read text stop head tokens case e in
    let run : (bytes : List ℕ) (token : Token) → is_run_of bytes text token ≡ true → is_fine (word_of text token) ≡ true = λ bytes token h. run-fine (word_of text token) (and_parts (is_run (word_of text token)) _ h).0 in
    subst (λ xs. AreFine text (head ∷ xs)) (sym f.tokens_are) (
      run (codes "function") head f.head_is,
      (
        run (codes "mpc") f.next f.next_is,
        (
          equals-fine (word_of text f.equals) f.equals_is,
          (
            run-fine (word_of text f.name) f.name_run,
            case-fine text stop no_settings 0 f.behind case f.reads,
          ),
        ),
      ),
    )

statements-fine : (text : List ℕ) (stop : Option ℕ) (tokens : List Token) (case : CaseMatrices) → statements_from text stop tokens ≡ Ok case → AreFine text tokens × (stop ≡ None)
unfolding statements_from
statements-fine text stop [] case e = (tt, at_end-none stop (Err fault.NoVersion) case e)
statements-fine text stop (token ∷ tokens) case e = elim (cases_Bool (is_separator (word_of text token))) [
  | inl t ↦
      let behind = statements-fine text stop tokens case (sym (cond-true (is_separator (word_of text token)) _ _ t) ∙ e) in
      ((separator-fine (word_of text token) t, behind.0), behind.1)
  | inr t ↦
      let d = sym (cond-false (is_separator (word_of text token)) _ _ t) ∙ e in
      (function-fine text stop token tokens case d, (let f = first-read text stop token tokens case d in case-stop text stop no_settings 0 f.behind case f.reads))
]

-- no token of the list is refused, and no fault ends it
pub record IsClean (text : List ℕ) (list : TokenList) : Type 0 where
  pub fault : list.fault ≡ None
  pub fine : AreFine text list.tokens

pub case-clean : (bytes : List ℕ) (case : CaseMatrices) → case_of bytes ≡ Ok case → IsClean (without_mark bytes) (token_list (without_mark bytes))
unfolding case_of
case-clean bytes case e =
    let f = statements-fine (without_mark bytes) (token_list (without_mark bytes)).fault (token_list (without_mark bytes)).tokens case e in
    record { fault = f.1; fine = f.0 }
