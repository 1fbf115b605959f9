-- How tokens are passed from statement to statement.
use Rattle.std.proofs.Common.{◌≡◌, ℕ, zero, suc, ◌+◌, ◌-◌, ◌≤◌, ◌&&◌, ◌==◌, drop, Result, Ok, Err, subst, Bool, true, false, List, [], ◌∷◌, length, refl, sym, ap, ◌∙◌, arith, Option, None, cond, inl, inr, ◌<◌}
use Rattle.std.specs.Prelude.{is_some, IfOk, IfErr, ◌≢◌}
use Rattle.std.proofs.lemmas.Bool.{cases_Bool}
use Rattle.std.proofs.lemmas.List.{drop-drop, length-drop}
use Rattle.std.proofs.Math.Seq.{drop-length}
use Rattle.case_tokens.specs.declared.Token.{Token}
use Rattle.case_text.specs.declared.CaseFault.{CaseFault}
use Rattle.case_text.specs.declared.CaseFault.TheVariants as fault
use Rattle.case_text.specs.declared.Field.{Field}
use Rattle.case_text.specs.declared.words.Bracket.{Bracket}
use Rattle.case_text.specs.declared.words.Word.{Word}
use Rattle.case_text.specs.declared.words.Word.TheVariants as word
use Rattle.case_text.specs.Words.{word_of, text_of, is_separator}
use Rattle.case_text.specs.Names.{is_version_one, field_of, takes_number, takes_text, takes_bracket}
use Rattle.record_reading.specs.Steps.{and_then}
use Rattle.record_reading.proofs.StepLemmas.{then-ok}
use Rattle.case_text.specs.Nests.{Nest, first_nest, step, behind_brackets}
use Rattle.case_text.specs.Matrices.{CaseMatrices}
use Rattle.case_text.specs.Statements.{Setting, behind_end, ended, plain_value, bracketed, value_by, Read, statement_of, statement_at, matrix_rows, not_version_one}
use Rattle.case_text.specs.Settings.{Settings, with_setting, all_set}
use Rattle.case_text.specs.Cases.{past_separators, case_from, at_end, function_from, statements_from}
use Rattle.scaled_decimal.specs.Reading.{is_number_text}

pub past-separator : (text : List ℕ) (token : Token) (tokens : List Token) → is_separator (word_of text token) ≡ true →
    past_separators text (token ∷ tokens) ≡ past_separators text tokens
unfolding past_separators
past-separator text token tokens e = ap (λ test. cond test (past_separators text tokens) (token ∷ tokens)) e

pub past-other : (text : List ℕ) (token : Token) (tokens : List Token) → is_separator (word_of text token) ≡ false →
    past_separators text (token ∷ tokens) ≡ token ∷ tokens
unfolding past_separators
past-other text token tokens e = ap (λ test. cond test (past_separators text tokens) (token ∷ tokens)) e

pub past-none : (text : List ℕ) → past_separators text [] ≡ []
unfolding past_separators
past-none text = refl

-- what comes first behind what parts statements does not part them
pub past-head : (text : List ℕ) (tokens : List Token) (head : Token) (rest : List Token) → past_separators text tokens ≡ head ∷ rest → is_separator (word_of text head) ≡ false
unfolding past_separators
past-head text [] head rest e = absurd (Prim.cc)
past-head text (token ∷ tokens) head rest e = by_test (is_separator (word_of text token)) refl (past-head text tokens head rest) e where
  by_test : (test : Bool) → is_separator (word_of text token) ≡ test → (past_separators text tokens ≡ head ∷ rest → is_separator (word_of text head) ≡ false) →
      cond test (past_separators text tokens) (token ∷ tokens) ≡ head ∷ rest → is_separator (word_of text head) ≡ false
  by_test true t later e = later e
  by_test false t later e = let same : token ≡ head = Prim.cc in ap (λ (x : Token). is_separator (word_of text x)) (sym same) ∙ t

pub length-past : (text : List ℕ) (tokens : List Token) → length (past_separators text tokens) ≤ length tokens
unfolding past_separators
length-past text [] = Prim.omega arith
length-past text (token ∷ tokens) = by_test (is_separator (word_of text token)) (length-past text tokens) where
  by_test : (test : Bool) → length (past_separators text tokens) ≤ length tokens → length (cond test (past_separators text tokens) (token ∷ tokens)) ≤ length (token ∷ tokens)
  by_test true h = Prim.omega arith
  by_test false h = Prim.omega arith

-- ---- what is left behind a statement is an end of the tokens
pub record IsRest (rest tokens : List Token) : Type 0 where
  pub count : ℕ
  pub within : count ≤ length tokens
  pub is : rest ≡ drop count tokens

rest-all : (tokens : List Token) → IsRest tokens tokens
rest-all tokens = record { count = 0; within = Prim.omega arith; is = refl }

rest-none : (tokens : List Token) → IsRest [] tokens
rest-none tokens = record { count = length tokens; within = Prim.omega arith; is = sym (drop-length tokens) }

rest-more : (rest tokens : List Token) (token : Token) → IsRest rest tokens → IsRest rest (token ∷ tokens)
rest-more rest tokens token h = record { count = suc h.count; within = Prim.omega (arith, h.within); is = h.is }

rest-through : (rest middle tokens : List Token) → IsRest rest middle → IsRest middle tokens → IsRest rest tokens
rest-through rest middle tokens h k = record {
  count = k.count + h.count;
  within = Prim.omega (arith, h.within, k.within, length-drop k.count tokens, ap (λ (x : List Token). length x) k.is);
  is = h.is ∙ ap (drop h.count) k.is ∙ drop-drop h.count k.count tokens;
}

pub allowed : {A : Type 0} (test : Bool) (why : CaseFault) (value : A) (read : Result A CaseFault) → cond test read (Err why) ≡ Ok value → read ≡ Ok value
allowed true why value read e = e
allowed false why value read e = absurd (Prim.cc)

pub refused : {A : Type 0} (test : Bool) (why : CaseFault) (value : A) (read : Result A CaseFault) → cond test (Err why) read ≡ Ok value → read ≡ Ok value
refused true why value read e = absurd (Prim.cc)
refused false why value read e = e

pub same-ok : {A : Type 0} (x y : A) (read : Result A CaseFault) → read ≡ Ok x → read ≡ Ok y → x ≡ y
same-ok x y read e d = Prim.cc

pub no-ok : {A : Type 0} (why : CaseFault) (x : A) (read : Result A CaseFault) → read ≡ Err why → read ≡ Ok x → ⊥
no-ok why x read e d = Prim.cc

rest-end : (text : List ℕ) (line : ℕ) (tokens rest : List Token) → behind_end text line tokens ≡ Ok rest → IsRest rest tokens
unfolding behind_end
rest-end text line [] rest e = subst (λ x. IsRest x []) (same-ok [] rest (behind_end text line []) refl e) (rest-all [])
rest-end text line (token ∷ tokens) rest e =
    subst (λ x. IsRest x (token ∷ tokens)) (same-ok tokens rest (Ok tokens) refl (allowed (is_separator (word_of text token)) (fault.Code line) rest (Ok tokens) e))
    (rest-more tokens tokens token (rest-all tokens))

rest-ended : (text : List ℕ) (line : ℕ) (setting : Setting) (tokens : List Token) (read : Setting × List Token) → ended text line setting tokens ≡ Ok read → IsRest read.1 tokens
rest-ended text line setting tokens read e =
    let p = then-ok (behind_end text line tokens) (λ behind. Ok (setting, behind)) read e in
    subst (λ (x : Setting × List Token). IsRest x.1 tokens) (same-ok (setting, p.0) read _ refl p.2) (rest-end text line tokens p.0 p.1)

rest-plain : (text : List ℕ) (line : ℕ) (field : Option Field) (test : Bool) (tokens : List Token) (read : Setting × List Token) → plain_value text line field test tokens ≡ Ok read → IsRest read.1 tokens
unfolding plain_value
rest-plain text line field test tokens read e =
    rest-ended text line (record { field = field; rows = [] }) tokens read (allowed test (fault.Code line) read (ended text line (record { field = field; rows = [] }) tokens) e)

rest-brackets : (text : List ℕ) (stop : Option ℕ) (numbers : Bool) (nest : Nest) (tokens rest : List Token) → behind_brackets text stop numbers nest tokens ≡ Ok rest → IsRest rest tokens
unfolding behind_brackets
rest-brackets text stop numbers nest [] rest e = absurd (Prim.cc)
rest-brackets text stop numbers nest (token ∷ tokens) rest e =
    let p = then-ok (step text numbers token nest) (λ (next : Nest). cond (length next.brackets == 0) (Ok tokens) (behind_brackets text stop numbers next tokens)) rest e in
    rest-more rest tokens token (either (length (p.0).brackets == 0) (behind_brackets text stop numbers p.0 tokens) p.2 (rest-brackets text stop numbers p.0 tokens rest)) where
      either : (test : Bool) (read : Result (List Token) CaseFault) → cond test (Ok tokens) read ≡ Ok rest → (read ≡ Ok rest → IsRest rest tokens) → IsRest rest tokens
      either true read e h = subst (λ x. IsRest x tokens) (same-ok tokens rest (Ok tokens) refl e) (rest-all tokens)
      either false read e h = h e

rest-bracketed : (text : List ℕ) (stop : Option ℕ) (line : ℕ) (field : Option Field) (opening : Bracket) (tokens : List Token) (read : Setting × List Token) →
    bracketed text stop line field opening tokens ≡ Ok read → IsRest read.1 tokens
unfolding bracketed
rest-bracketed text stop line field opening tokens read e =
    let setting : Setting = record { field = field; rows = matrix_rows field text tokens } in
    let p = then-ok (behind_brackets text stop (is_some field) (first_nest opening) tokens) (λ behind. ended text line setting behind) read
    (allowed (takes_bracket field opening) (fault.Code line) read _ e) in
    rest-through read.1 p.0 tokens (rest-ended text line setting p.0 read p.2) (rest-brackets text stop (is_some field) (first_nest opening) tokens p.0 p.1)

rest-value : (said : Word) (text : List ℕ) (stop : Option ℕ) (line : ℕ) (field : Option Field) (value : Token) (tokens : List Token) (read : Setting × List Token) →
    value_by said text stop line field value tokens ≡ Ok read → IsRest read.1 tokens
unfolding value_by
rest-value word.Run text stop line field value tokens read e = rest-plain text line field (is_number_text (text_of text value) && takes_number field) tokens read e
rest-value word.Quoted text stop line field value tokens read e =
    let p = then-ok (plain_value text line field (takes_text field (text_of text value)) tokens) (not_version_one field (text_of text value)) read e in
    subst (λ (x : Setting × List Token). IsRest x.1 tokens) (same-ok p.0 read (Ok p.0) refl (refused (is_some field && is_version_one (text_of text value)) fault.VersionOne read (Ok p.0) p.2))
    (rest-plain text line field (takes_text field (text_of text value)) tokens p.0 p.1)
rest-value (word.Opening opening) text stop line field value tokens read e = rest-bracketed text stop line field opening tokens read e
rest-value word.LineEnd text stop line field value tokens read e = absurd (no-ok (fault.Code line) read _ refl e)
rest-value word.Block text stop line field value tokens read e = absurd (no-ok (fault.Code line) read _ refl e)
rest-value word.Comma text stop line field value tokens read e = absurd (no-ok (fault.Code line) read _ refl e)
rest-value word.Semicolon text stop line field value tokens read e = absurd (no-ok (fault.Code line) read _ refl e)
rest-value word.Equals text stop line field value tokens read e = absurd (no-ok (fault.Code line) read _ refl e)
rest-value (word.Closing closing) text stop line field value tokens read e = absurd (no-ok (fault.Code line) read _ refl e)
rest-value word.Unclosed text stop line field value tokens read e = absurd (no-ok (fault.Code line) read _ refl e)

pub rest-statement : (field : Option Field) (text : List ℕ) (stop : Option ℕ) (head : Token) (tokens : List Token) (read : Setting × List Token) →
    statement_of field text stop head tokens ≡ Ok read → IsRest read.1 tokens
unfolding statement_of
rest-statement field text stop head [] read e = absurd (no-ok (fault.Code head.line) read _ refl e)
rest-statement field text stop head (equals ∷ []) read e = absurd (no-ok (fault.Code head.line) read _ refl e)
rest-statement field text stop head (equals ∷ value ∷ tokens) read e =
    rest-more read.1 (value ∷ tokens) equals (rest-more read.1 tokens value
    (rest-value (word_of text value) text stop head.line field value tokens read (allowed _ (fault.Code head.line) read _ e)))

-- a statement that was read as one that sets the field that its head names
pub as-read : (text : List ℕ) (stop : Option ℕ) (head : Token) (tokens : List Token) (field : Option Field) (read : Read Setting) → field ≡ field_of (text_of text head) →
    statement_of field text stop head tokens ≡ read → statement_at text stop head tokens ≡ read
as-read text stop head tokens field read e h = ap (λ f. statement_of f text stop head tokens) (sym e) ∙ h

-- ---- from statement to statement
case-wait : (text : List ℕ) (stop : Option ℕ) (settings : Settings) (n : ℕ) (tokens : List Token) → case_from text stop settings n tokens ≡ case_from text stop settings 0 (drop n tokens)
unfolding case_from
case-wait text stop settings zero tokens = refl
case-wait text stop settings (suc n) [] = refl
case-wait text stop settings (suc n) (token ∷ tokens) = case-wait text stop settings n tokens

case-rest : (text : List ℕ) (stop : Option ℕ) (settings : Settings) (rest tokens : List Token) → IsRest rest tokens →
    case_from text stop settings (length tokens - length rest) tokens ≡ case_from text stop settings 0 rest
case-rest text stop settings rest tokens h =
    case-wait text stop settings (length tokens - length rest) tokens
    ∙ ap (λ n. case_from text stop settings 0 (drop n tokens)) (Prim.omega (arith, h.within, length-drop h.count tokens, ap (λ (x : List Token). length x) h.is))
    ∙ ap (case_from text stop settings 0) (sym h.is)

-- a statement, and those behind it
abbrev statement_then : List ℕ → Option ℕ → Settings → Token → List Token → Result CaseMatrices CaseFault
statement_then text stop settings token tokens =
    and_then (statement_at text stop token tokens) (λ read.
    and_then (with_setting settings read.0.field read.0.rows) (λ next.
    case_from text stop next (length tokens - length read.1) tokens))

case-separator : (text : List ℕ) (stop : Option ℕ) (settings : Settings) (token : Token) (tokens : List Token) → is_separator (word_of text token) ≡ true →
    case_from text stop settings 0 (token ∷ tokens) ≡ case_from text stop settings 0 tokens
unfolding case_from
case-separator text stop settings token tokens h = ap (λ test. cond test (case_from text stop settings 0 tokens) (statement_then text stop settings token tokens)) h

case-other : (text : List ℕ) (stop : Option ℕ) (settings : Settings) (token : Token) (tokens : List Token) → is_separator (word_of text token) ≡ false →
    case_from text stop settings 0 (token ∷ tokens) ≡ statement_then text stop settings token tokens
unfolding case_from
case-other text stop settings token tokens h = ap (λ test. cond test (case_from text stop settings 0 tokens) (statement_then text stop settings token tokens)) h

case-past : (text : List ℕ) (stop : Option ℕ) (settings : Settings) (tokens : List Token) → case_from text stop settings 0 tokens ≡ case_from text stop settings 0 (past_separators text tokens)
case-past text stop settings [] = ap (case_from text stop settings 0) (sym (past-none text))
case-past text stop settings (token ∷ tokens) = elim (cases_Bool (is_separator (word_of text token))) [
  | inl h ↦ case-separator text stop settings token tokens h ∙ case-past text stop settings tokens ∙ ap (case_from text stop settings 0) (sym (past-separator text token tokens h))
  | inr h ↦ ap (case_from text stop settings 0) (sym (past-other text token tokens h))
]

-- ---- the loop over the statements, where all of them give whole
pub case-ends : (whole : Result CaseMatrices CaseFault) (text : List ℕ) (stop : Option ℕ) (settings : Settings) (tokens : List Token) →
    whole ≡ case_from text stop settings 0 tokens → past_separators text tokens ≡ [] → whole ≡ at_end stop (all_set settings)
unfolding case_from
case-ends whole text stop settings tokens is none = is ∙ case-past text stop settings tokens ∙ ap (case_from text stop settings 0) none

case-head : (whole : Result CaseMatrices CaseFault) (text : List ℕ) (stop : Option ℕ) (settings : Settings) (tokens left : List Token) (head : Token) →
    whole ≡ case_from text stop settings 0 tokens → past_separators text tokens ≡ head ∷ left → whole ≡ statement_then text stop settings head left
case-head whole text stop settings tokens left head is first =
    is ∙ case-past text stop settings tokens ∙ ap (case_from text stop settings 0) first ∙ case-other text stop settings head left (past-head text tokens head left first)

pub case-goes : (whole : Result CaseMatrices CaseFault) (text : List ℕ) (stop : Option ℕ) (settings next : Settings) (tokens left rest : List Token) (head : Token) (setting : Setting) →
    whole ≡ case_from text stop settings 0 tokens → past_separators text tokens ≡ head ∷ left → statement_at text stop head left ≡ Ok (setting, rest) →
    with_setting settings setting.field setting.rows ≡ Ok next → whole ≡ case_from text stop next 0 rest
case-goes whole text stop settings next tokens left rest head setting is first read set =
    case-head whole text stop settings tokens left head is first
    ∙ ap (λ z. and_then z (λ r. and_then (with_setting settings r.0.field r.0.rows) (λ n. case_from text stop n (length left - length r.1) left))) read
    ∙ ap (λ z. and_then z (λ n. case_from text stop n (length left - length rest) left)) set
    ∙ case-rest text stop next rest left (rest-statement (field_of (text_of text head)) text stop head left (setting, rest) read)

pub case-misread : (whole : Result CaseMatrices CaseFault) (text : List ℕ) (stop : Option ℕ) (settings : Settings) (tokens left : List Token) (head : Token) (why : CaseFault) →
    whole ≡ case_from text stop settings 0 tokens → past_separators text tokens ≡ head ∷ left → statement_at text stop head left ≡ Err why → whole ≡ Err why
case-misread whole text stop settings tokens left head why is first read =
    case-head whole text stop settings tokens left head is first
    ∙ ap (λ z. and_then z (λ r. and_then (with_setting settings r.0.field r.0.rows) (λ n. case_from text stop n (length left - length r.1) left))) read

pub case-unset : (whole : Result CaseMatrices CaseFault) (text : List ℕ) (stop : Option ℕ) (settings : Settings) (tokens left rest : List Token) (head : Token) (setting : Setting) (why : CaseFault) →
    whole ≡ case_from text stop settings 0 tokens → past_separators text tokens ≡ head ∷ left → statement_at text stop head left ≡ Ok (setting, rest) →
    with_setting settings setting.field setting.rows ≡ Err why → whole ≡ Err why
case-unset whole text stop settings tokens left rest head setting why is first read set =
    case-head whole text stop settings tokens left head is first
    ∙ ap (λ z. and_then z (λ r. and_then (with_setting settings r.0.field r.0.rows) (λ n. case_from text stop n (length left - length r.1) left))) read
    ∙ ap (λ z. and_then z (λ n. case_from text stop n (length left - length rest) left)) set

pub fewer : (text : List ℕ) (tokens left rest : List Token) (head : Token) (stop : Option ℕ) (setting : Setting) → past_separators text tokens ≡ head ∷ left →
    statement_at text stop head left ≡ Ok (setting, rest) → length rest < length tokens
fewer text tokens left rest head stop setting first read =
    let h = rest-statement (field_of (text_of text head)) text stop head left (setting, rest) read in
    Prim.omega (arith, length-past text tokens, ap (λ (x : List Token). length x) first, h.within, length-drop h.count left, ap (λ (x : List Token). length x) h.is)

pub as-ok : (read whole : Result CaseMatrices CaseFault) → whole ≡ read → IfOk read (λ case. whole ≡ Ok case)
as-ok (Ok case) whole e = e
as-ok (Err why) whole e = tt

pub as-err : (read whole : Result CaseMatrices CaseFault) → whole ≡ read → IfErr read (λ why. why ≢ fault.Memory → whole ≡ Err why)
as-err (Ok case) whole e = tt
as-err (Err why) whole e = λ _. e

pub case-done : (whole : Result CaseMatrices CaseFault) (text : List ℕ) (stop : Option ℕ) (settings : Settings) (tokens : List Token) →
    whole ≡ case_from text stop settings 0 tokens → past_separators text tokens ≡ [] → stop ≡ None → whole ≡ all_set settings
case-done whole text stop settings tokens is none s = case-ends whole text stop settings tokens is none ∙ ap (λ z. at_end z (all_set settings)) s

pub with-stop : (whole : Result CaseMatrices CaseFault) (text : List ℕ) (stop stop' : Option ℕ) (settings : Settings) (tokens : List Token) →
    whole ≡ case_from text stop settings 0 tokens → stop' ≡ stop → whole ≡ case_from text stop' settings 0 tokens
with-stop whole text stop stop' settings tokens is s = is ∙ ap (λ z. case_from text z settings 0 tokens) (sym s)

-- ---- the first statement
abbrev from_first : List ℕ → Option ℕ → List Token → Result CaseMatrices CaseFault
from_first text stop [] = at_end stop (Err fault.NoVersion)
from_first text stop (head ∷ left) = function_from text stop head left

statements-first : (text : List ℕ) (stop : Option ℕ) (tokens : List Token) → statements_from text stop tokens ≡ from_first text stop (past_separators text tokens)
unfolding statements_from past_separators
statements-first text stop [] = refl
statements-first text stop (token ∷ tokens) = by_test (is_separator (word_of text token)) (statements-first text stop tokens) where
  by_test : (test : Bool) → statements_from text stop tokens ≡ from_first text stop (past_separators text tokens) →
      cond test (statements_from text stop tokens) (function_from text stop token tokens) ≡ from_first text stop (cond test (past_separators text tokens) (token ∷ tokens))
  by_test true h = h
  by_test false h = refl

pub statements-none : (text : List ℕ) (stop : Option ℕ) (tokens : List Token) → past_separators text tokens ≡ [] → statements_from text stop tokens ≡ at_end stop (Err fault.NoVersion)
statements-none text stop tokens e = statements-first text stop tokens ∙ ap (from_first text stop) e

pub statements-head : (text : List ℕ) (stop stop' : Option ℕ) (tokens left : List Token) (head : Token) → past_separators text tokens ≡ head ∷ left → stop' ≡ stop →
    statements_from text stop tokens ≡ function_from text stop' head left
statements-head text stop stop' tokens left head e s = statements-first text stop tokens ∙ ap (from_first text stop) e ∙ ap (λ z. function_from text z head left) (sym s)

pub ok-through : (read : Result CaseMatrices CaseFault) (whole part : Result CaseMatrices CaseFault) → whole ≡ part → IfOk read (λ case. part ≡ Ok case) → IfOk read (λ case. whole ≡ Ok case)
ok-through (Ok case) whole part e h = e ∙ h
ok-through (Err why) whole part e h = tt

pub err-through : (read : Result CaseMatrices CaseFault) (whole part : Result CaseMatrices CaseFault) → whole ≡ part → IfErr read (λ why. why ≢ fault.Memory → part ≡ Err why) →
    IfErr read (λ why. why ≢ fault.Memory → whole ≡ Err why)
err-through (Ok case) whole part e h = tt
err-through (Err why) whole part e h = λ other. e ∙ h other

pub same-stop : (text : List ℕ) (stop stop' : Option ℕ) (settings : Settings) (tokens : List Token) → stop' ≡ stop → case_from text stop settings 0 tokens ≡ case_from text stop' settings 0 tokens
same-stop text stop stop' settings tokens s = ap (λ z. case_from text z settings 0 tokens) (sym s)
