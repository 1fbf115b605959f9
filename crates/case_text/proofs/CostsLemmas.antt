-- How the rows of `gencost` are read, from statement to statement.
use Rattle.std.proofs.Common.{◌≡◌, ℕ, zero, suc, ◌-◌, ◌<◌, drop, Result, Ok, Err, Bool, true, false, List, [], ◌∷◌, length, refl, sym, ap, ◌∙◌, arith, Option, Some, None, cond, inl, inr}
use Rattle.std.proofs.lemmas.Bool.{cases_Bool}
use Rattle.std.proofs.lemmas.List.{length-drop}
use Rattle.case_tokens.specs.declared.Token.{Token}
use Rattle.case_text.specs.declared.CaseFault.{CaseFault}
use Rattle.case_text.specs.declared.CaseFault.TheVariants as case_fault
use Rattle.case_text.specs.declared.Field.{Field}
use Rattle.case_text.specs.declared.costs.CostsFault.{CostsFault}
use Rattle.case_text.specs.declared.costs.CostsFault.TheVariants as fault
use Rattle.case_text.specs.Words.{word_of, text_of, is_separator}
use Rattle.record_reading.specs.Steps.{and_then, or_as}
use Rattle.case_text.specs.Matrices.{Rows, CaseMatrices}
use Rattle.case_text.specs.Statements.{Setting, Read, statement_of}
use Rattle.case_text.specs.Cases.{past_separators, at_end}
use Rattle.case_text.specs.Costs.{costs_field, with_costs, costs_at_end, costs_from}
use Rattle.case_text.proofs.StatementLemmas.{past-separator, past-other, past-none, past-head, length-past, IsRest, rest-statement}

-- what reading the rows gives
abbrev Costs : Type 0
Costs = Result (Option Rows) CostsFault

-- ---- the end of the tokens
pub stops : (stop : Option ℕ) (why : CaseFault) → ((case : Result CaseMatrices CaseFault) → at_end stop case ≡ Err why) → (costs : Option Rows) → costs_at_end stop costs ≡ Err (fault.Text why)
stops None why h costs =
    let first : Err case_fault.NoVersion ≡ Err case_fault.VersionOne = h (Err case_fault.NoVersion) ∙ sym (h (Err case_fault.VersionOne)) in
    absurd (Prim.cc)
stops (Some at) why h costs =
    let told : Err (case_fault.BadToken at) ≡ Err why = h (Err case_fault.NoVersion) in
    let same : case_fault.BadToken at ≡ why = Prim.cc in
    ap (λ e. Err (fault.Text e)) same

-- ---- from statement to statement
costs-wait : (text : List ℕ) (stop : Option ℕ) (costs : Option Rows) (n : ℕ) (tokens : List Token) → costs_from text stop costs n tokens ≡ costs_from text stop costs 0 (drop n tokens)
unfolding costs_from
costs-wait text stop costs zero tokens = refl
costs-wait text stop costs (suc n) [] = refl
costs-wait text stop costs (suc n) (token ∷ tokens) = costs-wait text stop costs n tokens

costs-rest : (text : List ℕ) (stop : Option ℕ) (costs : Option Rows) (rest tokens : List Token) → IsRest rest tokens →
    costs_from text stop costs (length tokens - length rest) tokens ≡ costs_from text stop costs 0 rest
costs-rest text stop costs rest tokens h =
    costs-wait text stop costs (length tokens - length rest) tokens
    ∙ ap (λ n. costs_from text stop costs 0 (drop n tokens)) (Prim.omega (arith, h.within, length-drop h.count tokens, ap (λ (x : List Token). length x) h.is))
    ∙ ap (costs_from text stop costs 0) (sym h.is)

-- a statement, and those behind it
abbrev statement_then : List ℕ → Option ℕ → Option Rows → Token → List Token → Costs
statement_then text stop costs token tokens =
    and_then (or_as fault.Text (statement_of (costs_field (text_of text token)) text stop token tokens)) (λ read.
    and_then (with_costs costs read.0) (λ next.
    costs_from text stop next (length tokens - length read.1) tokens))

costs-separator : (text : List ℕ) (stop : Option ℕ) (costs : Option Rows) (token : Token) (tokens : List Token) → is_separator (word_of text token) ≡ true →
    costs_from text stop costs 0 (token ∷ tokens) ≡ costs_from text stop costs 0 tokens
unfolding costs_from
costs-separator text stop costs token tokens h = ap (λ test. cond test (costs_from text stop costs 0 tokens) (statement_then text stop costs token tokens)) h

costs-other : (text : List ℕ) (stop : Option ℕ) (costs : Option Rows) (token : Token) (tokens : List Token) → is_separator (word_of text token) ≡ false →
    costs_from text stop costs 0 (token ∷ tokens) ≡ statement_then text stop costs token tokens
unfolding costs_from
costs-other text stop costs token tokens h = ap (λ test. cond test (costs_from text stop costs 0 tokens) (statement_then text stop costs token tokens)) h

costs-past : (text : List ℕ) (stop : Option ℕ) (costs : Option Rows) (tokens : List Token) → costs_from text stop costs 0 tokens ≡ costs_from text stop costs 0 (past_separators text tokens)
costs-past text stop costs [] = ap (costs_from text stop costs 0) (sym (past-none text))
costs-past text stop costs (token ∷ tokens) = elim (cases_Bool (is_separator (word_of text token))) [
  | inl h ↦ costs-separator text stop costs token tokens h ∙ costs-past text stop costs tokens ∙ ap (costs_from text stop costs 0) (sym (past-separator text token tokens h))
  | inr h ↦ ap (costs_from text stop costs 0) (sym (past-other text token tokens h))
]

-- ---- the loop over the statements, where all of them give whole
pub costs-end : (whole : Costs) (text : List ℕ) (stop : Option ℕ) (costs : Option Rows) (tokens : List Token) →
    whole ≡ costs_from text stop costs 0 tokens → past_separators text tokens ≡ [] → whole ≡ costs_at_end stop costs
unfolding costs_from
costs-end whole text stop costs tokens is none = is ∙ costs-past text stop costs tokens ∙ ap (costs_from text stop costs 0) none

costs-head : (whole : Costs) (text : List ℕ) (stop : Option ℕ) (costs : Option Rows) (tokens left : List Token) (head : Token) →
    whole ≡ costs_from text stop costs 0 tokens → past_separators text tokens ≡ head ∷ left → whole ≡ statement_then text stop costs head left
costs-head whole text stop costs tokens left head is first =
    is ∙ costs-past text stop costs tokens ∙ ap (costs_from text stop costs 0) first ∙ costs-other text stop costs head left (past-head text tokens head left first)

-- a statement that was read as one that sets the field that its head names
pub as-costs : (text : List ℕ) (stop : Option ℕ) (head : Token) (tokens : List Token) (field : Option Field) (read : Read Setting) → field ≡ costs_field (text_of text head) →
    statement_of field text stop head tokens ≡ read → statement_of (costs_field (text_of text head)) text stop head tokens ≡ read
as-costs text stop head tokens field read e h = ap (λ f. statement_of f text stop head tokens) (sym e) ∙ h

costs-read : (whole : Costs) (text : List ℕ) (stop : Option ℕ) (costs : Option Rows) (tokens left rest : List Token) (head : Token) (setting : Setting) →
    whole ≡ costs_from text stop costs 0 tokens → past_separators text tokens ≡ head ∷ left →
    statement_of (costs_field (text_of text head)) text stop head left ≡ Ok (setting, rest) →
    whole ≡ and_then (with_costs costs setting) (λ next. costs_from text stop next (length left - length rest) left)
costs-read whole text stop costs tokens left rest head setting is first read =
    costs-head whole text stop costs tokens left head is first
    ∙ ap (λ z. and_then (or_as fault.Text z) (λ r. and_then (with_costs costs r.0) (λ n. costs_from text stop n (length left - length r.1) left))) read

pub costs-go : (whole : Costs) (text : List ℕ) (stop : Option ℕ) (costs next : Option Rows) (tokens left rest : List Token) (head : Token) (setting : Setting) →
    whole ≡ costs_from text stop costs 0 tokens → past_separators text tokens ≡ head ∷ left →
    statement_of (costs_field (text_of text head)) text stop head left ≡ Ok (setting, rest) → with_costs costs setting ≡ Ok next → whole ≡ costs_from text stop next 0 rest
costs-go whole text stop costs next tokens left rest head setting is first read set =
    costs-read whole text stop costs tokens left rest head setting is first read
    ∙ ap (λ z. and_then z (λ n. costs_from text stop n (length left - length rest) left)) set
    ∙ costs-rest text stop next rest left (rest-statement (costs_field (text_of text head)) text stop head left (setting, rest) read)

pub costs-unset : (whole : Costs) (text : List ℕ) (stop : Option ℕ) (costs : Option Rows) (tokens left rest : List Token) (head : Token) (setting : Setting) (why : CostsFault) →
    whole ≡ costs_from text stop costs 0 tokens → past_separators text tokens ≡ head ∷ left →
    statement_of (costs_field (text_of text head)) text stop head left ≡ Ok (setting, rest) → with_costs costs setting ≡ Err why → whole ≡ Err why
costs-unset whole text stop costs tokens left rest head setting why is first read set =
    costs-read whole text stop costs tokens left rest head setting is first read
    ∙ ap (λ z. and_then z (λ n. costs_from text stop n (length left - length rest) left)) set

pub costs-misread : (whole : Costs) (text : List ℕ) (stop : Option ℕ) (costs : Option Rows) (tokens left : List Token) (head : Token) (why : CaseFault) →
    whole ≡ costs_from text stop costs 0 tokens → past_separators text tokens ≡ head ∷ left →
    statement_of (costs_field (text_of text head)) text stop head left ≡ Err why → whole ≡ Err (fault.Text why)
costs-misread whole text stop costs tokens left head why is first read =
    costs-head whole text stop costs tokens left head is first
    ∙ ap (λ z. and_then (or_as fault.Text z) (λ r. and_then (with_costs costs r.0) (λ n. costs_from text stop n (length left - length r.1) left))) read

pub costs-fewer : (text : List ℕ) (tokens left rest : List Token) (head : Token) (stop : Option ℕ) (field : Option Field) (setting : Setting) → past_separators text tokens ≡ head ∷ left →
    statement_of field text stop head left ≡ Ok (setting, rest) → length rest < length tokens
costs-fewer text tokens left rest head stop field setting first read =
    let h = rest-statement field text stop head left (setting, rest) read in
    Prim.omega (arith, length-past text tokens, ap (λ (x : List Token). length x) first, h.within, length-drop h.count left, ap (λ (x : List Token). length x) h.is)

pub costs-stop : (whole : Costs) (text : List ℕ) (stop stop' : Option ℕ) (costs : Option Rows) (tokens : List Token) →
    whole ≡ costs_from text stop costs 0 tokens → stop' ≡ stop → whole ≡ costs_from text stop' costs 0 tokens
costs-stop whole text stop stop' costs tokens is s = is ∙ ap (λ z. costs_from text z costs 0 tokens) (sym s)

-- ---- the first statement
pub first-none : (text : List ℕ) (stop : Option ℕ) (tokens : List Token) → past_separators text tokens ≡ [] → costs_from text stop None 4 (past_separators text tokens) ≡ costs_at_end stop None
unfolding costs_from
first-none text stop tokens none = ap (costs_from text stop None 4) none

pub first-four : (text : List ℕ) (stop : Option ℕ) (tokens left : List Token) (head : Token) (a b c : List Token) → past_separators text tokens ≡ head ∷ left →
    a ≡ drop 1 left → b ≡ drop 1 a → c ≡ drop 1 b → costs_from text stop None 4 (past_separators text tokens) ≡ costs_from text stop None 0 c
unfolding costs_from
first-four text stop tokens left head a b c first e1 e2 e3 =
    ap (costs_from text stop None 4) first
    ∙ costs-wait text stop None 3 left
    ∙ ap (costs_from text stop None 0) (sym (e3 ∙ ap (drop 1) (e2 ∙ ap (drop 1) e1) ∙ drop-three left)) where
      drop-three : (xs : List Token) → drop 1 (drop 1 (drop 1 xs)) ≡ drop 3 xs
      drop-three [] = refl
      drop-three (x ∷ []) = refl
      drop-three (x ∷ y ∷ xs) = refl

pub first-empty : (text : List ℕ) (stop : Option ℕ) (tokens left : List Token) → past_separators text tokens ≡ [] → left ≡ [] →
    costs_from text stop None 4 (past_separators text tokens) ≡ costs_from text stop None 0 left
unfolding costs_from
first-empty text stop tokens left none e = ap (costs_from text stop None 4) none ∙ ap (costs_from text stop None 0) (sym e)
