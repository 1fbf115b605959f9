-- What stands inside brackets, token by token.
use Rattle.std.proofs.Common.{◌≡◌, ◌≢◌, ℕ, Bool, true, false, List, [], ◌∷◌, length, refl, sym, ap, ◌∙◌, Option, Result, Ok, Err, eq-eqb, unwrap_or, cond, eqb, inl, inr, ◌⊎◌, take, ◌-◌}
use Rattle.std.proofs.lemmas.Bool.{ne_eqb, false≢true, eqb-true, and_parts}
use Rattle.case_tokens.specs.declared.Token.{Token}
use Rattle.case_text.specs.declared.CaseFault.{CaseFault}
use Rattle.case_text.specs.declared.CaseFault.TheVariants as fault
use Rattle.case_text.specs.declared.nests.Before.TheVariants as before
use Rattle.case_text.specs.declared.words.Bracket.{Bracket}
use Rattle.case_text.specs.declared.words.Bracket.TheVariants as bracket
use Rattle.case_text.specs.declared.words.Word.{Word}
use Rattle.case_text.specs.declared.words.Word.TheVariants as word
use Rattle.case_text.specs.Words.{word_of, is_curly}
use Rattle.case_text.specs.Matrices.{closes}
use Rattle.record_reading.specs.Steps.{and_then}
use Rattle.case_text.specs.Nests.{Nest, innermost, where_allowed, step_by, step, behind_brackets}
use Rattle.case_text.specs.Nesting.{behind_nest}

-- where brackets are open, a token is stepped over
pub nest-step : (text : List ℕ) (stop : Option ℕ) (numbers : Bool) (nest next : Nest) (token : Token) (tokens : List Token) →
    length nest.brackets ≢ 0 → step text numbers token nest ≡ Ok next →
    behind_nest text stop numbers nest (token ∷ tokens) ≡ behind_nest text stop numbers next tokens
unfolding behind_nest behind_brackets
nest-step text stop numbers nest next token tokens some e =
    Prim.rw (ne_eqb (length nest.brackets) 0 some) (ap (λ read. and_then read (λ (n : Nest). cond (eqb (length n.brackets) 0) (Ok tokens) (behind_brackets text stop numbers n tokens))) e)

-- and its fault is the fault of all
pub nest-fault : (text : List ℕ) (stop : Option ℕ) (numbers : Bool) (nest : Nest) (why : CaseFault) (token : Token) (tokens : List Token) →
    length nest.brackets ≢ 0 → step text numbers token nest ≡ Err why →
    behind_nest text stop numbers nest (token ∷ tokens) ≡ Err why
unfolding behind_nest behind_brackets
nest-fault text stop numbers nest why token tokens some e =
    Prim.rw (ne_eqb (length nest.brackets) 0 some) (ap (λ read. and_then read (λ (n : Nest). cond (eqb (length n.brackets) 0) (Ok tokens) (behind_brackets text stop numbers n tokens))) e)

pub nest-stop : (text : List ℕ) (stop : Option ℕ) (numbers : Bool) (nest : Nest) → length nest.brackets ≢ 0 →
    behind_nest text stop numbers nest [] ≡ Err (fault.BadToken (unwrap_or stop (length text)))
unfolding behind_nest behind_brackets
nest-stop text stop numbers nest some = Prim.rw (ne_eqb (length nest.brackets) 0 some) refl

pub nest-closed : (text : List ℕ) (stop : Option ℕ) (numbers : Bool) (nest : Nest) (tokens : List Token) → length nest.brackets ≡ 0 →
    behind_nest text stop numbers nest tokens ≡ Ok tokens
unfolding behind_nest
nest-closed text stop numbers nest tokens closed = Prim.rw (eq-eqb (length nest.brackets) 0 closed) refl

pub nest-opened : (text : List ℕ) (stop : Option ℕ) (numbers : Bool) (nest : Nest) (tokens : List Token) → length nest.brackets ≢ 0 →
    behind_nest text stop numbers nest tokens ≡ behind_brackets text stop numbers nest tokens
unfolding behind_nest
nest-opened text stop numbers nest tokens some = Prim.rw (ne_eqb (length nest.brackets) 0 some) refl

-- ---- the loop over the tokens inside brackets, where all of them give whole
pub not_empty : (n m : ℕ) (empty : Bool) → empty ≡ eqb n 0 → empty ≡ false → n ≡ m → m ≢ 0
not_empty n m empty is some e k = false≢true (sym some ∙ is ∙ eq-eqb n 0 (e ∙ k))

pub all_empty : (n m : ℕ) (empty : Bool) → empty ≡ eqb n 0 → empty ≡ true → n ≡ m → m ≡ 0
all_empty n m empty is none e = sym e ∙ eqb-true n 0 (sym is ∙ none)

pub nest-more : (whole : Result (List Token) CaseFault) (text : List ℕ) (stop stop' : Option ℕ) (numbers : Bool) (nest next : Nest) (token : Token) (tokens rest : List Token) →
    whole ≡ behind_nest text stop numbers nest tokens → tokens ≡ token ∷ rest → length nest.brackets ≢ 0 → step text numbers token nest ≡ Ok next → stop' ≡ stop →
    whole ≡ behind_nest text stop' numbers next rest
nest-more whole text stop stop' numbers nest next token tokens rest is left some e s =
    is ∙ ap (behind_nest text stop numbers nest) left ∙ nest-step text stop numbers nest next token rest some e ∙ ap (λ z. behind_nest text z numbers next rest) (sym s)

pub nest-fails : (whole : Result (List Token) CaseFault) (text : List ℕ) (stop : Option ℕ) (numbers : Bool) (nest : Nest) (why : CaseFault) (token : Token) (tokens rest : List Token) →
    whole ≡ behind_nest text stop numbers nest tokens → tokens ≡ token ∷ rest → length nest.brackets ≢ 0 → step text numbers token nest ≡ Err why → whole ≡ Err why
nest-fails whole text stop numbers nest why token tokens rest is left some e =
    is ∙ ap (behind_nest text stop numbers nest) left ∙ nest-fault text stop numbers nest why token rest some e

pub nest-stops : (whole : Result (List Token) CaseFault) (text : List ℕ) (stop : Option ℕ) (numbers : Bool) (nest : Nest) (why : CaseFault) (tokens : List Token) →
    whole ≡ behind_nest text stop numbers nest tokens → tokens ≡ [] → length nest.brackets ≢ 0 → why ≡ fault.BadToken (unwrap_or stop (length text)) → whole ≡ Err why
nest-stops whole text stop numbers nest why tokens is left some e =
    is ∙ ap (behind_nest text stop numbers nest) left ∙ nest-stop text stop numbers nest some ∙ ap (λ (w : CaseFault). Err w) (sym e)

-- ---- among numbers alone no further bracket is opened
allowed-ok : (allowed : Bool) (start : ℕ) (nest next : Nest) → where_allowed allowed start nest ≡ Ok next → (allowed ≡ true) × (nest ≡ next)
allowed-ok true start nest next e = (refl, Prim.cc)
allowed-ok false start nest next e = absurd (Prim.cc)

ok-same : (nest next : Nest) (read : Result Nest CaseFault) → read ≡ Ok nest → read ≡ Ok next → nest ≡ next
ok-same nest next read d e = Prim.cc

err-no : (why : CaseFault) (next : Nest) → Err why ≡ Ok next → ⊥
err-no why next e = Prim.cc

-- The bracket is closed by this word, or stays the only one.
abbrev pub ClosesOrStays : Word → Nest → Type 0
ClosesOrStays said next = ((closes said ≡ true) × (next.brackets ≡ [])) ⊎ ((closes said ≡ false) × (next.brackets ≡ bracket.Square ∷ []))

flat-by : (said : Word) (token : Token) (nest next : Nest) → nest.brackets ≡ bracket.Square ∷ [] → step_by said true token nest ≡ Ok next → ClosesOrStays said next
unfolding step_by
flat-by word.LineEnd token nest next flat e = inr (refl, ap (λ (n : Nest). n.brackets) (sym (ok-same _ next _ refl e)) ∙ flat)
flat-by word.Semicolon token nest next flat e = inr (refl, ap (λ (n : Nest). n.brackets) (sym (ok-same _ next _ refl e)) ∙ flat)
flat-by word.Block token nest next flat e = absurd (err-no _ next e)
flat-by word.Equals token nest next flat e = absurd (err-no _ next e)
flat-by word.Unclosed token nest next flat e = absurd (err-no _ next e)
flat-by word.Comma token nest next flat e = inr (refl, ap (λ (n : Nest). n.brackets) (sym (allowed-ok _ _ _ next e).1) ∙ flat)
flat-by word.Run token nest next flat e = inr (refl, ap (λ (n : Nest). n.brackets) (sym (allowed-ok _ _ _ next e).1) ∙ flat)
flat-by word.Quoted token nest next flat e =
    absurd (false≢true (allowed-ok false token.span.start (record { brackets = nest.brackets; before = before.Element token.span.end }) next e).0)
flat-by (word.Opening opening) token nest next flat e =
    absurd (false≢true (sym (ap (λ brackets. is_curly (innermost brackets)) flat) ∙ (and_parts _ _ (and_parts _ _ (allowed-ok _ _ _ next e).0).0).0))
flat-by (word.Closing closing) token nest next flat e =
    inl (refl, ap (λ (n : Nest). n.brackets) (sym (allowed-ok _ _ _ next e).1) ∙ ap (λ (brackets : List Bracket). take (length brackets - 1) brackets) flat)

pub flat-step : (text : List ℕ) (token : Token) (nest next : Nest) → nest.brackets ≡ bracket.Square ∷ [] → step text true token nest ≡ Ok next → ClosesOrStays (word_of text token) next
flat-step text token nest next flat e = flat-by (word_of text token) token nest next flat e

-- brackets that are none or the one of a matrix, and are some
pub only-square : (brackets : List Bracket) → (brackets ≡ []) ⊎ (brackets ≡ bracket.Square ∷ []) → length brackets ≢ 0 → brackets ≡ bracket.Square ∷ []
only-square brackets (inl none) some = absurd (some (ap (λ (b : List Bracket). length b) none))
only-square brackets (inr flat) some = flat

pub stays-flat : (said : Word) (next : Nest) → ClosesOrStays said next → (next.brackets ≡ []) ⊎ (next.brackets ≡ bracket.Square ∷ [])
stays-flat said next (inl (c, none)) = inl none
stays-flat said next (inr (c, flat)) = inr flat
