-- What stands between statements is passed over, and ends the statement before it.
use Rattle.std.proofs.Common.{◌≡◌, ◌≢◌, ℕ, ◌-◌, ◌⊎◌, true, false, List, [], ◌∷◌, ◌++◌, length, refl, sym, ap, subst, ◌∙◌, arith, None, Ok, inl, inr, append-nil}
use Rattle.std.proofs.lemmas.Bool.{cond-true, cond-false, false≢true}
use Rattle.case_tokens.specs.declared.Kind.TheVariants as kind
use Rattle.case_tokens.specs.declared.Token.{Token}
use Rattle.case_tokens.specs.Bytes.{is_blank}
use Rattle.case_tokens.specs.TokenLists.{TokenList, with_first}
use Rattle.case_text.specs.Words.{word_of, mark_of, is_separator}
use Rattle.case_text.specs.Settings.{Settings}
use Rattle.case_text.specs.Statements.{behind_end, statement_at}
use Rattle.case_text.specs.Settings.{with_setting}
use Rattle.case_text.specs.Cases.{case_from, statements_from, function_from}
use Rattle.record_reading.specs.Steps.{and_then}
use Rattle.case_grammar.specs.Gaps.{Skip, blank, continued, IsSkip, bare, commented}
use Rattle.case_grammar.specs.Statements.{Part, skipped, line_end, semicolon, comma, IsPart, AreParts, HasEnd, IsApart, IsApartFromEnd, Ending, here, in_comment, in_continuation, ending_text, IsEnding}
use Rattle.case_grammar.proofs.Lines.{IsBlockless}
use Rattle.case_grammar.proofs.Texts.{skip_before, part_before, parts_before, IsRest, rest-part}
use Rattle.case_grammar.proofs.Places.{tokens_at, token_at, token-word, at-end}
use Rattle.case_grammar.proofs.Pieces.{EndsRun, GoesOnWithout, at-comma, at-semicolon, at-comment, at-unended}
use Rattle.case_grammar.proofs.Lexemes.{at-gap_before, at-line_end_before, rest-feed, blank-ends}

-- ---- a token that parts statements
pub case-separator : (text : List ℕ) (settings : Settings) (token : Token) (tokens : List Token) → is_separator (word_of text token) ≡ true →
    case_from text None settings 0 (token ∷ tokens) ≡ case_from text None settings 0 tokens
unfolding case_from
case-separator text settings token tokens h = cond-true (is_separator (word_of text token)) _ _ h

pub case-other : (text : List ℕ) (settings : Settings) (token : Token) (tokens : List Token) → is_separator (word_of text token) ≡ false →
    case_from text None settings 0 (token ∷ tokens)
    ≡ and_then (statement_at text None token tokens) (λ read. and_then (with_setting settings read.0.field read.0.rows) (λ next. case_from text None next (length tokens - length read.1) tokens))
unfolding case_from
case-other text settings token tokens h = cond-false (is_separator (word_of text token)) _ _ h

start-separator : (text : List ℕ) (token : Token) (tokens : List Token) → is_separator (word_of text token) ≡ true → statements_from text None (token ∷ tokens) ≡ statements_from text None tokens
unfolding statements_from
start-separator text token tokens h = cond-true (is_separator (word_of text token)) _ _ h

pub start-other : (text : List ℕ) (token : Token) (tokens : List Token) → is_separator (word_of text token) ≡ false → statements_from text None (token ∷ tokens) ≡ function_from text None token tokens
unfolding statements_from
start-other text token tokens h = cond-false (is_separator (word_of text token)) _ _ h

end-separator : (text : List ℕ) (line : ℕ) (token : Token) (tokens : List Token) → is_separator (word_of text token) ≡ true → behind_end text line (token ∷ tokens) ≡ Ok tokens
unfolding behind_end
end-separator text line token tokens h = cond-true (is_separator (word_of text token)) _ _ h

-- nothing differs from one place to a later one but what parts statements
pub record SameFrom (text : List ℕ) (list list' : TokenList) : Type 0 where
  pub case : (settings : Settings) → case_from text None settings 0 list.tokens ≡ case_from text None settings 0 list'.tokens
  pub start : statements_from text None list.tokens ≡ statements_from text None list'.tokens
  pub fault : list.fault ≡ list'.fault

same-itself : (text : List ℕ) (list list' : TokenList) → list ≡ list' → SameFrom text list list'
same-itself text list list' e = record {
  case = λ settings. ap (λ (l : TokenList). case_from text None settings 0 l.tokens) e;
  start = ap (λ (l : TokenList). statements_from text None l.tokens) e;
  fault = ap (λ (l : TokenList). l.fault) e;
}

same-through : (text : List ℕ) (a b c : TokenList) → SameFrom text a b → SameFrom text b c → SameFrom text a c
same-through text a b c h k = record { case = λ settings. h.case settings ∙ k.case settings; start = h.start ∙ k.start; fault = h.fault ∙ k.fault }

-- the next token parts statements
pub record Parts (text : List ℕ) (list rest : TokenList) : Type 0 where
  pub token : Token
  pub tokens : list ≡ with_first token rest
  pub parts : is_separator (word_of text token) ≡ true

same-parts : (text : List ℕ) (list rest : TokenList) → Parts text list rest → SameFrom text list rest
same-parts text list rest h = record {
  case = λ settings. ap (λ (l : TokenList). case_from text None settings 0 l.tokens) h.tokens ∙ case-separator text settings h.token rest.tokens h.parts;
  start = ap (λ (l : TokenList). statements_from text None l.tokens) h.tokens ∙ start-separator text h.token rest.tokens h.parts;
  fault = ap (λ (l : TokenList). l.fault) h.tokens;
}

-- the statement before ends here
pub record EndsAt (text : List ℕ) (line : ℕ) (list : TokenList) : Type 0 where
  pub tokens : List Token
  pub behind : behind_end text line list.tokens ≡ Ok tokens
  pub same : (settings : Settings) → case_from text None settings 0 list.tokens ≡ case_from text None settings 0 tokens

ends-as : (text : List ℕ) (line : ℕ) (list list' : TokenList) → list ≡ list' → EndsAt text line list' → EndsAt text line list
ends-as text line list list' e h = subst (EndsAt text line) (sym e) h

ends-parts : (text : List ℕ) (line : ℕ) (list rest : TokenList) → Parts text list rest → EndsAt text line list
ends-parts text line list rest h = ends-as text line list (with_first h.token rest) h.tokens (record {
  tokens = rest.tokens;
  behind = end-separator text line h.token rest.tokens h.parts;
  same = λ settings. case-separator text settings h.token rest.tokens h.parts;
})

ends-none : (text : List ℕ) (line : ℕ) (list : TokenList) → list.tokens ≡ [] → EndsAt text line list
unfolding behind_end
ends-none text line list e = record {
  tokens = [];
  behind = ap (behind_end text line) e;
  same = λ settings. ap (case_from text None settings 0) e;
}

module _ (text : List ℕ) (blocks : IsBlockless text) where
  at-skip : (skip : Skip) (rest : List ℕ) → IsSkip skip → IsRest text (skip_before skip rest) → tokens_at text 0 (skip_before skip rest) ≡ tokens_at text 0 rest
  at-skip skip rest h r = at-gap_before text 0 (skip ∷ []) rest (h, tt) r

  parts-line_end : (end : _) (rest : List ℕ) → IsPart (line_end end) → IsRest text (part_before (line_end end) rest) → Parts text (tokens_at text 0 (part_before (line_end end) rest)) (tokens_at text 0 rest)
  parts-line_end end rest h r =
      let s = rest-feed text end rest r in
      record {
        token = token_at text (10 ∷ rest) kind.LineEnd 1;
        tokens = at-line_end_before text 0 end rest blocks h r s;
        parts = ap is_separator (token-word text kind.LineEnd 1 10 rest s);
      }

  parts-semicolon : (rest : List ℕ) → IsRest text (59 ∷ rest) → Parts text (tokens_at text 0 (59 ∷ rest)) (tokens_at text 0 rest)
  unfolding mark_of
  parts-semicolon rest r = record {
    token = token_at text (59 ∷ rest) kind.Mark 1;
    tokens = at-semicolon text 0 rest r;
    parts = ap is_separator (token-word text kind.Mark 1 59 rest r);
  }

  parts-comma : (rest : List ℕ) → IsRest text (44 ∷ rest) → Parts text (tokens_at text 0 (44 ∷ rest)) (tokens_at text 0 rest)
  unfolding mark_of
  parts-comma rest r = record {
    token = token_at text (44 ∷ rest) kind.Mark 1;
    tokens = at-comma text 0 rest r;
    parts = ap is_separator (token-word text kind.Mark 1 44 rest r);
  }

  same-part : (part : Part) (rest : List ℕ) → IsPart part → IsRest text (part_before part rest) → SameFrom text (tokens_at text 0 (part_before part rest)) (tokens_at text 0 rest)
  same-part (skipped skip) rest h r = same-itself text _ _ (at-skip skip rest h r)
  same-part (line_end end) rest h r = same-parts text _ _ (parts-line_end end rest h r)
  same-part semicolon rest h r = same-parts text _ _ (parts-semicolon rest r)
  same-part comma rest h r = same-parts text _ _ (parts-comma rest r)

  pub same-all : (parts : List Part) (rest : List ℕ) → AreParts parts → IsRest text (parts_before parts rest) → SameFrom text (tokens_at text 0 (parts_before parts rest)) (tokens_at text 0 rest)
  same-all [] rest h r = same-itself text _ _ refl
  same-all (part ∷ parts) rest h r =
      same-through text _ (tokens_at text 0 (parts_before parts rest)) _ (same-part part (parts_before parts rest) h.0 r) (same-all parts rest h.1 (rest-part text part (parts_before parts rest) r))

  pub ends-all : (line : ℕ) (parts : List Part) (rest : List ℕ) → AreParts parts → IsRest text (parts_before parts rest) → HasEnd parts ⊎ ((tokens_at text 0 rest).tokens ≡ []) →
      EndsAt text line (tokens_at text 0 (parts_before parts rest))
  ends-all line [] rest h r (inl e) = absurd e
  ends-all line [] rest h r (inr e) = ends-none text line (tokens_at text 0 rest) e
  ends-all line (skipped skip ∷ parts) rest h r e =
      ends-as text line _ (tokens_at text 0 (parts_before parts rest)) (at-skip skip (parts_before parts rest) h.0 r)
      (ends-all line parts rest h.1 (rest-part text (skipped skip) (parts_before parts rest) r) (skip-end e)) where
        skip-end : HasEnd (skipped skip ∷ parts) ⊎ ((tokens_at text 0 rest).tokens ≡ []) → HasEnd parts ⊎ ((tokens_at text 0 rest).tokens ≡ [])
        skip-end (inl k) = inl k
        skip-end (inr k) = inr k
  ends-all line (line_end end ∷ parts) rest h r e = ends-parts text line _ _ (parts-line_end end (parts_before parts rest) h.0 r)
  ends-all line (semicolon ∷ parts) rest h r e = ends-parts text line _ _ (parts-semicolon (parts_before parts rest) r)
  ends-all line (comma ∷ parts) rest h r e = ends-parts text line _ _ (parts-comma (parts_before parts rest) r)

  pub at-ending : (ending : Ending) → IsEnding ending → IsRest text (ending_text ending) → tokens_at text 0 (ending_text ending) ≡ record { tokens = []; fault = None }
  at-ending here h r = at-end text
  at-ending (in_comment c) h r =
      let e : c ++ [] ≡ c = append-nil c in
      ap (λ xs. tokens_at text 0 (37 ∷ xs)) (sym e) ∙ at-comment text 0 c [] blocks (subst (λ xs. IsRest text (37 ∷ xs)) (sym e) r) h tt ∙ at-end text
  at-ending (in_continuation c) h r = at-unended text 0 c r h ∙ at-end text

-- ---- how what stands behind a statement begins
pub word-ends : (parts : List Part) (rest : List ℕ) → AreParts parts → IsApart parts → EndsRun false (parts_before parts rest)
word-ends [] rest h k = absurd k
word-ends (skipped (blank b) ∷ parts) rest h k = blank-ends false b h.0
word-ends (skipped (continued c) ∷ parts) rest h k = absurd k
word-ends (line_end bare ∷ parts) rest h k = refl
word-ends (line_end (commented c) ∷ parts) rest h k = refl
word-ends (semicolon ∷ parts) rest h k = refl
word-ends (comma ∷ parts) rest h k = refl

pub text-ends : (parts : List Part) (ending : Ending) → AreParts parts → IsApartFromEnd parts ending → EndsRun false (parts_before parts (ending_text ending))
text-ends [] here h k = tt
text-ends [] (in_comment c) h k = refl
text-ends [] (in_continuation c) h k = absurd k
text-ends (part ∷ parts) ending h k = word-ends (part ∷ parts) (ending_text ending) h k

unquoted-blank : (quote b : ℕ) → (quote ≡ 39) ⊎ (quote ≡ 34) → is_blank b ≡ true → b ≢ quote
unquoted-blank quote b (inl q) h e = false≢true (subst (λ x. is_blank x ≡ true) (e ∙ q) h)
unquoted-blank quote b (inr q) h e = false≢true (subst (λ x. is_blank x ≡ true) (e ∙ q) h)

unquoted-part : (quote : ℕ) (part : Part) (rest : List ℕ) → (quote ≡ 39) ⊎ (quote ≡ 34) → IsPart part → GoesOnWithout quote (part_before part rest)
unquoted-part quote (skipped (blank b)) rest q h = unquoted-blank quote b q h
unquoted-part quote (skipped (continued c)) rest (inl q) h = λ e. Prim.omega arith
unquoted-part quote (skipped (continued c)) rest (inr q) h = λ e. Prim.omega arith
unquoted-part quote (line_end bare) rest (inl q) h = λ e. Prim.omega arith
unquoted-part quote (line_end bare) rest (inr q) h = λ e. Prim.omega arith
unquoted-part quote (line_end (commented c)) rest (inl q) h = λ e. Prim.omega arith
unquoted-part quote (line_end (commented c)) rest (inr q) h = λ e. Prim.omega arith
unquoted-part quote semicolon rest (inl q) h = λ e. Prim.omega arith
unquoted-part quote semicolon rest (inr q) h = λ e. Prim.omega arith
unquoted-part quote comma rest (inl q) h = λ e. Prim.omega arith
unquoted-part quote comma rest (inr q) h = λ e. Prim.omega arith

pub unquoted-parts : (quote : ℕ) (parts : List Part) (rest : List ℕ) → (quote ≡ 39) ⊎ (quote ≡ 34) → AreParts parts → HasEnd parts → GoesOnWithout quote (parts_before parts rest)
unquoted-parts quote [] rest q h k = absurd k
unquoted-parts quote (part ∷ parts) rest q h k = unquoted-part quote part (parts_before parts rest) q h.0

pub unquoted-ending : (quote : ℕ) (parts : List Part) (ending : Ending) → (quote ≡ 39) ⊎ (quote ≡ 34) → AreParts parts → GoesOnWithout quote (parts_before parts (ending_text ending))
unquoted-ending quote [] here q h = tt
unquoted-ending quote [] (in_comment c) (inl q) h = λ e. Prim.omega arith
unquoted-ending quote [] (in_comment c) (inr q) h = λ e. Prim.omega arith
unquoted-ending quote [] (in_continuation c) (inl q) h = λ e. Prim.omega arith
unquoted-ending quote [] (in_continuation c) (inr q) h = λ e. Prim.omega arith
unquoted-ending quote (part ∷ parts) ending q h = unquoted-part quote part (parts_before parts (ending_text ending)) q h.0

-- no byte order mark begins a text
abbrev pub HasNoMark : List ℕ → Type 0
HasNoMark [] = Unit {0}
HasNoMark (b ∷ rest) = b ≢ 239

pub unmarked-parts : (parts : List Part) (rest : List ℕ) → AreParts parts → HasNoMark rest → HasNoMark (parts_before parts rest)
unmarked-parts [] rest h k = k
unmarked-parts (skipped (blank b) ∷ parts) rest h k = λ e. false≢true (subst (λ x. is_blank x ≡ true) e h.0)
unmarked-parts (skipped (continued c) ∷ parts) rest h k = λ e. Prim.omega arith
unmarked-parts (line_end bare ∷ parts) rest h k = λ e. Prim.omega arith
unmarked-parts (line_end (commented c) ∷ parts) rest h k = λ e. Prim.omega arith
unmarked-parts (semicolon ∷ parts) rest h k = λ e. Prim.omega arith
unmarked-parts (comma ∷ parts) rest h k = λ e. Prim.omega arith
