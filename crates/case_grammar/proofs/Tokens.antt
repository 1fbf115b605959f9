-- The first token of a text outside brackets, and what it is of.
use Rattle.std.proofs.Common.{◌≡◌, ℕ, suc, ◌<◌, Bool, true, false, List, [], ◌∷◌, ◌++◌, length, refl, sym, ap, subst, ◌∙◌, arith, length-append}
use Rattle.std.proofs.lemmas.Bool.{false≢true}
use Rattle.case_tokens.specs.declared.Kind.TheVariants as kind
use Rattle.case_tokens.specs.declared.Token.{Token}
use Rattle.case_tokens.specs.Bytes.{ends_run}
use Rattle.case_tokens.specs.TokenLists.{TokenList, with_first}
use Rattle.case_tokens.specs.Pieces.{piece_at}
use Rattle.case_text.specs.declared.words.Bracket.{Bracket}
use Rattle.case_text.specs.declared.words.Bracket.TheVariants as bracket
use Rattle.case_text.specs.declared.words.Word.{Word}
use Rattle.case_text.specs.declared.words.Word.TheVariants as word
use Rattle.case_text.specs.Words.{word_of, mark_of, text_of, is_separator, is_equals, is_run}
use Rattle.case_grammar.specs.Gaps.{Gap, IsGap, BeginsBlank, IsNotEmpty, blank, continued, LineEnd, bare, commented, line_end_text}
use Rattle.case_grammar.specs.Values.{Character, IsString}
use Rattle.case_grammar.specs.Statements as statements
use Rattle.case_grammar.specs.Statements.{Ending, ending_text, IsEnding, Part, IsPart}
use Rattle.case_grammar.proofs.Texts.{gap_before, line_end_before, line_end-before, characters_before, part_before, IsRest, rest-append, rest-cons}
use Rattle.case_grammar.proofs.Places.{tokens_at, token-word, token-text}
use Rattle.case_grammar.proofs.Pieces.{EndsRun, at-comma, at-semicolon, at-equals, at-square, at-curly, string_rest, string-bytes}
use Rattle.case_grammar.proofs.Fine.{IsClean}
use Rattle.case_grammar.proofs.Seen.{at-any}
use Rattle.case_grammar.proofs.Blocks.{NoneFrom}
use Rattle.case_grammar.proofs.Found.{Found, finds_end, finds_line, finds_mark, finds_string, finds_run, clean-behind}
use Rattle.case_grammar.proofs.Inside.{MarkIs, is_comma, is_semicolon, is_square, is_curly_opening, is_square_end, is_curly_end, is_equals_mark, mark-is, opening_of, shorter-gap}

-- what is left behind the token
pub record Tail (text : List ℕ) (depth : ℕ) (rest behind : List ℕ) (more : List Token) : Type 0 where
  pub tokens : (tokens_at text depth behind).tokens ≡ more
  pub clean : IsClean text (tokens_at text depth behind)
  pub here : IsRest text behind
  pub none : NoneFrom text behind → NoneFrom text rest
  pub shorter : length behind < length rest

pub data TokenIs (text rest : List ℕ) (token : Token) (more : List Token) : Type 0 where
  token_parts : (gap : Gap) (part : Part) (behind : List ℕ) → IsGap gap → IsPart part → statements.HasEnd (part ∷ []) → rest ≡ gap_before gap (part_before part behind) →
      is_separator (word_of text token) ≡ true → Tail text 0 rest behind more → TokenIs text rest token more
  token_equals : (gap : Gap) (behind : List ℕ) → IsGap gap → rest ≡ gap_before gap (61 ∷ behind) → word_of text token ≡ word.Equals → Tail text 0 rest behind more → TokenIs text rest token more
  token_opens : (gap : Gap) (inner : Bracket) (behind : List ℕ) → IsGap gap → rest ≡ gap_before gap (opening_of inner ∷ behind) → word_of text token ≡ word.Opening inner → Tail text 1 rest behind more →
      TokenIs text rest token more
  token_closes : (inner : Bracket) → word_of text token ≡ word.Closing inner → TokenIs text rest token more
  token_string : (gap : Gap) (quote : ℕ) (characters : List Character) (behind : List ℕ) → IsGap gap → IsString quote characters →
      rest ≡ gap_before gap (quote ∷ characters_before quote characters (quote ∷ behind)) → word_of text token ≡ word.Quoted → text_of text token ≡ quote ∷ string_rest quote characters →
      Tail text 0 rest behind more → TokenIs text rest token more
  token_run : (gap : Gap) (b : ℕ) (bytes behind : List ℕ) → IsGap gap → EndsRun false behind → rest ≡ gap_before gap (b ∷ (bytes ++ behind)) → word_of text token ≡ word.Run →
      text_of text token ≡ b ∷ bytes → Tail text 0 rest behind more → TokenIs text rest token more

pub first-token : (a b : Token) (xs ys : List Token) → a ∷ xs ≡ b ∷ ys → a ≡ b
first-token a b xs ys e = Prim.cc

pub other-tokens : (a b : Token) (xs ys : List Token) → a ∷ xs ≡ b ∷ ys → xs ≡ ys
other-tokens a b xs ys e = Prim.cc

-- the token, and the tail behind it
same-token : (text rest : List ℕ) (list behind : TokenList) (first token : Token) (more : List Token) → list ≡ with_first first behind → list.tokens ≡ token ∷ more → first ≡ token
same-token text rest list behind first token more e h = first-token first token behind.tokens more (ap (λ (l : TokenList). l.tokens) (sym e) ∙ h)

tail-of : (text : List ℕ) (depth : ℕ) (rest behind : List ℕ) (list : TokenList) (first token : Token) (more : List Token) → list ≡ with_first first (tokens_at text depth behind) → list.tokens ≡ token ∷ more →
    IsClean text list → IsRest text behind → (NoneFrom text behind → NoneFrom text rest) → length behind < length rest → Tail text depth rest behind more
tail-of text depth rest behind list first token more e h clean r none short = record {
  tokens = other-tokens first token (tokens_at text depth behind).tokens more (ap (λ (l : TokenList). l.tokens) (sym e) ∙ h);
  clean = clean-behind text list first (tokens_at text depth behind) e clean;
  here = r;
  none = none;
  shorter = short;
}

shorter-byte : (rest behind : List ℕ) (gap : Gap) (b : ℕ) → rest ≡ gap_before gap (b ∷ behind) → length behind < length rest
shorter-byte rest behind gap b e = Prim.omega (arith, shorter-gap rest (b ∷ behind) gap e)

mark-token : (text rest : List ℕ) (token : Token) (more : List Token) (gap : Gap) (b : ℕ) (behind : List ℕ) → IsGap gap → rest ≡ gap_before gap (b ∷ behind) → IsRest text (b ∷ behind) →
    tokens_at text 0 rest ≡ tokens_at text 0 (b ∷ behind) → (NoneFrom text behind → NoneFrom text rest) → IsClean text (tokens_at text 0 rest) → (tokens_at text 0 rest).tokens ≡ token ∷ more → MarkIs b →
    TokenIs text rest token more
unfolding mark_of piece_at
mark-token text rest token more gap b behind g is r e none clean h (is_comma k) =
    let r' = subst (λ x. IsRest text (x ∷ behind)) k r in
    let is' = is ∙ ap (λ x. gap_before gap (x ∷ behind)) k in
    let e' = e ∙ ap (λ x. tokens_at text 0 (x ∷ behind)) k ∙ at-comma text 0 behind r' in
    let same = same-token text rest _ _ _ token more e' h in
    token_parts gap statements.comma behind g tt tt is' (ap (λ (t : Token). is_separator (word_of text t)) (sym same) ∙ ap is_separator (token-word text kind.Mark 1 44 behind r'))
    (tail-of text 0 rest behind _ _ token more e' h clean (rest-cons text 44 behind r') none (shorter-byte rest behind gap 44 is'))
mark-token text rest token more gap b behind g is r e none clean h (is_semicolon k) =
    let r' = subst (λ x. IsRest text (x ∷ behind)) k r in
    let is' = is ∙ ap (λ x. gap_before gap (x ∷ behind)) k in
    let e' = e ∙ ap (λ x. tokens_at text 0 (x ∷ behind)) k ∙ at-semicolon text 0 behind r' in
    let same = same-token text rest _ _ _ token more e' h in
    token_parts gap statements.semicolon behind g tt tt is' (ap (λ (t : Token). is_separator (word_of text t)) (sym same) ∙ ap is_separator (token-word text kind.Mark 1 59 behind r'))
    (tail-of text 0 rest behind _ _ token more e' h clean (rest-cons text 59 behind r') none (shorter-byte rest behind gap 59 is'))
mark-token text rest token more gap b behind g is r e none clean h (is_equals_mark k) =
    let r' = subst (λ x. IsRest text (x ∷ behind)) k r in
    let is' = is ∙ ap (λ x. gap_before gap (x ∷ behind)) k in
    let e' = e ∙ ap (λ x. tokens_at text 0 (x ∷ behind)) k ∙ at-equals text behind r' in
    let same = same-token text rest _ _ _ token more e' h in
    token_equals gap behind g is' (ap (word_of text) (sym same) ∙ token-word text kind.Mark 1 61 behind r')
    (tail-of text 0 rest behind _ _ token more e' h clean (rest-cons text 61 behind r') none (shorter-byte rest behind gap 61 is'))
mark-token text rest token more gap b behind g is r e none clean h (is_square k) =
    let r' = subst (λ x. IsRest text (x ∷ behind)) k r in
    let is' = is ∙ ap (λ x. gap_before gap (x ∷ behind)) k in
    let e' = e ∙ ap (λ x. tokens_at text 0 (x ∷ behind)) k ∙ at-square text 0 behind r' in
    let same = same-token text rest _ _ _ token more e' h in
    token_opens gap bracket.Square behind g is' (ap (word_of text) (sym same) ∙ token-word text kind.Mark 1 91 behind r')
    (tail-of text 1 rest behind _ _ token more e' h clean (rest-cons text 91 behind r') none (shorter-byte rest behind gap 91 is'))
mark-token text rest token more gap b behind g is r e none clean h (is_curly_opening k) =
    let r' = subst (λ x. IsRest text (x ∷ behind)) k r in
    let is' = is ∙ ap (λ x. gap_before gap (x ∷ behind)) k in
    let e' = e ∙ ap (λ x. tokens_at text 0 (x ∷ behind)) k ∙ at-curly text 0 behind r' in
    let same = same-token text rest _ _ _ token more e' h in
    token_opens gap bracket.Curly behind g is' (ap (word_of text) (sym same) ∙ token-word text kind.Mark 1 123 behind r')
    (tail-of text 1 rest behind _ _ token more e' h clean (rest-cons text 123 behind r') none (shorter-byte rest behind gap 123 is'))
mark-token text rest token more gap b behind g is r e none clean h (is_square_end k) =
    let r' = subst (λ x. IsRest text (x ∷ behind)) k r in
    let a = at-any text 0 kind.Mark 1 93 behind refl in
    let same = same-token text rest _ _ _ token more (e ∙ ap (λ x. tokens_at text 0 (x ∷ behind)) k ∙ a.1) h in
    token_closes bracket.Square (ap (word_of text) (sym same) ∙ token-word text kind.Mark 1 93 behind r')
mark-token text rest token more gap b behind g is r e none clean h (is_curly_end k) =
    let r' = subst (λ x. IsRest text (x ∷ behind)) k r in
    let a = at-any text 0 kind.Mark 1 125 behind refl in
    let same = same-token text rest _ _ _ token more (e ∙ ap (λ x. tokens_at text 0 (x ∷ behind)) k ∙ a.1) h in
    token_closes bracket.Curly (ap (word_of text) (sym same) ∙ token-word text kind.Mark 1 125 behind r')

no-token : (token : Token) (more : List Token) → [] ≡ token ∷ more → ⊥
no-token token more e = Prim.cc

pub shorter-line : (end : LineEnd) (behind : List ℕ) → length behind < length (line_end_before end behind)
shorter-line end behind = Prim.omega (arith, ap (λ (xs : List ℕ). length xs) (line_end-before end behind), length-append (line_end_text end) behind, some end) where
  some : (end : LineEnd) → 0 < length (line_end_text end)
  some bare = Prim.omega arith
  some (commented c) = Prim.omega arith

pub token-is : (text rest : List ℕ) (token : Token) (more : List Token) → IsClean text (tokens_at text 0 rest) → (tokens_at text 0 rest).tokens ≡ token ∷ more → Found text 0 rest → TokenIs text rest token more
token-is text rest token more clean h (finds_end gap ending g k is zero_depth e none) = absurd (no-token token more (ap (λ (l : TokenList). l.tokens) (sym e) ∙ h))
token-is text rest token more clean h (finds_line gap end behind g k is r e none) =
    let same = same-token text rest _ _ _ token more e h in
    token_parts gap (statements.line_end end) behind g k tt is (ap (λ (t : Token). is_separator (word_of text t)) (sym same) ∙ ap is_separator (token-word text kind.LineEnd 1 10 behind r))
    (tail-of text 0 rest behind _ _ token more e h clean (rest-cons text 10 behind r) none (Prim.omega (arith, shorter-gap rest (line_end_before end behind) gap is, shorter-line end behind)))
token-is text rest token more clean h (finds_mark gap b behind g m is r e none) = mark-token text rest token more gap b behind g is r e none clean h (mark-is false b m)
token-is text rest token more clean h (finds_string gap quote characters behind g s ok is r e none) =
    let same = same-token text rest _ _ _ token more e h in
    let d = string-bytes quote characters behind in
    let r' : IsRest text (quote ∷ (string_rest quote characters ++ behind)) = subst (λ xs. IsRest text (quote ∷ xs)) d r in
    token_string gap quote characters behind g s is
    (ap (word_of text) (sym same) ∙ token-word text kind.Text (suc (length (string_rest quote characters))) quote (string_rest quote characters ++ behind) r')
    (ap (text_of text) (sym same) ∙ token-text text kind.Text (quote ∷ string_rest quote characters) behind r')
    (tail-of text 0 rest behind _ _ token more e h clean (rest-append text (quote ∷ string_rest quote characters) behind r') none
    (Prim.omega (arith, shorter-gap rest (quote ∷ characters_before quote characters (quote ∷ behind)) gap is, ap (λ (xs : List ℕ). length xs) d, length-append (string_rest quote characters) behind)))
token-is text rest token more clean h (finds_run gap b bytes behind g stops ok is r e none) =
    let same = same-token text rest _ _ _ token more e h in
    token_run gap b bytes behind g stops is
    (ap (word_of text) (sym same) ∙ token-word text kind.Run (suc (length bytes)) b (bytes ++ behind) r)
    (ap (text_of text) (sym same) ∙ token-text text kind.Run (b ∷ bytes) behind r)
    (tail-of text 0 rest behind _ _ token more e h clean (rest-append text (b ∷ bytes) behind r) none (Prim.omega (arith, shorter-gap rest (b ∷ (bytes ++ behind)) gap is, length-append bytes behind)))

-- ---- tokens that must be of one kind
pub record EqualsOf (text rest : List ℕ) (more : List Token) : Type 0 where
  pub gap : Gap
  pub behind : List ℕ
  pub gap_is : IsGap gap
  pub is : rest ≡ gap_before gap (61 ∷ behind)
  pub tail : Tail text 0 rest behind more

wrong : {A : Type 0} (test : Word → Bool) (w said : Word) → said ≡ w → test w ≡ false → test said ≡ true → A
wrong test w said e h k = absurd (false≢true (sym h ∙ ap test (sym e) ∙ k))

separator-no-equals : (w : Word) → is_separator w ≡ true → is_equals w ≡ false
separator-no-equals word.Equals h = absurd (false≢true h)
separator-no-equals _ h = refl

separator-no-run : (w : Word) → is_separator w ≡ true → is_run w ≡ false
separator-no-run word.Run h = absurd (false≢true h)
separator-no-run _ h = refl

pub equals-of : (text rest : List ℕ) (token : Token) (more : List Token) → is_equals (word_of text token) ≡ true → TokenIs text rest token more → EqualsOf text rest more
equals-of text rest token more h (token_parts gap part behind g k end is w tail) = absurd (false≢true (sym (separator-no-equals (word_of text token) w) ∙ h))
equals-of text rest token more h (token_equals gap behind g is w tail) = record { gap = gap; behind = behind; gap_is = g; is = is; tail = tail }
equals-of text rest token more h (token_opens gap inner behind g is w tail) = wrong is_equals (word.Opening inner) (word_of text token) w refl h
equals-of text rest token more h (token_closes inner w) = wrong is_equals (word.Closing inner) (word_of text token) w refl h
equals-of text rest token more h (token_string gap quote characters behind g s is w t tail) = wrong is_equals word.Quoted (word_of text token) w refl h
equals-of text rest token more h (token_run gap b bytes behind g stops is w t tail) = wrong is_equals word.Run (word_of text token) w refl h

pub record RunAt (text rest : List ℕ) (token : Token) (more : List Token) : Type 0 where
  pub gap : Gap
  pub b : ℕ
  pub bytes : List ℕ
  pub behind : List ℕ
  pub gap_is : IsGap gap
  pub stops : EndsRun false behind
  pub is : rest ≡ gap_before gap (b ∷ (bytes ++ behind))
  pub text_is : text_of text token ≡ b ∷ bytes
  pub tail : Tail text 0 rest behind more

pub run-at : (text rest : List ℕ) (token : Token) (more : List Token) → is_run (word_of text token) ≡ true → TokenIs text rest token more → RunAt text rest token more
run-at text rest token more h (token_parts gap part behind g k end is w tail) = absurd (false≢true (sym (separator-no-run (word_of text token) w) ∙ h))
run-at text rest token more h (token_equals gap behind g is w tail) = wrong is_run word.Equals (word_of text token) w refl h
run-at text rest token more h (token_opens gap inner behind g is w tail) = wrong is_run (word.Opening inner) (word_of text token) w refl h
run-at text rest token more h (token_closes inner w) = wrong is_run (word.Closing inner) (word_of text token) w refl h
run-at text rest token more h (token_string gap quote characters behind g s is w t tail) = wrong is_run word.Quoted (word_of text token) w refl h
run-at text rest token more h (token_run gap b bytes behind g stops is w t tail) = record { gap = gap; b = b; bytes = bytes; behind = behind; gap_is = g; stops = stops; is = is; text_is = t; tail = tail }

pub record PartOf (text rest : List ℕ) (more : List Token) : Type 0 where
  pub gap : Gap
  pub part : Part
  pub behind : List ℕ
  pub gap_is : IsGap gap
  pub part_is : IsPart part
  pub ends : statements.HasEnd (part ∷ [])
  pub is : rest ≡ gap_before gap (part_before part behind)
  pub tail : Tail text 0 rest behind more

pub part-of : (text rest : List ℕ) (token : Token) (more : List Token) → is_separator (word_of text token) ≡ true → TokenIs text rest token more → PartOf text rest more
part-of text rest token more h (token_parts gap part behind g k end is w tail) = record { gap = gap; part = part; behind = behind; gap_is = g; part_is = k; ends = end; is = is; tail = tail }
part-of text rest token more h (token_equals gap behind g is w tail) = wrong is_separator word.Equals (word_of text token) w refl h
part-of text rest token more h (token_opens gap inner behind g is w tail) = wrong is_separator (word.Opening inner) (word_of text token) w refl h
part-of text rest token more h (token_closes inner w) = wrong is_separator (word.Closing inner) (word_of text token) w refl h
part-of text rest token more h (token_string gap quote characters behind g s is w t tail) = wrong is_separator word.Quoted (word_of text token) w refl h
part-of text rest token more h (token_run gap b bytes behind g stops is w t tail) = wrong is_separator word.Run (word_of text token) w refl h

-- ---- a gap where a word ends
pub gap-blank : (gap : Gap) (rest : List ℕ) → EndsRun false (gap_before gap rest) → BeginsBlank gap
gap-blank [] rest h = tt
gap-blank (blank b ∷ gap) rest h = tt
gap-blank (continued c ∷ gap) rest h = false≢true h

pub gap-some_word : (gap : Gap) (b : ℕ) (rest : List ℕ) → ends_run false b ≡ false → EndsRun false (gap_before gap (b ∷ rest)) → IsNotEmpty gap
gap-some_word [] b rest e h = false≢true (sym e ∙ h)
gap-some_word (skip ∷ gap) b rest e h = tt
