-- What stands inside brackets by the grammar is read up to the bracket that closes it.
use Rattle.std.proofs.Common.{◌≡◌, ℕ, suc, ◌+◌, ◌-◌, ◌<◌, ◌==◌, ◌&&◌, Bool, true, false, not, List, [], ◌∷◌, ◌++◌, length, take, get_or, refl, sym, ap, subst, ◌∙◌, arith, None, Ok, cond, length-append, get_or-append-add}
use Rattle.std.proofs.lemmas.List.{take_at}
use Rattle.std.proofs.lemmas.Bool.{ne_eqb, cond-true, cond-false, and_from, lt-ltb}
use Rattle.scaled_decimal.specs.Decimal.{IsNumber}
use Rattle.case_tokens.specs.declared.Kind.TheVariants as kind
use Rattle.case_tokens.specs.declared.Token.{Token}
use Rattle.case_tokens.specs.Pieces.{is_parted}
use Rattle.case_tokens.specs.TokenLists.{TokenList, is_inside, with_first}
use Rattle.case_text.specs.declared.nests.Before.{Before}
use Rattle.case_text.specs.declared.nests.Before.TheVariants as before
use Rattle.case_text.specs.declared.words.Bracket.{Bracket}
use Rattle.case_text.specs.declared.words.Bracket.TheVariants as bracket
use Rattle.case_text.specs.declared.words.Word.{Word}
use Rattle.case_text.specs.declared.words.Word.TheVariants as word
use Rattle.case_text.specs.Words.{word_of, word_by, mark_of, is_curly, same_bracket}
use Rattle.case_text.specs.Nests as nests
use Rattle.case_text.specs.Nests.{Nest, innermost, where_allowed, step_by, step, behind_brackets}
use Rattle.record_reading.specs.Steps.{and_then}
use Rattle.case_grammar.specs.Gaps.{Gap, IsGap, BeginsBlank, IsNotEmpty, blank, continued, bare, commented}
use Rattle.case_grammar.specs.Values.{Value, number, string, matrix, cells, Rows, last_row, row_then, Row, no_elements, elements, More, no_more, last_comma, after_blanks, after_comma, RowEnd, semicolon, line_end, IsRowEnd, Content, numbers, plain, anything, HoldsStrings, HoldsBrackets, IsBehind, IsElement, AreRows, IsRow, IsMore, IsString, Character}
use Rattle.case_grammar.proofs.Lines.{IsBlockless}
use Rattle.case_grammar.proofs.Texts.{gap_before, row_end_before, value_before, rows_before, row_before, more_before, characters_before, IsRest, rest-cons, rest-gap, rest-row_end, rest-value, rest-rows, rest-row}
use Rattle.case_grammar.proofs.Places.{opened, tokens_at, token_at, place_of, place-more, token-word}
use Rattle.case_grammar.proofs.Pieces.{at-comma, at-semicolon, at-square, at-curly, at-square_end, at-curly_end, at-string, string_rest, string-bytes}
use Rattle.case_grammar.proofs.Lexemes.{at-gap_before, place-gap, gap-some, at-line_end_before, rest-feed, parted-ends, parted-unquoted, parted-gap, blank-follows, at-number}
use Rattle.case_grammar.proofs.Words.{number-some}

-- what is left behind the bracket that closes the value
pub record Closes (text : List ℕ) (only : Bool) (nest : Nest) (list left : TokenList) : Type 0 where
  pub behind : behind_brackets text None only nest list.tokens ≡ Ok left.tokens
  pub fault : list.fault ≡ left.fault

pub closes-at : (text : List ℕ) (only : Bool) (nest : Nest) (list list' left : TokenList) → list ≡ list' → Closes text only nest list' left → Closes text only nest list left
closes-at text only nest list list' left e h = subst (λ (l : TokenList). Closes text only nest l left) (sym e) h

pub closes-token : (text : List ℕ) (only : Bool) (nest next : Nest) (token : Token) (list left : TokenList) → step text only token nest ≡ Ok next → (length next.brackets == 0) ≡ false →
    Closes text only next list left → Closes text only nest (with_first token list) left
unfolding behind_brackets
closes-token text only nest next token list left e more h = record {
  behind =
      ap (λ read. and_then read (λ (n : Nest). cond (length n.brackets == 0) (Ok list.tokens) (behind_brackets text None only n list.tokens))) e
      ∙ cond-false (length next.brackets == 0) _ _ more ∙ h.behind;
  fault = h.fault;
}

pub closes-last : (text : List ℕ) (only : Bool) (nest next : Nest) (token : Token) (list : TokenList) → step text only token nest ≡ Ok next → (length next.brackets == 0) ≡ true →
    Closes text only nest (with_first token list) list
unfolding behind_brackets
closes-last text only nest next token list e none = record {
  behind =
      ap (λ read. and_then read (λ (n : Nest). cond (length n.brackets == 0) (Ok list.tokens) (behind_brackets text None only n list.tokens))) e
      ∙ cond-true (length next.brackets == 0) _ _ none;
  fault = refl;
}

-- ---- the innermost bracket
abbrev pub nest_in : List Bracket → Bracket → Before → Nest
nest_in outer b before = record { brackets = outer ++ b ∷ []; before = before }

pub some-brackets : (outer : List Bracket) (b : Bracket) → (length (outer ++ b ∷ []) == 0) ≡ false
some-brackets outer b = ne_eqb (length (outer ++ b ∷ [])) 0 (λ e. Prim.omega (arith, length-append outer (b ∷ [])))

pub innermost-is : (outer : List Bracket) (b : Bracket) → innermost (outer ++ b ∷ []) ≡ b
innermost-is outer b =
    ap (λ n. get_or (outer ++ b ∷ []) n bracket.Square) (Prim.omega (arith, length-append outer (b ∷ [])))
    ∙ get_or-append-add outer (b ∷ []) 0 bracket.Square

pub outer-is : (outer : List Bracket) (b : Bracket) → take (length (outer ++ b ∷ []) - 1) (outer ++ b ∷ []) ≡ outer
outer-is outer b = take_at outer (b ∷ []) (length (outer ++ b ∷ []) - 1) (Prim.omega (arith, length-append outer (b ∷ [])))

-- ---- steps
pub step-word : (text : List ℕ) (only : Bool) (token : Token) (nest : Nest) (w : Word) → word_of text token ≡ w → step text only token nest ≡ step_by w only token nest
step-word text only token nest w e = ap (λ (x : Word). step_by x only token nest) e

pub allowed : (test : Bool) (start : ℕ) (nest : Nest) → test ≡ true → where_allowed test start nest ≡ Ok nest
allowed test start nest h = cond-true test _ _ h

pub step-comma : (text : List ℕ) (only : Bool) (token : Token) (outer : List Bracket) (b : Bracket) (at : ℕ) → word_of text token ≡ word.Comma →
    step text only token (nest_in outer b (before.Element at)) ≡ Ok (nest_in outer b before.Comma)
unfolding step_by
step-comma text only token outer b at e = step-word text only token (nest_in outer b (before.Element at)) word.Comma e

pub step-line : (text : List ℕ) (only : Bool) (token : Token) (outer : List Bracket) (b : Bracket) (st : Before) → word_of text token ≡ word.LineEnd →
    step text only token (nest_in outer b st) ≡ Ok (nest_in outer b before.Nothing)
unfolding step_by
step-line text only token outer b st e = step-word text only token (nest_in outer b st) word.LineEnd e

pub step-semicolon : (text : List ℕ) (only : Bool) (token : Token) (outer : List Bracket) (b : Bracket) (st : Before) → word_of text token ≡ word.Semicolon →
    step text only token (nest_in outer b st) ≡ Ok (nest_in outer b before.Nothing)
unfolding step_by
step-semicolon text only token outer b st e = step-word text only token (nest_in outer b st) word.Semicolon e

pub step-run : (text : List ℕ) (only : Bool) (token : Token) (outer : List Bracket) (b : Bracket) (st : Before) → word_of text token ≡ word.Run → nests.is_parted st token.span.start ≡ true →
    step text only token (nest_in outer b st) ≡ Ok (nest_in outer b (before.Element token.span.end))
unfolding step_by
step-run text only token outer b st e parted = step-word text only token (nest_in outer b st) word.Run e ∙ allowed _ token.span.start _ parted

pub step-string : (text : List ℕ) (only : Bool) (token : Token) (outer : List Bracket) (b : Bracket) (st : Before) → word_of text token ≡ word.Quoted → only ≡ false → nests.is_parted st token.span.start ≡ true →
    step text only token (nest_in outer b st) ≡ Ok (nest_in outer b (before.Element token.span.end))
unfolding step_by
step-string text only token outer b st e none parted =
    step-word text only token (nest_in outer b st) word.Quoted e ∙ allowed _ token.span.start _ (and_from (not only) _ (ap not none) parted)

pub step-opening : (text : List ℕ) (only : Bool) (token : Token) (outer : List Bracket) (b inner : Bracket) (st : Before) → word_of text token ≡ word.Opening inner →
    b ≡ bracket.Curly → length outer + 1 < 8 → nests.is_parted st token.span.start ≡ true →
    step text only token (nest_in outer b st) ≡ Ok (nest_in (outer ++ b ∷ []) inner before.Nothing)
unfolding step_by
step-opening text only token outer b inner st e curly few parted =
    step-word text only token (nest_in outer b st) (word.Opening inner) e
    ∙ allowed _ token.span.start _ (and_from _ _ (and_from _ _ (ap is_curly (innermost-is outer b ∙ curly)) (lt-ltb (length (outer ++ b ∷ [])) 8 (Prim.omega (arith, length-append outer (b ∷ []))))) parted)

same-itself : (b : Bracket) → same_bracket b b ≡ true
same-itself bracket.Square = refl
same-itself bracket.Curly = refl

pub step-closing : (text : List ℕ) (only : Bool) (token : Token) (outer : List Bracket) (b : Bracket) (st : Before) → word_of text token ≡ word.Closing b →
    step text only token (nest_in outer b st) ≡ Ok (record { brackets = outer; before = before.Element token.span.end })
unfolding step_by
step-closing text only token outer b st e =
    step-word text only token (nest_in outer b st) (word.Closing b) e
    ∙ allowed _ token.span.start _ (ap (same_bracket b) (innermost-is outer b) ∙ same-itself b)
    ∙ ap (λ (bs : List Bracket). Ok (record { brackets = bs; before = before.Element token.span.end })) (outer-is outer b)

-- ---- which elements may stand
pub record Allows (content : Content) (only : Bool) (b : Bracket) : Type 0 where
  pub strings : HoldsStrings content → only ≡ false
  pub brackets : HoldsBrackets content → (b ≡ bracket.Curly) × (only ≡ false)

pub allows-plain : (only : Bool) → only ≡ false → Allows plain only bracket.Square
allows-plain only e = record { strings = λ _. e; brackets = λ h. absurd h }

pub allows-anything : (only : Bool) → only ≡ false → Allows anything only bracket.Curly
allows-anything only e = record { strings = λ _. e; brackets = λ _. (refl, e) }

pub allows-numbers : Allows numbers true bracket.Square
allows-numbers = record { strings = λ h. absurd h; brackets = λ h. absurd h }

-- what is behind a value, where it must be parted from that
abbrev pub IsFollowed : Value → List ℕ → Type 0
IsFollowed (number text) rest = is_parted rest ≡ true
IsFollowed (string quote characters) rest = is_parted rest ≡ true
IsFollowed (matrix rows) rest = Unit {0}
IsFollowed (cells rows) rest = Unit {0}

followed-gap : (value : Value) (gap : Gap) (rest : List ℕ) → IsGap gap → IsBehind value gap → is_parted rest ≡ true → IsFollowed value (gap_before gap rest)
followed-gap (number text) gap rest h k p = parted-gap gap rest h k p
followed-gap (string quote characters) gap rest h k p = parted-gap gap rest h k p
followed-gap (matrix rows) gap rest h k p = tt
followed-gap (cells rows) gap rest h k p = tt

parted-some : (gap : Gap) (rest : List ℕ) → IsGap gap → BeginsBlank gap → IsNotEmpty gap → is_parted (gap_before gap rest) ≡ true
parted-some [] rest h k some = absurd some
parted-some (blank b ∷ gap) rest h k some = blank-follows b h.0
parted-some (continued c ∷ gap) rest h k some = absurd k

followed-blanks : (value : Value) (gap : Gap) (rest : List ℕ) → IsGap gap → IsBehind value gap → IsNotEmpty gap → IsFollowed value (gap_before gap rest)
followed-blanks (number text) gap rest h k some = parted-some gap rest h k some
followed-blanks (string quote characters) gap rest h k some = parted-some gap rest h k some
followed-blanks (matrix rows) gap rest h k some = tt
followed-blanks (cells rows) gap rest h k some = tt

pub followed-more : (content : Content) (depth : ℕ) (value : Value) (more : More) (rest : List ℕ) → IsMore content depth value more → is_parted rest ≡ true → IsFollowed value (more_before more rest)
followed-more content depth value (no_more gap) rest h p = followed-gap value gap rest h.0 h.1 p
followed-more content depth value (last_comma front behind) rest h p = followed-gap value front (44 ∷ gap_before behind rest) h.0 h.1 refl
followed-more content depth value (after_blanks gap next more) rest h p = followed-blanks value gap (value_before next (more_before more rest)) h.0 h.1 h.2
followed-more content depth value (after_comma front behind next more) rest h p = followed-gap value front (44 ∷ gap_before behind (value_before next (more_before more rest))) h.0 h.1 refl

-- an element may begin in this state
pub parted-opens : (at start : ℕ) → at < start → nests.is_parted (before.Element at) start ≡ true
parted-opens at start h = lt-ltb at start h

pub row-parted : (end : RowEnd) (rest : List ℕ) → is_parted (row_end_before end rest) ≡ true
row-parted semicolon rest = refl
row-parted (line_end bare) rest = refl
row-parted (line_end (commented c)) rest = refl

module _ (text : List ℕ) (blocks : IsBlockless text) (only : Bool) where
  -- ---- the parts of rows
  closes-gap : (nest : Nest) (depth : ℕ) (gap : Gap) (rest : List ℕ) (left : TokenList) → IsGap gap → IsRest text (gap_before gap rest) →
      Closes text only nest (tokens_at text depth rest) left → Closes text only nest (tokens_at text depth (gap_before gap rest)) left
  closes-gap nest depth gap rest left h r k = closes-at text only nest _ _ left (at-gap_before text depth gap rest h r) k

  closes-row_end : (outer : List Bracket) (b : Bracket) (st : Before) (depth : ℕ) (end : RowEnd) (rest : List ℕ) (left : TokenList) → IsRowEnd end → IsRest text (row_end_before end rest) →
      Closes text only (nest_in outer b before.Nothing) (tokens_at text depth rest) left → Closes text only (nest_in outer b st) (tokens_at text depth (row_end_before end rest)) left
  unfolding mark_of
  closes-row_end outer b st depth semicolon rest left h r k =
      closes-at text only (nest_in outer b st) _ _ left (at-semicolon text depth rest r)
      (closes-token text only (nest_in outer b st) (nest_in outer b before.Nothing) _ _ left
      (step-semicolon text only (token_at text (59 ∷ rest) kind.Mark 1) outer b st (token-word text kind.Mark 1 59 rest r)) (some-brackets outer b) k)
  closes-row_end outer b st depth (line_end end) rest left h r k =
      let s = rest-feed text end rest r in
      closes-at text only (nest_in outer b st) _ _ left (at-line_end_before text depth end rest blocks h r s)
      (closes-token text only (nest_in outer b st) (nest_in outer b before.Nothing) _ _ left
      (step-line text only (token_at text (10 ∷ rest) kind.LineEnd 1) outer b st (token-word text kind.LineEnd 1 10 rest s)) (some-brackets outer b) k)

  closes-comma : (outer : List Bracket) (b : Bracket) (at depth : ℕ) (rest : List ℕ) (left : TokenList) → IsRest text (44 ∷ rest) →
      Closes text only (nest_in outer b before.Comma) (tokens_at text depth rest) left → Closes text only (nest_in outer b (before.Element at)) (tokens_at text depth (44 ∷ rest)) left
  unfolding mark_of
  closes-comma outer b at depth rest left r k =
      closes-at text only (nest_in outer b (before.Element at)) _ _ left (at-comma text depth rest r)
      (closes-token text only (nest_in outer b (before.Element at)) (nest_in outer b before.Comma) _ _ left
      (step-comma text only (token_at text (44 ∷ rest) kind.Mark 1) outer b at (token-word text kind.Mark 1 44 rest r)) (some-brackets outer b) k)

  -- ---- elements
  -- the state behind bytes that are an element
  closes-element : (outer : List Bracket) (b : Bracket) (bytes rest : List ℕ) (list left : TokenList) → IsRest text (bytes ++ rest) →
      Closes text only (nest_in outer b (before.Element (place_of text rest))) list left →
      Closes text only (nest_in outer b (before.Element (place_of text (bytes ++ rest) + length bytes))) list left
  closes-element outer b bytes rest list left r k = subst (λ at. Closes text only (nest_in outer b (before.Element at)) list left) (place-more text bytes rest r) k

  closes-number : (outer : List Bracket) (b : Bracket) (st : Before) (depth : ℕ) (digits rest : List ℕ) (left : TokenList) → IsNumber digits → IsRest text (digits ++ rest) → is_parted rest ≡ true →
      nests.is_parted st (place_of text (digits ++ rest)) ≡ true →
      Closes text only (nest_in outer b (before.Element (place_of text rest))) (tokens_at text depth rest) left → Closes text only (nest_in outer b st) (tokens_at text depth (digits ++ rest)) left
  closes-number outer b st depth [] rest left h r p parted k = absurd (number-some [] h refl)
  closes-number outer b st depth (d ∷ digits) rest left h r p parted k =
      closes-at text only (nest_in outer b st) _ _ left (at-number text depth (d ∷ digits) rest r h (parted-ends (is_inside (opened depth)) rest p) (λ _. p))
      (closes-token text only (nest_in outer b st) (nest_in outer b (before.Element (place_of text (d ∷ (digits ++ rest)) + suc (length digits)))) _ _ left
      (step-run text only (token_at text (d ∷ (digits ++ rest)) kind.Run (suc (length digits))) outer b st (token-word text kind.Run (suc (length digits)) d (digits ++ rest) r) parted)
      (some-brackets outer b) (closes-element outer b (d ∷ digits) rest _ left r k))

  closes-string : (outer : List Bracket) (b : Bracket) (st : Before) (depth quote : ℕ) (characters : List Character) (rest : List ℕ) (left : TokenList) → IsString quote characters → only ≡ false →
      IsRest text (quote ∷ characters_before quote characters (quote ∷ rest)) → is_parted rest ≡ true →
      nests.is_parted st (place_of text (quote ∷ characters_before quote characters (quote ∷ rest))) ≡ true →
      Closes text only (nest_in outer b (before.Element (place_of text rest))) (tokens_at text depth rest) left →
      Closes text only (nest_in outer b st) (tokens_at text depth (quote ∷ characters_before quote characters (quote ∷ rest))) left
  closes-string outer b st depth quote characters rest left h none r p parted k =
      let e = string-bytes quote characters rest in
      let bytes : List ℕ = string_rest quote characters in
      let s : IsRest text (quote ∷ (bytes ++ rest)) = subst (λ xs. IsRest text (quote ∷ xs)) e r in
      closes-at text only (nest_in outer b st) _ _ left (at-string text depth quote characters rest r h (parted-unquoted quote rest h.0 p) (not-parted (is_inside (opened depth)) (is_parted rest) p))
      (closes-token text only (nest_in outer b st) (nest_in outer b (before.Element (place_of text (quote ∷ (bytes ++ rest)) + suc (length bytes)))) _ _ left
      (step-string text only (token_at text (quote ∷ (bytes ++ rest)) kind.Text (suc (length bytes))) outer b st (token-word text kind.Text (suc (length bytes)) quote (bytes ++ rest) s) none
      (subst (λ xs. nests.is_parted st (place_of text (quote ∷ xs)) ≡ true) e parted))
      (some-brackets outer b) (closes-element outer b (quote ∷ bytes) rest _ left s k)) where
        not-parted : (x y : Bool) → y ≡ true → (x && not y) ≡ false
        not-parted true y h = ap not h
        not-parted false y h = refl

  -- a bracket is closed, and another is open still
  closes-inner : (outer : List Bracket) (b inner : Bracket) (st : Before) (closing : ℕ) (depth : ℕ) (rest : List ℕ) (left : TokenList) → IsRest text (closing ∷ rest) →
      word_by kind.Mark closing ≡ word.Closing inner →
      tokens_at text (suc depth) (closing ∷ rest) ≡ with_first (token_at text (closing ∷ rest) kind.Mark 1) (tokens_at text depth rest) →
      Closes text only (nest_in outer b (before.Element (place_of text rest))) (tokens_at text depth rest) left →
      Closes text only (nest_in (outer ++ b ∷ []) inner st) (tokens_at text (suc depth) (closing ∷ rest)) left
  closes-inner outer b inner st closing depth rest left r w e k =
      closes-at text only (nest_in (outer ++ b ∷ []) inner st) _ _ left e
      (closes-token text only (nest_in (outer ++ b ∷ []) inner st) (nest_in outer b (before.Element (place_of text (closing ∷ rest) + 1))) _ _ left
      (step-closing text only (token_at text (closing ∷ rest) kind.Mark 1) (outer ++ b ∷ []) inner st (token-word text kind.Mark 1 closing rest r ∙ w))
      (some-brackets outer b) (closes-element outer b (closing ∷ []) rest _ left r k))

  -- a bracket is opened
  closes-opening : (outer : List Bracket) (b inner : Bracket) (st : Before) (opening depth : ℕ) (rest : List ℕ) (left : TokenList) → IsRest text (opening ∷ rest) →
      word_by kind.Mark opening ≡ word.Opening inner → b ≡ bracket.Curly → length outer + 1 < 8 → nests.is_parted st (place_of text (opening ∷ rest)) ≡ true →
      tokens_at text depth (opening ∷ rest) ≡ with_first (token_at text (opening ∷ rest) kind.Mark 1) (tokens_at text (suc depth) rest) →
      Closes text only (nest_in (outer ++ b ∷ []) inner before.Nothing) (tokens_at text (suc depth) rest) left → Closes text only (nest_in outer b st) (tokens_at text depth (opening ∷ rest)) left
  closes-opening outer b inner st opening depth rest left r w curly few parted e k =
      closes-at text only (nest_in outer b st) _ _ left e
      (closes-token text only (nest_in outer b st) (nest_in (outer ++ b ∷ []) inner before.Nothing) _ _ left
      (step-opening text only (token_at text (opening ∷ rest) kind.Mark 1) outer b inner st (token-word text kind.Mark 1 opening rest r ∙ w) curly few parted)
      (some-brackets (outer ++ b ∷ []) inner) k)

  -- ---- trees
  mutual
    unfolding mark_of

    pub closes-value : (value : Value) (content : Content) (depth : ℕ) (outer : List Bracket) (b : Bracket) (st : Before) (rest : List ℕ) (left : TokenList) →
        IsElement content depth value → Allows content only b → depth ≡ length outer + 1 → IsRest text (value_before value rest) → IsFollowed value rest →
        nests.is_parted st (place_of text (value_before value rest)) ≡ true →
        Closes text only (nest_in outer b (before.Element (place_of text rest))) (tokens_at text depth rest) left → Closes text only (nest_in outer b st) (tokens_at text depth (value_before value rest)) left
    closes-value (number digits) content depth outer b st rest left h allows level r followed parted k = closes-number outer b st depth digits rest left h r followed parted k
    closes-value (string quote characters) content depth outer b st rest left h allows level r followed parted k =
        closes-string outer b st depth quote characters rest left h.1 (allows.strings h.0) r followed parted k
    closes-value (matrix rows) content depth outer b st rest left h allows level r followed parted k =
        let inner = rest-cons text 91 (rows_before rows (93 ∷ rest)) r in
        let closing = rest-rows text rows (93 ∷ rest) inner in
        closes-opening outer b bracket.Square st 91 depth (rows_before rows (93 ∷ rest)) left r refl (allows.brackets h.0).0 (Prim.omega (arith, h.1)) parted (at-square text depth (rows_before rows (93 ∷ rest)) r)
        (subst (λ d. Closes text only (nest_in (outer ++ b ∷ []) bracket.Square before.Nothing) (tokens_at text d (rows_before rows (93 ∷ rest))) left) (Prim.omega arith)
        (closes-rows rows plain (depth + 1) (outer ++ b ∷ []) bracket.Square (93 ∷ rest) left h.2 (allows-plain only (allows.brackets h.0).1) (Prim.omega (arith, length-append outer (b ∷ []))) inner refl
        (λ s. subst (λ d. Closes text only (nest_in (outer ++ b ∷ []) bracket.Square s) (tokens_at text d (93 ∷ rest)) left) (Prim.omega arith)
        (closes-inner outer b bracket.Square s 93 depth rest left closing refl (at-square_end text depth rest closing) k))))
    closes-value (cells rows) content depth outer b st rest left h allows level r followed parted k =
        let inner = rest-cons text 123 (rows_before rows (125 ∷ rest)) r in
        let closing = rest-rows text rows (125 ∷ rest) inner in
        closes-opening outer b bracket.Curly st 123 depth (rows_before rows (125 ∷ rest)) left r refl (allows.brackets h.0).0 (Prim.omega (arith, h.1)) parted (at-curly text depth (rows_before rows (125 ∷ rest)) r)
        (subst (λ d. Closes text only (nest_in (outer ++ b ∷ []) bracket.Curly before.Nothing) (tokens_at text d (rows_before rows (125 ∷ rest))) left) (Prim.omega arith)
        (closes-rows rows anything (depth + 1) (outer ++ b ∷ []) bracket.Curly (125 ∷ rest) left h.2 (allows-anything only (allows.brackets h.0).1) (Prim.omega (arith, length-append outer (b ∷ []))) inner refl
        (λ s. subst (λ d. Closes text only (nest_in (outer ++ b ∷ []) bracket.Curly s) (tokens_at text d (125 ∷ rest)) left) (Prim.omega arith)
        (closes-inner outer b bracket.Curly s 125 depth rest left closing refl (at-curly_end text depth rest closing) k))))

    pub closes-rows : (rows : Rows) (content : Content) (depth : ℕ) (outer : List Bracket) (b : Bracket) (rest : List ℕ) (left : TokenList) →
        AreRows content depth rows → Allows content only b → depth ≡ length outer + 1 → IsRest text (rows_before rows rest) → is_parted rest ≡ true →
        ((s : Before) → Closes text only (nest_in outer b s) (tokens_at text depth rest) left) →
        Closes text only (nest_in outer b before.Nothing) (tokens_at text depth (rows_before rows rest)) left
    closes-rows (last_row row) content depth outer b rest left h allows level r p k = closes-row row content depth outer b before.Nothing rest left h allows level r p (λ start. refl) k
    closes-rows (row_then row end rows) content depth outer b rest left h allows level r p k =
        let behind : List ℕ = row_end_before end (rows_before rows rest) in
        let s = rest-row text row behind r in
        closes-row row content depth outer b before.Nothing behind left h.0 allows level r (row-parted end (rows_before rows rest)) (λ start. refl)
        (λ st. closes-row_end outer b st depth end (rows_before rows rest) left h.1 s
        (closes-rows rows content depth outer b rest left h.2 allows level (rest-row_end text end (rows_before rows rest) s) p k))

    pub closes-row : (row : Row) (content : Content) (depth : ℕ) (outer : List Bracket) (b : Bracket) (st : Before) (rest : List ℕ) (left : TokenList) →
        IsRow content depth row → Allows content only b → depth ≡ length outer + 1 → IsRest text (row_before row rest) → is_parted rest ≡ true →
        ((start : ℕ) → nests.is_parted st start ≡ true) →
        ((s : Before) → Closes text only (nest_in outer b s) (tokens_at text depth rest) left) →
        Closes text only (nest_in outer b st) (tokens_at text depth (row_before row rest)) left
    closes-row (no_elements gap) content depth outer b st rest left h allows level r p opens k = closes-gap (nest_in outer b st) depth gap rest left h r (k st)
    closes-row (elements gap value more) content depth outer b st rest left h allows level r p opens k =
        let behind : List ℕ = more_before more rest in
        let s = rest-gap text gap (value_before value behind) r in
        let t = rest-value text value behind s in
        closes-gap (nest_in outer b st) depth gap (value_before value behind) left h.0 r
        (closes-value value content depth outer b st behind left h.1 allows level s (followed-more content depth value more rest h.2 p) (opens (place_of text (value_before value behind)))
        (closes-more more content depth value outer b (place_of text behind) rest left h.2 allows level t p refl k))

    pub closes-more : (more : More) (content : Content) (depth : ℕ) (element : Value) (outer : List Bracket) (b : Bracket) (at : ℕ) (rest : List ℕ) (left : TokenList) →
        IsMore content depth element more → Allows content only b → depth ≡ length outer + 1 → IsRest text (more_before more rest) → is_parted rest ≡ true →
        at ≡ place_of text (more_before more rest) →
        ((s : Before) → Closes text only (nest_in outer b s) (tokens_at text depth rest) left) →
        Closes text only (nest_in outer b (before.Element at)) (tokens_at text depth (more_before more rest)) left
    closes-more (no_more gap) content depth element outer b at rest left h allows level r p here k =
        closes-gap (nest_in outer b (before.Element at)) depth gap rest left h.0 r (k (before.Element at))
    closes-more (last_comma front behind) content depth element outer b at rest left h allows level r p here k =
        let s = rest-gap text front (44 ∷ gap_before behind rest) r in
        let t = rest-cons text 44 (gap_before behind rest) s in
        closes-gap (nest_in outer b (before.Element at)) depth front (44 ∷ gap_before behind rest) left h.0 r
        (closes-comma outer b at depth (gap_before behind rest) left s (closes-gap (nest_in outer b before.Comma) depth behind rest left h.2 t (k before.Comma)))
    closes-more (after_blanks gap value more) content depth element outer b at rest left h allows level r p here k =
        let behind : List ℕ = more_before more rest in
        let s = rest-gap text gap (value_before value behind) r in
        let t = rest-value text value behind s in
        closes-gap (nest_in outer b (before.Element at)) depth gap (value_before value behind) left h.0 r
        (closes-value value content depth outer b (before.Element at) behind left h.3 allows level s (followed-more content depth value more rest h.4 p)
        (parted-opens at (place_of text (value_before value behind)) (Prim.omega (arith, place-gap text gap (value_before value behind) r, gap-some gap h.2)))
        (closes-more more content depth value outer b (place_of text behind) rest left h.4 allows level t p refl k))
    closes-more (after_comma front behind value more) content depth element outer b at rest left h allows level r p here k =
        let further : List ℕ = more_before more rest in
        let s = rest-gap text front (44 ∷ gap_before behind (value_before value further)) r in
        let t = rest-cons text 44 (gap_before behind (value_before value further)) s in
        let u = rest-gap text behind (value_before value further) t in
        let v = rest-value text value further u in
        closes-gap (nest_in outer b (before.Element at)) depth front (44 ∷ gap_before behind (value_before value further)) left h.0 r
        (closes-comma outer b at depth (gap_before behind (value_before value further)) left s
        (closes-gap (nest_in outer b before.Comma) depth behind (value_before value further) left h.2 t
        (closes-value value content depth outer b before.Comma further left h.3 allows level u (followed-more content depth value more rest h.4 p) refl
        (closes-more more content depth value outer b (place_of text further) rest left h.4 allows level v p refl k))))
