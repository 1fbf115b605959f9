-- What is read inside brackets stands there by the grammar.
use Rattle.std.proofs.Common.{◌≡◌, ℕ, zero, suc, ◌+◌, ◌<◌, ◌≤◌, ◌==◌, ◌&&◌, ◌||◌, ◌⊎◌, Bool, true, false, not, List, [], ◌∷◌, ◌++◌, length, refl, sym, ap, subst, ◌∙◌, arith, None, Ok, cond, inl, inr, length-append}
use Rattle.std.specs.Prelude.{nat_lt}
use Rattle.std.proofs.lemmas.Bool.{cases_lt, or_cases, and_parts, eqb-true, false≢true, cond-false, lt-ltb, le-ltb}
use Rattle.scaled_decimal.specs.Reading.{is_number_text}
use Rattle.scaled_decimal.proofs.ReadingLaws.{is_number_text-IsNumber}
use Rattle.case_tokens.specs.declared.Kind.TheVariants as kind
use Rattle.case_tokens.specs.declared.Token.{Token}
use Rattle.case_tokens.specs.Bytes.{is_mark, is_parting, is_opening, is_closing}
use Rattle.case_tokens.specs.Pieces.{is_parted}
use Rattle.case_tokens.specs.TokenLists.{TokenList, is_inside, with_first}
use Rattle.case_text.specs.declared.CaseFault.TheVariants as fault
use Rattle.case_text.specs.declared.nests.Before.{Before}
use Rattle.case_text.specs.declared.nests.Before.TheVariants as before
use Rattle.case_text.specs.declared.words.Bracket.{Bracket}
use Rattle.case_text.specs.declared.words.Bracket.TheVariants as bracket
use Rattle.case_text.specs.declared.words.Word.TheVariants as word
use Rattle.case_text.specs.Words.{word_of, word_by, mark_of, is_curly, same_bracket}
use Rattle.case_text.specs.Nests as nests
use Rattle.case_text.specs.Nests.{Nest, innermost, where_allowed, step_by, step, behind_brackets}
use Rattle.case_text.proofs.StatementLemmas.{no-ok}
use Rattle.record_reading.specs.Steps.{and_then}
use Rattle.case_grammar.specs.Gaps.{Gap, gap_text, IsGap, BeginsBlank, IsNotEmpty, blank, continued, LineEnd, bare, commented, line_end_text}
use Rattle.case_grammar.specs.Values.{Value, number, string, matrix, cells, Rows, last_row, row_then, Row, no_elements, elements, More, no_more, last_comma, after_blanks, after_comma, RowEnd, semicolon, line_end, IsRowEnd, Content, numbers, plain, anything, HoldsStrings, IsBehind, IsElement, AreRows, IsRow, IsMore, IsString, Character, rows_text}
use Rattle.case_grammar.proofs.Texts.{gap_before, row_end_before, line_end_before, value_before, rows_before, row_before, more_before, characters_before, rows-before, gap-before, line_end-before, IsRest, rest-append, rest-cons}
use Rattle.case_grammar.proofs.Places.{opened, tokens_at, token_at, place_of, place-more, token-word}
use Rattle.case_grammar.proofs.Pieces.{at-comma, at-semicolon, at-square, at-curly, at-square_end, at-curly_end, string_rest, string-bytes}
use Rattle.case_grammar.proofs.Lexemes.{place-gap}
use Rattle.case_grammar.proofs.Closing.{nest_in, some-brackets, innermost-is, step-word, step-comma, step-line, step-semicolon, step-run, step-string, step-opening, step-closing, IsFollowed}
use Rattle.case_grammar.proofs.Fine.{IsClean}
use Rattle.case_grammar.proofs.Blocks.{NoneFrom}
use Rattle.case_grammar.proofs.Found.{Found, finds_end, finds_line, finds_mark, finds_string, finds_run, found, clean-behind}

-- ---- from token to token
behind-step : (text : List ℕ) (only : Bool) (nest next : Nest) (token : Token) (tokens : List Token) → step text only token nest ≡ Ok next → (length next.brackets == 0) ≡ false →
    behind_brackets text None only nest (token ∷ tokens) ≡ behind_brackets text None only next tokens
unfolding behind_brackets
behind-step text only nest next token tokens e more =
    ap (λ read. and_then read (λ (n : Nest). cond (length n.brackets == 0) (Ok tokens) (behind_brackets text None only n tokens))) e ∙ cond-false (length next.brackets == 0) _ _ more

behind-last : (text : List ℕ) (only : Bool) (nest next : Nest) (token : Token) (tokens : List Token) → step text only token nest ≡ Ok next →
    behind_brackets text None only nest (token ∷ tokens) ≡ cond (length next.brackets == 0) (Ok tokens) (behind_brackets text None only next tokens)
unfolding behind_brackets
behind-last text only nest next token tokens e =
    ap (λ read. and_then read (λ (n : Nest). cond (length n.brackets == 0) (Ok tokens) (behind_brackets text None only n tokens))) e

behind-fault : (text : List ℕ) (only : Bool) (nest : Nest) (token : Token) (tokens left : List Token) (test : Bool) (next : Nest) → step text only token nest ≡ where_allowed test token.span.start next →
    behind_brackets text None only nest (token ∷ tokens) ≡ Ok left → test ≡ true
unfolding behind_brackets
behind-fault text only nest token tokens left test next s e = by_test test refl where
  by_test : (t : Bool) → test ≡ t → test ≡ true
  by_test true h = h
  by_test false h = absurd (no-ok (fault.BadToken token.span.start) left (behind_brackets text None only nest (token ∷ tokens))
      (ap (λ read. and_then read (λ (n : Nest). cond (length n.brackets == 0) (Ok tokens) (behind_brackets text None only n tokens))) (s ∙ ap (λ x. where_allowed x token.span.start next) h)) e)

-- ---- which marks there are
pub data MarkIs (b : ℕ) : Type 0 where
  is_comma : b ≡ 44 → MarkIs b
  is_semicolon : b ≡ 59 → MarkIs b
  is_square : b ≡ 91 → MarkIs b
  is_curly_opening : b ≡ 123 → MarkIs b
  is_square_end : b ≡ 93 → MarkIs b
  is_curly_end : b ≡ 125 → MarkIs b
  is_equals_mark : b ≡ 61 → MarkIs b

pub mark-is : (inside : Bool) (b : ℕ) → is_mark inside b ≡ true → MarkIs b
mark-is inside b h = elim (or_cases (is_parting b || is_opening b || is_closing b) (b == 61 && not inside) h) [
  | inl k ↦ elim (or_cases (is_parting b || is_opening b) (is_closing b) k) [
    | inl l ↦ elim (or_cases (is_parting b) (is_opening b) l) [
      | inl m ↦ elim (or_cases (b == 44) (b == 59) m) [ inl e ↦ is_comma (eqb-true b 44 e) | inr e ↦ is_semicolon (eqb-true b 59 e) ]
      | inr m ↦ elim (or_cases (b == 91) (b == 123) m) [ inl e ↦ is_square (eqb-true b 91 e) | inr e ↦ is_curly_opening (eqb-true b 123 e) ]
    ]
    | inr l ↦ elim (or_cases (b == 93) (b == 125) l) [ inl e ↦ is_square_end (eqb-true b 93 e) | inr e ↦ is_curly_end (eqb-true b 125 e) ]
  ]
  | inr k ↦ is_equals_mark (eqb-true b 61 (and_parts (b == 61) (not inside) k).0)
]

pub inside-true : (depth : ℕ) → is_inside (opened (suc depth)) ≡ true
inside-true depth = lt-ltb 0 (suc depth) (Prim.omega arith)

equals-outside : (depth : ℕ) → is_mark (is_inside (opened (suc depth))) 61 ≡ true → ⊥
equals-outside depth h = false≢true (ap (λ inside. is_mark inside 61) (sym (inside-true depth)) ∙ h)

-- ---- what stands inside, up to the bracket that closes it
abbrev pub only_of : Content → Bool
only_of numbers = true
only_of plain = false
only_of anything = false

abbrev pub bracket_of : Content → Bracket
bracket_of numbers = bracket.Square
bracket_of plain = bracket.Square
bracket_of anything = bracket.Curly

abbrev pub closing_of : Bracket → ℕ
closing_of bracket.Square = 93
closing_of bracket.Curly = 125

-- the end of a row, and the rows behind it
pub data Ends : Type 0 where
  closes : Ends
  continues : RowEnd → Rows → Ends

abbrev pub ends_before : Ends → List ℕ → List ℕ
ends_before closes rest = rest
ends_before (continues end rows) rest = row_end_before end (rows_before rows rest)

abbrev pub AreEnds : Content → ℕ → Ends → Type 0
AreEnds content depth closes = Unit {0}
AreEnds content depth (continues end rows) = IsRowEnd end × AreRows content depth rows

abbrev pub rows_with : Row → Ends → Rows
rows_with row closes = last_row row
rows_with row (continues end rows) = row_then row end rows

pub rows-with : (row : Row) (ends : Ends) (rest : List ℕ) → rows_before (rows_with row ends) rest ≡ row_before row (ends_before ends rest)
rows-with row closes rest = refl
rows-with row (continues end rows) rest = refl

pub are-rows : (content : Content) (depth : ℕ) (row : Row) (ends : Ends) → IsRow content depth row → AreEnds content depth ends → AreRows content depth (rows_with row ends)
are-rows content depth row closes h k = h
are-rows content depth row (continues end rows) h k = (h, k.0, k.1)

-- the reading behind the bracket that closes
abbrev pub IsLeft : List ℕ → Bool → List Bracket → List ℕ → List Token → Type 0
IsLeft text only outer behind left =
    cond (length outer == 0) (Ok (tokens_at text (length outer) behind).tokens)
    (behind_brackets text None only (record { brackets = outer; before = before.Element (place_of text behind) }) (tokens_at text (length outer) behind).tokens) ≡ Ok left

pub record RowOf (text : List ℕ) (content : Content) (outer : List Bracket) (rest : List ℕ) (left : List Token) : Type 0 where
  pub row : Row
  pub ends : Ends
  pub behind : List ℕ
  pub is : rest ≡ row_before row (ends_before ends (closing_of (bracket_of content) ∷ behind))
  pub row_is : IsRow content (length outer + 1) row
  pub ends_are : AreEnds content (length outer + 1) ends
  pub left_is : IsLeft text (only_of content) outer behind left
  pub clean : IsClean text (tokens_at text (length outer) behind)
  pub here : IsRest text behind
  pub none : NoneFrom text behind → NoneFrom text rest

pub record MoreOf (text : List ℕ) (content : Content) (outer : List Bracket) (element : Value) (rest : List ℕ) (left : List Token) : Type 0 where
  pub more : More
  pub ends : Ends
  pub behind : List ℕ
  pub is : rest ≡ more_before more (ends_before ends (closing_of (bracket_of content) ∷ behind))
  pub more_is : IsMore content (length outer + 1) element more
  pub ends_are : AreEnds content (length outer + 1) ends
  pub left_is : IsLeft text (only_of content) outer behind left
  pub clean : IsClean text (tokens_at text (length outer) behind)
  pub here : IsRest text behind
  pub none : NoneFrom text behind → NoneFrom text rest

-- the reading from a place inside
abbrev pub Reads : List ℕ → Content → List Bracket → Before → List ℕ → List Token → Type 0
Reads text content outer st rest left = behind_brackets text None (only_of content) (nest_in outer (bracket_of content) st) (tokens_at text (suc (length outer)) rest).tokens ≡ Ok left

-- no element stands before in the row, or a comma behind it
pub record Opens (st : Before) : Type 0 where
  pub parted : (start : ℕ) → nests.is_parted st start ≡ true
  pub no_element : nests.is_element st ≡ false

pub opens-nothing : Opens before.Nothing
opens-nothing = record { parted = λ start. refl; no_element = refl }

pub opens-comma : Opens before.Comma
opens-comma = record { parted = λ start. refl; no_element = refl }

abbrev RowReads : List ℕ → ℕ → Type 0
RowReads text n =
    (content : Content) (st : Before) (outer : List Bracket) (rest : List ℕ) (left : List Token) → length rest < n → Opens st → IsRest text rest →
    IsClean text (tokens_at text (suc (length outer)) rest) → Reads text content outer st rest left → RowOf text content outer rest left

abbrev MoreReads : List ℕ → ℕ → Type 0
MoreReads text n =
    (content : Content) (element : Value) (outer : List Bracket) (rest : List ℕ) (left : List Token) → length rest < n → IsFollowed element rest → IsRest text rest →
    IsClean text (tokens_at text (suc (length outer)) rest) → Reads text content outer (before.Element (place_of text rest)) rest left → MoreOf text content outer element rest left

-- ---- a token, and the reading behind it
reads-as : (text : List ℕ) (content : Content) (outer : List Bracket) (st : Before) (list list' : TokenList) (left : List Token) → list ≡ list' →
    behind_brackets text None (only_of content) (nest_in outer (bracket_of content) st) list.tokens ≡ Ok left →
    behind_brackets text None (only_of content) (nest_in outer (bracket_of content) st) list'.tokens ≡ Ok left
reads-as text content outer st list list' left e h = subst (λ (l : TokenList). behind_brackets text None (only_of content) (nest_in outer (bracket_of content) st) l.tokens ≡ Ok left) e h

-- the row ends
reads-line : (text : List ℕ) (content : Content) (outer : List Bracket) (st : Before) (behind : List ℕ) (list : TokenList) (left : List Token) → IsRest text (10 ∷ behind) →
    list ≡ with_first (token_at text (10 ∷ behind) kind.LineEnd 1) (tokens_at text (suc (length outer)) behind) →
    behind_brackets text None (only_of content) (nest_in outer (bracket_of content) st) list.tokens ≡ Ok left → Reads text content outer before.Nothing behind left
reads-line text content outer st behind list left r e h =
    let token : Token = token_at text (10 ∷ behind) kind.LineEnd 1 in
    sym (behind-step text (only_of content) (nest_in outer (bracket_of content) st) (nest_in outer (bracket_of content) before.Nothing) token _
    (step-line text (only_of content) token outer (bracket_of content) st (token-word text kind.LineEnd 1 10 behind r)) (some-brackets outer (bracket_of content)))
    ∙ reads-as text content outer st _ _ left e h

reads-semicolon : (text : List ℕ) (content : Content) (outer : List Bracket) (st : Before) (behind : List ℕ) (list : TokenList) (left : List Token) → IsRest text (59 ∷ behind) →
    list ≡ tokens_at text (suc (length outer)) (59 ∷ behind) →
    behind_brackets text None (only_of content) (nest_in outer (bracket_of content) st) list.tokens ≡ Ok left → Reads text content outer before.Nothing behind left
unfolding mark_of
reads-semicolon text content outer st behind list left r e h =
    let token : Token = token_at text (59 ∷ behind) kind.Mark 1 in
    sym (behind-step text (only_of content) (nest_in outer (bracket_of content) st) (nest_in outer (bracket_of content) before.Nothing) token _
    (step-semicolon text (only_of content) token outer (bracket_of content) st (token-word text kind.Mark 1 59 behind r)) (some-brackets outer (bracket_of content)))
    ∙ reads-as text content outer st _ _ left (e ∙ at-semicolon text (suc (length outer)) behind r) h

-- a comma
comma-faults : (text : List ℕ) (content : Content) (outer : List Bracket) (st : Before) (behind : List ℕ) (list : TokenList) (left : List Token) → IsRest text (44 ∷ behind) →
    list ≡ tokens_at text (suc (length outer)) (44 ∷ behind) → nests.is_element st ≡ false →
    behind_brackets text None (only_of content) (nest_in outer (bracket_of content) st) list.tokens ≡ Ok left → ⊥
unfolding mark_of step_by
comma-faults text content outer st behind list left r e none h =
    let token : Token = token_at text (44 ∷ behind) kind.Mark 1 in
    false≢true (sym none ∙ behind-fault text (only_of content) (nest_in outer (bracket_of content) st) token _ left (nests.is_element st) _
    (step-word text (only_of content) token (nest_in outer (bracket_of content) st) word.Comma (token-word text kind.Mark 1 44 behind r))
    (reads-as text content outer st _ _ left (e ∙ at-comma text (suc (length outer)) behind r) h))

reads-comma : (text : List ℕ) (content : Content) (outer : List Bracket) (at : ℕ) (behind : List ℕ) (list : TokenList) (left : List Token) → IsRest text (44 ∷ behind) →
    list ≡ tokens_at text (suc (length outer)) (44 ∷ behind) →
    behind_brackets text None (only_of content) (nest_in outer (bracket_of content) (before.Element at)) list.tokens ≡ Ok left → Reads text content outer before.Comma behind left
unfolding mark_of
reads-comma text content outer at behind list left r e h =
    let token : Token = token_at text (44 ∷ behind) kind.Mark 1 in
    sym (behind-step text (only_of content) (nest_in outer (bracket_of content) (before.Element at)) (nest_in outer (bracket_of content) before.Comma) token _
    (step-comma text (only_of content) token outer (bracket_of content) at (token-word text kind.Mark 1 44 behind r)) (some-brackets outer (bracket_of content)))
    ∙ reads-as text content outer (before.Element at) _ _ left (e ∙ at-comma text (suc (length outer)) behind r) h

-- ---- a closing bracket
record ClosesHere (text : List ℕ) (content : Content) (outer : List Bracket) (b : ℕ) (behind : List ℕ) (left : List Token) : Type 0 where
  own : b ≡ closing_of (bracket_of content)
  left_is : IsLeft text (only_of content) outer behind left
  clean : IsClean text (tokens_at text (length outer) behind)

own-bracket : (closing b : Bracket) → same_bracket closing b ≡ true → closing ≡ b
own-bracket bracket.Square bracket.Square h = refl
own-bracket bracket.Curly bracket.Curly h = refl
own-bracket bracket.Square bracket.Curly h = absurd (false≢true h)
own-bracket bracket.Curly bracket.Square h = absurd (false≢true h)

reads-closing : (text : List ℕ) (content : Content) (outer : List Bracket) (st : Before) (closing : Bracket) (behind : List ℕ) (list : TokenList) (left : List Token) →
    IsRest text (closing_of closing ∷ behind) → word_by kind.Mark (closing_of closing) ≡ word.Closing closing →
    tokens_at text (suc (length outer)) (closing_of closing ∷ behind) ≡ with_first (token_at text (closing_of closing ∷ behind) kind.Mark 1) (tokens_at text (length outer) behind) →
    list ≡ tokens_at text (suc (length outer)) (closing_of closing ∷ behind) → IsClean text list →
    behind_brackets text None (only_of content) (nest_in outer (bracket_of content) st) list.tokens ≡ Ok left → ClosesHere text content outer (closing_of closing) behind left
unfolding step_by
reads-closing text content outer st closing behind list left r w t e clean h =
    let b : Bracket = bracket_of content in
    let only : Bool = only_of content in
    let token : Token = token_at text (closing_of closing ∷ behind) kind.Mark 1 in
    let is_word : word_of text token ≡ word.Closing closing = token-word text kind.Mark 1 (closing_of closing) behind r ∙ w in
    let read = reads-as text content outer st _ _ left (e ∙ t) h in
    let same : same_bracket closing (innermost (outer ++ b ∷ [])) ≡ true =
    behind-fault text only (nest_in outer b st) token _ left _ _ (step-word text only token (nest_in outer b st) (word.Closing closing) is_word) read in
    let is : closing ≡ b = own-bracket closing b (ap (same_bracket closing) (sym (innermost-is outer b)) ∙ same) in
    record {
      own = ap closing_of is;
      left_is =
          subst (λ at. cond (length outer == 0) (Ok (tokens_at text (length outer) behind).tokens)
          (behind_brackets text None only (record { brackets = outer; before = before.Element at }) (tokens_at text (length outer) behind).tokens) ≡ Ok left)
          (sym (place-more text (closing_of closing ∷ []) behind r))
          (sym (behind-last text only (nest_in outer b st) _ token _ (step-closing text only token outer b st (is_word ∙ ap (λ (c : Bracket). word.Closing c) is))) ∙ read);
      clean = clean-behind text list token _ (e ∙ t) clean;
    }

-- ---- an element
pub record ElementOf (text : List ℕ) (content : Content) (outer : List Bracket) (st : Before) (start behind : List ℕ) (left : List Token) : Type 0 where
  pub value : Value
  pub further : List ℕ
  pub is : start ≡ value_before value further
  pub value_is : IsElement content (length outer + 1) value
  pub parted : nests.is_parted st (place_of text start) ≡ true
  pub more : MoreOf text content outer value further left
  pub none : NoneFrom text further → NoneFrom text behind

both-tests : (x y z : Bool) → x ≡ true → (x && not (y && z)) ≡ false → (y ≡ true) × (z ≡ true)
both-tests true true true h e = (refl, refl)
both-tests true true false h e = absurd (false≢true (sym e))
both-tests true false z h e = absurd (false≢true (sym e))
both-tests false y z h e = absurd (false≢true h)

one-test : (x y : Bool) → x ≡ true → (x && not y) ≡ false → y ≡ true
one-test true true h e = refl
one-test true false h e = absurd (false≢true (sym e))
one-test false y h e = absurd (false≢true h)

not_only : (content : Content) → not (only_of content) ≡ true → HoldsStrings content
not_only numbers h = false≢true h
not_only plain h = tt
not_only anything h = tt

only-false : (content : Content) → not (only_of content) ≡ true → only_of content ≡ false
only-false numbers h = absurd (false≢true h)
only-false plain h = refl
only-false anything h = refl

-- the reading behind an element
reads-element : (text : List ℕ) (content : Content) (outer : List Bracket) (bytes rest : List ℕ) (left : List Token) → IsRest text (bytes ++ rest) →
    Reads text content outer (before.Element (place_of text (bytes ++ rest) + length bytes)) rest left → Reads text content outer (before.Element (place_of text rest)) rest left
reads-element text content outer bytes rest left r h = subst (λ at. Reads text content outer (before.Element at) rest left) (sym (place-more text bytes rest r)) h

element-run : (text : List ℕ) (n : ℕ) → MoreReads text n → (content : Content) (outer : List Bracket) (st : Before) (b : ℕ) (bytes behind : List ℕ) (list : TokenList) (left : List Token) →
    length behind < n → (is_inside (opened (suc (length outer))) && not (is_number_text (b ∷ bytes) && is_parted behind)) ≡ false → IsRest text (b ∷ (bytes ++ behind)) →
    list ≡ with_first (token_at text (b ∷ (bytes ++ behind)) kind.Run (suc (length bytes))) (tokens_at text (suc (length outer)) behind) → IsClean text list →
    behind_brackets text None (only_of content) (nest_in outer (bracket_of content) st) list.tokens ≡ Ok left → ElementOf text content outer st (b ∷ (bytes ++ behind)) behind left
unfolding step_by
element-run text n more content outer st b bytes behind list left few ok r e clean h =
    let nest : Nest = nest_in outer (bracket_of content) st in
    let only : Bool = only_of content in
    let token : Token = token_at text (b ∷ (bytes ++ behind)) kind.Run (suc (length bytes)) in
    let is_word = token-word text kind.Run (suc (length bytes)) b (bytes ++ behind) r in
    let read = reads-as text content outer st _ _ left e h in
    let parted : nests.is_parted st (place_of text (b ∷ (bytes ++ behind))) ≡ true = behind-fault text only nest token _ left _ _ (step-word text only token nest word.Run is_word) read in
    let tests = both-tests _ _ _ (inside-true (length outer)) ok in
    record {
      value = number (b ∷ bytes);
      further = behind;
      is = refl;
      value_is = (is_number_text-IsNumber (b ∷ bytes)).0 tests.0;
      parted = parted;
      more = more content (number (b ∷ bytes)) outer behind left few tests.1 (rest-append text (b ∷ bytes) behind r) (clean-behind text list token _ e clean)
          (reads-element text content outer (b ∷ bytes) behind left r
          (sym (behind-step text only nest _ token _ (step-run text only token outer (bracket_of content) st is_word parted) (some-brackets outer (bracket_of content))) ∙ read));
      none = λ x. x;
    }

element-string : (text : List ℕ) (n : ℕ) → MoreReads text n → (content : Content) (outer : List Bracket) (st : Before) (quote : ℕ) (characters : List Character) (behind : List ℕ) (list : TokenList) (left : List Token) →
    length behind < n → IsString quote characters → (is_inside (opened (suc (length outer))) && not (is_parted behind)) ≡ false → IsRest text (quote ∷ characters_before quote characters (quote ∷ behind)) →
    list ≡ with_first (token_at text (quote ∷ (string_rest quote characters ++ behind)) kind.Text (suc (length (string_rest quote characters)))) (tokens_at text (suc (length outer)) behind) → IsClean text list →
    behind_brackets text None (only_of content) (nest_in outer (bracket_of content) st) list.tokens ≡ Ok left →
    ElementOf text content outer st (quote ∷ characters_before quote characters (quote ∷ behind)) behind left
unfolding step_by
element-string text n more content outer st quote characters behind list left few s ok r e clean h =
    let nest : Nest = nest_in outer (bracket_of content) st in
    let only : Bool = only_of content in
    let bytes : List ℕ = string_rest quote characters in
    let token : Token = token_at text (quote ∷ (bytes ++ behind)) kind.Text (suc (length bytes)) in
    let d = string-bytes quote characters behind in
    let r' : IsRest text (quote ∷ (bytes ++ behind)) = subst (λ xs. IsRest text (quote ∷ xs)) d r in
    let is_word = token-word text kind.Text (suc (length bytes)) quote (bytes ++ behind) r' in
    let read = reads-as text content outer st _ _ left e h in
    let tests = and_parts (not only) (nests.is_parted st (place_of text (quote ∷ (bytes ++ behind))))
    (behind-fault text only nest token _ left _ _ (step-word text only token nest word.Quoted is_word) read) in
    record {
      value = string quote characters;
      further = behind;
      is = refl;
      value_is = (not_only content tests.0, s);
      parted = subst (λ xs. nests.is_parted st (place_of text (quote ∷ xs)) ≡ true) (sym d) tests.1;
      more = more content (string quote characters) outer behind left few (one-test _ _ (inside-true (length outer)) ok) (rest-append text (quote ∷ bytes) behind r') (clean-behind text list token _ e clean)
          (reads-element text content outer (quote ∷ bytes) behind left r'
          (sym (behind-step text only nest _ token _ (step-string text only token outer (bracket_of content) st is_word (only-false content tests.0) tests.1) (some-brackets outer (bracket_of content))) ∙ read));
      none = λ x. x;
    }

-- the content of a bracket within a cell list
abbrev content_in : Bracket → Content
content_in bracket.Square = plain
content_in bracket.Curly = anything

abbrev value_in : Bracket → Rows → Value
value_in bracket.Square rows = matrix rows
value_in bracket.Curly rows = cells rows

bracket-in : (inner : Bracket) → bracket_of (content_in inner) ≡ inner
bracket-in bracket.Square = refl
bracket-in bracket.Curly = refl

only-in : (inner : Bracket) → only_of (content_in inner) ≡ false
only-in bracket.Square = refl
only-in bracket.Curly = refl

abbrev pub opening_of : Bracket → ℕ
opening_of bracket.Square = 91
opening_of bracket.Curly = 123

value-in : (inner : Bracket) (rows : Rows) (rest : List ℕ) → value_before (value_in inner rows) rest ≡ opening_of inner ∷ rows_before rows (closing_of inner ∷ rest)
value-in bracket.Square rows rest = refl
value-in bracket.Curly rows rest = refl

element-in : (inner : Bracket) (depth : ℕ) (rows : Rows) → depth < 8 → AreRows (content_in inner) (depth + 1) rows → IsElement anything depth (value_in inner rows)
element-in bracket.Square depth rows h k = (tt, h, k)
element-in bracket.Curly depth rows h k = (tt, h, k)

followed-in : (inner : Bracket) (rows : Rows) (rest : List ℕ) → IsFollowed (value_in inner rows) rest
followed-in bracket.Square rows rest = tt
followed-in bracket.Curly rows rest = tt

not-curly : (content : Content) → is_curly (bracket_of content) ≡ true → content ≡ anything
not-curly numbers h = absurd (false≢true h)
not-curly plain h = absurd (false≢true h)
not-curly anything h = refl

-- behind an inner bracket the reading goes on
left-inner : (text : List ℕ) (outer : List Bracket) (b : Bracket) (behind : List ℕ) (left : List Token) → IsLeft text false (outer ++ b ∷ []) behind left →
    behind_brackets text None false (nest_in outer b (before.Element (place_of text behind))) (tokens_at text (length (outer ++ b ∷ [])) behind).tokens ≡ Ok left
left-inner text outer b behind left h = sym (cond-false (length (outer ++ b ∷ []) == 0) _ _ (some-brackets outer b)) ∙ h

shorter : (further behind : List ℕ) (rows : Rows) (closing n : ℕ) → behind ≡ rows_before rows (closing ∷ further) → length behind < n → length further < n
shorter further behind rows closing n e h =
    Prim.omega (arith, ap (λ (xs : List ℕ). length xs) (e ∙ rows-before rows (closing ∷ further)), length-append (rows_text rows) (closing ∷ further))

element-opening : (text : List ℕ) (n : ℕ) → RowReads text n → MoreReads text n → (inner : Bracket) (outer : List Bracket) (st : Before) (behind : List ℕ) (list : TokenList) (left : List Token) →
    length behind < n → length outer + 1 < 8 → nests.is_parted st (place_of text (opening_of inner ∷ behind)) ≡ true → IsRest text (opening_of inner ∷ behind) →
    word_by kind.Mark (opening_of inner) ≡ word.Opening inner →
    list ≡ with_first (token_at text (opening_of inner ∷ behind) kind.Mark 1) (tokens_at text (suc (suc (length outer))) behind) → IsClean text list →
    behind_brackets text None false (nest_in outer bracket.Curly st) list.tokens ≡ Ok left → ElementOf text anything outer st (opening_of inner ∷ behind) behind left
element-opening text n row more inner outer st behind list left few deep parted r w e clean h =
    let nest : Nest = nest_in outer bracket.Curly st in
    let token : Token = token_at text (opening_of inner ∷ behind) kind.Mark 1 in
    let is_word = token-word text kind.Mark 1 (opening_of inner) behind r ∙ w in
    let level : length (outer ++ bracket.Curly ∷ []) ≡ suc (length outer) = Prim.omega (arith, length-append outer (bracket.Curly ∷ [])) in
    let level_one : length (outer ++ bracket.Curly ∷ []) + 1 ≡ (length outer + 1) + 1 = Prim.omega arith in
    let read = reads-as text anything outer st _ _ left e h in
    let stepped : behind_brackets text None false (nest_in (outer ++ bracket.Curly ∷ []) inner before.Nothing) (tokens_at text (suc (suc (length outer))) behind).tokens ≡ Ok left =
    sym (behind-step text false nest _ token _ (step-opening text false token outer bracket.Curly inner st is_word refl deep parted) (some-brackets (outer ++ bracket.Curly ∷ []) inner)) ∙ read in
    let inside : Reads text (content_in inner) (outer ++ bracket.Curly ∷ []) before.Nothing behind left =
    ap (λ only. behind_brackets text None only (nest_in (outer ++ bracket.Curly ∷ []) (bracket_of (content_in inner)) before.Nothing) (tokens_at text (suc (length (outer ++ bracket.Curly ∷ []))) behind).tokens) (only-in inner)
    ∙ ap (λ (b : Bracket). behind_brackets text None false (nest_in (outer ++ bracket.Curly ∷ []) b before.Nothing) (tokens_at text (suc (length (outer ++ bracket.Curly ∷ []))) behind).tokens) (bracket-in inner)
    ∙ ap (λ d. behind_brackets text None false (nest_in (outer ++ bracket.Curly ∷ []) inner before.Nothing) (tokens_at text (suc d) behind).tokens) level
    ∙ stepped in
    let found_row = row (content_in inner) before.Nothing (outer ++ bracket.Curly ∷ []) behind left few opens-nothing (rest-cons text (opening_of inner) behind r)
    (subst (λ d. IsClean text (tokens_at text (suc d) behind)) (sym level) (clean-behind text list token _ e clean)) inside in
    let rows : Rows = rows_with found_row.row found_row.ends in
    let further : List ℕ = found_row.behind in
    let behind_is : behind ≡ rows_before rows (closing_of inner ∷ further) =
    found_row.is ∙ sym (rows-with found_row.row found_row.ends (closing_of (bracket_of (content_in inner)) ∷ further))
    ∙ ap (λ (b : Bracket). rows_before rows (closing_of b ∷ further)) (bracket-in inner) in
    record {
      value = value_in inner rows;
      further = further;
      is = ap (λ xs. opening_of inner ∷ xs) behind_is ∙ sym (value-in inner rows further);
      value_is = element-in inner (length outer + 1) rows deep
          (subst (λ d. AreRows (content_in inner) d rows) level_one (are-rows (content_in inner) _ found_row.row found_row.ends found_row.row_is found_row.ends_are));
      parted = parted;
      more = more anything (value_in inner rows) outer further left (shorter further behind rows (closing_of inner) n behind_is few) (followed-in inner rows further) found_row.here
          (subst (λ d. IsClean text (tokens_at text d further)) level found_row.clean)
          (ap (λ d. behind_brackets text None false (nest_in outer bracket.Curly (before.Element (place_of text further))) (tokens_at text d further).tokens) (sym level)
          ∙ left-inner text outer bracket.Curly further left (subst (λ only. IsLeft text only (outer ++ bracket.Curly ∷ []) further left) (only-in inner) found_row.left_is));
      none = found_row.none;
    }

-- the tests of an opening bracket
opening-tests : (text : List ℕ) (content : Content) (inner : Bracket) (outer : List Bracket) (st : Before) (behind : List ℕ) (list : TokenList) (left : List Token) → IsRest text (opening_of inner ∷ behind) →
    word_by kind.Mark (opening_of inner) ≡ word.Opening inner →
    list ≡ with_first (token_at text (opening_of inner ∷ behind) kind.Mark 1) (tokens_at text (suc (suc (length outer))) behind) →
    behind_brackets text None (only_of content) (nest_in outer (bracket_of content) st) list.tokens ≡ Ok left →
    (content ≡ anything) × (length outer + 1 < 8) × (nests.is_parted st (place_of text (opening_of inner ∷ behind)) ≡ true)
unfolding step_by
opening-tests text content inner outer st behind list left r w e h =
    let nest : Nest = nest_in outer (bracket_of content) st in
    let token : Token = token_at text (opening_of inner ∷ behind) kind.Mark 1 in
    let is_word = token-word text kind.Mark 1 (opening_of inner) behind r ∙ w in
    let all = behind-fault text (only_of content) nest token _ left _ _ (step-word text (only_of content) token nest (word.Opening inner) is_word) (reads-as text content outer st _ _ left e h) in
    let p = and_parts (is_curly (innermost (outer ++ bracket_of content ∷ [])) && nat_lt (length (outer ++ bracket_of content ∷ [])) 8) (nests.is_parted st (place_of text (opening_of inner ∷ behind))) all in
    let q = and_parts (is_curly (innermost (outer ++ bracket_of content ∷ []))) (nat_lt (length (outer ++ bracket_of content ∷ [])) 8) p.0 in (
      not-curly content (ap is_curly (sym (innermost-is outer (bracket_of content))) ∙ q.0),
      few (cases_lt (length (outer ++ bracket_of content ∷ [])) 8) q.1,
      p.1,
    ) where
      few : (length (outer ++ bracket_of content ∷ []) < 8) ⊎ (8 ≤ length (outer ++ bracket_of content ∷ [])) → nat_lt (length (outer ++ bracket_of content ∷ [])) 8 ≡ true → length outer + 1 < 8
      few (inl lt) k = Prim.omega (arith, length-append outer (bracket_of content ∷ []))
      few (inr ge) k = absurd (false≢true (sym (le-ltb (length (outer ++ bracket_of content ∷ [])) 8 ge) ∙ k))

element-bracket : (text : List ℕ) (n : ℕ) → RowReads text n → MoreReads text n → (content : Content) (inner : Bracket) (outer : List Bracket) (st : Before) (behind : List ℕ) (list : TokenList) (left : List Token) →
    length behind < n → IsRest text (opening_of inner ∷ behind) → word_by kind.Mark (opening_of inner) ≡ word.Opening inner →
    list ≡ with_first (token_at text (opening_of inner ∷ behind) kind.Mark 1) (tokens_at text (suc (suc (length outer))) behind) → IsClean text list →
    behind_brackets text None (only_of content) (nest_in outer (bracket_of content) st) list.tokens ≡ Ok left → ElementOf text content outer st (opening_of inner ∷ behind) behind left
element-bracket text n row more numbers inner outer st behind list left few r w e clean h = absurd (other (opening-tests text numbers inner outer st behind list left r w e h).0) where
  other : numbers ≡ anything → ⊥
  other d = Prim.cc
element-bracket text n row more plain inner outer st behind list left few r w e clean h = absurd (other (opening-tests text plain inner outer st behind list left r w e h).0) where
  other : plain ≡ anything → ⊥
  other d = Prim.cc
element-bracket text n row more anything inner outer st behind list left few r w e clean h =
    let t = opening-tests text anything inner outer st behind list left r w e h in
    element-opening text n row more inner outer st behind list left few t.1 t.2 r w e clean h

-- ---- what a text inside brackets is, by its first token
-- the row ends, a comma follows, the bracket closes, or an element begins
pub data Turn (text : List ℕ) (content : Content) (outer : List Bracket) (st : Before) (rest : List ℕ) (left : List Token) : Type 0 where
  turns_row : (gap : Gap) (end : RowEnd) (behind : List ℕ) → IsGap gap → IsRowEnd end → rest ≡ gap_before gap (row_end_before end behind) → RowOf text content outer behind left →
      (NoneFrom text behind → NoneFrom text rest) → Turn text content outer st rest left
  turns_comma : (gap : Gap) (behind : List ℕ) → IsGap gap → nests.is_element st ≡ true → rest ≡ gap_before gap (44 ∷ behind) → RowOf text content outer behind left →
      (NoneFrom text behind → NoneFrom text rest) → Turn text content outer st rest left
  turns_closed : (gap : Gap) (behind : List ℕ) → IsGap gap → rest ≡ gap_before gap (closing_of (bracket_of content) ∷ behind) → IsLeft text (only_of content) outer behind left →
      IsClean text (tokens_at text (length outer) behind) → IsRest text behind → (NoneFrom text behind → NoneFrom text rest) → Turn text content outer st rest left
  turns_element : (gap : Gap) (start behind : List ℕ) → IsGap gap → rest ≡ gap_before gap start → ElementOf text content outer st start behind left →
      (NoneFrom text behind → NoneFrom text rest) → Turn text content outer st rest left

pub shorter-gap : (rest start : List ℕ) (gap : Gap) → rest ≡ gap_before gap start → length start ≤ length rest
shorter-gap rest start gap e = Prim.omega (arith, ap (λ (xs : List ℕ). length xs) (e ∙ gap-before gap start), length-append (gap_text gap) start)

-- the rest from a comma on
comma-turn : (text : List ℕ) (n : ℕ) → RowReads text n → (content : Content) (outer : List Bracket) (st : Before) (rest : List ℕ) (left : List Token) (gap : Gap) (behind : List ℕ) → length behind < n →
    IsGap gap → rest ≡ gap_before gap (44 ∷ behind) → IsRest text (44 ∷ behind) → tokens_at text (suc (length outer)) rest ≡ tokens_at text (suc (length outer)) (44 ∷ behind) →
    (NoneFrom text behind → NoneFrom text rest) → IsClean text (tokens_at text (suc (length outer)) rest) → Reads text content outer st rest left → Turn text content outer st rest left
comma-turn text n row content outer (before.Element at) rest left gap behind few g is r e later clean h =
    turns_comma gap behind g refl is
    (row content before.Comma outer behind left few opens-comma (rest-cons text 44 behind r) (clean-behind text _ _ _ (e ∙ at-comma text (suc (length outer)) behind r) clean)
    (reads-comma text content outer at behind _ left r e h)) later
comma-turn text n row content outer before.Nothing rest left gap behind few g is r e later clean h = absurd (comma-faults text content outer before.Nothing behind _ left r e refl h)
comma-turn text n row content outer before.Comma rest left gap behind few g is r e later clean h = absurd (comma-faults text content outer before.Comma behind _ left r e refl h)

closed-turn : (text : List ℕ) (content : Content) (outer : List Bracket) (st : Before) (rest : List ℕ) (left : List Token) (gap : Gap) (b : ℕ) (behind : List ℕ) → IsGap gap → rest ≡ gap_before gap (b ∷ behind) →
    IsRest text (b ∷ behind) → (NoneFrom text behind → NoneFrom text rest) → ClosesHere text content outer b behind left → Turn text content outer st rest left
closed-turn text content outer st rest left gap b behind g is r later h =
    turns_closed gap behind g (is ∙ ap (λ x. gap_before gap (x ∷ behind)) h.own) h.left_is h.clean (rest-cons text b behind r) later

mark-turn : (text : List ℕ) (n : ℕ) → RowReads text n → MoreReads text n → (content : Content) (outer : List Bracket) (st : Before) (rest : List ℕ) (left : List Token) (gap : Gap) (b : ℕ) (behind : List ℕ) → length behind < n →
    IsGap gap → is_mark (is_inside (opened (suc (length outer)))) b ≡ true → rest ≡ gap_before gap (b ∷ behind) → IsRest text (b ∷ behind) →
    tokens_at text (suc (length outer)) rest ≡ tokens_at text (suc (length outer)) (b ∷ behind) →
    (NoneFrom text behind → NoneFrom text rest) → IsClean text (tokens_at text (suc (length outer)) rest) → Reads text content outer st rest left → MarkIs b → Turn text content outer st rest left
unfolding mark_of
mark-turn text n row more content outer st rest left gap b behind few g m is r e later clean h (is_comma k) =
    comma-turn text n row content outer st rest left gap behind few g (is ∙ ap (λ x. gap_before gap (x ∷ behind)) k) (subst (λ x. IsRest text (x ∷ behind)) k r)
    (e ∙ ap (λ x. tokens_at text (suc (length outer)) (x ∷ behind)) k) later clean h
mark-turn text n row more content outer st rest left gap b behind few g m is r e later clean h (is_semicolon k) =
    let r' = subst (λ x. IsRest text (x ∷ behind)) k r in
    let e' = e ∙ ap (λ x. tokens_at text (suc (length outer)) (x ∷ behind)) k in
    turns_row gap semicolon behind g tt (is ∙ ap (λ x. gap_before gap (x ∷ behind)) k)
    (row content before.Nothing outer behind left few opens-nothing (rest-cons text 59 behind r') (clean-behind text _ _ _ (e' ∙ at-semicolon text (suc (length outer)) behind r') clean)
    (reads-semicolon text content outer st behind _ left r' e' h)) later
mark-turn text n row more content outer st rest left gap b behind few g m is r e later clean h (is_square k) =
    let r' = subst (λ x. IsRest text (x ∷ behind)) k r in
    let e' = e ∙ ap (λ x. tokens_at text (suc (length outer)) (x ∷ behind)) k ∙ at-square text (suc (length outer)) behind r' in
    turns_element gap (91 ∷ behind) behind g (is ∙ ap (λ x. gap_before gap (x ∷ behind)) k)
    (element-bracket text n row more content bracket.Square outer st behind _ left few r' refl e' clean h) later
mark-turn text n row more content outer st rest left gap b behind few g m is r e later clean h (is_curly_opening k) =
    let r' = subst (λ x. IsRest text (x ∷ behind)) k r in
    let e' = e ∙ ap (λ x. tokens_at text (suc (length outer)) (x ∷ behind)) k ∙ at-curly text (suc (length outer)) behind r' in
    turns_element gap (123 ∷ behind) behind g (is ∙ ap (λ x. gap_before gap (x ∷ behind)) k)
    (element-bracket text n row more content bracket.Curly outer st behind _ left few r' refl e' clean h) later
mark-turn text n row more content outer st rest left gap b behind few g m is r e later clean h (is_square_end k) =
    let r' = subst (λ x. IsRest text (x ∷ behind)) k r in
    let e' = e ∙ ap (λ x. tokens_at text (suc (length outer)) (x ∷ behind)) k in
    closed-turn text content outer st rest left gap 93 behind g (is ∙ ap (λ x. gap_before gap (x ∷ behind)) k) r' later
    (reads-closing text content outer st bracket.Square behind _ left r' refl (at-square_end text (length outer) behind r') e' clean h)
mark-turn text n row more content outer st rest left gap b behind few g m is r e later clean h (is_curly_end k) =
    let r' = subst (λ x. IsRest text (x ∷ behind)) k r in
    let e' = e ∙ ap (λ x. tokens_at text (suc (length outer)) (x ∷ behind)) k in
    closed-turn text content outer st rest left gap 125 behind g (is ∙ ap (λ x. gap_before gap (x ∷ behind)) k) r' later
    (reads-closing text content outer st bracket.Curly behind _ left r' refl (at-curly_end text (length outer) behind r') e' clean h)
mark-turn text n row more content outer st rest left gap b behind few g m is r e later clean h (is_equals_mark k) =
    absurd (equals-outside (length outer) (subst (λ x. is_mark (is_inside (opened (suc (length outer)))) x ≡ true) k m))

line-shorter : (end : LineEnd) (behind : List ℕ) → length behind < length (line_end_before end behind)
line-shorter end behind = Prim.omega (arith, ap (λ (xs : List ℕ). length xs) (line_end-before end behind), length-append (line_end_text end) behind, some end) where
  some : (end : LineEnd) → 0 < length (line_end_text end)
  some bare = Prim.omega arith
  some (commented c) = Prim.omega arith

turn-by : (text : List ℕ) (n : ℕ) → RowReads text n → MoreReads text n → (content : Content) (outer : List Bracket) (st : Before) (rest : List ℕ) (left : List Token) → length rest ≤ n →
    IsClean text (tokens_at text (suc (length outer)) rest) → Reads text content outer st rest left → Found text (suc (length outer)) rest → Turn text content outer st rest left
turn-by text n row more content outer st rest left few clean h (finds_end gap ending g k is none e later) = absurd (Prim.omega arith)
turn-by text n row more content outer st rest left few clean h (finds_line gap end behind g k is r e later) =
    turns_row gap (line_end end) behind g k is
    (row content before.Nothing outer behind left (Prim.omega (arith, shorter-gap rest (line_end_before end behind) gap is, line-shorter end behind)) opens-nothing (rest-cons text 10 behind r)
    (clean-behind text _ _ _ e clean) (reads-line text content outer st behind _ left r e h)) later
turn-by text n row more content outer st rest left few clean h (finds_mark gap b behind g m is r e later) =
    mark-turn text n row more content outer st rest left gap b behind (Prim.omega (arith, shorter-gap rest (b ∷ behind) gap is)) g m is r e later clean h (mark-is _ b m)
turn-by text n row more content outer st rest left few clean h (finds_string gap quote characters behind g s ok is r e later) =
    turns_element gap (quote ∷ characters_before quote characters (quote ∷ behind)) behind g is
    (element-string text n more content outer st quote characters behind _ left
    (Prim.omega (arith, shorter-gap rest (quote ∷ characters_before quote characters (quote ∷ behind)) gap is, ap (λ (xs : List ℕ). length xs) (string-bytes quote characters behind), length-append (string_rest quote characters) behind))
    s ok r e clean h) later
turn-by text n row more content outer st rest left few clean h (finds_run gap b bytes behind g stops ok is r e later) =
    turns_element gap (b ∷ (bytes ++ behind)) behind g is
    (element-run text n more content outer st b bytes behind _ left (Prim.omega (arith, shorter-gap rest (b ∷ (bytes ++ behind)) gap is, length-append bytes behind)) ok r e clean h) later

-- ---- from the start of a row, or behind a comma
row-turn : (text : List ℕ) (content : Content) (outer : List Bracket) (st : Before) (rest : List ℕ) (left : List Token) → Opens st → Turn text content outer st rest left → RowOf text content outer rest left
row-turn text content outer st rest left opens (turns_row gap end behind g k is found_row later) = record {
  row = no_elements gap;
  ends = continues end (rows_with found_row.row found_row.ends);
  behind = found_row.behind;
  is = is ∙ ap (λ xs. gap_before gap (row_end_before end xs)) (found_row.is ∙ sym (rows-with found_row.row found_row.ends (closing_of (bracket_of content) ∷ found_row.behind)));
  row_is = g;
  ends_are = (k, are-rows content (length outer + 1) found_row.row found_row.ends found_row.row_is found_row.ends_are);
  left_is = found_row.left_is;
  clean = found_row.clean;
  here = found_row.here;
  none = λ x. later (found_row.none x);
}
row-turn text content outer st rest left opens (turns_comma gap behind g k is found_row later) = absurd (false≢true (sym opens.no_element ∙ k))
row-turn text content outer st rest left opens (turns_closed gap behind g is left_is clean here later) = record {
  row = no_elements gap;
  ends = closes;
  behind = behind;
  is = is;
  row_is = g;
  ends_are = tt;
  left_is = left_is;
  clean = clean;
  here = here;
  none = later;
}
row-turn text content outer st rest left opens (turns_element gap start behind g is element later) =
    let m = element.more in
    record {
      row = elements gap element.value m.more;
      ends = m.ends;
      behind = m.behind;
      is = is ∙ ap (gap_before gap) (element.is ∙ ap (value_before element.value) m.is);
      row_is = (g, element.value_is, m.more_is);
      ends_are = m.ends_are;
      left_is = m.left_is;
      clean = m.clean;
      here = m.here;
      none = λ x. later (element.none (m.none x));
    }

-- ---- behind an element
-- what follows an element lets its gap be behind it
begins-blank : (gap : Gap) (rest : List ℕ) → is_parted (gap_before gap rest) ≡ true → BeginsBlank gap
begins-blank [] rest h = tt
begins-blank (blank b ∷ gap) rest h = tt
begins-blank (continued c ∷ gap) rest h = false≢true h

gap-behind : (element : Value) (gap : Gap) (rest : List ℕ) → IsFollowed element (gap_before gap rest) → IsBehind element gap
gap-behind (number digits) gap rest h = begins-blank gap rest h
gap-behind (string quote characters) gap rest h = begins-blank gap rest h
gap-behind (matrix rows) gap rest h = tt
gap-behind (cells rows) gap rest h = tt

some-gap : (at start : ℕ) (gap : Gap) → start ≡ at + length (gap_text gap) → nat_lt at start ≡ true → IsNotEmpty gap
some-gap at start [] e h = absurd (false≢true (sym (le-ltb at start (Prim.omega arith)) ∙ h))
some-gap at start (skip ∷ gap) e h = tt

-- what follows a comma
comma-more : (content : Content) (depth : ℕ) (element : Value) (gap : Gap) (row : Row) → IsGap gap → IsBehind element gap → IsRow content depth row →
    (more : More) × ((rest : List ℕ) → gap_before gap (44 ∷ row_before row rest) ≡ more_before more rest) × IsMore content depth element more
comma-more content depth element gap (no_elements behind) g b h = (last_comma gap behind, λ rest. refl, (g, b, h))
comma-more content depth element gap (elements behind value more) g b h = (after_comma gap behind value more, λ rest. refl, (g, b, h.0, h.1, h.2))

more-turn : (text : List ℕ) (content : Content) (outer : List Bracket) (element : Value) (rest : List ℕ) (left : List Token) → IsRest text rest → IsFollowed element rest →
    Turn text content outer (before.Element (place_of text rest)) rest left → MoreOf text content outer element rest left
more-turn text content outer element rest left r followed (turns_row gap end behind g k is found_row later) = record {
  more = no_more gap;
  ends = continues end (rows_with found_row.row found_row.ends);
  behind = found_row.behind;
  is = is ∙ ap (λ xs. gap_before gap (row_end_before end xs)) (found_row.is ∙ sym (rows-with found_row.row found_row.ends (closing_of (bracket_of content) ∷ found_row.behind)));
  more_is = (g, gap-behind element gap _ (subst (IsFollowed element) is followed));
  ends_are = (k, are-rows content (length outer + 1) found_row.row found_row.ends found_row.row_is found_row.ends_are);
  left_is = found_row.left_is;
  clean = found_row.clean;
  here = found_row.here;
  none = λ x. later (found_row.none x);
}
more-turn text content outer element rest left r followed (turns_comma gap behind g k is found_row later) =
    let m = comma-more content (length outer + 1) element gap found_row.row g (gap-behind element gap _ (subst (IsFollowed element) is followed)) found_row.row_is in
    record {
      more = m.0;
      ends = found_row.ends;
      behind = found_row.behind;
      is = is ∙ ap (λ xs. gap_before gap (44 ∷ xs)) found_row.is ∙ m.1 (ends_before found_row.ends (closing_of (bracket_of content) ∷ found_row.behind));
      more_is = m.2;
      ends_are = found_row.ends_are;
      left_is = found_row.left_is;
      clean = found_row.clean;
      here = found_row.here;
      none = λ x. later (found_row.none x);
    }
more-turn text content outer element rest left r followed (turns_closed gap behind g is left_is clean here later) = record {
  more = no_more gap;
  ends = closes;
  behind = behind;
  is = is;
  more_is = (g, gap-behind element gap _ (subst (IsFollowed element) is followed));
  ends_are = tt;
  left_is = left_is;
  clean = clean;
  here = here;
  none = later;
}
more-turn text content outer element rest left r followed (turns_element gap start behind g is e later) =
    let m = e.more in
    record {
      more = after_blanks gap e.value m.more;
      ends = m.ends;
      behind = m.behind;
      is = is ∙ ap (gap_before gap) (e.is ∙ ap (value_before e.value) m.is);
      more_is = (
        g,
        gap-behind element gap _ (subst (IsFollowed element) is followed),
        some-gap (place_of text rest) (place_of text start) gap (place-gap text gap start (subst (IsRest text) is r) ∙ ap (λ xs. place_of text xs + length (gap_text gap)) (sym is)) e.parted,
        e.value_is,
        m.more_is,
      );
      ends_are = m.ends_are;
      left_is = m.left_is;
      clean = m.clean;
      here = m.here;
      none = λ x. later (e.none (m.none x));
    }

-- ---- all of it, by how much is left
both-read : (text : List ℕ) (n : ℕ) → RowReads text n × MoreReads text n
both-read text zero = ((λ content st outer rest left few. absurd (Prim.omega arith)), (λ content element outer rest left few. absurd (Prim.omega arith)))
both-read text (suc n) =
    let later = both-read text n in (
      (λ content st outer rest left few opens r clean h.
          row-turn text content outer st rest left opens (turn-by text n later.0 later.1 content outer st rest left (Prim.omega arith) clean h (found text (suc (length outer)) rest r clean))),
      (λ content element outer rest left few followed r clean h.
          more-turn text content outer element rest left r followed
          (turn-by text n later.0 later.1 content outer (before.Element (place_of text rest)) rest left (Prim.omega arith) clean h (found text (suc (length outer)) rest r clean))),
    )

pub row-read : (text : List ℕ) (content : Content) (st : Before) (outer : List Bracket) (rest : List ℕ) (left : List Token) → Opens st → IsRest text rest →
    IsClean text (tokens_at text (suc (length outer)) rest) → Reads text content outer st rest left → RowOf text content outer rest left
row-read text content st outer rest left opens r clean h = (both-read text (suc (length rest))).0 content st outer rest left (Prim.omega arith) opens r clean h
