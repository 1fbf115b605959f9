-- The rows of a matrix of numbers are read as its cells.
use Rattle.std.proofs.Common.{◌≡◌, ℕ, suc, true, List, [], ◌∷◌, ◌++◌, length, refl, sym, ap, ◌∙◌, cond, append_assoc, append-nil}
use Rattle.scaled_decimal.specs.Decimal.{IsNumber}
use Rattle.record_reading.specs.Records.{Record}
use Rattle.case_tokens.specs.declared.Kind.TheVariants as kind
use Rattle.case_tokens.specs.declared.Token.{Token}
use Rattle.case_tokens.specs.Pieces.{is_parted}
use Rattle.case_tokens.specs.TokenLists.{TokenList}
use Rattle.case_text.specs.declared.words.Bracket.TheVariants as bracket
use Rattle.case_text.specs.declared.words.Word.{Word}
use Rattle.case_text.specs.declared.words.Word.TheVariants as word
use Rattle.case_text.specs.Words.{word_of, text_of, mark_of, is_run}
use Rattle.case_text.specs.Matrices.{rows_from, some_row, closes, ends_row}
use Rattle.case_grammar.specs.Gaps.{Gap, IsGap}
use Rattle.case_grammar.specs.Values.{Value, number, string, matrix, cells, Rows, last_row, row_then, Row, no_elements, elements, More, no_more, last_comma, after_blanks, after_comma, RowEnd, semicolon, line_end, IsRowEnd, numbers, IsElement, AreRows, IsRow, IsMore, more_cells, row_cells, cells_of, value_text}
use Rattle.case_grammar.proofs.Lines.{IsBlockless}
use Rattle.case_grammar.proofs.Texts.{gap_before, row_end_before, value_before, rows_before, row_before, more_before, IsRest, rest-cons, rest-gap, rest-row_end, rest-value, rest-row}
use Rattle.case_grammar.proofs.Places.{tokens_at, token_at, token-word, token-text}
use Rattle.case_grammar.proofs.Words.{number-some}
use Rattle.case_grammar.proofs.Pieces.{at-comma, at-semicolon, at-square_end}
use Rattle.case_grammar.proofs.Lexemes.{at-gap_before, at-line_end_before, rest-feed, parted-ends, at-number}
use Rattle.case_grammar.proofs.Closing.{followed-more, row-parted, IsFollowed}

-- ---- the rows from a token on
rows-by : (text : List ℕ) (row : Record) (token : Token) (tokens : List Token) (w : Word) → word_of text token ≡ w →
    rows_from text row (token ∷ tokens)
    ≡ cond (closes w) (some_row row) (cond (ends_row w) (some_row row ++ rows_from text [] tokens) (rows_from text (row ++ cond (is_run w) (text_of text token ∷ []) []) tokens))
unfolding rows_from
rows-by text row token tokens w e =
    ap (λ (x : Word). cond (closes x) (some_row row) (cond (ends_row x) (some_row row ++ rows_from text [] tokens) (rows_from text (row ++ cond (is_run x) (text_of text token ∷ []) []) tokens))) e

module _ (text : List ℕ) (blocks : IsBlockless text) where
  rows-gap : (row : Record) (gap : Gap) (rest : List ℕ) → IsGap gap → IsRest text (gap_before gap rest) →
      rows_from text row (tokens_at text 1 (gap_before gap rest)).tokens ≡ rows_from text row (tokens_at text 1 rest).tokens
  rows-gap row gap rest h r = ap (λ (list : TokenList). rows_from text row list.tokens) (at-gap_before text 1 gap rest h r)

  rows-end : (row : Record) (end : RowEnd) (rest : List ℕ) → IsRowEnd end → IsRest text (row_end_before end rest) →
      rows_from text row (tokens_at text 1 (row_end_before end rest)).tokens ≡ some_row row ++ rows_from text [] (tokens_at text 1 rest).tokens
  unfolding mark_of
  rows-end row semicolon rest h r =
      ap (λ (list : TokenList). rows_from text row list.tokens) (at-semicolon text 1 rest r)
      ∙ rows-by text row (token_at text (59 ∷ rest) kind.Mark 1) (tokens_at text 1 rest).tokens word.Semicolon (token-word text kind.Mark 1 59 rest r)
  rows-end row (line_end end) rest h r =
      let s = rest-feed text end rest r in
      ap (λ (list : TokenList). rows_from text row list.tokens) (at-line_end_before text 1 end rest blocks h r s)
      ∙ rows-by text row (token_at text (10 ∷ rest) kind.LineEnd 1) (tokens_at text 1 rest).tokens word.LineEnd (token-word text kind.LineEnd 1 10 rest s)

  rows-comma : (row : Record) (rest : List ℕ) → IsRest text (44 ∷ rest) → rows_from text row (tokens_at text 1 (44 ∷ rest)).tokens ≡ rows_from text row (tokens_at text 1 rest).tokens
  unfolding mark_of
  rows-comma row rest r =
      ap (λ (list : TokenList). rows_from text row list.tokens) (at-comma text 1 rest r)
      ∙ rows-by text row (token_at text (44 ∷ rest) kind.Mark 1) (tokens_at text 1 rest).tokens word.Comma (token-word text kind.Mark 1 44 rest r)
      ∙ ap (λ xs. rows_from text xs (tokens_at text 1 rest).tokens) (append-nil row)

  pub rows-close : (row : Record) (rest : List ℕ) → IsRest text (93 ∷ rest) → rows_from text row (tokens_at text 1 (93 ∷ rest)).tokens ≡ some_row row ++ []
  unfolding mark_of
  rows-close row rest r =
      ap (λ (list : TokenList). rows_from text row list.tokens) (at-square_end text 0 rest r)
      ∙ rows-by text row (token_at text (93 ∷ rest) kind.Mark 1) (tokens_at text 0 rest).tokens (word.Closing bracket.Square) (token-word text kind.Mark 1 93 rest r)
      ∙ sym (append-nil (some_row row))

  rows-number : (row : Record) (digits rest : List ℕ) → IsNumber digits → IsRest text (digits ++ rest) → is_parted rest ≡ true →
      rows_from text row (tokens_at text 1 (digits ++ rest)).tokens ≡ rows_from text (row ++ digits ∷ []) (tokens_at text 1 rest).tokens
  rows-number row [] rest h r p = absurd (number-some [] h refl)
  rows-number row (d ∷ digits) rest h r p =
      ap (λ (list : TokenList). rows_from text row list.tokens) (at-number text 1 (d ∷ digits) rest r h (parted-ends true rest p) (λ _. p))
      ∙ rows-by text row (token_at text (d ∷ (digits ++ rest)) kind.Run (suc (length digits))) (tokens_at text 1 rest).tokens word.Run (token-word text kind.Run (suc (length digits)) d (digits ++ rest) r)
      ∙ ap (λ cell. rows_from text (row ++ cell ∷ []) (tokens_at text 1 rest).tokens) (token-text text kind.Run (d ∷ digits) rest r)

  -- an element, in front of bytes whose rows are known
  rows-element : (value : Value) (depth : ℕ) (rest : List ℕ) (row : Record) (known : List Record) → IsElement numbers depth value → IsRest text (value_before value rest) → IsFollowed value rest →
      rows_from text (row ++ value_text value ∷ []) (tokens_at text 1 rest).tokens ≡ known → rows_from text row (tokens_at text 1 (value_before value rest)).tokens ≡ known
  rows-element (number digits) depth rest row known h r p k = rows-number row digits rest h r p ∙ k
  rows-element (string quote characters) depth rest row known h r p k = absurd h.0
  rows-element (matrix rows) depth rest row known h r p k = absurd h.0
  rows-element (cells rows) depth rest row known h r p k = absurd h.0

  grown : (row : Record) (cell : List ℕ) (others : Record) (tail : List Record) → some_row ((row ++ cell ∷ []) ++ others) ++ tail ≡ some_row (row ++ cell ∷ others) ++ tail
  grown row cell others tail = ap (λ xs. some_row xs ++ tail) (append_assoc row (cell ∷ []) others)

  -- ---- trees
  rows-more : (more : More) (depth : ℕ) (element : Value) (rest : List ℕ) (tail : List Record) → IsMore numbers depth element more → IsRest text (more_before more rest) → is_parted rest ≡ true →
      ((row : Record) → rows_from text row (tokens_at text 1 rest).tokens ≡ some_row row ++ tail) → (row : Record) →
      rows_from text row (tokens_at text 1 (more_before more rest)).tokens ≡ some_row (row ++ more_cells more) ++ tail
  rows-more (no_more gap) depth element rest tail h r p k row = rows-gap row gap rest h.0 r ∙ k row ∙ ap (λ xs. some_row xs ++ tail) (sym (append-nil row))
  rows-more (last_comma front behind) depth element rest tail h r p k row =
      let s = rest-gap text front (44 ∷ gap_before behind rest) r in
      rows-gap row front (44 ∷ gap_before behind rest) h.0 r ∙ rows-comma row (gap_before behind rest) s
      ∙ rows-gap row behind rest h.2 (rest-cons text 44 (gap_before behind rest) s) ∙ k row ∙ ap (λ xs. some_row xs ++ tail) (sym (append-nil row))
  rows-more (after_blanks gap value more) depth element rest tail h r p k row =
      let further : List ℕ = more_before more rest in
      let s = rest-gap text gap (value_before value further) r in
      rows-gap row gap (value_before value further) h.0 r
      ∙ rows-element value depth further row _ h.3 s (followed-more numbers depth value more rest h.4 p)
      (rows-more more depth value rest tail h.4 (rest-value text value further s) p k (row ++ value_text value ∷ []) ∙ grown row (value_text value) (more_cells more) tail)
  rows-more (after_comma front behind value more) depth element rest tail h r p k row =
      let further : List ℕ = more_before more rest in
      let s = rest-gap text front (44 ∷ gap_before behind (value_before value further)) r in
      let t = rest-cons text 44 (gap_before behind (value_before value further)) s in
      let u = rest-gap text behind (value_before value further) t in
      rows-gap row front (44 ∷ gap_before behind (value_before value further)) h.0 r ∙ rows-comma row (gap_before behind (value_before value further)) s
      ∙ rows-gap row behind (value_before value further) h.2 t
      ∙ rows-element value depth further row _ h.3 u (followed-more numbers depth value more rest h.4 p)
      (rows-more more depth value rest tail h.4 (rest-value text value further u) p k (row ++ value_text value ∷ []) ∙ grown row (value_text value) (more_cells more) tail)

  rows-row : (row : Row) (depth : ℕ) (rest : List ℕ) (tail : List Record) → IsRow numbers depth row → IsRest text (row_before row rest) → is_parted rest ≡ true →
      ((acc : Record) → rows_from text acc (tokens_at text 1 rest).tokens ≡ some_row acc ++ tail) →
      rows_from text [] (tokens_at text 1 (row_before row rest)).tokens ≡ row_cells row ++ tail
  rows-row (no_elements gap) depth rest tail h r p k = rows-gap [] gap rest h r ∙ k []
  rows-row (elements gap value more) depth rest tail h r p k =
      let further : List ℕ = more_before more rest in
      let s = rest-gap text gap (value_before value further) r in
      rows-gap [] gap (value_before value further) h.0 r
      ∙ rows-element value depth further [] _ h.1 s (followed-more numbers depth value more rest h.2 p)
      (rows-more more depth value rest tail h.2 (rest-value text value further s) p k (value_text value ∷ []))

  pub rows-rows : (rows : Rows) (depth : ℕ) (rest : List ℕ) → AreRows numbers depth rows → IsRest text (rows_before rows (93 ∷ rest)) →
      rows_from text [] (tokens_at text 1 (rows_before rows (93 ∷ rest))).tokens ≡ cells_of rows
  rows-rows (last_row row) depth rest h r =
      rows-row row depth (93 ∷ rest) [] h r refl (λ acc. rows-close acc rest (rest-row text row (93 ∷ rest) r)) ∙ append-nil (row_cells row)
  rows-rows (row_then row end rows) depth rest h r =
      let further : List ℕ = rows_before rows (93 ∷ rest) in
      let s = rest-row text row (row_end_before end further) r in
      rows-row row depth (row_end_before end further) (cells_of rows) h.0 r (row-parted end further)
      (λ acc. rows-end acc end further h.1 s ∙ ap (λ xs. some_row acc ++ xs) (rows-rows rows depth rest h.2 (rest-row_end text end further s)))
