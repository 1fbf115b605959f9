-- Rows, one by one.
use Rattle.std.proofs.Common.{◌≡◌, ◌≢◌, ℕ, zero, suc, ◌+◌, ◌<◌, ◌≤◌, List, [], ◌∷◌, ◌++◌, length, drop, get_or, map, refl, sym, ap, ◌∙◌, arith, Some, None, eq-eqb, eqb, cond, Bool, true, false, ◌||◌, append_assoc, inl, inr}
use Rattle.std.proofs.lemmas.Bool.{ne_eqb, false≢true}
use Rattle.std.proofs.lemmas.List.{drop_all, append-nil}
use Rattle.case_tokens.specs.declared.Token.{Token}
use Rattle.case_text.specs.declared.words.Bracket.{Bracket}
use Rattle.case_text.specs.declared.words.Bracket.TheVariants as bracket
use Rattle.case_text.specs.Words.{word_of}
use Rattle.case_text.specs.Nests.{Nest}
use Rattle.case_text.specs.Nesting.{rows_left}
use Rattle.record_reading.specs.Records.{first_ragged}
use Rattle.case_text.specs.Matrices.{Rows, closes, ends_row, some_row, cells_of, rows_from}
use Rattle.case_text.proofs.NestLemmas.{ClosesOrStays}

ragged-here : (width number : ℕ) (row : List (List ℕ)) (rows : Rows) → length row ≢ width → first_ragged width number (row ∷ rows) ≡ Some number
unfolding first_ragged
ragged-here width number row rows h = Prim.rw (ne_eqb (length row) width h) refl

ragged-later : (width number : ℕ) (row : List (List ℕ)) (rows : Rows) → length row ≡ width → first_ragged width number (row ∷ rows) ≡ first_ragged width (number + 1) rows
unfolding first_ragged
ragged-later width number row rows h = Prim.rw (eq-eqb (length row) width h) refl

pub first_ragged-other : {V : Type 0} (view : V → List (List ℕ)) (width number : ℕ) (rows : List V) (at : ℕ) (row : V) → at < length rows → row ≡ get_or rows at row →
    length (view row) ≢ width → first_ragged width number (drop at (map view rows)) ≡ Some number
first_ragged-other view width number [] at row h is odd = absurd (Prim.omega arith)
first_ragged-other view width number (r ∷ rows) zero row h is odd = ragged-here width number (view r) (map view rows) (λ e. odd (ap (λ x. length (view x)) is ∙ e))
first_ragged-other view width number (r ∷ rows) (suc at) row h is odd = first_ragged-other view width number rows at row (Prim.omega arith) is odd

pub first_ragged-same : {V : Type 0} (view : V → List (List ℕ)) (width number : ℕ) (rows : List V) (at : ℕ) (row : V) → at < length rows → row ≡ get_or rows at row →
    length (view row) ≡ width → first_ragged width number (drop at (map view rows)) ≡ first_ragged width (number + 1) (drop (at + 1) (map view rows))
first_ragged-same view width number rows at row h is even =
    same view width number rows at row h is even ∙ (let e : suc at ≡ at + 1 = Prim.omega arith in ap (λ n. first_ragged width (number + 1) (drop n (map view rows))) e) where
      same : {V : Type 0} (view : V → List (List ℕ)) (width number : ℕ) (rows : List V) (at : ℕ) (row : V) → at < length rows → row ≡ get_or rows at row →
          length (view row) ≡ width → first_ragged width number (drop at (map view rows)) ≡ first_ragged width (number + 1) (drop (suc at) (map view rows))
      same view width number [] at row h is even = absurd (Prim.omega arith)
      same view width number (r ∷ rows) zero row h is even = ragged-later width number (view r) (map view rows) (ap (λ x. length (view x)) (sym is) ∙ even)
      same view width number (r ∷ rows) (suc at) row h is even = same view width number rows at row (Prim.omega arith) is even

pub first_ragged-end : (width number : ℕ) (rows : Rows) (at : ℕ) → length rows ≤ at → first_ragged width number (drop at rows) ≡ None
unfolding first_ragged
first_ragged-end width number rows at h = ap (first_ragged width number) (drop_all at rows h)

-- ---- rows are gathered token by token
rows-first : (text : List ℕ) (row : List (List ℕ)) (token : Token) (rest : List Token) → rows_from text row (token ∷ rest)
    ≡ cond (closes (word_of text token)) (some_row row) (cond (ends_row (word_of text token)) (some_row row ++ rows_from text [] rest) (rows_from text (row ++ cells_of text token) rest))
unfolding rows_from
rows-first text row token rest = refl

left-none : (text : List ℕ) (next : Nest) (row : List (List ℕ)) (rest : List Token) → next.brackets ≡ [] → rows_left text next row rest ≡ []
unfolding rows_left
left-none text next row rest e = ap (λ (b : List Bracket). cond (eqb (length b) 0) [] (rows_from text row rest)) e

pub left-some : (text : List ℕ) (next : Nest) (row : List (List ℕ)) (rest : List Token) → next.brackets ≡ bracket.Square ∷ [] → rows_left text next row rest ≡ rows_from text row rest
unfolding rows_left
left-some text next row rest e = ap (λ (b : List Bracket). cond (eqb (length b) 0) [] (rows_from text row rest)) e

at-close : (closing ends : Bool) (rows rows' some more left : Rows) → closing ≡ true → rows' ≡ cond (closing || ends) (rows ++ some) rows → left ≡ [] →
    rows ++ cond closing some more ≡ rows' ++ left
at-close true ends rows rows' some more left c s l = sym (ap (λ z. rows' ++ z) l ∙ append-nil rows' ∙ s)
at-close false ends rows rows' some more left c s l = absurd (false≢true c)

at-stay : (closing ends : Bool) (follow : List (List ℕ) → Rows) (rows rows' some left : Rows) (row row' cells : List (List ℕ)) → closing ≡ false →
    row' ≡ cond (closing || ends) [] (row ++ cells) → rows' ≡ cond (closing || ends) (rows ++ some) rows → left ≡ follow row' →
    rows ++ cond closing some (cond ends (some ++ follow []) (follow (row ++ cells))) ≡ rows' ++ left
at-stay true ends follow rows rows' some left row row' cells c r s l = absurd (false≢true (sym c))
at-stay false true follow rows rows' some left row row' cells c r s l =
    sym (ap (λ z. rows' ++ z) (l ∙ ap follow r) ∙ ap (λ z. z ++ follow []) s ∙ append_assoc rows some (follow []))
at-stay false false follow rows rows' some left row row' cells c r s l =
    sym (ap (λ z. rows' ++ z) (l ∙ ap follow r) ∙ ap (λ z. z ++ follow (row ++ cells)) s)

pub rows-more : (text : List ℕ) (token : Token) (rest : List Token) (rows rows' : Rows) (row row' : List (List ℕ)) (next : Nest) → ClosesOrStays (word_of text token) next →
    row' ≡ cond (closes (word_of text token) || ends_row (word_of text token)) [] (row ++ cells_of text token) →
    rows' ≡ cond (closes (word_of text token) || ends_row (word_of text token)) (rows ++ some_row row) rows →
    rows ++ rows_from text row (token ∷ rest) ≡ rows' ++ rows_left text next row' rest
rows-more text token rest rows rows' row row' next (inl (c, none)) r s =
    ap (λ z. rows ++ z) (rows-first text row token rest)
    ∙ at-close (closes (word_of text token)) (ends_row (word_of text token)) rows rows' (some_row row) _ (rows_left text next row' rest) c s (left-none text next row' rest none)
rows-more text token rest rows rows' row row' next (inr (c, flat)) r s =
    ap (λ z. rows ++ z) (rows-first text row token rest)
    ∙ at-stay (closes (word_of text token)) (ends_row (word_of text token)) (λ z. rows_from text z rest) rows rows' (some_row row) (rows_left text next row' rest) row row' (cells_of text token)
    c r s (left-some text next row' rest flat)

-- the bracket that closed the value ends the rows
pub rows-done : (text : List ℕ) (nest : Nest) (rows whole : Rows) (row : List (List ℕ)) (rest : List Token) → rows ++ rows_left text nest row rest ≡ whole → length nest.brackets ≡ 0 → rows ≡ whole
unfolding rows_left
rows-done text nest rows whole row rest e none =
    sym (append-nil rows) ∙ ap (λ z. rows ++ z) (sym (ap (λ n. cond (eqb n 0) [] (rows_from text row rest)) none)) ∙ e

pub rows-start : {V C : Type 0} (view : V → List (List ℕ)) (bytes : C → List ℕ) (rows : List V) (row : List C) (text : List ℕ) (nest : Nest) (tokens : List Token) →
    rows ≡ [] → row ≡ [] → nest.brackets ≡ bracket.Square ∷ [] → map view rows ++ rows_left text nest (map bytes row) tokens ≡ rows_from text [] tokens
rows-start {V} {C} view bytes rows row text nest tokens r s flat =
    ap (λ (xs : List V). map view xs ++ rows_left text nest (map bytes row) tokens) r ∙ ap (λ (xs : List C). rows_left text nest (map bytes xs) tokens) s ∙ left-some text nest [] tokens flat

pub rows-keeps : (text : List ℕ) (token : Token) (tokens rest : List Token) (rows rows' whole : Rows) (row row' : List (List ℕ)) (nest next : Nest) →
    nest.brackets ≡ bracket.Square ∷ [] → tokens ≡ token ∷ rest → ClosesOrStays (word_of text token) next →
    row' ≡ cond (closes (word_of text token) || ends_row (word_of text token)) [] (row ++ cells_of text token) →
    rows' ≡ cond (closes (word_of text token) || ends_row (word_of text token)) (rows ++ some_row row) rows →
    rows ++ rows_left text nest row tokens ≡ whole → rows' ++ rows_left text next row' rest ≡ whole
rows-keeps text token tokens rest rows rows' whole row row' nest next flat left goes r s e =
    sym (rows-more text token rest rows rows' row row' next goes r s)
    ∙ ap (λ z. rows ++ rows_from text row z) (sym left) ∙ ap (λ z. rows ++ z) (sym (left-some text nest row tokens flat)) ∙ e
