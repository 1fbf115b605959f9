-- The tokens from a place of a text on, where so many brackets are open: each piece, and the tokens behind it.
use Rattle.std.proofs.Common.{◌≡◌, ℕ, zero, suc, ◌+◌, ◌-◌, List, [], ◌∷◌, ◌++◌, length, take, drop, get_or, refl, sym, ap, ◌∙◌, arith, Some, None, cond, inl, inr, append_assoc, append-nil, length-append, get_or-append-add, add-zero}
use Rattle.std.proofs.lemmas.List.{take_at, drop_at}
use Rattle.std.proofs.lemmas.Bool.{cases_lt, lt-ltb, le-ltb}
use Rattle.case_tokens.specs.declared.Kind.{Kind}
use Rattle.case_tokens.specs.declared.Token.{Token}
use Rattle.case_tokens.specs.declared.pieces.Piece.{Piece}
use Rattle.case_tokens.specs.declared.pieces.Piece.TheVariants as piece
use Rattle.case_tokens.specs.Bytes.{is_opening, is_closing}
use Rattle.case_tokens.specs.Pieces.{piece_at}
use Rattle.case_tokens.specs.TokenLists.{TokenList, Brackets, is_inside, counted, is_blank_line, token_of, with_first, with_piece, length_of, tokens_from, token_list}
use Rattle.case_text.specs.Words.{word_of, word_by, text_of}
use Rattle.case_grammar.proofs.Texts.{IsRest}

-- ---- only how many more brackets are open than closed matters
same-inside : (a b : Brackets) → a.opened + b.closed ≡ b.opened + a.closed → is_inside a ≡ is_inside b
same-inside a b e = elim (cases_lt a.closed a.opened) [
  | inl h ↦ lt-ltb a.closed a.opened h ∙ sym (lt-ltb b.closed b.opened (Prim.omega arith))
  | inr h ↦ le-ltb a.closed a.opened h ∙ sym (le-ltb b.closed b.opened (Prim.omega arith))
]

same-counted : (p : Piece) (byte : ℕ) (a b : Brackets) → a.opened + b.closed ≡ b.opened + a.closed →
    (counted p byte a).opened + (counted p byte b).closed ≡ (counted p byte b).opened + (counted p byte a).closed
same-counted piece.End byte a b e = e
same-counted piece.Bad byte a b e = e
same-counted (piece.Gap n) byte a b e = e
same-counted (piece.Token k n) byte a b e = sums a.opened a.closed b.opened b.closed (cond (is_opening byte) 1 0) (cond (is_closing byte) 1 0) e where
  sums : (m n p q x y : ℕ) → m + q ≡ p + n → (m + x) + (q + y) ≡ (p + x) + (n + y)
  sums m n p q x y e = Prim.omega arith

pub same-brackets : (a b : Brackets) (before : List ℕ) (n : ℕ) (rest : List ℕ) → a.opened + b.closed ≡ b.opened + a.closed → tokens_from a before n rest ≡ tokens_from b before n rest
unfolding tokens_from
same-brackets a b before n [] e = ap (λ inside. with_piece (piece_at inside (is_blank_line before) []) before (record { tokens = []; fault = None })) (same-inside a b e)
same-brackets a b before (suc n) (byte ∷ rest) e = same-brackets a b (before ++ byte ∷ []) n rest e
same-brackets a b before zero (byte ∷ rest) e =
    let p : Piece = piece_at (is_inside a) (is_blank_line before) (byte ∷ rest) in
    ap (with_piece p before) (same-brackets (counted p byte a) (counted p byte b) (before ++ byte ∷ []) (length_of p - 1) rest (same-counted p byte a b e))
    ∙ ap (λ inside. let q : Piece = piece_at inside (is_blank_line before) (byte ∷ rest) in
    with_piece q before (tokens_from (counted q byte b) (before ++ byte ∷ []) (length_of q - 1) rest)) (same-inside a b e)

-- ---- the bytes of a piece are passed
passed : (brackets : Brackets) (before bytes rest : List ℕ) → tokens_from brackets before (length bytes) (bytes ++ rest) ≡ tokens_from brackets (before ++ bytes) 0 rest
unfolding tokens_from
passed brackets before [] rest = ap (λ xs. tokens_from brackets xs 0 rest) (sym (append-nil before))
passed brackets before (b ∷ bytes) rest = passed brackets (before ++ b ∷ []) bytes rest ∙ ap (λ xs. tokens_from brackets xs 0 rest) (append_assoc before (b ∷ []) bytes)

one-piece : (brackets : Brackets) (p : Piece) (before : List ℕ) (b : ℕ) (bytes rest : List ℕ) → piece_at (is_inside brackets) (is_blank_line before) (b ∷ (bytes ++ rest)) ≡ p →
    length_of p ≡ suc (length bytes) → tokens_from brackets before 0 (b ∷ (bytes ++ rest)) ≡ with_piece p before (tokens_from (counted p b brackets) (before ++ b ∷ bytes) 0 rest)
unfolding tokens_from
one-piece brackets p before b bytes rest e n =
    ap (λ (q : Piece). with_piece q before (tokens_from (counted q b brackets) (before ++ b ∷ []) (length_of q - 1) (bytes ++ rest))) e
    ∙ ap (with_piece p before)
    (ap (λ m. tokens_from (counted p b brackets) (before ++ b ∷ []) m (bytes ++ rest)) (Prim.omega arith)
    ∙ passed (counted p b brackets) (before ++ b ∷ []) bytes rest ∙ ap (λ xs. tokens_from (counted p b brackets) xs 0 rest) (append_assoc before (b ∷ []) bytes))

-- ---- by the rest of the text
abbrev pub before_of : List ℕ → List ℕ → List ℕ
before_of text rest = take (length text - length rest) text

abbrev pub opened : ℕ → Brackets
opened depth = record { opened = depth; closed = 0 }

unfoldable pub tokens_at : List ℕ → ℕ → List ℕ → TokenList
tokens_at text depth rest = tokens_from (opened depth) (before_of text rest) 0 rest

pub before-is : (text before rest : List ℕ) → text ≡ before ++ rest → before_of text rest ≡ before
before-is text before rest e =
    ap (λ (xs : List ℕ). take (length xs - length rest) xs) e
    ∙ take_at before rest (length (before ++ rest) - length rest) (Prim.omega (arith, length-append before rest))

before-more : (text bytes rest : List ℕ) → IsRest text (bytes ++ rest) → before_of text (bytes ++ rest) ++ bytes ≡ before_of text rest
before-more text bytes rest r =
    ap (λ xs. xs ++ bytes) (before-is text r.before (bytes ++ rest) r.is)
    ∙ sym (before-is text (r.before ++ bytes) rest (r.is ∙ sym (append_assoc r.before bytes rest)))

-- the token of some bytes that begin the rest
abbrev pub token_at : List ℕ → List ℕ → Kind → ℕ → Token
token_at text rest kind n = token_of kind n (before_of text rest)

pub at-gap : (text : List ℕ) (depth b : ℕ) (bytes rest : List ℕ) → IsRest text (b ∷ (bytes ++ rest)) →
    piece_at (is_inside (opened depth)) (is_blank_line (before_of text (b ∷ (bytes ++ rest)))) (b ∷ (bytes ++ rest)) ≡ piece.Gap (suc (length bytes)) →
    tokens_at text depth (b ∷ (bytes ++ rest)) ≡ tokens_at text depth rest
unfolding tokens_at
at-gap text depth b bytes rest r e =
    one-piece (opened depth) (piece.Gap (suc (length bytes))) (before_of text (b ∷ (bytes ++ rest))) b bytes rest e refl
    ∙ ap (λ xs. tokens_from (opened depth) xs 0 rest) (before-more text (b ∷ bytes) rest r)

pub at-token : (text : List ℕ) (depth depth' : ℕ) (k : Kind) (b : ℕ) (bytes rest : List ℕ) → IsRest text (b ∷ (bytes ++ rest)) →
    piece_at (is_inside (opened depth)) (is_blank_line (before_of text (b ∷ (bytes ++ rest)))) (b ∷ (bytes ++ rest)) ≡ piece.Token k (suc (length bytes)) →
    depth + cond (is_opening b) 1 0 ≡ depth' + cond (is_closing b) 1 0 →
    tokens_at text depth (b ∷ (bytes ++ rest)) ≡ with_first (token_at text (b ∷ (bytes ++ rest)) k (suc (length bytes))) (tokens_at text depth' rest)
unfolding tokens_at
at-token text depth depth' k b bytes rest r e d =
    let p : Piece = piece.Token k (suc (length bytes)) in
    let before : List ℕ = before_of text (b ∷ (bytes ++ rest)) in
    one-piece (opened depth) p before b bytes rest e refl
    ∙ ap (λ list. with_first (token_of k (suc (length bytes)) before) list)
    (ap (λ xs. tokens_from (counted p b (opened depth)) xs 0 rest) (before-more text (b ∷ bytes) rest r)
    ∙ same-brackets (counted p b (opened depth)) (opened depth') (before_of text rest) 0 rest (level depth depth' (cond (is_opening b) 1 0) (cond (is_closing b) 1 0) d)) where
      level : (m n x y : ℕ) → m + x ≡ n + y → (m + x) + 0 ≡ n + (0 + y)
      level m n x y e = Prim.omega arith

-- the text ends
pub at-end : (text : List ℕ) → tokens_at text 0 [] ≡ record { tokens = []; fault = None }
unfolding tokens_at tokens_from piece_at
at-end text = refl

pub at-cut : (text : List ℕ) (depth : ℕ) → tokens_at text (suc depth) [] ≡ record { tokens = []; fault = Some (length (before_of text [])) }
unfolding tokens_at tokens_from piece_at
at-cut text depth = ap (λ inside. with_piece (piece_at inside (is_blank_line (before_of text [])) []) (before_of text []) (record { tokens = []; fault = None })) (lt-ltb 0 (suc depth) (Prim.omega arith))

-- a fault
pub at-bad : (text : List ℕ) (depth b : ℕ) (rest : List ℕ) →
    piece_at (is_inside (opened depth)) (is_blank_line (before_of text (b ∷ rest))) (b ∷ rest) ≡ piece.Bad →
    tokens_at text depth (b ∷ rest) ≡ record { tokens = []; fault = Some (length (before_of text (b ∷ rest))) }
unfolding tokens_at tokens_from
at-bad text depth b rest e =
    ap (λ (p : Piece). with_piece p (before_of text (b ∷ rest)) (tokens_from (counted p b (opened depth)) (before_of text (b ∷ rest) ++ b ∷ []) (length_of p - 1) rest)) e

pub at-start : (text : List ℕ) → token_list text ≡ tokens_at text 0 text
unfolding token_list tokens_at
at-start text = ap (λ xs. tokens_from (opened 0) xs 0 text) (sym (before-is text [] text refl))

-- ---- the token of bytes: its word and its text
abbrev pub place_of : List ℕ → List ℕ → ℕ
place_of text rest = length (before_of text rest)

pub token-word : (text : List ℕ) (k : Kind) (n b : ℕ) (rest : List ℕ) → IsRest text (b ∷ rest) → word_of text (token_at text (b ∷ rest) k n) ≡ word_by k b
unfolding word_of
token-word text k n b rest r = ap (word_by k) (
    ap (λ (xs : List ℕ). get_or text (length xs) 0) (before-is text r.before (b ∷ rest) r.is)
    ∙ ap (λ (xs : List ℕ). get_or xs (length r.before) 0) r.is
    ∙ ap (λ m. get_or (r.before ++ b ∷ rest) m 0) (sym (add-zero (length r.before)))
    ∙ get_or-append-add r.before (b ∷ rest) 0 0)

pub token-text : (text : List ℕ) (k : Kind) (bytes rest : List ℕ) → IsRest text (bytes ++ rest) → text_of text (token_at text (bytes ++ rest) k (length bytes)) ≡ bytes
token-text text k bytes rest r =
    ap (λ (xs : List ℕ). take ((length xs + length bytes) - length xs) (drop (length xs) text)) (before-is text r.before (bytes ++ rest) r.is)
    ∙ ap (λ (xs : List ℕ). take ((length r.before + length bytes) - length r.before) (drop (length r.before) xs)) r.is
    ∙ ap (take ((length r.before + length bytes) - length r.before)) (drop_at r.before (bytes ++ rest) (length r.before) refl)
    ∙ take_at bytes rest ((length r.before + length bytes) - length r.before) (Prim.omega arith)

-- what stands behind bytes has its place behind them
pub place-more : (text bytes rest : List ℕ) → IsRest text (bytes ++ rest) → place_of text rest ≡ place_of text (bytes ++ rest) + length bytes
place-more text bytes rest r = ap (λ (xs : List ℕ). length xs) (sym (before-more text bytes rest r)) ∙ length-append (before_of text (bytes ++ rest)) bytes
