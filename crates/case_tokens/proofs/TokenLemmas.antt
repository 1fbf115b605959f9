-- How what is left of the tokens changes from piece to piece.
use Rattle.std.proofs.Common.{◌≡◌, ℕ, zero, suc, ◌+◌, ◌-◌, ◌<◌, ◌≤◌, Bool, true, false, List, [], ◌∷◌, ◌++◌, length, take, drop, get_or, refl, sym, ap, ◌∙◌, subst, arith, Some, None, append_assoc, not, cond, ◌&&◌}
use Rattle.std.specs.Prelude.{count_by}
use Rattle.std.specs.List.{list_all, after_last, prefix_len, suffix_len}
use Rattle.std.proofs.Math.Seq.{take-add}
use Rattle.std.proofs.lemmas.List.{append-nil, drop-drop, reverse-append, drop-append-le, drop_all, length_push, take_more, take_all, length-take, length-drop, get_or-drop}
use Rattle.std.proofs.lemmas.List.Folds.{list_all-append}
use Rattle.std.proofs.lemmas.List.Sums.{sum_by-append, suffix_len-le-length}
use Rattle.case_tokens.specs.declared.Token.{Token}
use Rattle.case_tokens.specs.declared.pieces.Piece.{Piece}
use Rattle.case_tokens.specs.declared.pieces.Piece.TheVariants as piece
use Rattle.case_tokens.specs.Bytes.{is_line_end, is_blank}
use Rattle.case_tokens.specs.Pieces.{piece_at, Fits}
use Rattle.case_tokens.specs.TokenLists.{AreInOrder, token_list, Brackets, TokenList, Remaining, tokens_from, is_inside, is_blank_line, last_line, counted, with_piece, length_of}
use Rattle.case_tokens.specs.Cursors.{left_from}
use Rattle.case_tokens.proofs.PieceLemmas.{fits-piece}

-- the bytes of a piece are passed one by one
tokens-wait : (brackets : Brackets) (n : ℕ) (before rest : List ℕ) → n ≤ length rest →
    tokens_from brackets before n rest ≡ tokens_from brackets (before ++ take n rest) 0 (drop n rest)
unfolding tokens_from
tokens-wait brackets zero before [] h = ap (λ xs. tokens_from brackets xs 0 []) (sym (append-nil before))
tokens-wait brackets (suc n) before [] h = absurd (Prim.omega arith)
tokens-wait brackets zero before (b ∷ rest) h = ap (λ xs. tokens_from brackets xs 0 (b ∷ rest)) (sym (append-nil before))
tokens-wait brackets (suc n) before (b ∷ rest) h =
    tokens-wait brackets n (before ++ b ∷ []) rest (Prim.omega arith)
    ∙ ap (λ xs. tokens_from brackets xs 0 (drop n rest)) (append_assoc before (b ∷ []) (take n rest))

passed-piece : (brackets : Brackets) (n : ℕ) (before rest : List ℕ) (b : ℕ) → 0 < n → n ≤ length (b ∷ rest) →
    tokens_from brackets (before ++ b ∷ []) (n - 1) rest ≡ tokens_from brackets (before ++ take n (b ∷ rest)) 0 (drop n (b ∷ rest))
passed-piece brackets zero before rest b some h = absurd (Prim.omega arith)
passed-piece brackets (suc n) before rest b some h =
    ap (λ m. tokens_from brackets (before ++ b ∷ []) m rest) (Prim.omega arith)
    ∙ tokens-wait brackets n (before ++ b ∷ []) rest (Prim.omega arith)
    ∙ ap (λ xs. tokens_from brackets xs 0 (drop n rest)) (append_assoc before (b ∷ []) (take n rest))

-- a piece, and what is behind it
tokens-piece : (brackets : Brackets) (next : Piece) (before rest : List ℕ) → 0 < length_of next → length_of next ≤ length rest →
    piece_at (is_inside brackets) (is_blank_line before) rest ≡ next →
    tokens_from brackets before 0 rest
    ≡ with_piece next before (tokens_from (counted next (get_or rest 0 0) brackets) (before ++ take (length_of next) rest) 0 (drop (length_of next) rest))
unfolding tokens_from
tokens-piece brackets next before [] some h e = absurd (Prim.omega arith)
tokens-piece brackets next before (b ∷ rest) some h e =
    ap (λ (p : Piece). with_piece p before (tokens_from (counted p b brackets) (before ++ b ∷ []) (length_of p - 1) rest)) e
    ∙ ap (with_piece next before) (passed-piece (counted next b brackets) (length_of next) before rest b some h)

pub left-piece : (brackets : Brackets) (text : List ℕ) (next : Piece) (place : ℕ) (blank : Bool) → 0 < length_of next → place + length_of next ≤ length text →
    blank ≡ is_blank_line (take place text) → piece_at (is_inside brackets) blank (drop place text) ≡ next →
    left_from brackets text place ≡ with_piece next (take place text) (left_from (counted next (get_or text place 0) brackets) text (place + length_of next))
unfolding left_from
left-piece brackets text next place blank some h b e =
    let behind = counted next (get_or text place 0) brackets in
    tokens-piece brackets next (take place text) (drop place text) some (Prim.omega (arith, length-drop place text)) (ap (λ z. piece_at (is_inside brackets) z (drop place text)) (sym b) ∙ e)
    ∙ ap (λ byte. with_piece next (take place text) (tokens_from (counted next byte brackets) (take place text ++ take (length_of next) (drop place text)) 0 (drop (length_of next) (drop place text))))
    (get_or-drop place text 0 0 ∙ ap (λ n. get_or text n 0) (Prim.omega arith))
    ∙ ap (with_piece next (take place text))
    (ap (λ xs. tokens_from behind xs 0 (drop (length_of next) (drop place text))) (sym (take-add place (length_of next) text))
    ∙ ap (tokens_from behind (take (place + length_of next) text) 0) (drop-drop (length_of next) place text))

tokens-end : (brackets : Brackets) (before rest : List ℕ) → piece_at (is_inside brackets) (is_blank_line before) rest ≡ piece.End →
    tokens_from brackets before 0 rest ≡ record { tokens = []; fault = None }
unfolding tokens_from
tokens-end brackets before [] e = ap (λ (p : Piece). with_piece p before (record { tokens = []; fault = None })) e
tokens-end brackets before (b ∷ rest) e =
    ap (λ (p : Piece). with_piece p before (tokens_from (counted p b brackets) (before ++ b ∷ []) (length_of p - 1) rest)) e

tokens-bad : (brackets : Brackets) (before rest : List ℕ) → piece_at (is_inside brackets) (is_blank_line before) rest ≡ piece.Bad →
    tokens_from brackets before 0 rest ≡ record { tokens = []; fault = Some (length before) }
unfolding tokens_from
tokens-bad brackets before [] e = ap (λ (p : Piece). with_piece p before (record { tokens = []; fault = None })) e
tokens-bad brackets before (b ∷ rest) e =
    ap (λ (p : Piece). with_piece p before (tokens_from (counted p b brackets) (before ++ b ∷ []) (length_of p - 1) rest)) e

-- nothing is left where the text ends
pub left-end : (brackets : Brackets) (text : List ℕ) (place : ℕ) (blank : Bool) →
    blank ≡ is_blank_line (take place text) → piece_at (is_inside brackets) blank (drop place text) ≡ piece.End →
    left_from brackets text place ≡ record { tokens = []; fault = None }
unfolding left_from
left-end brackets text place blank b e =
    tokens-end brackets (take place text) (drop place text) (ap (λ z. piece_at (is_inside brackets) z (drop place text)) (sym b) ∙ e)

-- the fault is left where a piece is bad
pub left-bad : (brackets : Brackets) (text : List ℕ) (place : ℕ) (blank : Bool) → place ≤ length text →
    blank ≡ is_blank_line (take place text) → piece_at (is_inside brackets) blank (drop place text) ≡ piece.Bad →
    left_from brackets text place ≡ record { tokens = []; fault = Some place }
unfolding left_from
left-bad brackets text place blank h b e =
    tokens-bad brackets (take place text) (drop place text) (ap (λ z. piece_at (is_inside brackets) z (drop place text)) (sym b) ∙ e)
    ∙ ap (λ n. record { tokens = []; fault = Some n }) (length-take place text ∙ Prim.omega arith)

-- one more byte: the lines that end, and whether the line is blank so far
pub line_ends-push : (xs : List ℕ) (b : ℕ) → count_by is_line_end (xs ++ b ∷ []) ≡ count_by is_line_end xs + cond (is_line_end b) 1 0
line_ends-push xs b = sum_by-append (λ x. cond (is_line_end x) 1 0) xs (b ∷ []) ∙ Prim.omega arith

rest-push : (xs : List ℕ) (b n : ℕ) (ends : Bool) → n ≤ length xs →
    drop (length (xs ++ b ∷ []) - cond (not ends) (1 + n) 0) (xs ++ b ∷ []) ≡ cond ends [] (drop (length xs - n) xs ++ b ∷ [])
rest-push xs b n true h = drop_all (length (xs ++ b ∷ []) - 0) (xs ++ b ∷ []) (Prim.omega arith)
rest-push xs b n false h =
    ap (λ m. drop m (xs ++ b ∷ [])) (Prim.omega (arith, length_push xs b))
    ∙ drop-append-le (length xs - n) xs (b ∷ []) (Prim.omega arith)

after_last-push : (p : ℕ → Bool) (xs : List ℕ) (b : ℕ) → after_last p (xs ++ b ∷ []) ≡ cond (p b) [] (after_last p xs ++ b ∷ [])
after_last-push p xs b =
    ap (λ (ys : List ℕ). drop (length (xs ++ b ∷ []) - prefix_len (λ x. not (p x)) ys) (xs ++ b ∷ [])) (reverse-append xs (b ∷ []))
    ∙ rest-push xs b (suffix_len (λ x. not (p x)) xs) (p b) (suffix_len-le-length (λ x. not (p x)) xs)

all_or_nothing : (ends : Bool) (xs : List ℕ) (b : ℕ) → list_all is_blank (cond ends [] (xs ++ b ∷ [])) ≡ cond ends true (list_all is_blank xs && is_blank b)
all_or_nothing true xs b = refl
all_or_nothing false xs b = list_all-append is_blank xs (b ∷ []) ∙ Prim.grind arith

last_line-push : (xs : List ℕ) (b : ℕ) → last_line (xs ++ b ∷ []) ≡ cond (is_line_end b) [] (last_line xs ++ b ∷ [])
unfolding last_line
last_line-push xs b = after_last-push is_line_end xs b

pub blank_line-push : (xs : List ℕ) (b : ℕ) → is_blank_line (xs ++ b ∷ []) ≡ cond (is_line_end b) true (is_blank_line xs && is_blank b)
unfolding is_blank_line
blank_line-push xs b = ap (list_all is_blank) (last_line-push xs b) ∙ all_or_nothing (is_line_end b) (last_line xs) b

grown : (before items : List ℕ) (i : ℕ) → i < length items → before ++ take (i + 1) items ≡ (before ++ take i items) ++ get_or items i 0 ∷ []
grown before items i h = ap (λ xs. before ++ xs) (take_more items i 0 h) ∙ sym (append_assoc before (take i items) (get_or items i 0 ∷ []))

pub line_ends-more : (before items : List ℕ) (i n m : ℕ) → i < length items → n ≡ count_by is_line_end (before ++ take i items) →
    n + cond (is_line_end (get_or items i 0)) 1 0 ≡ m → m ≡ count_by is_line_end (before ++ take (i + 1) items)
line_ends-more before items i n m h e k =
    sym k ∙ ap (λ x. x + cond (is_line_end (get_or items i 0)) 1 0) e
    ∙ sym (line_ends-push (before ++ take i items) (get_or items i 0)) ∙ ap (count_by is_line_end) (sym (grown before items i h))

pub blank-more : (before items : List ℕ) (i : ℕ) (p q : Bool) → i < length items → p ≡ is_blank_line (before ++ take i items) →
    cond (is_line_end (get_or items i 0)) true (p && is_blank (get_or items i 0)) ≡ q → q ≡ is_blank_line (before ++ take (i + 1) items)
blank-more before items i p q h e k =
    sym k ∙ ap (λ x. cond (is_line_end (get_or items i 0)) true (x && is_blank (get_or items i 0))) e
    ∙ sym (blank_line-push (before ++ take i items) (get_or items i 0)) ∙ ap is_blank_line (sym (grown before items i h))

-- all bytes of a part have been passed
pub passed-all : (text : List ℕ) (place count i : ℕ) → place + count ≤ length text → length (take count (drop place text)) ≤ i →
    take place text ++ take i (take count (drop place text)) ≡ take (place + count) text
passed-all text place count i h k = ap (λ xs. take place text ++ xs) (take_all i (take count (drop place text)) k) ∙ sym (take-add place count text)

-- what is left is told by the counts of brackets, the text and the place
pub same_left : (opened closed opened' closed' : ℕ) (text text' : List ℕ) (place place' : ℕ) → opened ≡ opened' → closed ≡ closed' → text ≡ text' → place ≡ place' →
    left_from (record { opened = opened; closed = closed }) text place ≡ left_from (record { opened = opened'; closed = closed' }) text' place'
same_left opened closed opened' closed' text text' place place' o c t p = Prim.cc

pub same_remaining : (text text' : List ℕ) (left left' : TokenList) (now : Remaining) → text ≡ text' → left ≡ left' → record { text = text'; left = left' } ≡ now → record { text = text; left = left } ≡ now
same_remaining text text' left left' now t l e = Prim.cc

-- ---- the tokens stand in order
later : (from from' most : ℕ) (tokens : List Token) → from' ≤ from → AreInOrder from most tokens → AreInOrder from' most tokens
later from from' most [] h k = tt
later from from' most (t ∷ ts) h k = (Prim.omega (arith, k.0), k.1, k.2)

order-piece : (next : Piece) (before : List ℕ) (most : ℕ) (behind : TokenList) → Fits next most →
    AreInOrder (length before + length_of next) (length before + most) behind.tokens → AreInOrder (length before) (length before + most) (with_piece next before behind).tokens
order-piece piece.End before most behind fits h = tt
order-piece piece.Bad before most behind fits h = tt
order-piece (piece.Gap n) before most behind fits h = later (length before + n) (length before) (length before + most) behind.tokens (Prim.omega arith) h
order-piece (piece.Token k n) before most behind fits h = (Prim.omega arith, (Prim.omega arith, Prim.omega arith), h)

order-none : (inside : Bool) (blank : Bool) (before : List ℕ) → AreInOrder (length before) (length before + 0) (with_piece (piece_at inside blank []) before (record { tokens = []; fault = None })).tokens
unfolding piece_at
order-none true blank before = tt
order-none false blank before = tt

moved : (from from' most most' : ℕ) (tokens : List Token) → from' ≤ from → most ≡ most' → AreInOrder from most tokens → AreInOrder from' most' tokens
moved from from' most most' tokens h e k = later from from' most' tokens h (subst (λ m. AreInOrder from m tokens) e k)

length-fits : (next : Piece) (most : ℕ) → Fits next most → length_of next ≤ most
length-fits piece.End most h = Prim.omega arith
length-fits piece.Bad most h = Prim.omega arith
length-fits (piece.Gap n) most h = h.1
length-fits (piece.Token k n) most h = h.1

order-from : (brackets : Brackets) (n : ℕ) (before rest : List ℕ) → n ≤ length rest →
    AreInOrder (length before + n) (length before + length rest) (tokens_from brackets before n rest).tokens
unfolding tokens_from
order-from brackets n before [] h =
    later (length before) (length before + n) (length before + 0) _ (Prim.omega arith) (order-none (is_inside brackets) (is_blank_line before) before)
order-from brackets (suc n) before (b ∷ rest) h =
    moved (length (before ++ b ∷ []) + n) (length before + suc n) (length (before ++ b ∷ []) + length rest) (length before + suc (length rest)) _
    (Prim.omega (arith, length_push before b)) (Prim.omega (arith, length_push before b))
    (order-from brackets n (before ++ b ∷ []) rest (Prim.omega arith))
order-from brackets zero before (b ∷ rest) h =
    let next : Piece = piece_at (is_inside brackets) (is_blank_line before) (b ∷ rest) in
    let fits : Fits next (suc (length rest)) = fits-piece (is_inside brackets) (is_blank_line before) (b ∷ rest) in
    let short : length_of next ≤ suc (length rest) = length-fits next (suc (length rest)) fits in
    later (length before) (length before + 0) (length before + suc (length rest)) _ (Prim.omega arith)
    (order-piece next before (suc (length rest)) _ fits
    (moved (length (before ++ b ∷ []) + (length_of next - 1)) (length before + length_of next) (length (before ++ b ∷ []) + length rest) (length before + suc (length rest)) _
    (Prim.omega (arith, length_push before b)) (Prim.omega (arith, length_push before b))
    (order-from (counted next b brackets) (length_of next - 1) (before ++ b ∷ []) rest (Prim.omega arith))))

pub tokens_in_order : (text : List ℕ) → AreInOrder 0 (length text) (token_list text).tokens
unfolding token_list
tokens_in_order text = moved (0 + 0) 0 (0 + length text) (length text) _ (Prim.omega arith) (Prim.omega arith) (order-from (record { opened = 0; closed = 0 }) 0 [] text (Prim.omega arith))
