-- What the pieces of a grammatical text are, and the tokens from each of them on.
use Rattle.std.proofs.Common.{◌≡◌, ◌≢◌, ℕ, suc, ◌+◌, ◌&&◌, ◌⊎◌, Bool, true, false, not, List, [], ◌∷◌, ◌++◌, length, take, drop, refl, sym, ap, subst, ◌∙◌, arith, Option, Some, cond, inl, inr, append_assoc, append-nil, length-append}
use Rattle.std.specs.List.{AllByRecursion, position_or_len, before_first}
use Rattle.std.proofs.lemmas.List.{take_at, drop_at}
use Rattle.std.proofs.lemmas.Bool.{ne_eqb, eq-eqb, or_parts, cond-true, cond-false}
use Rattle.scaled_decimal.specs.Reading.{is_number_text}
use Rattle.case_tokens.specs.declared.Kind.TheVariants as kind
use Rattle.case_tokens.specs.declared.pieces.Piece.TheVariants as piece
use Rattle.case_tokens.specs.Bytes.{is_line_end, is_blank, is_quote, is_percent, is_mark, is_opening, is_closing, ends_run}
use Rattle.case_tokens.specs.Pieces.{piece_at, comment_at, is_block_rest, is_continuation, string_length, more, is_parted, quoted_at, run_at}
use Rattle.case_tokens.specs.TokenLists.{is_inside, is_blank_line, with_first}
use Rattle.case_grammar.specs.Gaps.{IsOnLine}
use Rattle.case_grammar.specs.Values.{Character, one, doubled, characters_text, IsCharacter, IsString}
use Rattle.case_grammar.proofs.Lines.{IsBlockless}
use Rattle.case_grammar.proofs.Texts.{characters_before, characters-before, IsRest}
use Rattle.case_grammar.proofs.Places.{opened, tokens_at, token_at, before_of, before-is, at-gap, at-token}

-- ---- how long a line is
-- the bytes begin with a line end, or there are none
abbrev pub IsAtLineEnd : List ℕ → Type 0
IsAtLineEnd [] = Unit {0}
IsAtLineEnd (b ∷ rest) = b ≡ 10

pub line-length : (c rest : List ℕ) → IsOnLine c → IsAtLineEnd rest → position_or_len is_line_end (c ++ rest) ≡ length c
line-length [] [] h k = refl
line-length [] (b ∷ rest) h k = Prim.rw k refl
line-length (x ∷ c) rest h k = let behind = line-length c rest h.1 k in Prim.rw (ne_eqb x 10 h.0) (Prim.omega arith)

-- ---- what parts tokens
piece-blank : (inside blank : Bool) (b : ℕ) (rest : List ℕ) → is_blank b ≡ true → piece_at inside blank (b ∷ rest) ≡ piece.Gap 1
unfolding piece_at
piece-blank inside blank b rest h = cond-true (is_blank b) _ _ h

pub at-blank : (text : List ℕ) (depth b : ℕ) (rest : List ℕ) → IsRest text (b ∷ rest) → is_blank b ≡ true → tokens_at text depth (b ∷ rest) ≡ tokens_at text depth rest
at-blank text depth b rest r h = at-gap text depth b [] rest r (piece-blank (is_inside (opened depth)) _ b rest h)

piece-continued : (inside blank : Bool) (c rest : List ℕ) → IsOnLine c → piece_at inside blank (46 ∷ 46 ∷ 46 ∷ (c ++ 10 ∷ rest)) ≡ piece.Gap (suc (length (46 ∷ 46 ∷ (c ++ 10 ∷ []))))
unfolding piece_at
piece-continued inside blank c rest on =
    ap (λ n. piece.Gap n) (Prim.omega (arith, line-length c (10 ∷ rest) on refl, length-append c (10 ∷ rest), length-append c (10 ∷ [])))

pub at-continued : (text : List ℕ) (depth : ℕ) (c rest : List ℕ) → IsRest text (46 ∷ 46 ∷ 46 ∷ (c ++ 10 ∷ rest)) → IsOnLine c →
    tokens_at text depth (46 ∷ 46 ∷ 46 ∷ (c ++ 10 ∷ rest)) ≡ tokens_at text depth rest
at-continued text depth c rest r on =
    let e : (c ++ 10 ∷ []) ++ rest ≡ c ++ 10 ∷ rest = append_assoc c (10 ∷ []) rest in
    ap (λ xs. tokens_at text depth (46 ∷ 46 ∷ 46 ∷ xs)) (sym e)
    ∙ at-gap text depth 46 (46 ∷ 46 ∷ (c ++ 10 ∷ [])) rest (subst (λ xs. IsRest text (46 ∷ 46 ∷ 46 ∷ xs)) (sym e) r)
    (ap (λ xs. piece_at (is_inside (opened depth)) (is_blank_line (before_of text (46 ∷ 46 ∷ 46 ∷ ((c ++ 10 ∷ []) ++ rest)))) (46 ∷ 46 ∷ 46 ∷ xs)) e
    ∙ piece-continued (is_inside (opened depth)) _ c rest on)

piece-unended : (inside blank : Bool) (c : List ℕ) → IsOnLine c → piece_at inside blank (46 ∷ 46 ∷ 46 ∷ (c ++ [])) ≡ piece.Gap (suc (length (46 ∷ 46 ∷ c)))
unfolding piece_at
piece-unended inside blank c on = ap (λ n. piece.Gap n) (Prim.omega (arith, line-length c [] on tt, length-append c []))

pub at-unended : (text : List ℕ) (depth : ℕ) (c : List ℕ) → IsRest text (46 ∷ 46 ∷ 46 ∷ c) → IsOnLine c → tokens_at text depth (46 ∷ 46 ∷ 46 ∷ c) ≡ tokens_at text depth []
at-unended text depth c r on =
    let e : c ++ [] ≡ c = append-nil c in
    ap (λ xs. tokens_at text depth (46 ∷ 46 ∷ 46 ∷ xs)) (sym e)
    ∙ at-gap text depth 46 (46 ∷ 46 ∷ c) [] (subst (λ xs. IsRest text (46 ∷ 46 ∷ 46 ∷ xs)) (sym e) r) (piece-unended (is_inside (opened depth)) _ c on)

piece-comment : (inside blank : Bool) (c rest : List ℕ) → IsOnLine c → IsAtLineEnd rest → (blank && is_block_rest (before_first is_line_end (37 ∷ (c ++ rest)))) ≡ false →
    piece_at inside blank (37 ∷ (c ++ rest)) ≡ piece.Gap (suc (length c))
unfolding piece_at comment_at
piece-comment inside blank c rest on k never =
    cond-false (blank && is_block_rest (before_first is_line_end (37 ∷ (c ++ rest)))) _ _ never ∙ ap (λ n. piece.Gap n) (Prim.omega (arith, line-length c rest on k))

-- where no block comment may stand
no-block : (text rest : List ℕ) → IsBlockless text → IsRest text rest → (is_blank_line (before_of text rest) && is_block_rest (before_first is_line_end rest)) ≡ false
no-block text rest never r = by_tests (is_blank_line (before_of text rest)) (is_block_rest (before_first is_line_end rest)) refl refl where
  by_tests : (x y : Bool) → is_blank_line (before_of text rest) ≡ x → is_block_rest (before_first is_line_end rest) ≡ y → (x && y) ≡ false
  by_tests true true h k = absurd (never r.before rest r.is (ap is_blank_line (sym (before-is text r.before rest r.is)) ∙ h) k)
  by_tests true false h k = refl
  by_tests false y h k = refl

pub at-comment_by : (text : List ℕ) (depth : ℕ) (c rest : List ℕ) → (is_blank_line (before_of text (37 ∷ (c ++ rest))) && is_block_rest (before_first is_line_end (37 ∷ (c ++ rest)))) ≡ false →
    IsRest text (37 ∷ (c ++ rest)) → IsOnLine c → IsAtLineEnd rest → tokens_at text depth (37 ∷ (c ++ rest)) ≡ tokens_at text depth rest
at-comment_by text depth c rest never r on k = at-gap text depth 37 c rest r (piece-comment (is_inside (opened depth)) _ c rest on k never)

pub at-comment : (text : List ℕ) (depth : ℕ) (c rest : List ℕ) → IsBlockless text → IsRest text (37 ∷ (c ++ rest)) → IsOnLine c → IsAtLineEnd rest →
    tokens_at text depth (37 ∷ (c ++ rest)) ≡ tokens_at text depth rest
at-comment text depth c rest never r on k = at-comment_by text depth c rest (no-block text (37 ∷ (c ++ rest)) never r) r on k

-- ---- line ends and marks
pub at-line_end : (text : List ℕ) (depth : ℕ) (rest : List ℕ) → IsRest text (10 ∷ rest) →
    tokens_at text depth (10 ∷ rest) ≡ with_first (token_at text (10 ∷ rest) kind.LineEnd 1) (tokens_at text depth rest)
unfolding piece_at
at-line_end text depth rest r = at-token text depth depth kind.LineEnd 10 [] rest r refl refl

pub at-comma : (text : List ℕ) (depth : ℕ) (rest : List ℕ) → IsRest text (44 ∷ rest) →
    tokens_at text depth (44 ∷ rest) ≡ with_first (token_at text (44 ∷ rest) kind.Mark 1) (tokens_at text depth rest)
unfolding piece_at
at-comma text depth rest r = at-token text depth depth kind.Mark 44 [] rest r refl refl

pub at-semicolon : (text : List ℕ) (depth : ℕ) (rest : List ℕ) → IsRest text (59 ∷ rest) →
    tokens_at text depth (59 ∷ rest) ≡ with_first (token_at text (59 ∷ rest) kind.Mark 1) (tokens_at text depth rest)
unfolding piece_at
at-semicolon text depth rest r = at-token text depth depth kind.Mark 59 [] rest r refl refl

pub at-equals : (text : List ℕ) (rest : List ℕ) → IsRest text (61 ∷ rest) →
    tokens_at text 0 (61 ∷ rest) ≡ with_first (token_at text (61 ∷ rest) kind.Mark 1) (tokens_at text 0 rest)
unfolding piece_at
at-equals text rest r = at-token text 0 0 kind.Mark 61 [] rest r refl refl

pub at-square : (text : List ℕ) (depth : ℕ) (rest : List ℕ) → IsRest text (91 ∷ rest) →
    tokens_at text depth (91 ∷ rest) ≡ with_first (token_at text (91 ∷ rest) kind.Mark 1) (tokens_at text (suc depth) rest)
unfolding piece_at
at-square text depth rest r = at-token text depth (suc depth) kind.Mark 91 [] rest r refl (Prim.omega arith)

pub at-curly : (text : List ℕ) (depth : ℕ) (rest : List ℕ) → IsRest text (123 ∷ rest) →
    tokens_at text depth (123 ∷ rest) ≡ with_first (token_at text (123 ∷ rest) kind.Mark 1) (tokens_at text (suc depth) rest)
unfolding piece_at
at-curly text depth rest r = at-token text depth (suc depth) kind.Mark 123 [] rest r refl (Prim.omega arith)

pub at-square_end : (text : List ℕ) (depth : ℕ) (rest : List ℕ) → IsRest text (93 ∷ rest) →
    tokens_at text (suc depth) (93 ∷ rest) ≡ with_first (token_at text (93 ∷ rest) kind.Mark 1) (tokens_at text depth rest)
unfolding piece_at
at-square_end text depth rest r = at-token text (suc depth) depth kind.Mark 93 [] rest r refl (Prim.omega arith)

pub at-curly_end : (text : List ℕ) (depth : ℕ) (rest : List ℕ) → IsRest text (125 ∷ rest) →
    tokens_at text (suc depth) (125 ∷ rest) ≡ with_first (token_at text (125 ∷ rest) kind.Mark 1) (tokens_at text depth rest)
unfolding piece_at
at-curly_end text depth rest r = at-token text (suc depth) depth kind.Mark 125 [] rest r refl (Prim.omega arith)

-- ---- strings
-- the bytes do not go on with the quote
abbrev pub GoesOnWithout : ℕ → List ℕ → Type 0
GoesOnWithout quote [] = Unit {0}
GoesOnWithout quote (b ∷ rest) = b ≢ quote

string-on : (quote b : ℕ) (rest : List ℕ) → b ≢ 10 → b ≢ quote → string_length quote (b ∷ rest) ≡ more 1 (string_length quote rest)
unfolding string_length
string-on quote b [] line other = Prim.rw (ne_eqb b quote other) refl
string-on quote b (c ∷ rest) line other = Prim.rw (ne_eqb b 10 line, ne_eqb b quote other) refl

string-doubled : (quote : ℕ) (rest : List ℕ) → quote ≢ 10 → string_length quote (quote ∷ quote ∷ rest) ≡ more 2 (string_length quote rest)
unfolding string_length
string-doubled quote rest line = Prim.rw (ne_eqb quote 10 line, eq-eqb quote quote refl) refl

string-closed : (quote : ℕ) (rest : List ℕ) → quote ≢ 10 → GoesOnWithout quote rest → string_length quote (quote ∷ rest) ≡ Some 1
unfolding string_length
string-closed quote [] line other = Prim.rw (eq-eqb quote quote refl) refl
string-closed quote (c ∷ rest) line other = Prim.rw (ne_eqb quote 10 line, eq-eqb quote quote refl, ne_eqb c quote other) refl

more-some : (m n k : ℕ) (found : Option ℕ) → found ≡ Some n → m + n ≡ k → more m found ≡ Some k
more-some m n k found e d = ap (more m) e ∙ ap (λ j. Some j) d

characters-length : (quote : ℕ) (characters : List Character) (rest : List ℕ) → quote ≢ 10 → AllByRecursion (IsCharacter quote) characters → GoesOnWithout quote rest →
    string_length quote (characters_before quote characters (quote ∷ rest)) ≡ Some (length (characters_text quote characters) + 1)
characters-length quote [] rest line h other = string-closed quote rest line other
characters-length quote (one byte ∷ characters) rest line h other =
    string-on quote byte (characters_before quote characters (quote ∷ rest)) (h.0).1 (h.0).0
    ∙ more-some 1 (length (characters_text quote characters) + 1) (suc (length (characters_text quote characters)) + 1) _ (characters-length quote characters rest line h.1 other) (Prim.omega arith)
characters-length quote (doubled ∷ characters) rest line h other =
    string-doubled quote (characters_before quote characters (quote ∷ rest)) line
    ∙ more-some 2 (length (characters_text quote characters) + 1) (suc (suc (length (characters_text quote characters))) + 1) _ (characters-length quote characters rest line h.1 other) (Prim.omega arith)

-- the bytes of a string behind its opening quote
abbrev pub string_rest : ℕ → List Character → List ℕ
string_rest quote characters = characters_text quote characters ++ quote ∷ []

quoted : (inside : Bool) (n : ℕ) (found : Option ℕ) (xs : List ℕ) → found ≡ Some n → (inside && not (is_parted (drop (n + 1) xs))) ≡ false → quoted_at inside found xs ≡ piece.Token kind.Text (n + 1)
unfolding quoted_at
quoted inside n found xs e never = ap (λ (f : Option ℕ). quoted_at inside f xs) e ∙ cond-false (inside && not (is_parted (drop (n + 1) xs))) _ _ never

pub piece-quote : (inside blank : Bool) (quote : ℕ) (rest : List ℕ) → (quote ≡ 39) ⊎ (quote ≡ 34) → piece_at inside blank (quote ∷ rest) ≡ quoted_at inside (string_length quote rest) (quote ∷ rest)
unfolding piece_at
piece-quote inside blank quote rest (inl e) = subst (λ q. piece_at inside blank (q ∷ rest) ≡ quoted_at inside (string_length q rest) (q ∷ rest)) (sym e) refl
piece-quote inside blank quote rest (inr e) = subst (λ q. piece_at inside blank (q ∷ rest) ≡ quoted_at inside (string_length q rest) (q ∷ rest)) (sym e) refl

no_line : (quote : ℕ) → (quote ≡ 39) ⊎ (quote ≡ 34) → quote ≢ 10
no_line quote (inl e) k = Prim.omega arith
no_line quote (inr e) k = Prim.omega arith

no_bracket : (quote : ℕ) → (quote ≡ 39) ⊎ (quote ≡ 34) → (is_opening quote ≡ false) × (is_closing quote ≡ false)
no_bracket quote (inl e) = subst (λ q. (is_opening q ≡ false) × (is_closing q ≡ false)) (sym e) (refl, refl)
no_bracket quote (inr e) = subst (λ q. (is_opening q ≡ false) × (is_closing q ≡ false)) (sym e) (refl, refl)

stays : (depth b : ℕ) → is_opening b ≡ false → is_closing b ≡ false → depth + cond (is_opening b) 1 0 ≡ depth + cond (is_closing b) 1 0
stays depth b o c = ap (λ t. depth + cond t 1 0) (o ∙ sym c)

pub string-bytes : (quote : ℕ) (characters : List Character) (rest : List ℕ) → characters_before quote characters (quote ∷ rest) ≡ string_rest quote characters ++ rest
string-bytes quote characters rest = characters-before quote characters (quote ∷ rest) ∙ sym (append_assoc (characters_text quote characters) (quote ∷ []) rest)

pub at-string : (text : List ℕ) (depth quote : ℕ) (characters : List Character) (rest : List ℕ) → IsRest text (quote ∷ characters_before quote characters (quote ∷ rest)) →
    IsString quote characters → GoesOnWithout quote rest → (is_inside (opened depth) && not (is_parted rest)) ≡ false →
    tokens_at text depth (quote ∷ characters_before quote characters (quote ∷ rest))
    ≡ with_first (token_at text (quote ∷ (string_rest quote characters ++ rest)) kind.Text (suc (length (string_rest quote characters)))) (tokens_at text depth rest)
at-string text depth quote characters rest r s other parted =
    let e = string-bytes quote characters rest in
    let n : ℕ = length (characters_text quote characters) + 1 in
    let size : length (string_rest quote characters) ≡ n = length-append (characters_text quote characters) (quote ∷ []) in
    ap (λ xs. tokens_at text depth (quote ∷ xs)) e
    ∙ at-token text depth depth kind.Text quote (string_rest quote characters) rest (subst (λ xs. IsRest text (quote ∷ xs)) e r)
    (piece-quote (is_inside (opened depth)) _ quote (string_rest quote characters ++ rest) s.0
    ∙ quoted (is_inside (opened depth)) n (string_length quote (string_rest quote characters ++ rest)) (quote ∷ (string_rest quote characters ++ rest))
    (ap (string_length quote) (sym e) ∙ characters-length quote characters rest (no_line quote s.0) s.1 other)
    (ap (λ xs. is_inside (opened depth) && not (is_parted xs)) (drop_at (quote ∷ string_rest quote characters) rest (n + 1) (Prim.omega arith)) ∙ parted)
    ∙ ap (λ m. piece.Token kind.Text m) (Prim.omega arith))
    (stays depth quote (no_bracket quote s.0).0 (no_bracket quote s.0).1)

-- ---- runs
abbrev pub IsRun : Bool → List ℕ → Type 0
IsRun inside bytes = AllByRecursion (λ byte. ends_run inside byte ≡ false) bytes

-- a run ends before these bytes
abbrev pub EndsRun : Bool → List ℕ → Type 0
EndsRun inside [] = Unit {0}
EndsRun inside (b ∷ rest) = ends_run inside b ≡ true

pub run-length : (inside : Bool) (bytes rest : List ℕ) → IsRun inside bytes → EndsRun inside rest → position_or_len (ends_run inside) (bytes ++ rest) ≡ length bytes
run-length inside [] [] h k = refl
run-length inside [] (b ∷ rest) h k = Prim.rw k refl
run-length inside (b ∷ bytes) rest h k = let behind = run-length inside bytes rest h.1 k in Prim.rw h.0 (Prim.omega arith)

pub piece-run : (inside blank : Bool) (b : ℕ) (rest : List ℕ) → ends_run inside b ≡ false → is_continuation (b ∷ rest) ≡ false →
    piece_at inside blank (b ∷ rest) ≡ run_at inside (position_or_len (ends_run inside) (b ∷ rest)) (b ∷ rest)
unfolding piece_at
piece-run inside blank b rest h k =
    let p = or_parts _ _ h in
    let q = or_parts _ _ p.0 in
    let s = or_parts _ _ q.0 in
    let t = or_parts _ _ s.0 in
    cond-false (is_blank b) _ _ t.0 ∙ cond-false (is_line_end b) _ _ t.1 ∙ cond-false (is_percent b) _ _ q.1 ∙ cond-false (is_continuation (b ∷ rest)) _ _ k
    ∙ cond-false (is_mark inside b) _ _ p.1 ∙ cond-false (is_quote b) _ _ s.1

run : (inside : Bool) (n : ℕ) (xs : List ℕ) → (inside && not (is_number_text (take n xs) && is_parted (drop n xs))) ≡ false → run_at inside n xs ≡ piece.Token kind.Run n
unfolding run_at
run inside n xs never = cond-false (inside && not (is_number_text (take n xs) && is_parted (drop n xs))) _ _ never

no_opening : (inside : Bool) (b : ℕ) → ends_run inside b ≡ false → (is_opening b ≡ false) × (is_closing b ≡ false)
no_opening inside b h =
    let marks = or_parts _ _ (or_parts _ _ h).1 in
    let brackets = or_parts _ _ marks.0 in
    ((or_parts _ _ brackets.0).1, brackets.1)

pub at-run : (text : List ℕ) (depth b : ℕ) (bytes rest : List ℕ) → IsRest text (b ∷ (bytes ++ rest)) → IsRun (is_inside (opened depth)) (b ∷ bytes) → EndsRun (is_inside (opened depth)) rest →
    is_continuation (b ∷ (bytes ++ rest)) ≡ false → (is_inside (opened depth) && not (is_number_text (b ∷ bytes) && is_parted rest)) ≡ false →
    tokens_at text depth (b ∷ (bytes ++ rest)) ≡ with_first (token_at text (b ∷ (bytes ++ rest)) kind.Run (suc (length bytes))) (tokens_at text depth rest)
at-run text depth b bytes rest r h ends never ok =
    let inside : Bool = is_inside (opened depth) in
    let xs : List ℕ = b ∷ (bytes ++ rest) in
    at-token text depth depth kind.Run b bytes rest r
    (piece-run inside _ b (bytes ++ rest) h.0 never
    ∙ ap (λ n. run_at inside n xs) (run-length inside (b ∷ bytes) rest h ends)
    ∙ run inside (suc (length bytes)) xs
    (ap (λ ys. inside && not (is_number_text ys && is_parted (drop (suc (length bytes)) xs))) (take_at (b ∷ bytes) rest (suc (length bytes)) refl)
    ∙ ap (λ ys. inside && not (is_number_text (b ∷ bytes) && is_parted ys)) (drop_at (b ∷ bytes) rest (suc (length bytes)) refl) ∙ ok))
    (stays depth b (no_opening inside b h.0).0 (no_opening inside b h.0).1)
