-- What the pieces of a text are like.
use Rattle.std.proofs.Common.{subst, inl, inr, ◌⊎◌, ◌≡◌, ℕ, ◌+◌, ◌<◌, ◌≤◌, ◌≢◌, ◌==◌, ◌||◌, ◌&&◌, Bool, true, false, List, [], ◌∷◌, length, drop, get_or, refl, sym, ap, ◌∙◌, arith, Option, Some, None, not, cond, add-one, eq-eqb}
use Rattle.std.specs.List.{position_or_len}
use Rattle.std.proofs.lemmas.Bool.{ne_eqb, false≢true, and_parts}
use Rattle.std.proofs.lemmas.List.Sums.{prefix_len-le-length}
use Rattle.std.proofs.lemmas.List.{get_or-drop, length-drop, length-take}
use Rattle.std.proofs.Math.Seq.{drop-cons}
use Rattle.std.specs.List.{before_first}
use Rattle.std.specs.Prelude.{IfSome, take}
use Rattle.case_tokens.specs.declared.pieces.Piece.{Piece}
use Rattle.case_tokens.specs.declared.pieces.Piece.TheVariants as piece
use Rattle.scaled_decimal.specs.Reading.{is_number_text}
use Rattle.case_tokens.specs.Bytes.{is_line_end, is_quote, is_blank, is_percent, is_mark, ends_run}
use Rattle.case_tokens.specs.Pieces.{more, string_length, Fits, IsNoGap, piece_at, comment_at, quoted_at, run_at, is_block_rest, is_parted, is_continuation}

pub place_within : (p : ℕ → Bool) (xs : List ℕ) → position_or_len p xs ≤ length xs
place_within p xs = prefix_len-le-length (λ x. not (p x)) xs

or_no : (a b : Bool) → a ≡ false → b ≡ false → (a || b) ≡ false
or_no a b h k = Prim.rw (h, k) refl

pub more-more : (m n : ℕ) (found : Option ℕ) → more m (more n found) ≡ more (m + n) found
more-more m n None = refl
more-more m n (Some k) = ap (λ j. Some j) (Prim.omega arith)

at_place : (xs : List ℕ) (at : ℕ) → at < length xs → drop at xs ≡ get_or xs at 0 ∷ drop (at + 1) xs
at_place xs at h = Prim.rw (add-one, drop-cons xs at 0) refl

string-on : (quote b : ℕ) (rest : List ℕ) → b ≢ 10 → b ≢ quote → string_length quote (b ∷ rest) ≡ more 1 (string_length quote rest)
unfolding string_length
string-on quote b [] line other = Prim.rw (ne_eqb b quote other) refl
string-on quote b (c ∷ rest) line other = Prim.rw (ne_eqb b 10 line, ne_eqb b quote other) refl

string-doubled : (quote : ℕ) (rest : List ℕ) → quote ≢ 10 → string_length quote (quote ∷ quote ∷ rest) ≡ more 2 (string_length quote rest)
unfolding string_length
string-doubled quote rest line = Prim.rw (ne_eqb quote 10 line, eq-eqb quote quote refl) refl

string-closed : (quote : ℕ) (rest : List ℕ) → quote ≢ 10 → (0 < length rest → get_or rest 0 0 ≢ quote) → string_length quote (quote ∷ rest) ≡ Some 1
unfolding string_length
string-closed quote [] line other = Prim.rw (eq-eqb quote quote refl) refl
string-closed quote (c ∷ rest) line other = Prim.rw (ne_eqb quote 10 line, eq-eqb quote quote refl, ne_eqb c quote (other (Prim.omega arith))) refl

string-cut : (quote : ℕ) (rest : List ℕ) → quote ≢ 10 → string_length quote (10 ∷ rest) ≡ None
unfolding string_length
string-cut quote [] line = Prim.rw (ne_eqb 10 quote (λ e. line (sym e))) refl
string-cut quote (c ∷ rest) line = refl

-- the same by the place in the bytes
pub string-passes : (quote at : ℕ) (xs : List ℕ) → at < length xs → get_or xs at 0 ≢ 10 → get_or xs at 0 ≢ quote →
    string_length quote (drop at xs) ≡ more 1 (string_length quote (drop (at + 1) xs))
string-passes quote at xs h line other = ap (string_length quote) (at_place xs at h) ∙ string-on quote _ _ line other

pub string-skips : (quote at : ℕ) (xs : List ℕ) → at + 1 < length xs → quote ≢ 10 → get_or xs at 0 ≡ quote → get_or xs (at + 1) 0 ≡ quote →
    string_length quote (drop at xs) ≡ more 2 (string_length quote (drop (at + 2) xs))
string-skips quote at xs h line here next =
    ap (string_length quote) (at_place xs at (Prim.omega arith) ∙ ap (λ r. get_or xs at 0 ∷ r) (at_place xs (at + 1) h)
    ∙ ap (λ n. get_or xs at 0 ∷ get_or xs (at + 1) 0 ∷ drop n xs) (Prim.omega arith))
    ∙ ap (λ b. string_length quote (b ∷ get_or xs (at + 1) 0 ∷ drop (at + 2) xs)) here
    ∙ ap (λ b. string_length quote (quote ∷ b ∷ drop (at + 2) xs)) next
    ∙ string-doubled quote _ line

pub string-ends : (quote at : ℕ) (xs : List ℕ) → at < length xs → quote ≢ 10 → get_or xs at 0 ≡ quote → (at + 1 < length xs → get_or xs (at + 1) 0 ≢ quote) →
    string_length quote (drop at xs) ≡ Some 1
string-ends quote at xs h line here next =
    ap (string_length quote) (at_place xs at h) ∙ ap (λ b. string_length quote (b ∷ drop (at + 1) xs)) here
    ∙ string-closed quote (drop (at + 1) xs) line
    (λ some e. next (Prim.omega (arith, length-drop (at + 1) xs)) (ap (λ n. get_or xs n 0) (Prim.omega arith) ∙ sym (get_or-drop (at + 1) xs 0 0) ∙ e))

pub string-stops : (quote at : ℕ) (xs : List ℕ) → at < length xs → quote ≢ 10 → get_or xs at 0 ≡ 10 → string_length quote (drop at xs) ≡ None
string-stops quote at xs h line here =
    ap (string_length quote) (at_place xs at h) ∙ ap (λ b. string_length quote (b ∷ drop (at + 1) xs)) here ∙ string-cut quote _ line

-- a quote is no line end
pub quote_no_line_end : (b : ℕ) → is_quote b ≡ true → b ≢ 10
quote_no_line_end b h e = false≢true (ap is_quote (sym e) ∙ h)

-- ---- each piece is within what is left
more-within : (n most m : ℕ) (found : Option ℕ) → IfSome found (λ k. k ≤ most) → n + most ≤ m → IfSome (more n found) (λ k. k ≤ m)
more-within n most m None h k = tt
more-within n most m (Some j) h k = Prim.omega arith

choice : {A : Type 0} (P : A → Type 0) (test : Bool) (x y : A) → (test ≡ true → P x) → (test ≡ false → P y) → P (cond test x y)
choice P true x y h k = h refl
choice P false x y h k = k refl

within_string : (quote : ℕ) (rest : List ℕ) → IfSome (string_length quote rest) (λ n. n ≤ length rest)
unfolding string_length
within_string quote [] = tt
within_string quote (b ∷ []) = choice (λ found. IfSome found (λ n. n ≤ 1)) (b == quote) (Some 1) None (λ _. Prim.omega arith) (λ _. tt)
within_string quote (b ∷ c ∷ rest) =
    let Within : Option ℕ → Type 0 = λ found. IfSome found (λ n. n ≤ length (b ∷ c ∷ rest)) in
    choice Within (is_line_end b) _ _ (λ _. tt) (λ _.
    choice Within (b == quote) _ _
    (λ _. choice Within (c == quote) _ _
    (λ _. more-within 2 (length rest) (length (b ∷ c ∷ rest)) (string_length quote rest) (within_string quote rest) (Prim.omega arith))
    (λ _. Prim.omega arith))
    (λ _. more-within 1 (length (c ∷ rest)) (length (b ∷ c ∷ rest)) (string_length quote (c ∷ rest)) (within_string quote (c ∷ rest)) (Prim.omega arith)))

block-two : (rest : List ℕ) → is_block_rest rest ≡ true → 2 ≤ length rest
unfolding is_block_rest
block-two [] h = absurd (false≢true h)
block-two (a ∷ []) h = absurd (false≢true h)
block-two (a ∷ b ∷ rest) h = Prim.omega arith

some_run : (p : ℕ → Bool) (b : ℕ) (rest : List ℕ) → p b ≡ false → 0 < position_or_len p (b ∷ rest)
some_run p b rest h = Prim.rw h (Prim.omega arith)

fits-comment : (blank : Bool) (b : ℕ) (rest : List ℕ) → is_line_end b ≡ false → Fits (comment_at blank (b ∷ rest)) (length (b ∷ rest))
unfolding comment_at
fits-comment blank b rest line =
    choice (λ p. Fits p (length (b ∷ rest))) (blank && is_block_rest (before_first is_line_end (b ∷ rest))) _ _
    (λ h.
    let line : List ℕ = before_first is_line_end (b ∷ rest) in
    let two : 2 ≤ length line = block-two line (and_parts blank (is_block_rest line) h).1 in
    (Prim.omega arith, Prim.omega (arith, two, length-take (position_or_len is_line_end (b ∷ rest)) (b ∷ rest))))
    (λ _. (some_run is_line_end b rest line, place_within is_line_end (b ∷ rest)))

fits-quoted : (inside : Bool) (found : Option ℕ) (b : ℕ) (rest : List ℕ) → is_line_end b ≡ false → IfSome found (λ n. n ≤ length rest) →
    Fits (quoted_at inside found (b ∷ rest)) (length (b ∷ rest))
unfolding quoted_at
fits-quoted inside None b rest line h =
    choice (λ p. Fits p (length (b ∷ rest))) inside _ _ (λ _. tt) (λ _. (some_run is_line_end b rest line, place_within is_line_end (b ∷ rest)))
fits-quoted inside (Some n) b rest line h =
    choice (λ p. Fits p (length (b ∷ rest))) (inside && not (is_parted (drop (n + 1) (b ∷ rest)))) _ _ (λ _. tt) (λ _. (Prim.omega arith, Prim.omega arith))

fits-run : (inside : Bool) (n : ℕ) (rest : List ℕ) → 0 < n → n ≤ length rest → Fits (run_at inside n rest) (length rest)
unfolding run_at
fits-run inside n rest some h = choice (λ p. Fits p (length rest)) (inside && not (is_number_text (take n rest) && is_parted (drop n rest))) _ _ (λ _. tt) (λ _. (some, h))

pub fits-piece : (inside blank : Bool) (rest : List ℕ) → Fits (piece_at inside blank rest) (length rest)
unfolding piece_at
fits-piece inside blank [] = choice (λ p. Fits p 0) inside piece.Bad piece.End (λ _. tt) (λ _. tt)
fits-piece inside blank (b ∷ rest) =
    let P : Piece → Type 0 = λ p. Fits p (length (b ∷ rest)) in
    let one : (0 < 1) × (1 ≤ length (b ∷ rest)) = (Prim.omega arith, Prim.omega arith) in
    choice P (is_blank b) _ _ (λ _. one) (λ no_blank.
    choice P (is_line_end b) _ _ (λ _. one) (λ no_line.
    choice P (is_percent b) _ _ (λ _. fits-comment blank b rest no_line) (λ no_percent.
    choice P (is_continuation (b ∷ rest)) _ _ (λ _. (Prim.omega arith, Prim.omega arith)) (λ _.
    choice P (is_mark inside b) _ _ (λ _. one) (λ no_mark.
    choice P (is_quote b) _ _ (λ _. fits-quoted inside (string_length b rest) b rest no_line (within_string b rest)) (λ no_quote.
    let goes_on : ends_run inside b ≡ false = or_no _ _ (or_no _ _ (or_no _ _ (or_no _ _ no_blank no_line) no_quote) no_percent) no_mark in
    fits-run inside _ (b ∷ rest) (some_run (ends_run inside) b rest goes_on) (place_within (ends_run inside) (b ∷ rest))))))))

pub fits-at : (inside blank : Bool) (rest : List ℕ) (next : Piece) (most : ℕ) → next ≡ piece_at inside blank rest → length rest ≡ most → Fits next most
fits-at inside blank rest next most e l = subst (λ p. Fits p most) (sym e) (subst (λ n. Fits (piece_at inside blank rest) n) l (fits-piece inside blank rest))

-- what is the end or parts tokens, and does not part tokens, is the end
pub only_end : (next found : Piece) → next ≡ found → IsNoGap found → (next ≡ piece.End) ⊎ ((n : ℕ) × (next ≡ piece.Gap n)) → next ≡ piece.End
only_end next found e solid (inl is) = is
only_end next found e solid (inr (n, is)) = absurd (subst IsNoGap (sym e ∙ is) solid)
