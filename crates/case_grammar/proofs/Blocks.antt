-- No block comment stands from a place on, piece by piece.
use Rattle.std.proofs.Common.{◌≡◌, ◌≢◌, ℕ, zero, suc, ◌<◌, ◌≤◌, ◌==◌, ◌&&◌, ◌||◌, Bool, true, false, List, [], ◌∷◌, ◌++◌, length, take, refl, sym, ap, subst, ◌∙◌, arith, inl, inr, append-nil, append_assoc, length-append}
use Rattle.std.specs.Prelude.{IsTrue}
use Rattle.std.specs.List.{position_or_len, before_first, list_all}
use Rattle.std.proofs.lemmas.Bool.{cases_lt, and_parts, ne_eqb, false≢true, cond-false}
use Rattle.case_tokens.specs.Bytes.{is_line_end, is_blank, is_percent}
use Rattle.case_tokens.specs.Pieces.{is_block_rest}
use Rattle.case_tokens.specs.TokenLists.{is_blank_line}
use Rattle.case_tokens.proofs.TokenLemmas.{blank_line-push}
use Rattle.case_grammar.specs.Gaps.{IsOnLine}
use Rattle.case_grammar.proofs.Lines.{IsBlockless}
use Rattle.case_grammar.proofs.Texts.{IsRest}
use Rattle.case_grammar.proofs.Places.{before_of, before-is}

-- nowhere behind a place, and not there
abbrev pub NoneFrom : List ℕ → List ℕ → Type 0
NoneFrom text rest = (before behind : List ℕ) → text ≡ before ++ behind → length behind ≤ length rest → IsTrue (is_blank_line before) → IsTrue (is_block_rest (before_first is_line_end behind)) → ⊥

pub none-at_all : (text : List ℕ) → NoneFrom text text → IsBlockless text
none-at_all text h before rest e blank block = h before rest e (Prim.omega (arith, ap (λ (xs : List ℕ). length xs) e, length-append before rest)) blank block

-- ---- where a text is cut within a part of it
record Between (before bytes behind before' behind' : List ℕ) : Type 0 where
  front : List ℕ
  back : List ℕ
  bytes_are : bytes ≡ front ++ back
  before_is : before' ≡ before ++ front
  behind_is : behind' ≡ back ++ behind

within : (bytes behind before' behind' : List ℕ) → bytes ++ behind ≡ before' ++ behind' → length behind < length behind' → Between [] bytes behind before' behind'
within bytes behind [] behind' e lt = record { front = []; back = bytes; bytes_are = refl; before_is = refl; behind_is = sym e }
within [] behind (z ∷ before') behind' e lt = absurd (Prim.omega (arith, ap (λ (xs : List ℕ). length xs) e, length-append before' behind'))
within (x ∷ bytes) behind (z ∷ before') behind' e lt =
    let tails : bytes ++ behind ≡ before' ++ behind' = Prim.cc in
    let heads : z ≡ x = Prim.cc in
    let h = within bytes behind before' behind' tails lt in
    record { front = x ∷ h.front; back = h.back; bytes_are = ap (λ xs. x ∷ xs) h.bytes_are; before_is = ap (λ y. y ∷ before') heads ∙ ap (λ xs. x ∷ xs) h.before_is; behind_is = h.behind_is }

between : (before bytes behind before' behind' : List ℕ) → before ++ (bytes ++ behind) ≡ before' ++ behind' → length behind < length behind' → length behind' ≤ length (bytes ++ behind) →
    Between before bytes behind before' behind'
between [] bytes behind before' behind' e lt le = within bytes behind before' behind' e lt
between (y ∷ before) bytes behind [] behind' e lt le = absurd (Prim.omega (arith, ap (λ (xs : List ℕ). length xs) e, length-append before (bytes ++ behind)))
between (y ∷ before) bytes behind (z ∷ before') behind' e lt le =
    let tails : before ++ (bytes ++ behind) ≡ before' ++ behind' = Prim.cc in
    let heads : z ≡ y = Prim.cc in
    let h = between before bytes behind before' behind' tails lt le in
    record { front = h.front; back = h.back; bytes_are = h.bytes_are; before_is = ap (λ x. x ∷ before') heads ∙ ap (λ xs. y ∷ xs) h.before_is; behind_is = h.behind_is }

-- ---- a line with more than blanks
no-more : (x y : Bool) → y ≡ false → (x && y) ≡ false
no-more true y e = e
no-more false y e = refl

not-blank : (before : List ℕ) (b : ℕ) → is_blank b ≡ false → is_line_end b ≡ false → is_blank_line (before ++ b ∷ []) ≡ false
not-blank before b h k = blank_line-push before b ∙ cond-false (is_line_end b) _ _ k ∙ no-more (is_blank_line before) (is_blank b) h

stays-so : (before bytes : List ℕ) → is_blank_line before ≡ false → IsOnLine bytes → is_blank_line (before ++ bytes) ≡ false
stays-so before [] h on = ap is_blank_line (append-nil before) ∙ h
stays-so before (x ∷ bytes) h on =
    ap is_blank_line (sym (append_assoc before (x ∷ []) bytes))
    ∙ stays-so (before ++ x ∷ []) bytes
    (blank_line-push before x ∙ cond-false (is_line_end x) _ _ (ne_eqb x 10 on.0) ∙ ap (λ t. t && is_blank x) h) on.1

-- ---- a block's mark begins with `%`
block-head : (b : ℕ) (bytes : List ℕ) → is_block_rest (b ∷ bytes) ≡ true → is_percent b ≡ true
unfolding is_block_rest
block-head b [] h = absurd (false≢true h)
block-head b (c ∷ bytes) h = (and_parts (is_percent b) (c == 123 || c == 125) (and_parts (is_percent b && (c == 123 || c == 125)) (list_all is_blank bytes) h).0).0

block-take : (n b : ℕ) (bytes : List ℕ) → is_block_rest (take n (b ∷ bytes)) ≡ true → is_percent b ≡ true
unfolding is_block_rest
block-take zero b bytes h = absurd (false≢true h)
block-take (suc n) b bytes h = block-head b (take n bytes) h

pub block-percent : (b : ℕ) (bytes : List ℕ) → IsTrue (is_block_rest (before_first is_line_end (b ∷ bytes))) → is_percent b ≡ true
block-percent b bytes h = block-take (position_or_len is_line_end (b ∷ bytes)) b bytes h

-- no block's mark is on an empty line's rest
pub no-block_end : IsTrue (is_block_rest (before_first is_line_end [])) → ⊥
unfolding is_block_rest
no-block_end h = false≢true h

pub none-end : (text : List ℕ) → NoneFrom text []
none-end text before [] e le blank block = no-block_end block
none-end text before (b ∷ behind) e le blank block = Prim.omega arith

-- ---- a piece: no block's mark is where it begins, and none within it
pub none-piece : (text : List ℕ) (b : ℕ) (bytes behind : List ℕ) → IsRest text (b ∷ (bytes ++ behind)) →
    (IsTrue (is_blank_line (before_of text (b ∷ (bytes ++ behind)))) → IsTrue (is_block_rest (before_first is_line_end (b ∷ (bytes ++ behind)))) → ⊥) →
    ((front more : List ℕ) (x : ℕ) → bytes ≡ front ++ x ∷ more → (is_blank b ≡ false) × (is_line_end b ≡ false) × IsOnLine front) →
    NoneFrom text behind → NoneFrom text (b ∷ (bytes ++ behind))
none-piece text b bytes behind r start inner later before' behind' e le blank block = elim (cases_lt (length behind) (length behind')) [
  | inr short ↦ later before' behind' e short blank block
  | inl long ↦ by_cut long (between r.before (b ∷ bytes) behind before' behind' (sym r.is ∙ e) long le)
] where
  by_cut : length behind < length behind' → Between r.before (b ∷ bytes) behind before' behind' → ⊥
  by_cut long h = by_parts h.front h.back h.bytes_are h.before_is h.behind_is where
    by_parts : (front back : List ℕ) → b ∷ bytes ≡ front ++ back → before' ≡ r.before ++ front → behind' ≡ back ++ behind → ⊥
    by_parts [] back is before_is behind_is =
        start (subst (λ xs. IsTrue (is_blank_line xs)) (before_is ∙ append-nil r.before ∙ sym (before-is text r.before (b ∷ (bytes ++ behind)) r.is)) blank)
        (subst (λ xs. IsTrue (is_block_rest (before_first is_line_end xs))) (behind_is ∙ ap (λ xs. xs ++ behind) (sym is)) block)
    by_parts (z ∷ front) [] is before_is behind_is = Prim.omega (arith, ap (λ (xs : List ℕ). length xs) behind_is)
    by_parts (z ∷ front) (x ∷ more) is before_is behind_is =
        let heads : z ≡ b = Prim.cc in
        let tails : bytes ≡ front ++ x ∷ more = Prim.cc in
        let h = inner front more x tails in
        false≢true (sym (
        ap is_blank_line (before_is ∙ ap (λ y. r.before ++ y ∷ front) heads ∙ sym (append_assoc r.before (b ∷ []) front))
        ∙ stays-so (r.before ++ b ∷ []) front (not-blank r.before b h.0 h.1) h.2) ∙ blank)

-- the bytes before some byte of a line are on it
pub line-front : (bytes front more : List ℕ) (x : ℕ) → IsOnLine bytes → bytes ≡ front ++ x ∷ more → IsOnLine front
line-front bytes [] more x on e = tt
line-front [] (z ∷ front) more x on e = absurd (Prim.cc)
line-front (y ∷ bytes) (z ∷ front) more x on e =
    let heads : y ≡ z = Prim.cc in
    let tails : bytes ≡ front ++ x ∷ more = Prim.cc in
    (subst (λ w. w ≢ 10) heads on.0, line-front bytes front more x on.1 tails)

-- the same where a line end is the last
pub ended-front : (bytes front more : List ℕ) (x : ℕ) → IsOnLine bytes → bytes ++ 10 ∷ [] ≡ front ++ x ∷ more → IsOnLine front
ended-front bytes [] more x on e = tt
ended-front [] (z ∷ []) more x on e = absurd (Prim.cc)
ended-front [] (z ∷ w ∷ front) more x on e = absurd (Prim.cc)
ended-front (y ∷ bytes) (z ∷ front) more x on e =
    let heads : y ≡ z = Prim.cc in
    let tails : bytes ++ 10 ∷ [] ≡ front ++ x ∷ more = Prim.cc in
    (subst (λ w. w ≢ 10) heads on.0, ended-front bytes front more x on.1 tails)

pub no-bytes : (front more : List ℕ) (x : ℕ) → [] ≡ front ++ x ∷ more → ⊥
no-bytes [] more x e = Prim.cc
no-bytes (z ∷ front) more x e = Prim.cc
