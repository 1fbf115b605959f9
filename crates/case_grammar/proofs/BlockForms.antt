-- A text without block comments, by its lines and as the tokens tell it.
use Rattle.std.proofs.Common.{◌≡◌, ◌≢◌, ℕ, ◌==◌, ◌&&◌, ◌||◌, ◌⊎◌, true, List, [], ◌∷◌, ◌++◌, length, take, refl, sym, ap, subst, ◌∙◌, arith, inl, inr, append-nil, append_assoc, codes}
use Rattle.std.specs.Prelude.{IsTrue}
use Rattle.std.specs.List.{AllByRecursion, before_first, list_all}
use Rattle.std.proofs.lemmas.List.{take_at}
use Rattle.std.proofs.lemmas.Bool.{cases_Bool, and_parts, and_from, or_cases, eqb-true, ne_eqb, false≢true, cond-false}
use Rattle.case_tokens.specs.Bytes.{is_line_end, is_blank, is_percent}
use Rattle.case_tokens.specs.Pieces.{is_block_rest}
use Rattle.case_tokens.specs.TokenLists.{last_line, is_blank_line}
use Rattle.case_tokens.proofs.TokenLemmas.{blank_line-push}
use Rattle.case_grammar.specs.Gaps.{IsOnLine}
use Rattle.case_grammar.specs.CaseTexts.{HasNoBlocks}
use Rattle.case_grammar.proofs.Lines.{IsBlockless}
use Rattle.case_grammar.proofs.Pieces.{IsAtLineEnd, line-length}
use Rattle.case_grammar.proofs.Seen.{LineOf, line-of}

abbrev AreBlank : List ℕ → Type 0
AreBlank bytes = AllByRecursion (λ byte. IsTrue (is_blank byte)) bytes

-- ---- whole lines, and blanks behind them
record Cut (bytes : List ℕ) : Type 0 where
  before : List ℕ
  front : List ℕ
  is : bytes ≡ before ++ front
  starts : (before ≡ []) ⊎ ((lines : List ℕ) × (before ≡ lines ++ codes "\n"))
  blanks : AreBlank front

blank-push : (bytes : List ℕ) (b : ℕ) → AreBlank bytes → is_blank b ≡ true → AreBlank (bytes ++ b ∷ [])
blank-push [] b h k = (k, tt)
blank-push (x ∷ bytes) b h k = (h.0, blank-push bytes b h.1 k)

cut-push : (bytes : List ℕ) (b : ℕ) → (is_blank_line bytes ≡ true → Cut bytes) → is_blank_line (bytes ++ b ∷ []) ≡ true → Cut (bytes ++ b ∷ [])
cut-push bytes b h e = elim (cases_Bool (is_line_end b)) [
  | inl line ↦ record {
    before = bytes ++ b ∷ [];
    front = [];
    is = sym (append-nil (bytes ++ b ∷ []));
    starts = inr (bytes, ap (λ x. bytes ++ x ∷ []) (eqb-true b 10 line));
    blanks = tt;
  }
  | inr other ↦
      let p = and_parts (is_blank_line bytes) (is_blank b) (sym (cond-false (is_line_end b) _ _ other) ∙ sym (blank_line-push bytes b) ∙ e) in
      let c = h p.0 in
      record {
        before = c.before;
        front = c.front ++ b ∷ [];
        is = ap (λ xs. xs ++ b ∷ []) c.is ∙ append_assoc c.before c.front (b ∷ []);
        starts = c.starts;
        blanks = blank-push c.front b c.blanks p.1;
      }
]

cut-from : (bytes rest : List ℕ) → (is_blank_line bytes ≡ true → Cut bytes) → is_blank_line (bytes ++ rest) ≡ true → Cut (bytes ++ rest)
cut-from bytes [] h e = subst Cut (sym (append-nil bytes)) (h (ap is_blank_line (sym (append-nil bytes)) ∙ e))
cut-from bytes (b ∷ rest) h e =
    subst Cut (append_assoc bytes (b ∷ []) rest) (cut-from (bytes ++ b ∷ []) rest (cut-push bytes b h) (ap is_blank_line (append_assoc bytes (b ∷ []) rest) ∙ e))

cut-of : (bytes : List ℕ) → is_blank_line bytes ≡ true → Cut bytes
cut-of bytes e = cut-from [] bytes (λ _. record { before = []; front = []; is = refl; starts = inl refl; blanks = tt }) e

not-feed : (b : ℕ) → is_blank b ≡ true → b ≢ 10
not-feed b h e = false≢true (subst (λ x. is_blank x ≡ true) e h)

blank-more : (bytes front : List ℕ) → is_blank_line bytes ≡ true → AreBlank front → is_blank_line (bytes ++ front) ≡ true
blank-more bytes [] h k = ap is_blank_line (append-nil bytes) ∙ h
blank-more bytes (b ∷ front) h k =
    ap is_blank_line (sym (append_assoc bytes (b ∷ []) front))
    ∙ blank-more (bytes ++ b ∷ []) front
    (blank_line-push bytes b ∙ cond-false (is_line_end b) _ _ (ne_eqb b 10 (not-feed b k.0)) ∙ and_from (is_blank_line bytes) (is_blank b) h k.0) k.1

blank-start : (before : List ℕ) → (before ≡ []) ⊎ ((lines : List ℕ) × (before ≡ lines ++ codes "\n")) → is_blank_line before ≡ true
unfolding is_blank_line last_line
blank-start before (inl e) = ap is_blank_line e
blank-start before (inr h) = ap is_blank_line h.1 ∙ blank_line-push h.0 10

-- ---- the rest of a line
line-is : (line behind : List ℕ) → IsOnLine line → IsAtLineEnd behind → before_first is_line_end (line ++ behind) ≡ line
line-is line behind on at = ap (λ n. take n (line ++ behind)) (line-length line behind on at) ∙ take_at line behind (length line) refl

blanks-on : (bytes : List ℕ) → AreBlank bytes → IsOnLine bytes
blanks-on [] h = tt
blanks-on (b ∷ bytes) h = (not-feed b h.0, blanks-on bytes h.1)

all-blank : (bytes : List ℕ) → AreBlank bytes → list_all is_blank bytes ≡ true
all-blank [] h = refl
all-blank (b ∷ bytes) h = and_from (is_blank b) _ h.0 (all-blank bytes h.1)

each-blank : (bytes : List ℕ) → list_all is_blank bytes ≡ true → AreBlank bytes
each-blank [] h = tt
each-blank (b ∷ bytes) h = let p = and_parts (is_blank b) (list_all is_blank bytes) h in (p.0, each-blank bytes p.1)

at-end : (behind : List ℕ) → (behind ≡ []) ⊎ ((lines : List ℕ) × (behind ≡ codes "\n" ++ lines)) → IsAtLineEnd behind
at-end behind (inl e) = subst IsAtLineEnd (sym e) tt
at-end behind (inr h) = subst IsAtLineEnd (sym h.1) refl

end-at : (behind : List ℕ) → IsAtLineEnd behind → (behind ≡ []) ⊎ ((lines : List ℕ) × (behind ≡ codes "\n" ++ lines))
end-at [] h = inl refl
end-at (b ∷ behind) h = inr (behind, ap (λ x. x ∷ behind) h)

brace-test : (brace : ℕ) → (codes "{" ≡ brace ∷ []) ⊎ (codes "}" ≡ brace ∷ []) → ((brace == 123 || brace == 125) ≡ true) × (brace ≢ 10)
brace-test brace (inl e) = let same : 123 ≡ brace = Prim.cc in subst (λ x. ((x == 123 || x == 125) ≡ true) × (x ≢ 10)) same (refl, λ d. Prim.omega arith)
brace-test brace (inr e) = let same : 125 ≡ brace = Prim.cc in subst (λ x. ((x == 123 || x == 125) ≡ true) × (x ≢ 10)) same (refl, λ d. Prim.omega arith)

test-brace : (brace : ℕ) → (brace == 123 || brace == 125) ≡ true → (codes "{" ≡ brace ∷ []) ⊎ (codes "}" ≡ brace ∷ [])
test-brace brace h = elim (or_cases (brace == 123) (brace == 125) h) [
  | inl e ↦ inl (ap (λ x. x ∷ []) (sym (eqb-true brace 123 e)))
  | inr e ↦ inr (ap (λ x. x ∷ []) (sym (eqb-true brace 125 e)))
]

-- ---- both ways
pub blockless : (text : List ℕ) → HasNoBlocks text → IsBlockless text
unfolding is_block_rest
blockless text h before rest e empty block = by_line (line-of rest) where
  by_line : LineOf rest → ⊥
  by_line l = by_bytes l.line l.behind l.is l.at (ap is_block_rest (sym (ap (before_first is_line_end) l.is ∙ line-is l.line l.behind l.on l.at)) ∙ block) where
    by_bytes : (line behind : List ℕ) → rest ≡ line ++ behind → IsAtLineEnd behind → is_block_rest line ≡ true → ⊥
    by_bytes [] behind is at k = false≢true k
    by_bytes (a ∷ []) behind is at k = false≢true k
    by_bytes (a ∷ b ∷ back) behind is at k =
        let p = and_parts (is_percent a && (b == 123 || b == 125)) (list_all is_blank back) k in
        let q = and_parts (is_percent a) (b == 123 || b == 125) p.0 in
        let c = cut-of before empty in
        h (record {
          before = c.before;
          front = c.front;
          brace = b;
          back = back;
          behind = behind;
          is = e ∙ ap (λ xs. xs ++ rest) c.is ∙ append_assoc c.before c.front rest
              ∙ ap (λ xs. c.before ++ (c.front ++ xs)) (is ∙ ap (λ x. x ∷ b ∷ (back ++ behind)) (eqb-true a 37 q.0));
          starts = c.starts;
          front_blank = c.blanks;
          brace_is = test-brace b q.1;
          back_blank = each-blank back p.1;
          ends = end-at behind at;
        })

pub no-blocks : (text : List ℕ) → IsBlockless text → HasNoBlocks text
unfolding is_block_rest
no-blocks text h b =
    let line : List ℕ = 37 ∷ b.brace ∷ b.back in
    let t = brace-test b.brace b.brace_is in
    let on : IsOnLine (37 ∷ b.brace ∷ b.back) = (feedless, (t.1, blanks-on b.back b.back_blank)) in
    h (b.before ++ b.front) ((37 ∷ b.brace ∷ b.back) ++ b.behind) (b.is ∙ sym (append_assoc b.before b.front ((37 ∷ b.brace ∷ b.back) ++ b.behind)))
    (blank-more b.before b.front (blank-start b.before b.starts) b.front_blank)
    (ap is_block_rest (line-is (37 ∷ b.brace ∷ b.back) b.behind on (at-end b.behind b.ends)) ∙ and_from _ _ t.0 (all-blank b.back b.back_blank)) where
      feedless : ◌≢◌ {A = ℕ} 37 10
      feedless d = Prim.omega arith
