-- A text that no fault ends is a gap and what comes first behind it.
use Rattle.std.proofs.Common.{◌≡◌, ◌≢◌, ℕ, zero, suc, ◌<◌, ◌&&◌, ◌⊎◌, Bool, true, false, not, List, [], ◌∷◌, ◌++◌, length, refl, sym, ap, subst, ◌∙◌, arith, Some, None, inl, inr, append-nil, append_assoc, length-append}
use Rattle.std.specs.Prelude.{IsTrue}
use Rattle.std.specs.List.{AllByRecursion, before_first}
use Rattle.std.proofs.lemmas.Bool.{or_parts, eqb-true, ne_eqb, false≢true}
use Rattle.scaled_decimal.specs.Reading.{is_number_text}
use Rattle.case_tokens.specs.declared.Kind.TheVariants as kind
use Rattle.case_tokens.specs.declared.Token.{Token}
use Rattle.case_tokens.specs.Bytes.{is_line_end, is_blank, is_quote, is_percent, is_mark}
use Rattle.case_tokens.specs.Pieces.{is_parted, is_block_rest}
use Rattle.case_tokens.specs.TokenLists.{TokenList, is_inside, with_first, is_blank_line}
use Rattle.case_grammar.specs.Gaps.{Skip, blank, continued, IsSkip, Gap, IsGap, IsOnLine, LineEnd, bare, commented, IsLineEnd}
use Rattle.case_grammar.specs.Values.{Character, one, doubled, IsCharacter, IsString}
use Rattle.case_grammar.specs.Statements.{Ending, here, in_comment, in_continuation, ending_text, IsEnding}
use Rattle.case_grammar.proofs.Texts.{skip_before, gap_before, line_end_before, characters_before, IsRest, rest-append, rest-cons, rest-skip}
use Rattle.case_grammar.proofs.Places.{opened, tokens_at, token_at, before_of, at-end, at-cut}
use Rattle.case_grammar.proofs.Pieces.{IsAtLineEnd, IsRun, EndsRun, at-blank, at-continued, at-unended, at-comment_by, at-line_end, at-string, string_rest, string-bytes, at-run}
use Rattle.case_grammar.proofs.Fine.{IsClean}
use Rattle.case_grammar.proofs.Seen.{Seen, sees_end, sees_blank, sees_line, sees_comment, sees_continued, sees_unended, sees_mark, sees_string, sees_run, sees_refused, seen}
use Rattle.case_grammar.proofs.Blocks.{NoneFrom, none-end, none-piece, block-percent, line-front, ended-front, no-bytes}

pub data Found (text : List ℕ) (depth : ℕ) (rest : List ℕ) : Type 0 where
  finds_end : (gap : Gap) (ending : Ending) → IsGap gap → IsEnding ending → rest ≡ gap_before gap (ending_text ending) → depth ≡ 0 →
      tokens_at text depth rest ≡ record { tokens = []; fault = None } → NoneFrom text rest → Found text depth rest
  finds_line : (gap : Gap) (end : LineEnd) (behind : List ℕ) → IsGap gap → IsLineEnd end → rest ≡ gap_before gap (line_end_before end behind) → IsRest text (10 ∷ behind) →
      tokens_at text depth rest ≡ with_first (token_at text (10 ∷ behind) kind.LineEnd 1) (tokens_at text depth behind) → (NoneFrom text behind → NoneFrom text rest) → Found text depth rest
  finds_mark : (gap : Gap) (b : ℕ) (behind : List ℕ) → IsGap gap → is_mark (is_inside (opened depth)) b ≡ true → rest ≡ gap_before gap (b ∷ behind) → IsRest text (b ∷ behind) →
      tokens_at text depth rest ≡ tokens_at text depth (b ∷ behind) → (NoneFrom text behind → NoneFrom text rest) → Found text depth rest
  finds_string : (gap : Gap) (quote : ℕ) (characters : List Character) (behind : List ℕ) → IsGap gap → IsString quote characters → (is_inside (opened depth) && not (is_parted behind)) ≡ false →
      rest ≡ gap_before gap (quote ∷ characters_before quote characters (quote ∷ behind)) → IsRest text (quote ∷ characters_before quote characters (quote ∷ behind)) →
      tokens_at text depth rest ≡ with_first (token_at text (quote ∷ (string_rest quote characters ++ behind)) kind.Text (suc (length (string_rest quote characters)))) (tokens_at text depth behind) →
      (NoneFrom text behind → NoneFrom text rest) → Found text depth rest
  finds_run : (gap : Gap) (b : ℕ) (bytes behind : List ℕ) → IsGap gap → EndsRun (is_inside (opened depth)) behind → (is_inside (opened depth) && not (is_number_text (b ∷ bytes) && is_parted behind)) ≡ false →
      rest ≡ gap_before gap (b ∷ (bytes ++ behind)) → IsRest text (b ∷ (bytes ++ behind)) →
      tokens_at text depth rest ≡ with_first (token_at text (b ∷ (bytes ++ behind)) kind.Run (suc (length bytes))) (tokens_at text depth behind) →
      (NoneFrom text behind → NoneFrom text rest) → Found text depth rest

-- ---- behind one thing more that is skipped
prepend : (text : List ℕ) (depth : ℕ) (skip : Skip) (rest : List ℕ) → IsSkip skip → tokens_at text depth (skip_before skip rest) ≡ tokens_at text depth rest →
    (NoneFrom text rest → NoneFrom text (skip_before skip rest)) → Found text depth rest → Found text depth (skip_before skip rest)
prepend text depth skip rest h e n (finds_end gap ending g end is none tokens later) =
    finds_end (skip ∷ gap) ending (h, g) end (ap (skip_before skip) is) none (e ∙ tokens) (n later)
prepend text depth skip rest h e n (finds_line gap end behind g k is r tokens later) = finds_line (skip ∷ gap) end behind (h, g) k (ap (skip_before skip) is) r (e ∙ tokens) (λ x. n (later x))
prepend text depth skip rest h e n (finds_mark gap b behind g k is r tokens later) = finds_mark (skip ∷ gap) b behind (h, g) k (ap (skip_before skip) is) r (e ∙ tokens) (λ x. n (later x))
prepend text depth skip rest h e n (finds_string gap quote characters behind g s k is r tokens later) =
    finds_string (skip ∷ gap) quote characters behind (h, g) s k (ap (skip_before skip) is) r (e ∙ tokens) (λ x. n (later x))
prepend text depth skip rest h e n (finds_run gap b bytes behind g k c is r tokens later) =
    finds_run (skip ∷ gap) b bytes behind (h, g) k c (ap (skip_before skip) is) r (e ∙ tokens) (λ x. n (later x))

-- ---- no block's mark in a piece
not-percent : (text : List ℕ) (b : ℕ) (bytes : List ℕ) → is_percent b ≡ false → IsTrue (is_blank_line (before_of text (b ∷ bytes))) → IsTrue (is_block_rest (before_first is_line_end (b ∷ bytes))) → ⊥
not-percent text b bytes h empty block = false≢true (sym h ∙ block-percent b bytes block)

none-byte : (text : List ℕ) (b : ℕ) (behind : List ℕ) → IsRest text (b ∷ behind) → is_percent b ≡ false → NoneFrom text behind → NoneFrom text (b ∷ behind)
none-byte text b behind r h later = none-piece text b [] behind r (not-percent text b behind h) (λ front more x e. absurd (no-bytes front more x e)) later

none-on_line : (text : List ℕ) (b : ℕ) (bytes behind : List ℕ) → IsRest text (b ∷ (bytes ++ behind)) → is_percent b ≡ false → is_blank b ≡ false → is_line_end b ≡ false → IsOnLine bytes →
    NoneFrom text behind → NoneFrom text (b ∷ (bytes ++ behind))
none-on_line text b bytes behind r h k l on later = none-piece text b bytes behind r (not-percent text b (bytes ++ behind) h) (λ front more x e. (k, l, line-front bytes front more x on e)) later

none-comment : (text : List ℕ) (c behind : List ℕ) → IsRest text (37 ∷ (c ++ behind)) → IsOnLine c →
    (is_blank_line (before_of text (37 ∷ (c ++ behind))) && is_block_rest (before_first is_line_end (37 ∷ (c ++ behind)))) ≡ false → NoneFrom text behind → NoneFrom text (37 ∷ (c ++ behind))
none-comment text c behind r on never later =
    none-piece text 37 c behind r (λ blank block. false≢true (sym never ∙ both _ _ blank block)) (λ front more x e. (refl, refl, line-front c front more x on e)) later where
      both : (x y : Bool) → x ≡ true → y ≡ true → (x && y) ≡ true
      both true y h k = k
      both false y h k = absurd (false≢true h)

no_feed : (b : ℕ) → b ≡ 46 → b ≢ 10
no_feed b e d = Prim.omega arith

none-continued : (text : List ℕ) (c behind : List ℕ) → IsRest text (46 ∷ 46 ∷ 46 ∷ (c ++ 10 ∷ behind)) → IsOnLine c → NoneFrom text behind → NoneFrom text (46 ∷ 46 ∷ 46 ∷ (c ++ 10 ∷ behind))
none-continued text c behind r on later =
    let e : (c ++ 10 ∷ []) ++ behind ≡ c ++ 10 ∷ behind = append_assoc c (10 ∷ []) behind in
    subst (λ xs. NoneFrom text (46 ∷ 46 ∷ 46 ∷ xs)) e
    (none-piece text 46 (46 ∷ 46 ∷ (c ++ 10 ∷ [])) behind (subst (λ xs. IsRest text (46 ∷ 46 ∷ 46 ∷ xs)) (sym e) r) (not-percent text 46 (46 ∷ 46 ∷ ((c ++ 10 ∷ []) ++ behind)) refl)
    (λ front more x d. (refl, refl, ended-front (46 ∷ 46 ∷ c) front more x (no_feed 46 refl, (no_feed 46 refl, on)) d)) later)

none-unended : (text : List ℕ) (c : List ℕ) → IsRest text (46 ∷ 46 ∷ 46 ∷ c) → IsOnLine c → NoneFrom text (46 ∷ 46 ∷ 46 ∷ c)
none-unended text c r on =
    let e : c ++ [] ≡ c = append-nil c in
    subst (λ xs. NoneFrom text (46 ∷ 46 ∷ 46 ∷ xs)) e
    (none-on_line text 46 (46 ∷ 46 ∷ c) [] (subst (λ xs. IsRest text (46 ∷ 46 ∷ 46 ∷ xs)) (sym e) r) refl refl refl (no_feed 46 refl, (no_feed 46 refl, on)) (none-end text))

-- strings and runs are on one line
characters-on : (quote : ℕ) (characters : List Character) → quote ≢ 10 → AllByRecursion (IsCharacter quote) characters → IsOnLine (string_rest quote characters)
characters-on quote [] q h = (q, tt)
characters-on quote (one b ∷ characters) q h = ((h.0).1, characters-on quote characters q h.1)
characters-on quote (doubled ∷ characters) q h = (q, (q, characters-on quote characters q h.1))

record IsQuoted (quote : ℕ) : Type 0 where
  percent : is_percent quote ≡ false
  blank : is_blank quote ≡ false
  line : is_line_end quote ≡ false
  byte : quote ≢ 10

quoted : (quote : ℕ) → (quote ≡ 39) ⊎ (quote ≡ 34) → IsQuoted quote
quoted quote (inl e) = subst IsQuoted (sym e) (record { percent = refl; blank = refl; line = refl; byte = λ d. Prim.omega arith })
quoted quote (inr e) = subst IsQuoted (sym e) (record { percent = refl; blank = refl; line = refl; byte = λ d. Prim.omega arith })

none-string : (text : List ℕ) (quote : ℕ) (characters : List Character) (behind : List ℕ) → IsRest text (quote ∷ characters_before quote characters (quote ∷ behind)) → IsString quote characters →
    NoneFrom text behind → NoneFrom text (quote ∷ characters_before quote characters (quote ∷ behind))
none-string text quote characters behind r s later =
    let e = string-bytes quote characters behind in
    let q = quoted quote s.0 in
    subst (λ xs. NoneFrom text (quote ∷ xs)) (sym e)
    (none-on_line text quote (string_rest quote characters) behind (subst (λ xs. IsRest text (quote ∷ xs)) e r) q.percent q.blank q.line (characters-on quote characters q.byte s.1) later)

run-on : (inside : Bool) (bytes : List ℕ) → IsRun inside bytes → IsOnLine bytes
run-on inside [] h = tt
run-on inside (b ∷ bytes) h =
    let line = (or_parts _ _ (or_parts _ _ (or_parts _ _ (or_parts _ (is_mark inside b) h.0).0).0).0).1 in
    ((λ e. false≢true (sym line ∙ ap is_line_end e)), run-on inside bytes h.1)

none-run : (text : List ℕ) (inside : Bool) (b : ℕ) (bytes behind : List ℕ) → IsRest text (b ∷ (bytes ++ behind)) → IsRun inside (b ∷ bytes) → NoneFrom text behind → NoneFrom text (b ∷ (bytes ++ behind))
none-run text inside b bytes behind r h later =
    let p = or_parts _ (is_mark inside b) h.0 in
    let q = or_parts _ (is_percent b) p.0 in
    let s = or_parts _ (is_quote b) q.0 in
    let t = or_parts (is_blank b) (is_line_end b) s.0 in
    none-on_line text b bytes behind r q.1 t.0 t.1 (run-on inside bytes h.1) later

mark-percent : (inside : Bool) (b : ℕ) → is_mark inside b ≡ true → is_percent b ≡ false
mark-percent inside b h = by_test (is_percent b) refl where
  by_test : (test : Bool) → is_percent b ≡ test → is_percent b ≡ false
  by_test true t = absurd (false≢true (subst (λ x. is_mark inside x ≡ true) (eqb-true b 37 t) h))
  by_test false t = t

-- ---- the text
no-depth : (text : List ℕ) (depth : ℕ) → (tokens_at text depth []).fault ≡ None → depth ≡ 0
no-depth text zero h = refl
no-depth text (suc depth) h =
    let e : (tokens_at text (suc depth) []).fault ≡ Some (length (before_of text [])) = ap (λ (l : TokenList). l.fault) (at-cut text depth) in absurd (Prim.cc)

end-tokens : (text : List ℕ) (depth : ℕ) → depth ≡ 0 → tokens_at text depth [] ≡ record { tokens = []; fault = None }
end-tokens text depth h = ap (λ d. tokens_at text d []) h ∙ at-end text

pub clean-as : (text : List ℕ) (list list' : TokenList) → list ≡ list' → IsClean text list → IsClean text list'
clean-as text list list' e h = subst (IsClean text) e h

pub clean-behind : (text : List ℕ) (list : TokenList) (token : Token) (behind : TokenList) → list ≡ with_first token behind → IsClean text list → IsClean text behind
clean-behind text list token behind e h = let k = clean-as text list (with_first token behind) e h in record { fault = k.fault; fine = k.fine.1 }

find-comment : (text : List ℕ) (depth : ℕ) (c behind : List ℕ) → IsRest text (37 ∷ (c ++ behind)) → IsOnLine c → IsAtLineEnd behind →
    (is_blank_line (before_of text (37 ∷ (c ++ behind))) && is_block_rest (before_first is_line_end (37 ∷ (c ++ behind)))) ≡ false →
    IsClean text (tokens_at text depth (37 ∷ (c ++ behind))) → Found text depth (37 ∷ (c ++ behind))
find-comment text depth c [] r on at never clean =
    let e = at-comment_by text depth c [] never r on tt in
    let zero_depth = no-depth text depth (ap (λ (l : TokenList). l.fault) (sym e) ∙ clean.fault) in
    finds_end [] (in_comment c) tt on (ap (λ xs. 37 ∷ xs) (append-nil c)) zero_depth (e ∙ end-tokens text depth zero_depth) (none-comment text c [] r on never (none-end text))
find-comment text depth c (b ∷ behind) r on at never clean =
    let feed : IsRest text (10 ∷ behind) = subst (λ x. IsRest text (x ∷ behind)) at (rest-append text (37 ∷ c) (b ∷ behind) r) in
    finds_line [] (commented c) behind tt on (ap (λ x. 37 ∷ (c ++ x ∷ behind)) at) feed
    (at-comment_by text depth c (b ∷ behind) never r on at ∙ ap (λ x. tokens_at text depth (x ∷ behind)) at ∙ at-line_end text depth behind feed)
    (λ later. none-comment text c (b ∷ behind) r on never (subst (λ x. NoneFrom text (x ∷ behind)) (sym at) (none-byte text 10 behind feed refl later)))

as-rest : (text : List ℕ) (depth : ℕ) (rest rest' : List ℕ) → rest ≡ rest' → Found text depth rest' → Found text depth rest
as-rest text depth rest rest' e h = subst (Found text depth) (sym e) h

find-by : (text : List ℕ) (depth : ℕ) (rest : List ℕ) → ((behind : List ℕ) → length behind < length rest → IsRest text behind → IsClean text (tokens_at text depth behind) → Found text depth behind) →
    IsRest text rest → IsClean text (tokens_at text depth rest) → Seen text depth rest → Found text depth rest
find-by text depth rest later r clean (sees_end is none) =
    as-rest text depth rest [] is (finds_end [] here tt tt refl none (end-tokens text depth none) (none-end text))
find-by text depth rest later r clean (sees_blank b behind is h) =
    let s = subst (IsRest text) is r in
    let e = at-blank text depth b behind s h in
    as-rest text depth rest (b ∷ behind) is
    (prepend text depth (blank b) behind h e (none-byte text b behind s (blank-percent b h))
    (later behind (Prim.omega (arith, ap (λ (xs : List ℕ). length xs) is)) (rest-cons text b behind s) (clean-as text _ _ (ap (tokens_at text depth) is ∙ e) clean))) where
      blank-percent : (b : ℕ) → is_blank b ≡ true → is_percent b ≡ false
      blank-percent b h = ne_eqb b 37 (λ e. false≢true (subst (λ x. is_blank x ≡ true) e h))
find-by text depth rest later r clean (sees_line behind is) =
    let s = subst (IsRest text) is r in
    as-rest text depth rest (10 ∷ behind) is (finds_line [] bare behind tt tt refl s (at-line_end text depth behind s) (none-byte text 10 behind s refl))
find-by text depth rest later r clean (sees_comment c behind is on at never) =
    as-rest text depth rest (37 ∷ (c ++ behind)) is
    (find-comment text depth c behind (subst (IsRest text) is r) on at (subst (λ xs. (is_blank_line (before_of text xs) && is_block_rest (before_first is_line_end xs)) ≡ false) is never)
    (clean-as text _ _ (ap (tokens_at text depth) is) clean))
find-by text depth rest later r clean (sees_continued c behind is on) =
    let s = subst (IsRest text) is r in
    let e = at-continued text depth c behind s on in
    as-rest text depth rest (46 ∷ 46 ∷ 46 ∷ (c ++ 10 ∷ behind)) is
    (prepend text depth (continued c) behind on e (none-continued text c behind s on)
    (later behind (Prim.omega (arith, ap (λ (xs : List ℕ). length xs) is, length-append c (10 ∷ behind))) (rest-skip text (continued c) behind s) (clean-as text _ _ (ap (tokens_at text depth) is ∙ e) clean)))
find-by text depth rest later r clean (sees_unended c is on) =
    let s = subst (IsRest text) is r in
    let e = at-unended text depth c s on in
    let zero_depth = no-depth text depth (ap (λ (l : TokenList). l.fault) (sym (ap (tokens_at text depth) is ∙ e)) ∙ clean.fault) in
    as-rest text depth rest (46 ∷ 46 ∷ 46 ∷ c) is (finds_end [] (in_continuation c) tt on refl zero_depth (e ∙ end-tokens text depth zero_depth) (none-unended text c s on))
find-by text depth rest later r clean (sees_mark b behind is h) =
    let s = subst (IsRest text) is r in
    as-rest text depth rest (b ∷ behind) is (finds_mark [] b behind tt h refl s refl (none-byte text b behind s (mark-percent (is_inside (opened depth)) b h)))
find-by text depth rest later r clean (sees_string quote characters behind is h other parted) =
    let s = subst (IsRest text) is r in
    as-rest text depth rest (quote ∷ characters_before quote characters (quote ∷ behind)) is
    (finds_string [] quote characters behind tt h parted refl s (at-string text depth quote characters behind s h other parted) (none-string text quote characters behind s h))
find-by text depth rest later r clean (sees_run b bytes behind is h stops points ok) =
    let s = subst (IsRest text) is r in
    as-rest text depth rest (b ∷ (bytes ++ behind)) is
    (finds_run [] b bytes behind tt stops ok refl s (at-run text depth b bytes behind s h stops points ok) (none-run text (is_inside (opened depth)) b bytes behind s h))
find-by text depth rest later r clean (sees_refused token left is h) =
    absurd (false≢true (sym h ∙ (clean-as text _ (with_first token left) is clean).fine.0))

found-within : (n : ℕ) (text : List ℕ) (depth : ℕ) (rest : List ℕ) → length rest < n → IsRest text rest → IsClean text (tokens_at text depth rest) → Found text depth rest
found-within zero text depth rest h r clean = absurd (Prim.omega arith)
found-within (suc n) text depth rest h r clean =
    find-by text depth rest (λ behind lt s c. found-within n text depth behind (Prim.omega arith) s c) r clean (seen text depth rest r clean.fault)

pub found : (text : List ℕ) (depth : ℕ) (rest : List ℕ) → IsRest text rest → IsClean text (tokens_at text depth rest) → Found text depth rest
found text depth rest r clean = found-within (suc (length rest)) text depth rest (Prim.omega arith) r clean
