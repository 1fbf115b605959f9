-- What a text begins with at each place, where no fault ends its tokens.
use Rattle.std.proofs.Common.{◌≡◌, ◌≢◌, ℕ, zero, suc, ◌+◌, ◌-◌, ◌==◌, ◌&&◌, ◌⊎◌, Bool, true, false, not, List, [], ◌∷◌, ◌++◌, length, take, drop, refl, sym, ap, subst, ◌∙◌, arith, Option, Some, None, cond, inl, inr, append-nil, length-append}
use Rattle.std.specs.List.{AllByRecursion, position_or_len, before_first}
use Rattle.std.proofs.lemmas.List.{take_at, drop_at}
use Rattle.std.proofs.lemmas.Bool.{cases_Bool, eqb-true, eq-eqb, or_from, or_cases, and_parts, lt-ltb, cond-true, cond-false, false≢true}
use Rattle.scaled_decimal.specs.Reading.{is_number_text}
use Rattle.case_tokens.specs.declared.Kind.{Kind}
use Rattle.case_tokens.specs.declared.Kind.TheVariants as kind
use Rattle.case_tokens.specs.declared.Token.{Token}
use Rattle.case_tokens.specs.declared.pieces.Piece.{Piece}
use Rattle.case_tokens.specs.declared.pieces.Piece.TheVariants as piece
use Rattle.case_tokens.specs.Bytes.{is_line_end, is_blank, is_quote, is_percent, is_mark, ends_run}
use Rattle.case_tokens.specs.Pieces.{piece_at, comment_at, is_block_rest, is_continuation, string_length, more, is_parted, quoted_at, run_at}
use Rattle.case_tokens.specs.TokenLists.{TokenList, is_inside, is_blank_line, with_first, with_piece, tokens_from, counted, length_of}
use Rattle.case_text.specs.Words.{word_of, word_by}
use Rattle.case_grammar.specs.Gaps.{IsOnLine}
use Rattle.case_grammar.specs.Values.{Character, one, doubled, characters_text, IsCharacter, IsString}
use Rattle.case_grammar.proofs.Texts.{characters_before, IsRest}
use Rattle.case_grammar.proofs.Places.{opened, tokens_at, token_at, before_of, at-cut, at-bad, token-word}
use Rattle.case_grammar.proofs.Pieces.{IsAtLineEnd, GoesOnWithout, IsRun, EndsRun, piece-quote, piece-run, run-length, string-bytes, string_rest}
use Rattle.case_grammar.proofs.Fine.{is_fine}

-- ---- parts of a text
pub record LineOf (bytes : List ℕ) : Type 0 where
  pub line : List ℕ
  pub behind : List ℕ
  pub is : bytes ≡ line ++ behind
  pub on : IsOnLine line
  pub at : IsAtLineEnd behind

pub line-of : (bytes : List ℕ) → LineOf bytes
line-of [] = record { line = []; behind = []; is = refl; on = tt; at = tt }
line-of (b ∷ bytes) = by_test (is_line_end b) refl (line-of bytes) where
  by_test : (test : Bool) → is_line_end b ≡ test → LineOf bytes → LineOf (b ∷ bytes)
  by_test true t h = record { line = []; behind = b ∷ bytes; is = refl; on = tt; at = eqb-true b 10 t }
  by_test false t h = record {
    line = b ∷ h.line;
    behind = h.behind;
    is = ap (λ xs. b ∷ xs) h.is;
    on = (λ e. false≢true (sym t ∙ eq-eqb b 10 e), h.on);
    at = h.at;
  }

record RunOf (inside : Bool) (bytes : List ℕ) : Type 0 where
  run : List ℕ
  behind : List ℕ
  is : bytes ≡ run ++ behind
  goes_on : IsRun inside run
  stops : EndsRun inside behind

run-of : (inside : Bool) (bytes : List ℕ) → RunOf inside bytes
run-of inside [] = record { run = []; behind = []; is = refl; goes_on = tt; stops = tt }
run-of inside (b ∷ bytes) = by_test (ends_run inside b) refl (run-of inside bytes) where
  by_test : (test : Bool) → ends_run inside b ≡ test → RunOf inside bytes → RunOf inside (b ∷ bytes)
  by_test true t h = record { run = []; behind = b ∷ bytes; is = refl; goes_on = tt; stops = t }
  by_test false t h = record { run = b ∷ h.run; behind = h.behind; is = ap (λ xs. b ∷ xs) h.is; goes_on = (t, h.goes_on); stops = h.stops }

record StringOf (quote : ℕ) (bytes : List ℕ) (n : ℕ) : Type 0 where
  characters : List Character
  behind : List ℕ
  is : bytes ≡ characters_before quote characters (quote ∷ behind)
  each : AllByRecursion (IsCharacter quote) characters
  other : GoesOnWithout quote behind
  size : n ≡ length (characters_text quote characters) + 1

unequal : (a b : ℕ) → (a == b) ≡ false → a ≢ b
unequal a b h e = false≢true (sym h ∙ eq-eqb a b e)

one-byte : (n : ℕ) → Some 1 ≡ Some n → n ≡ 1
one-byte n e = Prim.cc

some-more : (m n : ℕ) (found : Option ℕ) → more m found ≡ Some n → (k : ℕ) × (found ≡ Some k) × (n ≡ m + k)
some-more m n None e = absurd (Prim.cc)
some-more m n (Some k) e = (k, refl, Prim.cc)

string-of : (quote : ℕ) (bytes : List ℕ) (n : ℕ) → string_length quote bytes ≡ Some n → StringOf quote bytes n
unfolding string_length
string-of quote [] n e = absurd (Prim.cc)
string-of quote (b ∷ []) n e = by_test (b == quote) refl e where
  by_test : (test : Bool) → (b == quote) ≡ test → cond test (Some 1) None ≡ Some n → StringOf quote (b ∷ []) n
  by_test true t e = record { characters = []; behind = []; is = ap (λ x. x ∷ []) (eqb-true b quote t); each = tt; other = tt; size = one-byte n e }
  by_test false t e = absurd (Prim.cc)
string-of quote (b ∷ c ∷ bytes) n e = by_tests (is_line_end b) (b == quote) (c == quote) refl refl refl e (λ m. string-of quote bytes m) (λ m. string-of quote (c ∷ bytes) m) where
  by_tests : (line same next : Bool) → is_line_end b ≡ line → (b == quote) ≡ same → (c == quote) ≡ next →
      cond line None (cond same (cond next (more 2 (string_length quote bytes)) (Some 1)) (more 1 (string_length quote (c ∷ bytes)))) ≡ Some n →
      ((m : ℕ) → string_length quote bytes ≡ Some m → StringOf quote bytes m) → ((m : ℕ) → string_length quote (c ∷ bytes) ≡ Some m → StringOf quote (c ∷ bytes) m) →
      StringOf quote (b ∷ c ∷ bytes) n
  by_tests true same next l s t e h k = absurd (Prim.cc)
  by_tests false true true l s t e h k =
      let p = some-more 2 n (string_length quote bytes) e in
      let behind = h p.0 p.1 in
      record {
        characters = doubled ∷ behind.characters;
        behind = behind.behind;
        is = ap (λ x. x ∷ c ∷ bytes) (eqb-true b quote s) ∙ ap (λ x. quote ∷ x ∷ bytes) (eqb-true c quote t) ∙ ap (λ xs. quote ∷ quote ∷ xs) behind.is;
        each = (tt, behind.each);
        other = behind.other;
        size = Prim.omega (arith, p.2, behind.size);
      }
  by_tests false true false l s t e h k =
      record { characters = []; behind = c ∷ bytes; is = ap (λ x. x ∷ c ∷ bytes) (eqb-true b quote s); each = tt; other = unequal c quote t; size = one-byte n e }
  by_tests false false next l s t e h k =
      let p = some-more 1 n (string_length quote (c ∷ bytes)) e in
      let behind = k p.0 p.1 in
      record {
        characters = one b ∷ behind.characters;
        behind = behind.behind;
        is = ap (λ xs. b ∷ xs) behind.is;
        each = ((unequal b quote s, unequal b 10 l), behind.each);
        other = behind.other;
        size = Prim.omega (arith, p.2, behind.size);
      }

-- ---- what a text begins with
pub data Seen (text : List ℕ) (depth : ℕ) (rest : List ℕ) : Type 0 where
  sees_end : rest ≡ [] → depth ≡ 0 → Seen text depth rest
  sees_blank : (b : ℕ) (behind : List ℕ) → rest ≡ b ∷ behind → is_blank b ≡ true → Seen text depth rest
  sees_line : (behind : List ℕ) → rest ≡ 10 ∷ behind → Seen text depth rest
  sees_comment : (c behind : List ℕ) → rest ≡ 37 ∷ (c ++ behind) → IsOnLine c → IsAtLineEnd behind →
      (is_blank_line (before_of text rest) && is_block_rest (before_first is_line_end rest)) ≡ false → Seen text depth rest
  sees_continued : (c behind : List ℕ) → rest ≡ 46 ∷ 46 ∷ 46 ∷ (c ++ 10 ∷ behind) → IsOnLine c → Seen text depth rest
  sees_unended : (c : List ℕ) → rest ≡ 46 ∷ 46 ∷ 46 ∷ c → IsOnLine c → Seen text depth rest
  sees_mark : (b : ℕ) (behind : List ℕ) → rest ≡ b ∷ behind → is_mark (is_inside (opened depth)) b ≡ true → Seen text depth rest
  sees_string : (quote : ℕ) (characters : List Character) (behind : List ℕ) → rest ≡ quote ∷ characters_before quote characters (quote ∷ behind) → IsString quote characters →
      GoesOnWithout quote behind → (is_inside (opened depth) && not (is_parted behind)) ≡ false → Seen text depth rest
  sees_run : (b : ℕ) (bytes behind : List ℕ) → rest ≡ b ∷ (bytes ++ behind) → IsRun (is_inside (opened depth)) (b ∷ bytes) → EndsRun (is_inside (opened depth)) behind →
      is_continuation (b ∷ (bytes ++ behind)) ≡ false → (is_inside (opened depth) && not (is_number_text (b ∷ bytes) && is_parted behind)) ≡ false → Seen text depth rest
  sees_refused : (token : Token) (left : TokenList) → tokens_at text depth rest ≡ with_first token left → is_fine (word_of text token) ≡ false → Seen text depth rest

-- a token of any kind
pub at-any : (text : List ℕ) (depth : ℕ) (k : Kind) (n b : ℕ) (rest : List ℕ) → piece_at (is_inside (opened depth)) (is_blank_line (before_of text (b ∷ rest))) (b ∷ rest) ≡ piece.Token k n →
    (left : TokenList) × (tokens_at text depth (b ∷ rest) ≡ with_first (token_at text (b ∷ rest) k n) left)
unfolding tokens_at tokens_from
at-any text depth k n b rest e = (
  tokens_from (counted (piece.Token k n) b (opened depth)) (before_of text (b ∷ rest) ++ b ∷ []) (n - 1) rest,
  ap (λ (p : Piece). with_piece p (before_of text (b ∷ rest)) (tokens_from (counted p b (opened depth)) (before_of text (b ∷ rest) ++ b ∷ []) (length_of p - 1) rest)) e,
)

see-refused : (text : List ℕ) (depth : ℕ) (k : Kind) (n b : ℕ) (rest : List ℕ) → IsRest text (b ∷ rest) →
    piece_at (is_inside (opened depth)) (is_blank_line (before_of text (b ∷ rest))) (b ∷ rest) ≡ piece.Token k n → is_fine (word_by k b) ≡ false → Seen text depth (b ∷ rest)
see-refused text depth k n b rest r e h =
    let p = at-any text depth k n b rest e in
    sees_refused (token_at text (b ∷ rest) k n) p.0 p.1 (ap is_fine (token-word text k n b rest r) ∙ h)

some-fault : (text : List ℕ) (depth : ℕ) (rest : List ℕ) (list : TokenList) (at : ℕ) → tokens_at text depth rest ≡ list → list.fault ≡ Some at → (tokens_at text depth rest).fault ≡ None → ⊥
some-fault text depth rest list at e h none =
    let same : (tokens_at text depth rest).fault ≡ Some at = ap (λ (l : TokenList). l.fault) e ∙ h in absurd (Prim.cc)

no-bad : (text : List ℕ) (depth b : ℕ) (rest : List ℕ) → (tokens_at text depth (b ∷ rest)).fault ≡ None →
    piece_at (is_inside (opened depth)) (is_blank_line (before_of text (b ∷ rest))) (b ∷ rest) ≡ piece.Bad → ⊥
no-bad text depth b rest none e = some-fault text depth (b ∷ rest) _ (length (before_of text (b ∷ rest))) (at-bad text depth b rest e) refl none

piece-block : (inside blank : Bool) (rest : List ℕ) → (blank && is_block_rest (before_first is_line_end (37 ∷ rest))) ≡ true → piece_at inside blank (37 ∷ rest) ≡ piece.Token kind.Block 2
unfolding piece_at comment_at
piece-block inside blank rest h = cond-true (blank && is_block_rest (before_first is_line_end (37 ∷ rest))) _ _ h

see-percent : (text : List ℕ) (depth : ℕ) (rest : List ℕ) → IsRest text (37 ∷ rest) → Seen text depth (37 ∷ rest)
see-percent text depth rest r = elim (cases_Bool (is_blank_line (before_of text (37 ∷ rest)) && is_block_rest (before_first is_line_end (37 ∷ rest)))) [
  | inl h ↦ see-refused text depth kind.Block 2 37 rest r (piece-block _ _ rest h) refl
  | inr h ↦ let l = line-of rest in sees_comment l.line l.behind (ap (λ xs. 37 ∷ xs) l.is) l.on l.at h
]

three-points : (bytes : List ℕ) → is_continuation bytes ≡ true → (rest : List ℕ) × (bytes ≡ 46 ∷ 46 ∷ 46 ∷ rest)
three-points [] h = absurd (false≢true h)
three-points (a ∷ []) h = absurd (false≢true (sym (second (46 == a) false refl) ∙ h)) where
  second : (x y : Bool) → y ≡ false → (x && y) ≡ false
  second true y e = e
  second false y e = refl
three-points (a ∷ b ∷ []) h = absurd (false≢true (sym (second (46 == a) (46 == b && false) (second (46 == b) false refl)) ∙ h)) where
  second : (x y : Bool) → y ≡ false → (x && y) ≡ false
  second true y e = e
  second false y e = refl
three-points (a ∷ b ∷ c ∷ rest) h =
    let p = and_parts (46 == a) (46 == b && (46 == c && true)) h in
    let q = and_parts (46 == b) (46 == c && true) p.1 in
    let s = and_parts (46 == c) true q.1 in
    (rest, ap (λ x. x ∷ b ∷ c ∷ rest) (sym (eqb-true 46 a p.0)) ∙ ap (λ x. 46 ∷ x ∷ c ∷ rest) (sym (eqb-true 46 b q.0)) ∙ ap (λ x. 46 ∷ 46 ∷ x ∷ rest) (sym (eqb-true 46 c s.0)))

see-points : (text : List ℕ) (depth : ℕ) (rest : List ℕ) → is_continuation rest ≡ true → Seen text depth rest
see-points text depth rest h = let p = three-points rest h in by_line p.0 p.1 (line-of p.0) where
  by_line : (xs : List ℕ) → rest ≡ 46 ∷ 46 ∷ 46 ∷ xs → LineOf xs → Seen text depth rest
  by_line xs e l = by_behind l.line l.behind l.is l.on l.at where
    by_behind : (line behind : List ℕ) → xs ≡ line ++ behind → IsOnLine line → IsAtLineEnd behind → Seen text depth rest
    by_behind line [] is on at = sees_unended line (e ∙ ap (λ ys. 46 ∷ 46 ∷ 46 ∷ ys) (is ∙ append-nil line)) on
    by_behind line (b ∷ behind) is on at = sees_continued line behind (e ∙ ap (λ ys. 46 ∷ 46 ∷ 46 ∷ ys) (is ∙ ap (λ x. line ++ x ∷ behind) at)) on

quoted-none : (inside : Bool) (found : Option ℕ) (xs : List ℕ) → found ≡ None → quoted_at inside found xs ≡ cond inside piece.Bad (piece.Token kind.Open (position_or_len is_line_end xs))
unfolding quoted_at
quoted-none inside found xs e = ap (λ (f : Option ℕ). quoted_at inside f xs) e

quoted-bad : (inside : Bool) (n : ℕ) (found : Option ℕ) (xs : List ℕ) → found ≡ Some n → (inside && not (is_parted (drop (n + 1) xs))) ≡ true → quoted_at inside found xs ≡ piece.Bad
unfolding quoted_at
quoted-bad inside n found xs e h = ap (λ (f : Option ℕ). quoted_at inside f xs) e ∙ cond-true (inside && not (is_parted (drop (n + 1) xs))) _ _ h

length-rest : (quote : ℕ) (characters : List Character) → length (string_rest quote characters) ≡ length (characters_text quote characters) + 1
length-rest quote characters = length-append (characters_text quote characters) (quote ∷ [])

see-quote : (text : List ℕ) (depth quote : ℕ) (rest : List ℕ) → (quote ≡ 39) ⊎ (quote ≡ 34) → IsRest text (quote ∷ rest) → (tokens_at text depth (quote ∷ rest)).fault ≡ None → Seen text depth (quote ∷ rest)
see-quote text depth quote rest q r none = by_length (string_length quote rest) refl where
  piece_is : (p : Piece) → quoted_at (is_inside (opened depth)) (string_length quote rest) (quote ∷ rest) ≡ p →
      piece_at (is_inside (opened depth)) (is_blank_line (before_of text (quote ∷ rest))) (quote ∷ rest) ≡ p
  piece_is p e = piece-quote (is_inside (opened depth)) _ quote rest q ∙ e

  by_length : (found : Option ℕ) → string_length quote rest ≡ found → Seen text depth (quote ∷ rest)
  by_length None e = elim (cases_Bool (is_inside (opened depth))) [
    | inl i ↦ absurd (no-bad text depth quote rest none (piece_is piece.Bad (quoted-none _ _ _ e ∙ cond-true (is_inside (opened depth)) _ _ i)))
    | inr i ↦ see-refused text depth kind.Open _ quote rest r (piece_is _ (quoted-none _ _ _ e ∙ cond-false (is_inside (opened depth)) _ _ i)) refl
  ]
  by_length (Some n) e =
      let s = string-of quote rest n e in
      let behind_is : drop (n + 1) (quote ∷ rest) ≡ s.behind =
      ap (λ xs. drop (n + 1) (quote ∷ xs)) (s.is ∙ string-bytes quote s.characters s.behind)
      ∙ drop_at (quote ∷ string_rest quote s.characters) s.behind (n + 1) (Prim.omega (arith, s.size, length-rest quote s.characters)) in
      elim (cases_Bool (is_inside (opened depth) && not (is_parted s.behind))) [
        | inl i ↦ absurd (no-bad text depth quote rest none
            (piece_is piece.Bad (quoted-bad (is_inside (opened depth)) n _ (quote ∷ rest) e (ap (λ xs. is_inside (opened depth) && not (is_parted xs)) behind_is ∙ i))))
        | inr i ↦ sees_string quote s.characters s.behind (ap (λ xs. quote ∷ xs) s.is) (q, s.each) s.other i
      ]

run-bad : (inside : Bool) (n : ℕ) (xs : List ℕ) → (inside && not (is_number_text (take n xs) && is_parted (drop n xs))) ≡ true → run_at inside n xs ≡ piece.Bad
unfolding run_at
run-bad inside n xs h = cond-true (inside && not (is_number_text (take n xs) && is_parted (drop n xs))) _ _ h

see-run : (text : List ℕ) (depth b : ℕ) (rest : List ℕ) → ends_run (is_inside (opened depth)) b ≡ false → is_continuation (b ∷ rest) ≡ false → (tokens_at text depth (b ∷ rest)).fault ≡ None →
    Seen text depth (b ∷ rest)
see-run text depth b rest h k none =
    let inside : Bool = is_inside (opened depth) in
    let s = run-of inside rest in
    let all : List ℕ = b ∷ rest in
    let is : b ∷ rest ≡ b ∷ (s.run ++ s.behind) = ap (λ xs. b ∷ xs) s.is in
    let size : position_or_len (ends_run inside) (b ∷ rest) ≡ suc (length s.run) = ap (position_or_len (ends_run inside)) is ∙ run-length inside (b ∷ s.run) s.behind (h, s.goes_on) s.stops in
    let test : (inside && not (is_number_text (take (suc (length s.run)) (b ∷ rest)) && is_parted (drop (suc (length s.run)) (b ∷ rest)))) ≡ (inside && not (is_number_text (b ∷ s.run) && is_parted s.behind)) =
    ap (λ xs. inside && not (is_number_text (take (suc (length s.run)) xs) && is_parted (drop (suc (length s.run)) xs))) is
    ∙ ap (λ xs. inside && not (is_number_text xs && is_parted (drop (suc (length s.run)) (b ∷ (s.run ++ s.behind))))) (take_at (b ∷ s.run) s.behind (suc (length s.run)) refl)
    ∙ ap (λ xs. inside && not (is_number_text (b ∷ s.run) && is_parted xs)) (drop_at (b ∷ s.run) s.behind (suc (length s.run)) refl) in
    elim (cases_Bool (inside && not (is_number_text (b ∷ s.run) && is_parted s.behind))) [
      | inl bad ↦ absurd (no-bad text depth b rest none
          (piece-run inside _ b rest h k ∙ ap (λ n. run_at inside n (b ∷ rest)) size ∙ run-bad inside (suc (length s.run)) (b ∷ rest) (test ∙ bad)))
      | inr good ↦ sees_run b s.run s.behind is (h, s.goes_on) s.stops (ap is_continuation (sym is) ∙ k) good
    ]

inside-some : (depth : ℕ) → is_inside (opened (suc depth)) ≡ true
inside-some depth = lt-ltb 0 (suc depth) (Prim.omega arith)

pub seen : (text : List ℕ) (depth : ℕ) (rest : List ℕ) → IsRest text rest → (tokens_at text depth rest).fault ≡ None → Seen text depth rest
seen text zero [] r none = sees_end refl refl
seen text (suc depth) [] r none = absurd (some-fault text (suc depth) [] _ (length (before_of text [])) (at-cut text depth) refl none)
seen text depth (b ∷ rest) r none = elim (cases_Bool (is_blank b)) [
  | inl h ↦ sees_blank b rest refl h
  | inr no_blank ↦ elim (cases_Bool (is_line_end b)) [
    | inl h ↦ sees_line rest (ap (λ x. x ∷ rest) (eqb-true b 10 h))
    | inr no_line ↦ elim (cases_Bool (is_percent b)) [
      | inl h ↦ let e = eqb-true b 37 h in subst (λ x. Seen text depth (x ∷ rest)) (sym e) (see-percent text depth rest (subst (λ x. IsRest text (x ∷ rest)) e r))
      | inr no_percent ↦ elim (cases_Bool (is_continuation (b ∷ rest))) [
        | inl h ↦ see-points text depth (b ∷ rest) h
        | inr no_points ↦ elim (cases_Bool (is_mark (is_inside (opened depth)) b)) [
          | inl h ↦ sees_mark b rest refl h
          | inr no_mark ↦ elim (cases_Bool (is_quote b)) [
            | inl h ↦ see-quote text depth b rest (elim (or_cases (b == 39) (b == 34) h) [ inl e ↦ inl (eqb-true b 39 e) | inr e ↦ inr (eqb-true b 34 e) ]) r none
            | inr no_quote ↦
                see-run text depth b rest (or_from _ _ (or_from _ _ (or_from _ _ (or_from (is_blank b) (is_line_end b) no_blank no_line) no_quote) no_percent) no_mark) no_points none
          ]
        ]
      ]
    ]
  ]
]
