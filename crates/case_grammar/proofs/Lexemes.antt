-- The tokens from gaps, line ends, numbers and words on.
use Rattle.std.proofs.Common.{◌≡◌, ◌≢◌, ℕ, suc, ◌+◌, ◌<◌, ◌==◌, ◌&&◌, ◌||◌, ◌⊎◌, Bool, true, false, not, List, [], ◌∷◌, ◌++◌, length, refl, sym, ap, subst, ◌∙◌, arith, inl, inr}
use Rattle.std.proofs.lemmas.Bool.{false≢true, and_from}
use Rattle.scaled_decimal.specs.Decimal.{IsNumber}
use Rattle.scaled_decimal.specs.Reading.{is_number_text}
use Rattle.scaled_decimal.proofs.ReadingLaws.{is_number_text-IsNumber}
use Rattle.case_tokens.specs.declared.Kind.TheVariants as kind
use Rattle.case_tokens.specs.Bytes.{is_blank, is_line_end, is_quote, is_percent, is_parting, is_opening, is_closing, ends_run, may_follow}
use Rattle.case_tokens.specs.Pieces.{is_parted}
use Rattle.case_tokens.specs.TokenLists.{is_inside, with_first}
use Rattle.case_grammar.specs.Gaps.{blank, continued, Gap, gap_text, IsGap, BeginsBlank, IsNotEmpty, LineEnd, bare, commented, IsLineEnd}
use Rattle.case_grammar.proofs.Lines.{IsBlockless}
use Rattle.case_grammar.proofs.Texts.{gap_before, gap-before, line_end_before, IsRest, rest-append, rest-cons, rest-skip}
use Rattle.case_grammar.proofs.Places.{opened, tokens_at, token_at, place_of, place-more}
use Rattle.case_grammar.proofs.Words.{AreInner, runs_on, number-inner, number-begins, number-some, no_point}
use Rattle.case_grammar.proofs.Pieces.{at-blank, at-continued, at-comment, at-line_end, GoesOnWithout, EndsRun, at-run}

pub at-gap_before : (text : List ℕ) (depth : ℕ) (gap : Gap) (rest : List ℕ) → IsGap gap → IsRest text (gap_before gap rest) → tokens_at text depth (gap_before gap rest) ≡ tokens_at text depth rest
at-gap_before text depth [] rest h r = refl
at-gap_before text depth (blank b ∷ gap) rest h r =
    at-blank text depth b (gap_before gap rest) r h.0 ∙ at-gap_before text depth gap rest h.1 (rest-cons text b (gap_before gap rest) r)
at-gap_before text depth (continued c ∷ gap) rest h r =
    at-continued text depth c (gap_before gap rest) r h.0 ∙ at-gap_before text depth gap rest h.1 (rest-skip text (continued c) (gap_before gap rest) r)

-- the place behind a gap
pub place-gap : (text : List ℕ) (gap : Gap) (rest : List ℕ) → IsRest text (gap_before gap rest) → place_of text rest ≡ place_of text (gap_before gap rest) + length (gap_text gap)
place-gap text gap rest r =
    let e = gap-before gap rest in
    place-more text (gap_text gap) rest (subst (IsRest text) e r) ∙ ap (λ xs. place_of text xs + length (gap_text gap)) (sym e)

pub gap-some : (gap : Gap) → IsNotEmpty gap → 0 < length (gap_text gap)
gap-some [] h = absurd h
gap-some (blank b ∷ gap) h = Prim.omega arith
gap-some (continued c ∷ gap) h = Prim.omega arith

pub at-line_end_before : (text : List ℕ) (depth : ℕ) (end : LineEnd) (rest : List ℕ) → IsBlockless text → IsLineEnd end → IsRest text (line_end_before end rest) → IsRest text (10 ∷ rest) →
    tokens_at text depth (line_end_before end rest) ≡ with_first (token_at text (10 ∷ rest) kind.LineEnd 1) (tokens_at text depth rest)
at-line_end_before text depth bare rest blocks h r s = at-line_end text depth rest s
at-line_end_before text depth (commented c) rest blocks h r s =
    at-comment text depth c (10 ∷ rest) blocks r h refl ∙ at-line_end text depth rest s

pub rest-feed : (text : List ℕ) (end : LineEnd) (rest : List ℕ) → IsRest text (line_end_before end rest) → IsRest text (10 ∷ rest)
rest-feed text bare rest r = r
rest-feed text (commented c) rest r = rest-append text (37 ∷ c) (10 ∷ rest) r

-- ---- what may follow a number or a string inside brackets ends a run, and is no quote
or-left : (x y : Bool) → x ≡ true → (x || y) ≡ true
or-left true y h = refl
or-left false y h = absurd (false≢true h)

or-right : (x y : Bool) → y ≡ true → (x || y) ≡ true
or-right true y h = refl
or-right false y h = h

pub blank-follows : (b : ℕ) → is_blank b ≡ true → may_follow b ≡ true
blank-follows b h = or-left _ _ (or-left _ _ (or-left _ _ (or-left _ _ h)))

pub blank-ends : (inside : Bool) (b : ℕ) → is_blank b ≡ true → ends_run inside b ≡ true
blank-ends inside b h = or-left _ _ (or-left _ _ (or-left _ _ (or-left _ _ h)))

regroup : (a l p c e q o x : Bool) → ((((a || l) || p) || c) || e) ≡ true → ((((a || l) || q) || e) || (((p || o) || c) || x)) ≡ true
regroup true l p c e q o x h = refl
regroup false true p c e q o x h = refl
regroup false false p c e true o x h = refl
regroup false false p c true false o x h = refl
regroup false false true c false false o x h = refl
regroup false false false true false false true x h = refl
regroup false false false true false false false x h = refl
regroup false false false false false false o x h = absurd (false≢true h)

pub follows-ends : (inside : Bool) (b : ℕ) → may_follow b ≡ true → ends_run inside b ≡ true
follows-ends inside b h = regroup (is_blank b) (is_line_end b) (is_parting b) (is_closing b) (is_percent b) (is_quote b) (is_opening b) (b == 61 && not inside) h

pub parted-ends : (inside : Bool) (rest : List ℕ) → is_parted rest ≡ true → EndsRun inside rest
parted-ends inside [] h = tt
parted-ends inside (b ∷ rest) h = follows-ends inside b h

quote-follows : (quote : ℕ) → (quote ≡ 39) ⊎ (quote ≡ 34) → may_follow quote ≡ false
quote-follows quote (inl e) = subst (λ q. may_follow q ≡ false) (sym e) refl
quote-follows quote (inr e) = subst (λ q. may_follow q ≡ false) (sym e) refl

pub parted-unquoted : (quote : ℕ) (rest : List ℕ) → (quote ≡ 39) ⊎ (quote ≡ 34) → is_parted rest ≡ true → GoesOnWithout quote rest
parted-unquoted quote [] q h = tt
parted-unquoted quote (b ∷ rest) q h = λ e. false≢true (sym (subst (λ x. may_follow x ≡ false) (sym e) (quote-follows quote q)) ∙ h)

pub parted-gap : (gap : Gap) (rest : List ℕ) → IsGap gap → BeginsBlank gap → is_parted rest ≡ true → is_parted (gap_before gap rest) ≡ true
parted-gap [] rest h k p = p
parted-gap (blank b ∷ gap) rest h k p = blank-follows b h.0
parted-gap (continued c ∷ gap) rest h k p = absurd k

-- ---- numbers and words
in-order : (x y z : Bool) → (x ≡ true → y ≡ true) → (x ≡ true → z ≡ true) → (x && not (y && z)) ≡ false
in-order true y z h k = ap not (and_from y z (h refl) (k refl))
in-order false y z h k = refl

pub at-number : (text : List ℕ) (depth : ℕ) (number rest : List ℕ) → IsRest text (number ++ rest) → IsNumber number → EndsRun (is_inside (opened depth)) rest →
    (is_inside (opened depth) ≡ true → is_parted rest ≡ true) →
    tokens_at text depth (number ++ rest) ≡ with_first (token_at text (number ++ rest) kind.Run (length number)) (tokens_at text depth rest)
at-number text depth [] rest r h ends parted = absurd (number-some [] h refl)
at-number text depth (b ∷ bytes) rest r h ends parted =
    at-run text depth b bytes rest r (runs_on (is_inside (opened depth)) (b ∷ bytes) (number-inner (b ∷ bytes) h)) ends (number-begins (b ∷ bytes) rest h)
    (in-order (is_inside (opened depth)) (is_number_text (b ∷ bytes)) (is_parted rest) (λ _. (is_number_text-IsNumber (b ∷ bytes)).1 h) parted)

-- a word outside brackets
pub at-word : (text : List ℕ) (b : ℕ) (bytes rest : List ℕ) → IsRest text (b ∷ (bytes ++ rest)) → AreInner (b ∷ bytes) → b ≢ 46 → EndsRun false rest →
    tokens_at text 0 (b ∷ (bytes ++ rest)) ≡ with_first (token_at text (b ∷ (bytes ++ rest)) kind.Run (suc (length bytes))) (tokens_at text 0 rest)
at-word text b bytes rest r h other ends = at-run text 0 b bytes rest r (runs_on false (b ∷ bytes) h) ends (no_point b (bytes ++ rest) other) refl
