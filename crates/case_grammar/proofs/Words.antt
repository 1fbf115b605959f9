-- The bytes of names and numbers: none of them ends a run, and no number begins with three points.
use Rattle.std.proofs.Common.{◌≡◌, ◌≢◌, ℕ, ◌+◌, ◌<◌, ◌≤◌, ◌==◌, ◌&&◌, ◌⊎◌, Bool, true, false, List, [], ◌∷◌, ◌++◌, length, refl, sym, ap, subst, ◌∙◌, arith, inl, inr}
use Rattle.std.specs.Prelude.{IsTrue, nat_le}
use Rattle.std.specs.List.{AllByRecursion, AllPass, list_all}
use Rattle.std.specs.Char.{is_ascii_alphabetic, is_ascii_digit}
use Rattle.std.proofs.lemmas.Bool.{ne_eqb, eqb-true, leb-true, and_parts, and_left, or_from, or_cases, false≢true}
use Rattle.std.proofs.lemmas.List.Sums.{list_all-from_AllPass}
use Rattle.scaled_decimal.specs.Decimal.{is_mark as is_exponent_mark, IsSign, IsMantissa, IsExponent, Spells, IsWord, IsNumber}
use Rattle.case_tokens.specs.Bytes.{ends_run}
use Rattle.case_tokens.specs.Pieces.{is_continuation}
use Rattle.case_text.specs.Names.{is_name_part}
use Rattle.case_grammar.specs.Statements.{IsName, Target, further_text, target_text, IsTarget}

-- the byte is `+`, one from `-` to `9`, a letter or `_`
abbrev pub IsInner : ℕ → Type 0
IsInner b = ((43 ≤ b) × (b ≤ 43)) ⊎ ((45 ≤ b) × (b ≤ 57)) ⊎ ((65 ≤ b) × (b ≤ 90)) ⊎ ((95 ≤ b) × (b ≤ 95)) ⊎ ((97 ≤ b) × (b ≤ 122))

pub inner-goes_on : (inside : Bool) (b : ℕ) → IsInner b → ends_run inside b ≡ false
inner-goes_on inside b h =
    or_from _ _ (or_from _ _ (or_from _ _ (or_from _ _
    (or_from _ _ (or_from _ _ (ne_eqb b 32 (λ e. Prim.omega arith)) (ne_eqb b 9 (λ e. Prim.omega arith))) (ne_eqb b 13 (λ e. Prim.omega arith)))
    (ne_eqb b 10 (λ e. Prim.omega arith)))
    (or_from _ _ (ne_eqb b 39 (λ e. Prim.omega arith)) (ne_eqb b 34 (λ e. Prim.omega arith))))
    (ne_eqb b 37 (λ e. Prim.omega arith)))
    (or_from _ _ (or_from _ _ (or_from _ _
    (or_from _ _ (ne_eqb b 44 (λ e. Prim.omega arith)) (ne_eqb b 59 (λ e. Prim.omega arith)))
    (or_from _ _ (ne_eqb b 91 (λ e. Prim.omega arith)) (ne_eqb b 123 (λ e. Prim.omega arith))))
    (or_from _ _ (ne_eqb b 93 (λ e. Prim.omega arith)) (ne_eqb b 125 (λ e. Prim.omega arith))))
    (and_left _ _ (ne_eqb b 61 (λ e. Prim.omega arith))))

abbrev pub AreInner : List ℕ → Type 0
AreInner bytes = AllByRecursion IsInner bytes

pub inner-append : (xs ys : List ℕ) → AreInner xs → AreInner ys → AreInner (xs ++ ys)
inner-append [] ys h k = k
inner-append (x ∷ xs) ys h k = (h.0, inner-append xs ys h.1 k)

pub runs_on : (inside : Bool) (xs : List ℕ) → AreInner xs → AllByRecursion (λ byte. ends_run inside byte ≡ false) xs
runs_on inside [] h = tt
runs_on inside (x ∷ xs) h = (inner-goes_on inside x h.0, runs_on inside xs h.1)

-- ---- names
in_range : (low high b : ℕ) → (nat_le low b && nat_le b high) ≡ true → (low ≤ b) × (b ≤ high)
in_range low high b h = let p = and_parts _ _ h in (leb-true low b p.0, leb-true b high p.1)

digit-inner : (b : ℕ) → is_ascii_digit b ≡ true → IsInner b
digit-inner b h = let r = in_range 48 57 b h in inr (inl (Prim.omega arith, Prim.omega arith))

letter-inner : (b : ℕ) → is_ascii_alphabetic b ≡ true → IsInner b
letter-inner b h = elim (or_cases _ _ h) [
  | inl upper ↦ inr (inr (inl (in_range 65 90 b upper)))
  | inr lower ↦ inr (inr (inr (inr (in_range 97 122 b lower))))
]

part-inner : (b : ℕ) → is_name_part b ≡ true → IsInner b
part-inner b h = elim (or_cases _ _ h) [
  | inl alphanumeric ↦ elim (or_cases _ _ alphanumeric) [
    | inl k ↦ elim (or_cases _ _ k) [
      | inl digit ↦ digit-inner b digit
      | inr upper ↦ inr (inr (inl (in_range 65 90 b upper)))
    ]
    | inr lower ↦ inr (inr (inr (inr (in_range 97 122 b lower))))
  ]
  | inr underscore ↦ let e = eqb-true b 95 underscore in inr (inr (inr (inl (Prim.omega arith, Prim.omega arith))))
]

parts-inner : (bytes : List ℕ) → AllByRecursion (λ byte. IsTrue (is_name_part byte)) bytes → AreInner bytes
parts-inner [] h = tt
parts-inner (b ∷ bytes) h = (part-inner b h.0, parts-inner bytes h.1)

pub name-inner : (name : List ℕ) → IsName name → AreInner name
name-inner [] h = tt
name-inner (first ∷ others) h = (letter-inner first h.0, parts-inner others h.1)

further-inner : (names : List (List ℕ)) → AllByRecursion IsName names → AreInner (further_text names)
further-inner [] h = tt
further-inner (name ∷ names) h = (inr (inl (Prim.omega arith, Prim.omega arith)), inner-append name (further_text names) (name-inner name h.0) (further-inner names h.1))

pub letter : (b : ℕ) → (97 ≤ b) × (b ≤ 122) → IsInner b
letter b h = inr (inr (inr (inr h)))

pub target-inner : (target : Target) → IsTarget target → AreInner (target_text target)
target-inner target h = (
  letter 109 (Prim.omega arith, Prim.omega arith),
  (
    letter 112 (Prim.omega arith, Prim.omega arith),
    (
      letter 99 (Prim.omega arith, Prim.omega arith),
      (inr (inl (Prim.omega arith, Prim.omega arith)), inner-append target.name (further_text target.further) (name-inner target.name h.0) (further-inner target.further h.1)),
    ),
  ),
)

-- ---- numbers
digits-inner : (bytes : List ℕ) → list_all is_ascii_digit bytes ≡ true → AreInner bytes
digits-inner [] h = tt
digits-inner (b ∷ bytes) h = let p = and_parts _ _ h in (digit-inner b p.0, digits-inner bytes p.1)

all-digits : (bytes : List ℕ) → AllPass is_ascii_digit bytes → AreInner bytes
all-digits bytes h = digits-inner bytes (list_all-from_AllPass is_ascii_digit bytes h)

sign-inner : (sign : List ℕ) (negative : Bool) → IsSign sign negative → AreInner sign
sign-inner sign negative h = elim h [
  | inl none ↦ subst AreInner (sym none.0) tt
  | inr some ↦ elim some [
    | inl plus ↦ subst AreInner (sym plus.0) (inl (Prim.omega arith, Prim.omega arith), tt)
    | inr minus ↦ subst AreInner (sym minus.0) (inr (inl (Prim.omega arith, Prim.omega arith)), tt)
  ]
]

mantissa-inner : (text whole part : List ℕ) → IsMantissa text whole part → AreInner text
mantissa-inner text whole part m = elim (m.text_is) [
  | inl alone ↦ subst AreInner (sym alone.0) (all-digits whole m.whole_digits)
  | inr both ↦ subst AreInner (sym both) (inner-append whole (46 ∷ part) (all-digits whole m.whole_digits) (inr (inl (Prim.omega arith, Prim.omega arith)), all-digits part m.part_digits))
]

mark-inner : (b : ℕ) → is_exponent_mark b ≡ true → IsInner b
mark-inner b h = elim (or_cases _ _ h) [
  | inl small ↦ let e = eqb-true b 101 small in letter b (Prim.omega arith, Prim.omega arith)
  | inr large ↦ let e = eqb-true b 69 large in inr (inr (inl (Prim.omega arith, Prim.omega arith)))
]

exponent-inner : (text : List ℕ) (negative : Bool) (exponent : List ℕ) → IsExponent text negative exponent → AreInner text
exponent-inner text negative exponent h = elim h [
  | inl none ↦ subst AreInner (sym none.0) tt
  | inr marked ↦ subst AreInner (sym marked.text_is)
      (mark-inner marked.mark marked.marks, inner-append marked.sign exponent (sign-inner marked.sign negative marked.signs) (all-digits exponent marked.digits))
]

word-inner : (text : List ℕ) → IsWord text → AreInner text
word-inner text h =
    let large : (b : ℕ) → (65 ≤ b) × (b ≤ 90) → IsInner b = λ b r. inr (inr (inl r)) in
    elim h [
      | inl e ↦ subst AreInner (sym e) (large 73 (Prim.omega arith, Prim.omega arith), (letter 110 (Prim.omega arith, Prim.omega arith), (letter 102 (Prim.omega arith, Prim.omega arith), tt)))
      | inr k ↦ elim k [
        | inl e ↦ subst AreInner (sym e) (letter 105 (Prim.omega arith, Prim.omega arith), (letter 110 (Prim.omega arith, Prim.omega arith), (letter 102 (Prim.omega arith, Prim.omega arith), tt)))
        | inr l ↦ elim l [
          | inl e ↦ subst AreInner (sym e) (large 78 (Prim.omega arith, Prim.omega arith), (letter 97 (Prim.omega arith, Prim.omega arith), (large 78 (Prim.omega arith, Prim.omega arith), tt)))
          | inr e ↦ subst AreInner (sym e) (letter 110 (Prim.omega arith, Prim.omega arith), (letter 97 (Prim.omega arith, Prim.omega arith), (letter 110 (Prim.omega arith, Prim.omega arith), tt)))
        ]
      ]
    ]

pub number-inner : (text : List ℕ) → IsNumber text → AreInner text
number-inner text h = elim h [
  | inl d ↦ let s : Spells text d.0 = d.1 in
      subst AreInner (sym s.text_is) (inner-append s.sign (s.mantissa ++ s.tail) (sign-inner s.sign (d.0).negative s.signs)
      (inner-append s.mantissa s.tail (mantissa-inner s.mantissa (d.0).whole (d.0).part s.mantissas) (exponent-inner s.tail (d.0).exponent_negative (d.0).exponent s.exponents)))
  | inr w ↦ subst AreInner (sym w.text_is) (inner-append w.sign w.word (sign-inner w.sign w.negative w.signs) (word-inner w.word w.words))
]

-- ---- no continuation begins with a name, or with a number
pub no_point : (b : ℕ) (rest : List ℕ) → b ≢ 46 → is_continuation (b ∷ rest) ≡ false
no_point b rest h = and_left _ _ (ne_eqb 46 b (λ e. h (sym e)))

pub one_point : (b c : ℕ) (rest : List ℕ) → c ≢ 46 → is_continuation (b ∷ c ∷ rest) ≡ false
one_point b c rest h = second (46 == b) _ (and_left _ _ (ne_eqb 46 c (λ e. h (sym e)))) where
  second : (x y : Bool) → y ≡ false → (x && y) ≡ false
  second true y e = e
  second false y e = refl

pub name-begins : (name rest : List ℕ) → IsName name → is_continuation (name ++ rest) ≡ false
name-begins [] rest h = absurd h
name-begins (first ∷ others) rest h = no_point first (others ++ rest) (λ e. absurd (not_letter (subst (λ b. is_ascii_alphabetic b ≡ true) e h.0))) where
  not_letter : is_ascii_alphabetic 46 ≡ true → ⊥
  not_letter e = false≢true e

digit-begins : (b : ℕ) (rest : List ℕ) → is_ascii_digit b ≡ true → is_continuation (b ∷ rest) ≡ false
digit-begins b rest h = let r = in_range 48 57 b h in no_point b rest (λ e. Prim.omega arith)

-- a mantissa has a digit among its first two bytes
mantissa-begins : (text whole part rest : List ℕ) → IsMantissa text whole part → is_continuation (text ++ rest) ≡ false
mantissa-begins text whole part rest m =
    by_parts text whole part rest (list_all-from_AllPass is_ascii_digit whole m.whole_digits) (list_all-from_AllPass is_ascii_digit part m.part_digits) m.some_digit m.text_is where
      by_parts : (text whole part rest : List ℕ) → list_all is_ascii_digit whole ≡ true → list_all is_ascii_digit part ≡ true → 0 < length whole + length part →
          ((text ≡ whole) × (part ≡ [])) ⊎ (text ≡ whole ++ 46 ∷ part) → is_continuation (text ++ rest) ≡ false
      by_parts text [] [] rest w p some is = absurd (Prim.omega arith)
      by_parts text [] (d ∷ part) rest w p some (inl is) = absurd (Prim.cc)
      by_parts text [] (d ∷ part) rest w p some (inr is) =
          let r = in_range 48 57 d (and_parts _ _ p).0 in ap (λ xs. is_continuation (xs ++ rest)) is ∙ one_point 46 d (part ++ rest) (λ e. Prim.omega arith)
      by_parts text (d ∷ whole) part rest w p some (inl is) = ap (λ xs. is_continuation (xs ++ rest)) (is.0) ∙ digit-begins d (whole ++ rest) (and_parts _ _ w).0
      by_parts text (d ∷ whole) part rest w p some (inr is) = ap (λ xs. is_continuation (xs ++ rest)) is ∙ digit-begins d ((whole ++ 46 ∷ part) ++ rest) (and_parts _ _ w).0

signed-begins : (sign : List ℕ) (negative : Bool) (text rest : List ℕ) → IsSign sign negative → is_continuation (text ++ rest) ≡ false → is_continuation ((sign ++ text) ++ rest) ≡ false
signed-begins sign negative text rest h k = elim h [
  | inl none ↦ ap (λ xs. is_continuation ((xs ++ text) ++ rest)) none.0 ∙ k
  | inr some ↦ elim some [
    | inl plus ↦ ap (λ xs. is_continuation ((xs ++ text) ++ rest)) plus.0 ∙ no_point 43 (text ++ rest) (λ e. Prim.omega arith)
    | inr minus ↦ ap (λ xs. is_continuation ((xs ++ text) ++ rest)) minus.0 ∙ no_point 45 (text ++ rest) (λ e. Prim.omega arith)
  ]
]

word-begins : (text rest : List ℕ) → IsWord text → is_continuation (text ++ rest) ≡ false
word-begins text rest h = elim h [
  | inl e ↦ ap (λ xs. is_continuation (xs ++ rest)) e ∙ refl
  | inr k ↦ elim k [
    | inl e ↦ ap (λ xs. is_continuation (xs ++ rest)) e ∙ refl
    | inr l ↦ elim l [
      | inl e ↦ ap (λ xs. is_continuation (xs ++ rest)) e ∙ refl
      | inr e ↦ ap (λ xs. is_continuation (xs ++ rest)) e ∙ refl
    ]
  ]
]

append_again : (a b c d : List ℕ) → (a ++ (b ++ c)) ++ d ≡ (a ++ b) ++ (c ++ d)
append_again [] b c d = again b where
  again : (b : List ℕ) → (b ++ c) ++ d ≡ b ++ (c ++ d)
  again [] = refl
  again (x ∷ b) = ap (λ xs. x ∷ xs) (again b)
append_again (x ∷ a) b c d = ap (λ xs. x ∷ xs) (append_again a b c d)

pub number-begins : (text rest : List ℕ) → IsNumber text → is_continuation (text ++ rest) ≡ false
number-begins text rest h = elim h [
  | inl d ↦ let s : Spells text d.0 = d.1 in
      ap (λ xs. is_continuation (xs ++ rest)) s.text_is ∙ ap is_continuation (append_again s.sign s.mantissa s.tail rest)
      ∙ signed-begins s.sign (d.0).negative s.mantissa (s.tail ++ rest) s.signs (mantissa-begins s.mantissa (d.0).whole (d.0).part (s.tail ++ rest) s.mantissas)
  | inr w ↦ ap (λ xs. is_continuation (xs ++ rest)) w.text_is ∙ signed-begins w.sign w.negative w.word rest w.signs (word-begins w.word rest w.words)
]

pub number-some : (text : List ℕ) → IsNumber text → text ≢ []
number-some text h e = elim h [
  | inl d ↦ let s : Spells text d.0 = d.1 in no_mantissa s.sign s.mantissa s.tail (d.0).whole (d.0).part s.mantissas (sym s.text_is ∙ e)
  | inr w ↦ no_word w.sign w.word w.words (sym w.text_is ∙ e)
] where
  no_bytes : (text whole part : List ℕ) → 0 < length whole + length part → ((text ≡ whole) × (part ≡ [])) ⊎ (text ≡ whole ++ 46 ∷ part) → text ≡ [] → ⊥
  no_bytes text [] [] some is e = absurd (Prim.omega arith)
  no_bytes text [] (d ∷ part) some (inl is) e = absurd (Prim.cc)
  no_bytes text [] (d ∷ part) some (inr is) e = absurd (Prim.cc)
  no_bytes text (d ∷ whole) part some (inl is) e = absurd (Prim.cc)
  no_bytes text (d ∷ whole) part some (inr is) e = absurd (Prim.cc)

  no_mantissa : (sign mantissa tail whole part : List ℕ) → IsMantissa mantissa whole part → sign ++ (mantissa ++ tail) ≡ [] → ⊥
  no_mantissa [] [] tail whole part m e = no_bytes [] whole part m.some_digit m.text_is refl
  no_mantissa [] (b ∷ mantissa) tail whole part m e = Prim.cc
  no_mantissa (b ∷ sign) mantissa tail whole part m e = Prim.cc

  no_word : (sign word : List ℕ) → IsWord word → sign ++ word ≡ [] → ⊥
  no_word [] word h e = elim h [
    | inl d ↦ Prim.cc
    | inr k ↦ elim k [
      | inl d ↦ Prim.cc
      | inr l ↦ elim l [
        | inl d ↦ Prim.cc
        | inr d ↦ Prim.cc
      ]
    ]
  ]
  no_word (b ∷ sign) word h e = Prim.cc
