-- A text is cut into the parts of a decimal exactly where it is spelled by them.
use Rattle.std.proofs.Common.{◌≡◌, ◌≢◌, ℕ, zero, suc, ◌+◌, ◌<◌, ◌≤◌, ◌==◌, ◌&&◌, Bool, true, false, List, [], ◌∷◌, ◌++◌, Some, None, length, get_or, refl, sym, ap, subst, ◌∙◌, arith, inl, inr, not, codes}
use Rattle.std.specs.Prelude.{slice_index}
use Rattle.std.specs.List.{position_or_len, before_first, after_first, list_all}
use Rattle.std.specs.Char.{is_ascii_digit}
use Rattle.std.proofs.lemmas.List.{take_all, drop_all, append-nil}
use Rattle.std.proofs.lemmas.List.Sums.{AllPass-from_list_all, list_all-from_AllPass, split_at_first, passes_at_first}
use Rattle.std.proofs.lemmas.Bool.{cases_lt, lt-ltb, le-ltb, and_parts, and_from, and_left, or_cases, ne_eqb, eqb-true, cases_Bool, not_from_false, and_right, eq-eqb, false≢true}
use Rattle.std.proofs.lemmas.Slice.Eq.{bytes_eq-Decides}
use Rattle.scaled_decimal.specs.Decimal.{Decimal, is_mark, is_point, IsSign, IsMantissa, IsExponent, Spells, IsWord, IsNotFinite}
use Rattle.scaled_decimal.specs.Reading.{is_well_formed, is_sign, is_negative, without_sign, has_mark, cut, decimal_in, is_not_finite}
use Rattle.scaled_decimal.proofs.CutLemmas.{Lacks, Lacks-append, Lacks-digits, before-Lacks, before-at, after-Lacks, after-at, passed-Lacks, digit_no_mark, digit_no_point, digit_no_sign, sign_cut, sign_in_front}

-- a list is what stands before the first byte that passes, where none does
whole_before : (p : ℕ → Bool) (xs : List ℕ) → length xs ≤ position_or_len p xs → (before_first p xs ≡ xs) × (after_first p xs ≡ [])
whole_before p xs h = (take_all (position_or_len p xs) xs h, drop_all (position_or_len p xs + 1) xs (Prim.omega arith))

some_digit_of : (a b : ℕ) → not (a == 0 && b == 0) ≡ true → 0 < a + b
some_digit_of zero zero h = absurd (false≢true h)
some_digit_of (suc a) b h = Prim.omega arith
some_digit_of zero (suc b) h = Prim.omega arith

some_digit_in : (a b : ℕ) → 0 < a + b → not (a == 0 && b == 0) ≡ true
some_digit_in zero zero h = absurd (Prim.omega arith)
some_digit_in (suc a) b h = not_from_false _ (and_left _ _ (ne_eqb (suc a) 0 (λ e. Prim.omega arith)))
some_digit_in zero (suc b) h = not_from_false _ (ne_eqb (suc b) 0 (λ e. Prim.omega arith))

-- ---- a text that is cut well is spelled by its parts
mantissa_is : (text : List ℕ) → list_all is_ascii_digit (before_first is_point text) ≡ true → list_all is_ascii_digit (after_first is_point text) ≡ true
    → 0 < length (before_first is_point text) + length (after_first is_point text) → IsMantissa text (before_first is_point text) (after_first is_point text)
mantissa_is text h k some = record {
  text_is = elim (cases_lt (position_or_len is_point text) (length text)) [
    | inl there ↦ inr (split_at_first is_point text 0 there ∙ ap (λ c. before_first is_point text ++ c ∷ after_first is_point text) (eqb-true _ 46 (passes_at_first is_point text 0 there)))
    | inr none ↦ let w = whole_before is_point text none in inl (sym w.0, w.1)
  ];
  whole_digits = AllPass-from_list_all is_ascii_digit _ h;
  part_digits = AllPass-from_list_all is_ascii_digit _ k;
  some_digit = some;
}

record Tail (text : List ℕ) : Type 0 where
  tail : List ℕ
  text_is : text ≡ before_first is_mark text ++ tail
  is : IsExponent tail (is_negative (after_first is_mark text)) (without_sign (after_first is_mark text))

tail_is : (text : List ℕ) → list_all is_ascii_digit (without_sign (after_first is_mark text)) ≡ true → not (has_mark text && length (without_sign (after_first is_mark text)) == 0) ≡ true → Tail text
tail_is text h k = elim (cases_lt (position_or_len is_mark text) (length text)) [
  | inl there ↦
      let s = sign_in_front (after_first is_mark text) in
      let c : ℕ = get_or text (position_or_len is_mark text) 0 in
      let some : length (without_sign (after_first is_mark text)) ≢ 0 = λ z. false≢true (sym (Prim.rw (and_from _ _ (lt-ltb _ _ there) (eq-eqb _ 0 z)) refl) ∙ k) in
      record {
        tail = c ∷ after_first is_mark text;
        text_is = split_at_first is_mark text 0 there;
        is = inr (record {
          mark = c;
          sign = s.sign;
          marks = passes_at_first is_mark text 0 there;
          signs = s.signs;
          digits = AllPass-from_list_all is_ascii_digit _ h;
          some_digit = Prim.omega arith;
          text_is = ap (λ t. c ∷ t) s.text_is;
        });
      }
  | inr none ↦
      let w = whole_before is_mark text none in
      record {
        tail = [];
        text_is = sym (append-nil (before_first is_mark text) ∙ w.0);
        is = inl (refl, ap is_negative w.1, ap without_sign w.1);
      }
]

pub spells_cut : (text : List ℕ) → is_well_formed (has_mark (without_sign text)) (cut text) ≡ true → Spells text (cut text)
spells_cut text h =
    let a = and_parts _ _ h in
    let b = and_parts _ _ a.0 in
    let c = and_parts _ _ b.0 in
    let d = and_parts _ _ c.0 in
    let s = sign_in_front text in
    let body : List ℕ = without_sign text in
    let mantissa : List ℕ = before_first is_mark body in
    let t = tail_is body c.1 a.1 in
    record {
      sign = s.sign;
      mantissa = mantissa;
      tail = t.tail;
      text_is = s.text_is ∙ ap (λ t. s.sign ++ t) t.text_is;
      signs = s.signs;
      mantissas = mantissa_is mantissa d.0 d.1 (some_digit_of _ _ b.1);
      exponents = t.is;
    }

pub Spells-from_decimal_in : (text : List ℕ) (d : Decimal) → decimal_in text ≡ Some d → Spells text d
unfolding decimal_in
Spells-from_decimal_in text d h = elim (cases_Bool (is_well_formed (has_mark (without_sign text)) (cut text))) [
  | inl cuts ↦ let e : Some (cut text) ≡ Some d = sym (Prim.rw cuts refl) ∙ h in let same : cut text ≡ d = Prim.cc in subst (Spells text) same (spells_cut text cuts)
  | inr no_cut ↦ let e : None ≡ Some d = sym (Prim.rw no_cut refl) ∙ h in absurd (Prim.cc)
]

-- ---- a text that is spelled by parts is cut into them
digits_head : (ds : List ℕ) (rest : List ℕ) → 0 < length ds → list_all is_ascii_digit ds ≡ true → is_sign (slice_index (ds ++ rest) 0) ≡ false
digits_head [] rest some h = absurd (Prim.omega arith)
digits_head (d ∷ ds) rest some h = digit_no_sign d (and_parts _ _ h).0

record MantissaCut (text whole part : List ℕ) : Type 0 where
  no_mark : Lacks is_mark text
  before : before_first is_point text ≡ whole
  after : after_first is_point text ≡ part
  whole_digits : list_all is_ascii_digit whole ≡ true
  part_digits : list_all is_ascii_digit part ≡ true
  some_digit : not (length whole == 0 && length part == 0) ≡ true
  no_sign : (rest : List ℕ) → is_sign (slice_index (text ++ rest) 0) ≡ false

point_head : (whole part rest : List ℕ) → list_all is_ascii_digit whole ≡ true → is_sign (slice_index ((whole ++ 46 ∷ part) ++ rest) 0) ≡ false
point_head [] part rest h = refl
point_head (w ∷ ws) part rest h = digit_no_sign w (and_parts _ _ h).0

mantissa_cut : (text whole part : List ℕ) → IsMantissa text whole part → MantissaCut text whole part
mantissa_cut text whole part m =
    let w : list_all is_ascii_digit whole ≡ true = list_all-from_AllPass is_ascii_digit whole m.whole_digits in
    let p : list_all is_ascii_digit part ≡ true = list_all-from_AllPass is_ascii_digit part m.part_digits in
    let some : not (length whole == 0 && length part == 0) ≡ true = some_digit_in (length whole) (length part) m.some_digit in
    let no_point : Lacks is_point whole = Lacks-digits is_point digit_no_point whole w in
    elim m.text_is [
      | inl a ↦
          let nothing : length part ≡ 0 = ap length a.1 in
          let M : List ℕ → Type 0 = λ t. MantissaCut t whole part in
          subst M (sym a.0) (record {
            no_mark = Lacks-digits is_mark digit_no_mark whole w;
            before = before-Lacks is_point whole no_point;
            after = after-Lacks is_point whole no_point ∙ sym a.1;
            whole_digits = w;
            part_digits = p;
            some_digit = some;
            no_sign = λ rest. digits_head whole rest (Prim.omega (arith, m.some_digit)) w;
          })
      | inr a ↦
          let M : List ℕ → Type 0 = λ t. MantissaCut t whole part in
          subst M (sym a) (record {
            no_mark = Lacks-append is_mark whole (46 ∷ part) (Lacks-digits is_mark digit_no_mark whole w) (refl, Lacks-digits is_mark digit_no_mark part p);
            before = before-at is_point whole 46 part no_point refl;
            after = after-at is_point whole 46 part no_point refl;
            whole_digits = w;
            part_digits = p;
            some_digit = some;
            no_sign = λ rest. point_head whole part rest w;
          })
    ]

record TailCut (mantissa tail : List ℕ) (exponent_negative : Bool) (exponent : List ℕ) : Type 0 where
  before : before_first is_mark (mantissa ++ tail) ≡ mantissa
  exponent_negative_is : is_negative (after_first is_mark (mantissa ++ tail)) ≡ exponent_negative
  exponent_is : without_sign (after_first is_mark (mantissa ++ tail)) ≡ exponent
  digits : list_all is_ascii_digit exponent ≡ true
  some_digit : not (has_mark (mantissa ++ tail) && length exponent == 0) ≡ true

tail_cut : (mantissa tail : List ℕ) (exponent_negative : Bool) (exponent : List ℕ) → Lacks is_mark mantissa → IsExponent tail exponent_negative exponent → TailCut mantissa tail exponent_negative exponent
tail_cut mantissa tail exponent_negative exponent lacks e = elim e [
  | inl a ↦
      let same : mantissa ≡ mantissa ++ tail = sym (append-nil mantissa) ∙ ap (λ t. mantissa ++ t) (sym a.0) in
      let after : after_first is_mark (mantissa ++ tail) ≡ [] = ap (after_first is_mark) (sym same) ∙ after-Lacks is_mark mantissa lacks in
      record {
        before = ap (before_first is_mark) (sym same) ∙ before-Lacks is_mark mantissa lacks;
        exponent_negative_is = ap is_negative after ∙ sym a.1;
        exponent_is = ap without_sign after ∙ sym a.2;
        digits = ap (list_all is_ascii_digit) a.2;
        some_digit = not_from_false _ (and_left _ _ (ap has_mark (sym same) ∙ le-ltb (position_or_len is_mark mantissa) (length mantissa) (passed-Lacks is_mark mantissa lacks)));
      }
  | inr m ↦
      let w : list_all is_ascii_digit exponent ≡ true = list_all-from_AllPass is_ascii_digit exponent m.digits in
      let starts : is_sign (slice_index exponent 0) ≡ false = ap (λ t. is_sign (slice_index t 0)) (sym (append-nil exponent)) ∙ digits_head exponent [] m.some_digit w in
      let at = sign_cut m.sign exponent_negative exponent m.signs starts in
      let after : after_first is_mark (mantissa ++ tail) ≡ m.sign ++ exponent = ap (λ t. after_first is_mark (mantissa ++ t)) m.text_is ∙ after-at is_mark mantissa m.mark (m.sign ++ exponent) lacks m.marks in
      record {
        before = ap (λ t. before_first is_mark (mantissa ++ t)) m.text_is ∙ before-at is_mark mantissa m.mark (m.sign ++ exponent) lacks m.marks;
        exponent_negative_is = ap is_negative after ∙ at.1;
        exponent_is = ap without_sign after ∙ at.0;
        digits = w;
        some_digit = not_from_false _ (and_right _ _ (ne_eqb (length exponent) 0 (λ z. Prim.omega (arith, m.some_digit))));
      }
]

same_decimal : (n n' : Bool) (w w' p p' : List ℕ) (l l' : Bool) (e e' : List ℕ) → n ≡ n' → w ≡ w' → p ≡ p' → l ≡ l' → e ≡ e'
    → ◌≡◌ {A = Decimal} (record { negative = n; whole = w; part = p; exponent_negative = l; exponent = e }) (record { negative = n'; whole = w'; part = p'; exponent_negative = l'; exponent = e' })
same_decimal n n' w w' p p' l l' e e' a b c d f = Prim.rw (a, b, c, d, f) refl

pub decimal_in-Spells : (text : List ℕ) (d : Decimal) → Spells text d → decimal_in text ≡ Some d
unfolding decimal_in
decimal_in-Spells text d s =
    let m = mantissa_cut s.mantissa d.whole d.part s.mantissas in
    let t = tail_cut s.mantissa s.tail d.exponent_negative d.exponent m.no_mark s.exponents in
    let g = sign_cut s.sign d.negative (s.mantissa ++ s.tail) s.signs (m.no_sign s.tail) in
    let body : without_sign text ≡ s.mantissa ++ s.tail = ap without_sign s.text_is ∙ g.0 in
    let mantissa : before_first is_mark (without_sign text) ≡ s.mantissa = ap (before_first is_mark) body ∙ t.before in
    let parts : cut text ≡ d = same_decimal (is_negative text) d.negative
    (before_first is_point (before_first is_mark (without_sign text))) d.whole (after_first is_point (before_first is_mark (without_sign text))) d.part
    (is_negative (after_first is_mark (without_sign text))) d.exponent_negative (without_sign (after_first is_mark (without_sign text))) d.exponent
    (ap is_negative s.text_is ∙ g.1) (ap (before_first is_point) mantissa ∙ m.before) (ap (after_first is_point) mantissa ∙ m.after)
    (ap (λ b. is_negative (after_first is_mark b)) body ∙ t.exponent_negative_is) (ap (λ b. without_sign (after_first is_mark b)) body ∙ t.exponent_is) in
    let good : is_well_formed (has_mark (s.mantissa ++ s.tail)) d ≡ true =
    and_from _ _ (and_from _ _ (and_from _ _ (and_from _ _ m.whole_digits m.part_digits) t.digits) m.some_digit) t.some_digit in
    let yet : is_well_formed (has_mark (without_sign text)) (cut text) ≡ true = ap (λ b. is_well_formed (has_mark b) (cut text)) body ∙ (ap (is_well_formed (has_mark (s.mantissa ++ s.tail))) parts ∙ good) in
    Prim.rw yet (ap Some parts)

-- ---- infinity and no value
tells_word : (sign : List ℕ) (negative : Bool) (word : List ℕ) → IsSign sign negative → IsWord word → (is_not_finite (sign ++ word) ≡ true) × (decimal_in (sign ++ word) ≡ None)
unfolding decimal_in
tells_word sign negative word s w = elim s [
  | inl a ↦ elim w [
    | inl b ↦ Prim.rw (a.0, b) (refl, refl)
    | inr w ↦ elim w [ inl b ↦ Prim.rw (a.0, b) (refl, refl) | inr w ↦ elim w [ inl b ↦ Prim.rw (a.0, b) (refl, refl) | inr b ↦ Prim.rw (a.0, b) (refl, refl) ] ]
  ]
  | inr s ↦ elim s [
    | inl a ↦ elim w [
      | inl b ↦ Prim.rw (a.0, b) (refl, refl)
      | inr w ↦ elim w [ inl b ↦ Prim.rw (a.0, b) (refl, refl) | inr w ↦ elim w [ inl b ↦ Prim.rw (a.0, b) (refl, refl) | inr b ↦ Prim.rw (a.0, b) (refl, refl) ] ]
    ]
    | inr a ↦ elim w [
      | inl b ↦ Prim.rw (a.0, b) (refl, refl)
      | inr w ↦ elim w [ inl b ↦ Prim.rw (a.0, b) (refl, refl) | inr w ↦ elim w [ inl b ↦ Prim.rw (a.0, b) (refl, refl) | inr b ↦ Prim.rw (a.0, b) (refl, refl) ] ]
    ]
  ]
]

pub told_not_finite : (text : List ℕ) → IsNotFinite text → (is_not_finite text ≡ true) × (decimal_in text ≡ None)
told_not_finite text n = let P : List ℕ → Type 0 = λ t. (is_not_finite t ≡ true) × (decimal_in t ≡ None) in subst P (sym n.text_is) (tells_word n.sign n.negative n.word n.signs n.words)

pub IsNotFinite-from_test : (text : List ℕ) → is_not_finite text ≡ true → IsNotFinite text
IsNotFinite-from_test text h =
    let s = sign_in_front text in
    let word : IsWord (without_sign text) = elim (or_cases _ _ h) [
      | inl h ↦ elim (or_cases _ _ h) [
        | inl h ↦ elim (or_cases _ _ h) [ inl h ↦ inl ((bytes_eq-Decides (without_sign text) (codes "Inf")).0 h) | inr h ↦ inr (inl ((bytes_eq-Decides (without_sign text) (codes "inf")).0 h)) ]
        | inr h ↦ inr (inr (inl ((bytes_eq-Decides (without_sign text) (codes "NaN")).0 h)))
      ]
      | inr h ↦ inr (inr (inr ((bytes_eq-Decides (without_sign text) (codes "nan")).0 h)))
    ] in
    record { sign = s.sign; negative = is_negative text; word = without_sign text; text_is = s.text_is; signs = s.signs; words = word }
