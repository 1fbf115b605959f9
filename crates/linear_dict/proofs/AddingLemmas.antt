-- Sums that are added up in place.
use Rattle.std.specs.Prelude.{◌≡◌, ◌≢◌, ℕ, ◌+◌, ◌<◌, ◌≤◌, ◌==◌, Bool, true, false, nat_lt, if◌then◌else◌, pos, List, [], ◌∷◌, ◌++◌, length, map, take, slice_set, refl}
use Rattle.std.proofs.Common.{arith, ap, sym, ◌∙◌, inl, inr, get_or, length-append}
use Rattle.std.proofs.lemmas.List.{length-map, length-set, map-set, map-append, get_or-map, get_or-set_same, get_or-set_other, get_or_append_left, take_more}
use Rattle.std.proofs.Math.Seq.{get_or-append_seam}
use Rattle.std.proofs.lemmas.Bool.Decides.{nat_tests}
use mathlib.Core.Path.{ap₂}
use Rattle.fraction_theory.specs.Fraction.{Fraction, whole, ◌+ℚ◌, ◌*ℚ◌}
use Rattle.fraction_theory.proofs.Ring.{by_ring, at, pnil, pmul}
use Rattle.fraction_theory.specs.Sums.{sum_by}
use Rattle.fraction_theory.proofs.FieldLaws.{ring_ℚ}
use Rattle.fraction_theory.proofs.SumLaws.{sum_by-append}
use Rattle.fraction_theory.proofs.ListSums.{same_or_not, put_at-here, put_at-elsewhere}
use Rattle.linear_dict.specs.Adding.{AreSums, entry_at_place, put_term, row_term}
use Rattle.linear_dict.specs.declared.place.Place.TheVariants.{Row, Column}
use Rattle.linear_dict.specs.Tables.{cell}
use Rattle.linear_dict.specs.declared.index.Variable.{Variable}
use Rattle.linear_dict.proofs.NameLemmas.{lt_or_le}
use Rattle.linear_dict.proofs.ProductLemmas.{zero_times}

module _ {N : Type 0} (value : N → Fraction) where
  pub sums_same : (xs : List N) (n : ℕ) (f g : ℕ → Fraction) → AreSums value xs n f → ((c : ℕ) → c < n → f c ≡ g c) → AreSums value xs n g
  sums_same xs n f g s e = record { size = s.size; at = λ c h. s.at c h ∙ e c h }

  pub sums_none : (f : ℕ → Fraction) → AreSums value [] 0 f
  sums_none f = record { size = refl; at = λ c h. absurd (Prim.omega (arith, h)) }

  pub sums_push : (xs : List N) (n : ℕ) (x : N) (f : ℕ → Fraction) → AreSums value xs n f → value x ≡ f n → AreSums value (xs ++ x ∷ []) (n + 1) f
  sums_push xs n x f s e =
      let l : length (map value xs) ≡ n = length-map xs value ∙ s.size in record {
        size = length-append xs (x ∷ []) ∙ Prim.omega (arith, s.size);
        at = λ c h. ap (λ (ys : List Fraction). get_or ys c (whole (pos 0))) (map-append value xs (x ∷ []))
            ∙ elim (lt_or_le c n) [
              | inl b ↦ get_or_append_left (map value xs) (value x ∷ []) (whole (pos 0)) c (Prim.omega (arith, b, l)) ∙ s.at c b
              | inr b ↦
                  let last : c ≡ n = Prim.omega (arith, h, b) in
                  ap (λ (k : ℕ). get_or (map value xs ++ value x ∷ []) k (whole (pos 0))) (last ∙ sym l)
                  ∙ get_or-append_seam (map value xs) (value x) [] (whole (pos 0)) ∙ e ∙ ap f (sym last)
            ];
      }

  pub sums_read : (xs : List N) (n : ℕ) (f : ℕ → Fraction) (c : ℕ) (x : N) → AreSums value xs n f → c < n → x ≡ get_or xs c x → value x ≡ f c
  sums_read xs n f c x s h is = ap value is ∙ sym (get_or-map value xs c x (whole (pos 0)) (Prim.omega (arith, h, s.size))) ∙ s.at c h

  pub sums_set : (xs : List N) (n : ℕ) (f g : ℕ → Fraction) (c : ℕ) (x : N) → AreSums value xs n f → c < n → value x ≡ g c → ((k : ℕ) → k ≢ c → f k ≡ g k) → AreSums value (slice_set xs c x) n g
  sums_set xs n f g c x s h e other = record {
    size = length-set xs c x ∙ s.size;
    at = λ k hk. ap (λ (ys : List Fraction). get_or ys k (whole (pos 0))) (map-set value xs c x)
        ∙ elim (same_or_not k c) [
          | inl d ↦ ap (λ (j : ℕ). get_or (slice_set (map value xs) c (value x)) j (whole (pos 0))) d
              ∙ get_or-set_same (map value xs) c (value x) (whole (pos 0)) (Prim.omega (arith, h, s.size, length-map xs value)) ∙ e ∙ ap g (sym d)
          | inr d ↦ get_or-set_other (map value xs) c k (value x) (whole (pos 0)) d ∙ s.at k hk ∙ other k d
        ];
  }

-- numbers that are added to as far as place upto
unfoldable pub added_to : (ℕ → Fraction) → (ℕ → Fraction) → ℕ → ℕ → Fraction
added_to f t upto c = if nat_lt c upto then f c +ℚ t c else f c

below_test : (c n : ℕ) → c < n → nat_lt c n ≡ true
below_test c n h = Prim.grind (arith, nat_tests)

above_test : (c n : ℕ) → n ≤ c → nat_lt c n ≡ false
above_test c n h = Prim.grind (arith, nat_tests)

beyond : (k c : ℕ) → k ≢ c → c ≤ k → c + 1 ≤ k
beyond k c d l = elim (lt_or_le c k) [ inl m ↦ Prim.omega (arith, m) | inr m ↦ absurd (d (Prim.omega (arith, m, l))) ]

module _ {N : Type 0} (value : N → Fraction) (n : ℕ) (f t : ℕ → Fraction) where
  pub added-yet : (upto c : ℕ) → upto ≤ c → added_to f t upto c ≡ f c
  unfolding added_to
  added-yet upto c h = ap (λ (b : Bool). if b then f c +ℚ t c else f c) (above_test c upto h)

  added-done : (upto c : ℕ) → c < upto → added_to f t upto c ≡ f c +ℚ t c
  unfolding added_to
  added-done upto c h = ap (λ (b : Bool). if b then f c +ℚ t c else f c) (below_test c upto h)

  pub added_start : (xs : List N) → AreSums value xs n f → AreSums value xs n (added_to f t 0)
  added_start xs s = sums_same value xs n f (added_to f t 0) s (λ c h. sym (added-yet 0 c (Prim.omega arith)))

  pub added_step : (xs : List N) (c : ℕ) (read sum : N) (term : Fraction) → AreSums value xs n (added_to f t c) → c < n → read ≡ get_or xs c read → term ≡ t c → value sum ≡ value read +ℚ term
      → AreSums value (slice_set xs c sum) n (added_to f t (c + 1))
  added_step xs c read sum term s h is et e = sums_set value xs n (added_to f t c) (added_to f t (c + 1)) c sum s h
      (e ∙ ap₂ ◌+ℚ◌ (sums_read value xs n (added_to f t c) c read s h is ∙ added-yet c c (Prim.omega arith)) et ∙ sym (added-done (c + 1) c (Prim.omega arith)))
      (λ k d. elim (lt_or_le k c) [
        | inl l ↦ added-done c k l ∙ sym (added-done (c + 1) k (Prim.omega (arith, l)))
        | inr l ↦ added-yet c k l ∙ sym (added-yet (c + 1) k (beyond k c d l))
      ])

  -- a term of 0
  pub added_keep : (xs : List N) (c : ℕ) → AreSums value xs n (added_to f t c) → t c ≡ whole (pos 0) → AreSums value xs n (added_to f t (c + 1))
  added_keep xs c s e = sums_same value xs n (added_to f t c) (added_to f t (c + 1)) s (λ k h. elim (lt_or_le k c) [
    | inl l ↦ added-done c k l ∙ sym (added-done (c + 1) k (Prim.omega (arith, l)))
    | inr l ↦ elim (same_or_not k c) [
      | inl d ↦ added-yet c k l ∙ sym (ap (λ z. f k +ℚ z) (ap t d ∙ e) ∙ ring_ℚ.plus_nil (f k)) ∙ sym (added-done (c + 1) k (Prim.omega (arith, d)))
      | inr d ↦ added-yet c k l ∙ sym (added-yet (c + 1) k (beyond k c d l))
    ]
  ])

  pub added_end : (xs : List N) (upto : ℕ) → AreSums value xs n (added_to f t upto) → n ≤ upto → AreSums value xs n (λ c. f c +ℚ t c)
  added_end xs upto s h = sums_same value xs n (added_to f t upto) (λ c. f c +ℚ t c) s (λ c b. added-done upto c (Prim.omega (arith, b, h)))

-- one more variable's terms
pub sums_more : {N : Type 0} (value : N → Fraction) (columns : ℕ) (table entries : List N) (vs : List (Variable N)) (k c : ℕ) (v : Variable N) → k < length vs → v ≡ get_or vs k v
    → sum_by (row_term value columns table entries c) (take k vs) +ℚ row_term value columns table entries c v ≡ sum_by (row_term value columns table entries c) (take (k + 1) vs)
sums_more {N} value columns table entries vs k c v h is =
    let f : Variable N → Fraction = row_term value columns table entries c in
    ap (λ z. sum_by f (take k vs) +ℚ z) (ap f is ∙ sym (ring_ℚ.plus_nil (f (get_or vs k v))))
    ∙ sym (ap (sum_by f) (take_more vs k v h) ∙ sum_by-append f (take k vs) (get_or vs k v ∷ []))

module _ {N : Type 0} (value : N → Fraction) (columns : ℕ) (table entries : List N) (v : Variable N) where
  -- what a variable adds, by where it was put in and where it stands
  pub term_of_row : (k c : ℕ) → v.put ≡ Row k → row_term value columns table entries c v ≡ whole (pos 0)
  unfolding row_term
  term_of_row k c e = ap (put_term (map value entries) (entry_at_place columns (map value table) c v.place)) e

  pub term_of_basic : (j r c : ℕ) → v.put ≡ Column j → v.place ≡ Row r → row_term value columns table entries c v ≡ get_or (map value entries) j (whole (pos 0)) *ℚ cell columns (map value table) r c
  unfolding row_term
  term_of_basic j r c e p = ap (put_term (map value entries) (entry_at_place columns (map value table) c v.place)) e
      ∙ ap (λ q. get_or (map value entries) j (whole (pos 0)) *ℚ entry_at_place columns (map value table) c q) p

  pub term_of_other : (j k c : ℕ) → v.put ≡ Column j → v.place ≡ Column k → row_term value columns table entries c v ≡ get_or (map value entries) j (whole (pos 0)) *ℚ (if c == k then whole (pos 1) else whole (pos 0))
  unfolding row_term
  term_of_other j k c e p = ap (put_term (map value entries) (entry_at_place columns (map value table) c v.place)) e
      ∙ ap (λ q. get_or (map value entries) j (whole (pos 0)) *ℚ entry_at_place columns (map value table) c q) p

  module _ (sums : List N) (f : ℕ → Fraction) (s : AreSums value sums columns f) where
    pub nothing_added : (k : ℕ) → v.put ≡ Row k → AreSums value sums columns (λ c. f c +ℚ row_term value columns table entries c v)
    nothing_added k e = sums_same value sums columns f (λ c. f c +ℚ row_term value columns table entries c v) s (λ c h. sym (ap (λ t. f c +ℚ t) (term_of_row k c e) ∙ ring_ℚ.plus_nil (f c)))

    pub zero_added : (j : ℕ) → v.put ≡ Column j → get_or (map value entries) j (whole (pos 0)) ≡ whole (pos 0) → AreSums value sums columns (λ c. f c +ℚ row_term value columns table entries c v)
    unfolding row_term
    zero_added j e z = sums_same value sums columns f (λ c. f c +ℚ row_term value columns table entries c v) s (λ c h. sym (ap (λ t. f c +ℚ t)
        (ap (put_term (map value entries) (entry_at_place columns (map value table) c v.place)) e
        ∙ zero_times (get_or (map value entries) j (whole (pos 0))) (entry_at_place columns (map value table) c v.place) z ∙ z)
        ∙ ring_ℚ.plus_nil (f c)))

    pub entry_added : (j k : ℕ) (entry read sum : N) → v.put ≡ Column j → v.place ≡ Column k → j < length entries → k < columns → entry ≡ get_or entries j entry → read ≡ get_or sums k read
        → value sum ≡ value read +ℚ value entry → AreSums value (slice_set sums k sum) columns (λ c. f c +ℚ row_term value columns table entries c v)
    entry_added j k entry read sum e p hj hk is was exact =
        let coefficient : value entry ≡ get_or (map value entries) j (whole (pos 0)) = ap value is ∙ sym (get_or-map value entries j entry (whole (pos 0)) hj) in
        sums_set value sums columns f (λ c. f c +ℚ row_term value columns table entries c v) k sum s hk
        (exact ∙ ap₂ ◌+ℚ◌ (sums_read value sums columns f k read s hk was) (coefficient ∙ sym (term_of_other j k k e p ∙ ap (λ t. get_or (map value entries) j (whole (pos 0)) *ℚ t) (put_at-here k (whole (pos 1)) (λ _. whole (pos 0)) k refl)
        ∙ ring_ℚ.times_one (get_or (map value entries) j (whole (pos 0))))))
        (λ c n. sym (ap (λ t. f c +ℚ t) (term_of_other j k c e p ∙ ap (λ t. get_or (map value entries) j (whole (pos 0)) *ℚ t) (put_at-elsewhere k (whole (pos 1)) (λ _. whole (pos 0)) c n)
        ∙ by_ring ring_ℚ (get_or (map value entries) j (whole (pos 0)) ∷ []) (pmul (at 0) pnil) pnil refl) ∙ ring_ℚ.plus_nil (f c)))

  pub multiple_added : (xs : List N) (f : ℕ → Fraction) (j r : ℕ) (entry : N) → v.put ≡ Column j → v.place ≡ Row r → j < length entries → entry ≡ get_or entries j entry
      → AreSums value xs columns (λ c. f c +ℚ value entry *ℚ cell columns (map value table) r c) → AreSums value xs columns (λ c. f c +ℚ row_term value columns table entries c v)
  multiple_added xs f j r entry e p hj is s =
      let coefficient : value entry ≡ get_or (map value entries) j (whole (pos 0)) = ap value is ∙ sym (get_or-map value entries j entry (whole (pos 0)) hj) in
      sums_same value xs columns (λ c. f c +ℚ value entry *ℚ cell columns (map value table) r c) (λ c. f c +ℚ row_term value columns table entries c v) s
      (λ c h. ap (λ t. f c +ℚ t) (ap (λ t. t *ℚ cell columns (map value table) r c) coefficient ∙ sym (term_of_basic j r c e p)))
