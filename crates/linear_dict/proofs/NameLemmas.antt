-- Where names stand in lists.
use Rattle.std.specs.Prelude.{◌≡◌, ◌≢◌, ℕ, ◌<◌, ◌≤◌, ◌==◌, Bool, true, false, List, length, slice_index, Result, MatchResult, ◌⊎◌, refl}
use Rattle.std.specs.List.{Contains, position_or_len}
use Rattle.std.specs.List.Sorted.{IsStrictlyIncreasing, IsBinarySearchResult}
use Rattle.std.specs.Ordering.{nat_cmp}
use Rattle.std.proofs.Common.{arith, ap, sym, ◌∙◌, get_or, inl, inr}
use Rattle.std.proofs.lemmas.Bool.{eqb-true, eq-eqb, ltb-true, lt-ltb}
use Rattle.std.proofs.lemmas.Bool.Decides.{eqb_tells}
use Rattle.std.proofs.lemmas.Bool.{cases_order}
use Rattle.std.proofs.lemmas.Grind.{get_or_default_zero}
use Rattle.std.proofs.lemmas.List.Kept.{AllPairs-from_increasing}
use Rattle.std.proofs.lemmas.List.Sorted.{searched}
use Rattle.std.proofs.lemmas.List.Sums.{position_or_len_is, fails_before_first, passes_at_first}
use Rattle.fraction_theory.proofs.ListSums.{Distinct}
use mathlib.Core.Path.{ap₂}
use Rattle.linear_dict.specs.Dictionaries.{Dictionary, IsDictionary, entry_of}
use Rattle.linear_dict.specs.Tables.{cell}
use Rattle.linear_dict.specs.Places.{place_in, is_among}

pub lt_or_le : (a b : ℕ) → (a < b) ⊎ (b ≤ a)
lt_or_le a b = elim (cases_order a b) [ inl e ↦ inr (Prim.omega arith) | inr w ↦ elim w [ inl l ↦ inl l | inr l ↦ inr (Prim.omega arith) ] ]

not_eqb : (a b : ℕ) → a ≢ b → a == b ≡ false
not_eqb a b n = elim (eqb_tells a b) [ inl t ↦ absurd (n t.1) | inr t ↦ t.0 ]

-- a list's reads at any default
slice_index-or : (xs : List ℕ) (k d : ℕ) → k < length xs → get_or xs k d ≡ slice_index xs k
slice_index-or xs k d h = get_or_default_zero xs k d h

-- of distinct names, the one at a place has that place
pub place_in-at : (xs : List ℕ) (k w : ℕ) → Distinct xs → k < length xs → slice_index xs k ≡ w → place_in xs w ≡ k
unfolding place_in
place_in-at xs k w d h e = position_or_len_is (λ x. x == w) xs k 0 (Prim.omega (arith, h))
    (λ j l. not_eqb (get_or xs j 0) w (λ f. d j k 0 l h (f ∙ sym e)))
    (λ _. eq-eqb (get_or xs k 0) w e)

pub place_in-within : (xs : List ℕ) (w : ℕ) → Contains xs w → (place_in xs w < length xs) × (slice_index xs (place_in xs w) ≡ w)
unfolding place_in
place_in-within xs w c =
    let below : position_or_len (λ x. x == w) xs < length xs = elim (lt_or_le (position_or_len (λ x. x == w) xs) (length xs)) [
      | inl l ↦ l
      | inr l ↦ absurd (wrong (fails_before_first (λ x. x == w) xs c.0 w (Prim.omega (arith, c.1, l))) (eq-eqb (get_or xs c.0 w) w c.2))
    ] in
    (below, eqb-true (get_or xs (position_or_len (λ x. x == w) xs) 0) w (passes_at_first (λ x. x == w) xs 0 below))
  where
    wrong : {b : Bool} → b ≡ false → b ≡ true → ⊥
    wrong e f = let g : false ≡ true = sym e ∙ f in absurd cc

pub among-tells : (xs : List ℕ) (w : ℕ) → Contains xs w → is_among xs w ≡ true
unfolding is_among
among-tells xs w c = lt-ltb (place_in xs w) (length xs) (place_in-within xs w c).0

pub among-from : (xs : List ℕ) (w : ℕ) → is_among xs w ≡ true → Contains xs w
unfolding is_among place_in
among-from xs w e =
    let below : position_or_len (λ x. x == w) xs < length xs = ltb-true (position_or_len (λ x. x == w) xs) (length xs) e in
    (position_or_len (λ x. x == w) xs, below, get_or_default_zero xs (position_or_len (λ x. x == w) xs) w below ∙ eqb-true (get_or xs (position_or_len (λ x. x == w) xs) 0) w (passes_at_first (λ x. x == w) xs 0 below))

pub among-not : (xs : List ℕ) (w : ℕ) → ¬ (Contains xs w) → is_among xs w ≡ false
among-not xs w n = by_bool (is_among xs w) refl
  where
    by_bool : (b : Bool) → is_among xs w ≡ b → is_among xs w ≡ false
    by_bool true e = absurd (n (among-from xs w e))
    by_bool false e = e

-- the entry of the names at two places is the number there
pub entry_at : (d : Dictionary) → IsDictionary d → (r c : ℕ) → r < length d.basics → c < length d.others → cell (length d.others) d.table r c ≡ entry_of d (slice_index d.basics r) (slice_index d.others c)
unfolding entry_of
entry_at d h r c hr hc = sym (ap₂ (cell (length d.others) d.table)
    (place_in-at d.basics r (slice_index d.basics r) h.split.first_distinct hr refl)
    (place_in-at d.others c (slice_index d.others c) h.split.second_distinct hc refl))

-- what a binary search finds among ascending names
pub found : (xs : List ℕ) (x : ℕ) (r : Result ℕ ℕ) → IsBinarySearchResult (λ y. nat_cmp y x) xs r → IsStrictlyIncreasing xs
    → MatchResult r (λ i. (i < length xs) × (slice_index xs i ≡ x)) (λ i. (i ≤ length xs) × ((k : ℕ) → k < i → slice_index xs k < x) × ((k : ℕ) → i ≤ k → k < length xs → x < slice_index xs k))
found xs x r b h = searched xs x r b (λ i j l m. elim (lt_or_le i j) [
  | inl k ↦ Prim.omega (arith, AllPairs-from_increasing xs h i j 0 k m)
  | inr k ↦ let e : i ≡ j = Prim.omega arith in Prim.omega (arith, ap (λ (t : ℕ). get_or xs t 0) e)
])

pub not_found : (xs : List ℕ) (x : ℕ) (i : ℕ) → Contains xs x → ((k : ℕ) → k < i → slice_index xs k < x) → ((k : ℕ) → i ≤ k → k < length xs → x < slice_index xs k) → ⊥
not_found xs x i c low high =
    let e : slice_index xs c.0 ≡ x = sym (get_or_default_zero xs c.0 x c.1) ∙ c.2 in
    elim (lt_or_le c.0 i) [
      | inl l ↦ Prim.omega (arith, low c.0 l, e)
      | inr l ↦ Prim.omega (arith, high c.0 l c.1, e)
    ]
