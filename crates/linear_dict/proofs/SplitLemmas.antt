-- Splits of the names: one name written, and the system and the choice of a dictionary.
use Rattle.std.specs.Prelude.{◌≡◌, ◌≢◌, ℕ, ◌<◌, true, false, List, length, slice_index, slice_set, ◌⊎◌, refl}
use Rattle.std.specs.List.{Contains}
use Rattle.std.proofs.Common.{arith, ap, sym, ◌∙◌, subst, get_or, inl, inr}
use Rattle.std.proofs.lemmas.List.{length-set, get_or-set_same, get_or-set_other}
use Rattle.std.proofs.lemmas.List.Kept.{IsStrictlyIncreasing-filter}
use Rattle.std.proofs.lemmas.Grind.{get_or_default_zero}
use Rattle.fraction_theory.proofs.ListSums.{Distinct, same_or_not, Contains-filter, Contains-from_filter}
use Rattle.linear_system.specs.Choices.{basics, others}
use Rattle.linear_system.specs.Systems.{IsSystem}
use Rattle.linear_system.proofs.ChoiceLaws.{is_basic, is_other, basics_are, others_are}
use Rattle.linear_dict.specs.Dictionaries.{Dictionary, IsDictionary, system_in, choice_of}
use Rattle.linear_dict.specs.Places.{IsSplit}
use Rattle.linear_dict.specs.Places.{place_in, is_among}
use Rattle.linear_dict.proofs.NameLemmas.{place_in-at, place_in-within, among-tells, among-from, among-not}

-- what a list has after one name is written
pub Contains-at : (xs : List ℕ) (k : ℕ) → k < length xs → Contains xs (slice_index xs k)
Contains-at xs k h = (k, h, get_or_default_zero xs k (slice_index xs k) h)

pub set-has : (xs : List ℕ) (r y : ℕ) → r < length xs → Contains (slice_set xs r y) y
set-has xs r y h = (r, Prim.omega (arith, h, length-set xs r y), get_or-set_same xs r y y h)

pub set-keeps : (xs : List ℕ) (r y w : ℕ) → Contains xs w → w ≢ slice_index xs r → Contains (slice_set xs r y) w
set-keeps xs r y w c n =
    let apart : c.0 ≢ r = λ e. n (sym c.2 ∙ get_or_default_zero xs c.0 w c.1 ∙ ap (slice_index xs) e) in
    (c.0, Prim.omega (arith, c.1, length-set xs r y), get_or-set_other xs r c.0 y w apart ∙ c.2)

-- what it has is the new name, or was there at another place
pub set-cases : (xs : List ℕ) (r y w : ℕ) → Distinct xs → r < length xs → Contains (slice_set xs r y) w → (w ≡ y) ⊎ (Contains xs w × (w ≢ slice_index xs r))
set-cases xs r y w d h c = elim (same_or_not c.0 r) [
  | inl e ↦ inl (sym c.2 ∙ ap (λ (k : ℕ). get_or (slice_set xs r y) k w) e ∙ get_or-set_same xs r y w h)
  | inr n ↦
      let hk : c.0 < length xs = Prim.omega (arith, c.1, length-set xs r y) in
      let was : get_or xs c.0 w ≡ w = sym (get_or-set_other xs r c.0 y w n) ∙ c.2 in
      inr ((c.0, hk, was), λ e. differ c.0 n hk (sym (get_or_default_zero xs c.0 w hk) ∙ was ∙ e))
]
  where
    differ : (k : ℕ) → k ≢ r → k < length xs → slice_index xs k ≢ slice_index xs r
    differ k n hk e = n (sym (place_in-at xs k (slice_index xs k) d hk refl) ∙ ap (place_in xs) e ∙ place_in-at xs r (slice_index xs r) d h refl)

pub set-distinct : (xs : List ℕ) (r y : ℕ) → Distinct xs → ¬ (Contains xs y) → r < length xs → Distinct (slice_set xs r y)
set-distinct xs r y d absent h i j e p q =
    let hj : j < length xs = Prim.omega (arith, q, length-set xs r y) in
    elim (same_or_not i r) [
      | inl ei ↦ elim (same_or_not j r) [
        | inl ej ↦ λ s. absurd (Prim.omega (arith, p, ei, ej))
        | inr nj ↦ λ s. absent (j, hj, get_or_any xs j y e hj ∙ sym (get_or-set_other xs r j y e nj) ∙ sym s ∙ ap (λ (k : ℕ). get_or (slice_set xs r y) k e) ei ∙ get_or-set_same xs r y e h)
      ]
      | inr ni ↦ elim (same_or_not j r) [
        | inl ej ↦ λ s. absent (i, Prim.omega (arith, p, hj), get_or_any xs i y e (Prim.omega (arith, p, hj)) ∙ sym (get_or-set_other xs r i y e ni) ∙ s ∙ ap (λ (k : ℕ). get_or (slice_set xs r y) k e) ej ∙ get_or-set_same xs r y e h)
        | inr nj ↦ λ s. d i j e p hj (sym (get_or-set_other xs r i y e ni) ∙ s ∙ get_or-set_other xs r j y e nj)
      ]
    ]
  where
    get_or_any : (xs : List ℕ) (k d e : ℕ) → k < length xs → get_or xs k d ≡ get_or xs k e
    get_or_any xs k d e h = get_or_default_zero xs k d h ∙ sym (get_or_default_zero xs k e h)

-- the place of a name after one is written
pub set-place_new : (xs : List ℕ) (r y : ℕ) → Distinct xs → ¬ (Contains xs y) → r < length xs → place_in (slice_set xs r y) y ≡ r
set-place_new xs r y d absent h = place_in-at (slice_set xs r y) r y (set-distinct xs r y d absent h) (Prim.omega (arith, h, length-set xs r y)) (get_or-set_same xs r y 0 h)

pub set-place_old : (xs : List ℕ) (r y w : ℕ) → Distinct xs → ¬ (Contains xs y) → r < length xs → Contains xs w → w ≢ slice_index xs r
    → (place_in xs w < length xs) × (place_in xs w ≢ r) × (place_in (slice_set xs r y) w ≡ place_in xs w)
set-place_old xs r y w d absent h c n =
    let at = place_in-within xs w c in
    let apart : place_in xs w ≢ r = λ e. n (sym at.1 ∙ ap (slice_index xs) e) in (
      at.0,
      apart,
      place_in-at (slice_set xs r y) (place_in xs w) w (set-distinct xs r y d absent h) (Prim.omega (arith, at.0, length-set xs r y))
          (get_or-set_other xs r (place_in xs w) y 0 apart ∙ at.1),
    )

-- the first name at r and the second name at c are exchanged
pub split_exchanged : (names first second : List ℕ) (r c : ℕ) → IsSplit names first second → r < length first → c < length second
    → IsSplit names (slice_set first r (slice_index second c)) (slice_set second c (slice_index first r))
split_exchanged names first second r c s hr hc =
    let a : ℕ = slice_index first r in
    let b : ℕ = slice_index second c in
    let in_first : Contains first a = Contains-at first r hr in
    let in_second : Contains second b = Contains-at second c hc in
    let no_b : ¬ (Contains first b) = λ k. s.apart b k in_second in
    let no_a : ¬ (Contains second a) = λ k. s.apart a in_first k in
    record {
      first_distinct = set-distinct first r b s.first_distinct no_b hr;
      second_distinct = set-distinct second c a s.second_distinct no_a hc;
      apart = λ w k m. elim (set-cases first r b w s.first_distinct hr k) [
        | inl e ↦ elim (set-cases second c a w s.second_distinct hc m) [
          | inl f ↦ no_b (subst (Contains first) (sym f ∙ e) in_first)
          | inr q ↦ q.1 e
        ]
        | inr p ↦ elim (set-cases second c a w s.second_distinct hc m) [
          | inl f ↦ p.1 f
          | inr q ↦ s.apart w p.0 q.0
        ]
      ];
      first_named = λ w k. elim (set-cases first r b w s.first_distinct hr k) [ inl e ↦ s.second_named w (subst (Contains second) (sym e) in_second) | inr p ↦ s.first_named w p.0 ];
      second_named = λ w k. elim (set-cases second c a w s.second_distinct hc k) [ inl e ↦ s.first_named w (subst (Contains first) (sym e) in_first) | inr p ↦ s.second_named w p.0 ];
      either = λ w k. elim (s.either w k) [
        | inl p ↦ elim (same_or_not w a) [
          | inl e ↦ inr (subst (Contains (slice_set second c a)) (sym e) (set-has second c a hc))
          | inr n ↦ inl (set-keeps first r b w p n)
        ]
        | inr p ↦ elim (same_or_not w b) [
          | inl e ↦ inl (subst (Contains (slice_set first r b)) (sym e) (set-has first r b hr))
          | inr n ↦ inr (set-keeps second c a w p n)
        ]
      ];
    }

-- the system of a dictionary
pub system_is : (d : Dictionary) → IsDictionary d → IsSystem (system_in d)
unfolding system_in
system_is d h = record {
  ascending = h.ascending;
  columns_ascend = IsStrictlyIncreasing-filter (is_among d.columns) d.names h.ascending;
  rows_ascend = IsStrictlyIncreasing-filter (is_among d.rows) d.names h.ascending;
  column = λ j c. (Contains-from_filter (is_among d.columns) d.names j c).0;
  row = λ r c. (Contains-from_filter (is_among d.rows) d.names r c).0;
  either = λ w c. elim (h.put_in.either w c) [
    | inl k ↦ inr (Contains-filter (is_among d.rows) d.names w c (among-tells d.rows w k))
    | inr k ↦ inl (Contains-filter (is_among d.columns) d.names w c (among-tells d.columns w k))
  ];
  apart = λ w c k. h.put_in.apart w (among-from d.rows w (Contains-from_filter (is_among d.rows) d.names w k).1) (among-from d.columns w (Contains-from_filter (is_among d.columns) d.names w c).1);
}

module _ (d : Dictionary) (h : IsDictionary d) where
  -- the basic and the other variables of its choice
  pub basic_in : (w : ℕ) → Contains d.basics w → Contains (basics (system_in d) (choice_of d)) w
  unfolding system_in choice_of
  basic_in w c = is_basic (system_in d) (choice_of d) w (h.split.first_named w c) (among-tells d.basics w c)

  pub other_in : (w : ℕ) → Contains d.others w → Contains (others (system_in d) (choice_of d)) w
  unfolding system_in choice_of
  other_in w c = is_other (system_in d) (choice_of d) w (h.split.second_named w c) (among-not d.basics w (λ k. h.split.apart w k c))

  pub in_basics : (w : ℕ) → Contains (basics (system_in d) (choice_of d)) w → Contains d.basics w
  unfolding choice_of
  in_basics w c = among-from d.basics w (basics_are (system_in d) (choice_of d) w c).1

  pub in_others : (w : ℕ) → Contains (others (system_in d) (choice_of d)) w → Contains d.others w
  unfolding system_in choice_of
  in_others w c =
      let o = others_are (system_in d) (choice_of d) w c in
      elim (h.split.either w o.0) [
        | inl k ↦ let wrong : false ≡ true = sym o.1 ∙ among-tells d.basics w k in absurd cc
        | inr k ↦ k
      ]
