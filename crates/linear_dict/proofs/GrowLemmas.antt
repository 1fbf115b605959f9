-- One more variable: in the index, and in the splits of the names.
use Rattle.std.specs.Prelude.{◌≡◌, ℕ, ◌+◌, ◌<◌, ◌≤◌, List, [], ◌∷◌, ◌++◌, length, insert, slice_get, Some, ◌⊎◌}
use Rattle.std.specs.List.{Contains}
use Rattle.std.proofs.Common.{zero, suc, arith, ap, sym, ◌∙◌, subst, get_or, inl, inr, length-append}
use Rattle.std.proofs.lemmas.Bool.{cases_order}
use Rattle.std.proofs.lemmas.Grind.{get_or_default_zero}
use Rattle.std.proofs.lemmas.List.Edits.{get_or-insert_at, get_or-insert_above, get_or-insert_below, length-insert}
use Rattle.std.proofs.lemmas.List.Elements.{Contains-append_left, Contains-push, Contains-push_cases}
use Rattle.std.proofs.lemmas.List.{get_or_append_left}
use Rattle.std.proofs.Math.Seq.{get_or-append_seam}
use Rattle.std.proofs.lemmas.Option.{slice_get-get_or, get_or_from_slice_get}
use Rattle.fraction_theory.proofs.ListSums.{Distinct}
use Rattle.linear_dict.specs.declared.index.Variable.{Variable}
use Rattle.linear_dict.specs.declared.place.Place.{Place}
use Rattle.linear_dict.specs.declared.place.Place.TheVariants.{Row, Column}
use Rattle.linear_dict.specs.Places.{IsSplit}
use Rattle.linear_dict.specs.Indexes.{AddsVariable, IsIndex}
use Rattle.linear_dict.specs.Places.{StandsAt}
use Rattle.linear_dict.proofs.NameLemmas.{lt_or_le}

-- what a list has after one item is put in
pub got_below : {X : Type 0} (xs : List X) (k : ℕ) (x : X) → slice_get xs k ≡ Some x → k < length xs
got_below [] k x e = absurd cc
got_below (y ∷ ys) zero x e = Prim.omega arith
got_below (y ∷ ys) (suc k) x e = Prim.omega (arith, got_below ys k x e)

pub insert-cases : {X : Type 0} (xs : List X) (i : ℕ) (y : X) (j : ℕ) (x : X) → i ≤ length xs → slice_get (insert xs i y) j ≡ Some x → (y ≡ x) ⊎ ((k : ℕ) × (slice_get xs k ≡ Some x))
insert-cases {X} xs i y j x h e =
    let is : get_or (insert xs i y) j x ≡ x = get_or_from_slice_get (insert xs i y) j x x e in
    let below : j < length xs + 1 = Prim.omega (arith, got_below (insert xs i y) j x e, length-insert xs i y h) in
    elim (cases_order j i) [
      | inl d ↦ inl (sym (get_or-insert_at xs i y x h) ∙ ap (λ (t : ℕ). get_or (insert xs i y) t x) (sym d) ∙ is)
      | inr w ↦ elim w [
        | inl l ↦ inr (j, slice_get-get_or xs j x (Prim.omega (arith, l, h)) ∙ ap Some (sym (get_or-insert_below xs i y x j l h) ∙ is))
        | inr l ↦ above j l below is
      ]
    ]
  where
    above : (j : ℕ) → i < j → j < length xs + 1 → get_or (insert xs i y) j x ≡ x → (y ≡ x) ⊎ ((k : ℕ) × (slice_get xs k ≡ Some x))
    above zero l b is = absurd (Prim.omega (arith, l))
    above (suc k) l b is =
        let step : suc k ≡ k + 1 = Prim.omega arith in
        inr (k, slice_get-get_or xs k x (Prim.omega (arith, b)) ∙ ap Some (sym (get_or-insert_above xs i y x k (Prim.omega (arith, l)) h) ∙ ap (λ (t : ℕ). get_or (insert xs i y) t x) (sym step) ∙ is))

pub Contains-insert : (xs : List ℕ) (i y w : ℕ) → i ≤ length xs → Contains xs w → Contains (insert xs i y) w
Contains-insert xs i y w h c =
    let is : get_or xs c.0 w ≡ w = c.2 in
    elim (lt_or_le c.0 i) [
      | inl l ↦ (c.0, Prim.omega (arith, c.1, length-insert xs i y h), get_or-insert_below xs i y w c.0 l h ∙ is)
      | inr l ↦ (c.0 + 1, Prim.omega (arith, c.1, length-insert xs i y h), get_or-insert_above xs i y w c.0 l h ∙ is)
    ]

pub Contains-inserted : (xs : List ℕ) (i y : ℕ) → i ≤ length xs → Contains (insert xs i y) y
Contains-inserted xs i y h = (i, Prim.omega (arith, h, length-insert xs i y h), get_or-insert_at xs i y y h)

pub Contains-from_insert : (xs : List ℕ) (i y w : ℕ) → i ≤ length xs → Contains (insert xs i y) w → (y ≡ w) ⊎ Contains xs w
Contains-from_insert xs i y w h c = elim (insert-cases xs i y c.0 w h (slice_get-get_or (insert xs i y) c.0 w c.1 ∙ ap Some c.2)) [
  | inl e ↦ inl e
  | inr k ↦ inr (k.0, got_below xs k.0 w k.1, get_or_from_slice_get xs k.0 w w k.1)
]

pub Distinct-push : (xs : List ℕ) (y : ℕ) → Distinct xs → ¬ (Contains xs y) → Distinct (xs ++ y ∷ [])
Distinct-push xs y d absent i j e p q =
    let n : length (xs ++ y ∷ []) ≡ length xs + 1 = length-append xs (y ∷ []) in
    elim (lt_or_le j (length xs)) [
      | inl l ↦ λ s. d i j e p l (sym (get_or_append_left xs (y ∷ []) e i (Prim.omega (arith, p, l))) ∙ s ∙ get_or_append_left xs (y ∷ []) e j l)
      | inr l ↦ λ s.
          let last : j ≡ length xs = Prim.omega (arith, l, q, n) in
          let hi : i < length xs = Prim.omega (arith, p, q, n) in
          absent (i, hi, get_or_default_zero xs i y hi ∙ sym (get_or_default_zero xs i e hi) ∙ sym (get_or_append_left xs (y ∷ []) e i hi) ∙ s ∙ ap (λ (t : ℕ). get_or (xs ++ y ∷ []) t e) last ∙ get_or-append_seam xs y [] e)
    ]

-- a name behind distinct names is none of these
pub Distinct-last : (xs : List ℕ) (y : ℕ) → Distinct (xs ++ y ∷ []) → ¬ (Contains xs y)
Distinct-last xs y d c =
    d c.0 (length xs) y c.1 (Prim.omega (arith, length-append xs (y ∷ [])))
    (get_or_append_left xs (y ∷ []) y c.0 c.1 ∙ c.2 ∙ sym (get_or-append_seam xs y [] y))

-- a split after one more name of the second, or of the first
pub split_second : (names first second : List ℕ) (i w : ℕ) → i ≤ length names → ¬ (Contains names w) → IsSplit names first second → IsSplit (insert names i w) first (second ++ w ∷ [])
split_second names first second i w h absent s = record {
  first_distinct = s.first_distinct;
  second_distinct = Distinct-push second w s.second_distinct (λ k. absent (s.second_named w k));
  apart = λ x k m. elim (Contains-push_cases second w x m) [ inl p ↦ s.apart x k p | inr e ↦ absent (s.first_named w (subst (Contains first) (sym e) k)) ];
  first_named = λ x k. Contains-insert names i w x h (s.first_named x k);
  second_named = λ x k. elim (Contains-push_cases second w x k) [ inl p ↦ Contains-insert names i w x h (s.second_named x p) | inr e ↦ subst (Contains (insert names i w)) e (Contains-inserted names i w h) ];
  either = λ x k. elim (Contains-from_insert names i w x h k) [
    | inl e ↦ inr (subst (Contains (second ++ w ∷ [])) e (Contains-push second w))
    | inr p ↦ elim (s.either x p) [ inl q ↦ inl q | inr q ↦ inr (Contains-append_left second (w ∷ []) x q) ]
  ];
}

pub split_first : (names first second : List ℕ) (i w : ℕ) → i ≤ length names → ¬ (Contains names w) → IsSplit names first second → IsSplit (insert names i w) (first ++ w ∷ []) second
split_first names first second i w h absent s = record {
  first_distinct = Distinct-push first w s.first_distinct (λ k. absent (s.first_named w k));
  second_distinct = s.second_distinct;
  apart = λ x k m. elim (Contains-push_cases first w x k) [ inl p ↦ s.apart x p m | inr e ↦ absent (s.second_named w (subst (Contains second) (sym e) m)) ];
  first_named = λ x k. elim (Contains-push_cases first w x k) [ inl p ↦ Contains-insert names i w x h (s.first_named x p) | inr e ↦ subst (Contains (insert names i w)) e (Contains-inserted names i w h) ];
  second_named = λ x k. Contains-insert names i w x h (s.second_named x k);
  either = λ x k. elim (Contains-from_insert names i w x h k) [
    | inl e ↦ inl (subst (Contains (first ++ w ∷ [])) e (Contains-push first w))
    | inr p ↦ elim (s.either x p) [ inl q ↦ inl (Contains-append_left first (w ∷ []) x q) | inr q ↦ inr q ]
  ];
}

-- a name stays where it stands when the lists grow
pub stands_more : (first second fs ss : List ℕ) (w : ℕ) (p : Place) → StandsAt first second w p → StandsAt (first ++ fs) (second ++ ss) w p
stands_more first second fs ss w (Row r) s = (Prim.omega (arith, s.0, length-append first fs), get_or_append_left first fs 0 r s.0 ∙ s.1)
stands_more first second fs ss w (Column c) s = (Prim.omega (arith, s.0, length-append second ss), get_or_append_left second ss 0 c s.0 ∙ s.1)

-- the index after one more variable
pub index_added : {N : Type 0} (vs us : List (Variable N)) (v : Variable N) (basics others rows columns basics' others' rows' columns' : List ℕ) → AddsVariable vs v us
    → ((w : ℕ) (p : Place) → StandsAt basics others w p → StandsAt basics' others' w p) → ((w : ℕ) (p : Place) → StandsAt rows columns w p → StandsAt rows' columns' w p)
    → StandsAt basics' others' v.name v.place → StandsAt rows' columns' v.name v.put → IsIndex vs basics others rows columns → IsIndex us basics' others' rows' columns'
index_added {N} vs us v basics others rows columns basics' others' rows' columns' a more more_put here here_put i = record {
  stands = λ j x e. elim (cases j x e) [
    | inl d ↦ subst (λ (t : Variable N). StandsAt basics' others' t.name t.place) d here
    | inr k ↦ more x.name x.place (i.stands k.0 x k.1)
  ];
  was_put = λ j x e. elim (cases j x e) [
    | inl d ↦ subst (λ (t : Variable N). StandsAt rows' columns' t.name t.put) d here_put
    | inr k ↦ more_put x.name x.put (i.was_put k.0 x k.1)
  ];
}
  where
    cases : (j : ℕ) (x : Variable N) → slice_get us j ≡ Some x → (v ≡ x) ⊎ ((k : ℕ) × (slice_get vs k ≡ Some x))
    cases j x e = insert-cases vs a.rank v j x a.within (ap (λ (ts : List (Variable N)). slice_get ts j) (sym a.is) ∙ e)
