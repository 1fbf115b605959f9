-- The index of variables: what a binary search finds in it, and one more variable.
use Rattle.std.specs.Prelude.{◌≡◌, ◌≢◌, ℕ, ◌+◌, ◌<◌, ◌≤◌, Bool, List, [], ◌∷◌, ◌++◌, length, map, take, drop, insert, slice_index, slice_get, slice_set, Some, refl}
use Rattle.std.specs.List.{Contains}
use Rattle.std.specs.List.Sorted.{IsStrictlyIncreasing}
use Rattle.std.proofs.Common.{zero, suc, arith, ap, sym, ◌∙◌, subst, get_or, inl, inr}
use Rattle.std.proofs.lemmas.List.{get_or-map, length-map, map-set, get_or-set_same, map-append, take-map, drop-map}
use Rattle.std.proofs.lemmas.Bool.{cases_order}
use Rattle.std.proofs.lemmas.List.Edits.{get_or-insert_at, get_or-insert_above, get_or-insert_below, length-insert}
use Rattle.std.proofs.lemmas.Option.{slice_get-get_or, get_or_from_slice_get}
use Rattle.std.proofs.lemmas.Grind.{get_or_default_zero}
use Rattle.std.proofs.lemmas.List.Kept.{AllPairs-from_increasing}
use Rattle.std.proofs.Math.Seq.{map-set_same}
use Rattle.fraction_theory.proofs.ListSums.{Distinct-increasing, same_or_not}
use mathlib.Core.Path.{ap₂}
use Rattle.fraction_theory.specs.Fraction.{Fraction}
use Rattle.linear_dict.specs.declared.place.Place.{Place}
use Rattle.linear_dict.specs.Dictionaries.{seen}
use Rattle.linear_dict.specs.Notes.{Noted, noted, blank}
use Rattle.linear_dict.specs.declared.index.Variable.{Variable}
use Rattle.linear_dict.specs.Indexes.{name_of, AddsVariable, IsIndex}
use Rattle.linear_dict.specs.Places.{place_in, StandsAt}
use Rattle.linear_dict.proofs.NameLemmas.{lt_or_le, place_in-at}

pub slice_get-set_other : {X : Type 0} (xs : List X) (i j : ℕ) (x : X) → j ≢ i → slice_get (slice_set xs i x) j ≡ slice_get xs j
slice_get-set_other [] i j x n = refl
slice_get-set_other (y ∷ ys) zero zero x n = absurd (n refl)
slice_get-set_other (y ∷ ys) zero (suc j) x n = refl
slice_get-set_other (y ∷ ys) (suc i) zero x n = refl
slice_get-set_other (y ∷ ys) (suc i) (suc j) x n = slice_get-set_other ys i j x (λ e. n (ap suc e))

pub map-insert : {X Y : Type 0} (f : X → Y) (xs : List X) (i : ℕ) (x : X) → map f (insert xs i x) ≡ insert (map f xs) i (f x)
map-insert f xs i x = map-append f (take i xs) (x ∷ drop i xs) ∙ ap₂ (λ a b. a ++ f x ∷ b) (sym (take-map f i xs)) (sym (drop-map f i xs))

suc-add-one : (j : ℕ) → suc j ≡ j + 1
suc-add-one j = Prim.omega arith

-- a number between those below it and those above
pub rises-insert : (xs : List ℕ) (i x : ℕ) → IsStrictlyIncreasing xs → i ≤ length xs → ((k : ℕ) → k < i → slice_index xs k < x) → ((k : ℕ) → i ≤ k → k < length xs → x < slice_index xs k)
    → IsStrictlyIncreasing (insert xs i x)
rises-insert xs i x rises within low high k h =
    let n : k + 1 < length xs + 1 = Prim.omega (arith, h, length-insert xs i x within) in
    elim (cases_order k i) [
      | inl e ↦ Prim.omega (
        arith,
        ap (λ (t : ℕ). get_or (insert xs i x) t 0) e,
        ap (λ (t : ℕ). get_or (insert xs i x) (t + 1) 0) e,
        get_or-insert_at xs i x 0 within,
        get_or-insert_above xs i x 0 i (Prim.omega arith) within,
        high i (Prim.omega arith) (Prim.omega (arith, n, e)),
      )
      | inr w ↦ elim w [
        | inl l ↦ elim (cases_order (k + 1) i) [
          | inl e ↦ Prim.omega (arith, get_or-insert_below xs i x 0 k l within, ap (λ (t : ℕ). get_or (insert xs i x) t 0) e, get_or-insert_at xs i x 0 within, low k l)
          | inr v ↦ elim v [
            | inl m ↦ Prim.omega (arith, get_or-insert_below xs i x 0 k l within, get_or-insert_below xs i x 0 (k + 1) m within, rises k (Prim.omega (arith, m, within)))
            | inr m ↦ absurd (Prim.omega (arith, l, m))
          ]
        ]
        | inr l ↦ above k l n
      ]
    ]
  where
    above : (k : ℕ) → i < k → k + 1 < length xs + 1 → slice_index (insert xs i x) k < slice_index (insert xs i x) (k + 1)
    above zero l n = absurd (Prim.omega (arith, l))
    above (suc j) l n =
        let low' : i ≤ j = Prim.omega (arith, l) in
        Prim.rw (suc-add-one j) (Prim.omega (arith, get_or-insert_above xs i x 0 j low' within, get_or-insert_above xs i x 0 (j + 1) (Prim.omega (arith, low')) within, rises j (Prim.omega (arith, n))))

-- the variable of a rank has the name of that rank
pub index_read : {N : Type 0} (vs : List (Variable N)) (k : ℕ) (v : Variable N) → k < length vs → v ≡ get_or vs k v → (slice_get vs k ≡ Some v) × (slice_index (map name_of vs) k ≡ v.name)
index_read vs k v h is = (slice_get-get_or vs k v h ∙ ap Some (sym is), get_or-map name_of vs k v 0 h ∙ sym (ap name_of is))

-- a name of a rank stands at that rank
pub rank_place : {N : Type 0} (vs : List (Variable N)) (k : ℕ) → k < length vs → IsStrictlyIncreasing (map name_of vs) → place_in (map name_of vs) (slice_index (map name_of vs) k) ≡ k
rank_place {N} vs k h rises =
    place_in-at (map name_of vs) k (slice_index (map name_of vs) k) (Distinct-increasing (map name_of vs) rises) (Prim.omega (arith, h, length-map vs (name_of {N = N}))) refl

pub note_read : {N : Type 0} (value : N → Fraction) (vs : List (Variable N)) (k : ℕ) (v : Variable N) → k < length vs → v ≡ get_or vs k v → IsStrictlyIncreasing (map name_of vs)
    → noted value v.note ≡ get_or (map (λ (u : Variable N). noted value u.note) vs) (place_in (map name_of vs) (slice_index (map name_of vs) k)) blank
note_read {N} value vs k v h is rises =
    ap (λ (u : Variable N). noted value u.note) is ∙ sym (get_or-map (λ (u : Variable N). noted value u.note) vs k v blank h)
    ∙ ap (λ (j : ℕ). get_or (map (λ (u : Variable N). noted value u.note) vs) j blank) (sym (rank_place vs k h rises))

-- a note written changes nothing of the index but that note
pub with_note_index : {N : Type 0} (vs : List (Variable N)) (k : ℕ) (v u : Variable N) (basics others rows columns : List ℕ) → k < length vs → v ≡ get_or vs k v
    → u.name ≡ v.name → u.place ≡ v.place → u.put ≡ v.put → IsIndex vs basics others rows columns → IsIndex (slice_set vs k u) basics others rows columns
with_note_index {N} vs k v u basics others rows columns h is en ep eq i = record {
  stands = λ j x e. elim (same_or_not j k) [
    | inl d ↦ let s = at_k j x e d in
        subst (λ (t : Variable N). StandsAt basics others t.name t.place) s
        (subst (λ (p : Place). StandsAt basics others u.name p) (sym ep) (subst (λ (w : ℕ). StandsAt basics others w v.place) (sym en) (i.stands k v was)))
    | inr n ↦ i.stands j x (kept j x e n)
  ];
  was_put = λ j x e. elim (same_or_not j k) [
    | inl d ↦ let s = at_k j x e d in
        subst (λ (t : Variable N). StandsAt rows columns t.name t.put) s
        (subst (λ (p : Place). StandsAt rows columns u.name p) (sym eq) (subst (λ (w : ℕ). StandsAt rows columns w v.put) (sym en) (i.was_put k v was)))
    | inr n ↦ i.was_put j x (kept j x e n)
  ];
}
  where
    was : slice_get vs k ≡ Some v
    was = slice_get-get_or vs k v h ∙ ap Some (sym is)

    at_k : (j : ℕ) (x : Variable N) → slice_get (slice_set vs k u) j ≡ Some x → j ≡ k → u ≡ x
    at_k j x e d = sym (get_or-set_same vs k u v h) ∙ ap (λ (t : ℕ). get_or (slice_set vs k u) t v) (sym d) ∙ get_or_from_slice_get (slice_set vs k u) j x v e

    kept : (j : ℕ) (x : Variable N) → slice_get (slice_set vs k u) j ≡ Some x → j ≢ k → slice_get vs j ≡ Some x
    kept j x e n = sym (slice_get-set_other vs k j u n) ∙ e

-- the dictionary that is seen after it
pub seen_note : {N : Type 0} (value : N → Fraction) (columns rows : List ℕ) (coefficients : List N) (others basics : List ℕ) (table : List N) (vs : List (Variable N)) (spent : Bool) (k : ℕ) (v u : Variable N)
    → v ≡ get_or vs k v → u.name ≡ v.name
    → record (seen value columns rows coefficients others basics table vs spent) { notes = slice_set (map (λ (x : Variable N). noted value x.note) vs) k (noted value u.note) }
    ≡ seen value columns rows coefficients others basics table (slice_set vs k u) spent
seen_note {N} value columns rows coefficients others basics table vs spent k v u is en =
    ap (λ (ns : List Noted). record (seen value columns rows coefficients others basics table vs spent) { notes = ns }) (sym (map-set (λ (x : Variable N). noted value x.note) vs k u))
    ∙ ap (λ (ns : List ℕ). record (seen value columns rows coefficients others basics table (slice_set vs k u) spent) { names = ns })
    (sym (map-set_same name_of vs k u v (en ∙ ap name_of is)))

-- one more variable
pub adds_here : {N : Type 0} (vs : List (Variable N)) (v : Variable N) (i : ℕ) → IsStrictlyIncreasing (map name_of vs)
    → (i ≤ length (map name_of vs)) → ((k : ℕ) → k < i → slice_index (map name_of vs) k < v.name) → ((k : ℕ) → i ≤ k → k < length (map name_of vs) → v.name < slice_index (map name_of vs) k)
    → AddsVariable vs v (insert vs i v)
adds_here {N} vs v i rises within low high = record {
  rank = i;
  within = Prim.omega (arith, within, length-map vs (name_of {N = N}));
  is = refl;
  ascending = subst IsStrictlyIncreasing (sym (map-insert name_of vs i v)) (rises-insert (map name_of vs) i v.name rises within low high);
}

pub added_map : {N Y : Type 0} (f : Variable N → Y) (vs us : List (Variable N)) (v : Variable N) (a : AddsVariable vs v us) → map f us ≡ insert (map f vs) a.rank (f v)
added_map f vs us v a = ap (map f) a.is ∙ map-insert f vs a.rank v

-- another name than those there are
pub absent_not_found : (names : List ℕ) (x i : ℕ) → ¬ (Contains names x) → (i < length names) → slice_index names i ≡ x → ⊥
absent_not_found names x i absent h e = absent (i, h, get_or_default_zero names i x h ∙ e)

-- the first number of the first n that is not below x
scan : (xs : List ℕ) (x : ℕ) → IsStrictlyIncreasing xs → (n : ℕ) → n ≤ length xs
    → (i : ℕ) × (i ≤ n) × ((k : ℕ) → k < i → slice_index xs k < x) × ((k : ℕ) → i ≤ k → k < n → x ≤ slice_index xs k)
scan xs x rises zero h = (0, Prim.omega arith, (λ k l. absurd (Prim.omega (arith, l))), (λ k a b. absurd (Prim.omega (arith, b))))
scan xs x rises (suc n) h =
    let p = scan xs x rises n (Prim.omega (arith, h)) in
    elim (lt_or_le (slice_index xs n) x) [
      | inl l ↦ (
        suc n,
        Prim.omega arith,
        (λ k a. elim (cases_order k n) [
          | inl e ↦ subst (λ (t : ℕ). slice_index xs t < x) (sym e) l
          | inr w ↦ elim w [
            | inl b ↦ Prim.omega (arith, AllPairs-from_increasing xs rises k n 0 b h, l)
            | inr b ↦ absurd (Prim.omega (arith, a, b))
          ]
        ]),
        (λ k a b. absurd (Prim.omega (arith, a, b))),
      )
      | inr g ↦ (
        p.0,
        Prim.omega (arith, p.1),
        p.2,
        (λ k a b. elim (cases_order k n) [
          | inl e ↦ subst (λ (t : ℕ). x ≤ slice_index xs t) (sym e) g
          | inr w ↦ elim w [ inl l ↦ p.3 k a l | inr l ↦ absurd (Prim.omega (arith, b, l)) ]
        ]),
      )
    ]

-- where a new name belongs among others
pub belongs : (xs : List ℕ) (x : ℕ) → IsStrictlyIncreasing xs → ¬ (Contains xs x) → (i : ℕ) × (i ≤ length xs) × IsStrictlyIncreasing (insert xs i x)
belongs xs x rises absent =
    let p = scan xs x rises (length xs) (Prim.omega arith) in
    (p.0, p.1, rises-insert xs p.0 x rises p.1 p.2 (λ k a b. above k b (p.3 k a b)))
  where
    above : (k : ℕ) → k < length xs → x ≤ slice_index xs k → x < slice_index xs k
    above k b l = elim (cases_order x (slice_index xs k)) [
      | inl e ↦ absurd (absent (k, b, get_or_default_zero xs k x b ∙ sym e))
      | inr w ↦ elim w [ inl m ↦ m | inr m ↦ absurd (Prim.omega (arith, l, m)) ]
    ]
