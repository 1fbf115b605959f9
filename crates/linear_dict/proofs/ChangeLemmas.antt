-- The columns that a pivot changes, and a row that is cleared at these alone.
use Rattle.std.specs.Prelude.{pos, ◌≡◌, ◌≢◌, ℕ, ◌+◌, ◌*◌, ◌<◌, ◌≤◌, Bool, true, false, List, [], ◌∷◌, ◌++◌, length, map, slice_set, ◌⊎◌, refl}
use Rattle.std.proofs.Common.{zero, suc, arith, ap, sym, ◌∙◌, subst, inl, inr, get_or}
use Rattle.std.specs.List.{Contains}
use Rattle.std.proofs.lemmas.Grind.{get_or_default_zero}
use Rattle.std.proofs.lemmas.List.{get_or-map, length-map, length-set, map-set, get_or-set_same, get_or-set_other}
use Rattle.std.proofs.lemmas.List.Elements.{Contains-append_left, Contains-push, Contains-push_cases, Contains-get_or}
use Rattle.std.proofs.lemmas.List.Quantifiers.{all_pairs_push}
use Rattle.fraction_theory.specs.Fraction.{Fraction, whole, ◌+ℚ◌, ◌*ℚ◌, neg_ℚ}
use Rattle.fraction_theory.proofs.FieldLaws.{ring_ℚ}
use Rattle.fraction_theory.proofs.ListSums.{same_or_not}
use Rattle.fraction_theory.proofs.Ring.{by_ring, at, padd, pmul, pneg}
use mathlib.Core.Path.{ap₂}
use Rattle.exact_fraction.specs.Passes.{IsSumWith}
use Rattle.linear_dict.specs.Changes.{AreChanges, AreSumsBelow, place_of}
use Rattle.linear_dict.specs.declared.changes.Change.{Change}
use Rattle.linear_dict.specs.Places.{is_among}
use Rattle.linear_dict.specs.Tables.{cell}
use Rattle.linear_dict.proofs.NameLemmas.{among-from, among-tells, lt_or_le}
use Rattle.linear_dict.proofs.PivotLemmas.{IsStage, cleared_number, done-all, done-yet, is_done, stage-done, stage-yet}
use Rattle.linear_dict.proofs.ProductLemmas.{stays_by_right}
use Rattle.linear_dict.proofs.TableLemmas.{cell_read_within, same_place}

-- the sum of the opposites is the opposite of the sum
pub opposite_sum : (x a t x' t' y : Fraction) → neg_ℚ x ≡ x' → neg_ℚ t ≡ t' → y ≡ x' +ℚ a *ℚ t' → neg_ℚ y ≡ x +ℚ a *ℚ t
opposite_sum x a t x' t' y ex et ey =
    ap neg_ℚ (ey ∙ ap₂ (λ u v. u +ℚ a *ℚ v) (sym ex) (sym et))
    ∙ by_ring ring_ℚ (x ∷ a ∷ t ∷ []) (pneg (padd (pneg (at 0)) (pmul (at 1) (pneg (at 2))))) (padd (at 0) (pmul (at 1) (at 2))) refl

-- ---- the list
module _ (c : ℕ) (g : ℕ → Fraction) where
  pub changes_none : AreChanges 0 c g []
  changes_none = record {
    ascending = λ i j d h l. absurd (Prim.omega (arith, l));
    within = λ j m. absurd (Prim.omega (arith, m.1));
    other = λ j m. absurd (Prim.omega (arith, m.1));
    either = λ j h n. absurd (Prim.omega (arith, h));
  }

  -- a column is left out where it is the pivot's own, or the row is 0 there
  pub changes_skip : (n : ℕ) (places : List ℕ) → (n ≡ c) ⊎ (g n ≡ whole (pos 0)) → AreChanges n c g places → AreChanges (n + 1) c g places
  changes_skip n places out a = record {
    ascending = a.ascending;
    within = λ j m. Prim.omega (arith, a.within j m);
    other = a.other;
    either = λ j h k. elim (lt_or_le j n) [
      | inl l ↦ a.either j l k
      | inr l ↦
          let same : j ≡ n = Prim.omega (arith, h, l) in
          elim out [ inl e ↦ absurd (k (same ∙ e)) | inr z ↦ inl (ap g same ∙ z) ]
    ];
  }

  pub changes_more : (n : ℕ) (places : List ℕ) → n ≢ c → AreChanges n c g places → AreChanges (n + 1) c g (places ++ n ∷ [])
  changes_more n places out a = record {
    ascending = all_pairs_push (λ i j. i < j) places n a.ascending (λ k d h. a.within (get_or places k d) (Contains-get_or places k d h));
    within = λ j m. elim (Contains-push_cases places n j m) [
      | inl q ↦ Prim.omega (arith, a.within j q)
      | inr e ↦ Prim.omega (arith, e)
    ];
    other = λ j m e. elim (Contains-push_cases places n j m) [
      | inl q ↦ a.other j q e
      | inr d ↦ out (d ∙ e)
    ];
    either = λ j h k. elim (lt_or_le j n) [
      | inl l ↦ elim (a.either j l k) [
        | inl z ↦ inl z
        | inr q ↦ inr (Contains-append_left places (n ∷ []) j q)
      ]
      | inr l ↦
          let same : n ≡ j = Prim.omega (arith, h, l) in
          inr (subst (Contains (places ++ n ∷ [])) same (Contains-push places n))
    ];
  }

pub changes_same : (columns c : ℕ) (f g : ℕ → Fraction) (places : List ℕ) → ((j : ℕ) → j < columns → f j ≡ g j) → AreChanges columns c f places → AreChanges columns c g places
changes_same columns c f g places e a = record {
  ascending = a.ascending;
  within = a.within;
  other = a.other;
  either = λ j h k. elim (a.either j h k) [ inl z ↦ inl (sym (e j h) ∙ z) | inr q ↦ inr q ];
}

module _ {N : Type 0} where
  -- a change read in code has its place in the list
  pub place_at : (changes : List (Change N)) (places : List ℕ) (n : ℕ) (change : Change N) → map place_of changes ≡ places → n < length changes → change ≡ get_or changes n change → change.place ≡ get_or places n 0
  place_at changes places n change e h is = ap place_of is ∙ sym (get_or-map place_of changes n change 0 h) ∙ ap (λ (ps : List ℕ). get_or ps n 0) e

  -- what is noted of a change leaves the places as they are
  pub kept_places : (changes : List (Change N)) (n : ℕ) (change new : Change N) → change ≡ get_or changes n change → new.place ≡ change.place → map place_of (slice_set changes n new) ≡ map place_of changes
  kept_places [] n change new is e = refl
  kept_places (x ∷ xs) zero change new is e = ap (λ (p : ℕ). p ∷ map place_of xs) (e ∙ ap place_of is)
  kept_places (x ∷ xs) (suc n) change new is e = ap (λ (ps : List ℕ). x.place ∷ ps) (kept_places xs n change new is e)

  pub sums_more : (value : N → Fraction) (factor : N) (changes : List (Change N)) (n : ℕ) (new : Change N) → n < length changes
      → IsSumWith value new.made.entry factor new.made.other new.made.outcome → AreSumsBelow value factor changes n → AreSumsBelow value factor (slice_set changes n new) (n + 1)
  sums_more value factor changes n new h s below = λ m d l. elim (lt_or_le m n) [
    | inl b ↦ subst (λ (w : Change N). IsSumWith value w.made.entry factor w.made.other w.made.outcome) (sym (get_or-set_other changes n m new d (λ e. Prim.omega (arith, b, e)))) (below m d b)
    | inr b ↦
        let last : m ≡ n = Prim.omega (arith, b, l) in
        subst (λ (w : Change N). IsSumWith value w.made.entry factor w.made.other w.made.outcome)
        (sym (ap (λ (k : ℕ). get_or (slice_set changes n new) k d) last ∙ get_or-set_same changes n new d h)) s
  ]

-- ---- the row
module _ {N : Type 0} (value : N → Fraction) (columns : ℕ) (old : List N) (row solved c : ℕ) (places : List ℕ) where
  -- it has at the first n of the places what it is to have, and all else stays
  pub record IsClearedAt (cur : List N) (n : ℕ) : Type 0 where
    pub count : length cur ≡ length old
    pub made : (m : ℕ) → m < n → cell columns (map value cur) row (get_or places m 0) ≡ cleared_number value columns old row solved c (get_or places m 0)
    pub kept : (i j : ℕ) → ((m : ℕ) → m < n → i * columns + j ≢ row * columns + get_or places m 0) → cell columns (map value cur) i j ≡ cell columns (map value old) i j

  pub cleared_none : IsClearedAt old 0
  cleared_none = record { count = refl; made = λ m h. absurd (Prim.omega (arith, h)); kept = λ i j h. refl }

  module _ (listed : AreChanges columns c (cell columns (map value old) solved) places) (room : row * columns + columns ≤ length old) where
    pub place_within : (m : ℕ) → m < length places → get_or places m 0 < columns
    place_within m h = listed.within (get_or places m 0) (Contains-get_or places m 0 h)

    pub place_other : (m : ℕ) → m < length places → get_or places m 0 ≢ c
    place_other m h = listed.other (get_or places m 0) (Contains-get_or places m 0 h)

    module _ (cur : List N) (n : ℕ) (s : IsClearedAt cur n) where
      -- one more place
      pub cleared_more : (x : N) → n < length places → value x ≡ cleared_number value columns old row solved c (get_or places n 0)
          → IsClearedAt (slice_set cur (row * columns + get_or places n 0) x) (n + 1)
      unfolding cell
      cleared_more x h e =
          let k : ℕ = row * columns + get_or places n 0 in
          let low : get_or places n 0 < columns = place_within n h in
          let nil : Fraction = whole (pos 0) in record {
            count = length-set cur k x ∙ s.count;
            made = λ m l.
                ap (λ (xs : List Fraction). get_or xs (row * columns + get_or places m 0) nil) (map-set value cur k x)
                ∙ elim (lt_or_le m n) [
                  | inl b ↦ get_or-set_other (map value cur) k (row * columns + get_or places m 0) (value x) nil
                      (λ q. Prim.omega (arith, listed.ascending m n 0 b h, q))
                      ∙ s.made m b
                  | inr b ↦
                      let last : m ≡ n = Prim.omega (arith, b, l) in
                      ap (λ (i : ℕ). get_or (slice_set (map value cur) k (value x)) (row * columns + get_or places i 0) nil) last
                      ∙ get_or-set_same (map value cur) k (value x) nil (Prim.omega (arith, low, room, s.count, length-map cur value))
                      ∙ e ∙ ap (λ (i : ℕ). cleared_number value columns old row solved c (get_or places i 0)) (sym last)
                ];
            kept = λ i j o.
                ap (λ (xs : List Fraction). get_or xs (i * columns + j) nil) (map-set value cur k x)
                ∙ get_or-set_other (map value cur) k (i * columns + j) (value x) nil (o n (Prim.omega arith)) ∙ s.kept i j (λ m l. o m (Prim.omega (arith, l)));
          }

      -- the row's number at the next place is still the old one
      pub read_next : (x : N) → n < length places → x ≡ get_or cur (row * columns + get_or places n 0) x → value x ≡ cell columns (map value old) row (get_or places n 0)
      read_next x h is =
          let low : get_or places n 0 < columns = place_within n h in
          cell_read_within value cur columns row (get_or places n 0) x (Prim.omega (arith, low, room, s.count)) is
          ∙ s.kept row (get_or places n 0) (λ m l q. Prim.omega (arith, listed.ascending m n 0 l h, q))

      -- and so is each of the solved row
      pub read_solved : (j : ℕ) (x : N) → n ≤ length places → row ≢ solved → solved * columns + columns ≤ length old → j < columns → x ≡ get_or cur (solved * columns + j) x
          → value x ≡ cell columns (map value old) solved j
      read_solved j x h apart solved_room hj is =
          cell_read_within value cur columns solved j x (Prim.omega (arith, hj, solved_room, s.count)) is
          ∙ s.kept solved j (λ m l q. apart (sym ((same_place columns solved j row (get_or places m 0) hj (place_within m (Prim.omega (arith, l, h))) q).0)))

      -- the row's number at a place that is not listed, where the solved row is 0, is what it is to be
      unlisted : (j : ℕ) → n ≤ length places → j < columns → j ≢ c → ¬ (Contains places j) → cell columns (map value cur) row j ≡ cleared_number value columns old row solved c j
      unlisted j h hj d o =
          s.kept row j (λ m l q. o (subst (Contains places) (sym ((same_place columns row j row (get_or places m 0) hj (place_within m (Prim.omega (arith, l, h))) q).1)) (Contains-get_or places m 0 (Prim.omega (arith, l, h)))))
          ∙ elim (listed.either j hj d) [
            | inl z ↦ sym (stays_by_right (cell columns (map value old) row j) (cell columns (map value old) row c) (cell columns (map value old) solved j) z)
            | inr q ↦ absurd (o q)
          ]

      by_test : (j : ℕ) (b : Bool) → is_among places j ≡ b → n ≡ length places → j < columns → j ≢ c → cell columns (map value cur) row j ≡ cleared_number value columns old row solved c j
      by_test j true t all hj d =
          let q : Contains places j = among-from places j t in
          let e : get_or places (q.0) 0 ≡ j = sym (get_or_default_zero places q.0 j q.1) ∙ q.2 in
          ap (cell columns (map value cur) row) (sym e) ∙ s.made q.0 (Prim.omega (arith, q.1, all)) ∙ ap (cleared_number value columns old row solved c) e
      by_test j false t all hj d = unlisted j (Prim.omega (arith, all)) hj d (λ q. wrong (among-tells places j q) t)
        where
          wrong : {b : Bool} → b ≡ true → b ≡ false → ⊥
          wrong e f = let g : true ≡ false = sym e ∙ f in absurd cc

      -- after all places each number of the row but the one at column c is what it is to be
      pub cleared_stage : n ≡ length places → IsStage value columns old cur (cleared_number value columns old row solved c) row c columns
      cleared_stage all = (
        s.count,
        λ rows e.
            let f : ℕ → ℕ → Fraction = cell columns (map value old) in
            let g : ℕ → Fraction = cleared_number value columns old row solved c in record {
              count = length-map cur value ∙ s.count ∙ e;
              at = λ i j hi hj. elim (same_or_not i row) [
                | inl q ↦ elim (same_or_not j c) [
                  | inl d ↦
                      s.kept i j (λ m l p. place_other m (Prim.omega (arith, l, all)) (sym (same_place columns i j row (get_or places m 0) hj (place_within m (Prim.omega (arith, l, all))) p).1 ∙ d))
                      ∙ sym (stage-yet g f row c columns i j (done-yet row c columns i j (inr (inr d))))
                  | inr d ↦
                      ap (λ (r : ℕ). cell columns (map value cur) r j) q ∙ by_test j (is_among places j) refl all hj d
                      ∙ sym (stage-done g f row c columns i j (ap (λ (r : ℕ). is_done row c columns r j) q ∙ done-all row c columns j hj d))
                ]
                | inr q ↦
                    s.kept i j (λ m l p. q (same_place columns i j row (get_or places m 0) hj (place_within m (Prim.omega (arith, l, all))) p).0)
                    ∙ sym (stage-yet g f row c columns i j (done-yet row c columns i j (inl q)))
              ];
            },
      )
