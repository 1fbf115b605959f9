-- A column that stands at its high bound at a point of a face is held there: of the points of the face those that have the most of it are
-- those that have it at its high bound.
use Rattle.std.specs.Prelude.{◌≡◌, ◌≢◌, ℕ, ◌<◌, ◌++◌, ◌∷◌, [], Bool, true, false, List, Option, Some, None, length, slice_index, slice_set, refl}
use Rattle.std.specs.List.{Contains}
use Rattle.std.specs.Option.{option_map_or}
use Rattle.std.proofs.Common.{ap, sym, ◌∙◌, subst, inl, inr}
use Rattle.std.proofs.lemmas.Grind.{get_or-set_at}
use Rattle.std.proofs.lemmas.List.{get_or-set_other}
use Rattle.fraction_theory.specs.Fraction.{Fraction}
use Rattle.fraction_theory.specs.Order.{◌≤ℚ◌}
use Rattle.fraction_theory.proofs.ListSums.{put_at, put_at-here, put_at-elsewhere, same_or_not}
use Rattle.fraction_theory.proofs.OrderLaws.{≤ℚ_antisym, ≤ℚ_of_same}
use Rattle.linear_dict.specs.Dictionaries.{Dictionary, IsDictionary, choice_of, system_in}
use Rattle.linear_dict.specs.Places.{place_in}
use Rattle.linear_system.specs.Systems.{System, InBounds, MeetsRows}
use Rattle.optimal_face.specs.Faces.{Held, bound_at, held_at}
use Rattle.optimal_face.specs.FirstPoints.{HoldsFirst, IsFirstBest}
use Rattle.optimal_face.proofs.FirstLemmas.{first_of_more, more_by_most, most_of_more}
use Rattle.optimal_face.proofs.HeldLemmas.{bounds_held, within_by_price}
use Rattle.simplex_core.specs.States.{state_of}
use Rattle.simplex_core.proofs.NoteLaws.{funext}
use Rattle.simplex_core.proofs.Ranks.{at_rank, rank_of, ranked_named}
use Rattle.first_best.specs.Holding.{held_by}
use Rattle.first_best.specs.Outcomes.{IsFace}
use Rattle.first_best.proofs.BackLemmas.{named_variable, stays_within, value_at}
use Rattle.first_best.proofs.HoldLemmas.{held-named, held-unnamed, named_or_absent}

-- what is held, with one variable more, at its high bound
unfoldable pub with_high : Held → ℕ → Held
with_high held j = put_at j (Some true) held

module _ (held : Held) (j : ℕ) where
  pub high-here : (w : ℕ) → w ≡ j → with_high held j w ≡ Some true
  unfolding with_high
  high-here w e = put_at-here j (Some true) held w e

  pub high-elsewhere : (w : ℕ) → w ≢ j → with_high held j w ≡ held w
  unfolding with_high
  high-elsewhere w n = put_at-elsewhere j (Some true) held w n

pub high_bound : (s : System) (w : ℕ) → bound_at s w true ≡ s.high w
unfolding bound_at
high_bound s w = refl

module _ (s : System) (names : List ℕ) (held : Held) (j : ℕ) (named : Contains s.variables j) (first : HoldsFirst s names held)
    (p : ℕ → Fraction) (meets : MeetsRows s p) (within : InBounds (held_at s held s.price) p) (high : p j ≡ s.high j) where
  p_first : IsFirstBest s names p
  p_first = (first p meets).0 within

  -- the bounds of the other variables stay
  low_elsewhere : (w : ℕ) → w ≢ j → (held_at s (with_high held j) s.price).low w ≡ (held_at s held s.price).low w
  unfolding held_at
  low_elsewhere w n = ap (λ (o : Option Bool). option_map_or (bound_at s w) o (s.low w)) (high-elsewhere held j w n)

  high_elsewhere : (w : ℕ) → w ≢ j → (held_at s (with_high held j) s.price).high w ≡ (held_at s held s.price).high w
  unfolding held_at
  high_elsewhere w n = ap (λ (o : Option Bool). option_map_or (bound_at s w) o (s.high w)) (high-elsewhere held j w n)

  low_here : (held_at s (with_high held j) s.price).low j ≡ s.high j
  low_here = (bounds_held s (with_high held j) s.price j true (high-here held j j refl)).0 ∙ high_bound s j

  high_here : (held_at s (with_high held j) s.price).high j ≡ s.high j
  high_here = (bounds_held s (with_high held j) s.price j true (high-here held j j refl)).1 ∙ high_bound s j

  -- within the bounds of what is held now the column is at its high bound
  module _ (u : ℕ → Fraction) where
    at_high : InBounds (held_at s (with_high held j) s.price) u → u j ≡ p j
    unfolding held_at
    at_high inside =
        ≤ℚ_antisym (u j) (p j) (subst (λ x. u j ≤ℚ x) (high_here ∙ sym high) (inside.high j named)) (subst (λ x. x ≤ℚ u j) (low_here ∙ sym high) (inside.low j named))

    inside_before : InBounds (held_at s (with_high held j) s.price) u → InBounds (held_at s held s.price) u
    unfolding held_at
    inside_before inside = record {
      low = λ w c. elim (same_or_not w j) [
        | inl e ↦ subst (λ (i : ℕ). (held_at s held s.price).low i ≤ℚ u i) (sym e) (subst (λ x. (held_at s held s.price).low j ≤ℚ x) (sym (at_high inside)) (within.low j named))
        | inr n ↦ subst (λ x. x ≤ℚ u w) (low_elsewhere w n) (inside.low w c)
      ];
      high = λ w c. elim (same_or_not w j) [
        | inl e ↦ subst (λ (i : ℕ). u i ≤ℚ (held_at s held s.price).high i) (sym e) (subst (λ x. x ≤ℚ (held_at s held s.price).high j) (sym (at_high inside)) (within.high j named))
        | inr n ↦ subst (λ x. u w ≤ℚ x) (high_elsewhere w n) (inside.high w c)
      ];
    }

    inside_now : InBounds (held_at s held s.price) u → u j ≡ s.high j → InBounds (held_at s (with_high held j) s.price) u
    unfolding held_at
    inside_now inside is = record {
      low = λ w c. elim (same_or_not w j) [
        | inl e ↦ subst (λ (i : ℕ). (held_at s (with_high held j) s.price).low i ≤ℚ u i) (sym e) (≤ℚ_of_same _ _ (low_here ∙ sym is))
        | inr n ↦ subst (λ x. x ≤ℚ u w) (sym (low_elsewhere w n)) (inside.low w c)
      ];
      high = λ w c. elim (same_or_not w j) [
        | inl e ↦ subst (λ (i : ℕ). u i ≤ℚ (held_at s (with_high held j) s.price).high i) (sym e) (≤ℚ_of_same _ _ (is ∙ sym high_here))
        | inr n ↦ subst (λ x. u w ≤ℚ x) (sym (high_elsewhere w n)) (inside.high w c)
      ];
    }

  pub high_first : HoldsFirst s (names ++ j ∷ []) (with_high held j)
  high_first u meets_u = (
    λ inside. more_by_most s names j u ((first u meets_u).0 (inside_before u inside))
        (λ v other. subst (λ x. v j ≤ℚ x) (sym (at_high u inside ∙ high)) (other.best.within.high j named)),
    λ more.
        let before = first_of_more s names j u more in
        inside_now u ((first u meets_u).1 before)
        (≤ℚ_antisym (u j) (s.high j) (before.best.within.high j named) (subst (λ x. x ≤ℚ u j) high (most_of_more s names j u more p p_first))),
  )

-- an other variable that stands at its high bound is held there
pub high_face : (d : Dictionary) (names : List ℕ) (held : Held) (j : ℕ) → IsFace d names held → Contains d.names j → (choice_of d).basic j ≡ false → (choice_of d).high j ≡ true
    → IsFace d (names ++ j ∷ []) (with_high held j)
high_face d names held j face c basic flag = record {
  live = face.live;
  sound = face.sound;
  shows = face.shows;
  solved = face.solved;
  priced = λ w k n. elim (same_or_not w j) [
    | inl e ↦ high-here held j w e ∙ ap Some (sym (ap (choice_of d).high e ∙ flag))
    | inr differ ↦ high-elsewhere held j w differ ∙ face.priced w k n
  ];
  stands = λ w high k is. elim (same_or_not w j) [
    | inl e ↦
        let same : Some true ≡ Some high = sym (high-here held j w e) ∙ is in
        let up : true ≡ high = Prim.cc in (
          ap (choice_of d).basic e ∙ basic,
          ap (choice_of d).high e ∙ flag ∙ up,
        )
    | inr differ ↦ face.stands w high k (sym (high-elsewhere held j w differ) ∙ is)
  ];
  first = high_first (system_in d) names held j (named_variable d j c) face.first (state_of d).value face.solved.best.meets
      (within_by_price (system_in d) held _ (system_in d).price (state_of d).value (stays_within d names held 0 face))
      (face.shows.values j c ∙ value_at (system_in d) (choice_of d) j true basic flag ∙ high_bound (system_in d) j);
}

-- the list that says so by rank
pub held-high : (d : Dictionary) → IsDictionary d → (held : List (Option Bool)) (k j : ℕ) → k < length d.names → k < length held → slice_index d.names k ≡ j
    → held_by d.names (slice_set held k (Some true)) ≡ with_high (held_by d.names held) j
held-high d h held k j l m name = funext (held_by d.names (slice_set held k (Some true))) (with_high (held_by d.names held) j) (λ w. elim (same_or_not w j) [
  | inl e ↦
      let w_is : w ≡ slice_index d.names k = e ∙ sym name in
      held-named d.names (slice_set held k (Some true)) w (subst (Contains d.names) (sym w_is) (ranked_named d h k l))
      ∙ get_or-set_at held k (place_in d.names w) (Some true) None (ap (place_in d.names) w_is ∙ rank_of d h k l) m
      ∙ sym (high-here (held_by d.names held) j w e)
  | inr n ↦ elim (named_or_absent d.names w) [
    | inl c ↦
        let differ : place_in d.names w ≢ k = λ q. n (sym (at_rank d h w c).1 ∙ ap (slice_index d.names) q ∙ name) in
        held-named d.names (slice_set held k (Some true)) w c ∙ get_or-set_other held k (place_in d.names w) (Some true) None differ
        ∙ sym (high-elsewhere (held_by d.names held) j w n ∙ held-named d.names held w c)
    | inr absent ↦
        held-unnamed d.names (slice_set held k (Some true)) w absent ∙ sym (high-elsewhere (held_by d.names held) j w n ∙ held-unnamed d.names held w absent)
  ]
])
