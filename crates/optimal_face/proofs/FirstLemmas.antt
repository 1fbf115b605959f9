-- Points that go first: by names that they agree on, and by one name more.
use Rattle.std.specs.Prelude.{◌≡◌, ℕ, ◌<◌, ◌≤◌, ◌⊎◌, List, [], ◌∷◌, ◌++◌, length, slice_index}
use Rattle.std.proofs.Common.{zero, suc, arith, sym, ◌∙◌, subst, inl, inr}
use Rattle.std.proofs.lemmas.Bool.{cases_lt}
use Rattle.std.proofs.lemmas.List.{get_or_append_left, length-append}
use Rattle.std.proofs.Math.Seq.{get_or-append_seam}
use Rattle.fraction_theory.specs.Fraction.{Fraction}
use Rattle.fraction_theory.specs.Order.{◌<ℚ◌, ◌≤ℚ◌}
use Rattle.fraction_theory.proofs.ListSums.{same_or_not}
use Rattle.fraction_theory.proofs.OrderLaws.{three_ways, ≤ℚ-or-<ℚ, <ℚ-not-≤ℚ}
use Rattle.linear_system.specs.Systems.{System}
use Rattle.simplex_theory.specs.States.{IsBest}
use Rattle.optimal_face.specs.FirstPoints.{GoesBefore, IsFirstBest}
use Rattle.optimal_face.specs.Laws.{LawOfTheFirst}

module _ (s : System) (names : List ℕ) (u v : ℕ → Fraction) (first_u : IsFirstBest s names u) (first_v : IsFirstBest s names v) where
  -- where they agree on the names so far, they agree on the next
  agree_at : (n : ℕ) → n < length names → ((k : ℕ) → k < n → u (slice_index names k) ≡ v (slice_index names k)) → u (slice_index names n) ≡ v (slice_index names n)
  agree_at n below same = elim (three_ways (u (slice_index names n)) (v (slice_index names n))) [
    | inl less ↦ absurd (first_u.first v first_v.best (record { place = n; within = below; same = λ k l. sym (same k l); more = less }))
    | inr rest ↦ elim rest [
      | inl e ↦ e
      | inr more ↦ absurd (first_v.first u first_u.best (record { place = n; within = below; same = same; more = more }))
    ]
  ]

  agree_below : (n : ℕ) → n ≤ length names → (k : ℕ) → k < n → u (slice_index names k) ≡ v (slice_index names k)
  agree_below zero h k l = absurd (Prim.omega arith)
  agree_below (suc n) h k l = elim (same_or_not k n) [
    | inl e ↦ subst (λ (i : ℕ). u (slice_index names i) ≡ v (slice_index names i)) (sym e) (agree_at n (Prim.omega arith) (agree_below n (Prim.omega arith)))
    | inr other ↦ agree_below n (Prim.omega arith) k (Prim.omega arith)
  ]

pub law_of_the_first : LawOfTheFirst
law_of_the_first s names u v first_u first_v k below = agree_below s names u v first_u first_v (length names) (Prim.omega arith) k below

-- the names with one more behind
module _ (names : List ℕ) (j : ℕ) where
  earlier_name : (k : ℕ) → k < length names → slice_index (names ++ j ∷ []) k ≡ slice_index names k
  earlier_name k below = get_or_append_left names (j ∷ []) 0 k below

  last_name : (k : ℕ) → k ≡ length names → slice_index (names ++ j ∷ []) k ≡ j
  last_name k e = subst (λ (i : ℕ). slice_index (names ++ j ∷ []) i ≡ j) (sym e) (get_or-append_seam names j [] 0)

  before_by_more : (u v : ℕ → Fraction) → GoesBefore names u v → GoesBefore (names ++ j ∷ []) u v
  before_by_more u v g = record {
    place = g.place;
    within = Prim.omega (arith, g.within, length-append names (j ∷ []));
    same = λ k l. subst (λ (w : ℕ). u w ≡ v w) (sym (earlier_name k (Prim.omega (arith, g.within)))) (g.same k l);
    more = subst (λ (w : ℕ). v w <ℚ u w) (sym (earlier_name g.place g.within)) g.more;
  }

  before_by_last : (u v : ℕ → Fraction) → ((k : ℕ) → k < length names → u (slice_index names k) ≡ v (slice_index names k)) → v j <ℚ u j → GoesBefore (names ++ j ∷ []) u v
  before_by_last u v same more = record {
    place = length names;
    within = Prim.omega (arith, length-append names (j ∷ []));
    same = λ k l. subst (λ (w : ℕ). u w ≡ v w) (sym (earlier_name k l)) (same k l);
    more = subst (λ (w : ℕ). v w <ℚ u w) (sym (last_name (length names) (Prim.omega arith))) more;
  }

  -- a point goes before another by the earlier names, or by the last one
  before_cases : (u v : ℕ → Fraction) → GoesBefore (names ++ j ∷ []) u v
      → GoesBefore names u v ⊎ (((k : ℕ) → k < length names → u (slice_index names k) ≡ v (slice_index names k)) × (v j <ℚ u j))
  before_cases u v g = elim (cases_lt g.place (length names)) [
    | inl below ↦ inl (record {
      place = g.place;
      within = below;
      same = λ k l. subst (λ (w : ℕ). u w ≡ v w) (earlier_name k (Prim.omega arith)) (g.same k l);
      more = subst (λ (w : ℕ). v w <ℚ u w) (earlier_name g.place below) g.more;
    })
    | inr past ↦ inr (
      λ k l. subst (λ (w : ℕ). u w ≡ v w) (earlier_name k l) (g.same k (Prim.omega arith)),
      subst (λ (w : ℕ). v w <ℚ u w) (last_name g.place (Prim.omega (arith, g.within, length-append names (j ∷ [])))) g.more,
    )
  ]

-- a best point that agrees with a first one on the names is first too
pub first_by_agreement : (s : System) (names : List ℕ) (u v : ℕ → Fraction) → IsFirstBest s names u → IsBest s v
    → ((k : ℕ) → k < length names → u (slice_index names k) ≡ v (slice_index names k)) → IsFirstBest s names v
first_by_agreement s names u v first best same = record {
  best = best;
  first = λ x best_x g. first.first x best_x (record {
    place = g.place;
    within = g.within;
    same = λ k l. g.same k l ∙ sym (same k (Prim.omega (arith, g.within)));
    more = subst (λ t. t <ℚ x (slice_index names g.place)) (sym (same g.place g.within)) g.more;
  });
}

-- The points that go first by one name more are those that go first by the names and have the most of it.
module _ (s : System) (names : List ℕ) (j : ℕ) (u : ℕ → Fraction) where
  pub first_of_more : IsFirstBest s (names ++ j ∷ []) u → IsFirstBest s names u
  first_of_more first = record { best = first.best; first = λ v best g. first.first v best (before_by_more names j v u g) }

  pub most_of_more : IsFirstBest s (names ++ j ∷ []) u → (v : ℕ → Fraction) → IsFirstBest s names v → v j ≤ℚ u j
  most_of_more first v other = elim (≤ℚ-or-<ℚ (v j) (u j)) [
    | inl le ↦ le
    | inr lt ↦ absurd (first.first v other.best (before_by_last names j v u (law_of_the_first s names v u other (first_of_more first)) lt))
  ]

  pub more_by_most : IsFirstBest s names u → ((v : ℕ → Fraction) → IsFirstBest s names v → v j ≤ℚ u j) → IsFirstBest s (names ++ j ∷ []) u
  more_by_most first most = record {
    best = first.best;
    first = λ v best g. elim (before_cases names j v u g) [
      | inl before ↦ first.first v best before
      | inr last ↦ <ℚ-not-≤ℚ (u j) (v j) last.1 (most v (first_by_agreement s names u v first best (λ k l. sym (last.0 k l))))
    ];
  }
