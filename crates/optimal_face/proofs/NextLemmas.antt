-- Of the points that go first those that have the most of one column more are a face again.
use Rattle.std.specs.Prelude.{◌≡◌, ◌≢◌, ℕ, pos, Bool, List, [], ◌∷◌, ◌++◌, Option, Some, None, refl}
use Rattle.std.specs.List.{Contains}
use Rattle.std.proofs.Common.{ap, sym, ◌∙◌, subst, subst₂, inl, inr}
use Rattle.fraction_theory.specs.Fraction.{Fraction, whole, ◌*ℚ◌}
use Rattle.fraction_theory.specs.Order.{◌≤ℚ◌}
use Rattle.fraction_theory.proofs.Ring.{nil_times, one_times}
use Rattle.fraction_theory.proofs.FieldLaws.{ring_ℚ}
use Rattle.fraction_theory.proofs.ListSums.{Distinct-increasing, put_at-elsewhere, put_at-here, sum_by-one}
use Rattle.linear_system.specs.Systems.{System, InBounds, IsSystem, MeetsRows, objective}
use Rattle.simplex_theory.specs.States.{IsBest, State}
use Rattle.optimal_face.specs.Faces.{Held, bound_at, held_at, more_held, nothing_held, price_of_one}
use Rattle.optimal_face.specs.FirstPoints.{HoldsFirst, IsFirstBest}
use Rattle.optimal_face.specs.Laws.{LawOfTheNext}
use Rattle.optimal_face.proofs.FaceLemmas.{first_by_none, law_of_the_face}
use Rattle.optimal_face.proofs.FirstLemmas.{first_of_more, more_by_most, most_of_more}
use Rattle.optimal_face.proofs.HeldLemmas.{bound_at-both, bound_at-same, bounds_free, bounds_held, held_is_system, held_meets, meets_held, more_held-free, more_held-held, more_held-priced, priced_or_not, within_by_price}

-- the price of one column
pub price_here : (j : ℕ) → price_of_one j j ≡ whole (pos 1)
unfolding price_of_one
price_here j = put_at-here j (whole (pos 1)) (λ _. whole (pos 0)) j refl

pub price_elsewhere : (j i : ℕ) → i ≢ j → price_of_one j i ≡ whole (pos 0)
unfolding price_of_one
price_elsewhere j i n = put_at-elsewhere j (whole (pos 1)) (λ _. whole (pos 0)) i n

-- a point is worth what it has of that column
objective_of_one : (s : System) (held : Held) (j : ℕ) → IsSystem s → Contains s.columns j → (v : ℕ → Fraction) → objective (held_at s held (price_of_one j)) v ≡ v j
unfolding held_at objective
objective_of_one s held j system c v =
    sum_by-one (λ i. price_of_one j i *ℚ v i) j s.columns (Distinct-increasing s.columns system.columns_ascend) c
    (λ i k n. ap (λ t. t *ℚ v i) (price_elsewhere j i n) ∙ nil_times ring_ℚ (v i))
    ∙ ap (λ t. t *ℚ v j) (price_here j)
    ∙ one_times ring_ℚ (v j)

-- variables held one after the other are held together
module _ (s : System) (held : Held) (price : ℕ → Fraction) (S : State) where
  -- the system with the variables held, and then those that have a price in the state
  abbrev one_by_one : (ℕ → Fraction) → System
  one_by_one p = held_at (held_at s held price) (more_held nothing_held S) p

  -- the system with all of these held
  abbrev together : (ℕ → Fraction) → System
  together q = held_at s (more_held held S) q

  abbrev SameBounds : (ℕ → Fraction) → (ℕ → Fraction) → ℕ → Type 0
  SameBounds p q w = ((one_by_one p).low w ≡ (together q).low w) × ((one_by_one p).high w ≡ (together q).high w)

  same_bounds : (p q : ℕ → Fraction) (w : ℕ) → SameBounds p q w
  same_bounds p q w = by_hold (held w) refl
    where
      by_hold : (o : Option Bool) → held w ≡ o → SameBounds p q w
      by_hold None e =
          let own = bounds_free s held price w e in
          elim (priced_or_not (S.reduced w)) [
            | inl nil ↦
                let one = bounds_free (held_at s held price) (more_held nothing_held S) p w (more_held-free nothing_held S w refl nil.1) in
                let all = bounds_free s (more_held held S) q w (more_held-free held S w e nil.1) in
                (one.0 ∙ own.0 ∙ sym all.0, one.1 ∙ own.1 ∙ sym all.1)
            | inr priced ↦
                let one = bounds_held (held_at s held price) (more_held nothing_held S) p w (S.choice.high w) (more_held-priced nothing_held S w refl priced.1) in
                let all = bounds_held s (more_held held S) q w (S.choice.high w) (more_held-priced held S w e priced.1) in
                let same = bound_at-both (held_at s held price) s w own.0 own.1 (S.choice.high w) in
                (one.0 ∙ same ∙ sym all.0, one.1 ∙ same ∙ sym all.1)
          ]
      by_hold (Some high) e =
          let own = bounds_held s held price w high e in
          let all = bounds_held s (more_held held S) q w high (more_held-held held S w high e) in
          elim (priced_or_not (S.reduced w)) [
            | inl nil ↦
                let one = bounds_free (held_at s held price) (more_held nothing_held S) p w (more_held-free nothing_held S w refl nil.1) in
                (one.0 ∙ own.0 ∙ sym all.0, one.1 ∙ own.1 ∙ sym all.1)
            | inr priced ↦
                let one = bounds_held (held_at s held price) (more_held nothing_held S) p w (S.choice.high w) (more_held-priced nothing_held S w refl priced.1) in
                let same = bound_at-same (held_at s held price) w (bound_at s w high) own.0 own.1 (S.choice.high w) in
                (one.0 ∙ same ∙ sym all.0, one.1 ∙ same ∙ sym all.1)
          ]

  within_together : (p q : ℕ → Fraction) (u : ℕ → Fraction) → InBounds (one_by_one p) u → InBounds (together q) u
  unfolding held_at
  within_together p q u within = record {
    low = λ w c. subst (λ t. t ≤ℚ u w) (same_bounds p q w).0 (within.low w c);
    high = λ w c. subst (λ t. u w ≤ℚ t) (same_bounds p q w).1 (within.high w c);
  }

  within_one_by_one : (p q : ℕ → Fraction) (u : ℕ → Fraction) → InBounds (together q) u → InBounds (one_by_one p) u
  unfolding held_at
  within_one_by_one p q u within = record {
    low = λ w c. subst (λ t. t ≤ℚ u w) (sym (same_bounds p q w).0) (within.low w c);
    high = λ w c. subst (λ t. u w ≤ℚ t) (sym (same_bounds p q w).1) (within.high w c);
  }

-- the best points by the price of one column are those that go first by it besides
module _ (s : System) (names : List ℕ) (held : Held) (j : ℕ) (system : IsSystem s) (column : Contains s.columns j) (holds : HoldsFirst s names held) where
  first_within : (u : ℕ → Fraction) → IsFirstBest s names u → InBounds (held_at s held (price_of_one j)) u
  first_within u first = within_by_price s held s.price (price_of_one j) u ((holds u first.best.meets).1 first)

  within_first : (u : ℕ → Fraction) → MeetsRows s u → InBounds (held_at s held (price_of_one j)) u → IsFirstBest s names u
  within_first u meets within = (holds u meets).0 (within_by_price s held (price_of_one j) s.price u within)

  pub best_first : (u : ℕ → Fraction) → MeetsRows s u → IsBest (held_at s held (price_of_one j)) u → IsFirstBest s (names ++ j ∷ []) u
  best_first u meets best = more_by_most s names j u (within_first u meets best.within)
      (λ v first. subst₂ ◌≤ℚ◌ (objective_of_one s held j system column v) (objective_of_one s held j system column u)
      (best.best v (meets_held s held (price_of_one j) v first.best.meets) (first_within v first)))

  pub first_best : (u : ℕ → Fraction) → IsFirstBest s (names ++ j ∷ []) u → IsBest (held_at s held (price_of_one j)) u
  first_best u first = record {
    meets = meets_held s held (price_of_one j) u first.best.meets;
    within = first_within u (first_of_more s names j u first);
    best = λ v meets within.
        subst₂ ◌≤ℚ◌ (sym (objective_of_one s held j system column v)) (sym (objective_of_one s held j system column u))
        (most_of_more s names j u first v (within_first v (held_meets s held (price_of_one j) v meets) within));
  }

pub law_of_the_next : LawOfTheNext
law_of_the_next s names held j S system column holds shows solved u meets =
    let t : System = held_at s held (price_of_one j) in
    let face = law_of_the_face t S (held_is_system s held (price_of_one j) system) shows solved u (meets_held s held (price_of_one j) u meets) in (
      λ within. best_first s names held j system column holds u meets (face.0 (within_one_by_one s held (price_of_one j) S t.price s.price u within)).best,
      λ first. within_together s held (price_of_one j) S t.price s.price u (face.1 (first_by_none t u (first_best s names held j system column holds u first))),
    )
