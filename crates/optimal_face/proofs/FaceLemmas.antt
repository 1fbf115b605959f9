-- The best points are those at which each variable that has a price in a solved state stands where it stands there.
use Rattle.std.specs.Prelude.{◌≡◌, ◌≢◌, ℕ, pos, [], refl}
use Rattle.std.specs.List.{Contains}
use Rattle.std.proofs.Common.{arith, ap, sym, ◌∙◌, subst, subst₂, inl, inr}
use Rattle.fraction_theory.specs.Fraction.{Fraction, whole, ◌*ℚ◌, recip_ℚ}
use Rattle.fraction_theory.specs.Order.{◌≤ℚ◌, ◌<ℚ◌}
use Rattle.fraction_theory.specs.Sums.{sum_by}
use Rattle.fraction_theory.proofs.Ring.{nil_times, one_times}
use Rattle.fraction_theory.proofs.FieldLaws.{ring_ℚ, *ℚ-recip}
use Rattle.fraction_theory.proofs.ListSums.{sum_by-members}
use Rattle.fraction_theory.proofs.OrderLaws.{three_ways, ≤ℚ-or-<ℚ, ≤ℚ_antisym, ≤ℚ_of_same, <ℚ-≤ℚ, <ℚ-not-≤ℚ, <ℚ-≤ℚ_trans, ≤ℚ-<ℚ_trans, *ℚ-≤ℚ, *ℚ-≤ℚ_neg, NonNeg_from}
use Rattle.linear_system.specs.Choices.{others, at_bound}
use Rattle.linear_system.specs.Systems.{System, InBounds, IsSystem, MeetsRows, objective}
use Rattle.linear_system.proofs.ChoiceLaws.{is_basic, is_other, objective_by_others, others_are}
use Rattle.simplex_theory.specs.States.{IsBest, IsSolved, State}
use Rattle.simplex_theory.proofs.NameSums.{sum_by-below}
use Rattle.simplex_theory.proofs.PosedNumbers.{value_other}
use Rattle.simplex_theory.proofs.Signs.{nonpositive}
use Rattle.simplex_theory.proofs.Stretches.{by_answer}
use Rattle.optimal_face.specs.Faces.{Held, Shows, bound_at, held_at, more_held, nothing_held}
use Rattle.optimal_face.specs.FirstPoints.{IsFirstBest}
use Rattle.optimal_face.specs.Laws.{LawOfTheFace}
use Rattle.optimal_face.proofs.HeldLemmas.{bounds_free, bounds_held, held_variables, more_held-free, more_held-priced, priced_or_not}

-- products with a number that is the same where the factor is not 0
pub same_product : (x a b : Fraction) → (x ≢ whole (pos 0) → a ≡ b) → x *ℚ a ≡ x *ℚ b
same_product x a b same = elim (priced_or_not x) [
  | inl nil ↦ ap (λ t. t *ℚ a) nil.0 ∙ nil_times ring_ℚ a ∙ sym (nil_times ring_ℚ b) ∙ sym (ap (λ t. t *ℚ b) nil.0)
  | inr priced ↦ ap (λ t. x *ℚ t) (same priced.0)
]

-- a factor that is not 0 goes out
pub product_cancel : (x a b : Fraction) → x ≢ whole (pos 0) → x *ℚ a ≡ x *ℚ b → a ≡ b
product_cancel x a b n e = sym (back a) ∙ ap (λ t. recip_ℚ x *ℚ t) e ∙ back b
  where
    back : (c : Fraction) → recip_ℚ x *ℚ (x *ℚ c) ≡ c
    back c = sym (ring_ℚ.times_assoc (recip_ℚ x) x c) ∙ ap (λ t. t *ℚ c) (ring_ℚ.times_comm (recip_ℚ x) x ∙ *ℚ-recip x n) ∙ one_times ring_ℚ c

-- what is held at the best points
abbrev pub face : State → Held
face S = more_held nothing_held S

module _ (s : System) (S : State) (system : IsSystem s) (shows : Shows s S) where
  -- the objective by the reduced prices
  pub worth : (v : ℕ → Fraction) → MeetsRows s v → objective s v ≡ sum_by (λ w. S.reduced w *ℚ v w) (others s S.choice)
  worth v meets =
      objective_by_others s system S.choice shows.choice v meets
      ∙ sum_by-members _ (λ w. S.reduced w *ℚ v w) (others s S.choice) (λ w c. ap (λ t. t *ℚ v w) (sym (shows.prices w (others_are s S.choice w c).0)))

  -- points that agree wherever there is a price are worth the same
  pub same_worth : (u v : ℕ → Fraction) → MeetsRows s u → MeetsRows s v → ((w : ℕ) → Contains s.variables w → S.reduced w ≢ whole (pos 0) → u w ≡ v w) → objective s u ≡ objective s v
  same_worth u v meets_u meets_v same =
      worth u meets_u
      ∙ sum_by-members (λ w. S.reduced w *ℚ u w) (λ w. S.reduced w *ℚ v w) (others s S.choice) (λ w c. same_product (S.reduced w) (u w) (v w) (same w (others_are s S.choice w c).0))
      ∙ sym (worth v meets_v)

  module _ (solved : IsSolved s S) where
    -- what has a price is an other variable
    pub priced_other : (w : ℕ) → Contains s.variables w → S.reduced w ≢ whole (pos 0) → Contains (others s S.choice) w
    priced_other w c n = by_answer (S.choice.basic w) (λ b. absurd (n (solved.basic w (is_basic s S.choice w c b)))) (λ b. is_other s S.choice w c b)

    -- and stands at a bound
    pub priced_stands : (w : ℕ) → Contains s.variables w → S.reduced w ≢ whole (pos 0) → S.value w ≡ bound_at s w (S.choice.high w)
    unfolding bound_at at_bound
    priced_stands w c n = shows.values w c ∙ value_other s S.choice w (priced_other w c n)

    -- nothing is worth more anywhere within the bounds
    worth_most : (u : ℕ → Fraction) → InBounds s u → (w : ℕ) → Contains s.variables w → (S.reduced w *ℚ u w) ≤ℚ (S.reduced w *ℚ S.value w)
    worth_most u within w c = elim (three_ways (u w) (S.value w)) [
      | inl less ↦ *ℚ-≤ℚ (S.reduced w) (u w) (S.value w) (NonNeg_from (S.reduced w) (solved.falls w c (≤ℚ-<ℚ_trans (s.low w) (u w) (S.value w) (within.low w c) less))) (<ℚ-≤ℚ (u w) (S.value w) less)
      | inr rest ↦ elim rest [
        | inl e ↦ ≤ℚ_of_same (S.reduced w *ℚ u w) (S.reduced w *ℚ S.value w) (ap (λ t. S.reduced w *ℚ t) e)
        | inr more ↦ *ℚ-≤ℚ_neg (S.reduced w) (S.value w) (u w) (nonpositive (S.reduced w) (solved.rises w c (<ℚ-≤ℚ_trans (S.value w) (u w) (s.high w) more (within.high w c)))) (<ℚ-≤ℚ (S.value w) (u w) more)
      ]
    ]

    -- a best point agrees with the state's wherever there is a price
    pub best_agrees : (u : ℕ → Fraction) → IsBest s u → (w : ℕ) → Contains s.variables w → S.reduced w ≢ whole (pos 0) → u w ≡ S.value w
    best_agrees u best w c n = elim (≤ℚ-or-<ℚ (S.reduced w *ℚ S.value w) (S.reduced w *ℚ u w)) [
      | inl le ↦ product_cancel (S.reduced w) (u w) (S.value w) n (≤ℚ_antisym (S.reduced w *ℚ u w) (S.reduced w *ℚ S.value w) (worth_most u best.within w c) le)
      | inr lt ↦ absurd (<ℚ-not-≤ℚ (objective s u) (objective s S.value)
          (subst₂ ◌<ℚ◌ (sym (worth u best.meets)) (sym (worth S.value solved.best.meets))
          (sum_by-below (λ o. S.reduced o *ℚ u o) (λ o. S.reduced o *ℚ S.value o) (others s S.choice) w (priced_other w c n)
          (λ o k. worth_most u best.within o (others_are s S.choice o k).0) lt))
          (best.best S.value solved.best.meets solved.best.within))
    ]

    -- the bounds of the face
    face_priced : (w : ℕ) → Contains s.variables w → S.reduced w ≢ whole (pos 0) → ((held_at s (face S) s.price).low w ≡ S.value w) × ((held_at s (face S) s.price).high w ≡ S.value w)
    face_priced w c n = elim (priced_or_not (S.reduced w)) [
      | inl nil ↦ absurd (n nil.0)
      | inr priced ↦
          let bounds = bounds_held s (face S) s.price w (S.choice.high w) (more_held-priced nothing_held S w refl priced.1) in
          let stands : bound_at s w (S.choice.high w) ≡ S.value w = sym (priced_stands w c n) in
          (bounds.0 ∙ stands, bounds.1 ∙ stands)
    ]

    face_free : (w : ℕ) → S.reduced w ≡ whole (pos 0) → ((held_at s (face S) s.price).low w ≡ s.low w) × ((held_at s (face S) s.price).high w ≡ s.high w)
    face_free w z = elim (priced_or_not (S.reduced w)) [
      | inl nil ↦ bounds_free s (face S) s.price w (more_held-free nothing_held S w refl nil.1)
      | inr priced ↦ absurd (priced.0 z)
    ]

    -- a point of the face agrees with the state's wherever there is a price
    face_agrees : (u : ℕ → Fraction) → InBounds (held_at s (face S) s.price) u → (w : ℕ) → Contains s.variables w → S.reduced w ≢ whole (pos 0) → u w ≡ S.value w
    unfolding held_at
    face_agrees u within w c n =
        let bounds = face_priced w c n in
        ≤ℚ_antisym (u w) (S.value w) (subst (λ t. u w ≤ℚ t) bounds.1 (within.high w c)) (subst (λ t. t ≤ℚ u w) bounds.0 (within.low w c))

    face_within : (u : ℕ → Fraction) → InBounds (held_at s (face S) s.price) u → InBounds s u
    unfolding held_at
    face_within u within = record {
      low = λ w c. elim (priced_or_not (S.reduced w)) [
        | inl nil ↦ subst (λ t. t ≤ℚ u w) (face_free w nil.0).0 (within.low w c)
        | inr priced ↦ subst (λ t. s.low w ≤ℚ t) (sym (face_agrees u within w c priced.0)) (solved.best.within.low w c)
      ];
      high = λ w c. elim (priced_or_not (S.reduced w)) [
        | inl nil ↦ subst (λ t. u w ≤ℚ t) (face_free w nil.0).1 (within.high w c)
        | inr priced ↦ subst (λ t. t ≤ℚ s.high w) (sym (face_agrees u within w c priced.0)) (solved.best.within.high w c)
      ];
    }

    pub face_best : (u : ℕ → Fraction) → MeetsRows s u → InBounds (held_at s (face S) s.price) u → IsBest s u
    face_best u meets within = record {
      meets = meets;
      within = face_within u within;
      best = λ v meets_v within_v. subst (λ t. objective s v ≤ℚ t) (sym (same_worth u S.value meets solved.best.meets (face_agrees u within))) (solved.best.best v meets_v within_v);
    }

    pub best_face : (u : ℕ → Fraction) → IsBest s u → InBounds (held_at s (face S) s.price) u
    best_face u best = record {
      low = λ w k. let c = held_variables s (face S) s.price w k in elim (priced_or_not (S.reduced w)) [
        | inl nil ↦ subst (λ t. t ≤ℚ u w) (sym (face_free w nil.0).0) (best.within.low w c)
        | inr priced ↦ ≤ℚ_of_same _ (u w) ((face_priced w c priced.0).0 ∙ sym (best_agrees u best w c priced.0))
      ];
      high = λ w k. let c = held_variables s (face S) s.price w k in elim (priced_or_not (S.reduced w)) [
        | inl nil ↦ subst (λ t. u w ≤ℚ t) (sym (face_free w nil.0).1) (best.within.high w c)
        | inr priced ↦ ≤ℚ_of_same (u w) _ (best_agrees u best w c priced.0 ∙ sym (face_priced w c priced.0).1)
      ];
    }

-- all best points go first by no names
pub first_by_none : (s : System) (u : ℕ → Fraction) → IsBest s u → IsFirstBest s [] u
first_by_none s u best = record { best = best; first = λ v other g. absurd (Prim.omega (arith, g.within)) }

pub law_of_the_face : LawOfTheFace
law_of_the_face s S system shows solved u meets = (
  λ within. first_by_none s u (face_best s S system shows solved u meets within),
  λ first. best_face s S system shows solved u first.best,
)
