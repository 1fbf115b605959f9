-- What can't move is the same at all points that go first.
use Rattle.std.specs.Prelude.{◌≡◌, ℕ, Bool, List, [], ◌∷◌, ◌++◌, Option, Some, None, refl}
use Rattle.std.specs.List.{Contains}
use Rattle.std.specs.Option.{option_map_or}
use Rattle.std.proofs.Common.{sym, ◌∙◌, subst, append_assoc}
use Rattle.std.proofs.lemmas.List.{append-nil}
use Rattle.fraction_theory.specs.Fraction.{Fraction, ◌*ℚ◌}
use Rattle.fraction_theory.proofs.ListSums.{Contains-cons, Contains-head, sum_by-members}
use Rattle.fraction_theory.proofs.OrderLaws.{≤ℚ_of_same}
use Rattle.linear_system.specs.Choices.{Choice, IsChoice, others}
use Rattle.linear_system.specs.Systems.{System, InBounds, IsSystem, MeetsRows}
use Rattle.linear_system.proofs.ChoiceLaws.{is_basic, is_other, others_are}
use Rattle.simplex_theory.proofs.Stretches.{by_answer}
use Rattle.optimal_face.specs.Faces.{Held, IsStill, by_bounds, by_hold, bound_at, held_at}
use Rattle.optimal_face.specs.FirstPoints.{HoldsFirst}
use Rattle.optimal_face.specs.Laws.{CanNotMove, LawOfTheSettled, LawOfTheStill}
use Rattle.optimal_face.proofs.FaceLemmas.{same_product}
use Rattle.optimal_face.proofs.FirstLemmas.{first_of_more, more_by_most}
use Rattle.optimal_face.proofs.HeldLemmas.{bounds_held, pinned}

-- bounds that are equal are so where variables are held too
by_either : (s : System) (w : ℕ) → s.low w ≡ s.high w → (o : Option Bool) → option_map_or (bound_at s w) o (s.low w) ≡ option_map_or (bound_at s w) o (s.high w)
by_either s w e None = e
by_either s w e (Some high) = refl

still_bounds : (s : System) (held : Held) (price : ℕ → Fraction) (w : ℕ) → IsStill s held w → (held_at s held price).low w ≡ (held_at s held price).high w
unfolding held_at
still_bounds s held price w (by_hold high e) = let bounds = bounds_held s held price w high e in bounds.0 ∙ sym bounds.1
still_bounds s held price w (by_bounds e) = by_either s w e (held w)

module _ (s : System) (held : Held) (price : ℕ → Fraction) (u v : ℕ → Fraction) (within_u : InBounds (held_at s held price) u) (within_v : InBounds (held_at s held price) v) where
  -- two points within the bounds agree where a variable is still
  pub still_agrees : (w : ℕ) → Contains s.variables w → IsStill s held w → u w ≡ v w
  unfolding held_at
  still_agrees w c still =
      let e = still_bounds s held price w still in
      pinned _ _ (u w) e (within_u.low w c) (within_u.high w c) ∙ sym (pinned _ _ (v w) e (within_v.low w c) (within_v.high w c))

  -- and where it can't move
  pub unmoved_agrees : (h : Choice) → IsChoice s h → MeetsRows s u → MeetsRows s v → (j : ℕ) → Contains s.variables j → CanNotMove s held h j → u j ≡ v j
  unmoved_agrees h choice meets_u meets_v j c can_not = by_answer (h.basic j)
      (λ b. let basic = is_basic s h j c b in
      (choice.to_table u meets_u).basic j basic
      ∙ sum_by-members (λ w. h.entry j w *ℚ u w) (λ w. h.entry j w *ℚ v w) (others s h)
      (λ w k. same_product (h.entry j w) (u w) (v w) (λ n. still_agrees w (others_are s h w k).0 (can_not.basic basic w k n)))
      ∙ sym ((choice.to_table v meets_v).basic j basic))
      (λ b. still_agrees j c (can_not.other (is_other s h j c b)))

pub law_of_the_still : LawOfTheStill
law_of_the_still s names held h j system choice c holds can_not u meets = (
  λ within. more_by_most s names j u ((holds u meets).0 within)
      (λ v first. ≤ℚ_of_same (v j) (u j) (unmoved_agrees s held s.price v u ((holds v first.best.meets).1 first) within h choice first.best.meets meets j c can_not)),
  λ first. (holds u meets).1 (first_of_more s names j u first),
)

module _ (s : System) (held : Held) (h : Choice) (system : IsSystem s) (choice : IsChoice s h) (still : (w : ℕ) → Contains (others s h) w → IsStill s held w) where
  settled : (names more : List ℕ) → ((j : ℕ) → Contains more j → Contains s.variables j) → HoldsFirst s names held → HoldsFirst s (names ++ more) held
  settled names [] named holds = subst (λ (js : List ℕ). HoldsFirst s js held) (sym (append-nil names)) holds
  settled names (j ∷ more) named holds = subst (λ (js : List ℕ). HoldsFirst s js held) (append_assoc names (j ∷ []) more)
      (settled (names ++ j ∷ []) more (λ i c. named i (Contains-cons j more i c))
      (law_of_the_still s names held h j system choice (named j (Contains-head j more)) holds (record { other = λ c. still j c; basic = λ b w c n. still w c })))

pub law_of_the_settled : LawOfTheSettled
law_of_the_settled s names more held h system choice named holds still = settled s held h system choice still names more named holds
