-- A state that is reached from a solved one without moving what has a price is solved, by the same reduced prices.
use Rattle.std.specs.Prelude.{◌≡◌, ◌≢◌, ℕ, pos, Bool, if◌then◌else◌}
use Rattle.std.specs.List.{Contains}
use Rattle.std.proofs.Common.{ap, sym, ◌∙◌, subst, inl, inr}
use Rattle.fraction_theory.specs.Fraction.{Fraction, whole, ◌*ℚ◌}
use Rattle.fraction_theory.specs.Order.{◌≤ℚ◌, ◌<ℚ◌}
use Rattle.fraction_theory.specs.Sums.{sum_by}
use Rattle.fraction_theory.proofs.Ring.{nil_times}
use Rattle.fraction_theory.proofs.FieldLaws.{ring_ℚ}
use Rattle.fraction_theory.proofs.ListSums.{Distinct, Distinct-increasing, sum_by-within}
use Rattle.fraction_theory.proofs.OrderLaws.{≤ℚ_refl}
use Rattle.linear_system.specs.Choices.{Choice, basics, others, at_bound, reduced, value}
use Rattle.linear_system.specs.Systems.{System, IsSystem, MeetsRows, objective}
use Rattle.linear_system.proofs.ChoiceLaws.{basics_are, is_basic, is_other, others_are, others_distinct, reduced_is_one, value_meets}
use Rattle.simplex_theory.specs.States.{IsSolved, State}
use Rattle.simplex_theory.proofs.PosedNumbers.{meets_same, reduced_basic, value_other}
use Rattle.simplex_theory.proofs.Stretches.{by_answer, two_answers}
use Rattle.optimal_face.specs.Faces.{Shows, bound_at}
use Rattle.optimal_face.specs.Laws.{ComesFrom, LawOfTheReturn}
use Rattle.optimal_face.proofs.FaceLemmas.{priced_stands, same_worth, worth}
use Rattle.optimal_face.proofs.HeldLemmas.{priced_or_not}

-- a sum of prices over the others is one over all variables, where no basic one has a price
all_others : (s : System) (h : Choice) (price v : ℕ → Fraction) → IsSystem s → ((b : ℕ) → Contains (basics s h) b → price b ≡ whole (pos 0))
    → sum_by (λ w. price w *ℚ v w) (others s h) ≡ sum_by (λ w. price w *ℚ v w) s.variables
all_others s h price v system unpriced =
    let distinct : Distinct s.variables = Distinct-increasing s.variables system.ascending in
    sum_by-within (λ w. price w *ℚ v w) (others s h) s.variables (others_distinct s h distinct) distinct (λ w c. (others_are s h w c).0)
    (λ w c. by_answer (h.basic w) (λ b. inr (ap (λ t. t *ℚ v w) (unpriced w (is_basic s h w c b)) ∙ nil_times ring_ℚ (v w))) (λ b. inl (is_other s h w c b)))

module _ (s : System) (S T : State) (system : IsSystem s) (shows : Shows s S) (solved : IsSolved s S) (comes : ComesFrom s S T) where
  -- a basic variable has no price
  unpriced : (b : ℕ) → Contains (basics s T.choice) b → S.reduced b ≡ whole (pos 0)
  unpriced b k = elim (priced_or_not (S.reduced b)) [
    | inl nil ↦ nil.0
    | inr priced ↦ let c = basics_are s T.choice b k in two_answers (T.choice.basic b) c.1 (comes.stays b c.0 priced.0).0
  ]

  -- the reduced prices are those of the state's own choice
  prices_of_choice : (w : ℕ) → Contains (others s T.choice) w → S.reduced w ≡ reduced s T.choice w
  prices_of_choice w c = reduced_is_one s system T.choice comes.choice S.reduced
      (λ v meets. worth s S system shows v meets ∙ all_others s S.choice S.reduced v system solved.basic ∙ sym (all_others s T.choice S.reduced v system unpriced)) w c

  shown : Shows s T
  shown = record {
    choice = comes.choice;
    values = comes.values;
    prices = λ w c. comes.prices w c ∙ by_answer (T.choice.basic w)
        (λ b. let k = is_basic s T.choice w c b in unpriced w k ∙ sym (reduced_basic s T.choice w k))
        (λ b. prices_of_choice w (is_other s T.choice w c b));
  }

  -- what has a price has not moved
  unmoved : (w : ℕ) → Contains s.variables w → S.reduced w ≢ whole (pos 0) → T.value w ≡ S.value w
  unfolding bound_at at_bound
  unmoved w c n =
      let stays = comes.stays w c n in
      comes.values w c
      ∙ value_other s T.choice w (is_other s T.choice w c stays.0)
      ∙ ap (λ (high : Bool). if high then s.high w else s.low w) stays.1
      ∙ sym (priced_stands s S system shows solved w c n)

  meets : MeetsRows s T.value
  meets =
      let distinct : Distinct s.variables = Distinct-increasing s.variables system.ascending in
      meets_same s system T.value (value s T.choice) comes.values (value_meets s distinct T.choice comes.choice)

  -- what a price says of a variable in the one state it says in the other
  as_before : (w : ℕ) → Contains s.variables w → (P : Fraction → Type 0) (Q : Fraction → Type 0) → Q (whole (pos 0)) → (P (S.value w) → Q (S.reduced w)) → P (T.value w) → Q (T.reduced w)
  as_before w c P Q nil there p = subst Q (sym (comes.prices w c)) (elim (priced_or_not (S.reduced w)) [
    | inl z ↦ subst Q (sym z.0) nil
    | inr priced ↦ there (subst P (unmoved w c priced.0) p)
  ])

  back : IsSolved s T
  back = record {
    best = record {
      meets = meets;
      within = comes.within;
      best = λ u meets_u within_u. subst (λ t. objective s u ≤ℚ t) (sym (same_worth s S system shows T.value S.value meets solved.best.meets unmoved)) (solved.best.best u meets_u within_u);
    };
    basic = λ b k. comes.prices b (basics_are s T.choice b k).0 ∙ unpriced b k;
    rises = λ w c. as_before w c (λ x. x <ℚ s.high w) (λ x. x ≤ℚ whole (pos 0)) (≤ℚ_refl (whole (pos 0))) (solved.rises w c);
    falls = λ w c. as_before w c (λ x. s.low w <ℚ x) (λ x. whole (pos 0) ≤ℚ x) (≤ℚ_refl (whole (pos 0))) (solved.falls w c);
  }

pub law_of_the_return : LawOfTheReturn
law_of_the_return s S T system shows solved comes = (shown s S T system shows solved comes, back s S T system shows solved comes)
