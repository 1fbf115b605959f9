-- The two ends of a run: all basic variables keep their bounds, or none of the others helps the one that leaves.
use Rattle.std.specs.Prelude.{◌≡◌, ℕ, pos, Bool, true, false}
use Rattle.std.specs.List.{Contains}
use Rattle.std.proofs.Common.{ap, sym, ◌∙◌, subst, subst₂, inl, inr}
use Rattle.fraction_theory.specs.Fraction.{Fraction, whole, ◌*ℚ◌}
use Rattle.fraction_theory.specs.Order.{◌≤ℚ◌, ◌<ℚ◌}
use Rattle.fraction_theory.specs.Sums.{sum_by}
use Rattle.fraction_theory.proofs.OrderLaws.{≤ℚ-or-<ℚ, ≤ℚ_antisym, ≤ℚ_of_same, <ℚ-not-≤ℚ, <ℚ_irrefl, ≤ℚ-<ℚ_trans, <ℚ-≤ℚ_trans}
use Rattle.linear_system.specs.Systems.{System, MeetsRows, InBounds, objective}
use Rattle.linear_system.specs.Choices.{basics, others, at_bound}
use Rattle.linear_system.proofs.ChoiceLaws.{others_are, is_other, basics_are, is_basic}
use Rattle.simplex_theory.specs.States.{State, IsPosed, IsWithin, Violates, IsSolved, HasNoPoint, IsOutOfReach}
use Rattle.simplex_theory.specs.Steps.{opposite_if, Helps}
use Rattle.simplex_theory.proofs.Signs.{greatest_at_bound, neg_at}
use Rattle.simplex_theory.proofs.NameSums.{sum_by-at_most, signed-sum}
use Rattle.simplex_theory.proofs.Stretches.{by_answer}
use Rattle.simplex_theory.proofs.Posing.{price_sign}
use Rattle.simplex_theory.proofs.Falling.{stands_high, stands_low}

module _ (s : System) (S : State) (posed : IsPosed s S) where
  -- x times an other variable within its bounds is greatest where the variable stands, if that is so of x where the bounds differ
  greatest_where_it_stands : (x : Fraction) (u : ℕ → Fraction) (w : ℕ) → Contains (others s S.choice) w → (s.low w <ℚ s.high w → ¬ (whole (pos 0) <ℚ opposite_if (S.choice.high w) x)) → IsWithin s u w
      → (x *ℚ u w) ≤ℚ (x *ℚ S.value w)
  unfolding at_bound
  greatest_where_it_stands x u w c idle within = elim (≤ℚ-or-<ℚ (s.high w) (s.low w)) [
    | inl closed ↦
        let one : s.low w ≡ s.high w = ≤ℚ_antisym (s.low w) (s.high w) (posed.bounds w (others_are s S.choice w c).0) closed in
        let there : u w ≡ s.high w = ≤ℚ_antisym (u w) (s.high w) within.high (subst (λ t. t ≤ℚ u w) one within.low) in
        let stands : S.value w ≡ s.high w = by_answer (S.choice.high w) (λ f. stands_high s S posed w c f) (λ f. stands_low s S posed w c f ∙ one) in
        ≤ℚ_of_same (x *ℚ u w) (x *ℚ S.value w) (ap (λ t. x *ℚ t) (there ∙ sym stands))
    | inr free ↦ subst (λ t. (x *ℚ u w) ≤ℚ (x *ℚ t)) (sym (posed.stands w c))
        (greatest_at_bound (S.choice.high w) x (s.low w) (s.high w) (u w) (idle free) within.low within.high)
  ]

  price_idle : (w : ℕ) → Contains (others s S.choice) w → s.low w <ℚ s.high w → ¬ (whole (pos 0) <ℚ opposite_if (S.choice.high w) (S.reduced w))
  price_idle w c free l = <ℚ-not-≤ℚ (whole (pos 0)) (opposite_if (S.choice.high w) (S.reduced w)) l (price_sign s S posed w c free)

  within_of : (u : ℕ → Fraction) → InBounds s u → (w : ℕ) → Contains s.variables w → IsWithin s u w
  within_of u b w c = record { low = b.low w c; high = b.high w c }

  -- no point within the bounds is worth more, wherever the basic variables are
  pub none_worth_more : (u : ℕ → Fraction) → MeetsRows s u → InBounds s u → objective s u ≤ℚ objective s S.value
  none_worth_more u m b = subst₂ ◌≤ℚ◌ (sym (posed.prices u m)) (sym (posed.prices S.value posed.meets))
      (sum_by-at_most (λ w. S.reduced w *ℚ u w) (λ w. S.reduced w *ℚ S.value w) (others s S.choice)
      (λ w c. greatest_where_it_stands (S.reduced w) u w c (price_idle w c) (within_of u b w (others_are s S.choice w c).0)))

  other_within : (w : ℕ) → Contains (others s S.choice) w → IsWithin s S.value w
  other_within w c =
      let bounds = posed.bounds w (others_are s S.choice w c).0 in
      by_answer (S.choice.high w)
      (λ f. let e = stands_high s S posed w c f in record { low = subst (λ t. s.low w ≤ℚ t) (sym e) bounds; high = ≤ℚ_of_same (S.value w) (s.high w) e })
      (λ f. let e = stands_low s S posed w c f in record { low = ≤ℚ_of_same (s.low w) (S.value w) (sym e); high = subst (λ t. t ≤ℚ s.high w) (sym e) bounds })

  module _ (inside : (b : ℕ) → Contains (basics s S.choice) b → IsWithin s S.value b) where
    all_within : (w : ℕ) → Contains s.variables w → IsWithin s S.value w
    all_within w c = by_answer (S.choice.basic w) (λ b. inside w (is_basic s S.choice w c b)) (λ b. other_within w (is_other s S.choice w c b))

    rises : (w : ℕ) → Contains s.variables w → S.value w <ℚ s.high w → S.reduced w ≤ℚ whole (pos 0)
    rises w c l = by_answer (S.choice.basic w)
        (λ b. ≤ℚ_of_same (S.reduced w) (whole (pos 0)) (posed.unpriced w (is_basic s S.choice w c b)))
        (λ b. let o = is_other s S.choice w c b in
        by_answer (S.choice.high w)
        (λ f. absurd (<ℚ_irrefl (s.high w) (subst (λ t. t <ℚ s.high w) (stands_high s S posed w o f) l)))
        (λ f. posed.low_price w o (subst (λ t. t <ℚ s.high w) (stands_low s S posed w o f) l) f))

    falls : (w : ℕ) → Contains s.variables w → s.low w <ℚ S.value w → whole (pos 0) ≤ℚ S.reduced w
    falls w c l = by_answer (S.choice.basic w)
        (λ b. ≤ℚ_of_same (whole (pos 0)) (S.reduced w) (sym (posed.unpriced w (is_basic s S.choice w c b))))
        (λ b. let o = is_other s S.choice w c b in
        by_answer (S.choice.high w)
        (λ f. posed.high_price w o (subst (λ t. s.low w <ℚ t) (stands_high s S posed w o f) l) f)
        (λ f. absurd (<ℚ_irrefl (s.low w) (subst (λ t. s.low w <ℚ t) (stands_low s S posed w o f) l))))

    -- all basic variables within their bounds: solved
    pub solved : IsSolved s S
    solved = record {
      best = record {
        meets = posed.meets;
        within = record { low = λ w c. (all_within w c).low; high = λ w c. (all_within w c).high };
        best = none_worth_more;
      };
      basic = posed.unpriced;
      rises = rises;
      falls = falls;
    }

  -- no other variable helps v: no values of the others bring it back within its bounds
  module _ (v : ℕ) (above : Bool) (basic : Contains (basics s S.choice) v) (past : Violates s S.value above v) (idle : (w : ℕ) → ¬ (Helps s S v above w)) where
    no_nearer : (u : ℕ → Fraction) → ((w : ℕ) → Contains (others s S.choice) w → IsWithin s u w) → u v ≡ sum_by (λ w. S.choice.entry v w *ℚ u w) (others s S.choice) → opposite_if above (u v) ≤ℚ opposite_if above (S.value v)
    no_nearer u within e = subst₂ ◌≤ℚ◌
        (sym (ap (opposite_if above) e ∙ signed-sum above (S.choice.entry v) u (others s S.choice)))
        (sym (ap (opposite_if above) ((posed.choice.to_table S.value posed.meets).basic v basic) ∙ signed-sum above (S.choice.entry v) S.value (others s S.choice)))
        (sum_by-at_most (λ w. opposite_if above (S.choice.entry v w) *ℚ u w) (λ w. opposite_if above (S.choice.entry v w) *ℚ S.value w) (others s S.choice)
        (λ w c. greatest_where_it_stands (opposite_if above (S.choice.entry v w)) u w c
        (λ free towards. idle w (record { other = c; free = free; towards = towards })) (within w c)))

    pub out_of_reach : IsOutOfReach s S.choice v
    out_of_reach = record { basic = basic; apart = λ u within e w. still_past above u (no_nearer u within e) past w }
      where
        still_past : (a : Bool) (u : ℕ → Fraction) → opposite_if a (u v) ≤ℚ opposite_if a (S.value v) → Violates s S.value a v → IsWithin s u v → ⊥
        still_past true u l p w = <ℚ-not-≤ℚ (s.high v) (u v) (<ℚ-≤ℚ_trans (s.high v) (S.value v) (u v) p (neg_at (u v) (S.value v) l)) w.high
        still_past false u l p w = <ℚ-not-≤ℚ (u v) (s.low v) (≤ℚ-<ℚ_trans (u v) (S.value v) (s.low v) l p) w.low

    -- and so no point at all
    pub no_point : HasNoPoint s
    no_point = record {
      none = λ u m b.
          out_of_reach.apart u (λ w c. within_of u b w (others_are s S.choice w c).0) ((posed.choice.to_table u m).basic v basic) (within_of u b v (basics_are s S.choice v basic).0);
    }
