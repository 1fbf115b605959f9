-- Systems that agree at their names have the same values and reduced prices, the same solved states and the same stuck variables.
use Rattle.std.specs.Prelude.{◌≡◌, ℕ, pos, Bool, true, false, if◌then◌else◌, List}
use Rattle.std.specs.List.{Contains}
use Rattle.std.proofs.Common.{ap, ap₂, sym, ◌∙◌, subst, subst₂}
use Rattle.fraction_theory.specs.Fraction.{Fraction, whole, ◌-ℚ◌, ◌*ℚ◌}
use Rattle.fraction_theory.specs.Order.{◌≤ℚ◌, ◌<ℚ◌}
use Rattle.fraction_theory.specs.Sums.{sum_by, total}
use Rattle.fraction_theory.proofs.ListSums.{sum_by-members}
use Rattle.fraction_theory.proofs.SumLaws.{total-Product}
use Rattle.linear_system.specs.Choices.{Choice, basics, others, at_bound, value, value_terms, column_entry, reduced, reduced_terms}
use Rattle.linear_system.specs.SameSystems.{SameSystem}
use Rattle.linear_system.specs.Systems.{System, IsSystem, MeetsRows, InBounds, activity, objective}
use Rattle.linear_system.proofs.ChoiceLaws.{basics_are, others_are}
use Rattle.linear_system.proofs.SameSystems.{turned_round, same_rows_met, same_basics, same_others}
use Rattle.simplex_theory.specs.States.{State, Violates, IsBest, IsSolved}
use Rattle.simplex_theory.specs.Stuck.{IsStuck, margin}

module _ (s t : System) (same : SameSystem s t) where
  same_bound : (h : Choice) (w : ℕ) → Contains s.variables w → at_bound s h w ≡ at_bound t h w
  unfolding at_bound
  same_bound h w c = ap₂ (λ x y. if h.high w then x else y) (same.high w c) (same.low w c)

  same_total : (h : Choice) (b : ℕ) → total (value_terms s h b) ≡ total (value_terms t h b)
  unfolding value_terms
  same_total h b =
      total-Product (h.entry b) (at_bound s h) (others s h)
      ∙ sum_by-members (λ w. h.entry b w *ℚ at_bound s h w) (λ w. h.entry b w *ℚ at_bound t h w) (others s h)
      (λ w c. ap (λ x. h.entry b w *ℚ x) (same_bound h w (others_are s h w c).0))
      ∙ ap (sum_by (λ w. h.entry b w *ℚ at_bound t h w)) (same_others s t same h)
      ∙ sym (total-Product (h.entry b) (at_bound t h) (others t h))

  -- the value of a variable
  pub same_value : (h : Choice) (w : ℕ) → Contains s.variables w → value s h w ≡ value t h w
  unfolding value
  same_value h w c = ap₂ (λ x y. if h.basic w then x else y) (same_total h w) (same_bound h w c)

  same_price_total : (h : Choice) (w : ℕ) → total (reduced_terms s h w) ≡ total (reduced_terms t h w)
  unfolding reduced_terms
  same_price_total h w =
      total-Product s.price (λ j. column_entry h j w) s.columns
      ∙ sum_by-members (λ j. s.price j *ℚ column_entry h j w) (λ j. t.price j *ℚ column_entry h j w) s.columns (λ j c. ap (λ x. x *ℚ column_entry h j w) (same.price j c))
      ∙ ap (sum_by (λ j. t.price j *ℚ column_entry h j w)) same.same_rows.columns
      ∙ sym (total-Product t.price (λ j. column_entry h j w) t.columns)

  -- and its reduced price
  pub same_reduced : (h : Choice) (w : ℕ) → reduced s h w ≡ reduced t h w
  unfolding reduced
  same_reduced h w = ap (λ x. if h.basic w then whole (pos 0) else x) (same_price_total h w)

  -- what a point is worth
  pub same_objective : (v : ℕ → Fraction) → objective s v ≡ objective t v
  unfolding objective
  same_objective v =
      sum_by-members (λ j. s.price j *ℚ v j) (λ j. t.price j *ℚ v j) s.columns (λ j c. ap (λ x. x *ℚ v j) (same.price j c))
      ∙ ap (sum_by (λ j. t.price j *ℚ v j)) same.same_rows.columns

  back_to : (w : ℕ) → Contains t.variables w → Contains s.variables w
  back_to w c = subst (λ (ws : List ℕ). Contains ws w) (sym same.same_rows.variables) c

  -- a point in the bounds of the one is in those of the other
  pub same_within : (v : ℕ → Fraction) → InBounds s v → InBounds t v
  same_within v h = record {
    low = λ w c. subst (λ x. x ≤ℚ v w) (same.low w (back_to w c)) (h.low w (back_to w c));
    high = λ w c. subst (λ x. v w ≤ℚ x) (same.high w (back_to w c)) (h.high w (back_to w c));
  }

-- a best point of the one is one of the other
pub same_best : (s t : System) → SameSystem s t → (v : ℕ → Fraction) → IsBest s v → IsBest t v
same_best s t same v h = record {
  meets = same_rows_met s t same v h.meets;
  within = same_within s t same v h.within;
  best = λ u meets within. subst₂ ◌≤ℚ◌ (same_objective s t same u) (same_objective s t same v)
      (h.best u (same_rows_met t s (turned_round s t same) u meets) (same_within t s (turned_round s t same) u within));
}

-- what solves the one solves the other
pub same_solved : (s t : System) → SameSystem s t → (S : State) → IsSolved s S → IsSolved t S
same_solved s t same S h = record {
  best = same_best s t same S.value h.best;
  basic = λ b c. h.basic b (subst (λ (ws : List ℕ). Contains ws b) (sym (same_basics s t same S.choice)) c);
  rises = λ w c lt. h.rises w (back_to s t same w c) (subst (λ x. S.value w <ℚ x) (sym (same.high w (back_to s t same w c))) lt);
  falls = λ w c lt. h.falls w (back_to s t same w c) (subst (λ x. x <ℚ S.value w) (sym (same.low w (back_to s t same w c))) lt);
}

-- a variable that is stuck in the one is stuck in the other
pub same_stuck : (s t : System) → SameSystem s t → (h : Choice) (b : ℕ) (above : Bool) → IsStuck s h b above → IsStuck t h b above
same_stuck s t same h b above k =
    let named : Contains s.variables b = (basics_are s h b k.basic).0 in
    record {
      basic = subst (λ (ws : List ℕ). Contains ws b) (same_basics s t same h) k.basic;
      violates = by above named k.violates;
      at_low = λ w c lt e. k.at_low w (back w c) (subst₂ ◌<ℚ◌ (sym (same.low w (here w c))) (sym (same.high w (here w c))) lt) e;
      at_high = λ w c lt e. k.at_high w (back w c) (subst₂ ◌<ℚ◌ (sym (same.low w (here w c))) (sym (same.high w (here w c))) lt) e;
    }
  where
    back : (w : ℕ) → Contains (others t h) w → Contains (others s h) w
    back w c = subst (λ (ws : List ℕ). Contains ws w) (sym (same_others s t same h)) c

    here : (w : ℕ) → Contains (others t h) w → Contains s.variables w
    here w c = (others_are s h w (back w c)).0

    by : (up : Bool) → Contains s.variables b → Violates s (value s h) up b → Violates t (value t h) up b
    by true c v = subst₂ ◌<ℚ◌ (same.high b c) (same_value s t same h b c) v
    by false c v = subst₂ ◌<ℚ◌ (same_value s t same h b c) (same.low b c) v

-- and what it leaves of its bound
pub same_margin : (s t : System) → SameSystem s t → (h : Choice) (b : ℕ) (above : Bool) → Contains s.variables b → margin s h b above ≡ margin t h b above
unfolding margin
same_margin s t same h b above c = ap₂ (λ x y. if above then x else y)
    (ap₂ ◌-ℚ◌ (same.high b c) (same_value s t same h b c))
    (ap₂ ◌-ℚ◌ (same_value s t same h b c) (same.low b c))

-- ---- states of one choice whose values and reduced prices agree at the variables
module _ (s : System) (system : IsSystem s) where
  -- points that agree at the variables meet the rows together, and are worth the same
  pub alike_meets : (v u : ℕ → Fraction) → ((w : ℕ) → Contains s.variables w → v w ≡ u w) → MeetsRows s v → MeetsRows s u
  unfolding activity
  alike_meets v u e h = record {
    row = λ r c.
        sym (e r (system.row r c)) ∙ h.row r c
        ∙ sum_by-members (λ j. s.coefficient r j *ℚ v j) (λ j. s.coefficient r j *ℚ u j) s.columns (λ j k. ap (λ x. s.coefficient r j *ℚ x) (e j (system.column j k)));
  }

  pub alike_objective : (v u : ℕ → Fraction) → ((w : ℕ) → Contains s.variables w → v w ≡ u w) → objective s v ≡ objective s u
  unfolding objective
  alike_objective v u e = sum_by-members (λ j. s.price j *ℚ v j) (λ j. s.price j *ℚ u j) s.columns (λ j k. ap (λ x. s.price j *ℚ x) (e j (system.column j k)))

  -- and are best together
  pub alike_best : (v u : ℕ → Fraction) → ((w : ℕ) → Contains s.variables w → v w ≡ u w) → IsBest s v → IsBest s u
  alike_best v u e h = record {
    meets = alike_meets v u e h.meets;
    within = record {
      low = λ w c. subst (λ x. s.low w ≤ℚ x) (e w c) (h.within.low w c);
      high = λ w c. subst (λ x. x ≤ℚ s.high w) (e w c) (h.within.high w c);
    };
    best = λ p meets within. subst (λ x. objective s p ≤ℚ x) (alike_objective v u e) (h.best p meets within);
  }

  -- one of the states is solved if the other is
  pub alike_solved : (S T : State) → S.choice ≡ T.choice → ((w : ℕ) → Contains s.variables w → S.value w ≡ T.value w) → ((w : ℕ) → Contains s.variables w → S.reduced w ≡ T.reduced w)
      → IsSolved s S → IsSolved s T
  alike_solved S T one values prices h = record {
    best = alike_best S.value T.value values h.best;
    basic = λ b c.
        let old : Contains (basics s S.choice) b = subst (λ (x : Choice). Contains (basics s x) b) (sym one) c in
        sym (prices b (basics_are s S.choice b old).0) ∙ h.basic b old;
    rises = λ w c lt. subst (λ x. x ≤ℚ whole (pos 0)) (prices w c) (h.rises w c (subst (λ x. x <ℚ s.high w) (sym (values w c)) lt));
    falls = λ w c lt. subst (λ x. whole (pos 0) ≤ℚ x) (prices w c) (h.falls w c (subst (λ x. s.low w <ℚ x) (sym (values w c)) lt));
  }
