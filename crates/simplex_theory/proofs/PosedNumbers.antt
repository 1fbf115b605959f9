-- The numbers of a posed state are those of its choice, and a choice whose others stand as its reduced prices ask is a posed state.
use Rattle.std.specs.Prelude.{◌≡◌, ℕ, pos, Bool, true, false, if◌then◌else◌}
use Rattle.std.specs.List.{Contains}
use Rattle.std.proofs.Common.{ap, sym, ◌∙◌}
use Rattle.fraction_theory.specs.Fraction.{whole, ◌*ℚ◌, Fraction}
use Rattle.fraction_theory.specs.Order.{◌≤ℚ◌, ◌<ℚ◌}
use Rattle.fraction_theory.specs.Sums.{total}
use Rattle.fraction_theory.proofs.ListSums.{Distinct, Distinct-increasing, sum_by-members}
use Rattle.linear_system.specs.Systems.{System, IsSystem, MeetsRows, activity}
use Rattle.linear_system.specs.Choices.{Choice, basics, others, IsChoice, at_bound, value, value_terms, reduced, reduced_terms}
use Rattle.linear_system.proofs.ChoiceLaws.{others_are, is_other, basics_are, is_basic, others_fix_all, value_meets, objective_by_others, reduced_is_one}
use Rattle.simplex_theory.specs.States.{State, IsPosed}
use Rattle.simplex_theory.proofs.Stretches.{by_answer}

-- the value of an other variable, and the reduced price of a basic one, in a choice
pub value_other : (s : System) (h : Choice) (w : ℕ) → Contains (others s h) w → value s h w ≡ at_bound s h w
unfolding value
value_other s h w c = ap (λ (b : Bool). if b then total (value_terms s h w) else at_bound s h w) (others_are s h w c).1

pub reduced_basic : (s : System) (h : Choice) (b : ℕ) → Contains (basics s h) b → reduced s h b ≡ whole (pos 0)
unfolding reduced
reduced_basic s h b c = ap (λ (t : Bool). if t then whole (pos 0) else total (reduced_terms s h b)) (basics_are s h b c).1

-- points with the same values at the variables
pub meets_same : (s : System) → IsSystem s → (v u : ℕ → Fraction) → ((w : ℕ) → Contains s.variables w → v w ≡ u w) → MeetsRows s u → MeetsRows s v
unfolding activity
meets_same s system v u same m = record {
  row = λ r c.
      same r (system.row r c) ∙ m.row r c
      ∙ sum_by-members (λ j. s.coefficient r j *ℚ u j) (λ j. s.coefficient r j *ℚ v j) s.columns (λ j k. ap (λ t. s.coefficient r j *ℚ t) (sym (same j (system.column j k))));
}

module _ (s : System) (S : State) where
  -- a posed state's values are those of its choice
  pub posed_value : IsPosed s S → (w : ℕ) → Contains s.variables w → S.value w ≡ value s S.choice w
  posed_value posed w c =
      let distinct : Distinct s.variables = Distinct-increasing s.variables posed.system.ascending in
      others_fix_all s distinct S.choice posed.choice S.value (value s S.choice) posed.meets (value_meets s distinct S.choice posed.choice)
      (λ o k. posed.stands o k ∙ sym (value_other s S.choice o k)) w c

  -- and so are its reduced prices
  pub posed_reduced : IsPosed s S → (w : ℕ) → Contains s.variables w → S.reduced w ≡ reduced s S.choice w
  posed_reduced posed w c = by_answer (S.choice.basic w)
      (λ b. let k = is_basic s S.choice w c b in posed.unpriced w k ∙ sym (reduced_basic s S.choice w k))
      (λ b. reduced_is_one s posed.system S.choice posed.choice S.reduced posed.prices w (is_other s S.choice w c b))

  -- A state is posed where its values and reduced prices are those of a choice, and each other variable stands at the bound that its reduced price asks for. Nothing is asked of the values.
  pub posed_by_choice : IsSystem s
      → ((w : ℕ) → Contains s.variables w → s.low w ≤ℚ s.high w)
      → IsChoice s S.choice
      → ((w : ℕ) → Contains s.variables w → S.value w ≡ value s S.choice w)
      → ((w : ℕ) → Contains s.variables w → S.reduced w ≡ reduced s S.choice w)
      → ((w : ℕ) → Contains (others s S.choice) w → s.low w <ℚ s.high w → S.choice.high w ≡ false → S.reduced w ≤ℚ whole (pos 0))
      → ((w : ℕ) → Contains (others s S.choice) w → s.low w <ℚ s.high w → S.choice.high w ≡ true → whole (pos 0) ≤ℚ S.reduced w)
      → IsPosed s S
  posed_by_choice system bounds choice values prices low high =
      let distinct : Distinct s.variables = Distinct-increasing s.variables system.ascending in
      record {
        system = system;
        bounds = bounds;
        choice = choice;
        stands = λ w c. values w (others_are s S.choice w c).0 ∙ value_other s S.choice w c;
        meets = meets_same s system S.value (value s S.choice) values (value_meets s distinct S.choice choice);
        prices = λ v m.
            objective_by_others s system S.choice choice v m
            ∙ sum_by-members (λ w. reduced s S.choice w *ℚ v w) (λ w. S.reduced w *ℚ v w) (others s S.choice) (λ w c. ap (λ t. t *ℚ v w) (sym (prices w (others_are s S.choice w c).0)));
        unpriced = λ b c. prices b (basics_are s S.choice b c).0 ∙ reduced_basic s S.choice b c;
        low_price = low;
        high_price = high;
      }
