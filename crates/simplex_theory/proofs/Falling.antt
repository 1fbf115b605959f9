-- The objective never rises in a step, and where it stands the reduced prices do too.
use Rattle.std.specs.Prelude.{◌≡◌, ◌≢◌, ℕ, pos, Bool, true, false, [], ◌∷◌, ◌⊎◌, if◌then◌else◌, refl}
use Rattle.std.specs.List.{Contains}
use Rattle.std.proofs.Common.{ap, sym, ◌∙◌, subst, subst₂, inl, inr}
use Rattle.fraction_theory.specs.Fraction.{Fraction, whole, ◌+ℚ◌, ◌-ℚ◌, ◌*ℚ◌}
use Rattle.fraction_theory.specs.Order.{◌≤ℚ◌, ◌<ℚ◌}
use Rattle.fraction_theory.specs.Sums.{sum_by}
use Rattle.fraction_theory.proofs.Ring.{by_ring, by_ring1, at, pnil, pone, pneg, ◌⊕◌, ◌⊗◌}
use Rattle.fraction_theory.proofs.FieldLaws.{ring_ℚ}
use Rattle.fraction_theory.proofs.ListSums.{Distinct-increasing, same_or_not, sum_by-members}
use Rattle.fraction_theory.proofs.OrderLaws.{not-≤ℚ, <ℚ-not-≤ℚ, ≤ℚ_of_same, three_ways, by_le1, NonNeg-one, *ℚ-<ℚ, *ℚ-≤ℚ, NonNeg_from, <ℚ-≤ℚ, +ℚ-<ℚ}
use Rattle.linear_system.specs.Systems.{System, objective}
use Rattle.linear_system.specs.Choices.{others, OneExchange, at_bound}
use Rattle.linear_system.proofs.ChoiceLaws.{others_are, is_other, is_basic, others_fix_all}
use Rattle.simplex_theory.specs.States.{State, IsPosed, Violates}
use Rattle.simplex_theory.specs.Steps.{opposite_if, IsStep, violated_bound, displacement}
use Rattle.simplex_theory.proofs.Signs.{signed-both, signed-times, signed-nil}
use Rattle.simplex_theory.proofs.NameSums.{sum_by-below}
use Rattle.simplex_theory.proofs.Stretches.{by_answer}
use Rattle.simplex_theory.proofs.Exchanges.{other_after, other_not_leaving, entering_basic, entering_other, basic_before}
use Rattle.simplex_theory.proofs.Posing.{exchange, inverse, help, price_sign, step_meets}

-- a factor of what is above 0 is above 0 where the other is
other_factor : (x m y : Fraction) → whole (pos 0) <ℚ x → x *ℚ m ≡ y → whole (pos 0) <ℚ y → whole (pos 0) <ℚ m
other_factor x m y hx e hy = not-≤ℚ m (whole (pos 0))
    (λ h. <ℚ-not-≤ℚ (whole (pos 0)) y hy
    (subst₂ ◌≤ℚ◌ e (by_ring ring_ℚ (x ∷ []) (at 0 ⊗ pnil) pnil refl) (*ℚ-≤ℚ x m (whole (pos 0)) (NonNeg_from x (<ℚ-≤ℚ (whole (pos 0)) x hx)) h)))

above_difference : (x y : Fraction) → x <ℚ y → whole (pos 0) <ℚ (y -ℚ x)
above_difference x y l = not-≤ℚ (y -ℚ x) (whole (pos 0)) (λ h. <ℚ-not-≤ℚ x y l (by_le1 (x ∷ y ∷ []) (at 1) (at 0) pone (at 1 ⊕ pneg (at 0)) pnil NonNeg-one h refl))

-- how far v moves to the bound that it violates, by the side
displacement_sign : (s : System) (S : State) (v : ℕ) (above : Bool) → Violates s S.value above v → whole (pos 0) <ℚ opposite_if above (displacement s S v above)
unfolding displacement violated_bound
displacement_sign s S v true l = subst (λ t. whole (pos 0) <ℚ t) (by_ring ring_ℚ (S.value v ∷ s.high v ∷ []) (at 0 ⊕ pneg (at 1)) (pneg (at 1 ⊕ pneg (at 0))) refl) (above_difference (s.high v) (S.value v) l)
displacement_sign s S v false l = above_difference (S.value v) (s.low v) l

module _ (s : System) (S T : State) (v k : ℕ) (above : Bool) (posed : IsPosed s S) (step : IsStep s S T v k above) where
  -- how far the entering variable moves, by the bound at which it stood
  far : Fraction
  far = opposite_if (S.choice.high k) (T.choice.entry k v *ℚ displacement s S v above)

  far_above : whole (pos 0) <ℚ far
  unfolding far help
  far_above =
      let i = T.choice.entry k v in
      let p = S.choice.entry v k in
      let w = displacement s S v above in
      other_factor (help s S T v k above posed step) far (opposite_if above w) step.enters.helps.towards
      (signed-both (S.choice.high k) (opposite_if above p) (i *ℚ w) ∙ signed-times above p (i *ℚ w)
      ∙ ap (opposite_if above) (by_ring1 ring_ℚ (p ∷ i ∷ w ∷ []) (at 0 ⊗ (at 1 ⊗ at 2)) (at 2) (at 2) (at 0 ⊗ at 1) pone (inverse s S T v k above posed step) refl))
      (displacement_sign s S v above step.leaves.violates)

  entering_term : S.reduced k *ℚ T.value k ≡ S.reduced k *ℚ S.value k +ℚ far *ℚ opposite_if (S.choice.high k) (S.reduced k)
  unfolding far
  entering_term =
      let d = S.reduced k in
      let m = T.choice.entry k v *ℚ displacement s S v above in
      ap (λ t. d *ℚ t) (step.moved.basic k (entering_basic s S.choice T.choice v k (exchange s S T v k above posed step)))
      ∙ by_ring ring_ℚ (d ∷ S.value k ∷ m ∷ []) (at 0 ⊗ (at 1 ⊕ at 2)) (at 0 ⊗ at 1 ⊕ at 2 ⊗ at 0) refl
      ∙ ap (λ t. d *ℚ S.value k +ℚ t) (sym (signed-both (S.choice.high k) m d))

  staying_term : (w : ℕ) → Contains (others s S.choice) w → w ≢ k → S.reduced w *ℚ T.value w ≡ S.reduced w *ℚ S.value w
  staying_term w c n =
      let x = exchange s S T v k above posed step in
      ap (λ t. S.reduced w *ℚ t) (step.moved.stay w (other_after s S.choice T.choice v k x w c n) (other_not_leaving s S.choice T.choice v k x w c))

  -- The objective stands where the entering variable's reduced price is 0, and else it falls.
  pub objective_step : ((S.reduced k ≡ whole (pos 0)) × (objective s T.value ≡ objective s S.value)) ⊎ (objective s T.value <ℚ objective s S.value)
  objective_step = elim (three_ways d (whole (pos 0))) [
    | inl below ↦ inr (subst₂ ◌<ℚ◌ (sym new) (sym old)
        (sum_by-below f g (others s S.choice) k (entering_other s S.choice T.choice v k x)
        (λ w c. elim (same_or_not w k) [
          | inl e ↦ subst (λ (u : ℕ). f u ≤ℚ g u) (sym e) (<ℚ-≤ℚ (f k) (g k) (lower below))
          | inr n ↦ ≤ℚ_of_same (f w) (g w) (staying_term w c n)
        ])
        (lower below)))
    | inr up ↦ elim up [
      | inl nil ↦ let none : S.reduced k ≡ whole (pos 0) = signed-nil (S.choice.high k) (S.reduced k) nil in
          inl (
            none,
            new
                ∙ sum_by-members f g (others s S.choice) (λ w c. elim (same_or_not w k) [
                  | inl e ↦ subst (λ (u : ℕ). f u ≡ g u) (sym e) (ap (λ t. t *ℚ T.value k) none ∙ by_ring ring_ℚ (T.value k ∷ S.value k ∷ []) (pnil ⊗ at 0) (pnil ⊗ at 1) refl ∙ ap (λ t. t *ℚ S.value k) (sym none))
                  | inr n ↦ staying_term w c n
                ])
                ∙ sym old,
          )
      | inr above_nil ↦ absurd (<ℚ-not-≤ℚ (whole (pos 0)) d above_nil (price_sign s S posed k step.enters.helps.other step.enters.helps.free))
    ]
  ]
    where
      x : OneExchange s S.choice T.choice v k
      x = exchange s S T v k above posed step

      d : Fraction
      d = opposite_if (S.choice.high k) (S.reduced k)

      f : ℕ → Fraction
      f w = S.reduced w *ℚ T.value w

      g : ℕ → Fraction
      g w = S.reduced w *ℚ S.value w

      new : objective s T.value ≡ sum_by f (others s S.choice)
      new = posed.prices T.value (step_meets s S T v k above posed step)

      old : objective s S.value ≡ sum_by g (others s S.choice)
      old = posed.prices S.value posed.meets

      lower : d <ℚ whole (pos 0) → f k <ℚ g k
      lower h = subst (λ t. t <ℚ g k) (sym entering_term)
          (subst₂ ◌<ℚ◌ (ring_ℚ.plus_comm (far *ℚ d) (g k)) (by_ring ring_ℚ (g k ∷ far ∷ []) (at 1 ⊗ pnil ⊕ at 0) (at 0) refl)
          (+ℚ-<ℚ (far *ℚ d) (far *ℚ whole (pos 0)) (g k) (g k) (*ℚ-<ℚ far d (whole (pos 0)) far_above h) (≤ℚ_of_same (g k) (g k) refl)))

  -- where the entering variable's reduced price is 0 all reduced prices stand
  pub prices_stand : S.reduced k ≡ whole (pos 0) → (w : ℕ) → Contains s.variables w → T.reduced w ≡ S.reduced w
  prices_stand none w c =
      let x = exchange s S T v k above posed step in
      by_answer (T.choice.basic w)
      (λ b. let now = is_basic s T.choice w c b in
      step.moved.unpriced w now
      ∙ elim (same_or_not w k) [
        | inl e ↦ sym (ap S.reduced e ∙ none)
        | inr n ↦ sym (posed.unpriced w (basic_before s S.choice T.choice v k x w now n))
      ])
      (λ b. step.moved.priced w (is_other s T.choice w c b) ∙ ap (λ t. S.reduced w +ℚ t *ℚ T.choice.entry k w) none
      ∙ by_ring ring_ℚ (S.reduced w ∷ T.choice.entry k w ∷ []) (at 0 ⊕ pnil ⊗ at 1) (at 0) refl)

-- what the value of an other variable is, by its bound
pub stands_high : (s : System) (S : State) → IsPosed s S → (w : ℕ) → Contains (others s S.choice) w → S.choice.high w ≡ true → S.value w ≡ s.high w
unfolding at_bound
stands_high s S posed w c e = posed.stands w c ∙ ap (λ (f : Bool). if f then s.high w else s.low w) e

pub stands_low : (s : System) (S : State) → IsPosed s S → (w : ℕ) → Contains (others s S.choice) w → S.choice.high w ≡ false → S.value w ≡ s.low w
unfolding at_bound
stands_low s S posed w c e = posed.stands w c ∙ ap (λ (f : Bool). if f then s.high w else s.low w) e

pub same_stand : (s : System) (S T : State) → IsPosed s S → IsPosed s T → (w : ℕ) → Contains (others s S.choice) w → Contains (others s T.choice) w → S.choice.high w ≡ T.choice.high w → S.value w ≡ T.value w
unfolding at_bound
same_stand s S T p q w c d e = p.stands w c ∙ ap (λ (f : Bool). if f then s.high w else s.low w) e ∙ sym (q.stands w d)

module _ (s : System) (S T : State) (p : IsPosed s S) (q : IsPosed s T)
    (basic : (w : ℕ) → Contains s.variables w → S.choice.basic w ≡ T.choice.basic w)
    (high : (w : ℕ) → Contains s.variables w → S.choice.basic w ≡ false → S.choice.high w ≡ T.choice.high w) where
  -- States with the same basic variables, whose others stand at the same bounds, have the same values.
  pub same_values : (w : ℕ) → Contains s.variables w → S.value w ≡ T.value w
  same_values = others_fix_all s (Distinct-increasing s.variables p.system.ascending) S.choice p.choice S.value T.value p.meets q.meets
      (λ w c. let a = others_are s S.choice w c in same_stand s S T p q w c (is_other s T.choice w a.0 (sym (basic w a.0) ∙ a.1)) (high w a.0 a.1))

  -- and so the same objective
  pub same_objective : objective s S.value ≡ objective s T.value
  unfolding objective
  same_objective = sum_by-members (λ j. s.price j *ℚ S.value j) (λ j. s.price j *ℚ T.value j) s.columns (λ j c. ap (λ t. s.price j *ℚ t) (same_values j (p.system.column j c)))
