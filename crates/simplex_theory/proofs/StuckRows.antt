-- A row that shows that a system has no point: a basic variable violates a bound where the others stand at theirs, and none
-- of these that has room brings it back. Taken 1 at the basic variable and the opposites of its entries at the others, the
-- variables make 0 at each point that meets the rows, and within the bounds less than 0, or always more.
use Rattle.std.specs.Prelude.{◌≡◌, ◌≢◌, ℕ, ◌==◌, pos, Bool, true, false, not, if◌then◌else◌, [], ◌∷◌, refl}
use Rattle.std.specs.List.{Contains}
use Rattle.std.proofs.Common.{ap, sym, ◌∙◌, subst, subst₂, inl, inr}
use mathlib.Core.Path.{ap₂}
use Rattle.fraction_theory.specs.Fraction.{Fraction, whole, ◌+ℚ◌, ◌-ℚ◌, ◌*ℚ◌, neg_ℚ}
use Rattle.fraction_theory.specs.Order.{◌≤ℚ◌, ◌<ℚ◌}
use Rattle.fraction_theory.specs.Sums.{sum_by, total}
use Rattle.fraction_theory.proofs.FieldLaws.{ring_ℚ}
use Rattle.fraction_theory.proofs.Ring.{by_ring, at, pnil, pneg, pone, ◌⊕◌, ◌⊗◌}
use Rattle.fraction_theory.proofs.ListSums.{Distinct-increasing, kept, put_at-here, put_at-elsewhere, same_or_not, sum_by-filter, sum_by-members}
use Rattle.fraction_theory.proofs.OrderLaws.{by_le1, NonNeg-one, not-≤ℚ, ≤ℚ-or-<ℚ, ≤ℚ_antisym, ≤ℚ_of_same, ≤ℚ_refl, <ℚ-not-≤ℚ}
use Rattle.fraction_theory.proofs.SumLaws.{total-Product}
use Rattle.linear_system.specs.Systems.{System, IsSystem, MeetsRows, InBounds}
use Rattle.linear_system.specs.Choices.{Choice, basics, others, IsChoice, at_bound, value, value_terms}
use Rattle.linear_system.proofs.ChoiceLaws.{basics_are, others_are, is_other}
use Rattle.simplex_theory.specs.States.{IsWithin, Violates, HasNoPoint}
use Rattle.simplex_theory.specs.Steps.{opposite_if}
use Rattle.simplex_theory.specs.Stuck.{multiplier, margin}
use Rattle.simplex_theory.proofs.NameSums.{signed-sum, sum_by-at_most, sum_by-change}
use Rattle.simplex_theory.proofs.Signs.{greatest_at_bound, neg_at_most}
use Rattle.simplex_theory.proofs.Stretches.{by_answer}

-- what all variables of a point make with these
unfoldable pub combined : System → Choice → ℕ → (ℕ → Fraction) → Fraction
combined s h b u = sum_by (λ w. multiplier h b w *ℚ u w) s.variables

-- within the bounds the combination is greatest here: b at the bound in question, and each other variable where it stands
unfoldable pub corner : System → Choice → ℕ → Bool → ℕ → Fraction
corner s h b above w = if w == b then (if above then s.high b else s.low b) else if h.basic w then s.low w else at_bound s h w

-- each function by what the variable is
module _ (s : System) (h : Choice) (b w : ℕ) where
  pub multiplier-itself : w ≡ b → multiplier h b w ≡ whole (pos 1)
  unfolding multiplier
  multiplier-itself e = put_at-here b (whole (pos 1)) (λ x. if h.basic x then whole (pos 0) else neg_ℚ (h.entry b x)) w e

  pub multiplier-basic : w ≢ b → h.basic w ≡ true → multiplier h b w ≡ whole (pos 0)
  unfolding multiplier
  multiplier-basic n e = put_at-elsewhere b (whole (pos 1)) (λ x. if h.basic x then whole (pos 0) else neg_ℚ (h.entry b x)) w n
      ∙ ap (λ (x : Bool). if x then whole (pos 0) else neg_ℚ (h.entry b w)) e

  pub multiplier-other : w ≢ b → h.basic w ≡ false → multiplier h b w ≡ neg_ℚ (h.entry b w)
  unfolding multiplier
  multiplier-other n e = put_at-elsewhere b (whole (pos 1)) (λ x. if h.basic x then whole (pos 0) else neg_ℚ (h.entry b x)) w n
      ∙ ap (λ (x : Bool). if x then whole (pos 0) else neg_ℚ (h.entry b w)) e

  pub corner-itself : (above : Bool) → w ≡ b → corner s h b above w ≡ (if above then s.high b else s.low b)
  unfolding corner
  corner-itself above e = put_at-here b (if above then s.high b else s.low b) (λ x. if h.basic x then s.low x else at_bound s h x) w e

  pub corner-basic : (above : Bool) → w ≢ b → h.basic w ≡ true → corner s h b above w ≡ s.low w
  unfolding corner
  corner-basic above n e = put_at-elsewhere b (if above then s.high b else s.low b) (λ x. if h.basic x then s.low x else at_bound s h x) w n
      ∙ ap (λ (x : Bool). if x then s.low w else at_bound s h w) e

  pub corner-other : (above : Bool) → w ≢ b → h.basic w ≡ false → corner s h b above w ≡ at_bound s h w
  unfolding corner
  corner-other above n e = put_at-elsewhere b (if above then s.high b else s.low b) (λ x. if h.basic x then s.low x else at_bound s h x) w n
      ∙ ap (λ (x : Bool). if x then s.low w else at_bound s h w) e

module _ (s : System) (h : Choice) (system : IsSystem s) (b : ℕ) (basic : Contains (basics s h) b) where
  apart : (w : ℕ) → Contains (others s h) w → w ≢ b
  apart w c e = wrong (sym (basics_are s h b basic).1 ∙ ap h.basic (sym e) ∙ (others_are s h w c).1)
    where
      wrong : true ≡ false → ⊥
      wrong e = absurd Prim.cc

  -- the combination is the basic variable less its row
  pub combined_is : (u : ℕ → Fraction) → combined s h b u ≡ u b -ℚ sum_by (λ w. h.entry b w *ℚ u w) (others s h)
  unfolding combined others
  combined_is u =
      let f : ℕ → Fraction = λ w. multiplier h b w *ℚ u w in
      let g : ℕ → Fraction = λ w. kept (not (h.basic w)) (neg_ℚ (h.entry b w) *ℚ u w) in
      let row : Fraction = sum_by (λ w. h.entry b w *ℚ u w) (others s h) in
      let here : h.basic b ≡ true = (basics_are s h b basic).1 in
      let g_nil : g b ≡ whole (pos 0) = ap (λ (x : Bool). kept (not x) (neg_ℚ (h.entry b b) *ℚ u b)) here in
      let f_one : f b ≡ u b = ap (λ x. x *ℚ u b) (multiplier-itself s h b b refl) ∙ by_ring ring_ℚ (u b ∷ []) (pone ⊗ at 0) (at 0) refl in
      let g_row : sum_by g s.variables ≡ neg_ℚ row =
      sym (sum_by-filter (λ w. neg_ℚ (h.entry b w) *ℚ u w) (λ w. not (h.basic w)) s.variables) ∙ sym (signed-sum true (h.entry b) u (others s h)) in
      by_ring ring_ℚ (sum_by f s.variables ∷ []) (at 0) (at 0 ⊕ pnil) refl
      ∙ ap (λ x. sum_by f s.variables +ℚ x) (sym g_nil)
      ∙ sum_by-change f g b s.variables (Distinct-increasing s.variables system.ascending) (basics_are s h b basic).0
      (λ w c n. by_answer (h.basic w)
      (λ e. ap (λ x. x *ℚ u w) (multiplier-basic s h b w n e) ∙ by_ring ring_ℚ (u w ∷ []) (pnil ⊗ at 0) pnil refl ∙ sym (ap (λ (x : Bool). kept (not x) (neg_ℚ (h.entry b w) *ℚ u w)) e))
      (λ e. ap (λ x. x *ℚ u w) (multiplier-other s h b w n e) ∙ sym (ap (λ (x : Bool). kept (not x) (neg_ℚ (h.entry b w) *ℚ u w)) e)))
      ∙ ap₂ ◌+ℚ◌ g_row f_one
      ∙ by_ring ring_ℚ (row ∷ u b ∷ []) (pneg (at 0) ⊕ at 1) (at 1 ⊕ pneg (at 0)) refl

  -- and 0 at each point that meets the rows
  pub combined_vanishes : IsChoice s h → (u : ℕ → Fraction) → MeetsRows s u → combined s h b u ≡ whole (pos 0)
  combined_vanishes choice u meets =
      let row : Fraction = sum_by (λ w. h.entry b w *ℚ u w) (others s h) in
      combined_is u ∙ ap (λ x. x -ℚ row) ((choice.to_table u meets).basic b basic)
      ∙ by_ring ring_ℚ (row ∷ []) (at 0 ⊕ pneg (at 0)) pnil refl

  basic_value : value s h b ≡ sum_by (λ w. h.entry b w *ℚ at_bound s h w) (others s h)
  unfolding value value_terms
  basic_value = ap (λ (x : Bool). if x then total (value_terms s h b) else at_bound s h b) (basics_are s h b basic).1 ∙ total-Product (h.entry b) (at_bound s h) (others s h)

  module _ (above : Bool) where
    -- at the corner it is the margin
    pub corner_reaches : opposite_if (not above) (combined s h b (corner s h b above)) ≡ margin s h b above
    unfolding margin
    corner_reaches = ap (opposite_if (not above)) (combined_is (corner s h b above)
        ∙ ap₂ ◌-ℚ◌ (corner-itself s h b b above refl)
        (sum_by-members (λ w. h.entry b w *ℚ corner s h b above w) (λ w. h.entry b w *ℚ at_bound s h w) (others s h)
        (λ w c. ap (λ x. h.entry b w *ℚ x) (corner-other s h b w above (apart w c) (others_are s h w c).1)) ∙ sym basic_value)) ∙ by above
      where
        by : (a : Bool) → opposite_if (not a) ((if a then s.high b else s.low b) -ℚ value s h b) ≡ (if a then s.high b -ℚ value s h b else value s h b -ℚ s.low b)
        by true = refl
        by false = by_ring ring_ℚ (s.low b ∷ value s h b ∷ []) (pneg (at 0 ⊕ pneg (at 1))) (at 1 ⊕ pneg (at 0)) refl

    -- the margin of a violated bound is below 0
    pub margin_below : Violates s (value s h) above b → margin s h b above <ℚ whole (pos 0)
    unfolding margin
    margin_below past = by above past
      where
        by : (a : Bool) → Violates s (value s h) a b → (if a then s.high b -ℚ value s h b else value s h b -ℚ s.low b) <ℚ whole (pos 0)
        by true l = not-≤ℚ (whole (pos 0)) (s.high b -ℚ value s h b) (λ m. <ℚ-not-≤ℚ (s.high b) (value s h b) l
            (by_le1 (s.high b ∷ value s h b ∷ []) (at 1) (at 0) pone pnil (at 0 ⊕ pneg (at 1)) NonNeg-one m refl))
        by false l = not-≤ℚ (whole (pos 0)) (value s h b -ℚ s.low b) (λ m. <ℚ-not-≤ℚ (value s h b) (s.low b) l
            (by_le1 (value s h b ∷ s.low b ∷ []) (at 1) (at 0) pone pnil (at 0 ⊕ pneg (at 1)) NonNeg-one m refl))

    module _ (ordered : (w : ℕ) → Contains s.variables w → s.low w ≤ℚ s.high w) where
      at_bound_within : (w : ℕ) → Contains s.variables w → IsWithin s (at_bound s h) w
      unfolding at_bound
      at_bound_within w c = record {
        low = by_answer {P = s.low w ≤ℚ (if h.high w then s.high w else s.low w)} (h.high w)
            (λ e. subst (λ (x : Bool). s.low w ≤ℚ (if x then s.high w else s.low w)) (sym e) (ordered w c))
            (λ e. subst (λ (x : Bool). s.low w ≤ℚ (if x then s.high w else s.low w)) (sym e) (≤ℚ_refl (s.low w)));
        high = by_answer {P = (if h.high w then s.high w else s.low w) ≤ℚ s.high w} (h.high w)
            (λ e. subst (λ (x : Bool). (if x then s.high w else s.low w) ≤ℚ s.high w) (sym e) (≤ℚ_refl (s.high w)))
            (λ e. subst (λ (x : Bool). (if x then s.high w else s.low w) ≤ℚ s.high w) (sym e) (ordered w c));
      }

      bound_within : (a : Bool) (x : Fraction) → x ≡ (if a then s.high b else s.low b) → (s.low b ≤ℚ x) × (x ≤ℚ s.high b)
      bound_within true x e = (subst (λ t. s.low b ≤ℚ t) (sym e) (ordered b (basics_are s h b basic).0), ≤ℚ_of_same x (s.high b) e)
      bound_within false x e = (≤ℚ_of_same (s.low b) x (sym e), subst (λ t. t ≤ℚ s.high b) (sym e) (ordered b (basics_are s h b basic).0))

      -- the corner is within the bounds
      corner_each : (w : ℕ) → Contains s.variables w → (s.low w ≤ℚ corner s h b above w) × (corner s h b above w ≤ℚ s.high w)
      corner_each w c = elim (same_or_not w b) [
        | inl e ↦ subst (λ (x : ℕ). (s.low x ≤ℚ corner s h b above x) × (corner s h b above x ≤ℚ s.high x)) (sym e) (bound_within above (corner s h b above b) (corner-itself s h b b above refl))
        | inr n ↦ by_answer (h.basic w)
            (λ e. let q = corner-basic s h b w above n e in (≤ℚ_of_same (s.low w) (corner s h b above w) (sym q), subst (λ t. t ≤ℚ s.high w) (sym q) (ordered w c)))
            (λ e. let q = corner-other s h b w above n e in let i = at_bound_within w c in (subst (λ t. s.low w ≤ℚ t) (sym q) i.low, subst (λ t. t ≤ℚ s.high w) (sym q) i.high))
      ]

      pub corner_within : InBounds s (corner s h b above)
      corner_within = record { low = λ w c. (corner_each w c).0; high = λ w c. (corner_each w c).1 }

      -- no other variable that has room brings b back
      module _ (at_low : (w : ℕ) → Contains (others s h) w → s.low w <ℚ s.high w → h.high w ≡ false → opposite_if above (h.entry b w) ≤ℚ whole (pos 0))
          (at_high : (w : ℕ) → Contains (others s h) w → s.low w <ℚ s.high w → h.high w ≡ true → whole (pos 0) ≤ℚ opposite_if above (h.entry b w)) where
        idle : (w : ℕ) → Contains (others s h) w → s.low w <ℚ s.high w → ¬ (whole (pos 0) <ℚ opposite_if (h.high w) (opposite_if above (h.entry b w)))
        idle w c free = by_answer {P = ¬ (whole (pos 0) <ℚ opposite_if (h.high w) (opposite_if above (h.entry b w)))} (h.high w)
            (λ e l. <ℚ-not-≤ℚ (whole (pos 0)) (neg_ℚ (opposite_if above (h.entry b w))) (subst (λ (x : Bool). whole (pos 0) <ℚ opposite_if x (opposite_if above (h.entry b w))) e l) (neg_at_most (opposite_if above (h.entry b w)) (at_high w c free e)))
            (λ e l. <ℚ-not-≤ℚ (whole (pos 0)) (opposite_if above (h.entry b w)) (subst (λ (x : Bool). whole (pos 0) <ℚ opposite_if x (opposite_if above (h.entry b w))) e l) (at_low w c free e))

        -- an other variable's term is greatest where it stands
        stands_most : (u : ℕ → Fraction) (w : ℕ) → Contains (others s h) w → InBounds s u → (opposite_if above (h.entry b w) *ℚ u w) ≤ℚ (opposite_if above (h.entry b w) *ℚ at_bound s h w)
        unfolding at_bound
        stands_most u w c within =
            let named : Contains s.variables w = (others_are s h w c).0 in
            elim (≤ℚ-or-<ℚ (s.high w) (s.low w)) [
              | inl closed ↦
                  let one : s.low w ≡ s.high w = ≤ℚ_antisym (s.low w) (s.high w) (ordered w named) closed in
                  let there : u w ≡ s.high w = ≤ℚ_antisym (u w) (s.high w) (within.high w named) (subst (λ t. t ≤ℚ u w) one (within.low w named)) in
                  let stands : (if h.high w then s.high w else s.low w) ≡ s.high w = by_answer {P = (if h.high w then s.high w else s.low w) ≡ s.high w} (h.high w)
                  (λ e. ap (λ (x : Bool). if x then s.high w else s.low w) e)
                  (λ e. ap (λ (x : Bool). if x then s.high w else s.low w) e ∙ one) in
                  ≤ℚ_of_same _ _ (ap (λ t. opposite_if above (h.entry b w) *ℚ t) (there ∙ sym stands))
              | inr free ↦ greatest_at_bound (h.high w) (opposite_if above (h.entry b w)) (s.low w) (s.high w) (u w) (idle w c free) (within.low w named) (within.high w named)
            ]

        turned : (a : Bool) (x : Fraction) → opposite_if (not a) (neg_ℚ x) ≡ opposite_if a x
        turned true x = refl
        turned false x = by_ring ring_ℚ (x ∷ []) (pneg (pneg (at 0))) (at 0) refl

        itself : (a : Bool) (x : Fraction) → s.low b ≤ℚ x → x ≤ℚ s.high b → (opposite_if (not a) (whole (pos 1)) *ℚ x) ≤ℚ (opposite_if (not a) (whole (pos 1)) *ℚ (if a then s.high b else s.low b))
        itself true x low high = by_le1 (x ∷ s.high b ∷ []) (pone ⊗ at 0) (pone ⊗ at 1) pone (at 0) (at 1) NonNeg-one high refl
        itself false x low high = by_le1 (x ∷ s.low b ∷ []) (pneg pone ⊗ at 0) (pneg pone ⊗ at 1) pone (at 1) (at 0) NonNeg-one low refl

        -- each variable's part is at most what it is at the corner
        pub each_most : (u : ℕ → Fraction) → InBounds s u → (w : ℕ) → Contains s.variables w
            → (opposite_if (not above) (multiplier h b w) *ℚ u w) ≤ℚ (opposite_if (not above) (multiplier h b w) *ℚ corner s h b above w)
        each_most u within w c = elim (same_or_not w b) [
          | inl e ↦ subst₂ (λ x y. (opposite_if (not above) x *ℚ u w) ≤ℚ (opposite_if (not above) x *ℚ y)) (sym (multiplier-itself s h b w e)) (sym (corner-itself s h b w above e))
              (subst (λ (x : ℕ). (opposite_if (not above) (whole (pos 1)) *ℚ u x) ≤ℚ (opposite_if (not above) (whole (pos 1)) *ℚ (if above then s.high b else s.low b))) (sym e)
              (itself above (u b) (within.low b (basics_are s h b basic).0) (within.high b (basics_are s h b basic).0)))
          | inr n ↦ by_answer (h.basic w)
              (λ e. subst (λ x. (opposite_if (not above) x *ℚ u w) ≤ℚ (opposite_if (not above) x *ℚ corner s h b above w)) (sym (multiplier-basic s h b w n e))
              (≤ℚ_of_same _ _ (nothing (not above) (u w) ∙ sym (nothing (not above) (corner s h b above w)))))
              (λ e. subst₂ (λ x y. (opposite_if (not above) x *ℚ u w) ≤ℚ (opposite_if (not above) x *ℚ y)) (sym (multiplier-other s h b w n e)) (sym (corner-other s h b w above n e))
              (subst (λ x. (x *ℚ u w) ≤ℚ (x *ℚ at_bound s h w)) (sym (turned above (h.entry b w))) (stands_most u w (is_other s h w c e) within)))
        ]
          where
            nothing : (a : Bool) (x : Fraction) → opposite_if a (whole (pos 0)) *ℚ x ≡ whole (pos 0)
            nothing true x = by_ring ring_ℚ (x ∷ []) (pneg pnil ⊗ at 0) pnil refl
            nothing false x = by_ring ring_ℚ (x ∷ []) (pnil ⊗ at 0) pnil refl

        -- so within the bounds the combination is at most the margin
        pub combined_most : (u : ℕ → Fraction) → InBounds s u → opposite_if (not above) (combined s h b u) ≤ℚ margin s h b above
        unfolding combined
        combined_most u within = subst₂ ◌≤ℚ◌
            (sym (signed-sum (not above) (multiplier h b) u s.variables))
            (sym (signed-sum (not above) (multiplier h b) (corner s h b above) s.variables) ∙ corner_reaches)
            (sum_by-at_most (λ w. opposite_if (not above) (multiplier h b w) *ℚ u w) (λ w. opposite_if (not above) (multiplier h b w) *ℚ corner s h b above w) s.variables (λ w c. each_most u within w c))

        -- and where b violates that bound no point meets the rows
        pub stuck_none : IsChoice s h → Violates s (value s h) above b → HasNoPoint s
        stuck_none choice past = record {
          none = λ v meets within. <ℚ-not-≤ℚ (margin s h b above) (whole (pos 0)) (margin_below past)
              (subst (λ x. x ≤ℚ margin s h b above) (ap (opposite_if (not above)) (combined_vanishes choice v meets) ∙ nil (not above)) (combined_most v within));
        }
          where
            nil : (a : Bool) → opposite_if a (whole (pos 0)) ≡ whole (pos 0)
            nil true = by_ring ring_ℚ [] (pneg pnil) pnil refl
            nil false = refl
