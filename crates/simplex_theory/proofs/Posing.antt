-- A step keeps a state posed.
use Rattle.std.specs.Prelude.{◌≡◌, ◌≢◌, ℕ, pos, Bool, [], ◌∷◌, if◌then◌else◌, refl}
use Rattle.std.specs.List.{Contains}
use Rattle.std.proofs.Common.{ap, sym, ◌∙◌, subst, subst₂, inl, inr}
use mathlib.Core.Path.{ap₂}
use Rattle.fraction_theory.specs.Fraction.{Fraction, whole, ◌+ℚ◌, ◌-ℚ◌, ◌*ℚ◌, neg_ℚ}
use Rattle.fraction_theory.specs.Order.{◌≤ℚ◌, ◌<ℚ◌}
use Rattle.fraction_theory.specs.Sums.{sum_by}
use Rattle.fraction_theory.proofs.Ring.{by_ring, by_ring1, by_ring2, at, pnil, pone, pneg, ◌⊕◌, ◌⊗◌}
use Rattle.fraction_theory.proofs.FieldLaws.{ring_ℚ}
use Rattle.fraction_theory.proofs.SumLaws.{sum_by-plus, sum_by-times}
use Rattle.fraction_theory.proofs.ListSums.{Distinct, Distinct-increasing, same_or_not, sum_by-members, sum_by-split, sum_by-absent, sum_by-within, except, put_at-here, put_at-elsewhere}
use Rattle.fraction_theory.proofs.OrderLaws.{≤ℚ-or-<ℚ, <ℚ-≤ℚ, by_le1, by_le2, NonNeg-one, *ℚ-≤ℚ_cancel}
use Rattle.linear_system.specs.Systems.{System, MeetsRows, objective}
use Rattle.linear_system.specs.Choices.{basics, others, OneExchange, at_bound}
use Rattle.linear_system.proofs.ChoiceLaws.{others_are, is_other, is_basic, others_distinct}
use Rattle.simplex_theory.specs.States.{State, IsPosed}
use Rattle.simplex_theory.specs.Steps.{opposite_if, Helps, IsStep, violated_bound, displacement}
use Rattle.simplex_theory.proofs.Signs.{nonpositive, neg_at_most, neg_at_least, signed-both, times-signed, signed-minus, abs_signed, abs_above, abs_below}
use Rattle.simplex_theory.proofs.NameSums.{sum_by-change}
use Rattle.simplex_theory.proofs.Stretches.{by_answer}
use Rattle.simplex_theory.proofs.Exchanges.{leaving_basic, leaving_other, entering_other, entering_basic, other_not_entering, other_before, basic_before, pivot_inverse, pivot_row}
use Rattle.fraction_theory.specs.Signs.{abs_ℚ}

-- The new reduced price of a variable whose own one is d, by its bound: with x that of the entering variable's entry, y that of the variable's, and t how much the price rises against y.
ratio_keeps : (t x y d : Fraction) → whole (pos 0) <ℚ x → t ≤ℚ whole (pos 0) → d ≤ℚ whole (pos 0) → (whole (pos 0) <ℚ y → (neg_ℚ (t *ℚ x) *ℚ y) ≤ℚ (neg_ℚ d *ℚ x)) → (d -ℚ t *ℚ y) ≤ℚ whole (pos 0)
ratio_keeps t x y d hx ht hd ratio = elim (≤ℚ-or-<ℚ y (whole (pos 0))) [
  | inl low ↦ by_le2 (t ∷ y ∷ d ∷ []) (at 2 ⊕ pneg (at 0 ⊗ at 1)) pnil pone (at 2) pnil (pneg (at 0)) (at 1) pnil NonNeg-one hd (nonpositive t ht) low refl
  | inr high ↦ *ℚ-≤ℚ_cancel x (d -ℚ t *ℚ y) (whole (pos 0)) hx
      (by_le1 (t ∷ x ∷ y ∷ d ∷ []) (at 1 ⊗ (at 3 ⊕ pneg (at 0 ⊗ at 2))) (at 1 ⊗ pnil) pone (pneg (at 0 ⊗ at 1) ⊗ at 2) (pneg (at 3) ⊗ at 1) NonNeg-one (ratio high) refl)
]

-- An other variable's reduced price, by the bound at which it stands, is at most 0.
pub price_sign : (s : System) (S : State) → IsPosed s S → (w : ℕ) → Contains (others s S.choice) w → s.low w <ℚ s.high w → opposite_if (S.choice.high w) (S.reduced w) ≤ℚ whole (pos 0)
price_sign s S posed w c free = by_answer (S.choice.high w)
    (λ e. subst (λ (f : Bool). opposite_if f (S.reduced w) ≤ℚ whole (pos 0)) (sym e) (neg_at_most (S.reduced w) (posed.high_price w c free e)))
    (λ e. subst (λ (f : Bool). opposite_if f (S.reduced w) ≤ℚ whole (pos 0)) (sym e) (posed.low_price w c free e))

module _ (s : System) (S T : State) (v k : ℕ) (above : Bool) (posed : IsPosed s S) (step : IsStep s S T v k above) where
  pub exchange : OneExchange s S.choice T.choice v k
  exchange = step.exchanged.exchange

  pub distinct : Distinct s.variables
  distinct = Distinct-increasing s.variables posed.system.ascending

  -- the entries of the leaving and the entering variable, before and after
  pub inverse : S.choice.entry v k *ℚ T.choice.entry k v ≡ whole (pos 1)
  inverse = pivot_inverse s S.choice T.choice v k exchange distinct posed.choice step.exchanged.choice

  -- the new point is one of the new table
  pub step_meets : MeetsRows s T.value
  unfolding displacement
  step_meets = step.exchanged.choice.to_rows T.value (record {
    basic = λ b c.
        let e = T.choice.entry b in
        let new : ℕ → Fraction = λ w. e w *ℚ T.value w in
        let old : ℕ → Fraction = λ w. e w *ℚ S.value w in
        let sums : sum_by new (others s T.choice) +ℚ old v ≡ sum_by old (others s T.choice) +ℚ new v = sum_by-change new old v (others s T.choice) (others_distinct s T.choice distinct) (leaving_other s S.choice T.choice v k exchange)
        (λ w d n. ap (λ t. e w *ℚ t) (step.moved.stay w d n)) in
        let before : S.value b ≡ sum_by old (others s T.choice) = (step.exchanged.choice.to_table S.value posed.meets).basic b c in
        step.moved.basic b c
        ∙ ap (λ t. t +ℚ e v *ℚ (violated_bound s v above -ℚ S.value v)) before
        ∙ by_ring1 ring_ℚ (sum_by new (others s T.choice) ∷ sum_by old (others s T.choice) ∷ e v ∷ S.value v ∷ violated_bound s v above ∷ [])
        (at 1 ⊕ at 2 ⊗ (at 4 ⊕ pneg (at 3))) (at 0) (pneg pone) (at 0 ⊕ at 2 ⊗ at 3) (at 1 ⊕ at 2 ⊗ at 4)
        (sums ∙ ap (λ t. sum_by old (others s T.choice) +ℚ e v *ℚ t) step.moved.leaving) refl;
  })

  step_stands : (w : ℕ) → Contains (others s T.choice) w → T.value w ≡ at_bound s T.choice w
  unfolding at_bound violated_bound
  step_stands w c = elim (same_or_not w v) [
    | inl e ↦ ap T.value e ∙ step.moved.leaving ∙ ap (λ (f : Bool). if f then s.high v else s.low v) (sym step.exchanged.flag) ∙ ap (λ u. if T.choice.high u then s.high u else s.low u) (sym e)
    | inr n ↦
        let before = other_before s S.choice T.choice v k exchange w c n in
        step.moved.stay w c n ∙ posed.stands w before
        ∙ ap (λ (f : Bool). if f then s.high w else s.low w) (sym (step.exchanged.flags w before (other_not_entering s S.choice T.choice v k exchange w c)))
  ]

  -- a sum over the old others of what is 0 at the old basic variables, by the new ones
  sum_over_new : (f : ℕ → Fraction) → ((b : ℕ) → Contains (basics s S.choice) b → f b ≡ whole (pos 0)) → sum_by f (others s S.choice) ≡ f k +ℚ sum_by f (others s T.choice)
  sum_over_new f none =
      let e : ℕ → Fraction = except k f in
      let nil : (w : ℕ) → f w ≡ whole (pos 0) → e w ≡ whole (pos 0) = λ w z. elim (same_or_not w k) [ inl q ↦ put_at-here k (whole (pos 0)) f w q | inr q ↦ put_at-elsewhere k (whole (pos 0)) f w q ∙ z ] in
      let old : sum_by e (others s S.choice) ≡ sum_by e s.variables = sum_by-within e (others s S.choice) s.variables (others_distinct s S.choice distinct) distinct
      (λ w c. (others_are s S.choice w c).0)
      (λ w c. by_answer (S.choice.basic w) (λ b. inr (nil w (none w (is_basic s S.choice w c b)))) (λ b. inl (is_other s S.choice w c b))) in
      let new : sum_by e (others s T.choice) ≡ sum_by e s.variables = sum_by-within e (others s T.choice) s.variables (others_distinct s T.choice distinct) distinct
      (λ w c. (others_are s T.choice w c).0)
      (λ w c. by_answer (T.choice.basic w)
      (λ b. inr (elim (same_or_not w k) [
        | inl q ↦ put_at-here k (whole (pos 0)) f w q
        | inr q ↦ nil w (none w (basic_before s S.choice T.choice v k exchange w (is_basic s T.choice w c b) q))
      ]))
      (λ b. inl (is_other s T.choice w c b))) in
      sum_by-split f k (others s S.choice) (others_distinct s S.choice distinct) (entering_other s S.choice T.choice v k exchange)
      ∙ ap (λ t. f k +ℚ t) (old ∙ sym new ∙ sum_by-absent f k (whole (pos 0)) (others s T.choice) (λ c. other_not_entering s S.choice T.choice v k exchange k c refl))

  -- the objective by the new reduced prices
  step_prices : (u : ℕ → Fraction) → MeetsRows s u → objective s u ≡ sum_by (λ w. T.reduced w *ℚ u w) (others s T.choice)
  step_prices u m =
      let d = S.reduced k in
      let f : ℕ → Fraction = λ w. S.reduced w *ℚ u w in
      let row : ℕ → Fraction = λ w. T.choice.entry k w *ℚ u w in
      let none : (b : ℕ) → Contains (basics s S.choice) b → f b ≡ whole (pos 0) = λ b c. ap (λ t. t *ℚ u b) (posed.unpriced b c) ∙ by_ring ring_ℚ (u b ∷ []) (pnil ⊗ at 0) pnil refl in
      let entering : u k ≡ sum_by row (others s T.choice) = (step.exchanged.choice.to_table u m).basic k (entering_basic s S.choice T.choice v k exchange) in
      posed.prices u m ∙ sum_over_new f none
      ∙ ring_ℚ.plus_comm (d *ℚ u k) (sum_by f (others s T.choice))
      ∙ ap (λ t. sum_by f (others s T.choice) +ℚ t) (ap (λ t. d *ℚ t) entering ∙ sym (sum_by-times d row (others s T.choice)))
      ∙ sym (sum_by-plus f (λ w. d *ℚ row w) (others s T.choice))
      ∙ sum_by-members (λ w. f w +ℚ d *ℚ row w) (λ w. T.reduced w *ℚ u w) (others s T.choice)
      (λ w c. by_ring ring_ℚ (S.reduced w ∷ d ∷ T.choice.entry k w ∷ u w ∷ []) (at 0 ⊗ at 3 ⊕ at 1 ⊗ (at 2 ⊗ at 3)) ((at 0 ⊕ at 1 ⊗ at 2) ⊗ at 3) refl
      ∙ ap (λ t. t *ℚ u w) (sym (step.moved.priced w c)))

  -- how much a reduced price rises against the row of v, turned where v is above its bounds
  rise : Fraction
  rise = opposite_if above (S.reduced k *ℚ T.choice.entry k v)

  -- the entering variable's entry, by its bound and the side of v
  unfoldable pub help : Fraction
  help = opposite_if (S.choice.high k) (opposite_if above (S.choice.entry v k))

  rise_by_help : rise *ℚ help ≡ opposite_if (S.choice.high k) (S.reduced k)
  unfolding rise help
  rise_by_help =
      let d = S.reduced k in
      let i = T.choice.entry k v in
      let p = S.choice.entry v k in
      times-signed (S.choice.high k) (opposite_if above (d *ℚ i)) (opposite_if above p)
      ∙ ap (opposite_if (S.choice.high k)) (signed-both above (d *ℚ i) p ∙ by_ring1 ring_ℚ (d ∷ i ∷ p ∷ []) (at 0 ⊗ at 1 ⊗ at 2) (at 0) (at 0) (at 2 ⊗ at 1) pone inverse refl)

  rise_sign : rise ≤ℚ whole (pos 0)
  unfolding help
  rise_sign =
      *ℚ-≤ℚ_cancel help rise (whole (pos 0)) step.enters.helps.towards
      (subst₂ ◌≤ℚ◌ (sym rise_by_help ∙ ring_ℚ.times_comm rise help) (by_ring ring_ℚ (help ∷ []) pnil (at 0 ⊗ pnil) refl)
      (price_sign s S posed k step.enters.helps.other step.enters.helps.free))

  leaving_sign : opposite_if (T.choice.high v) (T.reduced v) ≤ℚ whole (pos 0)
  unfolding rise
  leaving_sign =
      let price : T.reduced v ≡ S.reduced k *ℚ T.choice.entry k v =
      step.moved.priced v (leaving_other s S.choice T.choice v k exchange)
      ∙ ap (λ t. t +ℚ S.reduced k *ℚ T.choice.entry k v) (posed.unpriced v (leaving_basic s S.choice T.choice v k exchange))
      ∙ by_ring ring_ℚ (S.reduced k ∷ T.choice.entry k v ∷ []) (pnil ⊕ at 0 ⊗ at 1) (at 0 ⊗ at 1) refl in
      subst (λ (f : Bool). opposite_if f (T.reduced v) ≤ℚ whole (pos 0)) (sym step.exchanged.flag) (subst (λ t. opposite_if above t ≤ℚ whole (pos 0)) (sym price) rise_sign)

  -- the ratio test, for a variable that helps
  ratio_of : (w : ℕ) → Helps s S v above w → (neg_ℚ (rise *ℚ help) *ℚ opposite_if (S.choice.high w) (opposite_if above (S.choice.entry v w))) ≤ℚ (neg_ℚ (opposite_if (S.choice.high w) (S.reduced w)) *ℚ help)
  unfolding help
  ratio_of w helps =
      let f = S.choice.high w in
      let g = S.choice.high k in
      let e = opposite_if f (opposite_if above (S.choice.entry v w)) in
      let kept : abs_ℚ (S.choice.entry v w) ≡ e = sym (abs_signed above (S.choice.entry v w)) ∙ sym (abs_signed f (opposite_if above (S.choice.entry v w))) ∙ abs_above e (<ℚ-≤ℚ (whole (pos 0)) e helps.towards) in
      let kept_k : abs_ℚ (S.choice.entry v k) ≡ help = sym (abs_signed above (S.choice.entry v k)) ∙ sym (abs_signed g (opposite_if above (S.choice.entry v k))) ∙ abs_above help (<ℚ-≤ℚ (whole (pos 0)) help step.enters.helps.towards) in
      let price : abs_ℚ (S.reduced w) ≡ neg_ℚ (opposite_if f (S.reduced w)) = sym (abs_signed f (S.reduced w)) ∙ abs_below (opposite_if f (S.reduced w)) (price_sign s S posed w helps.other helps.free) in
      let price_k : abs_ℚ (S.reduced k) ≡ neg_ℚ (rise *ℚ help) = sym (abs_signed g (S.reduced k)) ∙ abs_below (opposite_if g (S.reduced k)) (price_sign s S posed k step.enters.helps.other step.enters.helps.free) ∙ ap neg_ℚ (sym rise_by_help) in
      subst₂ ◌≤ℚ◌ (ap₂ ◌*ℚ◌ price_k kept) (ap₂ ◌*ℚ◌ price kept_k) (step.enters.ratio w helps)

  staying_sign : (w : ℕ) → Contains (others s T.choice) w → w ≢ v → s.low w <ℚ s.high w → opposite_if (T.choice.high w) (T.reduced w) ≤ℚ whole (pos 0)
  unfolding rise help
  staying_sign w c n free =
      let f = S.choice.high w in
      let d = S.reduced k in
      let i = T.choice.entry k v in
      let e = S.choice.entry v w in
      let y = opposite_if f (opposite_if above e) in
      let before = other_before s S.choice T.choice v k exchange w c n in
      let row : T.choice.entry k w ≡ neg_ℚ e *ℚ i =
      by_ring2 ring_ℚ (T.choice.entry k w ∷ S.choice.entry v k ∷ i ∷ e ∷ []) (at 0) (pneg (at 3) ⊗ at 2)
      (pneg (at 0)) (at 1 ⊗ at 2) pone (at 2) (at 3 ⊕ at 1 ⊗ at 0) pnil
      inverse (pivot_row s S.choice T.choice v k exchange distinct posed.choice step.exchanged.choice w c n) refl in
      let price : T.reduced w ≡ S.reduced w -ℚ (d *ℚ i) *ℚ e =
      step.moved.priced w c ∙ ap (λ t. S.reduced w +ℚ d *ℚ t) row
      ∙ by_ring ring_ℚ (S.reduced w ∷ d ∷ i ∷ e ∷ []) (at 0 ⊕ at 1 ⊗ (pneg (at 3) ⊗ at 2)) (at 0 ⊕ pneg (at 1 ⊗ at 2 ⊗ at 3)) refl in
      let product : rise *ℚ y ≡ opposite_if f ((d *ℚ i) *ℚ e) = times-signed f (opposite_if above (d *ℚ i)) (opposite_if above e) ∙ ap (opposite_if f) (signed-both above (d *ℚ i) e) in
      let turned : opposite_if f (T.reduced w) ≡ opposite_if f (S.reduced w) -ℚ rise *ℚ y =
      ap (opposite_if f) price ∙ signed-minus f (S.reduced w) ((d *ℚ i) *ℚ e) ∙ ap (λ t. opposite_if f (S.reduced w) -ℚ t) (sym product) in
      let flag : T.choice.high w ≡ f = step.exchanged.flags w before (other_not_entering s S.choice T.choice v k exchange w c) in
      subst (λ (b : Bool). opposite_if b (T.reduced w) ≤ℚ whole (pos 0)) (sym flag) (subst (λ t. t ≤ℚ whole (pos 0)) (sym turned)
      (ratio_keeps rise help y (opposite_if f (S.reduced w)) step.enters.helps.towards rise_sign (price_sign s S posed w before free)
      (λ towards. ratio_of w (record { other = before; free = free; towards = towards }))))

  new_sign : (w : ℕ) → Contains (others s T.choice) w → s.low w <ℚ s.high w → opposite_if (T.choice.high w) (T.reduced w) ≤ℚ whole (pos 0)
  new_sign w c free = elim (same_or_not w v) [
    | inl e ↦ subst (λ (u : ℕ). opposite_if (T.choice.high u) (T.reduced u) ≤ℚ whole (pos 0)) (sym e) leaving_sign
    | inr n ↦ staying_sign w c n free
  ]

  -- a step keeps a state posed
  pub step_posed : IsPosed s T
  step_posed = record {
    system = posed.system;
    bounds = posed.bounds;
    choice = step.exchanged.choice;
    stands = step_stands;
    meets = step_meets;
    prices = step_prices;
    unpriced = step.moved.unpriced;
    low_price = λ w c free e. subst (λ (f : Bool). opposite_if f (T.reduced w) ≤ℚ whole (pos 0)) e (new_sign w c free);
    high_price = λ w c free e. neg_at_least (T.reduced w) (subst (λ (f : Bool). opposite_if f (T.reduced w) ≤ℚ whole (pos 0)) e (new_sign w c free));
  }
