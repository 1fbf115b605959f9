-- A run of steps by least names never comes back to the same basic variables with the others at the same bounds.
-- Source: Bland, New finite pivoting rules for the simplex method (1977); here for the dual method and bounded variables.
use Rattle.std.specs.Prelude.{◌≡◌, ℕ, ◌+◌, ◌-◌, ◌<◌, ◌≤◌, pos, Bool, true, false, [], ◌∷◌, ◌⊎◌, refl}
use Rattle.std.specs.List.{Contains}
use Rattle.std.proofs.Common.{zero, suc, arith, ap, sym, ◌∙◌, subst, subst₂, ⊎_elim}
use Rattle.fraction_theory.specs.Fraction.{Fraction, whole, ◌*ℚ◌}
use Rattle.fraction_theory.specs.Order.{◌≤ℚ◌, ◌<ℚ◌}
use Rattle.fraction_theory.specs.Sums.{sum_by}
use Rattle.fraction_theory.proofs.Ring.{by_ring, at, pnil, ◌⊗◌}
use Rattle.fraction_theory.proofs.FieldLaws.{ring_ℚ}
use Rattle.fraction_theory.proofs.OrderLaws.{≤ℚ_trans, ≤ℚ_of_same, <ℚ-≤ℚ, <ℚ-not-≤ℚ, <ℚ_trans}
use Rattle.fraction_theory.proofs.ListSums.{same_or_not}
use Rattle.linear_system.specs.Systems.{System, objective}
use Rattle.linear_system.specs.Choices.{others, at_bound}
use Rattle.linear_system.proofs.ChoiceLaws.{others_are, is_other, is_basic}
use Rattle.simplex_theory.specs.States.{State, IsPosed, IsWithin, Violates}
use Rattle.simplex_theory.specs.Steps.{opposite_if, IsStep}
use Rattle.simplex_theory.proofs.Signs.{greatest_at_bound, lower_beyond_bound, abs_nil, neg_below}
use Rattle.simplex_theory.proofs.NameSums.{sum_by-below, signed-sum}
use Rattle.simplex_theory.proofs.Stretches.{Stretch, Fickle, fickle_or_not, At, still, Left, left_at, leaving_enters, greatest, by_answer, two_answers}
use Rattle.simplex_theory.proofs.Posing.{step_posed}
use Rattle.simplex_theory.proofs.Falling.{objective_step, prices_stand, same_objective, same_stand, stands_high, stands_low}
use Rattle.fraction_theory.specs.Signs.{abs_ℚ}

module _ (s : System) (p : ℕ → State) (n : ℕ) (leave enter : ℕ → ℕ) (above : ℕ → Bool) (some : 0 < n) (start : IsPosed s (p 0))
    (step : (i : ℕ) → i < n → IsStep s (p i) (p (suc i)) (leave i) (enter i) (above i))
    (back : (w : ℕ) → Contains s.variables w → (p 0).choice.basic w ≡ (p n).choice.basic w)
    (back_high : (w : ℕ) → Contains s.variables w → (p 0).choice.basic w ≡ false → (p 0).choice.high w ≡ (p n).choice.high w) where
  posed : (i : ℕ) → i ≤ n → IsPosed s (p i)
  posed zero h = start
  posed (suc i) h = step_posed s (p i) (p (suc i)) (leave i) (enter i) (above i) (posed i (Prim.omega arith)) (step i (Prim.omega arith))

  -- the run as exchanges
  stretch : Stretch
  stretch = record {
    names = s.variables;
    steps = n;
    basic = λ i. (p i).choice.basic;
    high = λ i. (p i).choice.high;
    leave = leave;
    enter = enter;
    some = some;
    leave_named = λ i h. (step i h).exchanged.exchange.leaving;
    enter_named = λ i h. (step i h).exchanged.exchange.entering;
    leaves = λ i h. (step i h).exchanged.exchange.leaves;
    enters = λ i h. (step i h).exchanged.exchange.enters;
    stays = λ i w h c nl ne. sym ((step i h).exchanged.exchange.stays w c (λ e. nl (sym e)) (λ e. ne (sym e)));
    stays_high = λ i w h c b ne. (step i h).exchanged.flags w (is_other s (p i).choice w c b) (λ e. ne (sym e));
    back = back;
    back_high = back_high;
  }

  worth : ℕ → Fraction
  worth i = objective s (p i).value

  one_step : (i : ℕ) → i < n → (((p i).reduced (enter i) ≡ whole (pos 0)) × (worth (suc i) ≡ worth i)) ⊎ (worth (suc i) <ℚ worth i)
  unfolding worth
  one_step i h = objective_step s (p i) (p (suc i)) (leave i) (enter i) (above i) (posed i (Prim.omega arith)) (step i h)

  down : (i d : ℕ) → i + d ≤ n → worth (i + d) ≤ℚ worth i
  down i zero h = ≤ℚ_of_same (worth (i + 0)) (worth i) (ap worth (Prim.omega arith))
  down i (suc d) h =
      let before : worth (i + d) ≤ℚ worth i = down i d (Prim.omega arith) in
      let last : worth (suc (i + d)) ≤ℚ worth (i + d) = ⊎_elim (λ e. ≤ℚ_of_same (worth (suc (i + d))) (worth (i + d)) e.1) (λ l. <ℚ-≤ℚ (worth (suc (i + d))) (worth (i + d)) l) (one_step (i + d) (Prim.omega arith)) in
      subst (λ (j : ℕ). worth j ≤ℚ worth i) (let t : suc (i + d) ≡ i + suc d = Prim.omega arith in t) (≤ℚ_trans (worth (suc (i + d))) (worth (i + d)) (worth i) last before)

  -- the objective comes back, so it stands throughout: what enters has the reduced price 0
  flat : (i : ℕ) → i < n → (p i).reduced (enter i) ≡ whole (pos 0)
  unfolding worth
  flat i h = ⊎_elim (λ e. e.0)
      (λ l.
      let rest : worth n ≤ℚ worth (suc i) = subst (λ (j : ℕ). worth j ≤ℚ worth (suc i)) (let t : suc i + (n - suc i) ≡ n = Prim.omega arith in t) (down (suc i) (n - suc i) (Prim.omega arith)) in
      let first : worth i ≤ℚ worth 0 = subst (λ (j : ℕ). worth j ≤ℚ worth 0) (let t : 0 + i ≡ i = Prim.omega arith in t) (down 0 i (Prim.omega arith)) in
      let ends : worth 0 ≡ worth n = same_objective s (p 0) (p n) start (posed n (Prim.omega arith)) back back_high in
      absurd (<ℚ-not-≤ℚ (worth (suc i)) (worth i) l (≤ℚ_trans (worth i) (worth 0) (worth (suc i)) first (subst (λ t. t ≤ℚ worth (suc i)) (sym ends) rest))))
      (one_step i h)

  prices_kept : (w i : ℕ) → Contains s.variables w → i ≤ n → (p i).reduced w ≡ (p 0).reduced w
  prices_kept w zero c h = refl
  prices_kept w (suc i) c h =
      prices_stand s (p i) (p (suc i)) (leave i) (enter i) (above i) (posed i (Prim.omega arith)) (step i (Prim.omega arith)) (flat i (Prim.omega arith)) w c
      ∙ prices_kept w i c (Prim.omega arith)

  -- what enters in the stretch has the reduced price 0 throughout, and bounds that differ
  fickle_nil : (w i : ℕ) → Fickle stretch w → i ≤ n → (p i).reduced w ≡ whole (pos 0)
  unfolding Fickle stretch
  fickle_nil w i a h =
      let c : Contains s.variables w = subst (λ (t : ℕ). Contains s.variables t) a.2 (step a.0 a.1).exchanged.exchange.entering in
      prices_kept w i c h ∙ sym (prices_kept w a.0 c (Prim.omega (arith, a.1))) ∙ ap (p a.0).reduced (sym a.2) ∙ flat a.0 a.1

  fickle_free : (w : ℕ) → Fickle stretch w → s.low w <ℚ s.high w
  unfolding Fickle stretch
  fickle_free w a = subst (λ (t : ℕ). s.low t <ℚ s.high t) a.2 (step a.0 a.1).enters.helps.free

  -- at step i each variable with a smaller name than the leaving one is within its bounds
  inside : (i w : ℕ) → i < n → Contains s.variables w → w < leave i → IsWithin s (p i).value w
  inside i w h c l =
      let q = posed i (Prim.omega arith) in
      by_answer ((p i).choice.basic w)
      (λ b. (step i h).leaves.least w (is_basic s (p i).choice w c b) l)
      (λ b. let o = is_other s (p i).choice w c b in
      by_answer ((p i).choice.high w)
      (λ f. let e = stands_high s (p i) q w o f in record {
        low = subst (λ t. s.low w ≤ℚ t) (sym e) (q.bounds w c);
        high = ≤ℚ_of_same ((p i).value w) (s.high w) e;
      })
      (λ f. let e = stands_low s (p i) q w o f in record {
        low = ≤ℚ_of_same (s.low w) ((p i).value w) (sym e);
        high = subst (λ t. t ≤ℚ s.high w) (sym e) (q.bounds w c);
      }))

  -- the row of what leaves at step j, turned by the side on which it violates its bounds
  turned_row : ℕ → ℕ → Fraction
  turned_row j w = opposite_if (above j) ((p j).choice.entry (leave j) w)

  -- a variable that enters in the stretch, before what enters at step j and what leaves at step i: it doesn't help at step j
  small_term : (i j w : ℕ) → i < n → j < n → Contains (others s (p j).choice) w → Fickle stretch w → w < leave i → w < enter j → (turned_row j w *ℚ (p i).value w) ≤ℚ (turned_row j w *ℚ (p j).value w)
  unfolding turned_row at_bound
  small_term i j w hi hj c a before smaller =
      let S = p j in
      let k = enter j in
      let v = leave j in
      let within = inside i w hi (others_are s S.choice w c).0 before in
      let tie : abs_ℚ (S.reduced k) *ℚ abs_ℚ (S.choice.entry v w) ≡ abs_ℚ (S.reduced w) *ℚ abs_ℚ (S.choice.entry v k) =
      ap (λ t. abs_ℚ t *ℚ abs_ℚ (S.choice.entry v w)) (flat j hj) ∙ ap (λ t. t *ℚ abs_ℚ (S.choice.entry v w)) abs_nil
      ∙ by_ring ring_ℚ (abs_ℚ (S.choice.entry v w) ∷ abs_ℚ (S.choice.entry v k) ∷ []) (pnil ⊗ at 0) (pnil ⊗ at 1) refl
      ∙ ap (λ t. t *ℚ abs_ℚ (S.choice.entry v k)) (sym abs_nil) ∙ ap (λ t. abs_ℚ t *ℚ abs_ℚ (S.choice.entry v k)) (sym (fickle_nil w j a (Prim.omega arith))) in
      let idle : ¬ (whole (pos 0) <ℚ opposite_if (S.choice.high w) (turned_row j w)) = λ towards.
      absurd (Prim.omega (arith, (step j hj).enters.least w (record { other = c; free = fickle_free w a; towards = towards }) tie)) in
      subst (λ t. (turned_row j w *ℚ (p i).value w) ≤ℚ (turned_row j w *ℚ t)) (sym ((posed j (Prim.omega arith)).stands w c))
      (greatest_at_bound (S.choice.high w) (turned_row j w) (s.low w) (s.high w) ((p i).value w) idle within.low within.high)

  past_by : (i : ℕ) (w : ℕ) (f : Bool) → Violates s (p i).value f w → ((f ≡ true → s.high w <ℚ (p i).value w) × (f ≡ false → (p i).value w <ℚ s.low w))
  past_by i w true l = (λ e. l, λ e. absurd (let wrong : true ≡ false = e in Prim.cc))
  past_by i w false l = (λ e. absurd (let wrong : true ≡ false = sym e in Prim.cc), λ e. l)

  -- what enters at step j, and leaves at step i for the bound from which it entered
  great_term : (i j : ℕ) → i < n → j < n → leave i ≡ enter j → above i ≡ (p j).choice.high (enter j) → (turned_row j (enter j) *ℚ (p i).value (enter j)) <ℚ (turned_row j (enter j) *ℚ (p j).value (enter j))
  unfolding turned_row at_bound
  great_term i j hi hj e f =
      let S = p j in
      let z = enter j in
      let helps = (step j hj).enters.helps in
      let past : Violates s (p i).value (S.choice.high z) z = subst₂ (λ (b : Bool) (w : ℕ). Violates s (p i).value b w) f e (step i hi).leaves.violates in
      let by = past_by i z (S.choice.high z) past in
      subst (λ t. (turned_row j z *ℚ (p i).value z) <ℚ (turned_row j z *ℚ t)) (sym ((posed j (Prim.omega arith)).stands z helps.other))
      (lower_beyond_bound (S.choice.high z) (turned_row j z) (s.low z) (s.high z) ((p i).value z) helps.towards by.0 by.1)

  -- what leaves at step j, at the values of step i and of step j, by its turned row
  row_at : (i j : ℕ) (hi : i ≤ n) (hj : j < n) → opposite_if (above j) ((p i).value (leave j)) ≡ sum_by (λ w. turned_row j w *ℚ (p i).value w) (others s (p j).choice)
  unfolding turned_row
  row_at i j hi hj =
      ap (opposite_if (above j)) (((posed j (Prim.omega arith)).choice.to_table (p i).value (posed i hi).meets).basic (leave j) (step j hj).leaves.basic)
      ∙ signed-sum (above j) ((p j).choice.entry (leave j)) (p i).value (others s (p j).choice)

  outside_no_further : (a : Bool) (v : ℕ) (x y : ℕ → Fraction) → opposite_if a (x v) <ℚ opposite_if a (y v) → Violates s y a v → IsWithin s x v → ⊥
  outside_no_further true v x y l past within = <ℚ-not-≤ℚ (s.high v) (x v) (<ℚ_trans (s.high v) (y v) (x v) past (neg_below (x v) (y v) l)) within.high
  outside_no_further false v x y l past within = <ℚ-not-≤ℚ (x v) (s.low v) (<ℚ_trans (x v) (y v) (s.low v) l past) within.low

  -- No run of steps comes back to the same basic variables with the others at the same bounds.
  pub never_back : ⊥
  unfolding Left Fickle At stretch
  never_back =
      let g = greatest stretch in
      let j = g.0 in
      let hj = g.1 in
      let z = enter j in
      let v = leave j in
      let S = p j in
      let l = left_at stretch j hj in
      let i = l.0 in
      let hi : i < n = l.1 in
      let leaves : leave i ≡ z = l.2 in
      let flag : above i ≡ S.choice.high z = sym (step i hi).exchanged.flag ∙ ap (p (suc i)).choice.high leaves ∙ l.3 in
      let fv : Fickle stretch v = leaving_enters stretch j hj in
      let apart : v ≡ z → ⊥ = λ e. two_answers (S.choice.basic v) (step j hj).exchanged.exchange.leaves.0 (ap S.choice.basic e ∙ (step j hj).exchanged.exchange.enters.0) in
      let smaller : v < z = let t : v ≤ z = g.2 v fv in Prim.omega arith in
      let each : (w : ℕ) → Contains (others s S.choice) w → (turned_row j w *ℚ (p i).value w) ≤ℚ (turned_row j w *ℚ S.value w) = λ w c.
      let a = others_are s S.choice w c in
      ⊎_elim
      (λ fickle. ⊎_elim
      (λ e. subst (λ (t : ℕ). (turned_row j t *ℚ (p i).value t) ≤ℚ (turned_row j t *ℚ S.value t)) (sym e) (<ℚ-≤ℚ (turned_row j z *ℚ (p i).value z) (turned_row j z *ℚ S.value z) (great_term i j hi hj leaves flag)))
      (λ ne. let le : w ≤ z = g.2 w fickle in let lt : w < z = Prim.omega arith in
      small_term i j w hi hj c fickle (subst (λ (t : ℕ). w < t) (sym leaves) lt) lt)
      (same_or_not w z))
      (λ never.
      let there : At stretch i w (S.choice.high w) = still stretch w (S.choice.high w) a.0 never j i (Prim.omega arith) (Prim.omega arith) (a.1, refl) in
      let same : (p i).value w ≡ S.value w = same_stand s (p i) S (posed i (Prim.omega arith)) (posed j (Prim.omega arith)) w (is_other s (p i).choice w a.0 there.0) c there.1 in
      ≤ℚ_of_same (turned_row j w *ℚ (p i).value w) (turned_row j w *ℚ S.value w) (ap (λ t. turned_row j w *ℚ t) same))
      (fickle_or_not stretch w) in
      let lower : opposite_if (above j) ((p i).value v) <ℚ opposite_if (above j) (S.value v) = subst₂ ◌<ℚ◌ (sym (row_at i j (Prim.omega arith) hj)) (sym (row_at j j (Prim.omega arith) hj))
      (sum_by-below (λ w. turned_row j w *ℚ (p i).value w) (λ w. turned_row j w *ℚ S.value w) (others s S.choice) z (step j hj).enters.helps.other each (great_term i j hi hj leaves flag)) in
      outside_no_further (above j) v (p i).value S.value lower (step j hj).leaves.violates (inside i v hi (step j hj).exchanged.exchange.leaving (subst (λ (t : ℕ). v < t) (sym leaves) smaller))
