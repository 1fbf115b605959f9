-- A stretch of exchanges that comes back to where it began: what enters in it leaves in it.
use Rattle.std.specs.Prelude.{◌≡◌, ℕ, ◌+◌, ◌-◌, ◌<◌, ◌≤◌, ◌⊎◌, Bool, true, false, List, refl}
use Rattle.std.specs.List.{Contains}
use Rattle.std.proofs.Common.{zero, suc, arith, ap, sym, ◌∙◌, subst, ⊎_elim, inl, inr}
use Rattle.std.proofs.lemmas.Bool.{cases_lt}
use Rattle.fraction_theory.proofs.ListSums.{same_or_not}

-- no test has two answers
pub two_answers : {P : Type 0} (b : Bool) → b ≡ true → b ≡ false → P
two_answers b s t = let e : true ≡ false = sym s ∙ t in absurd Prim.cc

-- by the answer of a test
pub by_answer : {P : Type 0} (b : Bool) → (b ≡ true → P) → (b ≡ false → P) → P
by_answer true f g = f refl
by_answer false f g = g refl

-- Exchanges, one a step, after which the same variables are basic as before, and the others stand at the same bounds: which variables are basic after how many steps, and which of the others at the high bound
pub record Stretch : Type 0 where
  pub names : List ℕ
  pub steps : ℕ
  pub basic : ℕ → ℕ → Bool
  pub high : ℕ → ℕ → Bool
  pub leave : ℕ → ℕ
  pub enter : ℕ → ℕ
  pub some : 0 < steps
  pub leave_named : (i : ℕ) → i < steps → Contains names (leave i)
  pub enter_named : (i : ℕ) → i < steps → Contains names (enter i)
  pub leaves : (i : ℕ) → i < steps → (basic i (leave i) ≡ true) × (basic (suc i) (leave i) ≡ false)
  pub enters : (i : ℕ) → i < steps → (basic i (enter i) ≡ false) × (basic (suc i) (enter i) ≡ true)
  pub stays : (i w : ℕ) → i < steps → Contains names w → (leave i ≡ w → ⊥) → (enter i ≡ w → ⊥) → basic (suc i) w ≡ basic i w
  pub stays_high : (i w : ℕ) → i < steps → Contains names w → basic i w ≡ false → (enter i ≡ w → ⊥) → high (suc i) w ≡ high i w
  pub back : (w : ℕ) → Contains names w → basic 0 w ≡ basic steps w
  pub back_high : (w : ℕ) → Contains names w → basic 0 w ≡ false → high 0 w ≡ high steps w

module _ (r : Stretch) where
  -- w enters in the stretch
  unfoldable pub Fickle : ℕ → Type 0
  Fickle w = (k : ℕ) × (k < r.steps) × (r.enter k ≡ w)

  -- w is no basic variable after i steps, and stands at the high bound where f says so
  unfoldable pub At : ℕ → ℕ → Bool → Type 0
  At i w f = (r.basic i w ≡ false) × (r.high i w ≡ f)

  -- w leaves in the stretch, for the high bound where f says so
  unfoldable pub Left : ℕ → Bool → Type 0
  Left w f = (i : ℕ) × (i < r.steps) × (r.leave i ≡ w) × (r.high (suc i) w ≡ f)

  fickle_below : (n w : ℕ) → n ≤ r.steps → ((k : ℕ) × (k < n) × (r.enter k ≡ w)) ⊎ ((k : ℕ) → k < n → r.enter k ≡ w → ⊥)
  fickle_below zero w h = inr (λ k l e. absurd (Prim.omega arith))
  fickle_below (suc n) w h =
      ⊎_elim (λ a. inl (a.0, Prim.omega arith, a.2))
      (λ none. ⊎_elim (λ e. inl (n, Prim.omega arith, e))
      (λ ne. inr (λ k l e. ⊎_elim (λ m. none k m e) (λ m. ne (ap r.enter (let t : n ≡ k = Prim.omega arith in t) ∙ e)) (cases_lt k n)))
      (same_or_not (r.enter n) w))
      (fickle_below n w (Prim.omega arith))

  pub fickle_or_not : (w : ℕ) → Fickle w ⊎ (Fickle w → ⊥)
  unfolding Fickle
  fickle_or_not w = ⊎_elim (λ a. inl a) (λ none. inr (λ a. none a.0 a.1 a.2)) (fickle_below r.steps w (Prim.omega arith))

  pub fickle_named : (w : ℕ) → Fickle w → Contains r.names w
  unfolding Fickle
  fickle_named w a = subst (λ (t : ℕ). Contains r.names t) a.2 (r.enter_named a.0 a.1)

  -- what never enters stays at its bound, forwards
  forth : (w : ℕ) (f : Bool) → Contains r.names w → (Fickle w → ⊥) → (i d : ℕ) → i + d ≤ r.steps → At i w f → At (i + d) w f
  unfolding At Fickle
  forth w f named never i zero h a = subst (λ (k : ℕ). (r.basic k w ≡ false) × (r.high k w ≡ f)) (let t : i ≡ i + 0 = Prim.omega arith in t) a
  forth w f named never i (suc d) h a =
      let k = i + d in
      let b = forth w f named never i d (Prim.omega arith) a in
      let lt : k < r.steps = Prim.omega arith in
      let enters_not : r.enter k ≡ w → ⊥ = λ e. never (k, lt, e) in
      let s = r.stays k w lt named (λ e. two_answers (r.basic k w) (ap (λ t. r.basic k t) (sym e) ∙ (r.leaves k lt).0) b.0) enters_not in
      subst (λ (j : ℕ). (r.basic j w ≡ false) × (r.high j w ≡ f)) (let t : suc k ≡ i + suc d = Prim.omega arith in t) (s ∙ b.0, r.stays_high k w lt named b.0 enters_not ∙ b.1)

  -- what never enters, and is once no basic variable, stands at one bound throughout
  pub still : (w : ℕ) (f : Bool) → Contains r.names w → (Fickle w → ⊥) → (i j : ℕ) → i ≤ r.steps → j ≤ r.steps → At i w f → At j w f
  unfolding At
  still w f named never i j hi hj a =
      let n = r.steps in
      let end : At n w f = subst (λ (k : ℕ). At k w f) (let t : i + (n - i) ≡ n = Prim.omega arith in t) (forth w f named never i (n - i) (Prim.omega arith) a) in
      let none : r.basic 0 w ≡ false = r.back w named ∙ end.0 in
      let start : At 0 w f = (none, r.back_high w named none ∙ end.1) in
      subst (λ (k : ℕ). At k w f) (let t : 0 + j ≡ j = Prim.omega arith in t) (forth w f named never 0 j (Prim.omega arith) start)

  -- backwards: what is no basic variable left on the displacement, for the bound where it stands, or stood there before
  back_to : (w : ℕ) (f : Bool) → Contains r.names w → (a d : ℕ) → a + d ≤ r.steps → At (a + d) w f → Left w f ⊎ At a w f
  unfolding At Left
  back_to w f named a zero h at = inr (subst (λ (k : ℕ). At k w f) (let t : a + 0 ≡ a = Prim.omega arith in t) at)
  back_to w f named a (suc d) h at =
      let k = a + d in
      let lt : k < r.steps = Prim.omega arith in
      let now : At (suc k) w f = subst (λ (j : ℕ). At j w f) (let t : a + suc d ≡ suc k = Prim.omega arith in t) at in
      ⊎_elim (λ e. inl (k, lt, e, now.1))
      (λ ne.
      let enters_not : r.enter k ≡ w → ⊥ = λ e. two_answers (r.basic (suc k) w) (ap (λ t. r.basic (suc k) t) (sym e) ∙ (r.enters k lt).1) now.0 in
      let before : r.basic k w ≡ false = sym (r.stays k w lt named ne enters_not) ∙ now.0 in
      back_to w f named a d (Prim.omega arith) (before, sym (r.stays_high k w lt named before enters_not) ∙ now.1))
      (same_or_not (r.leave k) w)

  -- what enters leaves in the stretch, for the bound that it enters from
  pub left_at : (j : ℕ) → j < r.steps → Left (r.enter j) (r.high j (r.enter j))
  unfolding At
  left_at j h =
      let z = r.enter j in
      let f = r.high j z in
      let n = r.steps in
      let named = r.enter_named j h in
      let other = (r.enters j h).0 in
      let here : At (0 + j) z f = subst (λ (k : ℕ). At k z f) (let t : j ≡ 0 + j = Prim.omega arith in t) (other, refl) in
      ⊎_elim (λ l. l)
      (λ start.
      let end : At n z f = (sym (r.back z named) ∙ start.0, sym (r.back_high z named start.0) ∙ start.1) in
      let end' : At (suc j + (n - suc j)) z f = subst (λ (k : ℕ). At k z f) (let t : n ≡ suc j + (n - suc j) = Prim.omega arith in t) end in
      ⊎_elim (λ l. l) (λ b. two_answers (r.basic (suc j) z) (r.enters j h).1 b.0) (back_to z f named (suc j) (n - suc j) (Prim.omega arith) end'))
      (back_to z f named 0 j (Prim.omega arith) here)

  -- what leaves enters in the stretch too
  pub leaving_enters : (j : ℕ) → j < r.steps → Fickle (r.leave j)
  unfolding At
  leaving_enters j h =
      ⊎_elim (λ a. a)
      (λ never.
      let w = r.leave j in
      let after : At (suc j) w (r.high (suc j) w) = ((r.leaves j h).1, refl) in
      let before = still w (r.high (suc j) w) (r.leave_named j h) never (suc j) j (Prim.omega arith) (Prim.omega arith) after in
      two_answers (r.basic j w) (r.leaves j h).0 before.0)
      (fickle_or_not (r.leave j))

  greatest_below : (n : ℕ) → 0 < n → n ≤ r.steps → (j : ℕ) × (j < n) × ((k : ℕ) → k < n → r.enter k ≤ r.enter j)
  greatest_below zero p h = absurd (Prim.omega arith)
  greatest_below (suc n) p h =
      ⊎_elim
      (λ more. let g = greatest_below n more (Prim.omega arith) in
      ⊎_elim (λ l. (n, Prim.omega arith, λ k a. ⊎_elim (λ b. let c = g.2 k b in Prim.omega arith) (λ b. let e : k ≡ n = Prim.omega arith in let t = ap r.enter e in Prim.omega arith) (cases_lt k n)))
      (λ l. (g.0, Prim.omega arith, λ k a. ⊎_elim (λ b. g.2 k b) (λ b. let e : k ≡ n = Prim.omega arith in let t = ap r.enter e in Prim.omega arith) (cases_lt k n)))
      (cases_lt (r.enter g.0) (r.enter n)))
      (λ none. (n, Prim.omega arith, λ k a. let e : k ≡ n = Prim.omega arith in let t = ap r.enter e in Prim.omega arith))
      (cases_lt 0 n)

  -- the step at which the greatest of those that enter does
  pub greatest : (j : ℕ) × (j < r.steps) × ((w : ℕ) → Fickle w → w ≤ r.enter j)
  unfolding Fickle
  greatest =
      let g = greatest_below r.steps r.some (Prim.omega arith) in
      (g.0, g.1, λ w a. let b = g.2 a.0 a.1 in Prim.omega (arith, a.2))
