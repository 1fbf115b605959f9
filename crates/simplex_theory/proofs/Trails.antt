-- A run that never comes back to a code it has had ends: no trail is longer than there are codes, and it falls at each step.
use Rattle.std.specs.Prelude.{◌≡◌, ℕ, ◌+◌, ◌-◌, ◌<◌, ◌≤◌, ◌⊎◌, ◌∷◌, length, Option, Some, None, refl}
use Rattle.std.proofs.Common.{zero, suc, arith, ap, sym, ◌∙◌, subst, ⊎_elim, inl, inr}
use Rattle.std.proofs.lemmas.Bool.{cases_lt}
use Rattle.simplex_theory.specs.Trails.{rest, trail, trail_length, Steps}

-- f i, and f n in the place of m
avoid : (ℕ → ℕ) → ℕ → ℕ → ℕ → ℕ
avoid f n m i = ⊎_elim (λ _. f i) (λ _. ⊎_elim (λ _. f i) (λ _. f n) (cases_lt m (f i))) (cases_lt (f i) m)

avoid_is : (f : ℕ → ℕ) (n m i : ℕ) → ((f i ≡ m) × (avoid f n m i ≡ f n)) ⊎ ((f i ≡ m → ⊥) × (avoid f n m i ≡ f i))
unfolding avoid
avoid_is f n m i = by (cases_lt (f i) m) (cases_lt m (f i))
  where
    by : (a : (f i < m) ⊎ (m ≤ f i)) (b : (m < f i) ⊎ (f i ≤ m)) → ((f i ≡ m) × (⊎_elim (λ _. f i) (λ _. ⊎_elim (λ _. f i) (λ _. f n) b) a ≡ f n)) ⊎ ((f i ≡ m → ⊥) × (⊎_elim (λ _. f i) (λ _. ⊎_elim (λ _. f i) (λ _. f n) b) a ≡ f i))
    by (inl l) b = inr (λ e. absurd (Prim.omega arith), refl)
    by (inr l) (inl k) = inr (λ e. absurd (Prim.omega arith), refl)
    by (inr l) (inr k) = inl (Prim.omega arith, refl)

-- n numbers below m with no two equal are at most m
pub pigeonhole : (n m : ℕ) (f : ℕ → ℕ) → ((i : ℕ) → i < n → f i < m) → ((i j : ℕ) → i < n → j < n → f i ≡ f j → i ≡ j) → n ≤ m
pigeonhole zero m f into one = Prim.omega arith
pigeonhole (suc n) zero f into one = absurd (Prim.omega (arith, into n (Prim.omega arith)))
pigeonhole (suc n) (suc m) f into one =
    let g = avoid f n m in
    let last : f n < suc m = into n (Prim.omega arith) in
    let into' : (i : ℕ) → i < n → g i < m = λ i h.
    let here : f i < suc m = into i (Prim.omega arith) in
    ⊎_elim (λ c. let ne : f n ≡ m → ⊥ = λ e. absurd (Prim.omega (arith, one i n (Prim.omega arith) (Prim.omega arith) (c.0 ∙ sym e))) in Prim.omega arith) (λ c. Prim.omega arith) (avoid_is f n m i) in
    let one' : (i j : ℕ) → i < n → j < n → g i ≡ g j → i ≡ j = λ i j a b e.
    ⊎_elim
    (λ c. ⊎_elim (λ d. one i j (Prim.omega arith) (Prim.omega arith) (c.0 ∙ sym d.0))
    (λ d. absurd (Prim.omega (arith, one n j (Prim.omega arith) (Prim.omega arith) (sym c.1 ∙ e ∙ d.1)))) (avoid_is f n m j))
    (λ c. ⊎_elim (λ d. absurd (Prim.omega (arith, one i n (Prim.omega arith) (Prim.omega arith) (sym c.1 ∙ e ∙ d.1))))
    (λ d. one i j (Prim.omega arith) (Prim.omega arith) (sym c.1 ∙ e ∙ d.1)) (avoid_is f n m j))
    (avoid_is f n m i) in
    Prim.omega (arith, pigeonhole n m g into' one')

module _ {S : Type 0} (next : S → Option S) where
  shift : S → (ℕ → S) → ℕ → S
  shift s p zero = s
  shift s p (suc i) = p i

  joined : (s t : S) (p : ℕ → S) (m : ℕ) → next s ≡ Some t → p 0 ≡ t → Steps next p (m - 1) → Steps next (shift s p) (suc m - 1)
  unfolding shift
  joined s t p m e f steps zero h = e ∙ ap Some (sym f)
  joined s t p m e f steps (suc j) h = steps j (Prim.omega arith)

  -- a trail is a run
  run_of : (n : ℕ) (s : S) → (p : ℕ → S) × (p 0 ≡ s) × Steps next p (length (trail next n s) - 1)
  unfolding trail shift
  run_of zero s = (λ i. s, refl, λ i h. absurd (Prim.omega arith))
  run_of (suc n) s = by (λ t. run_of n t) (next s) refl
    where
      by : ((t : S) → (p : ℕ → S) × (p 0 ≡ t) × Steps next p (length (trail next n t) - 1)) → (o : Option S) → next s ≡ o → (p : ℕ → S) × (p 0 ≡ s) × Steps next p (length (s ∷ rest next (trail next n) o) - 1)
      by go None e = (λ i. s, refl, λ i h. absurd (Prim.omega arith))
      by go (Some t) e = let r = go t in (shift s r.0, refl, joined s t r.0 (length (trail next n t)) e r.1 r.2)

  -- what a step keeps, with codes below `codes`, such that no run comes back to its first code
  pub record NeverBack (Good : S → Type 0) (code : S → ℕ) (codes : ℕ) : Type 0 where
    pub keeps : (s t : S) → Good s → next s ≡ Some t → Good t
    pub small : (s : S) → Good s → code s < codes
    pub apart : (p : ℕ → S) (n : ℕ) → 0 < n → Good (p 0) → Steps next p n → code (p 0) ≡ code (p n) → ⊥

  module _ {Good : S → Type 0} {code : S → ℕ} {codes : ℕ} (never : NeverBack Good code codes) where
    all_good : (p : ℕ → S) (n : ℕ) → Good (p 0) → Steps next p n → (i : ℕ) → i ≤ n → Good (p i)
    all_good p n g steps zero h = g
    all_good p n g steps (suc i) h = never.keeps (p i) (p (suc i)) (all_good p n g steps i (Prim.omega arith)) (steps i (Prim.omega arith))

    later : (p : ℕ → S) (n i j : ℕ) → Good (p 0) → Steps next p n → i < j → j ≤ n → code (p i) ≡ code (p j) → ⊥
    later p n i j g steps less h e =
        let d = j - i in
        let at : i + d ≡ j = Prim.omega arith in
        let start : Good (p (i + 0)) = subst (λ (k : ℕ). Good (p k)) (Prim.omega arith) (all_good p n g steps i (Prim.omega arith)) in
        let sub : Steps next (λ k. p (i + k)) d = λ k l. steps (i + k) (Prim.omega arith) ∙ ap (λ m. Some (p m)) (Prim.omega arith) in
        never.apart (λ k. p (i + k)) d (Prim.omega arith) start sub (ap (λ m. code (p m)) (Prim.omega arith) ∙ e ∙ ap (λ m. code (p m)) (sym at))

    -- no trail is longer than there are codes
    pub short : (s : S) → Good s → trail_length next codes s ≤ codes
    unfolding trail_length
    short s good =
        ⊎_elim (λ more. absurd (over more)) (λ l. l) (cases_lt codes (length (trail next (suc codes) s)))
      where
        over : codes < length (trail next (suc codes) s) → ⊥
        over more =
            let r = run_of (suc codes) s in
            let p = r.0 in
            let n = length (trail next (suc codes) s) - 1 in
            let first : Good (p 0) = subst Good (sym r.1) good in
            let into : (i : ℕ) → i < suc codes → code (p i) < codes = λ i h. never.small (p i) (all_good p n first r.2 i (Prim.omega arith)) in
            let one : (i j : ℕ) → i < suc codes → j < suc codes → code (p i) ≡ code (p j) → i ≡ j =
            λ i j a b e. ⊎_elim (λ l. absurd (later p n i j first r.2 l (Prim.omega arith) e))
            (λ l. ⊎_elim (λ m. absurd (later p n j i first r.2 m (Prim.omega arith) (sym e))) (λ m. Prim.omega arith) (cases_lt j i)) (cases_lt i j) in
            let bad : suc codes ≤ codes = pigeonhole (suc codes) codes (λ i. code (p i)) into one in
            Prim.omega arith

  settled : (n : ℕ) (s : S) → length (trail next (suc n) s) ≤ n → length (trail next (suc n) s) ≡ length (trail next n s)
  unfolding trail
  settled zero s h = absurd (Prim.omega arith)
  settled (suc n) s h = by (λ t. settled n t) (next s) h
    where
      by : ((t : S) → length (trail next (suc n) t) ≤ n → length (trail next (suc n) t) ≡ length (trail next n t)) → (o : Option S) → length (s ∷ rest next (trail next (suc n)) o) ≤ suc n → length (s ∷ rest next (trail next (suc n)) o) ≡ length (s ∷ rest next (trail next n) o)
      by go None h = refl
      by go (Some t) h = ap suc (go t (Prim.omega arith))

  first_step : (n : ℕ) (s t : S) → next s ≡ Some t → length (trail next (suc n) s) ≡ suc (length (trail next n t))
  unfolding trail
  first_step n s t e = ap (λ o. length (s ∷ rest next (trail next n) o)) e

  -- the trail's length falls at each step
  pub falls : {Good : S → Type 0} {code : S → ℕ} {codes : ℕ} → NeverBack Good code codes → (s t : S) → Good s → next s ≡ Some t → trail_length next codes t < trail_length next codes s
  unfolding trail_length
  falls {codes = codes} never s t good e =
      let ends = settled codes t (short never t (never.keeps s t good e)) in
      let one = first_step codes s t e in
      Prim.omega arith
