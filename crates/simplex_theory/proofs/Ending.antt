-- A run of the method ends: the number of states still to come falls at each step.
use Rattle.std.specs.Prelude.{◌≡◌, ℕ, ◌<◌, ◌≤◌, ◌^◌, Bool, false, length, Option, Some, refl}
use Rattle.std.proofs.Common.{zero, suc, arith, sym, ◌∙◌, subst, inl, inr}
use Rattle.std.proofs.lemmas.Bool.{cases_lt}
use Rattle.linear_system.specs.Systems.{System}
use Rattle.simplex_theory.specs.States.{State, IsPosed}
use Rattle.simplex_theory.specs.Steps.{IsStep}
use Rattle.simplex_theory.specs.Trails.{trail_length, Steps}
use Rattle.simplex_theory.proofs.NeverBack.{never_back}
use Rattle.simplex_theory.proofs.Splits.{split_code, split_code-small, split_code-same}
use Rattle.simplex_theory.proofs.Trails.{NeverBack, short, falls}

-- `next` goes by steps of the method over the one system s, from good x to good x, and what is good is posed: `view` says what state x has.
record IsMethodOver (s : System) {X : Type 0} (next : X → Option X) (view : X → State) (Good : X → Type 0) : Type 0 where
  posed : (x : X) → Good x → IsPosed s (view x)
  keeps : (x y : X) → Good x → next x ≡ Some y → Good y
  steps : (x y : X) → Good x → next x ≡ Some y → (v : ℕ) × (k : ℕ) × (above : Bool) × IsStep s (view x) (view y) v k above

module _ {s : System} {X : Type 0} {next : X → Option X} {view : X → State} {Good : X → Type 0} (method : IsMethodOver s next view Good) where
  module _ (p : ℕ → X) (n : ℕ) (good : Good (p 0)) (steps : Steps next p n) where
    all_good : (i : ℕ) → i ≤ n → Good (p i)
    all_good zero h = good
    all_good (suc i) h = method.keeps (p i) (p (suc i)) (all_good i (Prim.omega arith)) (steps i (Prim.omega arith))

    -- what leaves, what enters and on which side, at each step of the run
    chosen : (i : ℕ) → (v : ℕ) × (k : ℕ) × (above : Bool) × (i < n → IsStep s (view (p i)) (view (p (suc i))) v k above)
    chosen i = elim (cases_lt i n) [
      | inl h ↦ let t = method.steps (p i) (p (suc i)) (all_good i (Prim.omega arith)) (steps i h) in (t.0, t.1, t.2, λ l. t.3)
      | inr h ↦ (0, 0, false, λ l. absurd (Prim.omega arith))
    ]

    no_return : 0 < n → split_code s.variables (view (p 0)).choice ≡ split_code s.variables (view (p n)).choice → ⊥
    no_return some e =
        let same = split_code-same s.variables (view (p 0)).choice (view (p n)).choice e in
        never_back s (λ i. view (p i)) n (λ i. (chosen i).0) (λ i. (chosen i).1) (λ i. (chosen i).2) some (method.posed (p 0) good)
        (λ i h. (chosen i).3 h) (λ w c. (same w c).0) (λ w c. (same w c).1)

  never : NeverBack next Good (λ x. split_code s.variables (view x).choice) (3 ^ length s.variables)
  never = record {
    keeps = method.keeps;
    small = λ x g. split_code-small s.variables (view x).choice;
    apart = λ p n some good steps e. no_return p n good steps some e;
  }

-- `next` goes by steps of the method, from good x to good x, and what is good is posed: `view` says what state x has, and `system` over which system, which a step keeps.
pub record IsMethod {X : Type 0} (next : X → Option X) (system : X → System) (view : X → State) (Good : X → Type 0) : Type 0 where
  pub posed : (x : X) → Good x → IsPosed (system x) (view x)
  pub keeps : (x y : X) → Good x → next x ≡ Some y → Good y
  pub keeps_system : (x y : X) → Good x → next x ≡ Some y → system y ≡ system x
  pub steps : (x y : X) → Good x → next x ≡ Some y → (v : ℕ) × (k : ℕ) × (above : Bool) × IsStep (system x) (view x) (view y) v k above

module _ {X : Type 0} {next : X → Option X} {system : X → System} {view : X → State} {Good : X → Type 0} (method : IsMethod next system view Good) where
  over_one : (s : System) → IsMethodOver s next view (λ x. Good x × (system x ≡ s))
  over_one s = record {
    posed = λ x g. subst (λ (r : System). IsPosed r (view x)) g.1 (method.posed x g.0);
    keeps = λ x y g e. (method.keeps x y g.0 e, method.keeps_system x y g.0 e ∙ g.1);
    steps = λ x y g e.
        let t = method.steps x y g.0 e in
        (t.0, t.1, t.2, subst (λ (r : System). IsStep r (view x) (view y) t.0 t.1 t.2) g.1 t.3);
  }

  -- a run has at most 3^n states, n the number of variables
  pub method_short : (x : X) → Good x → trail_length next (3 ^ length (system x).variables) x ≤ 3 ^ length (system x).variables
  method_short x good = short next (never (over_one (system x))) x (good, refl)

  -- The length of the trail falls at each step. It has at most one state for each way to split the variables: of each there are three ways to stand, and no run comes back to a split.
  pub method_falls : (x y : X) → Good x → next x ≡ Some y → trail_length next (3 ^ length (system y).variables) y < trail_length next (3 ^ length (system x).variables) x
  method_falls x y good e =
      subst (λ (r : System). trail_length next (3 ^ length r.variables) y < trail_length next (3 ^ length (system x).variables) x) (sym (method.keeps_system x y good e))
      (falls next (never (over_one (system x))) x y (good, refl) e)
