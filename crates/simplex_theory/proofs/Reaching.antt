-- From each posed state a run of steps leads to a solved one, or to one that shows that there is no point.
use Rattle.std.specs.Prelude.{◌≡◌, ℕ, ◌≤◌, ◌^◌, Bool, length, Option, Some, None, ◌⊎◌, refl}
use Rattle.std.proofs.Common.{zero, suc, arith, ap, subst, inl, inr}
use Rattle.std.proofs.Math.Nat.{le_refl}
use Rattle.std.proofs.lemmas.Option.{same_Some}
use Rattle.linear_system.specs.Systems.{System}
use Rattle.simplex_theory.specs.States.{State, IsPosed, IsSolved, HasNoPoint, IsOutOfReach}
use Rattle.simplex_theory.specs.Steps.{IsStep}
use Rattle.simplex_theory.specs.Stepped.{stepped}
use Rattle.simplex_theory.specs.Trails.{trail_length}
use Rattle.simplex_theory.proofs.Posing.{step_posed}
use Rattle.simplex_theory.proofs.Outcomes.{solved, out_of_reach, no_point}
use Rattle.simplex_theory.proofs.Stepping.{stepped_is}
use Rattle.simplex_theory.proofs.Deciding.{leaves_or_within, enters_or_none}
use Rattle.simplex_theory.proofs.Ending.{IsMethod, method_falls}

module _ (s : System) where
  -- what the last state of a run shows
  unfoldable pub Shows : State → Type 0
  Shows S = IsSolved s S ⊎ ((v : ℕ) × IsOutOfReach s S.choice v × HasNoPoint s)

  Ahead : State → Type 0
  Ahead S = (v : ℕ) × (k : ℕ) × (above : Bool) × IsStep s S (stepped s S v k above) v k above

  step_or_end : (S : State) → IsPosed s S → Ahead S ⊎ Shows S
  unfolding Shows Ahead
  step_or_end S posed = elim (leaves_or_within s S posed.system) [
    | inr within ↦ inr (inl (solved s S posed within))
    | inl l ↦ elim (enters_or_none s S l.0 l.1 posed.system) [
      | inl e ↦ inl (l.0, e.0, l.1, stepped_is s S l.0 e.0 l.1 posed l.2 e.1)
      | inr none ↦ inr (inr (l.0, out_of_reach s S posed l.0 l.1 l.2.basic l.2.violates none, no_point s S posed l.0 l.1 l.2.basic l.2.violates none))
    ]
  ]

  record Known : Type 0 where
    state : State
    posed : IsPosed s state

  to : (x : Known) → Ahead x.state → Known
  unfolding Ahead
  to x a = record { state = stepped s x.state a.0 a.1 a.2; posed = step_posed s x.state (stepped s x.state a.0 a.1 a.2) a.0 a.1 a.2 x.posed a.3 }

  next_by : (x : Known) → Ahead x.state ⊎ Shows x.state → Option Known
  next_by x (inl a) = Some (to x a)
  next_by x (inr e) = None

  next : Known → Option Known
  next x = next_by x (step_or_end x.state x.posed)

  step_by : (x y : Known) (a : Ahead x.state ⊎ Shows x.state) → next_by x a ≡ Some y → (v : ℕ) × (k : ℕ) × (above : Bool) × IsStep s x.state y.state v k above
  unfolding next_by to Ahead
  step_by x y (inl a) e = subst (λ (z : Known). (v : ℕ) × (k : ℕ) × (above : Bool) × IsStep s x.state z.state v k above) (same_Some (to x a) y e) (a.0, a.1, a.2, a.3)
  step_by x y (inr b) e = absurd Prim.cc

  method : IsMethod next (λ x. s) Known.state (λ x. Unit)
  unfolding next
  method = record {
    posed = λ x g. x.posed;
    keeps = λ x y g e. tt;
    keeps_system = λ x y g e. refl;
    steps = λ x y g e. step_by x y (step_or_end x.state x.posed) e;
  }

  abbrev most : ℕ
  most = 3 ^ length s.variables

  ended : (x : Known) → ((y : Known) → next x ≡ Some y → (T : State) × IsPosed s T × Shows T) → (d : Ahead x.state ⊎ Shows x.state) → step_or_end x.state x.posed ≡ d → (T : State) × IsPosed s T × Shows T
  unfolding next next_by
  ended x more (inl a) e = more (to x a) (ap (next_by x) e)
  ended x more (inr b) e = (x.state, x.posed, b)

  -- a run whose trail is no longer than this ends
  reach : (fuel : ℕ) (x : Known) → trail_length next most x ≤ fuel → (T : State) × IsPosed s T × Shows T
  reach zero x h = ended x (λ y e. absurd (Prim.omega (arith, method_falls method x y tt e))) (step_or_end x.state x.posed) refl
  reach (suc fuel) x h = ended x (λ y e. reach fuel y (Prim.omega (arith, method_falls method x y tt e))) (step_or_end x.state x.posed) refl

  -- From a posed state a run of steps leads to one that is solved, or that shows that there is no point.
  pub outcome : (S : State) → IsPosed s S → (T : State) × IsPosed s T × Shows T
  outcome S posed = let x : Known = record { state = S; posed = posed } in reach (trail_length next most x) x (le_refl (trail_length next most x))
