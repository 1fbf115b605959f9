-- The one step that a dictionary has, if it has one, and that a run of steps ends.
use Rattle.std.specs.Prelude.{◌≡◌, ℕ, ◌<◌, ◌≤◌, ◌^◌, pos, Bool, true, false, List, [], ◌∷◌, length, Option, Some, None, ◌⊎◌, refl}
use Rattle.std.specs.List.{Contains}
use Rattle.std.proofs.Common.{arith, ap, sym, ◌∙◌, subst, inl, inr}
use Rattle.std.proofs.lemmas.Bool.{cases_lt, cases_order}
use Rattle.std.proofs.lemmas.Option.{same_Some}
use Rattle.fraction_theory.specs.Fraction.{Fraction, whole, ◌*ℚ◌}
use Rattle.fraction_theory.specs.Order.{◌≤ℚ◌, ◌<ℚ◌}
use Rattle.fraction_theory.proofs.ListSums.{Contains-head, Contains-cons, Contains-cases}
use Rattle.fraction_theory.proofs.OrderLaws.{≤ℚ-or-<ℚ, <ℚ-not-≤ℚ, ≤ℚ_antisym, <ℚ_irrefl, <ℚ_trans, three_ways}
use Rattle.linear_system.specs.Systems.{System}
use Rattle.linear_system.specs.Choices.{basics, others}
use Rattle.linear_system.proofs.ChoiceLaws.{basics_are, others_are}
use Rattle.linear_dict.specs.Dictionaries.{Dictionary, system_in}
use Rattle.linear_dict.proofs.NameLemmas.{place_in-within}
use Rattle.simplex_theory.specs.States.{State, IsWithin, Violates}
use Rattle.simplex_theory.specs.Steps.{opposite_if, Leaves, Helps, Enters, IsStep}
use Rattle.simplex_theory.specs.Trails.{trail_length}
use Rattle.simplex_theory.proofs.Ending.{IsMethod, method_falls}
use Rattle.simplex_core.specs.States.{state_of, IsReady}
use Rattle.simplex_core.specs.Turns.{turned}
use Rattle.simplex_core.proofs.NoteLaws.{named_or_not}
use Rattle.simplex_core.proofs.TurnLaws.{turned_step, turned_system, turned_ready}
use Rattle.fraction_theory.specs.Signs.{abs_ℚ}

abbrev Decision : Type 0 → Type 0
Decision P = P ⊎ ¬ P

named : (xs : List ℕ) (w : ℕ) → Decision (Contains xs w)
named xs w = elim (named_or_not xs w) [
  | inl m ↦ inl m
  | inr past ↦ inr (λ m. Prim.omega (arith, past, (place_in-within xs w m).0))
]

each : {P : ℕ → Type 0} → ((w : ℕ) → Decision (P w)) → (xs : List ℕ) → Decision ((w : ℕ) → Contains xs w → P w)
each {P} test [] = inl (λ w m. absurd (Prim.omega (arith, m.1)))
each {P} test (x ∷ xs) = elim (test x) [
  | inr n ↦ inr (λ all. n (all x (Contains-head x xs)))
  | inl p ↦ elim (each test xs) [
    | inl all ↦ inl (λ w m. elim (Contains-cases x xs w m) [ inl e ↦ subst P e p | inr k ↦ all w k ])
    | inr n ↦ inr (λ all. n (λ w m. all w (Contains-cons x xs w m)))
  ]
]

at_most : (x y : Fraction) → Decision (x ≤ℚ y)
at_most x y = elim (≤ℚ-or-<ℚ x y) [ inl p ↦ inl p | inr p ↦ inr (λ q. <ℚ-not-≤ℚ y x p q) ]

below : (x y : Fraction) → Decision (x <ℚ y)
below x y = elim (≤ℚ-or-<ℚ y x) [ inl p ↦ inr (λ q. <ℚ-not-≤ℚ x y q p) | inr p ↦ inl p ]

equal : (x y : Fraction) → Decision (x ≡ y)
equal x y = elim (three_ways x y) [
  | inl l ↦ inr (λ e. <ℚ_irrefl y (subst (λ t. t <ℚ y) e l))
  | inr w ↦ elim w [ inl e ↦ inl e | inr l ↦ inr (λ e. <ℚ_irrefl y (subst (λ t. y <ℚ t) e l)) ]
]

-- a fact of its premise
whenever : {P Q : Type 0} → Decision P → (P → Decision Q) → Decision (P → Q)
whenever (inr n) test = inl (λ p. absurd (n p))
whenever (inl p) test = elim (test p) [ inl q ↦ inl (λ _. q) | inr n ↦ inr (λ f. n (f p)) ]

both : {P Q : Type 0} → Decision P → Decision Q → Decision (P × Q)
both (inl p) (inl q) = inl (p, q)
both (inl p) (inr n) = inr (λ b. n b.1)
both (inr n) q = inr (λ b. n b.0)

module _ (s : System) (S : State) where
  violated : (above : Bool) (w : ℕ) → Decision (Violates s S.value above w)
  violated true w = below (s.high w) (S.value w)
  violated false w = below (S.value w) (s.low w)

  within : (w : ℕ) → Decision (IsWithin s S.value w)
  within w = elim (both (at_most (s.low w) (S.value w)) (at_most (S.value w) (s.high w))) [
    | inl p ↦ inl (record { low = p.0; high = p.1 })
    | inr n ↦ inr (λ p. n (p.low, p.high))
  ]

  less : (m n : ℕ) → Decision (m < n)
  less m n = elim (cases_lt m n) [ inl l ↦ inl l | inr l ↦ inr (λ k. Prim.omega (arith, l, k)) ]

  no_more : (m n : ℕ) → Decision (m ≤ n)
  no_more m n = elim (cases_lt n m) [ inl l ↦ inr (λ k. Prim.omega (arith, l, k)) | inr l ↦ inl (Prim.omega (arith, l)) ]

  module _ (v : ℕ) (above : Bool) where
    leaves_or_not : Decision (Leaves s S v above)
    leaves_or_not = elim (both (named (basics s S.choice) v) (both (violated above v) (each (λ b. whenever (less b v) (λ _. within b)) (basics s S.choice)))) [
      | inl p ↦ inl (record { basic = p.0; violates = p.1.0; least = p.1.1 })
      | inr n ↦ inr (λ p. n (p.basic, (p.violates, p.least)))
    ]

    helps_or_not : (w : ℕ) → Decision (Helps s S v above w)
    helps_or_not w = elim (both (named (others s S.choice) w) (both (below (s.low w) (s.high w)) (below (whole (pos 0)) (opposite_if (S.choice.high w) (opposite_if above (S.choice.entry v w)))))) [
      | inl p ↦ inl (record { other = p.0; free = p.1.0; towards = p.1.1 })
      | inr n ↦ inr (λ p. n (p.other, (p.free, p.towards)))
    ]

    left : ℕ → ℕ → Fraction
    left k w = abs_ℚ (S.reduced k) *ℚ abs_ℚ (S.choice.entry v w)

    ranks : (k w : ℕ) → Decision (Helps s S v above w → (left k w ≤ℚ left w k) × (left k w ≡ left w k → k ≤ w))
    ranks k w = whenever (helps_or_not w) (λ _. both (at_most (left k w) (left w k)) (whenever (equal (left k w) (left w k)) (λ _. no_more k w)))

    enters_or_not : (k : ℕ) → Decision (Enters s S v above k)
    unfolding left
    enters_or_not k = elim (both (helps_or_not k) (each (ranks k) (others s S.choice))) [
      | inl p ↦ inl (record { helps = p.0; ratio = λ w h. (p.1 w h.other h).0; least = λ w h. (p.1 w h.other h).1 })
      | inr n ↦ inr (λ p. n (p.helps, λ w m h. (p.ratio w h, p.least w h)))
    ]

  module _ (bounds : (w : ℕ) → Contains s.variables w → s.low w ≤ℚ s.high w) where
    violates_not : (above : Bool) (w : ℕ) → Violates s S.value above w → ¬ (IsWithin s S.value w)
    violates_not true w l p = <ℚ-not-≤ℚ (s.high w) (S.value w) l p.high
    violates_not false w l p = <ℚ-not-≤ℚ (S.value w) (s.low w) l p.low

    one_side : (a b : Bool) (w : ℕ) → Contains s.variables w → Violates s S.value a w → Violates s S.value b w → a ≡ b
    one_side true true w m p q = refl
    one_side false false w m p q = refl
    one_side true false w m p q = absurd (<ℚ-not-≤ℚ (s.high w) (s.low w) (<ℚ_trans (s.high w) (S.value w) (s.low w) p q) (bounds w m))
    one_side false true w m p q = absurd (<ℚ-not-≤ℚ (s.high w) (s.low w) (<ℚ_trans (s.high w) (S.value w) (s.low w) q p) (bounds w m))

    -- one variable leaves, to one side
    one_leaves : (v u : ℕ) (a b : Bool) → Leaves s S v a → Leaves s S u b → v ≡ u
    one_leaves v u a b p q = elim (cases_order v u) [
      | inl e ↦ e
      | inr w ↦ elim w [
        | inl l ↦ absurd (violates_not a v p.violates (q.least v p.basic l))
        | inr l ↦ absurd (violates_not b u q.violates (p.least u q.basic l))
      ]
    ]

  -- and one enters
  one_enters : (v k j : ℕ) (a : Bool) → Enters s S v a k → Enters s S v a j → k ≡ j
  one_enters v k j a p q =
      let tie = ≤ℚ_antisym _ _ (p.ratio j q.helps) (q.ratio k p.helps) in
      Prim.omega (arith, p.least j q.helps tie, q.least k p.helps (sym tie))

module _ {B : Type 0} where
  or : Option B → Option B → Option B
  or None q = q
  or (Some b) q = Some b

  -- what f finds first
  first : (ℕ → Option B) → List ℕ → Option B
  first f [] = None
  first f (x ∷ xs) = or (f x) (first f xs)

  or_from : (p q : Option B) (y : B) → or p q ≡ Some y → (p ≡ Some y) ⊎ (q ≡ Some y)
  unfolding or
  or_from None q y e = inr e
  or_from (Some b) q y e = inl e

  first_from : (f : ℕ → Option B) (xs : List ℕ) (y : B) → first f xs ≡ Some y → (x : ℕ) × (f x ≡ Some y)
  unfolding first
  first_from f [] y e = absurd Prim.cc
  first_from f (x ∷ xs) y e = elim (or_from (f x) (first f xs) y e) [ inl p ↦ (x, p) | inr p ↦ first_from f xs y p ]

  module _ (b : B) where
    abbrev Only : Option B → Type 0
    Only o = (o ≡ None) ⊎ (o ≡ Some b)

    or_left : (p q : Option B) → p ≡ Some b → or p q ≡ Some b
    unfolding or
    or_left None q e = absurd Prim.cc
    or_left (Some x) q e = e

    or_right : (p q : Option B) → Only p → q ≡ Some b → or p q ≡ Some b
    unfolding or
    or_right None q o e = e
    or_right (Some x) q o e = elim o [ inl n ↦ absurd Prim.cc | inr s ↦ s ]

    or_only : (p q : Option B) → Only p → Only q → Only (or p q)
    unfolding or
    or_only None q o e = e
    or_only (Some x) q o e = o

    first_only : (f : ℕ → Option B) → ((x : ℕ) → Only (f x)) → (xs : List ℕ) → Only (first f xs)
    unfolding first
    first_only f only [] = inl refl
    first_only f only (x ∷ xs) = or_only (f x) (first f xs) (only x) (first_only f only xs)

    first_finds : (f : ℕ → Option B) → ((x : ℕ) → Only (f x)) → (xs : List ℕ) (x : ℕ) → Contains xs x → f x ≡ Some b → first f xs ≡ Some b
    unfolding first
    first_finds f only [] x m e = absurd (Prim.omega (arith, m.1))
    first_finds f only (y ∷ ys) x m e = elim (Contains-cases y ys x m) [
      | inl q ↦ or_left (f y) (first f ys) (ap f q ∙ e)
      | inr k ↦ or_right (f y) (first f ys) (only y) (first_finds f only ys x k e)
    ]

basic_named : (d : Dictionary) (w : ℕ) → Contains (basics (system_in d) (state_of d).choice) w → Contains d.names w
unfolding system_in
basic_named d w m = (basics_are (system_in d) (state_of d).choice w m).0

other_named : (d : Dictionary) (w : ℕ) → Contains (others (system_in d) (state_of d).choice) w → Contains d.names w
unfolding system_in
other_named d w m = (others_are (system_in d) (state_of d).choice w m).0

-- v leaves d and k enters
pub record IsTurn (d : Dictionary) (v k : ℕ) (above : Bool) : Type 0 where
  pub leaves : Leaves (system_in d) (state_of d) v above
  pub enters : Enters (system_in d) (state_of d) v above k

turn_or_not : (d : Dictionary) (v k : ℕ) (above : Bool) → Decision (IsTurn d v k above)
turn_or_not d v k above = elim (both (leaves_or_not (system_in d) (state_of d) v above) (enters_or_not (system_in d) (state_of d) v above k)) [
  | inl p ↦ inl (record { leaves = p.0; enters = p.1 })
  | inr n ↦ inr (λ p. n (p.leaves, p.enters))
]

taken : (d : Dictionary) (v k : ℕ) (above : Bool) → Decision (IsTurn d v k above) → Option Dictionary
taken d v k above (inl p) = Some (turned d v k above)
taken d v k above (inr n) = None

try : (d : Dictionary) (v k : ℕ) → Bool → Option Dictionary
try d v k above = taken d v k above (turn_or_not d v k above)

either : (d : Dictionary) (v k : ℕ) → Option Dictionary
either d v k = or (try d v k true) (try d v k false)

by_leaving : (d : Dictionary) (v : ℕ) → Option Dictionary
by_leaving d v = first (either d v) d.names

-- The dictionary after the step that there is, if there is one.
pub next : Dictionary → Option Dictionary
next d = first (by_leaving d) d.names

module _ (d : Dictionary) where
  Came : Dictionary → Type 0
  Came y = (v : ℕ) × (k : ℕ) × (above : Bool) × IsTurn d v k above × (turned d v k above ≡ y)

  taken_from : (v k : ℕ) (above : Bool) (p : Decision (IsTurn d v k above)) (y : Dictionary) → taken d v k above p ≡ Some y → Came y
  unfolding Came taken
  taken_from v k above (inl p) y e = (v, k, above, p, same_Some (turned d v k above) y e)
  taken_from v k above (inr n) y e = absurd Prim.cc

  came : (y : Dictionary) → next d ≡ Some y → Came y
  unfolding next by_leaving either try
  came y e =
      let a = first_from (by_leaving d) d.names y e in
      let b = first_from (either d a.0) d.names y a.1 in
      elim (or_from (try d a.0 b.0 true) (try d a.0 b.0 false) y b.1) [
        | inl p ↦ taken_from a.0 b.0 true (turn_or_not d a.0 b.0 true) y p
        | inr p ↦ taken_from a.0 b.0 false (turn_or_not d a.0 b.0 false) y p
      ]

  module _ (ready : IsReady d) (v k : ℕ) (above : Bool) (turn : IsTurn d v k above) where
    one_turn : (u j : ℕ) (b : Bool) → IsTurn d u j b → turned d u j b ≡ turned d v k above
    unfolding state_of
    one_turn u j b p =
        let eu : u ≡ v = one_leaves (system_in d) (state_of d) ready.posed.bounds u v b above p.leaves turn.leaves in
        let pv : IsTurn d v j b = subst (λ (x : ℕ). IsTurn d x j b) eu p in
        let eb : b ≡ above = one_side (system_in d) (state_of d) ready.posed.bounds b above v (basics_are (system_in d) (state_of d).choice v turn.leaves.basic).0 pv.leaves.violates turn.leaves.violates in
        let pa : IsTurn d v j above = subst (λ (x : Bool). IsTurn d v j x) eb pv in
        let ej : j ≡ k = one_enters (system_in d) (state_of d) v j k above pa.enters turn.enters in
        ap (λ (x : ℕ). turned d x j b) eu ∙ ap (λ (x : Bool). turned d v j x) eb ∙ ap (λ (x : ℕ). turned d v x above) ej

    taken_only : (u j : ℕ) (b : Bool) (p : Decision (IsTurn d u j b)) → Only (turned d v k above) (taken d u j b p)
    unfolding taken
    taken_only u j b (inl p) = inr (ap Some (one_turn u j b p))
    taken_only u j b (inr n) = inl refl

    taken_is : (p : Decision (IsTurn d v k above)) → taken d v k above p ≡ Some (turned d v k above)
    unfolding taken
    taken_is (inl p) = refl
    taken_is (inr n) = absurd (n turn)

    try_only : (u j : ℕ) (b : Bool) → Only (turned d v k above) (try d u j b)
    unfolding try
    try_only u j b = taken_only u j b (turn_or_not d u j b)

    tried : (a : Bool) → a ≡ above → either d v k ≡ Some (turned d v k above)
    unfolding either try
    tried true e = or_left (turned d v k above) (try d v k true) (try d v k false)
        (ap (λ (x : Bool). try d v k x) e ∙ taken_is (turn_or_not d v k above))
    tried false e = or_right (turned d v k above) (try d v k true) (try d v k false) (try_only v k true)
        (ap (λ (x : Bool). try d v k x) e ∙ taken_is (turn_or_not d v k above))

    -- where there is a step it is the next one
    pub next_is : next d ≡ Some (turned d v k above)
    unfolding next by_leaving either
    next_is =
        let b : Dictionary = turned d v k above in
        let either_only : (u j : ℕ) → Only b (either d u j) = λ u j. or_only b (try d u j true) (try d u j false) (try_only u j true) (try_only u j false) in
        first_finds b (by_leaving d) (λ u. first_only b (either d u) (either_only u) d.names) d.names v (basic_named d v turn.leaves.basic)
        (first_finds b (either d v) (either_only v) d.names k (other_named d k turn.enters.helps.other) (tried above refl))

-- The steps of dictionaries are steps of the method.
pub method : IsMethod next system_in state_of IsReady
unfolding Came
method = record {
  posed = λ d g. g.posed;
  keeps = λ d y g e. let a = came d y e in subst IsReady a.4 (turned_ready d g a.0 a.1 a.2 a.3.leaves a.3.enters);
  keeps_system = λ d y g e. let a = came d y e in ap system_in (sym a.4) ∙ turned_system d g a.0 a.1 a.2 a.3.leaves a.3.enters;
  steps = λ d y g e. let a = came d y e in (a.0, a.1, a.2, subst (λ (x : Dictionary). IsStep (system_in d) (state_of d) (state_of x) a.0 a.1 a.2) a.4 (turned_step d g a.0 a.1 a.2 a.3.leaves a.3.enters));
}

-- how many states are still to come, at most
unfoldable pub to_come : Dictionary → ℕ
to_come d = trail_length next (3 ^ length (system_in d).variables) d

pub to_come_falls : (d : Dictionary) → IsReady d → (v k : ℕ) (above : Bool) → IsTurn d v k above → to_come (turned d v k above) < to_come d
unfolding to_come
to_come_falls d ready v k above turn = method_falls method d (turned d v k above) ready (next_is d ready v k above turn)
