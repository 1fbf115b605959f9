-- Which variable leaves a state and which enters, if any do.
use Rattle.std.specs.Prelude.{◌≡◌, ℕ, ◌<◌, pos, Bool, true, false, List, [], ◌∷◌, ◌⊎◌, refl}
use Rattle.std.specs.List.{Contains, AllPairs}
use Rattle.std.proofs.Common.{suc, arith, sym, subst, inl, inr}
use Rattle.std.proofs.lemmas.List.Kept.{AllPairs-from_increasing, AllPairs-filter}
use Rattle.fraction_theory.specs.Fraction.{Fraction, whole, ◌*ℚ◌}
use Rattle.fraction_theory.specs.Order.{◌<ℚ◌}
use Rattle.fraction_theory.proofs.OrderLaws.{≤ℚ-or-<ℚ, <ℚ-not-≤ℚ}
use Rattle.fraction_theory.proofs.ListSums.{Contains-head, Contains-cons, Contains-cases}
use Rattle.linear_system.specs.Systems.{System, IsSystem}
use Rattle.linear_system.specs.Choices.{Choice, basics, others}
use Rattle.simplex_theory.specs.States.{State, IsWithin, Violates}
use Rattle.simplex_theory.specs.Steps.{opposite_if, Leaves, Helps, Enters}
use Rattle.simplex_theory.proofs.LeastRatio.{IsLeast, least_alone, least_kept, least_replaced, help_above, least_enters}
use Rattle.fraction_theory.specs.Signs.{abs_ℚ}

abbrev Ascending : List ℕ → Type 0
Ascending xs = AllPairs (λ x y. x < y) xs

ascending_tail : (x : ℕ) (xs : List ℕ) → Ascending (x ∷ xs) → Ascending xs
ascending_tail x xs h i j d p q = h (suc i) (suc j) d (Prim.omega arith) (Prim.omega arith)

ascending_head : (x : ℕ) (xs : List ℕ) → Ascending (x ∷ xs) → (w : ℕ) → Contains xs w → x < w
ascending_head x xs h w c = subst (λ (t : ℕ). x < t) c.2 (h 0 (suc c.0) w (Prim.omega arith) (Prim.omega (arith, c.1)))

basics_ascend : (s : System) (h : Choice) → IsSystem s → Ascending (basics s h)
unfolding basics
basics_ascend s h i = AllPairs-filter (λ x y. x < y) h.basic s.variables (AllPairs-from_increasing s.variables i.ascending)

others_ascend : (s : System) (h : Choice) → IsSystem s → Ascending (others s h)
unfolding others
others_ascend s h i = AllPairs-filter (λ x y. x < y) _ s.variables (AllPairs-from_increasing s.variables i.ascending)

module _ (s : System) (S : State) where
  -- a value keeps its bounds or violates one of them
  pub within_or_violated : (w : ℕ) → IsWithin s S.value w ⊎ ((above : Bool) × Violates s S.value above w)
  within_or_violated w = elim (≤ℚ-or-<ℚ (s.low w) (S.value w)) [
    | inr below ↦ inr (false, below)
    | inl low ↦ elim (≤ℚ-or-<ℚ (S.value w) (s.high w)) [ inl high ↦ inl (record { low = low; high = high }) | inr above ↦ inr (true, above) ]
  ]

  FirstViolated : List ℕ → Type 0
  FirstViolated xs = ((v : ℕ) × (above : Bool) × Contains xs v × Violates s S.value above v × ((b : ℕ) → Contains xs b → b < v → IsWithin s S.value b)) ⊎ ((b : ℕ) → Contains xs b → IsWithin s S.value b)

  first_violated : (xs : List ℕ) → Ascending xs → FirstViolated xs
  unfolding FirstViolated
  first_violated [] a = inr (λ b c. absurd (Prim.omega (arith, c.1)))
  first_violated (x ∷ xs) a = elim (within_or_violated x) [
    | inr violated ↦ inl (
      x,
      violated.0,
      Contains-head x xs,
      violated.1,
      λ b c l. absurd (elim (Contains-cases x xs b c) [
        | inl e ↦ Prim.omega arith
        | inr k ↦ Prim.omega (arith, ascending_head x xs a b k)
      ]),
    )
    | inl within ↦ elim (first_violated xs (ascending_tail x xs a)) [
      | inl f ↦ inl (
        f.0,
        f.1,
        Contains-cons x xs f.0 f.2,
        f.3,
        λ b c l. elim (Contains-cases x xs b c) [
          | inl e ↦ subst (λ (t : ℕ). IsWithin s S.value t) e within
          | inr k ↦ f.4 b k l
        ],
      )
      | inr all ↦ inr (λ b c. elim (Contains-cases x xs b c) [ inl e ↦ subst (λ (t : ℕ). IsWithin s S.value t) e within | inr k ↦ all b k ])
    ]
  ]

  -- a basic variable leaves, or all are within their bounds
  pub leaves_or_within : IsSystem s → ((v : ℕ) × (above : Bool) × Leaves s S v above) ⊎ ((b : ℕ) → Contains (basics s S.choice) b → IsWithin s S.value b)
  unfolding FirstViolated
  leaves_or_within i = elim (first_violated (basics s S.choice) (basics_ascend s S.choice i)) [
    | inl f ↦ inl (f.0, f.1, record { basic = f.2; violates = f.3; least = f.4 })
    | inr all ↦ inr all
  ]

  module _ (v : ℕ) (above : Bool) where
    helps_or_not : (w : ℕ) → Contains (others s S.choice) w → Helps s S v above w ⊎ ¬ (Helps s S v above w)
    helps_or_not w c = elim (≤ℚ-or-<ℚ (s.high w) (s.low w)) [
      | inl closed ↦ inr (λ h. <ℚ-not-≤ℚ (s.low w) (s.high w) h.free closed)
      | inr free ↦ elim (≤ℚ-or-<ℚ (opposite_if (S.choice.high w) (opposite_if above (S.choice.entry v w))) (whole (pos 0))) [
        | inl away ↦ inr (λ h. <ℚ-not-≤ℚ (whole (pos 0)) (opposite_if (S.choice.high w) (opposite_if above (S.choice.entry v w))) h.towards away)
        | inr towards ↦ inl (record { other = c; free = free; towards = towards })
      ]
    ]

    price : ℕ → Fraction
    price w = abs_ℚ (S.reduced w)

    entry : ℕ → Fraction
    entry w = abs_ℚ (S.choice.entry v w)

    Found : (ℕ → Type 0) → Type 0
    Found candidate = ((k : ℕ) × IsLeast candidate price entry k) ⊎ ((w : ℕ) → ¬ (candidate w))

    -- candidates that are the same
    found_same : (p q : ℕ → Type 0) → ((w : ℕ) → p w → q w) → ((w : ℕ) → q w → p w) → Found p → Found q
    unfolding Found
    found_same p q to from f = elim f [
      | inl l ↦ inl (l.0, record { one = to l.0 l.1.one; ratio = λ w c. l.1.ratio w (from w c); least = λ w c e. l.1.least w (from w c) e })
      | inr none ↦ inr (λ w c. none w (from w c))
    ]

    entry_above : (w : ℕ) → Helps s S v above w → whole (pos 0) <ℚ entry w
    unfolding entry
    entry_above w h = help_above s S v above w h

    -- one more candidate, of a later name
    one_more : (p : ℕ → Type 0) → ((w : ℕ) → p w → Helps s S v above w) → (x : ℕ) → Helps s S v above x → ((w : ℕ) → p w → w < x) → Found p → Found (λ w. p w ⊎ (w ≡ x))
    unfolding Found
    one_more p helps x h earlier f = elim f [
      | inr none ↦ inl (x, least_alone (λ w. p w ⊎ (w ≡ x)) price entry x (inr refl) (λ w c. elim c [ inl m ↦ absurd (none w m) | inr e ↦ e ]))
      | inl l ↦ elim (≤ℚ-or-<ℚ (price l.0 *ℚ entry x) (price x *ℚ entry l.0)) [
        | inl le ↦ inl (
          l.0,
          least_kept p (λ w. p w ⊎ (w ≡ x)) price entry l.0 x l.1 (λ w c. c) (inl l.1.one) (earlier l.0 l.1.one)
              (λ lt. <ℚ-not-≤ℚ (price x *ℚ entry l.0) (price l.0 *ℚ entry x) lt le),
        )
        | inr lt ↦ inl (
          x,
          least_replaced p (λ w. p w ⊎ (w ≡ x)) price entry l.0 x l.1 (λ w c. c) (inr refl)
              (λ w c. elim c [ inl m ↦ entry_above w (helps w m) | inr e ↦ subst (λ (t : ℕ). whole (pos 0) <ℚ entry t) (sym e) (entry_above x h) ])
              (λ w m. entry_above w (helps w m)) lt,
        )
      ]
    ]

    search : (p : ℕ → Type 0) → ((w : ℕ) → p w → Helps s S v above w) → (xs : List ℕ) → Ascending xs → ((w : ℕ) → Contains xs w → Contains (others s S.choice) w)
        → ((w x : ℕ) → p w → Contains xs x → w < x) → Found p → Found (λ w. p w ⊎ (Contains xs w × Helps s S v above w))
    search p helps [] a named earlier f = found_same p (λ w. p w ⊎ (Contains [] w × Helps s S v above w)) (λ w c. inl c) (λ w c. elim c [ inl m ↦ m | inr k ↦ absurd (Prim.omega (arith, k.0.1)) ]) f
    search p helps (x ∷ xs) a named earlier f = elim (helps_or_not x (named x (Contains-head x xs))) [
      | inl h ↦
          found_same (λ w. (p w ⊎ (w ≡ x)) ⊎ (Contains xs w × Helps s S v above w)) (λ w. p w ⊎ (Contains (x ∷ xs) w × Helps s S v above w))
          (λ w c. elim c [
            | inl d ↦ elim d [ inl m ↦ inl m | inr e ↦ inr (subst (λ (t : ℕ). Contains (x ∷ xs) t × Helps s S v above t) (sym e) (Contains-head x xs, h)) ]
            | inr k ↦ inr (Contains-cons x xs w k.0, k.1)
          ])
          (λ w c. elim c [
            | inl m ↦ inl (inl m)
            | inr k ↦ elim (Contains-cases x xs w k.0) [ inl e ↦ inl (inr (sym e)) | inr r ↦ inr (r, k.1) ]
          ])
          (search (λ w. p w ⊎ (w ≡ x)) (λ w c. elim c [ inl m ↦ helps w m | inr e ↦ subst (λ (t : ℕ). Helps s S v above t) (sym e) h ]) xs (ascending_tail x xs a)
          (λ w c. named w (Contains-cons x xs w c))
          (λ w y c d. elim c [ inl m ↦ earlier w y m (Contains-cons x xs y d) | inr e ↦ subst (λ (t : ℕ). t < y) (sym e) (ascending_head x xs a y d) ])
          (one_more p helps x h (λ w m. earlier w x m (Contains-head x xs)) f))
      | inr n ↦
          found_same (λ w. p w ⊎ (Contains xs w × Helps s S v above w)) (λ w. p w ⊎ (Contains (x ∷ xs) w × Helps s S v above w))
          (λ w c. elim c [ inl m ↦ inl m | inr k ↦ inr (Contains-cons x xs w k.0, k.1) ])
          (λ w c. elim c [
            | inl m ↦ inl m
            | inr k ↦ elim (Contains-cases x xs w k.0) [ inl e ↦ absurd (n (subst (λ (t : ℕ). Helps s S v above t) (sym e) k.1)) | inr r ↦ inr (r, k.1) ]
          ])
          (search p helps xs (ascending_tail x xs a) (λ w c. named w (Contains-cons x xs w c)) (λ w y m d. earlier w y m (Contains-cons x xs y d)) f)
    ]

    -- an other variable enters, or none helps
    pub enters_or_none : IsSystem s → ((k : ℕ) × Enters s S v above k) ⊎ ((w : ℕ) → ¬ (Helps s S v above w))
    unfolding Found price entry
    enters_or_none i = elim (found_same (λ w. ⊥ ⊎ (Contains (others s S.choice) w × Helps s S v above w)) (Helps s S v above)
        (λ w c. elim c [ inl b ↦ absurd b | inr k ↦ k.1 ]) (λ w h. inr (h.other, h))
        (search (λ w. ⊥) (λ w b. absurd b) (others s S.choice) (others_ascend s S.choice i) (λ w c. c) (λ w x b c. absurd b) (inr (λ w b. b)))) [
          | inl l ↦ inl (l.0, least_enters s S v above l.0 l.1)
          | inr none ↦ inr none
        ]
