-- Where a bus puts something in, a way down from it leads to the one bus that may take out; so a branch that does not carry all of the
-- transfer between its ends has a detour.
use Rattle.std.specs.Prelude.{◌≡◌, ℕ, ◌≤◌, ◌<◌, ◌==◌, pos, Bool, true, false, not, List, [], ◌∷◌, ◌⊎◌, length, filter, refl}
use Rattle.std.specs.List.{Contains}
use Rattle.std.proofs.Common.{zero, suc, arith, ap, sym, ◌∙◌, subst, inl, inr}
use mathlib.Core.Path.{ap₂}
use Rattle.std.proofs.lemmas.Bool.Decides.{eqb_tells}
use Rattle.std.proofs.lemmas.List.Filters.{length-filter_both}
use Rattle.fraction_theory.specs.Fraction.{Fraction, whole, ◌-ℚ◌, ◌*ℚ◌, neg_ℚ}
use Rattle.fraction_theory.specs.Order.{◌≤ℚ◌, ◌<ℚ◌}
use Rattle.fraction_theory.specs.Sums.{sum_by}
use Rattle.fraction_theory.proofs.Ring.{by_ring, at, pnil, pone, pneg, ◌⊕◌, ◌⊗◌}
use Rattle.fraction_theory.proofs.FieldLaws.{ring_ℚ}
use Rattle.fraction_theory.proofs.OrderLaws.{≤ℚ_trans, ≤ℚ_of_same, ≤ℚ-or-<ℚ, <ℚ_irrefl, <ℚ_trans, <ℚ-≤ℚ, <ℚ-not-≤ℚ, not-≤ℚ, by_le1, by_le2, NonNeg-one}
use Rattle.fraction_theory.proofs.ListSums.{kept, same_or_not, Contains-head, Contains-cons, Contains-cases, Contains-filter}
use Rattle.network_theory.specs.Laws.{LawOfTheBridge}
use Rattle.network_theory.specs.Networks.{Branch, Network, places, IsTheoryNetwork, flow, injection, AreNeighbours, AreLinked, IsTransfer, StandsAt, without}
use Rattle.network_theory.proofs.ByParts.{taken, injection_taken}
use Rattle.network_theory.proofs.FlowSigns.{carried_down, carried_back}
use Rattle.network_theory.proofs.Outages.{transfer_without, network_without, contains_lost, carries_all}
use Rattle.network_theory.proofs.Places.{in_places}
use Rattle.network_theory.proofs.SignedSums.{sum_above, term_within, sum_by-neg}
use Rattle.network_theory.proofs.Solutions.{ends_differ}

-- of finitely many numbers one is above 0, or none is
some_above : {T : Type 0} (f : T → Fraction) (xs : List T) → ((x : T) × Contains xs x × (whole (pos 0) <ℚ f x)) ⊎ ((x : T) → Contains xs x → f x ≤ℚ whole (pos 0))
some_above f [] = inr (λ x c. absurd (Prim.omega (arith, c.1)))
some_above {T} f (x ∷ xs) = elim (≤ℚ-or-<ℚ (f x) (whole (pos 0))) [
  | inr h ↦ inl (x, Contains-head x xs, h)
  | inl h ↦ elim (some_above f xs) [
    | inl r ↦ inl (r.0, Contains-cons x xs r.0 r.1, r.2)
    | inr r ↦ inr (λ y c. elim (Contains-cases x xs y c) [ inl e ↦ subst (λ (z : T). f z ≤ℚ whole (pos 0)) e h | inr k ↦ r y k ])
  ]
]

-- a list of places without one that is in it is shorter
fewer : (xs : List ℕ) (j : ℕ) → Contains xs j → length (filter (λ w. not (w == j)) xs) < length xs
fewer xs j c =
    let both = length-filter_both (λ (w : ℕ). w == j) (λ (w : ℕ). not (w == j)) (λ w. refl) xs in
    let here : (j == j) ≡ true = elim (eqb_tells j j) [ inl t ↦ t.0 | inr t ↦ absurd (t.1 refl) ] in
    let one = Contains-filter (λ (w : ℕ). w == j) xs j c here in
    Prim.omega (arith, both, one.1)

stays : (xs : List ℕ) (j w : ℕ) → Contains xs w → ¬ (w ≡ j) → Contains (filter (λ w. not (w == j)) xs) w
stays xs j w c d = Contains-filter (λ (w : ℕ). not (w == j)) xs w c (elim (eqb_tells w j) [ inl t ↦ absurd (d t.1) | inr t ↦ ap not t.0 ])

module _ (n : Network) (angle : ℕ → Fraction) (is : IsTheoryNetwork n) where
  abbrev zero_ℚ : Fraction
  zero_ℚ = whole (pos 0)

  -- something goes in at the bus, or comes to it over a branch
  abbrev IsFed : ℕ → Type 0
  IsFed i = (zero_ℚ <ℚ injection n angle i) ⊎ ((b : Branch) × Contains n.branches b × (taken angle i b <ℚ zero_ℚ))

  -- then something leaves it
  leaves : (i : ℕ) → zero_ℚ ≤ℚ injection n angle i → IsFed i → (b : Branch) × Contains n.branches b × (zero_ℚ <ℚ taken angle i b)
  leaves i h fed = elim (some_above (taken angle i) n.branches) [
    | inl r ↦ r
    | inr none ↦
        let s = sum_by (taken angle i) n.branches in
        let against : (b : Branch) → Contains n.branches b → zero_ℚ ≤ℚ neg_ℚ (taken angle i b) = λ b c. by_le1 (taken angle i b ∷ []) pnil (pneg (at 0)) pone (at 0) pnil NonNeg-one (none b c) refl in
        let sum_is : sum_by (λ b. neg_ℚ (taken angle i b)) n.branches ≡ neg_ℚ s = sum_by-neg (taken angle i) n.branches in
        absurd (elim fed [
          | inl above ↦ <ℚ-not-≤ℚ zero_ℚ s (subst (λ t. zero_ℚ <ℚ t) (injection_taken n angle i) above)
              (by_le1 (s ∷ []) (at 0) pnil pone pnil (pneg (at 0)) NonNeg-one (subst (λ t. zero_ℚ ≤ℚ t) sum_is (sum_above (λ b. neg_ℚ (taken angle i b)) n.branches against)) refl)
          | inr r ↦ <ℚ-not-≤ℚ (taken angle i r.0) zero_ℚ r.2
              (by_le2 (taken angle i r.0 ∷ s ∷ []) pnil (at 0) pone (pneg (at 0)) (pneg (at 1)) pone pnil (at 1) NonNeg-one
              (subst (λ t. neg_ℚ (taken angle i r.0) ≤ℚ t) sum_is (term_within (λ b. neg_ℚ (taken angle i b)) n.branches against r.0 r.1))
              NonNeg-one (subst (λ t. zero_ℚ ≤ℚ t) (injection_taken n angle i) h) refl)
        ])
  ]

  -- a neighbour with a lesser angle, which is fed
  record IsBelow (i j : ℕ) : Type 0 where
    pub near : AreNeighbours n i j
    pub within : j < n.buses
    pub lower : angle j <ℚ angle i
    pub fed : IsFed j

  falls_to : (i : ℕ) (b : Branch) → Contains n.branches b → zero_ℚ <ℚ taken angle i b → (j : ℕ) × IsBelow i j
  falls_to i b c out =
      let x = flow angle b in
      let one = is.branches b c in
      elim (eqb_tells b.from i) [
        | inl u ↦ elim (eqb_tells b.to i) [
          | inl v ↦ absurd (<ℚ_irrefl zero_ℚ (subst (λ t. zero_ℚ <ℚ t) (ap₂ (λ (p q : Bool). kept p x -ℚ kept q x) u.0 v.0 ∙ ring_ℚ.plus_neg x) out))
          | inr v ↦
              let above : zero_ℚ <ℚ x = subst (λ t. zero_ℚ <ℚ t) (ap₂ (λ (p q : Bool). kept p x -ℚ kept q x) u.0 v.0 ∙ by_ring ring_ℚ (x ∷ []) (at 0 ⊕ pneg pnil) (at 0) refl) out in (
                b.to,
                record {
                  near = record { branch = b; there = c; ends = inl (u.1, refl) };
                  within = one.to;
                  lower = subst (λ (t : ℕ). angle b.to <ℚ angle t) u.1 (not-≤ℚ (angle b.from) (angle b.to) (λ h. <ℚ-not-≤ℚ zero_ℚ x above (carried_back b.susceptance (angle b.from) (angle b.to) one.susceptance h)));
                  fed = inr (
                    b,
                    c,
                    elim (eqb_tells b.from b.to) [
                      | inl w ↦ absurd (v.1 (sym w.1 ∙ u.1))
                      | inr w ↦ elim (eqb_tells b.to b.to) [
                        | inr z ↦ absurd (z.1 refl)
                        | inl z ↦ subst (λ t. t <ℚ zero_ℚ) (sym (ap₂ (λ (p q : Bool). kept p x -ℚ kept q x) w.0 z.0))
                            (not-≤ℚ zero_ℚ (zero_ℚ -ℚ x) (λ h. <ℚ-not-≤ℚ zero_ℚ x above (by_le1 (x ∷ []) (at 0) pnil pone pnil (pnil ⊕ pneg (at 0)) NonNeg-one h refl)))
                      ]
                    ],
                  );
                },
              )
        ]
        | inr u ↦ elim (eqb_tells b.to i) [
          | inl v ↦
              let above : zero_ℚ <ℚ (zero_ℚ -ℚ x) = subst (λ t. zero_ℚ <ℚ t) (ap₂ (λ (p q : Bool). kept p x -ℚ kept q x) u.0 v.0) out in (
                b.from,
                record {
                  near = record { branch = b; there = c; ends = inr (refl, v.1) };
                  within = one.from;
                  lower = subst (λ (t : ℕ). angle b.from <ℚ angle t) v.1 (not-≤ℚ (angle b.to) (angle b.from) (λ h. <ℚ-not-≤ℚ zero_ℚ (zero_ℚ -ℚ x) above
                      (by_le1 (x ∷ []) (pnil ⊕ pneg (at 0)) pnil pone pnil (at 0) NonNeg-one (carried_down b.susceptance (angle b.from) (angle b.to) one.susceptance h) refl)));
                  fed = inr (
                    b,
                    c,
                    elim (eqb_tells b.from b.from) [
                      | inr z ↦ absurd (z.1 refl)
                      | inl z ↦ elim (eqb_tells b.to b.from) [
                        | inl w ↦ absurd (u.1 (sym w.1 ∙ v.1))
                        | inr w ↦ subst (λ t. t <ℚ zero_ℚ) (sym (ap₂ (λ (p q : Bool). kept p x -ℚ kept q x) z.0 w.0))
                            (not-≤ℚ zero_ℚ (x -ℚ zero_ℚ) (λ h. <ℚ-not-≤ℚ zero_ℚ (zero_ℚ -ℚ x) above (by_le1 (x ∷ []) (pnil ⊕ pneg (at 0)) pnil pone pnil (at 0 ⊕ pneg pnil) NonNeg-one h refl)))
                      ]
                    ],
                  );
                },
              )
          | inr v ↦ absurd (<ℚ_irrefl zero_ℚ (subst (λ t. zero_ℚ <ℚ t) (ap₂ (λ (p q : Bool). kept p x -ℚ kept q x) u.0 v.0 ∙ ring_ℚ.plus_neg zero_ℚ) out))
        ]
      ]

  module _ (sink : ℕ) (h : (i : ℕ) → i < n.buses → ¬ (i ≡ sink) → zero_ℚ ≤ℚ injection n angle i) where
    goes_on : (i : ℕ) → i < n.buses → IsFed i → (i ≡ sink) ⊎ ((j : ℕ) × IsBelow i j)
    goes_on i p fed = elim (same_or_not i sink) [
      | inl e ↦ inl e
      | inr d ↦ let out = leaves i (h i p d) fed in inr (falls_to i out.0 out.1 out.2)
    ]

    -- the places below one are in a list, which gets shorter on the way down
    pub descent : (m : ℕ) (below : List ℕ) → length below ≤ m → (i : ℕ) → i < n.buses → IsFed i
        → ((j : ℕ) → j < n.buses → angle j <ℚ angle i → Contains below j) → AreLinked n i sink
    descent zero below short i p fed all = elim (goes_on i p fed) [
      | inl e ↦ record { chain = []; lead = e }
      | inr r ↦ absurd (Prim.omega (arith, short, (all r.0 r.1.within r.1.lower).1))
    ]
    descent (suc m) below short i p fed all = elim (goes_on i p fed) [
      | inl e ↦ record { chain = []; lead = e }
      | inr r ↦
          let j = r.0 in
          let next = r.1 in
          let there = all j next.within next.lower in
          let rest = descent m (filter (λ w. not (w == j)) below) (Prim.omega (arith, short, fewer below j there)) j next.within next.fed
          (λ k q low. stays below j k (all k q (<ℚ_trans (angle k) (angle j) (angle i) low next.lower)) (λ e. <ℚ_irrefl (angle j) (subst (λ (t : ℕ). angle t <ℚ angle j) e low))) in
          record { chain = j ∷ rest.chain; lead = (next.near, rest.lead) }
    ]

module _ (n : Network) (place : ℕ) (lost : Branch) (transfer : ℕ → Fraction) (is : IsTheoryNetwork n) (stands : StandsAt n place lost) (t : IsTransfer n transfer lost.from lost.to) where
  has : (i : ℕ) → i < n.buses → (p q : Bool) → (lost.from == i) ≡ p → (lost.to == i) ≡ q
      → injection (without n place) transfer i ≡ (kept p (whole (pos 1)) -ℚ kept q (whole (pos 1))) *ℚ (whole (pos 1) -ℚ flow transfer lost)
  has i w p q e f =
      transfer_without n place lost stands transfer t i w ∙ ap₂ (λ (x y : Bool). (kept x (whole (pos 1)) -ℚ kept y (whole (pos 1))) *ℚ (whole (pos 1) -ℚ flow transfer lost)) e f

  detour : flow transfer lost <ℚ whole (pos 1) → AreLinked (without n place) lost.from lost.to
  detour below = descent (without n place) transfer (network_without n place lost stands is) lost.to elsewhere (length (places n)) (places n) (Prim.omega arith) lost.from
      (is.branches lost (contains_lost n place lost stands)).from (inl at_source) (λ j q low. in_places n j q)
    where
      left : Fraction
      left = whole (pos 1) -ℚ flow transfer lost

      above : whole (pos 0) <ℚ left
      above = not-≤ℚ left (whole (pos 0)) (λ h. <ℚ-not-≤ℚ (flow transfer lost) (whole (pos 1)) below
          (by_le1 (flow transfer lost ∷ []) pone (at 0) pone (pone ⊕ pneg (at 0)) pnil NonNeg-one h refl))

      elsewhere : (i : ℕ) → i < n.buses → ¬ (i ≡ lost.to) → whole (pos 0) ≤ℚ injection (without n place) transfer i
      elsewhere i w d =
          let x = injection (without n place) transfer i in
          elim (eqb_tells lost.to i) [
            | inl v ↦ absurd (d (sym v.1))
            | inr v ↦ elim (eqb_tells lost.from i) [
              | inl u ↦ ≤ℚ_trans (whole (pos 0)) left x (<ℚ-≤ℚ (whole (pos 0)) left above)
                  (≤ℚ_of_same left x (by_ring ring_ℚ (left ∷ []) (at 0) ((pone ⊕ pneg pnil) ⊗ at 0) refl ∙ sym (has i w true false u.0 v.0)))
              | inr u ↦ ≤ℚ_of_same (whole (pos 0)) x (by_ring ring_ℚ (left ∷ []) pnil ((pnil ⊕ pneg pnil) ⊗ at 0) refl ∙ sym (has i w false false u.0 v.0))
            ]
          ]

      at_source : whole (pos 0) <ℚ injection (without n place) transfer lost.from
      at_source = elim (eqb_tells lost.from lost.from) [
        | inr u ↦ absurd (u.1 refl)
        | inl u ↦ elim (eqb_tells lost.to lost.from) [
          | inl v ↦ absurd (ends_differ n transfer lost.from lost.to t (sym v.1))
          | inr v ↦ subst (λ x. whole (pos 0) <ℚ x) (by_ring ring_ℚ (left ∷ []) (at 0) ((pone ⊕ pneg pnil) ⊗ at 0) refl ∙ sym (has lost.from t.source_is true false u.0 v.0)) above
        ]
      ]

pub law_of_the_bridge : LawOfTheBridge
law_of_the_bridge n place lost transfer is stands t = (
  detour n place lost transfer is stands t,
  λ alone. elim (≤ℚ-or-<ℚ (whole (pos 1)) (flow transfer lost)) [
    | inl above ↦ carries_all n transfer lost is (contains_lost n place lost stands) t above
    | inr below ↦ absurd (alone (detour n place lost transfer is stands t below))
  ],
)
