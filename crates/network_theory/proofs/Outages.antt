-- A network without one of its branches: its injections, the angles after an outage, and what the branch carries of the transfer between its ends.
use Rattle.std.specs.Prelude.{◌≡◌, ℕ, ◌<◌, ◌==◌, pos, Bool, true, false, List, [], ◌∷◌, length, slice_index_or, refl}
use Rattle.std.specs.List.{Contains, remove}
use Rattle.std.proofs.Common.{zero, suc, arith, ap, sym, ◌∙◌, subst, inl, inr}
use mathlib.Core.Path.{ap₂}
use Rattle.std.proofs.lemmas.Bool.Decides.{eqb_tells}
use Rattle.fraction_theory.specs.Fraction.{Fraction, whole, ◌+ℚ◌, ◌-ℚ◌, ◌*ℚ◌, recip_ℚ}
use Rattle.fraction_theory.specs.Order.{◌≤ℚ◌, ◌<ℚ◌}
use Rattle.fraction_theory.specs.Sums.{sum_by}
use Rattle.fraction_theory.proofs.Ring.{by_ring, by_ring1, by_ring2, at, pnil, pone, pneg, ◌⊕◌, ◌⊗◌, times_nil}
use Rattle.fraction_theory.proofs.FieldLaws.{ring_ℚ, *ℚ-recip}
use Rattle.fraction_theory.proofs.OrderLaws.{≤ℚ_trans, ≤ℚ_antisym, ≤ℚ_of_same, ≤ℚ_total, ≤ℚ-or-<ℚ, <ℚ_irrefl, <ℚ-not-≤ℚ, by_le1, by_rest, NonNeg-one, NonNeg-times, NonNeg_from, NonNeg_to, le_to, *ℚ-nil}
use Rattle.fraction_theory.proofs.SignLaws.{abs_above}
use Rattle.fraction_theory.proofs.SumLaws.{sum_by-same, sum_by-nil, sum_by-plus, sum_by-times}
use Rattle.fraction_theory.proofs.ListSums.{kept, sum_by-members, Contains-head, Contains-cons, Contains-cases}
use Rattle.network_theory.specs.Laws.{LawOfTheOutage, LawOfTheDetour, LawOfTheOutageFactors}
use Rattle.network_theory.specs.Networks.{Branch, Network, places, IsTheoryNetwork, flow, injection, AreLinked, IsTransfer, StandsAt, without, moved}
use Rattle.network_theory.proofs.ByParts.{taken, injection_taken, by_parts}
use Rattle.network_theory.proofs.Chains.{joined_by, same_along}
use Rattle.network_theory.proofs.Factors.{law_of_the_factors}
use Rattle.network_theory.proofs.FlowSigns.{carried_down, carried_back}
use Rattle.network_theory.proofs.Places.{below_places}
use Rattle.network_theory.proofs.SignedSums.{term_within}
use Rattle.network_theory.proofs.Solutions.{injection_minus, law_of_rest, apart, ends_differ}

module _ {T : Type 0} where
  -- a list without one place
  sum_by-remove : (f : T → Fraction) (xs : List T) (k : ℕ) (d : T) → k < length xs → sum_by f xs ≡ f (slice_index_or xs k d) +ℚ sum_by f (remove xs k)
  sum_by-remove f [] k d h = absurd (Prim.omega (arith, h))
  sum_by-remove f (x ∷ xs) zero d h = refl
  sum_by-remove f (x ∷ xs) (suc k) d h = ap (λ t. f x +ℚ t) (sum_by-remove f xs k d (Prim.omega (arith, h)))
      ∙ by_ring ring_ℚ (f x ∷ f (slice_index_or xs k d) ∷ sum_by f (remove xs k) ∷ []) (at 0 ⊕ (at 1 ⊕ at 2)) (at 1 ⊕ (at 0 ⊕ at 2)) refl

  Contains-remove : (xs : List T) (k : ℕ) (x : T) → Contains (remove xs k) x → Contains xs x
  Contains-remove [] zero x c = c
  Contains-remove [] (suc k) x c = c
  Contains-remove (y ∷ xs) zero x c = Contains-cons y xs x c
  Contains-remove (y ∷ xs) (suc k) x c = elim (Contains-cases y (remove xs k) x c) [
    | inl e ↦ subst (λ (z : T). Contains (y ∷ xs) z) e (Contains-head y xs)
    | inr m ↦ Contains-cons y xs x (Contains-remove xs k x m)
  ]

-- 1 at the first bus of the branch, -1 at its second, 0 elsewhere
abbrev pub ends : ℕ → Branch → Fraction
ends i b = kept (b.from == i) (whole (pos 1)) -ℚ kept (b.to == i) (whole (pos 1))

kept_times : (b : Bool) (x : Fraction) → kept b x ≡ kept b (whole (pos 1)) *ℚ x
kept_times true x = by_ring ring_ℚ (x ∷ []) (at 0) (pone ⊗ at 0) refl
kept_times false x = by_ring ring_ℚ (x ∷ []) pnil (pnil ⊗ at 0) refl

pub taken_ends : (angle : ℕ → Fraction) (i : ℕ) (b : Branch) → taken angle i b ≡ ends i b *ℚ flow angle b
taken_ends angle i b =
    let u = kept (b.from == i) (whole (pos 1)) in
    let v = kept (b.to == i) (whole (pos 1)) in
    ap₂ ◌-ℚ◌ (kept_times (b.from == i) (flow angle b)) (kept_times (b.to == i) (flow angle b))
    ∙ by_ring ring_ℚ (u ∷ v ∷ flow angle b ∷ []) ((at 0 ⊗ at 2) ⊕ pneg (at 1 ⊗ at 2)) ((at 0 ⊕ pneg (at 1)) ⊗ at 2) refl

pub flow_moved : (angle : ℕ → Fraction) (times : Fraction) (transfer : ℕ → Fraction) (b : Branch) → flow (moved angle times transfer) b ≡ flow angle b +ℚ times *ℚ flow transfer b
flow_moved angle times transfer b = by_ring ring_ℚ (b.susceptance ∷ angle b.from ∷ angle b.to ∷ times ∷ transfer b.from ∷ transfer b.to ∷ [])
    (at 0 ⊗ ((at 1 ⊕ (at 3 ⊗ at 4)) ⊕ pneg (at 2 ⊕ (at 3 ⊗ at 5)))) ((at 0 ⊗ (at 1 ⊕ pneg (at 2))) ⊕ (at 3 ⊗ (at 0 ⊗ (at 4 ⊕ pneg (at 5))))) refl

pub injection_moved : (n : Network) (angle : ℕ → Fraction) (times : Fraction) (transfer : ℕ → Fraction) (i : ℕ)
    → injection n (moved angle times transfer) i ≡ injection n angle i +ℚ times *ℚ injection n transfer i
injection_moved n angle times transfer i =
    injection_taken n (moved angle times transfer) i
    ∙ sum_by-same (taken (moved angle times transfer) i) (λ b. taken angle i b +ℚ times *ℚ taken transfer i b) n.branches one
    ∙ sum_by-plus (taken angle i) (λ b. times *ℚ taken transfer i b) n.branches
    ∙ ap₂ ◌+ℚ◌ (sym (injection_taken n angle i)) (sum_by-times times (taken transfer i) n.branches ∙ ap (λ t. times *ℚ t) (sym (injection_taken n transfer i)))
  where
    one : (b : Branch) → taken (moved angle times transfer) i b ≡ taken angle i b +ℚ times *ℚ taken transfer i b
    one b =
        taken_ends (moved angle times transfer) i b
        ∙ ap (λ t. ends i b *ℚ t) (flow_moved angle times transfer b)
        ∙ by_ring ring_ℚ (ends i b ∷ flow angle b ∷ times ∷ flow transfer b ∷ []) (at 0 ⊗ (at 1 ⊕ (at 2 ⊗ at 3))) ((at 0 ⊗ at 1) ⊕ (at 2 ⊗ (at 0 ⊗ at 3))) refl
        ∙ ap₂ (λ s t. s +ℚ times *ℚ t) (sym (taken_ends angle i b)) (sym (taken_ends transfer i b))

pub transfer_ends : (n : Network) (transfer : ℕ → Fraction) (b : Branch) → IsTransfer n transfer b.from b.to → (i : ℕ) → i < n.buses → injection n transfer i ≡ ends i b
transfer_ends n transfer b t i p = elim (eqb_tells b.from i) [
  | inl u ↦ elim (eqb_tells b.to i) [
    | inl v ↦ absurd (ends_differ n transfer b.from b.to t (u.1 ∙ sym v.1))
    | inr v ↦ ap (injection n transfer) (sym u.1) ∙ t.source_has ∙ by_ring ring_ℚ [] pone (pone ⊕ pneg pnil) refl
        ∙ sym (ap₂ (λ (x y : Bool). kept x (whole (pos 1)) -ℚ kept y (whole (pos 1))) u.0 v.0)
  ]
  | inr u ↦ elim (eqb_tells b.to i) [
    | inl v ↦ ap (injection n transfer) (sym v.1) ∙ t.sink_has ∙ by_ring ring_ℚ [] (pneg pone) (pnil ⊕ pneg pone) refl
        ∙ sym (ap₂ (λ (x y : Bool). kept x (whole (pos 1)) -ℚ kept y (whole (pos 1))) u.0 v.0)
    | inr v ↦ t.elsewhere i p (λ e. u.1 (sym e)) (λ e. v.1 (sym e)) ∙ by_ring ring_ℚ [] pnil (pnil ⊕ pneg pnil) refl
        ∙ sym (ap₂ (λ (x y : Bool). kept x (whole (pos 1)) -ℚ kept y (whole (pos 1))) u.0 v.0)
  ]
]

module _ (n : Network) (place : ℕ) (lost : Branch) (stands : StandsAt n place lost) where
  pub contains_lost : Contains n.branches lost
  contains_lost = (place, stands.within, stands.there)

  pub network_without : IsTheoryNetwork n → IsTheoryNetwork (without n place)
  network_without is = record {
    branches = λ b c. let one = is.branches b (Contains-remove n.branches place b c) in record { from = one.from; to = one.to; susceptance = one.susceptance };
  }

  -- the lost branch takes nothing any more
  pub injection_without : (angle : ℕ → Fraction) (i : ℕ) → injection n angle i ≡ ends i lost *ℚ flow angle lost +ℚ injection (without n place) angle i
  injection_without angle i =
      injection_taken n angle i
      ∙ sum_by-remove (taken angle i) n.branches place lost stands.within
      ∙ ap₂ ◌+ℚ◌ (ap (taken angle i) stands.there ∙ taken_ends angle i lost) (sym (injection_taken (without n place) angle i))

  module _ (transfer : ℕ → Fraction) (t : IsTransfer n transfer lost.from lost.to) where
    -- of the transfer the other branches carry the rest
    pub transfer_without : (i : ℕ) → i < n.buses → injection (without n place) transfer i ≡ ends i lost *ℚ (whole (pos 1) -ℚ flow transfer lost)
    transfer_without i p =
        let whole_is : ends i lost ≡ ends i lost *ℚ flow transfer lost +ℚ injection (without n place) transfer i = sym (transfer_ends n transfer lost t i p) ∙ injection_without transfer i in
        by_ring1 ring_ℚ (injection (without n place) transfer i ∷ ends i lost ∷ flow transfer lost ∷ []) (at 0) (at 1 ⊗ (pone ⊕ pneg (at 2))) (pneg pone) (at 1) ((at 1 ⊗ at 2) ⊕ at 0) whole_is refl

    pub moved_without : (angle : ℕ → Fraction) (times : Fraction) → times *ℚ (whole (pos 1) -ℚ flow transfer lost) ≡ flow angle lost
        → (i : ℕ) → i < n.buses → injection (without n place) (moved angle times transfer) i ≡ injection n angle i
    moved_without angle times is i p =
        let e = ends i lost in
        injection_moved (without n place) angle times transfer i
        ∙ ap (λ x. injection (without n place) angle i +ℚ times *ℚ x) (transfer_without i p)
        ∙ by_ring1 ring_ℚ (injection (without n place) angle i ∷ times ∷ e ∷ flow transfer lost ∷ flow angle lost ∷ []) (at 0 ⊕ (at 1 ⊗ (at 2 ⊗ (pone ⊕ pneg (at 3))))) ((at 2 ⊗ at 4) ⊕ at 0)
        (at 2) (at 1 ⊗ (pone ⊕ pneg (at 3))) (at 4) is refl
        ∙ sym (injection_without angle i)

pub law_of_the_outage : LawOfTheOutage
law_of_the_outage n place lost angle transfer times stands t is = (moved_without n place lost stands transfer t angle times is, flow_moved angle times transfer)

-- a flow times the difference of angles along it
abbrev pub loss : (ℕ → Fraction) → Branch → Fraction
loss angle b = (angle b.from -ℚ angle b.to) *ℚ flow angle b

module _ (n : Network) (angle : ℕ → Fraction) (is : IsTheoryNetwork n) where
  pub losses_above : (b : Branch) → Contains n.branches b → whole (pos 0) ≤ℚ loss angle b
  losses_above b c =
      let s = b.susceptance in
      let x = angle b.from in
      let y = angle b.to in
      let above = (is.branches b c).susceptance in
      elim (≤ℚ_total y x) [
        | inl h ↦ NonNeg_to (loss angle b) (NonNeg-times (x -ℚ y) (flow angle b) (le_to y x h) (NonNeg_from (flow angle b) (carried_down s x y above h)))
        | inr h ↦ by_rest (x ∷ y ∷ flow angle b ∷ []) pnil ((at 0 ⊕ pneg (at 1)) ⊗ at 2) ((at 1 ⊕ pneg (at 0)) ⊗ (pnil ⊕ pneg (at 2)))
            (NonNeg-times (y -ℚ x) (whole (pos 0) -ℚ flow angle b) (le_to x y h) (le_to (flow angle b) (whole (pos 0)) (carried_back s x y above h))) refl
      ]

  -- without injections the angles along each branch are equal, as the losses sum to 0
  module _ (rest : (i : ℕ) → i < n.buses → injection n angle i ≡ whole (pos 0)) where
    no_losses : sum_by (loss angle) n.branches ≡ whole (pos 0)
    no_losses =
        sym (by_parts n is angle angle)
        ∙ sum_by-members (λ i. angle i *ℚ injection n angle i) (λ _. whole (pos 0)) (places n) (λ i c. ap (λ t. angle i *ℚ t) (rest i (below_places n i c)) ∙ times_nil ring_ℚ (angle i))
        ∙ sum_by-nil (places n)

    level : (b : Branch) → Contains n.branches b → angle b.from ≡ angle b.to
    level b c =
        let s = b.susceptance in
        let x = angle b.from in
        let y = angle b.to in
        let nothing : loss angle b ≡ whole (pos 0) = ≤ℚ_antisym (loss angle b) (whole (pos 0)) (subst (λ t. loss angle b ≤ℚ t) no_losses (term_within (loss angle) n.branches losses_above b c)) (losses_above b c) in
        let same : x -ℚ y ≡ whole (pos 0) → x ≡ y = λ e. by_ring1 ring_ℚ (x ∷ y ∷ []) (at 0) (at 1) pone (at 0 ⊕ pneg (at 1)) pnil e refl in
        elim (*ℚ-nil (x -ℚ y) (flow angle b) nothing) [
          | inl e ↦ same e
          | inr f ↦ elim (*ℚ-nil s (x -ℚ y) f) [
            | inl e ↦ absurd (<ℚ_irrefl (whole (pos 0)) (subst (λ t. whole (pos 0) <ℚ t) e (is.branches b c).susceptance))
            | inr e ↦ same e
          ]
        ]

-- no branch carries more than the transfer
pub carries_all : (n : Network) (transfer : ℕ → Fraction) (b : Branch) → IsTheoryNetwork n → Contains n.branches b → IsTransfer n transfer b.from b.to
    → whole (pos 1) ≤ℚ flow transfer b → flow transfer b ≡ whole (pos 1)
carries_all n transfer b is c t above =
    let x = flow transfer b in
    ≤ℚ_antisym x (whole (pos 1))
    (subst (λ y. y ≤ℚ whole (pos 1)) (abs_above x (≤ℚ_trans (whole (pos 0)) (whole (pos 1)) x (NonNeg_to (whole (pos 1)) NonNeg-one) above)) (law_of_the_factors n transfer b.from b.to is t b c))
    above

pub law_of_the_detour : LawOfTheDetour
law_of_the_detour n place lost transfer is stands t joined = elim (≤ℚ-or-<ℚ (whole (pos 1)) (flow transfer lost)) [
  | inr below ↦ below
  | inl above ↦
      let all : flow transfer lost ≡ whole (pos 1) = carries_all n transfer lost is (contains_lost n place lost stands) t above in
      let rest : (i : ℕ) → i < n.buses → injection (without n place) transfer i ≡ whole (pos 0) = λ i p. transfer_without n place lost stands transfer t i p
      ∙ ap (λ y. ends i lost *ℚ (whole (pos 1) -ℚ y)) all ∙ by_ring ring_ℚ (ends i lost ∷ []) (at 0 ⊗ (pone ⊕ pneg pone)) pnil refl in
      let same : transfer lost.from ≡ transfer lost.to = same_along (without n place) transfer (level (without n place) transfer (network_without n place lost stands is) rest) joined.chain lost.from lost.to joined.lead in
      absurd (apart (sym all ∙ ap (λ y. lost.susceptance *ℚ (y -ℚ transfer lost.to)) same
      ∙ by_ring ring_ℚ (lost.susceptance ∷ transfer lost.to ∷ []) (at 0 ⊗ (at 1 ⊕ pneg (at 1))) pnil refl))
]

-- the angles after the outage and the moved ones differ by one number alone
pub law_of_the_outage_factors : LawOfTheOutageFactors
law_of_the_outage_factors n place lost reference angle after transfer is stands t connected same b c =
    let left : Fraction = whole (pos 1) -ℚ flow transfer lost in
    let times : Fraction = flow angle lost *ℚ recip_ℚ left in
    let from_is = (is.branches lost (contains_lost n place lost stands)).from in
    let to_is = (is.branches lost (contains_lost n place lost stands)).to in
    let joined : AreLinked (without n place) lost.from lost.to =
    joined_by (without n place) lost.from reference lost.to (connected.joined lost.from from_is) (connected.joined lost.to to_is) in
    let below : flow transfer lost <ℚ whole (pos 1) = law_of_the_detour n place lost transfer is stands t joined in
    let not_all : ¬ (left ≡ whole (pos 0)) = λ e. <ℚ-not-≤ℚ (flow transfer lost) (whole (pos 1)) below
    (by_le1 (flow transfer lost ∷ []) pone (at 0) pone (pone ⊕ pneg (at 0)) pnil NonNeg-one (≤ℚ_of_same left (whole (pos 0)) e) refl) in
    let makes : times *ℚ left ≡ flow angle lost =
    by_ring1 ring_ℚ (flow angle lost ∷ left ∷ recip_ℚ left ∷ []) ((at 0 ⊗ at 2) ⊗ at 1) (at 0) (at 0) (at 1 ⊗ at 2) pone (*ℚ-recip left not_all) refl in
    let guess : ℕ → Fraction = moved angle times transfer in
    let one = (network_without n place lost stands is).branches b c in
    let by : Fraction = after reference -ℚ guess reference in
    let level : (i : ℕ) → i < n.buses → after i -ℚ guess i ≡ by = law_of_rest (without n place) reference (λ i. after i -ℚ guess i) (network_without n place lost stands is) connected
    (λ i p d. injection_minus after guess (without n place) i
    ∙ ap₂ ◌-ℚ◌ (same i p d) (moved_without n place lost stands transfer t angle times makes i p)
    ∙ ring_ℚ.plus_neg (injection n angle i)) in
    by_ring2 ring_ℚ (b.susceptance ∷ after b.from ∷ after b.to ∷ guess b.from ∷ guess b.to ∷ by ∷ []) (at 0 ⊗ (at 1 ⊕ pneg (at 2))) (at 0 ⊗ (at 3 ⊕ pneg (at 4)))
    (at 0) (at 1 ⊕ pneg (at 3)) (at 5) (pneg (at 0)) (at 2 ⊕ pneg (at 4)) (at 5) (level b.from one.from) (level b.to one.to) refl
    ∙ flow_moved angle times transfer b
    ∙ by_ring ring_ℚ (flow angle b ∷ flow angle lost ∷ recip_ℚ left ∷ flow transfer b ∷ []) (at 0 ⊕ ((at 1 ⊗ at 2) ⊗ at 3)) (at 0 ⊕ ((at 3 ⊗ at 2) ⊗ at 1)) refl
