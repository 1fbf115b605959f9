-- What a branch carries of 1 from bus to bus is one number, of a size of at most 1.
use Rattle.std.specs.Prelude.{◌≡◌, ◌≢◌, ℕ, ◌<◌, pos, Bool, [], ◌∷◌, Contains, if◌then◌else◌, refl}
use Rattle.std.proofs.Common.{ap, sym, ◌∙◌, subst, inl, inr}
use mathlib.Core.Path.{ap₂}
use Rattle.std.proofs.lemmas.Bool.Decides.{eqb_tells}
use Rattle.fraction_theory.specs.Fraction.{Fraction, whole, ◌+ℚ◌, ◌-ℚ◌, ◌*ℚ◌}
use Rattle.fraction_theory.specs.Order.{◌≤ℚ◌}
use Rattle.fraction_theory.specs.Signs.{abs_ℚ}
use Rattle.fraction_theory.specs.Sums.{sum_by}
use Rattle.fraction_theory.proofs.FieldLaws.{ring_ℚ}
use Rattle.fraction_theory.proofs.OrderLaws.{≤ℚ_refl}
use Rattle.fraction_theory.proofs.Ring.{by_ring, by_ring1, at, pnil, pone, pneg, ◌⊕◌, ◌⊗◌}
use Rattle.fraction_theory.proofs.SignLaws.{abs_above}
use Rattle.fraction_theory.proofs.ListSums.{except, put_at-here, put_at-elsewhere, same_or_not, sum_by-members, sum_by-one, sum_by-split}
use Rattle.net_paths.specs.Loops.{kept}
use Rattle.network_theory.specs.Carrying.{IsCarried, one_at, put_through}
use Rattle.network_theory.specs.Networks.{Branch, Network, IsConnected, IsTheoryNetwork, IsSolution, IsTransfer, flow, injection, places}
use Rattle.network_theory.proofs.ByParts.{law_of_balance}
use Rattle.network_theory.proofs.Existence.{law_of_solutions}
use Rattle.network_theory.proofs.Factors.{law_of_the_factors}
use Rattle.network_theory.proofs.Places.{below_places, distinct_places, in_places}
use Rattle.network_theory.proofs.SignedSums.{sum_by-minus}
use Rattle.network_theory.proofs.Solutions.{law_of_one_solution, law_of_rest, zero_within_one}
use Rattle.dc_network.specs.DcNetworks.{dc_branch, dc_network}
use Rattle.dc_network.specs.Laws.{LawOfOneFactor}
use Rattle.dc_network.proofs.Connection.{Contains-map, is_connected, is_network}

-- ---- 1 at a place
at_itself : (i v : ℕ) → i ≡ v → one_at i v ≡ whole (pos 1)
at_itself i v e = elim (eqb_tells i v) [ inl t ↦ ap (λ (b : Bool). if b then whole (pos 1) else whole (pos 0)) t.0 | inr t ↦ absurd (t.1 e) ]

at_others : (i v : ℕ) → i ≢ v → one_at i v ≡ whole (pos 0)
at_others i v n = elim (eqb_tells i v) [ inl t ↦ absurd (n t.1) | inr t ↦ ap (λ (b : Bool). if b then whole (pos 1) else whole (pos 0)) t.0 ]

module _ (n : Network) where
  one_in_all : (i : ℕ) → i < n.buses → sum_by (one_at i) (places n) ≡ whole (pos 1)
  one_in_all i lt = sum_by-one (one_at i) i (places n) (distinct_places n) (in_places n i lt) (λ w c d. at_others i w (λ e. d (sym e))) ∙ at_itself i i refl

  nothing_in_all : (source sink : ℕ) → source < n.buses → sink < n.buses → sum_by (put_through source sink) (places n) ≡ whole (pos 0)
  nothing_in_all source sink p q =
      sum_by-minus (one_at source) (one_at sink) (places n) ∙ ap₂ ◌-ℚ◌ (one_in_all source p) (one_in_all sink q) ∙ by_ring ring_ℚ [] (pone ⊕ pneg pone) pnil refl

  -- numbers that sum to 0 over the buses, and are the same at all but one, are the same at that
  same_at_last : (f g : ℕ → Fraction) (r : ℕ) → r < n.buses → sum_by f (places n) ≡ whole (pos 0) → sum_by g (places n) ≡ whole (pos 0)
      → ((i : ℕ) → i < n.buses → ¬ (i ≡ r) → f i ≡ g i) → f r ≡ g r
  same_at_last f g r lt zero zero' same =
      let rest : sum_by (except r f) (places n) ≡ sum_by (except r g) (places n) = sum_by-members (except r f) (except r g) (places n) others in
      by_ring1 ring_ℚ (f r ∷ g r ∷ sum_by (except r g) (places n) ∷ []) (at 0) (at 1) pone (at 0 ⊕ at 2) (at 1 ⊕ at 2)
      (ap (λ t. f r +ℚ t) (sym rest) ∙ sym (sum_by-split f r (places n) (distinct_places n) (in_places n r lt)) ∙ zero ∙ sym zero' ∙ sum_by-split g r (places n) (distinct_places n) (in_places n r lt)) refl
    where
      others : (i : ℕ) → Contains (places n) i → except r f i ≡ except r g i
      others i c = elim (same_or_not i r) [
        | inl e ↦ put_at-here r (whole (pos 0)) f i e ∙ sym (put_at-here r (whole (pos 0)) g i e)
        | inr d ↦ put_at-elsewhere r (whole (pos 0)) f i d ∙ same i (below_places n i c) d ∙ sym (put_at-elsewhere r (whole (pos 0)) g i d)
      ]

-- ---- in a connected network
module _ (n : Network) (r source sink : ℕ) (is : IsTheoryNetwork n) (c : IsConnected n r) (r_in : r < n.buses) (source_in : source < n.buses) (sink_in : sink < n.buses) where
  -- the reference puts in what the others leave
  pub everywhere : (angle : ℕ → Fraction) → IsSolution n r (put_through source sink) angle → (i : ℕ) → i < n.buses → injection n angle i ≡ put_through source sink i
  everywhere angle s i lt = elim (same_or_not i r) [
    | inl e ↦ subst (λ (k : ℕ). injection n angle k ≡ put_through source sink k) (sym e)
        (same_at_last n (injection n angle) (put_through source sink) r r_in (law_of_balance n angle is) (nothing_in_all n source sink source_in sink_in) s.injections)
    | inr d ↦ s.injections i lt d
  ]

  transfers : (angle : ℕ → Fraction) → IsSolution n r (put_through source sink) angle → source ≢ sink → IsTransfer n angle source sink
  transfers angle s d = record {
    source_is = source_in;
    sink_is = sink_in;
    source_has = everywhere angle s source source_in ∙ ap₂ ◌-ℚ◌ (at_itself source source refl) (at_others sink source (λ e. d (sym e))) ∙ by_ring ring_ℚ [] (pone ⊕ pneg pnil) pone refl;
    sink_has = everywhere angle s sink sink_in ∙ ap₂ ◌-ℚ◌ (at_others source sink d) (at_itself sink sink refl) ∙ by_ring ring_ℚ [] (pnil ⊕ pneg pone) (pneg pone) refl;
    elsewhere = λ i lt a b. everywhere angle s i lt ∙ ap₂ ◌-ℚ◌ (at_others source i (λ e. a (sym e))) (at_others sink i (λ e. b (sym e))) ∙ by_ring ring_ℚ [] (pnil ⊕ pneg pnil) pnil refl;
  }

  -- from a bus to itself nothing is carried
  rests : (angle : ℕ → Fraction) → IsSolution n r (put_through source sink) angle → source ≡ sink → (b : Branch) → Contains n.branches b → flow angle b ≡ whole (pos 0)
  rests angle s e b there =
      let none : (i : ℕ) → i < n.buses → ¬ (i ≡ r) → injection n angle i ≡ whole (pos 0) = λ i lt d.
      s.injections i lt d ∙ ap (λ (k : ℕ). one_at source i -ℚ one_at k i) (sym e) ∙ ring_ℚ.plus_neg (one_at source i) in
      let one = is.branches b there in
      ap₂ (λ x y. b.susceptance *ℚ (x -ℚ y)) (law_of_rest n r angle is c none b.from one.from) (law_of_rest n r angle is c none b.to one.to)
      ∙ by_ring ring_ℚ (b.susceptance ∷ angle r ∷ []) (at 0 ⊗ (at 1 ⊕ pneg (at 1))) pnil refl

  within_one : (angle : ℕ → Fraction) → IsSolution n r (put_through source sink) angle → (b : Branch) → Contains n.branches b → abs_ℚ (flow angle b) ≤ℚ whole (pos 1)
  within_one angle s b there = elim (same_or_not source sink) [
    | inl e ↦ subst (λ x. x ≤ℚ whole (pos 1)) (sym (ap abs_ℚ (rests angle s e b there) ∙ abs_above (whole (pos 0)) (≤ℚ_refl (whole (pos 0))))) zero_within_one
    | inr d ↦ law_of_the_factors n angle source sink is (transfers angle s d) b there
  ]

  -- all that is carried is carried by the angles of one solution
  pub carried_by : (angle : ℕ → Fraction) → IsSolution n r (put_through source sink) angle → (b : Branch) → Contains n.branches b → (x : Fraction) → IsCarried n r source sink b x → x ≡ flow angle b
  carried_by angle s b there x h =
      let one = is.branches b there in
      let same = law_of_one_solution n r h.angle angle is c (h.solution.at_reference ∙ sym s.at_reference) (λ i lt d. h.solution.injections i lt d ∙ sym (s.injections i lt d)) in
      sym h.is ∙ ap₂ (λ x y. b.susceptance *ℚ (x -ℚ y)) (same b.from one.from) (same b.to one.to)

  one_factor : (b : Branch) → Contains n.branches b
      → (factor : Fraction) × IsCarried n r source sink b factor × (abs_ℚ factor ≤ℚ whole (pos 1)) × ((other : Fraction) → IsCarried n r source sink b other → other ≡ factor)
  one_factor b there =
      let s = law_of_solutions n r (put_through source sink) is c in
      (flow s.0 b, record { angle = s.0; solution = s.1; is = refl }, within_one s.0 s.1 b there, carried_by s.0 s.1 b there)

pub law_of_one_factor : LawOfOneFactor
law_of_one_factor network xs lost source sink l sound source_in sink_in there =
    one_factor (dc_network network xs lost) network.reference source sink (is_network network xs lost sound) (is_connected network xs lost sound) sound.network_is.reference source_in sink_in
    (dc_branch network xs l) (Contains-map (dc_branch network xs) (kept lost network.branches) l there)
