-- The flows as they are read off, one after the other.
use Rattle.std.specs.Prelude.{◌≡◌, ◌⊎◌, ℕ, ◌+◌, ◌*◌, ◌/◌, ◌%◌, ◌<◌, ◌≤◌, pos, List, [], ◌∷◌, ◌++◌, length, slice_get, Some, refl}
use Rattle.std.proofs.Common.{zero, suc, arith, ap, sym, ◌∙◌, subst, inl, inr}
use Rattle.std.proofs.lemmas.List.{length-append}
use Rattle.std.proofs.lemmas.Nat.{div-mul-add, mod-mul-add}
use Rattle.std.proofs.Math.Nat.{mul-le-mul_right, div-add-mod, mod-lt}
use Rattle.exact_flows.specs.Lines.{AreFlows}
use Rattle.fraction_theory.specs.Fraction.{Fraction, whole}
use Rattle.fraction_theory.proofs.Ring.{by_ring, at, pnil, pneg, ◌⊕◌, ◌⊗◌}
use Rattle.fraction_theory.proofs.FieldLaws.{ring_ℚ}
use Rattle.linear_dict.proofs.NameLemmas.{lt_or_le}
use Rattle.network_theory.specs.Carrying.{IsCarried, one_at}
use Rattle.network_theory.specs.Networks.{Branch, Network, StandsAt}
use Rattle.network_theory.proofs.Solutions.{injection_level}

-- nothing is moved from a bus to itself
pub reference_carried : (n : Network) (reference bus : ℕ) (b : Branch) (x : Fraction) → bus ≡ reference → x ≡ whole (pos 0) → IsCarried n reference bus reference b x
reference_carried n reference bus b x e z = subst (λ (i : ℕ). IsCarried n reference i reference b x) (sym e) (record {
  angle = λ _. whole (pos 0);
  solution = record { at_reference = refl; injections = λ i _ _. injection_level n (whole (pos 0)) i ∙ sym (ring_ℚ.plus_neg (one_at reference i)) };
  is = by_ring ring_ℚ (b.susceptance ∷ []) (at 0 ⊗ (pnil ⊕ pneg pnil)) pnil refl ∙ sym z;
})

pushed : {X : Type 0} (xs : List X) (x : X) (k : ℕ) (y : X) → slice_get (xs ++ x ∷ []) k ≡ Some y → (slice_get xs k ≡ Some y) ⊎ ((k ≡ length xs) × (x ≡ y))
pushed [] x zero y e = inr (refl, Prim.cc)
pushed [] x (suc k) y e = absurd Prim.cc
pushed (z ∷ zs) x zero y e = inl e
pushed (z ∷ zs) x (suc k) y e = elim (pushed zs x k y e) [ inl p ↦ inl p | inr p ↦ inr (Prim.omega (arith, p.0), p.1) ]

module _ {N : Type 0} (value : N → Fraction) (n : Network) (reference : ℕ) where
  -- so many flows, each of the branch and the bus that its place is
  pub record AreRead (count : ℕ) (flows : List N) : Type 0 where
    pub size : length flows ≡ count
    pub at : (k : ℕ) (b : Branch) (x : N) → slice_get flows k ≡ Some x → StandsAt n (k / n.buses) b → IsCarried n reference (k % n.buses) reference b (value x)

  pub read_none : AreRead 0 []
  read_none = record { size = refl; at = λ k b x e _. absurd Prim.cc }

  pub read_more : (count : ℕ) (flows : List N) (flow : N) → AreRead count flows
      → ((b : Branch) → StandsAt n (count / n.buses) b → IsCarried n reference (count % n.buses) reference b (value flow)) → AreRead (count + 1) (flows ++ flow ∷ [])
  read_more count flows flow read is = record {
    size = length-append flows (flow ∷ []) ∙ ap (λ (t : ℕ). t + 1) read.size;
    at = λ k b x e stands. elim (pushed flows flow k x e) [
      | inl p ↦ read.at k b x p stands
      | inr p ↦
          let here : count ≡ k = sym (p.0 ∙ read.size) in
          subst (λ (y : N). IsCarried n reference (k % n.buses) reference b (value y)) p.1
          (subst (λ (i : ℕ). IsCarried n reference (i % n.buses) reference b (value flow)) here
          (is b (subst (λ (i : ℕ). StandsAt n (i / n.buses) b) (sym here) stands)))
    ];
  }

  pub read_all : (flows : List N) → AreRead (length n.branches * n.buses) flows → AreFlows value n reference flows
  read_all flows read = record {
    count = read.size;
    carried = λ l i b x stands h e.
        let row : (l * n.buses + i) / n.buses ≡ l = div-mul-add l n.buses i h in
        let column : (l * n.buses + i) % n.buses ≡ i = mod-mul-add l n.buses i h in
        subst (λ (t : ℕ). IsCarried n reference t reference b (value x)) column
        (read.at (l * n.buses + i) b x e (subst (λ (t : ℕ). StandsAt n t b) (sym row) stands));
  }

-- a place is that of a branch and of a bus
pub place_parts : (branches buses k : ℕ) → 0 < buses → k < branches * buses → (k / buses < branches) × (k % buses < buses)
place_parts branches buses k some h =
    let split : buses * (k / buses) + k % buses ≡ k = div-add-mod k buses in
    let flat : k / buses * buses + k % buses ≡ k = Prim.omega (arith, split) in (
      elim (lt_or_le (k / buses) branches) [
        | inl l ↦ l
        | inr l ↦ let a : branches * buses ≤ k / buses * buses = mul-le-mul_right buses l in absurd (Prim.omega (arith, a, flat, h))
      ],
      mod-lt k some,
    )
