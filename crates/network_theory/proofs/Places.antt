-- The places of a network's buses: each once; and sums over them where one place alone counts.
use Rattle.std.specs.Prelude.{◌≡◌, ℕ, ◌+◌, ◌<◌, ◌==◌, Bool, true, false, not, refl}
use Rattle.std.specs.List.{Contains}
use Rattle.std.proofs.Common.{arith, ap, sym, ◌∙◌, inl, inr}
use Rattle.std.proofs.lemmas.Bool.Decides.{eqb_tells}
use Rattle.std.proofs.lemmas.List.FromFn.{length-range_with_len, get_or-range_with_len}
use Rattle.fraction_theory.specs.Fraction.{Fraction, ◌*ℚ◌}
use Rattle.fraction_theory.specs.Sums.{sum_by}
use Rattle.fraction_theory.proofs.Ring.{times_nil}
use Rattle.fraction_theory.proofs.FieldLaws.{ring_ℚ}
use Rattle.fraction_theory.proofs.ListSums.{Distinct, kept, sum_by-one, Contains-from_filter}
use Rattle.network_theory.specs.Networks.{Network, places, others}

module _ (n : Network) where
  pub in_places : (i : ℕ) → i < n.buses → Contains (places n) i
  in_places i h =
      let from_0 : 0 + i ≡ i = Prim.omega arith in
      (i, Prim.omega (arith, h, length-range_with_len 0 n.buses), get_or-range_with_len 0 n.buses i i h ∙ from_0)

  pub below_places : (i : ℕ) → Contains (places n) i → i < n.buses
  below_places i c =
      let below : c.0 < n.buses = Prim.omega (arith, c.1, length-range_with_len 0 n.buses) in
      let is : 0 + c.0 ≡ i = sym (get_or-range_with_len 0 n.buses c.0 i below) ∙ c.2 in
      Prim.omega (arith, below, is)

  pub distinct_places : Distinct (places n)
  distinct_places i j d p q e =
      let below : j < n.buses = Prim.omega (arith, q, length-range_with_len 0 n.buses) in
      let low = get_or-range_with_len 0 n.buses i d (Prim.omega (arith, p, below)) in
      let high = get_or-range_with_len 0 n.buses j d below in
      let same : 0 + i ≡ 0 + j = sym low ∙ e ∙ high in
      Prim.omega (arith, p, same)

  -- the places of the buses other than one
  pub other_place : (reference i : ℕ) → Contains (others n reference) i → (i < n.buses) × ¬ (i ≡ reference)
  other_place reference i c =
      let k = Contains-from_filter (λ j. not (j == reference)) (places n) i c in (
        below_places i k.0,
        λ e. elim (eqb_tells i reference) [
          | inl t ↦ let wrong : false ≡ true = sym (ap not t.0) ∙ k.1 in absurd (Prim.cc)
          | inr t ↦ t.1 e
        ],
      )

  -- a weighed number that one place alone has
  pub sum_at : (weight : ℕ → Fraction) (p : ℕ) (x : Fraction) → p < n.buses → sum_by (λ i. weight i *ℚ kept (p == i) x) (places n) ≡ weight p *ℚ x
  sum_at weight p x h =
      sum_by-one (λ i. weight i *ℚ kept (p == i) x) p (places n) distinct_places (in_places p h)
      (λ w c d. elim (eqb_tells p w) [ inl t ↦ absurd (d (sym t.1)) | inr t ↦ ap (λ (b : Bool). weight w *ℚ kept b x) t.0 ∙ times_nil ring_ℚ (weight w) ])
      ∙ elim (eqb_tells p p) [ inl t ↦ ap (λ (b : Bool). weight p *ℚ kept b x) t.0 | inr t ↦ absurd (t.1 refl) ]
