-- What is carried does not change where all susceptances are scaled by one factor.
use Rattle.std.specs.Prelude.{◌≡◌, ℕ, ◌==◌, pos, List, [], ◌∷◌, map, refl}
use Rattle.std.proofs.Common.{ap, sym, ◌∙◌}
use mathlib.Core.Path.{ap₂}
use Rattle.fraction_theory.specs.Fraction.{Fraction, whole, ◌+ℚ◌, ◌-ℚ◌, ◌*ℚ◌}
use Rattle.fraction_theory.specs.Sums.{sum_by}
use Rattle.fraction_theory.proofs.Ring.{by_ring, at, pneg, ◌⊕◌, ◌⊗◌, times_nil}
use Rattle.fraction_theory.proofs.FieldLaws.{ring_ℚ}
use Rattle.fraction_theory.proofs.ListSums.{kept}
use Rattle.network_theory.specs.Networks.{Branch, Network, flow, injection}
use Rattle.network_theory.specs.Carrying.{IsCarried, one_at}
use Rattle.network_theory.proofs.ByParts.{taken, injection_taken}
use Rattle.network_theory.proofs.Solutions.{flow_minus, injection_minus}

-- a branch with its susceptance scaled
abbrev pub scaled : Fraction → Branch → Branch
scaled c b = record { from = b.from; to = b.to; susceptance = c *ℚ b.susceptance }

module _ (c : Fraction) (angle : ℕ → Fraction) where
  abbrev as_scaled : ℕ → Fraction
  as_scaled i = c *ℚ angle i

  flow_scaled : (b : Branch) → flow angle (scaled c b) ≡ flow as_scaled b
  flow_scaled b = by_ring ring_ℚ (c ∷ b.susceptance ∷ angle b.from ∷ angle b.to ∷ []) ((at 0 ⊗ at 1) ⊗ (at 2 ⊕ pneg (at 3))) (at 1 ⊗ ((at 0 ⊗ at 2) ⊕ pneg (at 0 ⊗ at 3))) refl

  taken_scaled : (i : ℕ) (bs : List Branch) → sum_by (taken angle i) (map (scaled c) bs) ≡ sum_by (taken as_scaled i) bs
  taken_scaled i [] = refl
  taken_scaled i (b ∷ bs) = ap₂ ◌+ℚ◌ (ap (λ f. kept (b.from == i) f -ℚ kept (b.to == i) f) (flow_scaled b)) (taken_scaled i bs)

  injection_scaled : (buses : ℕ) (bs : List Branch) (i : ℕ) → injection (record { buses = buses; branches = map (scaled c) bs }) angle i ≡ injection (record { buses = buses; branches = bs }) as_scaled i
  injection_scaled buses bs i =
      injection_taken (record { buses = buses; branches = map (scaled c) bs }) angle i ∙ taken_scaled i bs ∙ sym (injection_taken (record { buses = buses; branches = bs }) as_scaled i)

pub carried_scaled : (c : Fraction) (buses : ℕ) (bs : List Branch) (reference source sink : ℕ) (b : Branch) (f : Fraction)
    → IsCarried (record { buses = buses; branches = map (scaled c) bs }) reference source sink (scaled c b) f → IsCarried (record { buses = buses; branches = bs }) reference source sink b f
carried_scaled c buses bs reference source sink b f is = record {
  angle = λ i. c *ℚ is.angle i;
  solution = record {
    at_reference = ap (λ x. c *ℚ x) is.solution.at_reference ∙ times_nil ring_ℚ c;
    injections = λ i within apart. sym (injection_scaled c is.angle buses bs i) ∙ is.solution.injections i within apart;
  };
  is = sym (flow_scaled c is.angle b) ∙ is.is;
}

-- what goes from one bus to another is what goes from the one to the reference less what goes there from the other
pub carried_between : (n : Network) (reference source sink : ℕ) (b : Branch) (x y : Fraction) → IsCarried n reference source reference b x → IsCarried n reference sink reference b y
    → IsCarried n reference source sink b (x -ℚ y)
carried_between n reference source sink b x y p q = record {
  angle = λ i. p.angle i -ℚ q.angle i;
  solution = record {
    at_reference = ap₂ ◌-ℚ◌ p.solution.at_reference q.solution.at_reference ∙ ring_ℚ.plus_neg (whole (pos 0));
    injections = λ i within apart. injection_minus p.angle q.angle n i ∙ ap₂ ◌-ℚ◌ (p.solution.injections i within apart) (q.solution.injections i within apart) ∙ without i;
  };
  is = flow_minus p.angle q.angle b ∙ ap₂ ◌-ℚ◌ p.is q.is;
}
  where
    without : (i : ℕ) → (one_at source i -ℚ one_at reference i) -ℚ (one_at sink i -ℚ one_at reference i) ≡ one_at source i -ℚ one_at sink i
    without i = by_ring ring_ℚ (one_at source i ∷ one_at sink i ∷ one_at reference i ∷ []) ((at 0 ⊕ pneg (at 2)) ⊕ pneg (at 1 ⊕ pneg (at 2))) (at 0 ⊕ pneg (at 1)) refl
