-- Summation by parts: weighed injections sum to the flows times the differences of weights along the branches.
use Rattle.std.specs.Prelude.{◌≡◌, ℕ, ◌==◌, pos, [], ◌∷◌, refl}
use Rattle.std.specs.List.{Contains}
use Rattle.std.proofs.Common.{ap, sym, ◌∙◌}
use mathlib.Core.Path.{ap₂}
use Rattle.fraction_theory.specs.Fraction.{Fraction, whole, ◌-ℚ◌, ◌*ℚ◌}
use Rattle.fraction_theory.specs.Sums.{sum_by}
use Rattle.fraction_theory.proofs.Ring.{by_ring, at, pnil, pone, pneg, ◌⊕◌, ◌⊗◌}
use Rattle.fraction_theory.proofs.FieldLaws.{ring_ℚ}
use Rattle.fraction_theory.proofs.SumLaws.{sum_by-same, sum_by-nil, sum_by-times, sum_by-exchange}
use Rattle.fraction_theory.proofs.ListSums.{kept, sum_by-filter, sum_by-members}
use Rattle.network_theory.specs.Laws.{LawOfBalance, LawOfReciprocity}
use Rattle.network_theory.specs.Networks.{Branch, Network, places, IsTheoryNetwork, flow, leaving, entering, injection}
use Rattle.network_theory.proofs.Places.{sum_at}
use Rattle.network_theory.proofs.SignedSums.{sum_by-minus}

-- what the branch takes out of the bus
abbrev pub taken : (ℕ → Fraction) → ℕ → Branch → Fraction
taken angle i b = kept (b.from == i) (flow angle b) -ℚ kept (b.to == i) (flow angle b)

pub injection_taken : (n : Network) (angle : ℕ → Fraction) (i : ℕ) → injection n angle i ≡ sum_by (taken angle i) n.branches
unfolding leaving entering
injection_taken n angle i =
    ap₂ ◌-ℚ◌ (sum_by-filter (flow angle) (λ b. b.from == i) n.branches) (sum_by-filter (flow angle) (λ b. b.to == i) n.branches)
    ∙ sym (sum_by-minus (λ (b : Branch). kept (b.from == i) (flow angle b)) (λ (b : Branch). kept (b.to == i) (flow angle b)) n.branches)

module _ (n : Network) (is : IsTheoryNetwork n) (weight angle : ℕ → Fraction) where
  at_ends : (b : Branch) → Contains n.branches b → sum_by (λ i. weight i *ℚ taken angle i b) (places n) ≡ (weight b.from -ℚ weight b.to) *ℚ flow angle b
  at_ends b c =
      let x = flow angle b in
      let one = is.branches b c in
      sum_by-same (λ i. weight i *ℚ taken angle i b) (λ i. weight i *ℚ kept (b.from == i) x -ℚ weight i *ℚ kept (b.to == i) x) (places n)
      (λ i. by_ring ring_ℚ (weight i ∷ kept (b.from == i) x ∷ kept (b.to == i) x ∷ []) (at 0 ⊗ (at 1 ⊕ pneg (at 2))) ((at 0 ⊗ at 1) ⊕ pneg (at 0 ⊗ at 2)) refl)
      ∙ sum_by-minus (λ i. weight i *ℚ kept (b.from == i) x) (λ i. weight i *ℚ kept (b.to == i) x) (places n)
      ∙ ap₂ ◌-ℚ◌ (sum_at n weight b.from x one.from) (sum_at n weight b.to x one.to)
      ∙ by_ring ring_ℚ (weight b.from ∷ weight b.to ∷ x ∷ []) ((at 0 ⊗ at 2) ⊕ pneg (at 1 ⊗ at 2)) ((at 0 ⊕ pneg (at 1)) ⊗ at 2) refl

  pub by_parts : sum_by (λ i. weight i *ℚ injection n angle i) (places n) ≡ sum_by (λ b. (weight b.from -ℚ weight b.to) *ℚ flow angle b) n.branches
  by_parts =
      sum_by-same (λ i. weight i *ℚ injection n angle i) (λ i. sum_by (λ b. weight i *ℚ taken angle i b) n.branches) (places n)
      (λ i. ap (λ t. weight i *ℚ t) (injection_taken n angle i) ∙ sym (sum_by-times (weight i) (taken angle i) n.branches))
      ∙ sum_by-exchange (λ i b. weight i *ℚ taken angle i b) (places n) n.branches
      ∙ sum_by-members (λ b. sum_by (λ i. weight i *ℚ taken angle i b) (places n)) (λ b. (weight b.from -ℚ weight b.to) *ℚ flow angle b) n.branches at_ends

pub law_of_balance : LawOfBalance
law_of_balance n angle is =
    let one = whole (pos 1) in
    sum_by-same (injection n angle) (λ i. one *ℚ injection n angle i) (places n) (λ i. by_ring ring_ℚ (injection n angle i ∷ []) (at 0) (pone ⊗ at 0) refl)
    ∙ by_parts n is (λ _. one) angle
    ∙ sum_by-same (λ b. (one -ℚ one) *ℚ flow angle b) (λ _. whole (pos 0)) n.branches (λ b. by_ring ring_ℚ (flow angle b ∷ []) ((pone ⊕ pneg pone) ⊗ at 0) pnil refl)
    ∙ sum_by-nil n.branches

pub law_of_reciprocity : LawOfReciprocity
law_of_reciprocity n a b is =
    by_parts n is a b
    ∙ sum_by-same (λ (br : Branch). (a br.from -ℚ a br.to) *ℚ flow b br) (λ (br : Branch). (b br.from -ℚ b br.to) *ℚ flow a br) n.branches
    (λ br. by_ring ring_ℚ (a br.from ∷ a br.to ∷ br.susceptance ∷ b br.from ∷ b br.to ∷ [])
    ((at 0 ⊕ pneg (at 1)) ⊗ (at 2 ⊗ (at 3 ⊕ pneg (at 4)))) ((at 3 ⊕ pneg (at 4)) ⊗ (at 2 ⊗ (at 0 ⊕ pneg (at 1)))) refl)
    ∙ sym (by_parts n is b a)
