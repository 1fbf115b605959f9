-- The exchange of a basic and an other variable: the basic one's row is solved for the other, and put into each row.
-- Source: the pivot of a dictionary (Chvátal, Linear Programming).
use Rattle.std.specs.Prelude.{ℕ, true, false, ◌==◌, if◌then◌else◌, pos}
use Rattle.fraction_theory.specs.Fraction.{Fraction, whole, ◌+ℚ◌, ◌*ℚ◌, neg_ℚ, recip_ℚ}
use Rattle.linear_system.specs.Choices.{Choice}

-- b by a and the others that stay, where a was its entries times the others
unfoldable pub entering_entry : Choice → ℕ → ℕ → ℕ → Fraction
entering_entry h a b w = if w == a then recip_ℚ (h.entry a b) else neg_ℚ (h.entry a w) *ℚ recip_ℚ (h.entry a b)

-- the choice after a has left for b, whose entry with it is not 0
unfoldable pub exchanged : Choice → ℕ → ℕ → Choice
exchanged h a b = record {
  basic = λ w. if w == a then false else if w == b then true else h.basic w;
  high = h.high;
  entry = λ x w.
      if x == b then entering_entry h a b w
      else (if w == a then whole (pos 0) else h.entry x w) +ℚ h.entry x b *ℚ entering_entry h a b w;
}
