-- A basic variable that no values of the others bring within its bounds, and the combination of all variables that shows it.
-- Source: Farkas, in the form for bounded variables; the dual simplex method (Chvátal, Linear Programming).
use Rattle.std.specs.Prelude.{◌≡◌, ℕ, ◌==◌, pos, Bool, true, false, if◌then◌else◌}
use Rattle.std.specs.List.{Contains}
use Rattle.fraction_theory.specs.Fraction.{Fraction, whole, neg_ℚ, ◌-ℚ◌}
use Rattle.fraction_theory.specs.Order.{◌≤ℚ◌, ◌<ℚ◌}
use Rattle.linear_system.specs.Systems.{System}
use Rattle.linear_system.specs.Choices.{Choice, basics, others, value}
use Rattle.simplex_theory.specs.States.{Violates}
use Rattle.simplex_theory.specs.Steps.{opposite_if}

-- Where the others stand at their bounds, the basic variable b is above its high bound, or below its low one where `above`
-- does not say so, and none of the others that has room brings it back. Where b is below, the entry of each of these is at
-- most 0 if it stands at its low bound and at least 0 if it stands at its high one; where b is above, their opposites are.
pub record IsStuck (s : System) (h : Choice) (b : ℕ) (above : Bool) : Type 0 where
  pub basic : Contains (basics s h) b
  pub violates : Violates s (value s h) above b
  pub at_low : (w : ℕ) → Contains (others s h) w → s.low w <ℚ s.high w → h.high w ≡ false → opposite_if above (h.entry b w) ≤ℚ whole (pos 0)
  pub at_high : (w : ℕ) → Contains (others s h) w → s.low w <ℚ s.high w → h.high w ≡ true → whole (pos 0) ≤ℚ opposite_if above (h.entry b w)

-- 1 at the basic variable b, the opposites of its entries at the others, and 0 at the rest of the basic ones
unfoldable pub multiplier : Choice → ℕ → ℕ → Fraction
multiplier h b w = if w == b then whole (pos 1) else if h.basic w then whole (pos 0) else neg_ℚ (h.entry b w)

-- what b leaves of its high bound where the others stand, or what it has above its low one
unfoldable pub margin : System → Choice → ℕ → Bool → Fraction
margin s h b above = if above then s.high b -ℚ value s h b else value s h b -ℚ s.low b
