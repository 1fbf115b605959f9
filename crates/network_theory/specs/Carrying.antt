-- What branches carry of 1 that goes from one bus to another: the shift factors and the outage factors of the DC model.
-- Source: generation shift factors and line outage distribution factors (Wood and Wollenberg).
use Rattle.std.specs.Prelude.{◌≡◌, ℕ, ◌==◌, pos, if◌then◌else◌}
use Rattle.fraction_theory.specs.Fraction.{Fraction, whole, ◌-ℚ◌}
use Rattle.network_theory.specs.Networks.{Branch, Network, flow, IsSolution}

-- 1 at a place, and nothing elsewhere
abbrev pub one_at : ℕ → ℕ → Fraction
one_at place i = if place == i then whole (pos 1) else whole (pos 0)

-- 1 is put in at the source and taken out at the sink; nothing is, where they are one bus
abbrev pub put_through : ℕ → ℕ → ℕ → Fraction
put_through source sink i = one_at source i -ℚ one_at sink i

-- The branch carries so much of it, where the reference balances the network. A shift factor is what a branch carries from a bus to the
-- reference, an outage factor what it carries from end to end of the lost branch, in the network without that.
pub record IsCarried (n : Network) (reference source sink : ℕ) (b : Branch) (carried : Fraction) : Type 0 where
  pub angle : ℕ → Fraction
  pub solution : IsSolution n reference (put_through source sink) angle
  pub is : flow angle b ≡ carried
