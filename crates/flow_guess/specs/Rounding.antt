-- Numbers of parts that are as near to k units as to any others, a unit being so many parts.
use Rattle.std.specs.Prelude.{ℤ, pos, ◌+ℤ◌, ◌-ℤ◌, ◌*ℤ◌, ◌≤ℤ◌, ◌<ℤ◌, ◌⊎◌}

-- It is no more than half a unit below k units, and so much only where k is above 0.
pub record RoundsUpTo (k least part : ℤ) : Type 0 where
  pub near : (part *ℤ (pos 2 *ℤ k -ℤ pos 1)) ≤ℤ (pos 2 *ℤ least)
  pub tie : (pos 0 <ℤ k) ⊎ ((part *ℤ (pos 2 *ℤ k -ℤ pos 1)) <ℤ (pos 2 *ℤ least))

-- It is no more than half a unit above k units, and so much only where k is below 0.
pub record RoundsDownTo (k most part : ℤ) : Type 0 where
  pub near : (pos 2 *ℤ most) ≤ℤ (part *ℤ (pos 2 *ℤ k +ℤ pos 1))
  pub tie : (k <ℤ pos 0) ⊎ ((pos 2 *ℤ most) <ℤ (part *ℤ (pos 2 *ℤ k +ℤ pos 1)))
