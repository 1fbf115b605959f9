-- A linear system without some of its columns, whose bounds are 0.
-- Source: a variable that is fixed at 0 may be left out of a linear program (Chvátal, Linear Programming).
use Rattle.std.specs.Prelude.{◌≡◌, ℕ, pos, Bool, true, false, if◌then◌else◌, filter, Contains}
use Rattle.fraction_theory.specs.Fraction.{Fraction, whole}
use Rattle.linear_system.specs.Systems.{System}

-- the system with the variables that are kept
unfoldable pub fewer : System → (ℕ → Bool) → System
fewer s kept = record s { variables = filter kept s.variables; columns = filter kept s.columns }

-- all rows are kept, and each column that is not has to be 0
pub record MayLeave (s : System) (kept : ℕ → Bool) : Type 0 where
  pub rows : (r : ℕ) → Contains s.rows r → kept r ≡ true
  pub low : (j : ℕ) → Contains s.columns j → kept j ≡ false → s.low j ≡ whole (pos 0)
  pub high : (j : ℕ) → Contains s.columns j → kept j ≡ false → s.high j ≡ whole (pos 0)

-- a point with 0 for what is left out
abbrev pub with_nil : (ℕ → Bool) → (ℕ → Fraction) → ℕ → Fraction
with_nil kept v w = if kept w then v w else whole (pos 0)
