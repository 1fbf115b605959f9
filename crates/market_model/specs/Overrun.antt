-- By how much flows pass the limits of rows, and which limit is passed by the most.
-- Source: own; the method is that of taking violated limits alone (Wood and Wollenberg, security-constrained dispatch).
use Rattle.std.specs.Prelude.{◌≡◌, ℕ, ◌<◌, List, Some, All, Contains}
use Rattle.std.specs.List.{slice_get}
use Rattle.fraction_theory.specs.Fraction.{Fraction, ◌-ℚ◌, neg_ℚ}
use Rattle.fraction_theory.specs.Order.{◌<ℚ◌, ◌≤ℚ◌}
use Rattle.fraction_theory.specs.Signs.{abs_ℚ, part_above}
use Rattle.market_model.specs.declared.participants.Parts.{Parts}
use Rattle.market_model.specs.Dispatch.{Dispatch}
use Rattle.market_model.specs.declared.limits.Row.{Row}
use Rattle.market_model.specs.LimitRows.{rows, flow, limit, most_flow}

-- by how much the size of a flow is above the limit of a row; at most 0 where the limit holds
abbrev pub overrun : Parts → Row → Fraction → Fraction
overrun m r f = abs_ℚ f -ℚ limit m r

-- the excess of a row's flow: by how much it is above the limit, and 0 where the limit holds
abbrev pub excess_by : Parts → Row → Fraction → Fraction
excess_by m r f = part_above (overrun m r f)

-- that at a dispatch
abbrev pub excess : Parts → Dispatch → Row → Fraction
excess m x r = excess_by m r (flow m x r)

-- a flow of at most this size on either side
pub record Within (most : Fraction) (f : Fraction) : Type 0 where
  pub above : neg_ℚ most ≤ℚ f
  pub below : f ≤ℚ most

-- ---- where some rows are taken
-- a flow of a row keeps what it may be: the limit, or of a taken row that and its excess
pub record Keeps (m : Parts) (taken : List Row) (r : Row) (f : Fraction) : Type 0 where
  pub limit : ¬ (Contains taken r) → Within (limit m r) f
  pub most : Contains taken r → Within (most_flow m r) f

-- it is beyond that
abbrev pub IsBeyond : Parts → List Row → Row → Fraction → Type 0
IsBeyond m taken r f = ¬ (Keeps m taken r f)

-- Of some rows, with a number e of each, the one at a place counts, none that counts has a greater one, and none before it has the same.
pub record IsFirstMost (Counts : Row → Type 0) (e : Row → Fraction) (rs : List Row) (place : ℕ) (r : Row) : Type 0 where
  pub stands : slice_get rs place ≡ Some r
  pub counts : Counts r
  pub most : All (λ s. Counts s → e s ≤ℚ e r) rs
  pub first : (i : ℕ) (s : Row) → i < place → slice_get rs i ≡ Some s → Counts s → e s <ℚ e r

-- of the market's rows, with the flow f of each, the one at a place is beyond what it may be, and of those that are it is the first of
-- greatest overrun
abbrev pub IsWorst : Parts → List Row → (Row → Fraction) → ℕ → Row → Type 0
IsWorst m taken f place r = IsFirstMost (λ s. IsBeyond m taken s (f s)) (λ s. overrun m s (f s)) (rows m) place r
