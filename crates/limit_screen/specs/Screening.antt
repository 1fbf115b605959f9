-- Which limit is passed by the most, where so much is carried.
use Rattle.std.specs.Prelude.{◌≡◌, ℕ, List, Option, Some, None, filter, All, Contains}
use Rattle.std.specs.List.{list_any}
use Rattle.fraction_theory.specs.Fraction.{Fraction, ◌-ℚ◌, whole}
use Rattle.fraction_theory.specs.Order.{◌<ℚ◌, ◌≤ℚ◌}
use Rattle.fraction_theory.specs.Signs.{abs_ℚ}
use Rattle.market_model.specs.declared.answered.RowId.{RowId}
use Rattle.market_model.specs.declared.participants.Parts.{Parts}
use Rattle.market_model.specs.Overrun.{overrun, IsBeyond, IsFirstMost, IsWorst, Keeps}
use Rattle.market_model.specs.declared.limits.Row.{Row}
use Rattle.market_model.specs.Dispatch.{zero}
use Rattle.market_model.specs.LimitRows.{Carried, flow_by, limit, row_id, rows}
use Rattle.limit_rows.specs.Naming.{has_name}
use Rattle.limit_screen.specs.declared.screening.RowOverrun.{RowOverrun}
use Rattle.limit_screen.specs.declared.screening.Standing.{Standing}
use Rattle.limit_screen.specs.declared.screening.Standing.TheVariants as standing
use Rattle.limit_screen.specs.declared.taking.TakenRows.{TakenRows}
use Rattle.limit_screen.specs.declared.taking.TakenRows.TheVariants.{Rows, Names}

-- where some rows are taken, all rows of the market keep what they may be
abbrev pub AllKeep : Parts → List Row → Carried → Type 0
AllKeep m taken c = (r : Row) → Contains (rows m) r → Keeps m taken r (flow_by m c r)

-- the worst of those that do not, the first of several
abbrev pub IsWorstBy : Parts → List Row → Carried → Row → Type 0
IsWorstBy m taken c r = (place : ℕ) × IsWorst m taken (flow_by m c) place r

-- its name
abbrev pub IsWorstNamed : Parts → List Row → Carried → RowId → Type 0
IsWorstNamed m taken c name = (r : Row) × IsWorstBy m taken c r × (name ≡ row_id m r)

-- the rows of the market that have one of these names; a name that no row has names none
abbrev pub rows_named : Parts → List RowId → List Row
rows_named m names = filter (λ r. list_any (λ name. has_name m name r) names) (rows m)

-- the rows that are taken: these, or those of these names
abbrev pub taken_rows : Parts → TakenRows → List Row
taken_rows m (Rows given) = given.now
taken_rows m (Names given) = rows_named m given.now

-- how a size stands to a limit that it may not pass
abbrev pub StandsTo : {N : Type 0} → (N → Fraction) → (size limit : Fraction) → Standing N → Type 0
StandsTo value size limit standing.Below = size <ℚ limit
StandsTo value size limit standing.Reached = size ≡ limit
StandsTo value size limit (standing.Beyond e) = (zero <ℚ value e) × (value e ≡ size -ℚ limit)

-- how a flow of a row stands where some rows are taken
abbrev pub IsStanding : {N : Type 0} → (N → Fraction) → Parts → List Row → Row → Fraction → Standing N → Type 0
IsStanding value m taken r f standing.Below = Keeps m taken r f × (abs_ℚ f <ℚ limit m r)
IsStanding value m taken r f standing.Reached = Keeps m taken r f × (limit m r ≤ℚ abs_ℚ f)
IsStanding value m taken r f (standing.Beyond e) = IsBeyond m taken r f × (zero <ℚ value e) × (value e ≡ overrun m r f)

-- the worst of some rows with its overrun and a whole number that is not above this, the first of several, or none where all of them keep
-- what they may be
abbrev pub IsWorstOf : {N : Type 0} → (N → Fraction) → Parts → List Row → (Row → Fraction) → List Row → Option (RowOverrun N) → Type 0
IsWorstOf value m taken f rs None = All (λ s. Keeps m taken s (f s)) rs
IsWorstOf value m taken f rs (Some b) =
    ((place : ℕ) × IsFirstMost (λ s. IsBeyond m taken s (f s)) (λ s. overrun m s (f s)) rs place b.row) × (value b.overrun ≡ overrun m b.row (f b.row)) × (whole b.least ≤ℚ value b.overrun)
