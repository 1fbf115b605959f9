-- Which limit rows a clear may have taken: rows are taken one by one, each because a best dispatch of the rows before it
-- breaks it.
-- Source: own; the method is that of taking violated limits alone (Wood and Wollenberg, security-constrained dispatch).
use Rattle.std.specs.Prelude.{◌≡◌, ℕ, List, [], ◌∷◌, ◌++◌}
use Rattle.std.specs.List.{Contains}
use Rattle.fraction_theory.specs.Fraction.{Fraction}
use Rattle.market_model.specs.declared.answered.Duals.{Duals}
use Rattle.market_model.specs.declared.participants.Parts.{Parts}
use Rattle.market_model.specs.Dispatch.{Dispatch, zero}
use Rattle.market_model.specs.Optimality.{up_of, down_of, BestFor}
use Rattle.market_model.specs.declared.limits.Row.{Row}
use Rattle.market_model.specs.LimitRows.{rows, flow, limit}
use Rattle.market_model.specs.Overrun.{Within}

-- the flow passes the limit on one side
abbrev pub Broken : Parts → Dispatch → Row → Type 0
Broken m x r = ¬ (Within (limit m r) (flow m x r))

-- for these rows and the rooms of some units
abbrev pub IsBestOver : Parts → List Row → Dispatch → Type 0
IsBestOver m g x = (us : List ℕ) × BestFor m (record { limits = g; rooms = us }) x

-- rows of the market behind old ones, each not among those before it and broken by a dispatch that is best for these and for the rooms of some units
abbrev pub GrowsBy : Parts → List Row → List Row → Type 0
GrowsBy m old [] = Unit {0}
GrowsBy m old (r ∷ more) = ((x : Dispatch) × IsBestOver m old x × Broken m x r) × Contains (rows m) r × (¬ (Contains old r)) × GrowsBy m (old ++ r ∷ []) more

-- the old rows, with more behind them: rows that a clear may stand on, after the old ones were taken before it
abbrev pub Growth : Parts → List Row → List Row → Type 0
Growth m old new = (more : List Row) × (new ≡ old ++ more) × GrowsBy m old more

-- rows that were not taken have no price in these duals
abbrev pub PricesOnly : Parts → List Row → Duals Fraction → Type 0
PricesOnly m taken d = (r : Row) → Contains (rows m) r → ¬ (Contains taken r) → (up_of m d r ≡ zero) × (down_of m d r ≡ zero)
