-- Which operations are refused for the flows of rows, and for the most that these may be.
use Rattle.std.specs.Prelude.{ℕ, Contains}
use Rattle.fraction_theory.specs.Fraction.{Fraction}
use Rattle.exact_fraction.specs.declared.Op.TheVariants.{Plus}
use Rattle.exact_fraction.specs.declared.Passed.{Passed}
use Rattle.market_model.specs.declared.limits.Row.{Row}
use Rattle.market_model.specs.declared.participants.Parts.{Parts}
use Rattle.market_model.specs.LimitRows.{Carried, limit, most_excess, rows}
use Rattle.market_model.specs.NamedSums.{IsRefusal}
use Rattle.market_model.specs.SumTables.{IsFlowRefusal}

-- for the most that the flow of a row may be: its limit and its most excess
abbrev pub IsMostFlowRefusal : Parts → Row → ℕ → Passed Fraction → Type 0
IsMostFlowRefusal m r bound p = IsRefusal Plus (limit m r) (most_excess m r) bound p

-- for the flow of some row of the market; by how much that passes its limit is refused of none
abbrev pub IsAnyFlowRefusal : Parts → Carried → ℕ → Passed Fraction → Type 0
IsAnyFlowRefusal m c bound p = (r : Row) × Contains (rows m) r × IsFlowRefusal m c r bound p
