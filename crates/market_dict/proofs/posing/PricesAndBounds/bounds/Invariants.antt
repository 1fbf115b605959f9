use Rattle.std.proofs.Common.{◌≡◌, ◌++◌, take}
use Rattle.market_dict.proofs.posing.PricesAndBounds.bounds.Given as goal

abbrev pub invariant-loop-column : goal.invariant-loop-column
invariant-loop-column g l = l.bounds ≡ take l.column-index l.self.column_bounds

abbrev pub invariant-loop-row : goal.invariant-loop-row
invariant-loop-row g l = l.bounds ≡ l.self.column_bounds ++ take l.row-index l.self.row_bounds
