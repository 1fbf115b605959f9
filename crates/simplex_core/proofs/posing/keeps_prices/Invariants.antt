use Rattle.std.proofs.Common.{◌<◌, ℕ, slice_index}
use Rattle.simplex_core.specs.Posings.{KeepsPrice, column_price}
use Rattle.simplex_core.proofs.posing.keeps_prices.Given as goal

abbrev pub invariant-loop-k : goal.invariant-loop-k
invariant-loop-k g l = (j : ℕ) → j < l.k → KeepsPrice l.dict (slice_index l.dict.columns j) (column_price g.N.Exact.value l.prices j)
