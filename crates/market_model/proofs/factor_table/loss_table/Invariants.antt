use Rattle.std.proofs.Common.{length, take}
use Rattle.market_model.specs.Factors.{IsTable}
use Rattle.market_model.specs.LostLines.{factor_after}
use Rattle.market_model.proofs.factor_table.loss_table.Given as goal

abbrev pub invariant-loop-factor : goal.invariant-loop-factor
invariant-loop-factor l = record { table : IsTable (length l.lost) l.lines (factor_after (take l.factor-index l.factors) l.lost) l.table.items }
