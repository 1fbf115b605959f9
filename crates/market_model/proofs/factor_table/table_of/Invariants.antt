use Rattle.std.proofs.Common.{take}
use Rattle.market_model.specs.Factors.{factor_in, IsTable}
use Rattle.market_model.proofs.factor_table.table_of.Given as goal

abbrev pub invariant-loop-factor : goal.invariant-loop-factor
invariant-loop-factor l = record { table : IsTable l.lines l.others (factor_in (take l.factor-index l.factors)) l.table.items }
