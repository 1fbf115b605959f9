use Rattle.std.proofs.Common.{◌≡◌, Some, map, take}
use Rattle.factor_maker.proofs.columns.all_told.Given as goal

abbrev pub invariant-loop-number : goal.invariant-loop-number
invariant-loop-number l = take l.number-index l.guess ≡ map Some l.units
