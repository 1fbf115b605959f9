use Rattle.std.proofs.Common.{◌+◌, take}
use Rattle.price_system.specs.PriceSystem.{worths}
use Rattle.price_dict.specs.Holding.{HasPutIn}
use Rattle.price_dict.proofs.rows.put_blocks.Given as goal

abbrev pub invariant-loop-place : goal.invariant-loop-place
invariant-loop-place g l = HasPutIn l.market l.columns (take (1 + l.place) (worths l.market)) l.dict
