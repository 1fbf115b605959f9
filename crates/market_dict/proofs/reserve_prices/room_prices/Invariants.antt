use Rattle.std.proofs.Common.{◌≡◌, ℕ, List, map}
use Rattle.fraction_theory.specs.Fraction.{Fraction}
use Rattle.market_model.specs.Valued.{room_dual_at}
use Rattle.market_system.specs.MarketSystem.{taken_in_order, variables}
use Rattle.market_dict.specs.Holding.{HoldsMarket}
use Rattle.market_dict.specs.Takings.{taken_of}
use Rattle.market_dict.specs.declared.taking.Taking.{Taking}
use Rattle.market_dict.proofs.ReadingLemmas.{room_dual_of, listed_to}
use Rattle.market_dict.proofs.reserve_prices.room_prices.Given as goal

abbrev pub invariant-loop-rank : goal.invariant-loop-rank
invariant-loop-rank g l = (ts : List Taking) (cost : ℕ → Fraction) → HoldsMarket l.market ts l.dict → map g.N.Exact.value l.costs ≡ map cost l.dict.names
    → map (room_dual_at g.N.Exact.value) l.rooms ≡ listed_to (room_dual_of l.market cost) (variables l.market (taken_in_order l.market (taken_of ts))) l.rank
