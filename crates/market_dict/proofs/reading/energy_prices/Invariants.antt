use Rattle.std.proofs.Common.{◌≡◌, ℕ, List, map, take}
use Rattle.std.specs.List.{Contains}
use Rattle.fraction_theory.specs.Fraction.{Fraction, neg_ℚ}
use Rattle.market_model.specs.Valued.{dual_at}
use Rattle.market_system.specs.declared.variables.Variable.TheVariants.{Balance}
use Rattle.market_system.specs.MarketSystem.{balance_name, taken_in_order, variables}
use Rattle.market_dict.specs.Holding.{HoldsMarket}
use Rattle.market_dict.specs.Takings.{taken_of}
use Rattle.market_dict.specs.declared.taking.Taking.{Taking}
use Rattle.market_dict.proofs.ReadingLemmas.{dual_of, listed_to}
use Rattle.market_dict.proofs.reading.energy_prices.Given as goal

abbrev pub invariant-loop-rank : goal.invariant-loop-rank
invariant-loop-rank g l = record {
  limits : (ts : List Taking) (cost : ℕ → Fraction) → HoldsMarket l.market ts l.dict → map g.N.Exact.value l.costs ≡ map cost l.dict.names
      → map (dual_at g.N.Exact.value) l.limits ≡ listed_to (dual_of l.market cost) (variables l.market (taken_in_order l.market (taken_of ts))) l.rank;
  energy : (ts : List Taking) (cost : ℕ → Fraction) → HoldsMarket l.market ts l.dict → map g.N.Exact.value l.costs ≡ map cost l.dict.names
      → Contains (take l.rank (variables l.market (taken_in_order l.market (taken_of ts)))) Balance → g.N.Exact.value l.energy ≡ neg_ℚ (cost (balance_name l.market));
}
