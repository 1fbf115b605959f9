use Rattle.std.proofs.Common.{◌≡◌, ◌*◌, ◌≤◌, take}
use Rattle.std.specs.Prelude.{map, unsigned_abs}
use Rattle.fraction_theory.specs.Fraction.{over}
use Rattle.fraction_theory.specs.Sums.{total}
use Rattle.market_data.specs.Scales.{most_factor, share_one, pickup_one}
use Rattle.market_model.specs.LimitRows.{taker_term}
use Rattle.market_model.proofs.pickup_table.whole_pickup.Given as goal

abbrev pub invariant-loop-pickup : goal.invariant-loop-pickup
invariant-loop-pickup l = record {
  size : unsigned_abs l.taken ≤ l.pickup-index * (share_one * most_factor);
  taken : over l.taken pickup_one ≡ total (map (taker_term l.parts l.line) (take l.pickup-index l.takers));
}
