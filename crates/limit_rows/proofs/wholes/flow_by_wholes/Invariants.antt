use Rattle.std.proofs.Common.{◌≡◌, ◌≤◌, ◌*◌, map}
use Rattle.std.specs.Prelude.{unsigned_abs}
use Rattle.fraction_theory.specs.Fraction.{over, ◌+ℚ◌}
use Rattle.fraction_theory.specs.Sums.{total}
use Rattle.market_data.specs.Scales.{factor_one}
use Rattle.market_model.specs.PutIn.{put_in}
use Rattle.limit_rows.proofs.FlowSteps.{line_to}
use Rattle.limit_rows.proofs.WholeLemmas.{most_product}
use Rattle.limit_rows.proofs.wholes.flow_by_wholes.Given as goal

abbrev pub invariant-loop-bus : goal.invariant-loop-bus
invariant-loop-bus g l = record {
  size : unsigned_abs l.parts ≤ l.bus * most_product;
  flow : g.N.Exact.value l.flow +ℚ over l.parts factor_one ≡ total (line_to l.market (put_in (map g.N.Exact.value l.injections)) l.line l.bus);
}
