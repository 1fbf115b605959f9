use Rattle.std.proofs.Common.{w64}
use Rattle.std.proofs.lemmas.Int.{to_z-of_z}
use Rattle.clear_tests.proofs.WorkedMarkets.{worked_is_market}
use Rattle.clear_tests.proofs.worked.soft.Goals as goal

pub assemble-requires : goal.assemble-requires
assemble-requires c =
    rw (
      c.in_ok-parts.ensures,
      c.in_ok-lines.ensures,
      c.in_ok-outages.ensures,
      c.in_ok-shift.ensures,
      c.in_ok-loss.ensures,
      to_z-of_z w64 c.args.price c.ranges.price,
      to_z-of_z w64 c.args.excess c.ranges.excess,
    )
    (worked_is_market c.args.price c.args.excess c.requires)
