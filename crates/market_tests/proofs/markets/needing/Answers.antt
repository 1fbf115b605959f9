use Rattle.std.proofs.Common.{w64}
use Rattle.std.proofs.lemmas.Int.{to_z-of_z}
use Rattle.limit_screen.proofs.TestMarkets.{needing_is_market}
use Rattle.market_tests.proofs.markets.needing.Goals as goal

pub assemble-requires : goal.assemble-requires
assemble-requires c = rw (c.in_ok-offers.ensures, c.in_ok-parts.ensures, to_z-of_z w64 c.args.need c.ranges.need) (needing_is_market c.args.need c.requires)
