use Rattle.market_tests.proofs.TriangleMarkets.{triangle_is_market}
use Rattle.market_tests.proofs.markets.triangle.Goals as goal

pub assemble-requires : goal.assemble-requires
assemble-requires c = rw (c.in_ok-parts.ensures, c.in_ok-parts-2.ensures, c.in_ok-parts-3.ensures) (triangle_is_market c.args.has_outages)
