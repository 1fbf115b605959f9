use Rattle.std.proofs.Common.{◌≡◌, ◌++◌, length, map}
use Rattle.fraction_theory.specs.Fraction.{Fraction}
use Rattle.fraction_theory.specs.Sums.{total}
use Rattle.market_model.specs.declared.answered.Duals.{Duals}
use Rattle.market_model.specs.Dispatch.{places}
use Rattle.market_model.specs.Infeasibility.{block_most, nothing_terms}
use Rattle.cert_sums.specs.Named.{AreNamedRooms}
use Rattle.cert_sums.proofs.RoomLemmas.{offers_to}
use Rattle.cert_sums.proofs.bounding_reserve.with_offers.Given as goal

abbrev pub invariant-loop-offer : goal.invariant-loop-offer
invariant-loop-offer g l =
    (d : Duals Fraction) → g.N.Exact.value l.reserve ≡ d.reserve → AreNamedRooms g.N.Exact.value l.market d l.rooms
    → g.N.Exact.value l.fn.of_blocks ≡ total (nothing_terms l.market d ++ map (block_most l.market d) (places (length l.market.blocks))) → g.N.Exact.value l.sum ≡ offers_to l.market d l.offer-index
