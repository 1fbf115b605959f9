use Rattle.std.proofs.Common.{◌≡◌}
use Rattle.fraction_theory.specs.Fraction.{Fraction}
use Rattle.fraction_theory.specs.Sums.{total}
use Rattle.market_model.specs.declared.answered.Duals.{Duals}
use Rattle.market_model.specs.Infeasibility.{nothing_terms}
use Rattle.cert_sums.specs.Named.{AreNamed, AreNamedRooms}
use Rattle.cert_sums.proofs.BoundLemmas.{blocks_to}
use Rattle.cert_sums.proofs.bounding.with_blocks.Given as goal

abbrev pub invariant-loop-at : goal.invariant-loop-at
invariant-loop-at g l =
    (d : Duals Fraction) → g.N.Exact.value l.energy ≡ d.energy → AreNamed g.N.Exact.value l.market d l.named → AreNamedRooms g.N.Exact.value l.market d l.rooms → g.N.Exact.value l.fn.of_rooms ≡ total (nothing_terms l.market d)
    → g.N.Exact.value l.sum ≡ blocks_to l.market d l.at
