use Rattle.std.proofs.Common.{◌≡◌, ◌++◌}
use Rattle.fraction_theory.specs.Fraction.{Fraction}
use Rattle.fraction_theory.specs.Sums.{total}
use Rattle.market_model.specs.declared.answered.Duals.{Duals}
use Rattle.market_model.specs.Infeasibility.{energy_left_terms, need_terms}
use Rattle.cert_sums.specs.Named.{AreNamedRooms}
use Rattle.cert_sums.proofs.RoomLemmas.{rooms_to}
use Rattle.cert_sums.proofs.bounding_reserve.with_rooms.Given as goal

abbrev pub invariant-loop-entry : goal.invariant-loop-entry
invariant-loop-entry g l =
    (d : Duals Fraction) → AreNamedRooms g.N.Exact.value l.market d l.rooms → g.N.Exact.value l.fn.of_need ≡ total (energy_left_terms l.market d ++ need_terms l.market d)
    → g.N.Exact.value l.sum ≡ rooms_to l.market d l.entry-index
