use Rattle.std.proofs.Common.{◌≡◌, map}
use Rattle.fraction_theory.specs.Fraction.{Fraction}
use Rattle.market_model.specs.declared.answered.Duals.{Duals}
use Rattle.market_model.specs.Dispatch.{places}
use Rattle.market_model.specs.Optimality.{energy_worth}
use Rattle.cert_sums.specs.Named.{AreNamed, AreNamedRooms}
use Rattle.cert_verify.proofs.against.energy_worths.Given as goal

abbrev pub invariant-loop-unit : goal.invariant-loop-unit
invariant-loop-unit g l =
    (d : Duals Fraction) → g.N.Exact.value l.energy ≡ d.energy → AreNamed g.N.Exact.value l.market d l.rows → AreNamedRooms g.N.Exact.value l.market d l.rooms
    → map g.N.Exact.value l.worths ≡ map (energy_worth l.market d) (places l.unit)
