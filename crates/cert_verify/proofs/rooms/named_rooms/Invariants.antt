use Rattle.std.proofs.Common.{◌≡◌, map}
use Rattle.std.specs.Prelude.{filter}
use Rattle.fraction_theory.specs.Fraction.{Fraction}
use Rattle.market_model.specs.declared.answered.Duals.{Duals}
use Rattle.market_model.specs.Dispatch.{places, unit_at}
use Rattle.market_model.specs.Optimality.{names_room}
use Rattle.market_model.specs.Reserves.{offers_reserve}
use Rattle.market_model.specs.Valued.{room_dual_at}
use Rattle.cert_sums.specs.Named.{room_priced_at, room_priced_by}
use Rattle.cert_verify.proofs.rooms.named_rooms.Given as goal

-- those of the units before this one
abbrev pub invariant-loop-at : goal.invariant-loop-at
invariant-loop-at g l =
    (d : Duals Fraction) → d.rooms ≡ map (room_dual_at g.N.Exact.value) l.rooms
    → map (room_priced_at g.N.Exact.value) l.named ≡ map (room_priced_by l.market d) (filter (λ u. names_room d.rooms (unit_at l.market u).row) (filter (offers_reserve l.market) (places l.at)))
