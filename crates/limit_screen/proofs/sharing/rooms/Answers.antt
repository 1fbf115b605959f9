use Rattle.std.proofs.Common.{arith, refl, length, ap}
use Rattle.market_data.specs.declared.participants.Unit as unit
use Rattle.market_model.proofs.PutInSteps.{unit_read}
use Rattle.market_model.proofs.RoomLemmas.{listed-inside}
use Rattle.limit_screen.proofs.sharing.rooms.Goals as goal

pub at-requires : goal.at-requires
at-requires g c =
    let worst = rw c.in-Some.is at c.in_ok-unit.ensures.worst in
    omega (arith, listed-inside c.args.market.now c.in-Some.unit worst.offers, ap length c.units.ensures.list)

pub returns-in-Some-clause-worst : goal.returns-in-Some-clause-worst
returns-in-Some-clause-worst g c =
    let worst = rw c.in-Some.is at c.in_ok-unit.ensures.worst in
    (c.in-Some.unit, worst, ap (λ (u : unit.Unit). u.row) (unit_read c.args.market.now c.units.result.now c.in-Some.unit c.in-Some.unit c.at.result.now c.units.ensures.list refl c.at.ensures))
