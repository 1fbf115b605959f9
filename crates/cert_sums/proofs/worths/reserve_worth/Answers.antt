use Rattle.std.proofs.Common.{refl}
use Rattle.std.proofs.lemmas.Result.{IfErr-weaker}
use Rattle.exact_fraction.specs.declared.Op.TheVariants.{Minus}
use Rattle.market_model.specs.Optimality.{room_price}
use Rattle.market_model.specs.Valued.{passed_at}
use Rattle.market_model.proofs.SumSteps.{refusal_same}
use Rattle.cert_sums.proofs.RoomLemmas.{reserve_worth_refused}
use Rattle.cert_sums.proofs.worths.reserve_worth.Goals as goal

pub returns-clause-stops : goal.returns-clause-stops
returns-clause-stops g c = λ m d lt is rooms.
    let value = g.N.Exact.value in
    IfErr-weaker c.less_room.result _ _
    (λ p h. reserve_worth_refused m d c.args.unit h.0 g.N.Exact.bound (passed_at value p)
    (refusal_same Minus (value c.args.reserve) (room_price m d c.args.unit) d.reserve (room_price m d c.args.unit) g.N.Exact.bound (passed_at value p) is refl h.1))
    (c.less_room.ensures.stops m d lt rooms)
