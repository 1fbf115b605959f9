use Rattle.std.proofs.Common.{inr, refl}
use Rattle.std.proofs.lemmas.Result.{IfErr-weaker}
use Rattle.exact_fraction.specs.declared.Op.TheVariants.{Minus}
use Rattle.market_model.specs.Optimality.{room_price, unit_price}
use Rattle.market_model.specs.Valued.{passed_at}
use Rattle.market_model.proofs.SumSteps.{refusal_same}
use Rattle.cert_sums.proofs.RoomLemmas.{energy_worth_refused}
use Rattle.cert_sums.proofs.worths.energy_worth.Goals as goal

pub returns-clause-stops : goal.returns-clause-stops
returns-clause-stops g c = λ d energy are rooms.
    let m = c.args.market.now in
    let value = g.N.Exact.value in
    IfErr-weaker c.less_room.result _ _
    (λ p h. inr (energy_worth_refused m d c.args.unit h.0 g.N.Exact.bound (passed_at value p)
    (refusal_same Minus (value c.in_ok-price.price) (room_price m d c.args.unit) (unit_price m d c.args.unit) (room_price m d c.args.unit) g.N.Exact.bound (passed_at value p) (c.in_ok-price.ensures.price d energy are) refl h.1)))
    (c.less_room.ensures.stops m d c.requires.unit rooms)
