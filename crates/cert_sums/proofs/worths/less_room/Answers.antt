use Rattle.std.proofs.Common.{◌∙◌, ap, refl}
use Rattle.std.proofs.lemmas.Result.{MatchResult-weaker}
use Rattle.fraction_theory.specs.Fraction.{◌-ℚ◌}
use Rattle.exact_fraction.specs.declared.Op.TheVariants.{Minus}
use Rattle.market_model.specs.Optimality.{room_price}
use Rattle.market_model.proofs.SumSteps.{refusal}
use Rattle.cert_sums.proofs.RoomLemmas.{less_nothing, room_named, room_not_named}
use Rattle.cert_sums.proofs.worths.less_room.Goals as goal

pub returns-in-Some-clause-less : goal.returns-in-Some-clause-less
returns-in-Some-clause-less g c = λ m d lt are.
    let value = g.N.Exact.value in
    let named = room_named value m d c.args.rooms.now c.args.unit c.room_price_in.result c.room_price_in.ensures lt are c.in-Some.room c.in-Some.is in
    MatchResult-weaker c.exact_difference.result c.exact_difference.ensures (λ r is. is.exact ∙ ap (λ t. value c.args.price -ℚ t) named.1) (λ _ _. tt)

pub returns-in-Some-clause-stops : goal.returns-in-Some-clause-stops
returns-in-Some-clause-stops g c = λ m d lt are.
    let value = g.N.Exact.value in
    let named = room_named value m d c.args.rooms.now c.args.unit c.room_price_in.result c.room_price_in.ensures lt are c.in-Some.room c.in-Some.is in
    MatchResult-weaker c.exact_difference.result c.exact_difference.ensures (λ _ _. tt)
    (λ p is. (named.0, refusal value g.N.Exact.bound Minus c.args.price c.in-Some.room (value c.args.price) (room_price m d c.args.unit) p refl named.1 is))

pub returns-in-None-clause-less : goal.returns-in-None-clause-less
returns-in-None-clause-less g c = λ m d lt are.
    let value = g.N.Exact.value in
    less_nothing (value c.args.price) (room_price m d c.args.unit) (room_not_named value m d c.args.rooms.now c.args.unit c.room_price_in.result c.room_price_in.ensures lt are c.in-None.is)
