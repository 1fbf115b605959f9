use Rattle.std.proofs.Common.{◌≡◌, ◌∙◌, sym, subst}
use Rattle.std.specs.Option.{option_map}
use Rattle.market_model.specs.Reserves.{offers_reserve, room, room_used}
use Rattle.limit_screen.specs.Rooms.{counted}
use Rattle.limit_screen.proofs.ReachLemmas.{are_one, are_two, both_hold, first_fails, not_same, second_fails}
use Rattle.limit_screen.proofs.UseLemmas.{none_counts, some_counts}
use Rattle.limit_screen.proofs.reaching.is_used_up.Goals as goal

pub returns-in-Equal : goal.returns-in-Equal
returns-in-Equal g c = λ x is.
    let m = c.args.market.now in
    let u = c.args.unit in
    let value = g.N.Exact.value in
    let counts = some_counts (offers_reserve m u) (value c.in-Some.used) (room_used m x u) (subst (λ o. option_map value o ≡ counted (offers_reserve m u) (room_used m x u)) c.in-Some.is is) in
    both_hold _ _ counts.0 (are_one (room_used m x u) (room m u) (sym counts.1 ∙ c.in-Equal.ensures ∙ c.room_quantity.ensures.room))

pub returns-in-Less : goal.returns-in-Less
returns-in-Less g c = λ x is.
    let m = c.args.market.now in
    let u = c.args.unit in
    let value = g.N.Exact.value in
    let counts = some_counts (offers_reserve m u) (value c.in-Some.used) (room_used m x u) (subst (λ o. option_map value o ≡ counted (offers_reserve m u) (room_used m x u)) c.in-Some.is is) in
    second_fails _ _
    (are_two (room_used m x u) (room m u)
    (λ e. not_same c.order.result (value c.in-Some.used) (value c.room_quantity.result) c.order.ensures c.in-Less.is (counts.1 ∙ e ∙ sym c.room_quantity.ensures.room)))

pub returns-in-None : goal.returns-in-None
returns-in-None g c = λ x is.
    let m = c.args.market.now in
    let u = c.args.unit in
    first_fails _ _ (none_counts (offers_reserve m u) (room_used m x u) (subst (λ o. option_map g.N.Exact.value o ≡ counted (offers_reserve m u) (room_used m x u)) c.in-None.is is))
