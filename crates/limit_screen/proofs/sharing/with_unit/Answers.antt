use Rattle.std.proofs.Common.{◌∙◌, ap₂, subst₂}
use Rattle.fraction_theory.specs.Fraction.{◌-ℚ◌}
use Rattle.fraction_theory.specs.Order.{◌<ℚ◌, ◌≤ℚ◌}
use Rattle.market_model.proofs.RoomLemmas.{offers-listed}
use Rattle.limit_screen.proofs.RoomLemmas.{not-listed, still_worst}
use Rattle.limit_screen.proofs.UseLemmas.{none_there, use_there}
use Rattle.limit_screen.proofs.sharing.with_unit.Goals as goal

pub returns-in-Some-2-clause-worst : goal.returns-in-Some-2-clause-worst
returns-in-Some-2-clause-worst g c = λ x is before.
    let m = c.args.market.now in
    let value = g.N.Exact.value in
    let u = c.args.unit in
    let there = use_there value m x u c.args.used is c.in-Some.used c.in-Some.is in
    let past = rw c.in-Some-2.is at c.in_ok-overrun-in-Some.ensures.overrun in
    c.worse_room.ensures m x before (offers-listed m u c.requires there.0) (subst₂ (λ s t. s <ℚ t) c.room_quantity.ensures.room there.1 past.0)
    (past.1 ∙ ap₂ ◌-ℚ◌ there.1 c.room_quantity.ensures.room)

pub returns-in-None-2-clause-worst : goal.returns-in-None-2-clause-worst
returns-in-None-2-clause-worst g c = λ x is.
    let m = c.args.market.now in
    let value = g.N.Exact.value in
    let u = c.args.unit in
    let there = use_there value m x u c.args.used is c.in-Some.used c.in-Some.is in
    let kept = rw c.in-None-2.is at c.in_ok-overrun-in-Some.ensures.overrun in
    still_worst value m x u c.args.worst (λ offered. subst₂ (λ s t. s ≤ℚ t) there.1 c.room_quantity.ensures.room kept)

pub returns-in-None-clause-worst : goal.returns-in-None-clause-worst
returns-in-None-clause-worst g c = λ x is.
    let m = c.args.market.now in
    let u = c.args.unit in
    still_worst g.N.Exact.value m x u c.args.worst (λ offered. absurd (not-listed m u (none_there g.N.Exact.value m x u c.args.used is c.in-None.is) offered))
