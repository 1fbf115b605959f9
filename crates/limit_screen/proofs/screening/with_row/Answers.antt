use Rattle.std.proofs.Common.{inl, inr, map, subst}
use Rattle.market_model.specs.LimitRows.{flow_by}
use Rattle.limit_screen.specs.Flows.{carried_at}
use Rattle.limit_screen.specs.Screening.{IsStanding, taken_rows}
use Rattle.limit_screen.proofs.ScreenLemmas.{kept}
use Rattle.limit_screen.proofs.screening.with_row.Goals as goal

pub returns-in-Beyond-clause-worst : goal.returns-in-Beyond-clause-worst
returns-in-Beyond-clause-worst g c = λ rs before.
    let m = c.args.market.now in
    let taken = taken_rows m c.args.taken in
    let f = flow_by m (carried_at m (map g.N.Exact.value c.args.flows.now)) in
    let stands = subst (IsStanding g.N.Exact.value m taken c.args.row (f c.args.row)) c.in-Beyond.is c.in_ok-overrun.ensures.standing in
    c.worse.ensures m taken f rs before stands.0 stands.2

pub returns-in-Below-clause-worst : goal.returns-in-Below-clause-worst
returns-in-Below-clause-worst g c = λ rs before.
    let value = g.N.Exact.value in
    let m = c.args.market.now in
    let taken = taken_rows m c.args.taken in
    let f = flow_by m (carried_at m (map value c.args.flows.now)) in
    elim c.in-Below.is [
      | inl e ↦ kept value m taken f rs c.args.row c.args.worst before (subst (IsStanding value m taken c.args.row (f c.args.row)) e c.in_ok-overrun.ensures.standing).0
      | inr e ↦ kept value m taken f rs c.args.row c.args.worst before (subst (IsStanding value m taken c.args.row (f c.args.row)) e c.in_ok-overrun.ensures.standing).0
    ]
