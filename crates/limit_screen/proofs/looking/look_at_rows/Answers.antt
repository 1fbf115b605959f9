use Rattle.std.proofs.Common.{rules, List, Some, ◌∙◌, map, subst}
use Rattle.fraction_theory.specs.Fraction.{whole}
use Rattle.fraction_theory.specs.Order.{◌≤ℚ◌}
use Rattle.market_model.specs.LimitRows.{flow_by}
use Rattle.market_model.specs.Overrun.{overrun as overrun_of}
use Rattle.market_model.specs.declared.limits.Row.{Row}
use Rattle.limit_rows.proofs.WalkLemmas.{all_taken}
use Rattle.limit_screen.specs.Flows.{carried_at}
use Rattle.limit_screen.specs.Screening.{IsStanding, IsWorstOf}
use Rattle.limit_screen.proofs.Casts.{narrow_is}
use Rattle.limit_screen.proofs.LookLemmas.{looked_below, looked_beyond, looked_over, looked_reached}
use Rattle.limit_screen.proofs.looking.look_at_rows.Goals as goal

pub loop-row-preserved-then-is_told_within : goal.loop-row-preserved-then-is_told_within
loop-row-preserved-then-is_told_within g c =
    let m = c.args.market.now in
    let by = carried_at m (map g.N.Exact.value c.args.flows.now) in
    let row = c.in-Some.row in
    looked_over g.N.Exact.value m c.args.taken.now by c.loop-row.yielded row c.loop-row.reached.items c.loop-row.worst c.told_most.result c.lines-lines.ensures.market c.told_most.ensures
    (subst (λ n. overrun_of m row (flow_by m by row) ≤ℚ whole n) (narrow_is c.told_most.result (record { sfits = c.told_most.type_inv })) (c.if-is_told_within.ensures by c.requires.parts (search rules))) c.loop-row.invariant

pub loop-row-preserved-in-Below : goal.loop-row-preserved-in-Below
loop-row-preserved-in-Below g c =
    let m = c.args.market.now in
    let by = carried_at m (map g.N.Exact.value c.args.flows.now) in
    let row = c.in-Some.row in
    let stands = subst (IsStanding g.N.Exact.value m c.args.taken.now row (flow_by m by row)) c.in-Below.is c.in_ok-row_standing.ensures.standing in
    looked_below g.N.Exact.value m c.args.taken.now by c.loop-row.yielded row c.loop-row.reached.items c.loop-row.worst stands.0 stands.1 c.loop-row.invariant

pub loop-row-preserved-in-Ok : goal.loop-row-preserved-in-Ok
loop-row-preserved-in-Ok g c =
    let m = c.args.market.now in
    let by = carried_at m (map g.N.Exact.value c.args.flows.now) in
    let row = c.in-Some.row in
    let stands = subst (IsStanding g.N.Exact.value m c.args.taken.now row (flow_by m by row)) c.in-Reached.is c.in_ok-row_standing.ensures.standing in
    looked_reached g.N.Exact.value m c.args.taken.now by c.loop-row.yielded row c.loop-row.reached.items c.loop-row.worst c.push.new.self.items stands.0 stands.1 c.in-Ok.ensures.items c.loop-row.invariant

pub loop-row-preserved : goal.loop-row-preserved
loop-row-preserved g c =
    let m = c.args.market.now in
    let by = carried_at m (map g.N.Exact.value c.args.flows.now) in
    let row = c.in-Some.row in
    let stands = subst (IsStanding g.N.Exact.value m c.args.taken.now row (flow_by m by row)) c.in-Beyond.is c.in_ok-row_standing.ensures.standing in
    looked_beyond g.N.Exact.value m c.args.taken.now by c.loop-row.yielded row c.loop-row.reached.items c.worse-worst.result stands.0
    (c.worse-worst.ensures m c.args.taken.now (flow_by m by) c.loop-row.yielded c.loop-row.invariant.passed stands.0 stands.2)

pub returns-in-Some-worst-clause-look : goal.returns-in-Some-worst-clause-look
returns-in-Some-worst-clause-look g c =
    let m = c.args.market.now in
    let by = carried_at m (map g.N.Exact.value c.args.flows.now) in
    let all = all_taken m _ _ _ c.loop-row.yielded (c.into_iter-row-iterator.ensures.into_iter_gives ∙ c.rows-row-items.ensures.rows) c.loop-row.yielded_by c.next.result c.in-None.is c.next.ensures.steps in
    let some = rw c.in-Some-worst.is at c.loop-row.invariant.passed in
    (subst (λ (rs : List Row). IsWorstOf g.N.Exact.value m c.args.taken.now (flow_by m by) rs (Some c.in-Some-worst.broken)) all some).0
