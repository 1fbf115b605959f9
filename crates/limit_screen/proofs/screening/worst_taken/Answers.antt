use Rattle.std.proofs.Common.{rules, Err, List, None, Some, ◌≡◌, ◌∙◌, map, subst}
use Rattle.market_model.specs.LimitRows.{flow_by}
use Rattle.market_model.specs.declared.limits.Row.{Row}
use Rattle.limit_rows.proofs.WalkLemmas.{all_taken, taken_listed}
use Rattle.limit_screen.specs.Flows.{carried_at}
use Rattle.limit_screen.specs.Screening.{IsWorstOf, taken_rows}
use Rattle.limit_screen.proofs.ScreenLemmas.{all_keep_by}
use Rattle.limit_screen.proofs.screening.worst_taken.Goals as goal

pub with_row-requires-clause-row : goal.with_row-requires-clause-row
with_row-requires-clause-row g c =
    taken_listed c.args.market.now _ _ _ c.loop-row.yielded (c.into_iter-row-iterator.ensures.into_iter_gives ∙ c.rows-row-items.ensures.rows) c.loop-row.yielded_by c.next.result c.in-Some.row c.in-Some.is c.next.ensures.steps

pub loop-row-preserved : goal.loop-row-preserved
loop-row-preserved g c = c.in_ok-worst.ensures.worst c.loop-row.yielded c.loop-row.invariant

pub returns-in_err-worst-clause-stops : goal.returns-in_err-worst-clause-stops
returns-in_err-worst-clause-stops g c =
    let m = c.args.market.now in
    let listed = taken_listed m _ _ _ c.loop-row.yielded (c.into_iter-row-iterator.ensures.into_iter_gives ∙ c.rows-row-items.ensures.rows) c.loop-row.yielded_by c.next.result c.in-Some.row c.in-Some.is c.next.ensures.steps in
    let given : c.from_residual.result ≡ Err c.in_err-worst.field-0.0 = search rules in
    rw given (c.in-Some.row, listed, c.in_err-worst.ensures.stops)

pub returns-in-Some-worst-clause-worst : goal.returns-in-Some-worst-clause-worst
returns-in-Some-worst-clause-worst g c =
    let m = c.args.market.now in
    let taken = taken_rows m c.args.taken in
    let f = carried_at m (map g.N.Exact.value c.args.flows.now) in
    let all = all_taken m _ _ _ c.loop-row.yielded (c.into_iter-row-iterator.ensures.into_iter_gives ∙ c.rows-row-items.ensures.rows) c.loop-row.yielded_by c.next.result c.in-None.is c.next.ensures.steps in
    let some = rw c.in-Some-worst.is at c.loop-row.invariant in
    (subst (λ (rs : List Row). IsWorstOf g.N.Exact.value m taken (flow_by m f) rs (Some c.in-Some-worst.broken)) all some).0

pub returns-in-None-worst-clause-worst : goal.returns-in-None-worst-clause-worst
returns-in-None-worst-clause-worst g c =
    let m = c.args.market.now in
    let taken = taken_rows m c.args.taken in
    let f = carried_at m (map g.N.Exact.value c.args.flows.now) in
    let all = all_taken m _ _ _ c.loop-row.yielded (c.into_iter-row-iterator.ensures.into_iter_gives ∙ c.rows-row-items.ensures.rows) c.loop-row.yielded_by c.next.result c.in-None.is c.next.ensures.steps in
    let none = rw c.in-None-worst.is at c.loop-row.invariant in
    all_keep_by m taken f (subst (λ (rs : List Row). IsWorstOf g.N.Exact.value m taken (flow_by m f) rs None) all none)
