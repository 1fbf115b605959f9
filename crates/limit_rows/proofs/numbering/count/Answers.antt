use Rattle.std.proofs.Common.{◌≤◌, length, arith}
use Rattle.market_model.specs.LimitRows.{causes}
use Rattle.limit_rows.proofs.CountLemmas.{none_before, stand_all, stand_past}
use Rattle.limit_rows.proofs.WalkLemmas.{rows_few}
use Rattle.limit_rows.proofs.numbering.count.Goals as goal

pub loop-place-init : goal.loop-place-init
loop-place-init c = none_before c.args.market.now

pub overflow_add-rows : goal.overflow_add-rows
overflow_add-rows c =
    let m = c.args.market.now in
    let past = stand_past m c.loop-place.place c.loop-place.rows c.loop-place.invariant c.cause_at.result c.count_under-rows.result c.cause_at.ensures.is c.count_under-rows.ensures in
    let counted = past.count in
    omega (arith, counted, rows_few m c.lines-lines.ensures.market)

pub loop-place-preserved : goal.loop-place-preserved
loop-place-preserved c =
    stand_past c.args.market.now c.loop-place.place c.loop-place.rows c.loop-place.invariant c.cause_at.result c.count_under-rows.result c.cause_at.ensures.is c.count_under-rows.ensures

pub returns : goal.returns
returns c =
    let m = c.args.market.now in
    let past : length (causes m) ≤ c.loop-place.place = omega (arith, c.loop-place-test.false, c.cause_count-place-end.ensures.count) in
    stand_all m c.loop-place.place c.loop-place.rows c.loop-place.invariant past
