use Rattle.std.proofs.Common.{◌≡◌, ◌-◌, ℕ, Some, length, slice_get, ap, arith}
use Rattle.market_model.specs.LimitRows.{lost_lines, place_of_line}
use Rattle.limit_rows.proofs.GroupLemmas.{cause_behind, length-causes, length-map, lost_line-inside, unit_behind}
use Rattle.limit_rows.proofs.causes.cause_at.Goals as goal

pub returns-then-place-len-clause-is : goal.returns-then-place-len-clause-is
returns-then-place-len-clause-is c =
    let m = c.args.market.now in
    let listed : slice_get (lost_lines m) (c.args.place - 1) ≡ Some c.at.result.now = rw c.lost_lines-lost.ensures.list at c.at.ensures in
    cause_behind m c.args.place c.at.result.now c.if-place-eq0.false listed

pub returns-then-place-len-clause-lost : goal.returns-then-place-len-clause-lost
returns-then-place-len-clause-lost c =
    let m = c.args.market.now in
    let listed : slice_get (lost_lines m) (c.args.place - 1) ≡ Some c.at.result.now = rw c.lost_lines-lost.ensures.list at c.at.ensures in
    lost_line-inside m c.lost_lines-lost.ensures.market (c.args.place - 1) c.at.result.now listed

pub returns-else-place-len-clause-is : goal.returns-else-place-len-clause-is
returns-else-place-len-clause-is c =
    let m = c.args.market.now in
    let long = ap length c.lost_lines-lost.ensures.list in
    let lost = length-map (place_of_line m) m.outages in
    let k : ℕ = c.args.place - 1 - c.len-else-place-len.result in
    unit_behind m c.args.place k
    (omega (arith, c.if-place-eq0.false, c.if-place-len.false, c.len.ensures, c.len-else-place-len.ensures, long))
    (omega (arith, c.if-place-eq0.false, c.if-place-len.false, c.len.ensures, c.len-else-place-len.ensures, long, lost, c.requires, length-causes m))

pub returns-else-place-len-clause-lost : goal.returns-else-place-len-clause-lost
returns-else-place-len-clause-lost c =
    let m = c.args.market.now in
    let long = ap length c.lost_lines-lost.ensures.list in
    let lost = length-map (place_of_line m) m.outages in
    omega (arith, c.if-place-eq0.false, c.if-place-len.false, c.len.ensures, c.len-else-place-len.ensures, long, lost, c.requires, length-causes m)
