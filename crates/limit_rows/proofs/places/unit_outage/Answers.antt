use Rattle.std.proofs.Common.{◌<◌, ◌∙◌, sym, ap, length, arith}
use Rattle.limit_rows.proofs.PlaceLemmas.{of_no_unit, of_unit}
use Rattle.limit_rows.proofs.places.unit_outage.Goals as goal

pub returns-then-unit_of-row : goal.returns-then-unit_of-row
returns-then-unit_of-row c =
    let m = c.args.market.now in
    let inside : c.loop-outage.outage < length m.unit_outages = let long = ap length c.unit_outages.ensures.list in omega (arith, c.loop-outage-test.true, c.len-outage-end.ensures, long) in
    of_unit m c.unit_outages.ensures.market c.loop-outage.outage c.args.row inside (sym c.unit_of.ensures ∙ c.if-unit_of-row.true)

pub returns : goal.returns
returns c =
    of_no_unit c.args.market.now c.unit_outages.ensures.market c.args.row c.requires
    (λ k lt. c.loop-outage.invariant k (let long = ap length c.unit_outages.ensures.list in omega (arith, lt, c.loop-outage-test.false, c.len-outage-end.ensures, long)))
