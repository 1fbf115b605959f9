use Rattle.std.proofs.Common.{◌+◌, ◌<◌, arith, length, subst, sym}
use Rattle.price_search.specs.OnlyPoint.{AreFixed}
use Rattle.price_search.proofs.OnlyPointLemmas.{fixed_more}
use Rattle.price_search.proofs.only_point.fixed_columns.Goals as goal

pub loop-place-preserved : goal.loop-place-preserved
loop-place-preserved g c =
    let value = g.N.Exact.value in
    let k = c.loop-place.place in
    let lt : k < length c.args.bounds.now = omega (arith, c.loop-place-test.true, c.requires) in
    subst (AreFixed value c.args.bounds.now (k + 1)) (sym c.in_ok-push.ensures)
    (fixed_more value c.args.bounds.now k c.loop-place.fixed c.is_same.result c.index-bounds-place.result lt c.index-bounds-place.is c.is_same.ensures c.loop-place.invariant)
