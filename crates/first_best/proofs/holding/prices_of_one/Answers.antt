use Rattle.std.proofs.Common.{◌≡◌, ◌∙◌, ◌+◌, List, arith, ap, map, take, subst, sym}
use Rattle.optimal_face.specs.Faces.{price_of_one}
use Rattle.first_best.proofs.HoldLemmas.{grown_by}
use Rattle.first_best.proofs.holding.prices_of_one.Goals as goal

pub loop-place-preserved : goal.loop-place-preserved
loop-place-preserved g c =
    let d = c.args.dict.now in
    let value = g.N.Exact.value in
    let j = c.args.name in
    subst (λ (xs : List g.row.N.Denot). map value xs ≡ map (price_of_one j) (take (c.loop-place.place + 1) d.columns)) (sym c.in-Ok.ensures.items)
    (grown_by value (price_of_one j) c.loop-place.prices.items c.price_for.result d.columns c.loop-place.place 0
    (Prim.omega (arith, c.loop-place-test.true, c.column_count-place-end.ensures, c.requires.sound.column_count)) c.loop-place.invariant
    (c.price_for.ensures ∙ ap (price_of_one j) c.column_name.ensures))
