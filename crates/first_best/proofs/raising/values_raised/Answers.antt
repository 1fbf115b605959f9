use Rattle.std.proofs.Common.{◌<◌, ◌∙◌, ◌∷◌, [], ℕ, arith, ap, length, map, slice_index, subst₂, sym, take}
use Rattle.std.proofs.lemmas.List.{map-append, take_more}
use Rattle.first_best.specs.Raising.{AreRaised}
use Rattle.first_best.proofs.RaiseLemmas.{raised_more}
use Rattle.first_best.proofs.raising.values_raised.Goals as goal

pub loop-row-preserved : goal.loop-row-preserved
loop-row-preserved g c =
    let d = c.args.dict.now in
    let value = g.N.Exact.value in
    let k : ℕ = c.loop-row.row in
    let j : ℕ = slice_index d.others c.args.column in
    let items = c.loop-row.values.items in
    let l : k < length d.basics = Prim.omega (arith, c.loop-row-test.true, c.row_count-row-end.ensures) in
    subst₂ (AreRaised d j (value c.args.by)) (sym (take_more d.basics k 0 l)) (sym (ap (map value) c.in-Ok.ensures.items ∙ map-append value items (c.in-Some.value ∷ [])))
    (raised_more d j (value c.args.by) (take k d.basics) (map value items) (slice_index d.basics k) (value c.in-Some.value) c.loop-row.invariant c.in-Some.ensures.value c.in-Some.ensures.within)
