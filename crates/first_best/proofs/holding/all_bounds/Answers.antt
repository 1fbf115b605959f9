use Rattle.std.proofs.Common.{◌≡◌, ◌<◌, ◌∙◌, ◌+◌, ◌++◌, ◌∷◌, [], ℕ, List, arith, ap, length, subst, subst₂, sym, slice_index, take}
use Rattle.std.specs.List.{Contains}
use Rattle.std.proofs.lemmas.List.{append_assoc, take_more}
use Rattle.linear_dict.proofs.SplitLemmas.{Contains-at}
use Rattle.first_best.proofs.HoldLemmas.{AreBoundsOf, bounds_more}
use Rattle.first_best.proofs.holding.all_bounds.Goals as goal

pub bounds_of-requires-clause-named : goal.bounds_of-requires-clause-named
bounds_of-requires-clause-named g c =
    let d = c.args.dict.now in
    let l : c.loop-place.place < length d.columns = Prim.omega (arith, c.loop-place-test.true, c.column_count-place-end.ensures, c.requires.sound.column_count) in
    subst (Contains d.names) (sym c.column_name.ensures) (c.requires.sound.put_in.second_named _ (Contains-at d.columns c.loop-place.place l))

pub loop-place-preserved : goal.loop-place-preserved
loop-place-preserved g c =
    let d = c.args.dict.now in
    let k : ℕ = c.loop-place.place in
    let value = g.N.Exact.value in
    let l : k < length d.columns = Prim.omega (arith, c.loop-place-test.true, c.column_count-place-end.ensures, c.requires.sound.column_count) in
    subst₂ (λ names bounds. AreBoundsOf value d c.args.held.now names bounds)
    (ap (λ (w : ℕ). take k d.columns ++ w ∷ []) c.column_name.ensures ∙ sym (take_more d.columns k 0 l)) (sym c.in-Ok.ensures.items)
    (bounds_more value d c.args.held.now (take k d.columns) c.loop-place.bounds.items c.column_name.result c.bounds_of.result c.loop-place.invariant c.bounds_of.ensures.low c.bounds_of.ensures.high)

pub bounds_of-requires-in-loop-place-2-clause-named : goal.bounds_of-requires-in-loop-place-2-clause-named
bounds_of-requires-in-loop-place-2-clause-named g c =
    let d = c.args.dict.now in
    let l : c.loop-place-2.place < length d.rows = Prim.omega (arith, c.loop-place-2-test.true, c.row_count-place-end.ensures, c.requires.sound.row_count) in
    subst (Contains d.names) (sym c.row_name.ensures) (c.requires.sound.put_in.first_named _ (Contains-at d.rows c.loop-place-2.place l))

pub loop-place-2-preserved : goal.loop-place-2-preserved
loop-place-2-preserved g c =
    let d = c.args.dict.now in
    let k : ℕ = c.loop-place-2.place in
    let value = g.N.Exact.value in
    let l : k < length d.rows = Prim.omega (arith, c.loop-place-2-test.true, c.row_count-place-end.ensures, c.requires.sound.row_count) in
    let names : (d.columns ++ take k d.rows) ++ c.row_name.result ∷ [] ≡ d.columns ++ take (k + 1) d.rows =
    append_assoc d.columns (take k d.rows) (c.row_name.result ∷ []) ∙ ap (λ (ws : List ℕ). d.columns ++ ws) (ap (λ (w : ℕ). take k d.rows ++ w ∷ []) c.row_name.ensures ∙ sym (take_more d.rows k 0 l)) in
    subst₂ (λ ns bounds. AreBoundsOf value d c.args.held.now ns bounds) names (sym c.in-Ok-push.ensures.items)
    (bounds_more value d c.args.held.now (d.columns ++ take k d.rows) c.loop-place-2.bounds.items c.row_name.result c.bounds_of-in-loop-place-2.result c.loop-place-2.invariant
    c.bounds_of-in-loop-place-2.ensures.low c.bounds_of-in-loop-place-2.ensures.high)
