use Rattle.std.proofs.Common.{◌≡◌, ◌∙◌, ◌+◌, ◌++◌, ◌∷◌, [], List, ℤ, ap, subst, sym, take, w64}
use Rattle.std.proofs.lemmas.Int.{to_z-of_z}
use Rattle.std.specs.List.{AllZip}
use Rattle.exact_fraction.specs.Nearest.{IsNearest}
use Rattle.market_data.specs.Scales.{place_count}
use Rattle.factor_maker.proofs.ListSteps.{zip-take}
use Rattle.factor_maker.proofs.exact_columns.rounded.Goals as goal
use mir.Val.{of_z, to_z}

pub loop-place-preserved : goal.loop-place-preserved
loop-place-preserved g c =
    let value = g.N.Exact.value in
    let known : to_z w64 (of_z w64 c.units.result) ≡ c.units.result = to_z-of_z w64 c.units.result (record { sfits = c.units.type_inv }) in
    subst (λ (units : List ℤ). AllZip (λ factor k. IsNearest (place_count c.args.places) (value factor) k) (take (c.loop-place.place + 1) c.args.factors.now) units) (sym (c.in_ok-push.ensures ∙ ap (λ (u : ℤ). c.loop-place.units ++ u ∷ []) known))
    (zip-take (λ factor k. IsNearest (place_count c.args.places) (value factor) k) c.args.factors.now c.loop-place.units c.loop-place.place c.index-factors-place.result c.units.result
    c.loop-place-test.true (sym c.index-factors-place.is) c.loop-place.invariant c.units.ensures)
