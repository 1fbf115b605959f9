use Rattle.std.proofs.Common.{◌∙◌, ◌++◌, map, sym, ap, subst}
use Rattle.std.specs.List.{flat_map}
use Rattle.factor_residuals.specs.Kirchhoff.{Column}
use Rattle.factor_residuals.specs.Residuals.{IsResidual, places_below, bus_spots, shift_column}
use Rattle.factor_residuals.proofs.ColumnLemmas.{map_last, columns_last, places_more}
use Rattle.factor_residuals.proofs.residuals.bus_residual.Goals as goal

pub loop-place-preserved : goal.loop-place-preserved
loop-place-preserved c =
    let network = c.args.network.now in
    let f = shift_column network c.args.shift.now in
    let i = c.loop-place.place in
    let before = flat_map (bus_spots network) (map f (places_below i)) in
    let column = c.shift_flow-column.ensures c.args.shift.now in
    subst (λ xs. IsResidual xs c.in_ok-residual.residual)
    (ap (λ (k : Column). before ++ bus_spots network k) column ∙ columns_last (bus_spots network) (map f (places_below i)) (f i)
    ∙ ap (flat_map (bus_spots network)) (map_last f (places_below i) i ∙ ap (map f) (sym (places_more i))))
    (c.in_ok-residual.ensures before c.loop-place.invariant)
