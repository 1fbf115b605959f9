use Rattle.std.proofs.Common.{◌∙◌, ◌++◌, map, sym, ap, subst}
use Rattle.std.specs.List.{flat_map}
use Rattle.factor_residuals.specs.Kirchhoff.{Column}
use Rattle.factor_residuals.specs.Residuals.{IsResidual, places_below, loop_spots, shift_column}
use Rattle.factor_residuals.proofs.ColumnLemmas.{map_last, columns_last, places_more}
use Rattle.factor_residuals.proofs.residuals.loop_residual.Goals as goal

pub loop-place-preserved : goal.loop-place-preserved
loop-place-preserved c =
    let network = c.args.network.now in
    let f = shift_column network c.args.shift.now in
    let g = loop_spots network c.args.reactances.now c.in_ok-loops.loops in
    let i = c.loop-place.place in
    let before = flat_map g (map f (places_below i)) in
    let column = c.shift_flow-column.ensures c.args.shift.now in
    subst (λ xs. IsResidual xs c.note_loops-residual.result)
    (ap (λ (k : Column). before ++ g k) column ∙ columns_last g (map f (places_below i)) (f i) ∙ ap (flat_map g) (map_last f (places_below i) i ∙ ap (map f) (sym (places_more i))))
    (c.note_loops-residual.ensures before c.loop-place.invariant)
