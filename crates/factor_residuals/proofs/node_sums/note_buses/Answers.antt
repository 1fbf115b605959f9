use Rattle.std.proofs.Common.{◌≡◌, ◌∙◌, ◌++◌, ◌∷◌, [], map, length, sym, ap, subst, arith}
use Rattle.factor_residuals.specs.declared.spots.Spot.{Spot}
use Rattle.factor_residuals.specs.Kirchhoff.{bus_spot}
use Rattle.factor_residuals.specs.Columns.{column_of}
use Rattle.factor_residuals.specs.Residuals.{IsResidual, places_below}
use Rattle.factor_residuals.proofs.ColumnLemmas.{behind, places_more}
use Rattle.factor_residuals.proofs.node_sums.note_buses.Goals as goal

pub loop-bus-preserved : goal.loop-bus-preserved
loop-bus-preserved g c = λ spots is.
    let f = bus_spot c.args.network.now (column_of c.args.network.now c.args.factors.now c.args.column.now) in
    let i = c.loop-bus.bus in
    let before = spots ++ map f (places_below i) in
    let count : c.len-bus-end.result ≡ length c.args.network.now.buses = c.len-bus-end.ensures ∙ ap length c.buses.ensures.list in
    let node = c.index.ensures ∙ c.in_ok-nodes.ensures.nodes.each i c.index.result.now (omega (arith, count, c.loop-bus-test.true)) in
    let spot : c.bus_spot.result ≡ f i = c.bus_spot.ensures c.args.factors.now c.places-places.ensures node in
    subst (λ xs. IsResidual xs c.with-residual.result) (behind f spots (places_below i) i ∙ ap (λ ps. spots ++ map f ps) (sym (places_more i)))
    (subst (λ (s : Spot). IsResidual (before ++ s ∷ []) c.with-residual.result) spot (c.with-residual.ensures before (c.loop-bus.invariant spots is)))
