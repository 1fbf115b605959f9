use Rattle.std.proofs.Common.{◌≡◌, ◌∙◌, ◌++◌, ◌∷◌, [], ◌<◌, ℕ, List, length, take, get_or, sym, ap, subst}
use Rattle.std.specs.Prelude.{Contains}
use Rattle.std.specs.List.{flat_map}
use Rattle.std.proofs.lemmas.List.{take_more}
use Rattle.net_case.specs.declared.live_parts.NetBranch.{NetBranch}
use Rattle.net_paths.specs.Detours.{IsLiveRow}
use Rattle.factor_residuals.specs.Kirchhoff.{Column}
use Rattle.factor_residuals.specs.Residuals.{AreLost, IsResidual, bus_spots, outage_column}
use Rattle.factor_residuals.proofs.ColumnLemmas.{AllZip-last, columns_last}
use Rattle.factor_residuals.proofs.residuals.outage_bus_residual.Goals as goal

pub outage_flow-column-requires : goal.outage_flow-column-requires
outage_flow-column-requires c =
    let items = c.slice-outage-items.ensures in
    subst (λ (rows : List ℕ). IsLiveRow c.args.network.now (get_or rows c.loop-outage.outage-index 0)) (sym items)
    (c.requires c.loop-outage.outage-index 0 (subst (λ (rows : List ℕ). c.loop-outage.outage-index < length rows) items c.loop-outage-test.true))

pub loop-outage-preserved : goal.loop-outage-preserved
loop-outage-preserved c =
    let network = c.args.network.now in
    let rows = c.args.outages.now in
    let items = c.slice-outage-items.ensures in
    let i = c.loop-outage.outage-index in
    let within = subst (λ (rs : List ℕ). i < length rs) items c.loop-outage-test.true in
    let row : ℕ = get_or rows i 0 in
    let read : get_or c.slice-outage-items.result.now i 0 ≡ row = ap (λ (rs : List ℕ). get_or rs i 0) items in
    let g = λ (k : NetBranch). bus_spots network (outage_column network c.args.loss.now k) in
    let inv = c.loop-outage.invariant in
    let of = c.outage_flow-column.ensures c.args.loss.now in
    let branch = of.0 in
    let before = flat_map g inv.lost in
    record {
      lost = inv.lost ++ branch ∷ [];
      are = subst (λ (rs : List ℕ). AreLost network rs (inv.lost ++ branch ∷ [])) (sym (take_more rows i 0 within))
          (AllZip-last (λ (r : ℕ) (b : NetBranch). Contains network.branches b × (b.row ≡ r)) (take i rows) inv.lost row branch inv.are (of.1.live, of.1.row_is ∙ read));
      is = subst (λ xs. IsResidual xs c.in_ok-residual.residual) (ap (λ (k : Column). before ++ bus_spots network k) of.2 ∙ columns_last g inv.lost branch)
          (c.in_ok-residual.ensures before inv.is);
    }
