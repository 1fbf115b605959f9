use Rattle.std.proofs.Common.{rules, Err, ◌≡◌, ◌⊎◌, ◌∙◌, arith, ap, subst, length, map}
use Rattle.market_model.specs.declared.limits.Row.{Row}
use Rattle.market_model.specs.NamedSums.{IsRefusedIn}
use Rattle.market_model.specs.Optimality.{named_rows}
use Rattle.market_model.specs.RightAnswers.{rent_by, rent_of}
use Rattle.market_model.specs.Settlement.{rent_terms_by}
use Rattle.market_model.specs.SumTables.{IsRefusedAmong, PaidRowSum, PickupSum}
use Rattle.market_model.specs.Valued.{dual_at, duals_at, passed_at, rent_at}
use Rattle.limit_rows.proofs.DualLemmas.{dual_one_sided, dual_row, named_count}
use Rattle.limit_screen.specs.Flows.{carried_at}
use Rattle.market_model.specs.declared.stops.Stop.TheVariants as why
use Rattle.settlement.proofs.ListLemmas.{put_next, all_put_next}
use Rattle.settlement.proofs.RowLemmas.{rent_is, row_refusal}
use Rattle.settlement.proofs.rents.rents.Goals as goal

pub found_row-row-requires : goal.found_row-row-requires
found_row-row-requires g c =
    let r = dual_row g.N.Exact.value c.args.market.now c.args.duals.now c.requires.duals c.slice-dual-items.result.now c.loop-dual.dual-index c.dual-item.result
    c.slice-dual-items.ensures c.loop-dual-test.true c.dual-item.is c.lines-lines.ensures.market in
    (r.0, r.1.row, r.1.name)

pub row_rent-requires-clause-one_sided : goal.row_rent-requires-clause-one_sided
row_rent-requires-clause-one_sided g c =
    dual_one_sided g.N.Exact.value c.args.market.now c.args.duals.now c.requires.duals c.slice-dual-items.result.now c.loop-dual.dual-index c.dual-item.result
    c.slice-dual-items.ensures c.loop-dual-test.true c.dual-item.is

pub loop-dual-preserved : goal.loop-dual-preserved
loop-dual-preserved g c =
    let m = c.args.market.now in
    let value = g.N.Exact.value in
    let d = duals_at value c.args.duals.now in
    let k = c.loop-dual.dual-index in
    let e = dual_at value c.dual-item.result in
    let fs = map value c.args.flows.now in
    let r = dual_row value m c.args.duals.now c.requires.duals c.slice-dual-items.result.now k c.dual-item.result c.slice-dual-items.ensures c.loop-dual-test.true c.dual-item.is c.lines-lines.ensures.market in
    let is = c.found_row-row.ensures.is r.0 r.1.row r.1.name in
    λ x are. put_next (rent_at value) (rent_of m x d) (named_rows m d) c.loop-dual.rents c.push.new.self c.in_ok-rent.rent k r.0 r.1.inside r.1.at c.in_ok-push.ensures (c.loop-dual.invariant x are)
    (c.in_ok-rent.ensures.rent ∙ ap (rent_by m (carried_at m fs) e) is ∙ rent_is m x fs are d k e r.0 r.1 c.lines-lines.ensures.market)

pub returns-clause-rents : goal.returns-clause-rents
returns-clause-rents g c =
    let m = c.args.market.now in
    let value = g.N.Exact.value in
    let d = duals_at value c.args.duals.now in
    λ x are. c.loop-dual.invariant x are
    ∙ all_put_next (rent_of m x d) (named_rows m d) c.args.duals.now.limits (dual_at value) c.loop-dual.dual-index
    (named_count m c.lines-lines.ensures.market d c.requires.duals.named) (omega (arith, c.loop-dual-test.false, ap length c.slice-dual-items.ensures))

pub returns-in_err-rent-clause-stops : goal.returns-in_err-rent-clause-stops
returns-in_err-rent-clause-stops g c =
    let m = c.args.market.now in
    let value = g.N.Exact.value in
    let d = duals_at value c.args.duals.now in
    let k = c.loop-dual.dual-index in
    let e = dual_at value c.dual-item.result in
    let fs = map value c.args.flows.now in
    let p = passed_at value c.in_err-rent.field-0.0 in
    let r = dual_row value m c.args.duals.now c.requires.duals c.slice-dual-items.result.now k c.dual-item.result c.slice-dual-items.ensures c.loop-dual-test.true c.dual-item.is c.lines-lines.ensures.market in
    let is = c.found_row-row.ensures.is r.0 r.1.row r.1.name in
    let given : c.from_residual.result ≡ Err (why.Passed c.in_err-rent.field-0.0) = search rules in
    λ x price are. rw given
    (row_refusal m x fs are d k e r.0 r.1 c.lines-lines.ensures.market price g.N.Exact.bound p
    (subst (λ (t : Row). IsRefusedAmong (PaidRowSum m (carried_at m fs) t) g.N.Exact.bound p ⊎ IsRefusedIn (rent_terms_by m (carried_at m fs) t e.up e.down) g.N.Exact.bound p ⊎ IsRefusedAmong (PickupSum m t) g.N.Exact.bound p) is c.in_err-rent.ensures.stops))
