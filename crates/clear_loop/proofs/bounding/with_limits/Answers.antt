use Rattle.std.proofs.Common.{rules, Err, ◌≡◌, ◌≤◌, ◌∙◌, ap, arith, length, subst, sym}
use Rattle.std.proofs.lemmas.List.{length-map}
use Rattle.fraction_theory.specs.Fraction.{◌+ℚ◌}
use Rattle.fraction_theory.specs.Sums.{total}
use Rattle.market_model.specs.declared.limits.Row.{Row}
use Rattle.market_model.specs.Infeasibility.{limit_terms}
use Rattle.market_model.specs.LimitRows.{rows}
use Rattle.market_model.specs.Optimality.{down_of, named_rows, up_of}
use Rattle.market_model.specs.Valued.{dual_at, duals_at, passed_at}
use Rattle.std.specs.Prelude.{Contains}
use Rattle.limit_rows.proofs.DualLemmas.{dual_row, named_count}
use Rattle.clear_loop.specs.Bounding.{IsRowStepRefusal}
use Rattle.clear_loop.proofs.FarkasSums.{limit_refused, limits_all, limits_none, limits_step}
use Rattle.clear_loop.proofs.bounding.with_limits.Goals as goal

pub loop-dual-init : goal.loop-dual-init
loop-dual-init g c = limits_none c.args.market.now (duals_at g.N.Exact.value c.args.duals.now) (g.N.Exact.value c.args.of_energy) c.requires.of_energy

pub found_row-row-requires : goal.found_row-row-requires
found_row-row-requires g c =
    let r = dual_row g.N.Exact.value c.args.market.now c.args.duals.now c.requires.duals c.slice-dual-items.result.now c.loop-dual.dual-index c.dual-item.result
    c.slice-dual-items.ensures c.loop-dual-test.true c.dual-item.is c.lines-lines.ensures.market in
    (r.0, r.1.row, r.1.name)

pub with_limit-requires-clause-row : goal.with_limit-requires-clause-row
with_limit-requires-clause-row g c =
    let r = dual_row g.N.Exact.value c.args.market.now c.args.duals.now c.requires.duals c.slice-dual-items.result.now c.loop-dual.dual-index c.dual-item.result
    c.slice-dual-items.ensures c.loop-dual-test.true c.dual-item.is c.lines-lines.ensures.market in
    subst (Contains (rows c.args.market.now)) (sym (c.found_row-row.ensures.is r.0 r.1.row r.1.name)) r.1.row

pub loop-dual-preserved : goal.loop-dual-preserved
loop-dual-preserved g c =
    let m = c.args.market.now in
    let value = g.N.Exact.value in
    let d = duals_at value c.args.duals.now in
    let k = c.loop-dual.dual-index in
    let r = dual_row value m c.args.duals.now c.requires.duals c.slice-dual-items.result.now k c.dual-item.result c.slice-dual-items.ensures c.loop-dual-test.true c.dual-item.is c.lines-lines.ensures.market in
    let is = c.found_row-row.ensures.is r.0 r.1.row r.1.name in
    limits_step m d k (dual_at value c.dual-item.result) r.0 r.1 (value c.loop-dual.sum) _ c.loop-dual.invariant
    (c.in_ok-sum.ensures.sum d (ap (up_of m d) is ∙ r.1.up) (ap (down_of m d) is ∙ r.1.down) ∙ ap (λ (t : Row). value c.loop-dual.sum +ℚ total (limit_terms m d t)) is)

pub returns-in_err-sum-clause-stops : goal.returns-in_err-sum-clause-stops
returns-in_err-sum-clause-stops g c =
    let m = c.args.market.now in
    let value = g.N.Exact.value in
    let d = duals_at value c.args.duals.now in
    let k = c.loop-dual.dual-index in
    let e = dual_at value c.dual-item.result in
    let p = passed_at value c.in_err-sum.field-0.0 in
    let r = dual_row value m c.args.duals.now c.requires.duals c.slice-dual-items.result.now k c.dual-item.result c.slice-dual-items.ensures c.loop-dual-test.true c.dual-item.is c.lines-lines.ensures.market in
    let is = c.found_row-row.ensures.is r.0 r.1.row r.1.name in
    let given : c.from_residual.result ≡ Err c.in_err-sum.field-0.0 = search rules in
    rw given
    (limit_refused m d k e r.0 r.1 (value c.loop-dual.sum) g.N.Exact.bound p c.loop-dual.invariant
    (subst (λ (t : Row). IsRowStepRefusal m t e.up e.down (value c.loop-dual.sum) g.N.Exact.bound p) is c.in_err-sum.ensures.stops))

pub returns-clause-sum : goal.returns-clause-sum
returns-clause-sum g c =
    let m = c.args.market.now in
    let d = duals_at g.N.Exact.value c.args.duals.now in
    let k = c.loop-dual.dual-index in
    let count = named_count m c.lines-lines.ensures.market d c.requires.duals.named in
    let all : length (named_rows m d) ≤ k = omega (arith, c.loop-dual-test.false, ap length c.slice-dual-items.ensures, count, length-map c.args.duals.now.limits (dual_at g.N.Exact.value)) in
    c.loop-dual.invariant ∙ limits_all m d k all
