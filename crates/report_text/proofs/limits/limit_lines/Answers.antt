use Rattle.std.proofs.Common.{◌∙◌, ◌≡◌, ◌++◌, ap, arith, length, subst, get_or}
use Rattle.market_model.specs.declared.answered.Dual.{Dual}
use Rattle.report_text.specs.Reports.{limit_text}
use Rattle.market_model.specs.Valued.{dual_at}
use Rattle.report_text.proofs.ReportLemmas.{items_none, items_more, items_all, flat_map-map}
use Rattle.report_text.proofs.limits.limit_lines.Goals as goal

pub loop-dual-init : goal.loop-dual-init
loop-dual-init g c = items_none (λ (d : Dual g.row.N.Denot). limit_text (dual_at g.N.Exact.value d)) c.args.text.now c.args.limits.now

pub loop-dual-preserved : goal.loop-dual-preserved
loop-dual-preserved g c =
    let slice = c.slice-dual-items.ensures in
    items_more (λ (d : Dual g.row.N.Denot). limit_text (dual_at g.N.Exact.value d)) c.args.text.now c.args.limits.now c.loop-dual.text c.limit_line.new.text c.loop-dual.dual-index c.dual-item.result
    (omega (arith, c.loop-dual-test.true, ap length slice)) (subst (λ ds. c.dual-item.result ≡ get_or ds c.loop-dual.dual-index c.dual-item.result) slice c.dual-item.is) c.loop-dual.invariant c.in_ok-limit_line.ensures

pub returns : goal.returns
returns g c =
    let slice = c.slice-dual-items.ensures in
    items_all (λ (d : Dual g.row.N.Denot). limit_text (dual_at g.N.Exact.value d)) c.args.text.now c.args.limits.now c.loop-dual.text c.loop-dual.dual-index
    (omega (arith, c.loop-dual-test.false, ap length slice)) c.loop-dual.invariant
    ∙ ap (λ t. c.args.text.now ++ t) (flat_map-map limit_text (dual_at g.N.Exact.value) c.args.limits.now)
