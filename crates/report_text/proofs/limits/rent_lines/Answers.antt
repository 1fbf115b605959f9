use Rattle.std.proofs.Common.{◌≡◌, ◌<◌, ◌∙◌, ap, sym, subst, length, get_or, map, arith}
use Rattle.std.specs.List.{zip}
use Rattle.std.proofs.lemmas.List.{get_or-map, length-map}
use Rattle.fraction_theory.specs.Fraction.{Fraction}
use Rattle.market_model.specs.declared.answered.Dual.{Dual}
use Rattle.market_model.specs.declared.answered.Rent.{Rent}
use Rattle.market_model.specs.Valued.{dual_at, rent_at}
use Rattle.report_text.specs.Reports.{rent_text}
use Rattle.report_text.proofs.ReportLemmas.{items_all, pairs_more, length_of_pairs, entry_is}
use Rattle.report_text.proofs.limits.rent_lines.Goals as goal

pub loop-place-preserved : goal.loop-place-preserved
loop-place-preserved g c =
    let limits = c.args.answer.now.duals.limits in
    let rents = c.args.answer.now.money.rents in
    let k = c.loop-place.place in
    let dual = c.dual-item.result in
    let rent = c.at.result.now in
    let slice = c.slice-dual-items.ensures in
    let below : k < length limits = omega (arith, c.loop-place-test.true, ap length slice) in
    let read = subst (λ ds. dual ≡ get_or ds k dual) slice c.dual-item.is in
    pairs_more (λ (p : Dual Fraction × Rent Fraction). rent_text p.0 p.1) c.args.text.now (map (dual_at g.N.Exact.value) limits) (map (rent_at g.N.Exact.value) rents) c.loop-place.text c.rent_line.new.text k
    (dual_at g.N.Exact.value dual) (rent_at g.N.Exact.value rent)
    (length-map rents (rent_at g.N.Exact.value) ∙ c.requires ∙ sym (length-map limits (dual_at g.N.Exact.value)))
    (omega (arith, below, length-map limits (dual_at g.N.Exact.value)))
    (ap (dual_at g.N.Exact.value) read ∙ sym (get_or-map (dual_at g.N.Exact.value) limits k dual (dual_at g.N.Exact.value dual) below))
    (entry_is (rent_at g.N.Exact.value) rents k rent (rent_at g.N.Exact.value rent) (omega (arith, below, c.requires)) c.at.ensures)
    c.loop-place.invariant c.in_ok-rent_line.ensures

pub returns : goal.returns
returns g c =
    let limits = map (dual_at g.N.Exact.value) c.args.answer.now.duals.limits in
    let rents = map (rent_at g.N.Exact.value) c.args.answer.now.money.rents in
    let same = length-map c.args.answer.now.money.rents (rent_at g.N.Exact.value) ∙ c.requires ∙ sym (length-map c.args.answer.now.duals.limits (dual_at g.N.Exact.value)) in
    items_all (λ (p : Dual Fraction × Rent Fraction). rent_text p.0 p.1) c.args.text.now (zip limits rents) c.loop-place.text c.loop-place.place
    (omega (arith, c.loop-place-test.false, ap length c.slice-dual-items.ensures, length-map c.args.answer.now.duals.limits (dual_at g.N.Exact.value), length_of_pairs limits rents same)) c.loop-place.invariant
