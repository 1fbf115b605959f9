use Rattle.std.proofs.Common.{rules, Err, ◌≡◌, ◌∙◌, ap, ap₂, inr, refl, w64}
use Rattle.std.proofs.lemmas.Int.{to_z-of_z}
use Rattle.fraction_theory.specs.Fraction.{whole, ◌+ℚ◌}
use Rattle.market_data.proofs.Data.{datum_fits}
use Rattle.exact_fraction.specs.declared.Op.TheVariants.{Times}
use Rattle.market_model.proofs.SumSteps.{product_too_large, refusal}
use Rattle.settlement.proofs.loads.load.Goals as goal

pub returns-in_err-pays-clause-stops : goal.returns-in_err-pays-clause-stops
returns-in_err-pays-clause-stops g c =
    let given : c.from_residual-in_err-pays.result ≡ Err c.in_err-pays.field-0.0 = search rules in
    let pd = c.datum-pd.ensures ∙ ap whole (to_z-of_z w64 c.args.bus.now.pd (datum_fits c.args.bus.now.pd c.requires.load)) in
    let gs = c.datum.ensures ∙ ap whole (to_z-of_z w64 c.args.bus.now.gs (datum_fits c.args.bus.now.gs c.requires.shunt)) in
    rw given
    (inr (refusal g.N.Exact.value g.N.Exact.bound Times c.args.price c.in_ok-mw.mw _ _ c.in_err-pays.field-0.0 refl (c.in_ok-mw.ensures.exact ∙ ap₂ ◌+ℚ◌ pd gs)
    (product_too_large g.N.Exact.value g.N.Exact.bound c.args.price c.in_ok-mw.mw c.in_err-pays.field-0.0 c.in_err-pays.ensures)))
