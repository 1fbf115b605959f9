use Rattle.std.proofs.Common.{rules, Err, ◌≡◌, ◌∙◌, [], ap, ap₂, map, sym, w64}
use Rattle.std.proofs.lemmas.Int.{to_z-of_z}
use mir.Val.{to_z, of_z}
use Rattle.fraction_theory.specs.Fraction.{Fraction, whole}
use Rattle.market_model.specs.Dispatch.{zero}
use Rattle.market_model.specs.Valued.{dual_at, energy_duals, passed_at}
use Rattle.cert_sums.proofs.CarriedLemmas.{flow_there, refused_there}
use Rattle.cert_verify.specs.Reasons.{passes}
use Rattle.cert_verify.proofs.NamingLemmas.{names_by}
use Rattle.cert_verify.proofs.RowLemmas.{unpriced_free, unpriced_hard, unpriced_named}
use Rattle.cert_verify.proofs.unpriced.is_unpriced.Goals as goal

pub returns-then-not-is_soft-clause-unpriced : goal.returns-then-not-is_soft-clause-unpriced
returns-then-not-is_soft-clause-unpriced g c = λ x ds are is.
    sym (unpriced_hard c.args.market.now c.lines-lines.ensures.market x (map (dual_at g.N.Exact.value) ds) c.args.row (sym c.is_soft.ensures ∙ c.if-not-is_soft.true))

pub returns-then-is_some-clause-unpriced : goal.returns-then-is_some-clause-unpriced
returns-then-is_some-clause-unpriced g c = λ x ds are is.
    let m = c.args.market.now in
    let limits = map (dual_at g.N.Exact.value) ds in
    let named = names_by g.N.Exact.value m (energy_duals zero limits) c.args.row c.named_at.result (c.named_at.ensures ds zero zero [] is) in
    sym (unpriced_named m x limits c.args.row (named ∙ sym c.is_some.ensures ∙ c.if-is_some.true))

pub returns-in_err-flow-clause-stops : goal.returns-in_err-flow-clause-stops
returns-in_err-flow-clause-stops g c =
    let given : c.from_residual.result ≡ Err c.in_err-flow.field-0.0 = search rules in
    λ x are. rw given (refused_there c.args.market.now x (map g.N.Exact.value c.args.carried.now) are c.args.row c.requires.line c.requires.lost g.N.Exact.bound (passed_at g.N.Exact.value c.in_err-flow.field-0.0) c.in_err-flow.ensures.stops)

pub returns-clause-unpriced : goal.returns-clause-unpriced
returns-clause-unpriced g c = λ x ds are is.
    let m = c.args.market.now in
    let value = g.N.Exact.value in
    let limits = map (dual_at value) ds in
    let known : to_z w64 (of_z w64 c.limit_at.result) ≡ c.limit_at.result = to_z-of_z w64 c.limit_at.result (record { sfits = c.limit_at.type_inv }) in
    let named = names_by value m (energy_duals zero limits) c.args.row c.named_at.result (c.named_at.ensures ds zero zero [] is) in
    c.passes.ensures
    ∙ ap₂ (λ (f l : Fraction). passes f l)
    (c.in_ok-flow.ensures.flow ∙ flow_there m x (map value c.args.carried.now) are c.args.row c.requires.line c.requires.lost) (c.datum.ensures ∙ ap whole known ∙ c.limit_at.ensures.limit)
    ∙ unpriced_free m c.lines-lines.ensures.market x limits c.args.row (sym c.is_soft.ensures ∙ c.if-not-is_soft.false) (named ∙ sym c.is_some.ensures ∙ c.if-is_some.false)
