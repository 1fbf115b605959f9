use Rattle.std.proofs.Common.{rules, Err, [], refl, ◌≡◌, ◌∙◌, ◌<◌, ap, ap₂, arith, length, map, sym}
use Rattle.fraction_theory.specs.Fraction.{◌+ℚ◌}
use Rattle.fraction_theory.specs.Sums.{total}
use Rattle.exact_fraction.specs.declared.Op.TheVariants.{Plus}
use Rattle.market_model.specs.Dispatch.{dispatch_with, places}
use Rattle.market_model.specs.Reserves.{reserve, reserve_terms, reserved_term}
use Rattle.market_model.specs.Valued.{passed_at}
use Rattle.market_model.proofs.MorePlaces.{total-places_more}
use Rattle.market_model.proofs.PutInSteps.{accepted_is}
use Rattle.market_model.proofs.SumSteps.{plus_at, refusal, terms_at}
use Rattle.market_model.proofs.reserving.reserve_in_all.Goals as goal

pub loop-mw-preserved : goal.loop-mw-preserved
loop-mw-preserved g c =
    let value = g.N.Exact.value in
    let k = c.loop-mw.mw-index in
    let rs = c.args.reserve.now in
    c.in_ok-sum.ensures.exact ∙ ap₂ ◌+ℚ◌ c.loop-mw.invariant (sym (accepted_is value rs k c.mw-item.result c.loop-mw-test.true c.mw-item.is))
    ∙ sym (total-places_more (reserved_term (dispatch_with [] (map value rs))) k)

pub returns-clause-sum : goal.returns-clause-sum
unfolding reserve
returns-clause-sum g c = λ m blocks count.
    let value = g.N.Exact.value in
    let all : c.loop-mw.mw-index ≡ length m.reserve.offers = omega (arith, c.loop-mw-test.false, c.loop-mw.auto.mw-index-end, count) in
    c.loop-mw.invariant ∙ ap (λ n. total (map (reserved_term (dispatch_with [] (map value c.args.reserve.now))) (places n))) all

pub returns-in_err-sum-clause-stops : goal.returns-in_err-sum-clause-stops
returns-in_err-sum-clause-stops g c =
    let value = g.N.Exact.value in
    let k = c.loop-mw.mw-index in
    let rs = c.args.reserve.now in
    let given : c.from_residual.result ≡ Err c.in_err-sum.field-0.0 = search rules in
    λ m blocks count. rw given
    (let x = dispatch_with blocks (map value rs) in
    let below : k < length m.reserve.offers = omega (arith, c.loop-mw-test.true, count) in
    let t = terms_at (reserved_term x) (length m.reserve.offers) k below in
    plus_at (reserve_terms m x) (map (reserved_term x) (places k)) t.0 (reserved_term x k) t.1 g.N.Exact.bound (passed_at value c.in_err-sum.field-0.0) (value c.loop-mw.sum) (value c.mw-item.result)
    c.loop-mw.invariant (sym (accepted_is value rs k c.mw-item.result c.loop-mw-test.true c.mw-item.is))
    (refusal value g.N.Exact.bound Plus c.loop-mw.sum c.mw-item.result _ _ c.in_err-sum.field-0.0 refl refl c.in_err-sum.ensures))
