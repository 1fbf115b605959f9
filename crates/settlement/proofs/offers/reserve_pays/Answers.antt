use Rattle.std.proofs.Common.{rules, Err, refl, ◌≡◌, arith, length, map}
use Rattle.exact_fraction.specs.declared.Op.TheVariants.{Times}
use Rattle.market_model.specs.Dispatch.{dispatch_with}
use Rattle.market_model.specs.Settlement.{pay_of_reserve}
use Rattle.market_model.specs.Valued.{passed_at, reserve_pay_at}
use Rattle.market_model.specs.declared.stops.Stop.TheVariants as why
use Rattle.market_model.proofs.PlaceLists.{put_read}
use Rattle.market_model.proofs.SumSteps.{product_too_large, refusal}
use Rattle.settlement.proofs.ListLemmas.{put_place}
use Rattle.settlement.proofs.OfferLemmas.{offer_pay_is, offer_refusal}
use Rattle.settlement.proofs.offers.reserve_pays.Goals as goal

pub loop-mw-preserved : goal.loop-mw-preserved
loop-mw-preserved g c =
    let value = g.N.Exact.value in
    let k = c.loop-mw.mw-index in
    let rs = c.args.reserve.now in
    λ blocks d is.
    put_place (reserve_pay_at value) (pay_of_reserve (dispatch_with blocks (map value rs)) d) c.loop-mw.pays c.push.new.self (record { mw = c.mw-item.result; paid = c.in_ok-paid.paid }) k c.in_ok-push.ensures (c.loop-mw.invariant blocks d is)
    (offer_pay_is value (dispatch_with blocks (map value rs)) d k (value c.args.price) (record { mw = c.mw-item.result; paid = c.in_ok-paid.paid }) is
    (put_read value rs k c.mw-item.result c.loop-mw-test.true c.mw-item.is) c.in_ok-paid.ensures.exact)

pub returns-clause-pays : goal.returns-clause-pays
returns-clause-pays g c =
    let all : c.loop-mw.mw-index ≡ length c.args.reserve.now = omega (arith, c.loop-mw-test.false, c.loop-mw.auto.mw-index-end) in
    rw all at c.loop-mw.invariant

pub returns-in_err-paid-clause-stops : goal.returns-in_err-paid-clause-stops
returns-in_err-paid-clause-stops g c =
    let value = g.N.Exact.value in
    let k = c.loop-mw.mw-index in
    let rs = c.args.reserve.now in
    let given : c.from_residual.result ≡ Err (why.Passed c.in_err-paid.field-0.0) = search rules in
    λ m blocks by_bus d count is. rw given
    (offer_refusal m (dispatch_with blocks (map value rs)) by_bus d g.N.Exact.bound (passed_at value c.in_err-paid.field-0.0) k (value c.args.price) (value c.mw-item.result)
    (omega (arith, c.loop-mw-test.true, count)) is (put_read value rs k c.mw-item.result c.loop-mw-test.true c.mw-item.is)
    (refusal value g.N.Exact.bound Times c.args.price c.mw-item.result _ _ c.in_err-paid.field-0.0 refl refl
    (product_too_large value g.N.Exact.bound c.args.price c.mw-item.result c.in_err-paid.field-0.0 c.in_err-paid.ensures)))
