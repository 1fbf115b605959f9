use Rattle.std.proofs.Common.{rules, Err, ◌≡◌, ◌∙◌, ◌<◌, arith, length, map, pos}
use Rattle.fraction_theory.specs.Fraction.{whole}
use Rattle.market_model.specs.Optimality.{own_price}
use Rattle.market_model.specs.Valued.{passed_at, unit_pay_at}
use Rattle.market_model.specs.Dispatch.{dispatch_with}
use Rattle.market_model.specs.declared.stops.Stop.TheVariants as why
use Rattle.market_model.specs.Settlement.{pay_of_unit}
use Rattle.market_model.proofs.PlaceLists.{filled_at, put_read}
use Rattle.settlement.proofs.ListLemmas.{put_place}
use Rattle.settlement.proofs.BlockFlows.{output_of_blocks, pay_refusal}
use Rattle.settlement.proofs.PayLemmas.{pay_is}
use Rattle.settlement.proofs.units.unit_pays.Goals as goal

pub loop-place-preserved : goal.loop-place-preserved
loop-place-preserved g c =
    let m = c.args.market.now in
    let value = g.N.Exact.value in
    let mws = map value c.args.dispatch.now in
    let i = c.loop-place.place in
    let inside : i < length m.units = omega (arith, c.loop-place-test.true, c.requires.own) in
    λ reserve price d own.
    put_place (unit_pay_at value) (pay_of_unit m (dispatch_with mws reserve) price d) c.loop-place.pays c.push.new.self c.in_ok-unit_pay.field-0 i c.in_ok-push.ensures (c.loop-place.invariant reserve price d own)
    (pay_is value m (dispatch_with mws reserve) price d i _ c.in_ok-unit_pay.field-0
    (put_read value c.args.own.now i c.index-own-place.result c.loop-place-test.true c.index-own-place.is ∙ filled_at (own_price m d price) _ (length m.units) (whole (pos 0)) own i inside)
    (c.in_ok-unit_pay.ensures.mw ∙ output_of_blocks m mws reserve i) c.in_ok-unit_pay.ensures.paid)

pub returns-clause-pays : goal.returns-clause-pays
returns-clause-pays g c =
    let all : c.loop-place.place ≡ length c.args.market.now.units = omega (arith, c.requires.own) in
    rw all at c.loop-place.invariant

pub returns-in_err-unit_pay-clause-stops : goal.returns-in_err-unit_pay-clause-stops
returns-in_err-unit_pay-clause-stops g c =
    let m = c.args.market.now in
    let i = c.loop-place.place in
    let value = g.N.Exact.value in
    let given : c.from_residual.result ≡ Err (why.Passed c.in_err-unit_pay.field-0.0) = search rules in
    let below : i < length m.units = omega (arith, c.loop-place-test.true, c.requires.own) in
    λ reserve price d own. rw given
    (pay_refusal m (map value c.args.dispatch.now) reserve price d g.N.Exact.bound (passed_at value c.in_err-unit_pay.field-0.0) i _ below
    (put_read value c.args.own.now i c.index-own-place.result c.loop-place-test.true c.index-own-place.is ∙ filled_at (own_price m d price) _ (length m.units) (whole (pos 0)) own i below)
    c.in_err-unit_pay.ensures.stops)
