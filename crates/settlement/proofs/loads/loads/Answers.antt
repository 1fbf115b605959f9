use Rattle.std.proofs.Common.{rules, Err, ◌≡◌, ◌<◌, ◌∙◌, ap, sym, arith, length, pos, List}
use Rattle.std.specs.Prelude.{slice_index_or}
use Rattle.market_data.specs.declared.participants.Bus.{Bus}
use Rattle.market_model.specs.Valued.{passed_at, load_at, total_at}
use Rattle.market_model.specs.declared.stops.Stop.TheVariants as why
use Rattle.market_model.specs.Settlement.{pay_of_load}
use Rattle.settlement.proofs.ListLemmas.{put_place}
use Rattle.bus_prices.proofs.OwnLemmas.{price_is}
use Rattle.settlement.proofs.PayLemmas.{load_is, load_refusal}
use Rattle.settlement.proofs.loads.loads.Goals as goal

pub loop-place-preserved : goal.loop-place-preserved
loop-place-preserved g c =
    let m = c.args.market.now in
    let prices = c.args.prices.now in
    let value = g.N.Exact.value in
    let i = c.loop-place.place in
    let buses = c.slice-bus-items.ensures ∙ c.buses.ensures.list in
    let at = ap (λ (bs : List Bus). slice_index_or bs i (record { number = 0; pd = pos 0; gs = pos 0 })) buses in
    let price = sym (price_is value prices i c.index-prices-place.result (omega (arith, c.requires, ap length buses))) in
    put_place (load_at value) (pay_of_load m (total_at value prices)) c.loop-place.loads c.push.new.self c.in_ok-load.field-0 i c.in_ok-push.ensures c.loop-place.invariant
    (load_is value m (total_at value prices) i _ _ c.in_ok-load.field-0 at price c.in_ok-load.ensures.demand c.in_ok-load.ensures.pays)

pub returns-clause-loads : goal.returns-clause-loads
returns-clause-loads g c =
    let buses = c.slice-bus-items.ensures ∙ c.buses.ensures.list in
    let all : c.loop-place.place ≡ length c.args.market.now.buses = omega (arith, ap length buses) in
    rw all at c.loop-place.invariant

pub returns-in_err-load-clause-stops : goal.returns-in_err-load-clause-stops
returns-in_err-load-clause-stops g c =
    let m = c.args.market.now in
    let i = c.loop-place.place in
    let value = g.N.Exact.value in
    let prices = c.args.prices.now in
    let buses = c.slice-bus-items.ensures ∙ c.buses.ensures.list in
    let given : c.from_residual.result ≡ Err (why.Passed c.in_err-load.field-0.0) = search rules in
    let below : i < length m.buses = omega (arith, c.loop-place-test.true, ap length buses) in
    let at = ap (λ (bs : List Bus). slice_index_or bs i (record { number = 0; pd = pos 0; gs = pos 0 })) buses in
    let price = sym (price_is value prices i c.index-prices-place.result (omega (arith, c.requires, ap length buses))) in
    λ x d. rw given
    (load_refusal m x (total_at value prices) d g.N.Exact.bound (passed_at value c.in_err-load.field-0.0) i _ _ below at price c.in_err-load.ensures.stops)
