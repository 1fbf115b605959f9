use Rattle.std.proofs.Common.{rules, Err, ◌≡◌, ◌∙◌, ◌<◌, ℕ, length, ap, subst, arith}
use Rattle.market_model.specs.Dispatch.{output as output_of, output_terms}
use Rattle.market_model.specs.LimitRows.{lost_output}
use Rattle.market_model.specs.NamedSums.{IsRefusedIn}
use Rattle.market_model.specs.PutIn.{dispatch_of}
use Rattle.market_model.specs.SumTables.{output_of_lost}
use Rattle.market_model.specs.Valued.{passed_at}
use Rattle.market_model.proofs.PlaceLists.{put_more, all_put}
use Rattle.limit_rows.proofs.flowing.put_lost_outputs.Goals as goal

pub loop-outage-preserved : goal.loop-outage-preserved
loop-outage-preserved g c =
    let m = c.args.market.now in
    let x = dispatch_of g.N.Exact.value c.args.dispatch.now in
    put_more g.N.Exact.value (lost_output m x) c.loop-outage.out c.loop-outage.outage c.in_ok-mw.field-0
    (omega (arith, c.loop-outage-test.true, c.loop-outage.auto.out)) c.loop-outage.invariant (c.in_ok-mw.ensures.output ∙ ap (λ (u : ℕ). output_of m x u) c.lost_unit.ensures.is)

pub returns-clause-outputs : goal.returns-clause-outputs
returns-clause-outputs g c =
    all_put g.N.Exact.value (lost_output c.args.market.now (dispatch_of g.N.Exact.value c.args.dispatch.now)) c.loop-outage.out c.loop-outage.outage (length c.args.market.now.unit_outages)
    (c.loop-outage.auto.out ∙ c.requires.out) (omega (arith, c.loop-outage-test.false, c.requires.out)) c.loop-outage.invariant

pub returns-in_err-mw-clause-stops : goal.returns-in_err-mw-clause-stops
returns-in_err-mw-clause-stops g c =
    let m = c.args.market.now in
    let x = dispatch_of g.N.Exact.value c.args.dispatch.now in
    let given : c.from_residual.result ≡ Err c.in_err-mw.field-0.0 = search rules in
    let inside : c.loop-outage.outage < length m.unit_outages = omega (arith, c.loop-outage-test.true, c.requires.out) in
    rw given (
      _,
      output_of_lost c.loop-outage.outage inside,
      subst (λ (u : ℕ). IsRefusedIn (output_terms m x u) g.N.Exact.bound (passed_at g.N.Exact.value c.in_err-mw.field-0.0)) c.lost_unit.ensures.is c.in_err-mw.ensures.stops,
    )
