use Rattle.std.proofs.Common.{rules, Err, ◌≡◌, ◌∙◌, ap, pos, List}
use Rattle.std.specs.Prelude.{slice_index_or}
use Rattle.std.proofs.lemmas.Result.{IfOk-weaker, IfErr-weaker}
use Rattle.market_data.specs.declared.participants.Bus.{Bus}
use Rattle.market_model.specs.Valued.{passed_at}
use Rattle.market_model.specs.PutIn.{dispatch_of}
use Rattle.market_model.proofs.PutInSteps.{demand_less, demand_refused, fixed_refusal, raised_refusal}
use Rattle.market_model.proofs.putting.injection.Goals as goal

pub returns-in_err-fixed-clause-stops : goal.returns-in_err-fixed-clause-stops
returns-in_err-fixed-clause-stops g c =
    let given : c.from_residual.result ≡ Err c.in_err-fixed.field-0.0 = search rules in
    rw given (fixed_refusal c.args.market.now (dispatch_of g.N.Exact.value c.args.dispatch.now) c.args.bus g.N.Exact.bound (passed_at g.N.Exact.value c.in_err-fixed.field-0.0) c.in_err-fixed.ensures.stops)

pub returns-in_err-raised-clause-stops : goal.returns-in_err-raised-clause-stops
returns-in_err-raised-clause-stops g c =
    let given : c.from_residual-in_err-raised.result ≡ Err c.in_err-raised.field-0.0 = search rules in
    rw given (raised_refusal c.args.market.now (dispatch_of g.N.Exact.value c.args.dispatch.now) c.args.bus g.N.Exact.bound (passed_at g.N.Exact.value c.in_err-raised.field-0.0) c.in_err-raised.ensures.stops)

pub returns-clause-sum : goal.returns-clause-sum
returns-clause-sum g c =
    let at = ap (λ (bs : List Bus). slice_index_or bs c.args.bus (record { number = 0; pd = pos 0; gs = pos 0 })) (c.slice.ensures ∙ c.buses.ensures.list) in
    IfOk-weaker c.less_demand.result _ _
    (λ left e. demand_less c.args.market.now (dispatch_of g.N.Exact.value c.args.dispatch.now) c.args.bus _ (g.N.Exact.value c.in_ok-raised.raised) (g.N.Exact.value left) at c.in_ok-raised.ensures.sum e)
    c.less_demand.ensures.left

pub returns-clause-stops : goal.returns-clause-stops
returns-clause-stops g c =
    let at = ap (λ (bs : List Bus). slice_index_or bs c.args.bus (record { number = 0; pd = pos 0; gs = pos 0 })) (c.slice.ensures ∙ c.buses.ensures.list) in
    IfErr-weaker c.less_demand.result _ _
    (λ e h. demand_refused c.args.market.now (dispatch_of g.N.Exact.value c.args.dispatch.now) c.args.bus g.N.Exact.bound (passed_at g.N.Exact.value e) _ (g.N.Exact.value c.in_ok-raised.raised) at c.in_ok-raised.ensures.sum h)
    c.less_demand.ensures.stops
