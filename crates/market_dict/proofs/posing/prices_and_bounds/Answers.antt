use Rattle.std.proofs.Common.{Err, ◌+◌, ◌≡◌, ◌∙◌, ◌++◌, ◌∷◌, [], List, ap, take, sym, subst}
use Rattle.std.specs.Prelude.{slice_index_or}
use Rattle.std.proofs.lemmas.List.Elements.{Contains-get_or}
use Rattle.std.proofs.lemmas.List.{take_more}
use Rattle.std.proofs.lemmas.Result.{err_from_is_err_and}
use Rattle.market_model.specs.declared.limits.Cause.TheVariants.{Base}
use Rattle.market_model.specs.Dispatch.{empty}
use Rattle.market_model.specs.Valued.{passed_at}
use Rattle.market_model.proofs.StopLemmas.{on_passed_weaker}
use Rattle.market_model.proofs.SumParts.{flow_carried}
use Rattle.market_dict.specs.PricesAndBounds.{ArePricesAndBounds}
use Rattle.market_dict.specs.Refusals.{of_sum}
use Rattle.market_dict.specs.Takings.{limits_of}
use Rattle.market_dict.specs.declared.taking.Taking.{Taking}
use Rattle.market_dict.specs.declared.taking.Taking.TheVariants.{Limit}
use Rattle.market_dict.proofs.RefusalLaws.{bounds_among}
use Rattle.market_dict.proofs.TakingLists.{limits_within}
use Rattle.market_dict.proofs.posing.prices_and_bounds.Goals as goal

pub returns-in_err-base_flows-clause-stops : goal.returns-in_err-base_flows-clause-stops
returns-in_err-base_flows-clause-stops g c =
    let p = err_from_is_err_and c.from_residual-in_err-base_flows.result c.from_residual-in_err-base_flows.ensures.1 in
    let given : c.from_residual-in_err-base_flows.result ≡ Err c.in_err-base_flows.field-0.0 = p.1 ∙ ap Err p.2 in
    rw given (on_passed_weaker c.in_err-base_flows.field-0.0 _ _ (λ q h. of_sum (h.0, flow_carried c.args.market.now (empty c.args.market.now) h.0 h.1, h.2)) c.in_err-base_flows.ensures.stops)

pub loop-taking-preserved : goal.loop-taking-preserved
loop-taking-preserved g c =
    let m = c.args.market.now in
    let k = c.loop-taking.taking-index in
    let taken = c.args.taken.now in
    let none : Taking = Limit (record { line = 0; cause = Base }) in
    let more : take (k + 1) taken ≡ take k taken ++ slice_index_or taken k none ∷ [] = take_more taken k none c.loop-taking-test.true in
    subst (λ (ts : List Taking). ArePricesAndBounds g.N.Exact.value m ts c.take_bounds.new.posing) (sym more) (c.in_ok-take_bounds.ensures.taken (take k taken) c.loop-taking.invariant)

pub returns-in_err-take_bounds-clause-stops : goal.returns-in_err-take_bounds-clause-stops
returns-in_err-take_bounds-clause-stops g c =
    let m = c.args.market.now in
    let taken = c.args.taken.now in
    let none : Taking = Limit (record { line = 0; cause = Base }) in
    let taking : Taking = slice_index_or taken c.loop-taking.taking-index none in
    let among = limits_within taken taking (Contains-get_or taken c.loop-taking.taking-index none c.loop-taking-test.true) in
    let p = err_from_is_err_and c.from_residual-in_err-take_bounds.result c.from_residual-in_err-take_bounds.ensures.1 in
    let given : c.from_residual-in_err-take_bounds.result ≡ Err c.in_err-take_bounds.field-0.0 = p.1 ∙ ap Err p.2 in
    rw given
    (on_passed_weaker c.in_err-take_bounds.field-0.0 _ _ (λ q h. bounds_among m (limits_of (taking ∷ [])) (limits_of taken) g.N.Exact.bound (passed_at g.N.Exact.value q) among h) c.in_err-take_bounds.ensures.stops)
