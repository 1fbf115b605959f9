use Rattle.std.proofs.Common.{Err, ◌≡◌, ◌∙◌, ap, ap₂, map, sym, subst, length}
use Rattle.std.proofs.lemmas.List.{length-map}
use Rattle.std.proofs.lemmas.Result.{err_from_is_err_and}
use Rattle.market_model.specs.Dispatch.{dispatch_with}
use Rattle.market_model.specs.Optimality.{welfare}
use Rattle.market_model.specs.PutIn.{dispatch_of}
use Rattle.market_model.specs.RightAnswers.{settlement_at}
use Rattle.market_model.specs.Valued.{duals_at, money_at, passed_at, total_at}
use Rattle.limit_screen.specs.Flows.{flows_at}
use Rattle.settlement.specs.Refusals.{IsMoneyStop, IsWelfareRefusal}
use Rattle.settlement.proofs.BlockFlows.{flows_of_blocks}
use Rattle.settlement.proofs.MoneyLemmas.{law_of_right_money}
use Rattle.market_model.specs.declared.stops.Stop.TheVariants as stop
use Rattle.clear_loop.proofs.AnswerLemmas.{price_count, prices_of, right_answer}
use Rattle.clear_loop.proofs.BrokenLemmas.{kept_feasible}
use Rattle.clear_loop.proofs.SolvedLemmas.{best_for, block_count, offer_count, proper, supports, welfare_range}
use Rattle.clear_loop.proofs.StopLemmas.{money_stop, price_stop}
use Rattle.clear_loop.proofs.answering.answer_of.Goals as goal

pub returns-in_err-prices-clause-stops : goal.returns-in_err-prices-clause-stops
returns-in_err-prices-clause-stops g c = λ ts solution.
    let value = g.N.Exact.value in
    let p = err_from_is_err_and c.from_residual.result c.from_residual.ensures.1 in
    let given : c.from_residual.result ≡ Err c.in_err-prices.field-0.0 = p.1 ∙ ap Err p.2 in
    rw given
    (price_stop value g.N.Exact.bound c.args.market.now ts (dispatch_with (map value c.args.dispatch) (map value c.args.reserve)) (duals_at value c.args.duals) c.lines-lines.ensures.market solution.solved solution.kept
    c.in_err-prices.field-0.0 c.in_err-prices.ensures.stops)

pub welfare-requires-clause-flows : goal.welfare-requires-clause-flows
welfare-requires-clause-flows g c =
    let value = g.N.Exact.value in
    let m = c.args.market.now in
    c.requires.flows ∙ sym (flows_of_blocks m (map value c.args.dispatch) (map value c.args.reserve)) ∙ ap (λ xs. flows_at m (dispatch_of value xs)) (sym c.slice.ensures)

pub returns-in_err-welfare-clause-stops : goal.returns-in_err-welfare-clause-stops
returns-in_err-welfare-clause-stops g c = λ ts solution.
    let value = g.N.Exact.value in
    let m = c.args.market.now in
    let p = err_from_is_err_and c.from_residual-in_err-welfare.result c.from_residual-in_err-welfare.ensures.1 in
    let given : c.from_residual-in_err-welfare.result ≡ Err (stop.Passed c.in_err-welfare.field-0.0) = p.1 ∙ ap Err p.2 in
    rw given
    (welfare_range m ts (dispatch_with (map value c.args.dispatch) (map value c.args.reserve)) (duals_at value c.args.duals) c.lines-lines.ensures.market solution.solved g.N.Exact.bound (passed_at value c.in_err-welfare.field-0.0) solution.kept
    (subst (λ x. IsWelfareRefusal m x g.N.Exact.bound (passed_at value c.in_err-welfare.field-0.0))
    (ap₂ (λ xs rs. dispatch_with (map value xs) (map value rs)) c.slice.ensures c.slice-2.ensures) c.in_err-welfare.ensures.stops))

pub settle_flows-requires-clause-flows : goal.settle_flows-requires-clause-flows
settle_flows-requires-clause-flows g c =
    let value = g.N.Exact.value in
    let m = c.args.market.now in
    c.requires.flows ∙ sym (flows_of_blocks m (map value c.args.dispatch) (map value c.args.reserve)) ∙ ap (λ xs. flows_at m (dispatch_of value xs)) (sym c.slice-3.ensures)

pub settle_flows-requires-clause-prices : goal.settle_flows-requires-clause-prices
settle_flows-requires-clause-prices g c = ap length c.slice-5.ensures ∙ price_count g.N.Exact.value c.args.market.now (duals_at g.N.Exact.value c.args.duals) c.in_ok-prices.prices c.in_ok-prices.ensures.prices

pub returns-in_err-money-clause-stops : goal.returns-in_err-money-clause-stops
returns-in_err-money-clause-stops g c = λ ts solution.
    let value = g.N.Exact.value in
    let m = c.args.market.now in
    let d = duals_at value c.args.duals in
    let stop = c.in_err-money.field-0.0 in
    let p = err_from_is_err_and c.from_residual-in_err-money.result c.from_residual-in_err-money.ensures.1 in
    let given : c.from_residual-in_err-money.result ≡ Err stop = p.1 ∙ ap Err p.2 in
    rw given
    (money_stop value g.N.Exact.bound m ts (dispatch_with (map value c.args.dispatch) (map value c.args.reserve)) d c.lines-lines.ensures.market solution.solved solution.kept (total_at value c.in_ok-prices.prices)
    (prices_of value m d c.in_ok-prices.prices c.in_ok-prices.ensures.prices) stop
    (subst (λ x. IsMoneyStop value g.N.Exact.bound m x (total_at value c.in_ok-prices.prices) d stop)
    (ap₂ (λ xs rs. dispatch_with (map value xs) (map value rs)) c.slice-3.ensures c.slice-4.ensures)
    (subst (λ ps. IsMoneyStop value g.N.Exact.bound m (dispatch_with (map value c.slice-3.result.now) (map value c.slice-4.result.now)) (total_at value ps) d stop) c.slice-5.ensures c.in_err-money.ensures.stops)))

pub returns-clause-fits : goal.returns-clause-fits
returns-clause-fits g c =
    let value = g.N.Exact.value in
    let m = c.args.market.now in
    let x = dispatch_with (map value c.args.dispatch) (map value c.args.reserve) in
    let d = duals_at value c.args.duals in
    let ts = c.requires.solved.0 in
    let solved = c.requires.solved.1.solved in
    record {
      dispatch = sym (length-map c.args.dispatch value) ∙ block_count m ts x d c.lines-lines.ensures.market solved;
      reserve = sym (length-map c.args.reserve value) ∙ offer_count m ts x d c.lines-lines.ensures.market solved;
      prices = price_count value m d c.in_ok-prices.prices c.in_ok-prices.ensures.prices;
      money = c.in_ok-money.ensures.fits;
    }

pub returns-clause-right : goal.returns-clause-right
returns-clause-right g c =
    let value = g.N.Exact.value in
    let m = c.args.market.now in
    let x = dispatch_with (map value c.args.dispatch) (map value c.args.reserve) in
    let d = duals_at value c.args.duals in
    let market = c.lines-lines.ensures.market in
    let ts = c.requires.solved.0 in
    let solved = c.requires.solved.1.solved in
    let kept = c.requires.solved.1.kept in
    right_answer value m c.args.dispatch c.args.reserve c.args.duals c.in_ok-prices.prices c.in_ok-welfare.welfare c.in_ok-money.money law_of_right_money market
    (kept_feasible m market ts x (best_for m ts x d market solved) kept) (supports m ts x d market solved kept) (proper m ts x d market solved) c.in_ok-prices.ensures.prices
    (c.in_ok-welfare.ensures.worth ∙ ap (welfare m) (ap₂ (λ xs rs. dispatch_with (map value xs) (map value rs)) c.slice.ensures c.slice-2.ensures))
    (subst (λ y. money_at value c.in_ok-money.money ≡ settlement_at m y (total_at value c.in_ok-prices.prices) d)
    (ap₂ (λ xs rs. dispatch_with (map value xs) (map value rs)) c.slice-3.ensures c.slice-4.ensures)
    (subst (λ ps. money_at value c.in_ok-money.money ≡ settlement_at m (dispatch_with (map value c.slice-3.result.now) (map value c.slice-4.result.now)) (total_at value ps) d) c.slice-5.ensures c.in_ok-money.ensures.money))
