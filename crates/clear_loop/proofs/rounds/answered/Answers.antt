use Rattle.std.proofs.Common.{Err, ◌≡◌, ◌∙◌, ap, map, sym, subst}
use Rattle.std.proofs.lemmas.Result.{err_from_is_err_and}
use Rattle.market_model.specs.Dispatch.{dispatch_with}
use Rattle.market_model.specs.Optimality.{all_of}
use Rattle.market_model.specs.RightAnswers.{dispatch_in}
use Rattle.market_model.specs.Valued.{answer_at, duals_at}
use Rattle.market_system.specs.Growth.{PricesOnly}
use Rattle.market_system.specs.Ties.{IsFirstFor}
use Rattle.limit_screen.specs.Reaching.{IsReach}
use Rattle.market_dict.specs.Findings.{IsSolvedBy}
use Rattle.market_dict.specs.Takings.{limits_of}
use Rattle.clear_loop.proofs.SolvedLemmas.{first_of_all, prices_only}
use Rattle.clear_loop.proofs.rounds.answered.Given.{Over}
use Rattle.clear_loop.proofs.rounds.answered.Goals as goal
use Rattle.clear_loop.proofs.rounds.answered.Goals.{In_ok-duals}

pub answer_of-requires-clause-flows : goal.answer_of-requires-clause-flows
answer_of-requires-clause-flows g c = ap (map g.N.Exact.value) c.deref.ensures.value ∙ c.requires.reach.flows

-- the dispatch and the duals solve the market over what is taken
solved_by : (g : Over) (c : In_ok-duals g) → let value = g.N.Exact.value in
    IsSolvedBy c.args.market.now c.args.taken.takings (dispatch_with (map value c.args.first.dispatch) (map value c.args.first.reserve)) (duals_at value c.in_ok-duals.duals)
solved_by g c =
    let value = g.N.Exact.value in
    let m = c.args.market.now in
    let ts = c.args.taken.takings in
    let best = c.requires.first.0 in
    subst (IsSolvedBy m ts (dispatch_with (map value c.args.first.dispatch) (map value c.args.first.reserve))) (sym (c.in_ok-duals.ensures ts best.0.0)) best.1

pub returns-in_err-answer-clause-stops : goal.returns-in_err-answer-clause-stops
returns-in_err-answer-clause-stops g c =
    let p = err_from_is_err_and c.from_residual-in_err-answer.result c.from_residual-in_err-answer.ensures.1 in
    let given : c.from_residual-in_err-answer.result ≡ Err c.in_err-answer.field-0.0 = p.1 ∙ ap Err p.2 in
    rw given (c.in_err-answer.ensures.stops c.args.taken.takings (record { solved = solved_by g (goal.at.returns-in_err-answer-clause-stops g c).In_ok-duals; kept = c.requires.kept }))

pub returns-clause-ended : goal.returns-clause-ended
returns-clause-ended g c =
    let value = g.N.Exact.value in
    let m = c.args.market.now in
    let ts = c.args.taken.takings in
    let x = dispatch_with (map value c.args.first.dispatch) (map value c.args.first.reserve) in
    let best = c.requires.first.0 in
    let solved = solved_by g (goal.at.returns-clause-ended g c).In_ok-duals in
    record {
      holds = best.0.0.holds;
      listed = c.requires.listed;
      end = (
        c.in_ok-answer.ensures.fits,
        c.in_ok-answer.ensures.right,
        subst (IsFirstFor m (all_of m)) (sym c.in_ok-answer.ensures.dispatch)
            (first_of_all m ts x (duals_at value c.in_ok-duals.duals) c.lines-lines.ensures.market solved best.0.0.holds.takings.taken c.requires.first.1 c.requires.kept),
        subst (λ d. PricesOnly m (limits_of ts) (duals_at value d)) (sym c.in_ok-answer.ensures.duals) (prices_only m ts x (duals_at value c.in_ok-duals.duals) c.lines-lines.ensures.market solved),
        subst (λ y. IsReach value m y c.args.reach) (sym c.in_ok-answer.ensures.dispatch) c.requires.reach,
        record {
          takings = ts;
          are = best.0.0.holds.takings;
          solved = subst (λ d. IsSolvedBy m ts (dispatch_in (answer_at value c.in_ok-answer.answer)) (duals_at value d)) (sym c.in_ok-answer.ensures.duals)
              (subst (λ y. IsSolvedBy m ts y (duals_at value c.in_ok-duals.duals)) (sym c.in_ok-answer.ensures.dispatch) solved);
        },
      );
    }
