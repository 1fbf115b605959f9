use Rattle.std.proofs.Common.{rules, Err, ◌≡◌, ◌∙◌, [], ◌∷◌, ◌++◌, ap, map, refl, sym}
use Rattle.std.specs.Option.{option_or}
use Rattle.market_model.proofs.StopLemmas.{on_passed_weaker}
use Rattle.market_model.specs.declared.stops.Stop.TheVariants as why
use Rattle.market_model.specs.SumTables.{reserve_of_all}
use Rattle.cert_verify.specs.Certified.{certified_dispatch, certified_duals}
use Rattle.cert_verify.specs.Reasons.{balance_reason, first_of, limit_reason, limit_reasons, need_reason, need_slack_reason, room_reason, room_slack_reason, slack_reason, slack_reasons, sum_reasons, unpriced_reason}
use Rattle.cert_verify.specs.Stops.{at_balance, at_limits, at_need, at_rooms}
use Rattle.cert_verify.proofs.RowLemmas.{before_limits, before_need, before_rooms}
use Rattle.cert_verify.proofs.TestLemmas.{first_after, first_at, first_join, none_first}
use Rattle.cert_verify.proofs.against.wrong_flow.Goals as goal

pub returns-in-Some-clause-first : goal.returns-in-Some-clause-first
returns-in-Some-clause-first g c =
    let m = c.args.market.now in
    let value = g.N.Exact.value in
    let x = certified_dispatch value c.args.dispatch.now in
    let d = certified_duals value c.args.duals.now in
    let puts = ap (map value) c.deref.ensures.value ∙ c.in_ok-by_bus.ensures.injections x.reserve in
    first_at [] (need_reason m x ∷ limit_reasons m x ++ slack_reasons m x d) (balance_reason m x) c.in-Some.reason refl (sym (c.in_ok-reason.ensures.first x puts) ∙ c.in-Some.is)

pub returns-in-Some-short_need-clause-first : goal.returns-in-Some-short_need-clause-first
returns-in-Some-short_need-clause-first g c =
    let m = c.args.market.now in
    let value = g.N.Exact.value in
    let x = certified_dispatch value c.args.dispatch.now in
    let d = certified_duals value c.args.duals.now in
    let puts = ap (map value) c.deref.ensures.value ∙ c.in_ok-by_bus.ensures.injections x.reserve in
    let balanced = sym (c.in_ok-reason.ensures.first x puts) ∙ c.in_default.is in
    let sum = c.in_ok-accepted.ensures.sum m x.blocks c.requires.counted.quantities in
    first_at (balance_reason m x ∷ []) (limit_reasons m x ++ slack_reasons m x d) (need_reason m x) c.in-Some-short_need.reason (none_first (balance_reason m x ∷ []) (balanced, tt))
    (sym (c.short_need.ensures x sum) ∙ c.in-Some-short_need.is)

pub returns-in-Some-2-clause-first : goal.returns-in-Some-2-clause-first
returns-in-Some-2-clause-first g c =
    let m = c.args.market.now in
    let value = g.N.Exact.value in
    let x = certified_dispatch value c.args.dispatch.now in
    let d = certified_duals value c.args.duals.now in
    let puts = ap (map value) c.deref.ensures.value ∙ c.in_ok-by_bus.ensures.injections x.reserve in
    let balanced = sym (c.in_ok-reason.ensures.first x puts) ∙ c.in_default.is in
    let sum = c.in_ok-accepted.ensures.sum m x.blocks c.requires.counted.quantities in
    let met = sym (c.short_need.ensures x sum) ∙ c.in_default-short_need.is in
    let puts_then = ap (map value) c.deref-2.ensures.value ∙ c.in_ok-by_bus.ensures.injections x.reserve in
    let flows = ap (map value) c.deref-3.ensures.value ∙ c.in_ok-carried.ensures.carried x.reserve puts_then in
    first_at (sum_reasons m x) (room_reason m x ∷ slack_reasons m x d) (limit_reason m x) c.in-Some-2.reason (none_first (sum_reasons m x) (balanced, (met, tt)))
    (sym (c.in_ok-reason-2.ensures.first x flows) ∙ c.in-Some-2.is)

pub returns-in-Some-3-clause-first : goal.returns-in-Some-3-clause-first
returns-in-Some-3-clause-first g c =
    let m = c.args.market.now in
    let value = g.N.Exact.value in
    let x = certified_dispatch value c.args.dispatch.now in
    let d = certified_duals value c.args.duals.now in
    let puts = ap (map value) c.deref.ensures.value ∙ c.in_ok-by_bus.ensures.injections x.reserve in
    let balanced = sym (c.in_ok-reason.ensures.first x puts) ∙ c.in_default.is in
    let sum = c.in_ok-accepted.ensures.sum m x.blocks c.requires.counted.quantities in
    let met = sym (c.short_need.ensures x sum) ∙ c.in_default-short_need.is in
    let puts_then = ap (map value) c.deref-2.ensures.value ∙ c.in_ok-by_bus.ensures.injections x.reserve in
    let flows = ap (map value) c.deref-3.ensures.value ∙ c.in_ok-carried.ensures.carried x.reserve puts_then in
    let within = sym (c.in_ok-reason-2.ensures.first x flows) ∙ c.in_default-2.is in
    first_at (sum_reasons m x ++ limit_reason m x ∷ []) (slack_reasons m x d) (room_reason m x) c.in-Some-3.reason (none_first (sum_reasons m x ++ limit_reason m x ∷ []) (balanced, (met, (within, tt))))
    (sym c.in_ok-reason-3.ensures.first ∙ c.in-Some-3.is)

pub returns-in-Some-4-clause-first : goal.returns-in-Some-4-clause-first
returns-in-Some-4-clause-first g c =
    let m = c.args.market.now in
    let value = g.N.Exact.value in
    let x = certified_dispatch value c.args.dispatch.now in
    let d = certified_duals value c.args.duals.now in
    let puts = ap (map value) c.deref.ensures.value ∙ c.in_ok-by_bus.ensures.injections x.reserve in
    let balanced = sym (c.in_ok-reason.ensures.first x puts) ∙ c.in_default.is in
    let sum = c.in_ok-accepted.ensures.sum m x.blocks c.requires.counted.quantities in
    let met = sym (c.short_need.ensures x sum) ∙ c.in_default-short_need.is in
    let puts_then = ap (map value) c.deref-2.ensures.value ∙ c.in_ok-by_bus.ensures.injections x.reserve in
    let flows = ap (map value) c.deref-3.ensures.value ∙ c.in_ok-carried.ensures.carried x.reserve puts_then in
    let within = sym (c.in_ok-reason-2.ensures.first x flows) ∙ c.in_default-2.is in
    let filled = sym c.in_ok-reason-3.ensures.first ∙ c.in_default-3.is in
    let flows_then = ap (map value) c.deref-4.ensures.value ∙ c.in_ok-carried.ensures.carried x.reserve puts_then in
    let before = none_first (sum_reasons m x ++ limit_reasons m x) (balanced, (met, (within, (filled, tt)))) in
    let prices = slack_reason m x d.limits ∷ unpriced_reason m x d.limits ∷ [] in
    let rest = need_slack_reason m x d.reserve ∷ room_slack_reason m x d.rooms ∷ [] in
    sym (first_after (sum_reasons m x ++ limit_reasons m x) (slack_reasons m x d) before ∙ first_join prices rest
    ∙ ap (λ o. option_or o (first_of rest)) (sym (c.in_ok-reason-4.ensures.first x flows_then) ∙ c.in-Some-4.is))

pub returns-clause-first : goal.returns-clause-first
returns-clause-first g c =
    let m = c.args.market.now in
    let value = g.N.Exact.value in
    let x = certified_dispatch value c.args.dispatch.now in
    let d = certified_duals value c.args.duals.now in
    let puts = ap (map value) c.deref.ensures.value ∙ c.in_ok-by_bus.ensures.injections x.reserve in
    let balanced = sym (c.in_ok-reason.ensures.first x puts) ∙ c.in_default.is in
    let sum = c.in_ok-accepted.ensures.sum m x.blocks c.requires.counted.quantities in
    let met = sym (c.short_need.ensures x sum) ∙ c.in_default-short_need.is in
    let puts_then = ap (map value) c.deref-2.ensures.value ∙ c.in_ok-by_bus.ensures.injections x.reserve in
    let flows = ap (map value) c.deref-3.ensures.value ∙ c.in_ok-carried.ensures.carried x.reserve puts_then in
    let within = sym (c.in_ok-reason-2.ensures.first x flows) ∙ c.in_default-2.is in
    let filled = sym c.in_ok-reason-3.ensures.first ∙ c.in_default-3.is in
    let flows_then = ap (map value) c.deref-4.ensures.value ∙ c.in_ok-carried.ensures.carried x.reserve puts_then in
    let priced = sym (c.in_ok-reason-4.ensures.first x flows_then) ∙ c.in_default-4.is in
    let before = none_first (sum_reasons m x ++ limit_reasons m x) (balanced, (met, (within, (filled, tt)))) in
    let prices = slack_reason m x d.limits ∷ unpriced_reason m x d.limits ∷ [] in
    let rest = need_slack_reason m x d.reserve ∷ room_slack_reason m x d.rooms ∷ [] in
    c.in_ok-wrong_slack.ensures.first sum ∙ sym (first_after (sum_reasons m x ++ limit_reasons m x) (slack_reasons m x d) before ∙ first_after prices rest priced)

pub returns-in_err-by_bus-clause-stops : goal.returns-in_err-by_bus-clause-stops
returns-in_err-by_bus-clause-stops g c = λ none.
    let m = c.args.market.now in
    let value = g.N.Exact.value in
    let x = certified_dispatch value c.args.dispatch.now in
    let given : c.from_residual.result ≡ Err c.in_err-by_bus.field-0.0 = search rules in
    rw given (on_passed_weaker c.in_err-by_bus.field-0.0 _ _ (λ p h. at_balance h none) (c.in_err-by_bus.ensures.stops x.reserve))

pub returns-in_err-reason-clause-stops : goal.returns-in_err-reason-clause-stops
returns-in_err-reason-clause-stops g c = λ none.
    let m = c.args.market.now in
    let value = g.N.Exact.value in
    let x = certified_dispatch value c.args.dispatch.now in
    let puts = ap (map value) c.deref.ensures.value ∙ c.in_ok-by_bus.ensures.injections x.reserve in
    let given : c.from_residual-in_err-reason.result ≡ Err (why.Passed c.in_err-reason.field-0.0) = search rules in
    rw given (at_balance (c.in_err-reason.ensures.stops x puts) none)

pub returns-in_err-accepted-clause-stops : goal.returns-in_err-accepted-clause-stops
returns-in_err-accepted-clause-stops g c = λ none.
    let m = c.args.market.now in
    let value = g.N.Exact.value in
    let x = certified_dispatch value c.args.dispatch.now in
    let d = certified_duals value c.args.duals.now in
    let puts = ap (map value) c.deref.ensures.value ∙ c.in_ok-by_bus.ensures.injections x.reserve in
    let balanced = sym (c.in_ok-reason.ensures.first x puts) ∙ c.in_default.is in
    let given : c.from_residual-in_err-accepted.result ≡ Err (why.Passed c.in_err-accepted.field-0.0) = search rules in
    rw given (at_need (_, reserve_of_all, c.in_err-accepted.ensures.stops m x.blocks c.requires.counted.quantities) (before_need m x d none balanced))

pub returns-in_err-carried-clause-stops : goal.returns-in_err-carried-clause-stops
returns-in_err-carried-clause-stops g c = λ none.
    let m = c.args.market.now in
    let value = g.N.Exact.value in
    let x = certified_dispatch value c.args.dispatch.now in
    let d = certified_duals value c.args.duals.now in
    let puts = ap (map value) c.deref.ensures.value ∙ c.in_ok-by_bus.ensures.injections x.reserve in
    let balanced = sym (c.in_ok-reason.ensures.first x puts) ∙ c.in_default.is in
    let sum = c.in_ok-accepted.ensures.sum m x.blocks c.requires.counted.quantities in
    let met = sym (c.short_need.ensures x sum) ∙ c.in_default-short_need.is in
    let puts_then = ap (map value) c.deref-2.ensures.value ∙ c.in_ok-by_bus.ensures.injections x.reserve in
    let given : c.from_residual-in_err-carried.result ≡ Err c.in_err-carried.field-0.0 = search rules in
    rw given (on_passed_weaker c.in_err-carried.field-0.0 _ _ (λ p h. at_limits h (before_limits m x d none balanced met)) (c.in_err-carried.ensures.stops x.reserve puts_then))

pub returns-in_err-reason-2-clause-stops : goal.returns-in_err-reason-2-clause-stops
returns-in_err-reason-2-clause-stops g c = λ none.
    let m = c.args.market.now in
    let value = g.N.Exact.value in
    let x = certified_dispatch value c.args.dispatch.now in
    let d = certified_duals value c.args.duals.now in
    let puts = ap (map value) c.deref.ensures.value ∙ c.in_ok-by_bus.ensures.injections x.reserve in
    let balanced = sym (c.in_ok-reason.ensures.first x puts) ∙ c.in_default.is in
    let sum = c.in_ok-accepted.ensures.sum m x.blocks c.requires.counted.quantities in
    let met = sym (c.short_need.ensures x sum) ∙ c.in_default-short_need.is in
    let puts_then = ap (map value) c.deref-2.ensures.value ∙ c.in_ok-by_bus.ensures.injections x.reserve in
    let flows = ap (map value) c.deref-3.ensures.value ∙ c.in_ok-carried.ensures.carried x.reserve puts_then in
    let given : c.from_residual-in_err-reason-2.result ≡ Err (why.Passed c.in_err-reason-2.field-0.0) = search rules in
    rw given (at_limits (c.in_err-reason-2.ensures.stops x flows) (before_limits m x d none balanced met))

pub returns-in_err-reason-3-clause-stops : goal.returns-in_err-reason-3-clause-stops
returns-in_err-reason-3-clause-stops g c = λ none.
    let m = c.args.market.now in
    let value = g.N.Exact.value in
    let x = certified_dispatch value c.args.dispatch.now in
    let d = certified_duals value c.args.duals.now in
    let puts = ap (map value) c.deref.ensures.value ∙ c.in_ok-by_bus.ensures.injections x.reserve in
    let balanced = sym (c.in_ok-reason.ensures.first x puts) ∙ c.in_default.is in
    let sum = c.in_ok-accepted.ensures.sum m x.blocks c.requires.counted.quantities in
    let met = sym (c.short_need.ensures x sum) ∙ c.in_default-short_need.is in
    let puts_then = ap (map value) c.deref-2.ensures.value ∙ c.in_ok-by_bus.ensures.injections x.reserve in
    let flows = ap (map value) c.deref-3.ensures.value ∙ c.in_ok-carried.ensures.carried x.reserve puts_then in
    let within = sym (c.in_ok-reason-2.ensures.first x flows) ∙ c.in_default-2.is in
    let given : c.from_residual-in_err-reason-3.result ≡ Err (why.Passed c.in_err-reason-3.field-0.0) = search rules in
    rw given (at_rooms c.in_err-reason-3.ensures.stops (before_rooms m x d none balanced met within))

pub returns-in_err-reason-4-clause-stops : goal.returns-in_err-reason-4-clause-stops
returns-in_err-reason-4-clause-stops g c = λ none.
    let m = c.args.market.now in
    let value = g.N.Exact.value in
    let x = certified_dispatch value c.args.dispatch.now in
    let d = certified_duals value c.args.duals.now in
    let puts = ap (map value) c.deref.ensures.value ∙ c.in_ok-by_bus.ensures.injections x.reserve in
    let balanced = sym (c.in_ok-reason.ensures.first x puts) ∙ c.in_default.is in
    let sum = c.in_ok-accepted.ensures.sum m x.blocks c.requires.counted.quantities in
    let met = sym (c.short_need.ensures x sum) ∙ c.in_default-short_need.is in
    let puts_then = ap (map value) c.deref-2.ensures.value ∙ c.in_ok-by_bus.ensures.injections x.reserve in
    let flows = ap (map value) c.deref-3.ensures.value ∙ c.in_ok-carried.ensures.carried x.reserve puts_then in
    let within = sym (c.in_ok-reason-2.ensures.first x flows) ∙ c.in_default-2.is in
    let flows_then = ap (map value) c.deref-4.ensures.value ∙ c.in_ok-carried.ensures.carried x.reserve puts_then in
    let given : c.from_residual-in_err-reason-4.result ≡ Err c.in_err-reason-4.field-0.0 = search rules in
    rw given (on_passed_weaker c.in_err-reason-4.field-0.0 _ _ (λ p h. at_limits h (before_limits m x d none balanced met)) (c.in_err-reason-4.ensures.stops x flows_then))

pub returns-in_err-wrong_slack-clause-stops : goal.returns-in_err-wrong_slack-clause-stops
returns-in_err-wrong_slack-clause-stops g c = λ none.
    let m = c.args.market.now in
    let value = g.N.Exact.value in
    let x = certified_dispatch value c.args.dispatch.now in
    let d = certified_duals value c.args.duals.now in
    let puts = ap (map value) c.deref.ensures.value ∙ c.in_ok-by_bus.ensures.injections x.reserve in
    let balanced = sym (c.in_ok-reason.ensures.first x puts) ∙ c.in_default.is in
    let sum = c.in_ok-accepted.ensures.sum m x.blocks c.requires.counted.quantities in
    let met = sym (c.short_need.ensures x sum) ∙ c.in_default-short_need.is in
    let puts_then = ap (map value) c.deref-2.ensures.value ∙ c.in_ok-by_bus.ensures.injections x.reserve in
    let flows = ap (map value) c.deref-3.ensures.value ∙ c.in_ok-carried.ensures.carried x.reserve puts_then in
    let within = sym (c.in_ok-reason-2.ensures.first x flows) ∙ c.in_default-2.is in
    let given : c.from_residual-in_err-wrong_slack.result ≡ Err (why.Passed c.in_err-wrong_slack.field-0.0) = search rules in
    rw given (at_rooms c.in_err-wrong_slack.ensures.stops (before_rooms m x d none balanced met within))
