use Rattle.std.proofs.Common.{rules, Err, ◌≡◌, ◌∙◌, ◌+◌, ◌∷◌, ◌++◌, [], ap, sym, subst, get_or, map, refl}
use Rattle.std.proofs.lemmas.List.{map-append}
use Rattle.exact_fraction.specs.declared.Op.TheVariants as Op
use Rattle.market_model.specs.declared.participants.TransmissionRight.{TransmissionRight}
use Rattle.market_model.specs.declared.stops.Stop.TheVariants as why
use Rattle.market_model.specs.Valued.{passed_at, total_at}
use Rattle.market_model.proofs.ChangeLemmas.{same_default}
use Rattle.market_model.proofs.SumSteps.{refusal}
use Rattle.rights_test.proofs.BusSteps.{nothing}
use Rattle.rights_test.proofs.PaySteps.{all_paid, paid_more, payment_refused, sum_refused, ArePaid}
use Rattle.rights_test.proofs.paying.pay.Goals as goal

pub returns-in_err-paid-clause-stops : goal.returns-in_err-paid-clause-stops
returns-in_err-paid-clause-stops g c =
    let rights = c.args.rights.now in
    let k = c.loop-right.right-index in
    let t : TransmissionRight = get_or rights k nothing in
    let given : c.from_residual.result ≡ Err (why.Passed c.in_err-paid.field-0.0) = search rules in
    rw given
    (payment_refused (total_at g.N.Exact.value c.args.prices.now) rights k t c.loop-right-test.true (same_default rights k nothing t c.loop-right-test.true) g.N.Exact.bound (passed_at g.N.Exact.value c.in_err-paid.field-0.0)
    c.in_err-paid.ensures.stops)

pub returns-in_err-total-clause-stops : goal.returns-in_err-total-clause-stops
returns-in_err-total-clause-stops g c =
    let value = g.N.Exact.value in
    let rights = c.args.rights.now in
    let k = c.loop-right.right-index in
    let t : TransmissionRight = get_or rights k nothing in
    let given : c.from_residual-in_err-total.result ≡ Err (why.Passed c.in_err-total.field-0.0) = search rules in
    rw given
    (sum_refused (total_at value c.args.prices.now) rights k t c.loop-right-test.true (same_default rights k nothing t c.loop-right-test.true) g.N.Exact.bound (passed_at value c.in_err-total.field-0.0)
    (value c.loop-right.total) (value c.in_ok-paid.paid) c.in_ok-paid.ensures.paid c.loop-right.invariant.sum
    (refusal value g.N.Exact.bound Op.Plus c.loop-right.total c.in_ok-paid.paid _ _ c.in_err-total.field-0.0 refl refl c.in_err-total.ensures))

pub loop-right-preserved : goal.loop-right-preserved
loop-right-preserved g c =
    let value = g.N.Exact.value in
    let rights = c.args.rights.now in
    let k = c.loop-right.right-index in
    let t : TransmissionRight = get_or rights k nothing in
    let pushed : map value c.push.new.self ≡ map value c.loop-right.each ++ value c.in_ok-paid.paid ∷ [] = ap (map value) c.in_ok-push.ensures ∙ map-append value c.loop-right.each (c.in_ok-paid.paid ∷ []) in
    subst (λ xs. ArePaid (total_at value c.args.prices.now) rights (k + 1) xs (value c.in_ok-total.total)) (sym pushed)
    (paid_more (total_at value c.args.prices.now) rights k t c.loop-right-test.true (same_default rights k nothing t c.loop-right-test.true) (map value c.loop-right.each) (value c.loop-right.total) (value c.in_ok-paid.paid)
    (value c.in_ok-total.total) c.in_ok-paid.ensures.paid c.in_ok-total.ensures.exact c.loop-right.invariant)

pub returns-clause-payments : goal.returns-clause-payments
returns-clause-payments g c = all_paid (total_at g.N.Exact.value c.args.prices.now) c.args.rights.now c.loop-right.right-index (map g.N.Exact.value c.loop-right.each) (g.N.Exact.value c.loop-right.total) c.loop-right-test.false c.loop-right.invariant
