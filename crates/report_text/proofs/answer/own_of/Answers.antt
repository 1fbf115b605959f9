use Rattle.std.proofs.Common.{◌<◌, ◌≤◌, ◌∙◌, sym, ap, length, map, get_or, arith}
use Rattle.std.proofs.lemmas.Bool.{eq-eqb, eqb-true, false_from_ne_true}
use Rattle.std.proofs.lemmas.Grind.{get_or_default_zero}
use Rattle.std.proofs.lemmas.List.{length-map}
use Rattle.market_model.specs.Dispatch.{zero as none}
use Rattle.report_text.proofs.ReportLemmas.{entry_is, own-here, own-later, own-none}
use Rattle.report_text.proofs.answer.own_of.Goals as goal

pub returns-then-lost-place : goal.returns-then-lost-place
returns-then-lost-place g c =
    let value = g.N.Exact.value in
    let lost = c.args.market.now.unit_outages in
    let own = c.args.answer.now.money.own in
    let i = c.loop-outage.outage in
    let list = c.slice-lost-items.ensures ∙ c.unit_outages.ensures.list in
    let lt : i < length lost = omega (arith, c.loop-outage-test.true, ap length list) in
    let test = eq-eqb _ _ (ap (λ xs. get_or xs i 0) (sym list) ∙ c.if-lost-place.true) in
    sym (c.loop-outage.invariant
    ∙ own-here lost (map value own) (length-map own value ∙ c.requires.money.own) c.args.place i (get_or lost i 0) (value c.at.result.now) lt
    (sym (get_or_default_zero lost i (get_or lost i 0) lt))
    (entry_is value own i c.at.result.now (value c.at.result.now) (omega (arith, lt, c.requires.money.own)) c.at.ensures) test)

pub loop-outage-preserved : goal.loop-outage-preserved
loop-outage-preserved g c =
    let value = g.N.Exact.value in
    let lost = c.args.market.now.unit_outages in
    let own = c.args.answer.now.money.own in
    let i = c.loop-outage.outage in
    let list = c.slice-lost-items.ensures ∙ c.unit_outages.ensures.list in
    let lt : i < length lost = omega (arith, c.loop-outage-test.true, ap length list) in
    let test = false_from_ne_true _ (λ e. c.if-lost-place.false (ap (λ xs. get_or xs i 0) list ∙ eqb-true _ _ e)) in
    c.loop-outage.invariant
    ∙ own-later lost (map value own) (length-map own value ∙ c.requires.money.own) c.args.place i (get_or lost i 0) none lt
    (sym (get_or_default_zero lost i (get_or lost i 0) lt)) test

pub returns : goal.returns
returns g c =
    let value = g.N.Exact.value in
    let lost = c.args.market.now.unit_outages in
    let own = c.args.answer.now.money.own in
    let list = c.slice-lost-items.ensures ∙ c.unit_outages.ensures.list in
    let le : length lost ≤ c.loop-outage.outage = omega (arith, c.loop-outage-test.false, ap length list) in
    sym (c.loop-outage.invariant ∙ own-none lost (map value own) (length-map own value ∙ c.requires.money.own) c.args.place c.loop-outage.outage le)
