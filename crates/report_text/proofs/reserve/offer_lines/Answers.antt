use Rattle.std.proofs.Common.{◌≡◌, ℕ, List, ◌++◌, ◌∙◌, ap, length, pos, arith}
use Rattle.std.specs.Prelude.{slice_index_or}
use Rattle.std.specs.List.{flat_map}
use Rattle.market_data.specs.declared.participants.Unit as unit
use Rattle.market_model.specs.declared.participants.Reserve.{Reserve}
use Rattle.market_model.specs.declared.participants.ReserveOffer.{ReserveOffer}
use Rattle.market_model.specs.Dispatch.{zero, places, unit_at, offer_at}
use Rattle.market_model.specs.Valued.{answer_at, reserve_pay_at}
use Rattle.report_text.specs.Reports.{offer_text, offer_line_at}
use Rattle.report_text.proofs.ReportLemmas.{lines_more, entry_is}
use Rattle.report_text.proofs.reserve.offer_lines.Goals as goal

pub loop-place-preserved : goal.loop-place-preserved
loop-place-preserved g c =
    let m = c.args.market.now in
    let n = c.loop-place.place in
    let pay = reserve_pay_at g.N.Exact.value c.at.result.now in
    let units = c.slice-units.ensures ∙ c.units.ensures.list in
    let offers = c.slice-offer-items.ensures ∙ ap (λ (r : Reserve). r.offers) c.reserve.ensures.reserve in
    let read = entry_is (reserve_pay_at g.N.Exact.value) c.args.answer.now.money.reserve n c.at.result.now (record { mw = zero; paid = zero })
    (omega (arith, c.requires.money.reserve, ap length offers)) c.at.ensures in
    let line : List unit.Unit → List ReserveOffer → List ℕ = λ us os.
    offer_text (slice_index_or us (slice_index_or os n (record { unit = 0; quantity = pos 0; price = pos 0 })).unit (record { row = 0; bus = 0; fixed = pos 0; up = pos 0; down = pos 0 })).row pay in
    lines_more (offer_line_at m (answer_at g.N.Exact.value c.args.answer.now)) c.args.text.now c.loop-place.text c.offer_line.new.text n c.loop-place.invariant
    (c.in_ok-offer_line.ensures
    ∙ ap (λ t. c.loop-place.text ++ t) (ap (λ us. line us c.slice-offer-items.result.now) units ∙ ap (line m.units) offers ∙ ap (offer_text (unit_at m (offer_at m n).unit).row) read))

pub returns : goal.returns
returns g c =
    let m = c.args.market.now in
    let offers = c.slice-offer-items.ensures ∙ ap (λ (r : Reserve). r.offers) c.reserve.ensures.reserve in
    let all : c.loop-place.place ≡ length m.reserve.offers = omega (arith, c.loop-place-test.false, c.loop-place.auto.place-end, ap length offers) in
    c.loop-place.invariant ∙ ap (λ (n : ℕ). c.args.text.now ++ flat_map (offer_line_at m (answer_at g.N.Exact.value c.args.answer.now)) (places n)) all
