use Rattle.std.proofs.Common.{List, ◌++◌, ◌∙◌, ap, length, pos, arith}
use Rattle.std.specs.Prelude.{option_map, slice_index_or}
use Rattle.market_data.specs.declared.participants.Unit as unit
use Rattle.market_model.specs.Dispatch.{zero, unit_at}
use Rattle.market_model.specs.RightAnswers.{pay_of}
use Rattle.report_text.specs.Reports.{unit_text, unit_line_at}
use Rattle.market_model.specs.Valued.{unit_pay_at, answer_at}
use Rattle.report_text.proofs.ReportLemmas.{lines_more, entry_is}
use Rattle.report_text.proofs.answer.unit_lines.Goals as goal

pub loop-place-preserved : goal.loop-place-preserved
loop-place-preserved g c =
    let m = c.args.market.now in
    let i = c.loop-place.place in
    let pay = unit_pay_at g.N.Exact.value c.at.result.now in
    let units = c.slice-unit-items.ensures ∙ c.units.ensures.list in
    let row = ap (λ (us : List unit.Unit). (slice_index_or us i (record { row = 0; bus = 0; fixed = pos 0; up = pos 0; down = pos 0 })).row) units in
    let read = entry_is (unit_pay_at g.N.Exact.value) c.args.answer.now.money.units i c.at.result.now (record { mw = zero; paid = zero })
    (omega (arith, c.requires.money.units, ap length units)) c.at.ensures in
    lines_more (unit_line_at m (answer_at g.N.Exact.value c.args.answer.now)) c.args.text.now c.loop-place.text c.unit_line.new.text i c.loop-place.invariant
    (c.in_ok-unit_line.ensures
    ∙ ap (λ t. c.loop-place.text ++ t) (ap (λ n. unit_text n pay (option_map g.N.Exact.value c.own_of-own.result)) row
    ∙ ap (λ p. unit_text (unit_at m i).row p (option_map g.N.Exact.value c.own_of-own.result)) read
    ∙ ap (unit_text (unit_at m i).row (pay_of (answer_at g.N.Exact.value c.args.answer.now) i)) c.own_of-own.ensures))
