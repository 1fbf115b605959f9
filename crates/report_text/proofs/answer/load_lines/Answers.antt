use Rattle.std.proofs.Common.{List, ◌++◌, ◌∙◌, ap, length, pos, arith}
use Rattle.std.specs.Prelude.{slice_index_or}
use Rattle.market_data.specs.declared.participants.Bus.{Bus}
use Rattle.market_model.specs.Dispatch.{zero, bus_at}
use Rattle.report_text.specs.Reports.{load_text, load_line_at}
use Rattle.market_model.specs.Valued.{load_at, answer_at}
use Rattle.report_text.proofs.ReportLemmas.{lines_more, entry_is}
use Rattle.report_text.proofs.answer.load_lines.Goals as goal

pub loop-place-preserved : goal.loop-place-preserved
loop-place-preserved g c =
    let m = c.args.market.now in
    let i = c.loop-place.place in
    let load = load_at g.N.Exact.value c.at.result.now in
    let buses = c.slice-bus-items.ensures ∙ c.buses.ensures.list in
    let number = ap (λ (bs : List Bus). (slice_index_or bs i (record { number = 0; pd = pos 0; gs = pos 0 })).number) buses in
    let read = entry_is (load_at g.N.Exact.value) c.args.answer.now.money.loads i c.at.result.now (record { mw = zero; pays = zero })
    (omega (arith, c.requires.money.loads, ap length buses)) c.at.ensures in
    lines_more (load_line_at m (answer_at g.N.Exact.value c.args.answer.now)) c.args.text.now c.loop-place.text c.load_line.new.text i c.loop-place.invariant
    (c.in_ok-load_line.ensures ∙ ap (λ t. c.loop-place.text ++ t) (ap (λ n. load_text n load) number ∙ ap (load_text (bus_at m i).number) read))
