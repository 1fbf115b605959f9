use Rattle.std.proofs.Common.{ℕ, List, ◌++◌, ◌∙◌, ap, length, pos, arith}
use Rattle.std.specs.Prelude.{slice_index_or}
use Rattle.market_data.specs.declared.participants.Unit as unit
use Rattle.market_model.specs.declared.participants.Block.{Block}
use Rattle.market_model.specs.declared.participants.Side.TheVariants.{Sell}
use Rattle.market_model.specs.Dispatch.{zero, unit_at, block_at}
use Rattle.report_text.specs.Reports.{block_text, block_line_at, block_number}
use Rattle.market_model.specs.Valued.{answer_at}
use Rattle.report_text.proofs.ReportLemmas.{lines_more, entry_is}
use Rattle.report_text.proofs.answer.block_lines.Goals as goal

pub loop-place-preserved : goal.loop-place-preserved
loop-place-preserved g c =
    let m = c.args.market.now in
    let j = c.loop-place.place in
    let mw = g.N.Exact.value c.at.result.now in
    let blocks = c.slice-blocks.ensures ∙ c.blocks-2.ensures.list in
    let units = c.slice-units.ensures ∙ c.units.ensures.list in
    let read = entry_is g.N.Exact.value c.args.answer.now.dispatch j c.at.result.now zero (omega (arith, c.requires.dispatch, ap length blocks)) c.at.ensures in
    let line : List unit.Unit → List Block → ℕ → List ℕ = λ us bs number.
    block_text (slice_index_or us (slice_index_or bs j (record { unit = 0; side = Sell; quantity = pos 0; price = pos 0 })).unit (record { row = 0; bus = 0; fixed = pos 0; up = pos 0; down = pos 0 })).row
    (slice_index_or bs j (record { unit = 0; side = Sell; quantity = pos 0; price = pos 0 })).side number mw in
    let same = ap (λ n. line c.slice-units.result.now c.slice-blocks.result.now n) c.number_of-number.ensures
    ∙ ap (λ us. line us c.slice-blocks.result.now (block_number m j)) units
    ∙ ap (λ bs. line m.units bs (block_number m j)) blocks
    ∙ ap (block_text (unit_at m (block_at m j).unit).row (block_at m j).side (block_number m j)) read in
    lines_more (block_line_at m (answer_at g.N.Exact.value c.args.answer.now)) c.args.text.now c.loop-place.text c.block_line.new.text j c.loop-place.invariant
    (c.in_ok-block_line.ensures ∙ ap (λ t. c.loop-place.text ++ t) same)
