use Rattle.std.proofs.Common.{◌∙◌, ◌++◌, Bool, ℤ, ap, w64}
use Rattle.std.specs.Prelude.{codes}
use Rattle.std.proofs.lemmas.Int.{to_z-of_z}
use Rattle.exact_fraction.specs.Written.{written}
use Rattle.market_data.specs.Scales.{money_places, price_places}
use Rattle.market_model.specs.declared.participants.Reserve.{Reserve}
use Rattle.market_model.specs.Valued.{answer_at}
use Rattle.report_text.specs.Reports.{block_number, cleared_text, head_text, need_text, lines_of_buses, lines_of_blocks, lines_of_limits, lines_of_rooms, lines_of_units, lines_of_offers, lines_of_loads, surplus_text}
use Rattle.report_text.proofs.ReserveLemmas.{report_grown}
use Rattle.report_text.proofs.answer.cleared.Goals as goal

pub returns : goal.returns
unfolding cleared_text surplus_text block_number
returns g c =
    let m = c.args.market.now in
    let a = answer_at g.N.Exact.value c.args.answer.now in
    let listed = ap (λ (r : Reserve). r.listed) c.reserve.ensures.reserve in
    let need = c.in_ok-need_line.ensures
    ∙ ap (λ (n : ℤ). c.head_lines.new.text ++ need_text c.reserve.result.now.listed n a.duals.reserve) (to_z-of_z w64 c.args.need c.ranges.need)
    ∙ ap (λ (b : Bool). c.head_lines.new.text ++ need_text b c.args.need a.duals.reserve) listed in
    c.into_bytes.ensures
    ∙ report_grown (head_text a.welfare a.duals.energy) (need_text m.reserve.listed c.args.need a.duals.reserve) (lines_of_buses m a) (lines_of_blocks m a) (lines_of_limits a) (lines_of_rooms price_places a.duals.rooms) (lines_of_units m a) (lines_of_offers m a) (lines_of_loads m a)
    (codes "surplus ") (written money_places a.money.surplus) (codes "\n")
    c.new-text.result c.head_lines.new.text c.need_line.new.text c.bus_lines.new.text c.block_lines.new.text c.rent_lines.new.text c.room_lines.new.text c.unit_lines.new.text c.offer_lines.new.text c.load_lines.new.text c.named.new.self c.word.new.self
    c.new-text.ensures c.in_ok-head_lines.ensures need c.in_ok-bus_lines.ensures c.in_ok-block_lines.ensures c.in_ok-rent_lines.ensures c.in_ok-room_lines.ensures c.in_ok-unit_lines.ensures c.in_ok-offer_lines.ensures c.in_ok-load_lines.ensures c.in_ok-named.ensures c.in_ok-word.ensures
