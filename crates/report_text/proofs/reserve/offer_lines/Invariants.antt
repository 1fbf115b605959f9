use Rattle.std.proofs.Common.{◌≡◌, ◌++◌}
use Rattle.std.specs.List.{flat_map}
use Rattle.market_model.specs.Dispatch.{places}
use Rattle.report_text.specs.Reports.{offer_line_at}
use Rattle.market_model.specs.Valued.{answer_at}
use Rattle.report_text.proofs.reserve.offer_lines.Given as goal

abbrev pub invariant-loop-place : goal.invariant-loop-place
invariant-loop-place g l = l.text ≡ l.initial.text ++ flat_map (offer_line_at l.market (answer_at g.N.Exact.value l.answer)) (places l.place)
