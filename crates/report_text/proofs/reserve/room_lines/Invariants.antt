use Rattle.std.proofs.Common.{◌≡◌, ◌++◌, take}
use Rattle.std.specs.List.{flat_map}
use Rattle.report_text.specs.Reports.{room_text}
use Rattle.market_model.specs.Valued.{room_dual_at}
use Rattle.report_text.proofs.reserve.room_lines.Given as goal

abbrev pub invariant-loop-room : goal.invariant-loop-room
invariant-loop-room g l = l.text ≡ l.initial.text ++ flat_map (λ d. room_text l.places (room_dual_at g.N.Exact.value d)) (take l.room-index l.rooms)
