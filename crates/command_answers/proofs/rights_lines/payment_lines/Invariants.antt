use Rattle.std.proofs.Common.{◌≡◌, ◌++◌, map}
use Rattle.std.specs.List.{flat_map}
use Rattle.market_model.specs.Dispatch.{places}
use Rattle.command_answers.specs.RightsLines.{payment_at}
use Rattle.command_answers.proofs.rights_lines.payment_lines.Given as goal

-- what is written so far are the lines of the places before
abbrev pub invariant-loop-place : goal.invariant-loop-place
invariant-loop-place g l = l.text ≡ l.initial.text ++ flat_map (payment_at (map g.N.Exact.value l.each)) (places l.place)
