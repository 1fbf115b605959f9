use Rattle.std.proofs.Common.{◌≡◌, ◌++◌, take}
use Rattle.refusal_text.specs.Refusals.{side_text}
use Rattle.refusal_text.proofs.refusals.write_side.Given as goal

abbrev pub invariant-loop-bus : goal.invariant-loop-bus
invariant-loop-bus l = l.text ≡ l.initial.text ++ side_text (take l.bus-index l.side)
