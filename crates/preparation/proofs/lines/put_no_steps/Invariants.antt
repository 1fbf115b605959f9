use Rattle.std.proofs.Common.{◌≡◌, ◌++◌, take}
use Rattle.std.specs.List.{flat_map}
use Rattle.preparation.specs.Lines.{no_steps_line}
use Rattle.preparation.proofs.lines.put_no_steps.Given as goal

-- the lines so far
abbrev pub invariant-loop-unit : goal.invariant-loop-unit
invariant-loop-unit l = l.text ≡ l.initial.text ++ flat_map no_steps_line (take l.unit-index l.units)
