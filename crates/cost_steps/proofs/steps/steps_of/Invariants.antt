use Rattle.std.specs.Prelude.{map}
use Rattle.std.specs.List.{AllZip, filter, range_with_len}
use Rattle.cost_steps.specs.Parts.{part_at, has_width}
use Rattle.cost_steps.specs.Steps.{IsStepOf}
use Rattle.cost_steps.proofs.steps.steps_of.Given as goal

-- the steps so far are those of the parts so far that have a width
abbrev pub invariant-loop-place : goal.invariant-loop-place
invariant-loop-place l = AllZip IsStepOf (filter has_width (map (part_at l.fn.cost l.fn.way l.fn.low l.fn.high l.fn.count) (range_with_len 0 l.place))) l.steps
