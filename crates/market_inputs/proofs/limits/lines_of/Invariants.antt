use Rattle.std.proofs.Common.{◌≡◌, All, map, take}
use Rattle.market_inputs.specs.Clearing.{IsTabled, line_of}
use Rattle.market_inputs.proofs.limits.lines_of.Given as goal

abbrev pub invariant-loop-branch : goal.invariant-loop-branch
invariant-loop-branch l = record {
  tabled : All IsTabled l.lines;
  are : l.lines ≡ map (line_of l.offsets l.penalties) (take l.branch-index l.branches);
}
