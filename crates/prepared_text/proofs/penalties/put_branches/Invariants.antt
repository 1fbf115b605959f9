use Rattle.std.proofs.Common.{◌≡◌, ◌++◌, take}
use Rattle.std.specs.List.{flat_map}
use Rattle.prepared_text.specs.PenaltyText.{branch_lines}
use Rattle.prepared_text.proofs.penalties.put_branches.Given as goal

-- the lines of the branches so far
abbrev pub invariant-loop-branch : goal.invariant-loop-branch
invariant-loop-branch l = l.text ≡ l.initial.text ++ flat_map (branch_lines l.softness) (take l.branch-index l.branches)
