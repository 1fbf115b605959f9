use Rattle.std.proofs.Common.{◌≡◌, length, None}
use Rattle.case_text.specs.Readers.{SameEnd}
use Rattle.case_text.specs.Costs.{costs_from}
use Rattle.case_text.proofs.costs.read_rest.Given as goal

abbrev pub invariant-loop-costs : goal.invariant-loop-costs
invariant-loop-costs l =
    let start = l.initial.tokens.left in
    let left = l.tokens.left in
    record {
      same : SameEnd l.initial.tokens l.tokens;
      whole : costs_from l.text start.fault None 0 start.tokens ≡ costs_from l.text left.fault l.costs 0 left.tokens;
    }

abbrev pub decreases-loop-costs : goal.decreases-loop-costs
decreases-loop-costs l = length l.tokens.left.tokens
