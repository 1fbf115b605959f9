use Rattle.std.proofs.Common.{◌≡◌, length}
use Rattle.factor_maker.specs.ExactLists.{AreEntries}
use Rattle.factor_maker.proofs.exact_columns.flows_from.Given as goal

abbrev pub invariant-loop-branch : goal.invariant-loop-branch
invariant-loop-branch g l = record {
  count : length l.list ≡ l.branch;
  entries : AreEntries l.flows l.buses l.bus l.list;
}
