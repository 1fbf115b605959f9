use Rattle.std.proofs.Common.{◌+◌, ◌≤◌}
use Rattle.std.specs.Vec.{vec_capacity, vec_len}
use Rattle.linear_dict.proofs.WideLemmas.{IsGrown, IsMoved}
use Rattle.linear_dict.proofs.column.widen_table.Given as goal

abbrev pub invariant-loop-k : goal.invariant-loop-k
invariant-loop-k g l = IsMoved g.N.Exact.value l.rows l.columns l.fn.table.items l.k l.table.items

abbrev pub invariant-loop : goal.invariant-loop
invariant-loop g l = IsGrown g.N.Exact.value l.rows l.columns l.fn.table.items l.counter l.table.items × (vec_len l.table + l.rows ≤ vec_capacity l.table + l.counter)
