use Rattle.std.proofs.Common.{◌≡◌, ◌+◌}
use Rattle.std.specs.Prelude.{count_by}
use Rattle.market_model.specs.Dispatch.{places, block_at}
use Rattle.report_text.specs.Reports.{alike}
use Rattle.report_text.proofs.answer.number_of.Given as goal

abbrev pub invariant-loop-other : goal.invariant-loop-other
invariant-loop-other l = l.number ≡ 1 + count_by (λ k. alike (block_at l.market k) (block_at l.market l.place)) (places l.other-index)
