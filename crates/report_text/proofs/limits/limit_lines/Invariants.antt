use Rattle.std.proofs.Common.{◌≡◌, ◌++◌, take}
use Rattle.std.specs.List.{flat_map}
use Rattle.report_text.specs.Reports.{limit_text}
use Rattle.market_model.specs.Valued.{dual_at}
use Rattle.report_text.proofs.limits.limit_lines.Given as goal

abbrev pub invariant-loop-dual : goal.invariant-loop-dual
invariant-loop-dual g l = l.text ≡ l.initial.text ++ flat_map (λ d. limit_text (dual_at g.N.Exact.value d)) (take l.dual-index l.limits)
