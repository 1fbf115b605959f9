use Rattle.std.proofs.Common.{◌≡◌, ◌++◌, take, map}
use Rattle.std.specs.List.{flat_map, zip}
use Rattle.report_text.specs.Reports.{rent_text}
use Rattle.market_model.specs.Valued.{dual_at, rent_at}
use Rattle.report_text.proofs.limits.rent_lines.Given as goal

abbrev pub invariant-loop-place : goal.invariant-loop-place
invariant-loop-place g l =
    l.text ≡ l.initial.text ++ flat_map (λ p. rent_text p.0 p.1) (take l.place (zip (map (dual_at g.N.Exact.value) l.answer.duals.limits) (map (rent_at g.N.Exact.value) l.answer.money.rents)))
