use Rattle.std.proofs.Common.{rules, subst₂, w64}
use Rattle.std.specs.Prelude.{◌↔◌, IsTrue}
use mir.Val.{SFits}
use Rattle.fraction_theory.specs.Fraction.{Fraction}
use Rattle.fraction_theory.specs.Order.{◌≤ℚ◌}
use Rattle.cost_steps.proofs.Machine.{apart_read}
use Rattle.cost_steps.proofs.Segments.{slope_is}
use Rattle.cost_steps.proofs.checks.bends_up.Goals as goal

pub returns : goal.returns
returns c =
    let p = c.args.first in
    let q = c.args.second in
    let r = c.args.third in
    let p_output : SFits w64 p.output = search rules in
    let p_cost : SFits w64 p.cost = search rules in
    let q_output : SFits w64 q.output = search rules in
    let q_cost : SFits w64 q.cost = search rules in
    let r_output : SFits w64 r.output = search rules in
    let r_cost : SFits w64 r.cost = search rules in
    subst₂ (λ (x : Fraction) (y : Fraction). IsTrue c.is_at_most.result ↔ (x ≤ℚ y))
    (slope_is p q c.abs_diff-run.result p_output q_output c.requires.near c.abs_diff-run.ensures _ (apart_read p.cost q.cost c.from-2.result c.from.result p_cost q_cost c.from-2.ensures c.from.ensures))
    (slope_is q r c.abs_diff-next_run.result q_output r_output c.requires.far c.abs_diff-next_run.ensures _ (apart_read q.cost r.cost c.from-4.result c.from-3.result q_cost r_cost c.from-4.ensures c.from-3.ensures))
    c.is_at_most.ensures
