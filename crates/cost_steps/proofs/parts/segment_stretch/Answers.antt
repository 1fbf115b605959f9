use Rattle.std.proofs.Common.{rules, ◌+◌, ◌<◌, ◌^◌, sym, subst, w64}
use Rattle.std.specs.Prelude.{unsigned_abs}
use mir.Val.{SFits}
use Rattle.cost_steps.specs.Costs.{point_at}
use Rattle.cost_steps.specs.Parts.{point_cut}
use Rattle.cost_steps.proofs.Cuts.{cut_read}
use Rattle.cost_steps.proofs.Machine.{units_read, units_size}
use Rattle.cost_steps.proofs.Segments.{above, slope_of}
use Rattle.cost_steps.proofs.parts.segment_stretch.Goals as goal

pub returns : goal.returns
returns c =
    let points = c.args.points.now in
    let p = point_at points c.args.place in
    let q = point_at points (c.args.place + 1) in
    let p_output : SFits w64 p.output = search rules in
    let p_cost : SFits w64 p.cost = search rules in
    let q_output : SFits w64 q.output = search rules in
    let q_cost : SFits w64 q.cost = search rules in
    let first : SFits w64 c.cut_at_point-from.result = record { sfits = c.cut_at_point-from.type_inv } in
    let second : SFits w64 c.cut_at_point-to.result = record { sfits = c.cut_at_point-to.type_inv } in
    let rise = c.requires.points.rise c.args.place c.requires.place in
    let units = units_read p.cost q.cost c.from-2.result c.from.result p_cost q_cost c.from-2.ensures c.from.ensures in
    record {
      from = cut_read (λ low high. point_cut low high points c.args.place) c.args.low c.args.high c.cut_at_point-from.result c.ranges.low c.ranges.high first c.cut_at_point-from.ensures;
      to = cut_read (λ low high. point_cut low high points (c.args.place + 1)) c.args.low c.args.high c.cut_at_point-to.result c.ranges.low c.ranges.high second c.cut_at_point-to.ensures;
      slope = slope_of p q c.abs_diff-run.result p_output q_output rise c.abs_diff-run.ensures _ units;
      rise_fits = subst (λ t. unsigned_abs t < 2 ^ 127) (sym units) (units_size p.cost q.cost c.from-2.result c.from.result p_cost q_cost c.from-2.ensures c.from.ensures);
      run_above = above p q c.abs_diff-run.result p_output q_output rise c.abs_diff-run.ensures;
    }
