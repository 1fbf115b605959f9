use Rattle.std.proofs.Common.{ap, sym, subst, ◌∙◌, rules, w64, refl}
use Rattle.std.specs.Prelude.{unsigned_abs, ◌<◌, ◌^◌}
use mir.Val.{to_z, of_z}
use Rattle.std.proofs.lemmas.Int.{to_z-of_z}
use Rattle.fraction_theory.specs.Fraction.{over}
use Rattle.cost_steps.proofs.Machine.{product_fits, rise_fits, rise_read, rise_size}
use Rattle.cost_steps.proofs.Slopes.{quadratic_units}
use Rattle.cost_steps.proofs.parts.quadratic_stretch.Goals as goal

pub overflow_mul-rise : goal.overflow_mul-rise
overflow_mul-rise c = product_fits c.args.square c.args.linear c.args.from c.args.to c.from-3.result (to_z w64 (of_z w64 c.args.linear)) c.from.result c.from-2.result c.requires.least c.requires.most
    c.ranges.square c.ranges.linear c.ranges.from c.ranges.to c.from-3.ensures refl c.from.ensures c.from-2.ensures

pub overflow_add-rise : goal.overflow_add-rise
overflow_add-rise c = rise_fits c.args.square c.args.linear c.args.from c.args.to c.from-3.result c.from-4.result c.from.result c.from-2.result c.requires.least c.requires.most
    c.ranges.square c.ranges.linear c.ranges.from c.ranges.to c.from-3.ensures c.from-4.ensures c.from.ensures c.from-2.ensures

pub returns : goal.returns
returns c =
    let is = rise_read c.args.square c.args.linear c.args.from c.args.to c.from-3.result c.from-4.result c.from.result c.from-2.result c.requires.least c.requires.most
    c.ranges.square c.ranges.linear c.ranges.from c.ranges.to c.from-3.ensures c.from-4.ensures c.from.ensures c.from-2.ensures in
    record {
      from = to_z-of_z w64 c.args.from c.ranges.from;
      to = to_z-of_z w64 c.args.to c.ranges.to;
      slope = ap (λ t. over t (10 ^ 18)) is ∙ quadratic_units c.args.square c.args.linear c.args.from c.args.to;
      rise_fits = subst (λ t. unsigned_abs t < 2 ^ 127) (sym is)
          (rise_size c.args.square c.args.linear c.args.from c.args.to c.from-3.result c.from-4.result c.from.result c.from-2.result c.requires.least c.requires.most
          c.ranges.square c.ranges.linear c.ranges.from c.ranges.to c.from-3.ensures c.from-4.ensures c.from.ensures c.from-2.ensures);
      run_above = search rules;
    }
