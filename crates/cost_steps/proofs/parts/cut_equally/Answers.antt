use Rattle.std.proofs.Common.{ap, sym, ◌∙◌}
use Rattle.cost_steps.specs.Parts.{equal_cut}
use Rattle.cost_steps.proofs.Cuts.{down_read}
use Rattle.cost_steps.proofs.parts.cut_equally.Goals as goal

pub returns-in-Down-way : goal.returns-in-Down-way
returns-in-Down-way c =
    down_read c.args.low c.args.high c.args.count c.args.place c.abs_diff.result c.ranges.low c.ranges.high c.requires.order c.requires.width c.requires.place c.if-place-count.false c.abs_diff.ensures
    ∙ ap (λ way. equal_cut way c.args.low c.args.high c.args.count c.args.place) (sym c.in-Down-way.is)
