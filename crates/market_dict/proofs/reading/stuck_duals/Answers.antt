use Rattle.std.proofs.Common.{◌∙◌, map, ap, slice_index}
use Rattle.std.specs.Prelude.{not}
use Rattle.linear_dict.specs.Dictionaries.{choice_of}
use Rattle.simplex_theory.specs.Steps.{opposite_if}
use Rattle.simplex_theory.specs.Stuck.{multiplier}
use Rattle.market_dict.proofs.reading.stuck_duals.Goals as goal

pub returns : goal.returns
returns g c = λ ts holds.
    let d = c.args.dict.now in
    c.duals_by.ensures ts (λ w. opposite_if (not c.args.above) (multiplier (choice_of d) (slice_index d.basics c.args.row) w)) holds
    (ap (map g.N.Exact.value) c.slice.ensures ∙ c.in_ok-costs.ensures)
