use Rattle.line_text.proofs.DecimalLemmas.{unit_fits, unit_above}
use Rattle.line_text.proofs.text.Text.decimal.Goals as goal

pub pow-unit-requires : goal.pow-unit-requires
pow-unit-requires c = unit_fits c.args.places c.requires

pub nonzero_div-size : goal.nonzero_div-size
nonzero_div-size c = unit_above c.args.places c.pow-unit.result c.pow-unit.ensures

pub nonzero_rem-size : goal.nonzero_rem-size
nonzero_rem-size c = unit_above c.args.places c.pow-unit.result c.pow-unit.ensures
