use Rattle.std.proofs.Common.{◌∙◌, ap, w64}
use Rattle.std.proofs.lemmas.Int.{to_z-of_z}
use Rattle.fraction_theory.specs.Fraction.{over}
use Rattle.market_data.proofs.Data.{datum_fits}
use Rattle.fraction_theory.proofs.FieldLaws.{over-one}
use Rattle.market_model.proofs.amounts.datum.Goals as goal

pub returns : goal.returns
returns g c = c.of_parts.ensures ∙ ap (λ n. over n 1) (to_z-of_z w64 c.args.number (datum_fits c.args.number c.requires)) ∙ over-one c.args.number
