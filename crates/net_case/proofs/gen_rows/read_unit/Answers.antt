use Rattle.std.proofs.Common.{◌∙◌, sym}
use Rattle.case_text.specs.declared.Field.TheVariants as field
use Rattle.net_case.proofs.BusLemmas.{place_of_number-within, named_place-within}
use Rattle.net_case.proofs.gen_rows.read_unit.Goals as goal

pub returns-clause-unit : goal.returns-clause-unit
returns-clause-unit c = λ buses places.
    c.unit_at.ensures.unit buses (named_place-within buses field.Gen c.args.row c.place_of_number.result c.in_ok-bus.bus (sym c.named_place.ensures ∙ c.in_ok-bus.was)
    (rw c.place_of_number.ensures (place_of_number-within buses c.args.places.now.entries _ places)))
