use Rattle.std.proofs.Common.{◌∙◌, sym}
use Rattle.case_text.specs.declared.Field.TheVariants as field
use Rattle.net_case.proofs.BusLemmas.{place_of_number-within, named_place-within}
use Rattle.net_case.proofs.branch_rows.read_branch.Goals as goal

pub returns-clause-branch : goal.returns-clause-branch
returns-clause-branch c = λ buses places.
    c.branch_at.ensures.branch buses
    (named_place-within buses field.Branch c.args.row c.place_of_number.result c.in_ok-from.from (sym c.named_place.ensures ∙ c.in_ok-from.was)
    (rw c.place_of_number.ensures (place_of_number-within buses c.args.places.now.entries _ places)))
    (named_place-within buses field.Branch c.args.row c.place_of_number-2.result c.in_ok-to.to (sym c.named_place-2.ensures ∙ c.in_ok-to.was)
    (rw c.place_of_number-2.ensures (place_of_number-within buses c.args.places.now.entries _ places)))
