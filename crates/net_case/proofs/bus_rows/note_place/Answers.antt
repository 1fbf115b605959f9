use Rattle.std.proofs.Common.{◌∙◌}
use Rattle.std.specs.Prelude.{◌==◌}
use Rattle.indexmap.proofs.CallerLemmas.{insert_entry-new}
use Rattle.net_case.proofs.bus_rows.note_place.Goals as goal

pub returns-in-Ok-clause-noted : goal.returns-in-Ok-clause-noted
returns-in-Ok-clause-noted c = c.in-Ok.ensures.entries ∙ insert_entry-new ◌==◌ c.args.places.now c.args.number c.args.place c.requires
