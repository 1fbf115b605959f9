use Rattle.std.proofs.Common.{length}
use Rattle.offer_book.proofs.reserve_reading.entry_of.Goals as goal

pub returns-in-Need-clause-kept : goal.returns-in-Need-clause-kept
returns-in-Need-clause-kept c = c.need_entry.ensures.kept (length c.args.units.now.units)
