use Rattle.std.proofs.Common.{◌≡◌, drop}
use Rattle.cert_sums.specs.Named.{room_in}
use Rattle.cert_sums.proofs.worths.room_price_in.Given as goal

abbrev pub invariant-loop-entry : goal.invariant-loop-entry
invariant-loop-entry g l = room_in l.rooms l.unit ≡ room_in (drop l.entry-index l.rooms) l.unit
