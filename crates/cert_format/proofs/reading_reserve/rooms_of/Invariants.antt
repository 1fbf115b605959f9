use Rattle.std.proofs.Common.{◌≡◌, map}
use Rattle.serde_json.specs.View.{items_view}
use Rattle.market_model.specs.Valued.{room_dual_at}
use Rattle.cert_format.specs.Grammar.{each, room_dual_in}
use Rattle.cert_format.proofs.EachLemmas.{rest_of}
use Rattle.cert_format.proofs.reading_reserve.rooms_of.Given as goal

-- the rooms so far, and those of the values that are left
abbrev pub invariant-loop-value : goal.invariant-loop-value
invariant-loop-value g l = each (room_dual_in g.N.Exact.bound) (items_view l.values) ≡ rest_of (room_dual_in g.N.Exact.bound) (map (room_dual_at g.N.Exact.value) l.rooms) l.values l.value-index
