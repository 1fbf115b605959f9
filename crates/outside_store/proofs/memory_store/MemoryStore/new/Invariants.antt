use Rattle.std.proofs.Common.{◌≡◌, length}
use Rattle.std.specs.Prelude.{All}
use Rattle.outside_store.specs.Places.{IsRoomy}
use Rattle.outside_store.proofs.memory_store.MemoryStore.new.Given as goal

abbrev pub invariant-loop : goal.invariant-loop
invariant-loop l = record { count : length l.places.items ≡ l.counter; roomy : All (IsRoomy l.room.name l.room.bytes) l.places.items }
