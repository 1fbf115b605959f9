-- What a list is after its items were lent to be written to.
use Rattle.std.specs.Prelude.{List, ◌++◌, length, take, drop}
use Rattle.std.specs.Borrow.{Lends, Fml, RattleType, MutBor, Array}
use Rattle.plain_list.specs.contracts.List.{the_row}

-- a list with these items; a slice keeps its length, and others are cut or filled up from the list's own
abbrev pub with_items : {X : Type 0} → List X → List X → List X
with_items xs items = take (length xs) (items ++ drop (length items) xs)

-- the list is as the slice is left
abbrev pub lends_slice : (T : RattleType) → MutBor (List T.Denot) → MutBor (List T.Denot) → Fml
lends_slice T list slice = Lends (the_row T) (Array T 0) list slice (with_items list.now)
