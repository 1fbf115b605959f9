-- What is taken, as a clearer has it.
use Rattle.std.specs.Prelude.{◌≡◌, Option, Some, None, length}
use Rattle.linear_dict.specs.Dictionaries.{Dictionary}
use Rattle.clear_loop.specs.declared.hand.TakenInOrder.{TakenInOrder}
use Rattle.clear_loop.specs.Keeping.{Kept, untaken}

abbrev pub taken_in : Option TakenInOrder → TakenInOrder
taken_in None = untaken
taken_in (Some t) = t

-- what is kept, as callers see it
abbrev pub kept_as : Option Dictionary → Option TakenInOrder → Kept
kept_as d t = record { dict = d; taken = taken_in t }

-- a name for each row
abbrev pub HaveNames : Option TakenInOrder → Type 0
HaveNames None = Unit {0}
HaveNames (Some t) = length t.names ≡ length t.rows
