-- What is known of a dictionary that is kept from one run to the next.
use Rattle.std.specs.Prelude.{◌≡◌, false, Option, Some, None}
use Rattle.linear_dict.specs.Dictionaries.{Dictionary, IsDictionary}

-- one that is kept is sound, and no pivot of it was refused
abbrev pub IsKeptStart : Option Dictionary → Type 0
IsKeptStart None = Unit {0}
IsKeptStart (Some d) = IsDictionary d × (d.spent ≡ false)
