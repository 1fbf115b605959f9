-- Whether the reduced prices that are noted are those of the table. Source: Chvátal, Linear Programming.
use Rattle.std.specs.Prelude.{◌≡◌, ℕ}
use Rattle.std.specs.List.{Contains}
use Rattle.linear_system.specs.Choices.{reduced}
use Rattle.linear_dict.specs.Dictionaries.{Dictionary, system_in, choice_of, note_of}

-- Each variable is noted with how much the objective of the noted prices rises where it rises by 1, 0 where it is basic.
pub record HasReducedPrices (d : Dictionary) : Type 0 where
  pub of : (w : ℕ) → Contains d.names w → (note_of d w).reduced ≡ reduced (system_in d) (choice_of d) w
