-- A dictionary as a state of the dual simplex method.
use Rattle.std.specs.Prelude.{◌≡◌, false}
use Rattle.linear_dict.specs.Dictionaries.{Dictionary, IsDictionary, system_in, choice_of, note_of}
use Rattle.simplex_theory.specs.States.{State, IsPosed}

-- the choice of its table, with the values and reduced prices that its notes say
unfoldable pub state_of : Dictionary → State
state_of d = record { choice = choice_of d; value = λ w. (note_of d w).value; reduced = λ w. (note_of d w).reduced }

-- It is not spent, and its state is posed over the system of its rows, prices and bounds.
pub record IsReady (d : Dictionary) : Type 0 where
  pub sound : IsDictionary d
  pub live : d.spent ≡ false
  pub posed : IsPosed (system_in d) (state_of d)
