-- An other variable that goes from its low bound to its high one while no other one moves.
use Rattle.std.specs.Prelude.{◌≡◌, ℕ, ◌==◌, pos, true, false, if◌then◌else◌, List, map, slice_index_or}
use Rattle.std.specs.List.{Contains}
use Rattle.fraction_theory.specs.Fraction.{Fraction, whole, ◌+ℚ◌, ◌-ℚ◌, ◌*ℚ◌}
use Rattle.linear_dict.specs.Dictionaries.{Dictionary, choice_of, entry_of, note_of, system_in}
use Rattle.linear_dict.specs.Notes.{Noted}
use Rattle.linear_dict.specs.Places.{place_in}
use Rattle.simplex_core.specs.Turns.{noted_anew}
use Rattle.simplex_theory.specs.States.{IsWithin}

-- the value of the basic variable b after the other one j has risen by this much
unfoldable pub raised_value : Dictionary → ℕ → Fraction → ℕ → Fraction
raised_value d j by b = (note_of d b).value +ℚ entry_of d b j *ℚ by

-- the values of these basic variables after that, each within its bounds
pub record AreRaised (d : Dictionary) (j : ℕ) (by : Fraction) (names : List ℕ) (values : List Fraction) : Type 0 where
  pub are : values ≡ map (raised_value d j by) names
  pub within : (b : ℕ) → Contains names b → IsWithin (system_in d) (raised_value d j by) b

-- the note of w where j stands at its high bound and the basic variables have these values, by row place
unfoldable pub raised_note : Dictionary → ℕ → List Fraction → ℕ → Noted
raised_note d j values w =
    if (choice_of d).basic w then record (note_of d w) { value = slice_index_or values (place_in d.basics w) (whole (pos 0)) }
    else if w == j then record (note_of d w) { value = (note_of d w).high; at_high = true }
    else note_of d w

-- e is d where j stands at its high bound: it did so in d, or is raised to it
pub data StandsHigh (d : Dictionary) (j : ℕ) (e : Dictionary) : Type 0 where
  as_it_stood : (note_of d j).at_high ≡ true → e ≡ d → StandsHigh d j e
  as_raised : (values : List Fraction) → (note_of d j).at_high ≡ false → AreRaised d j ((note_of d j).high -ℚ (note_of d j).low) d.basics values → e ≡ noted_anew d (raised_note d j values) → StandsHigh d j e
