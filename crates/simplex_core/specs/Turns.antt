-- A step of the method on a dictionary.
use Rattle.std.specs.Prelude.{ℕ, pos, Bool, ◌==◌, if◌then◌else◌, map}
use Rattle.fraction_theory.specs.Fraction.{Fraction, whole, ◌+ℚ◌, ◌*ℚ◌}
use Rattle.linear_dict.specs.Dictionaries.{Dictionary, system_in, choice_of, entry_of, note_of, pivoted}
use Rattle.linear_dict.specs.Notes.{Noted}
use Rattle.linear_dict.specs.Places.{place_in}
use Rattle.simplex_theory.specs.Steps.{violated_bound, displacement}
use Rattle.simplex_core.specs.States.{state_of}

-- The note of w after v has left for a bound and k has entered, by the new table of d: a basic variable moves by its entry
-- at v times how far v moves, and the reduced price of an other one by its entry in the row of k times the price that k had.
unfoldable pub moved_note : Dictionary → ℕ → ℕ → Bool → Fraction → Fraction → Fraction → ℕ → Noted
moved_note d v k above bound far price w =
    if (choice_of d).basic w then record (note_of d w) { value = (note_of d w).value +ℚ entry_of d w v *ℚ far; reduced = whole (pos 0) }
    else record (note_of d w) {
      value = if w == v then bound else (note_of d w).value;
      reduced = (note_of d w).reduced +ℚ price *ℚ entry_of d k w;
      at_high = if w == v then above else (note_of d w).at_high;
    }

-- the dictionary with these notes of its variables
unfoldable pub noted_anew : Dictionary → (ℕ → Noted) → Dictionary
noted_anew d f = record d { notes = map f d.names }

-- the dictionary after v and k have changed places, and v has gone to the bound that it violated
unfoldable pub turned : Dictionary → ℕ → ℕ → Bool → Dictionary
turned d v k above =
    let e : Dictionary = pivoted d (place_in d.basics v) (place_in d.others k) in
    noted_anew e (moved_note e v k above (violated_bound (system_in d) v above) (displacement (system_in d) (state_of d) v above) (note_of d k).reduced)
