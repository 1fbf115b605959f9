-- Variables held by rank, and what a dictionary's notes become where it is brought back from a face.
use Rattle.std.specs.Prelude.{ℕ, Bool, if◌then◌else◌, List, Option, None, slice_index_or}
use Rattle.std.specs.Option.{option_map_or}
use Rattle.linear_dict.specs.Dictionaries.{Dictionary, note_of}
use Rattle.linear_dict.specs.Notes.{Noted}
use Rattle.linear_dict.specs.Places.{place_in, is_among}
use Rattle.optimal_face.specs.Faces.{Held}

-- what is held of these names, by their ranks: none behind the end
unfoldable pub held_by : List ℕ → List (Option Bool) → Held
held_by names held w = if is_among names w then slice_index_or held (place_in names w) None else None

-- The note of w as d has it, with the value that it has in e. Where it is held it stands at that bound, and else where it stands in e.
unfoldable pub back_note : Dictionary → Held → Dictionary → ℕ → Noted
back_note d held e w = record (note_of d w) { value = (note_of e w).value; at_high = option_map_or (λ high. high) (held w) (note_of e w).at_high }
