-- Steps one after the other, of which the first fault is told.
use Rattle.std.specs.Prelude.{Bool, List, [], ◌∷◌, if◌then◌else◌, Option, Some, Result, Ok, Err}

-- the second step on the first one's value, or the first one's fault
abbrev pub and_then : {A B F : Type 0} → Result A F → (A → Result B F) → Result B F
and_then (Ok x) f = f x
and_then (Err e) f = Err e

-- the same with its fault seen as another
abbrev pub or_as : {A F G : Type 0} → (F → G) → Result A F → Result A G
or_as f (Ok x) = Ok x
or_as f (Err e) = Err (f e)

-- the same with its value as one that there is
abbrev pub some_of : {A F : Type 0} → Result A F → Result (Option A) F
some_of (Ok x) = Ok (Some x)
some_of (Err e) = Err e

-- the first of some faults that there is, or else a result; beside each fault stands whether there is it
abbrev pub checked : {A F : Type 0} → List (Bool × F) → Result A F → Result A F
checked [] result = result
checked (first ∷ others) result = if first.0 then Err first.1 else checked others result

-- no fault
abbrev pub fine : {F : Type 0} → Result (Unit {0}) F
fine = Ok tt
