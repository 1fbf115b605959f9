-- Records that are read one after the other, each in the light of what those before it gave.
use Rattle.std.specs.Prelude.{ℕ, List, [], ◌∷◌, ◌++◌, ◌+◌, Option, Some, None, Result, Ok}
use Rattle.record_reading.specs.Records.{Record}
use Rattle.record_reading.specs.Steps.{and_then, some_of}

-- no item, or one
abbrev pub listed : {A : Type 0} → Option A → List A
listed None = []
listed (Some x) = x ∷ []

-- the items of records, behind those done and the first of the records having the number that is given, or the first fault; a
-- record gives one item or none
unfoldable pub gather : {A F : Type 0} → (List A → ℕ → Record → Result (Option A) F) → List A → ℕ → List Record → Result (List A) F
gather read done number [] = Ok done
gather read done number (r ∷ records) = and_then (read done number r) (λ x. gather read (done ++ listed x) (number + 1) records)

-- the same of records that give one item each
abbrev pub read_records : {A F : Type 0} → (List A → ℕ → Record → Result A F) → List A → ℕ → List Record → Result (List A) F
read_records read done number records = gather (λ earlier n r. some_of (read earlier n r)) done number records
