-- What a store in memory holds.
use Rattle.std.specs.Prelude.{◌≡◌, ◌≢◌, ℕ, ◌-◌, ◌<◌, ◌∷◌, List, [], length, Option, Some, None, is_some, ◌⊎◌, cond, if◌then◌else◌}
use Rattle.std.specs.Str.{bytes_eq}
use Rattle.outside_store.specs.Plan.{Plan}

-- each name with its bytes; how many further names there is room for; how long a name and a file may be; which calls
-- are to fail; and how many reads and writes failed
pub record HeldFiles : Type 0 where
  pub files : List (List ℕ × List ℕ)
  pub free : ℕ
  pub name_room : ℕ
  pub byte_room : ℕ
  pub plan : Plan
  pub failed_reads : ℕ
  pub failed_writes : ℕ

-- the bytes of a name
abbrev pub find : List (List ℕ × List ℕ) → List ℕ → Option (List ℕ)
find [] name = None
find (file ∷ files) name = cond (bytes_eq file.0 name) (Some file.1) (find files name)

-- the name is not there, and no place can be given to it
abbrev pub HasNoPlace : HeldFiles → List ℕ → Type 0
HasNoPlace store name = (find store.files name ≡ None) × ((store.name_room < length name) ⊎ (store.free ≡ 0))

-- there is no room for these bytes under this name
abbrev pub IsPastRoom : HeldFiles → List ℕ → List ℕ → Type 0
IsPastRoom store name bytes = (store.byte_room < length bytes) ⊎ HasNoPlace store name

-- the name has the bytes, other names have what they had, and a name that was not there took one of the free places
pub record Stores (name bytes : List ℕ) (old new : HeldFiles) : Type 0 where
  pub here : find new.files name ≡ Some bytes
  pub others : (n : List ℕ) → n ≢ name → find new.files n ≡ find old.files n
  pub free : new.free ≡ old.free - (if is_some (find old.files name) then 0 else 1)
