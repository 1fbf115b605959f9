-- The places of a store in memory, each with room for a name and its bytes.
use Rattle.std.specs.Prelude.{ℕ, ◌≤◌, List, map}
use Rattle.outside_store.specs.declared.named_file.NamedFile.{NamedFile}

-- a file's name and bytes
abbrev pub shown : NamedFile → List ℕ × List ℕ
shown file = (file.name.bytes, file.bytes.bytes)

-- the names and bytes of the places that are in use
abbrev pub shown_all : List NamedFile → List (List ℕ × List ℕ)
shown_all files = map shown files

-- a place has room for so long a name and so many bytes
pub record IsRoomy (name_room byte_room : ℕ) (file : NamedFile) : Type 0 where
  pub name : name_room ≤ file.name.room
  pub bytes : byte_room ≤ file.bytes.room
