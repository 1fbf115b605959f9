-- What a sink took.
use Rattle.std.specs.Prelude.{◌≡◌, ℕ, ◌≤◌, List, ◌++◌, take, Option, Some, None}
use Rattle.outside_store.specs.Causes.{Rose}

-- one count before and after a call
pub record CountFault (failed : Type 0) (before now : ℕ) : Type 0 where
  pub later : before ≤ now
  pub rose : failed → Rose before now
  pub still : ¬ failed → now ≡ before

pub record Appended (failed : Type 0) (bytes old new : List ℕ) : Type 0 where
  pub whole : ¬ failed → new ≡ old ++ bytes
  pub cut : failed → (k : ℕ) × (new ≡ old ++ take k bytes)

-- both tell or neither does: all the bytes were appended, after a failed call a prefix of them
abbrev pub Took : Type 0 → List ℕ → Option (List ℕ) → Option (List ℕ) → Type 0
Took failed bytes None None = Unit {0}
Took failed bytes None (Some new) = ⊥
Took failed bytes (Some old) None = ⊥
Took failed bytes (Some old) (Some new) = Appended failed bytes old new
