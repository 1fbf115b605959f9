-- Bytes within a room that is taken when they are made.
use Rattle.std.specs.Prelude.{ℕ, List}

-- the bytes, and how many there is room for
pub record Bounded : Type 0 where
  pub bytes : List ℕ
  pub room : ℕ
