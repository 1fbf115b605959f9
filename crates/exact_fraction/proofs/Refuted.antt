-- A test that answered no.
use Rattle.std.specs.Prelude.{IsTrue, false}

pub no : IsTrue false → ⊥
no h = Prim.cc
