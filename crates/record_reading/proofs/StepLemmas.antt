-- What is known of steps that came to a value.
use Rattle.std.proofs.Common.{◌≡◌, refl, sym, Option, Some, Result, Ok, Err}
use Rattle.record_reading.specs.Steps.{and_then, some_of}

pub ok-same : {A F : Type 0} (x y : A) → ◌≡◌ {A = Result A F} (Ok x) (Ok y) → x ≡ y
ok-same x y e = Prim.cc

-- both steps came to a value
pub then-ok : {A B F : Type 0} (read : Result A F) (next : A → Result B F) (value : B) → and_then read next ≡ Ok value → (x : A) × (read ≡ Ok x) × (next x ≡ Ok value)
then-ok (Ok x) next value e = (x, refl, e)
then-ok (Err why) next value e = absurd Prim.cc

pub some-ok : {A F : Type 0} (read : Result A F) (value : Option A) → some_of read ≡ Ok value → (x : A) × (read ≡ Ok x) × (value ≡ Some x)
some-ok (Ok x) value e = (x, refl, sym (ok-same (Some x) value e))
some-ok (Err why) value e = absurd Prim.cc
