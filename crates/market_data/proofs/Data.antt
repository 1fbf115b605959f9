-- Reading a market's numbers.
use Rattle.std.proofs.Common.{◌≡◌, ℕ, ◌<◌, ◌^◌, ℤ, arith, w64, All, List, [], ◌∷◌, ◌++◌, length, get_or, subst, sym}
use Rattle.std.specs.Prelude.{unsigned_abs}
use Rattle.std.proofs.lemmas.Int.{ints, to_z-of_z}
use Rattle.std.proofs.lemmas.List.Elements.{All-append, All-cons, All-nil}
use Rattle.market_data.specs.Participants.{IsDatum}
use mir.Val.{SFits, to_z, of_z}

-- a datum is a signed number of 64 bits
pub datum_fits : (n : ℤ) → IsDatum n → SFits w64 n
datum_fits n h = Prim.omega (arith, ints)

-- a datum that is read from a field is still one
pub datum_read : (n : ℤ) → IsDatum n → unsigned_abs (to_z w64 (of_z w64 n)) < 2 ^ 63
datum_read n h = let e : to_z w64 (of_z w64 n) ≡ n = to_z-of_z w64 n (datum_fits n h) in subst (λ (t : ℤ). unsigned_abs t < 2 ^ 63) (sym e) h

-- what holds of each element holds of one that was read
pub All-at : {X : Type 0} (P : X → Type 0) (xs : List X) (i : ℕ) (x : X) → All P xs → i < length xs → x ≡ get_or xs i x → P x
All-at P xs i x h lt e = subst P (sym e) (h i x lt)

-- a list with one element more
pub All-push : {X : Type 0} (P : X → Type 0) (xs ys : List X) (x : X) → ys ≡ xs ++ x ∷ [] → All P xs → P x → All P ys
All-push P xs ys x e all here = subst (All P) (sym e) (All-append P xs (x ∷ []) all (All-cons P x [] here (All-nil P)))
