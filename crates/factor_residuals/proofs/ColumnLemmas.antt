-- Spots and columns, one more behind those before.
use Rattle.std.proofs.Common.{◌≡◌, ◌∙◌, ℕ, suc, ◌+◌, List, [], ◌∷◌, ◌++◌, map, sym, ap, arith, append_assoc, append-nil}
use Rattle.std.specs.List.{flat_map, AllZip}
use Rattle.std.proofs.lemmas.List.{map-append}
use Rattle.std.proofs.lemmas.Grind.{flat_map-append}
use Rattle.factor_residuals.specs.Residuals.{places_below}

pub places_more : (i : ℕ) → places_below (i + 1) ≡ places_below i ++ i ∷ []
places_more i = ap places_below (sym (suc-is i))
  where
    suc-is : (i : ℕ) → suc i ≡ i + 1
    suc-is i = omega arith

module _ {A B : Type 0} (f : A → B) where
  pub map_last : (xs : List A) (x : A) → map f xs ++ f x ∷ [] ≡ map f (xs ++ x ∷ [])
  map_last xs x = sym (map-append f xs (x ∷ []))

  -- behind some, one more
  pub behind : (before : List B) (xs : List A) (x : A) → (before ++ map f xs) ++ f x ∷ [] ≡ before ++ map f (xs ++ x ∷ [])
  behind before xs x = append_assoc before (map f xs) (f x ∷ []) ∙ ap (λ ys. before ++ ys) (map_last xs x)

pub columns_last : {A B : Type 0} (g : A → List B) (xs : List A) (x : A) → flat_map g xs ++ g x ≡ flat_map g (xs ++ x ∷ [])
columns_last g xs x = ap (λ ys. flat_map g xs ++ ys) (sym (append-nil (g x))) ∙ sym (flat_map-append g xs (x ∷ []))

pub AllZip-last : {A B : Type 0} (R : A → B → Type 0) (xs : List A) (ys : List B) (x : A) (y : B) → AllZip R xs ys → R x y → AllZip R (xs ++ x ∷ []) (ys ++ y ∷ [])
AllZip-last R [] [] x y h r = (r, tt)
AllZip-last R [] (z ∷ ys) x y h r = absurd h
AllZip-last R (w ∷ xs) [] x y h r = absurd h
AllZip-last R (w ∷ xs) (z ∷ ys) x y h r = (h.0, AllZip-last R xs ys x y h.1 r)
